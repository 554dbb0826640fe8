-- An index made of a text's items, with premises as the code has them.
use Rattle.std.specs.Prelude.{Ok, Err}
use Rattle.clausetext.specs.declared.judge.Counts.{Counts}
use mathlib.Core.Bool.{Bool, true, false, cond}
use mathlib.Core.List.{List, [], ◌∷◌, ◌++◌, map}
use mathlib.Core.Path.{◌≡◌, refl, sym, ap, ap₂, subst, ◌∙◌}
use Prim.Native.Nat.{ℕ, zero, suc, ◌+◌, ◌-◌, ◌≤◌, ◌<◌}
use native.Mathlib.Omega.{arith}
use borrow.Author.Tests.{eqb-true}
use lib.Dec.{eqb}
use lib.ListN.{length, take, drop, replicate, length-append, length-drop, length-replicate, get_or-replicate}
use lib.Seq.{length-take-le, get_or-take, get_or-drop, take-append_seam, drop-append_seam}
use Rattle.words.specs.Fields.{kind_of, symbol_of, function_word, literal_word}
use Rattle.words.proofs.Packed.{function_kind, literal_kind}
use Rattle.clausetext.specs.Syntax.{Clause}
use Rattle.clausetext.specs.Judging.{judged}
use Rattle.clausetext.specs.Texts.{Verdict, counts, Permitted, Verdicts, long, wrong, fine}
use Rattle.clausetext.proofs.Judgement.{judged_verdict, only_verdict}
use Rattle.clausetext.proofs.OneReading.{one_reading}
use Rattle.table.specs.Limits.{Each}
use Rattle.names.specs.Numbers.{Name, first_uses, number_in}
use Rattle.names.specs.Noting.{names_at, uses_of}
use Rattle.names.proofs.Same.{no_name}
use Rattle.tptp.specs.Sketch.{Item, clauses_items}
use Rattle.tptp.specs.Shapes.{sort_kind, shape_by, fits_by}
use Rattle.tptp.specs.Said.{function_uses, predicate_uses, of_all, predicates, functions}
use Rattle.tptp.specs.Inside.{Gatherable}
use Rattle.tptp.specs.Memory.{Gathered}
use Rattle.tptp.specs.Body.{item_names, Fit, with_predicate, Below, Held, Numbered, ClauseFits, Completed}
use Rattle.tptp.proofs.Shaping.{few_parts}
use Rattle.tptp.proofs.Items.{names_of_kind, Kinds, uses_are, clauses_functions, clauses_predicates}
use Rattle.tptp.proofs.Stages.{kinds_predicates}
use Rattle.tptp.proofs.Final.{uses_few}
use Rattle.tptp.proofs.Splits.{split}
use Rattle.tptp.proofs.Answers.{within-said}
use Rattle.tptp.proofs.Calling.{file_size}
use Rattle.naming.specs.Index.{function_places, predicate_places}
use Rattle.naming.specs.Firsts.{Numbered as Right, Blank, Noted}
use Rattle.naming.specs.Noting.{Tells, Admissible, Listed, Unnamed, BothNoted}

-- the number that a word of an item has
module _ (ps fs : List Name) where
  abbrev item : ℕ → ℕ → Name → Item
  item sort parts name = record { sort = sort; parts = parts; name = name }

  function_symbol : (sort parts : ℕ) (name : Name) → fits_by sort parts ≡ true → sort_kind sort ≡ 1 → number_in fs name < 4096
      → symbol_of (with_predicate ps fs (item sort parts name)) ≡ number_in fs name
  unfolding sort_kind shape_by
  function_symbol zero parts name fit e h = absurd (omega (arith, e))
  function_symbol (suc zero) parts name fit e h =
      let few = few_parts 1 parts fit in
      let one : kind_of (function_word 0 parts) ≡ 1 = function_kind 0 parts (omega arith) (omega (arith, few)) in
      let same : kind_of (function_word 0 parts + number_in fs name) ≡ 1 = omega (arith, few, h) in
      rw (one, same) (omega (arith, few, h))
  function_symbol (suc (suc zero)) parts name fit e h = absurd (omega (arith, e))
  function_symbol (suc (suc (suc zero))) parts name fit e h = absurd (omega (arith, e))
  function_symbol (suc (suc (suc (suc n)))) parts name fit e h = absurd (omega (arith, e))

  predicate-symbol : (sort parts : ℕ) (name : Name) → fits_by sort parts ≡ true → sort_kind sort ≡ 2 → number_in ps name < 4096
      → symbol_of (with_predicate ps fs (item sort parts name)) ≡ number_in ps name
  unfolding sort_kind shape_by
  predicate-symbol zero parts name fit e h = absurd (omega (arith, e))
  predicate-symbol (suc zero) parts name fit e h = absurd (omega (arith, e))
  predicate-symbol (suc (suc zero)) parts name fit e h =
      let few = few_parts 2 parts fit in
      let two : kind_of (literal_word true 0 parts) ≡ 2 = literal_kind 0 parts (omega arith) (omega (arith, few)) true in
      rw (two, two) (omega (arith, few, h))
  predicate-symbol (suc (suc (suc zero))) parts name fit e h =
      let few = few_parts 3 parts fit in
      let two : kind_of (literal_word false 0 parts) ≡ 2 = literal_kind 0 parts (omega arith) (omega (arith, few)) false in
      rw (two, two) (omega (arith, few, h))
  predicate-symbol (suc (suc (suc (suc n)))) parts name fit e h = absurd (omega (arith, e))

  functions-right : (is : List Item) → Each Fit is → Each (Below 1 fs) is → Each (Below 2 ps) is → Right 1 fs (map (with_predicate ps fs) is) (item_names is)
  unfolding Each Right item_names Kinds
  functions-right [] a b d = tt
  functions-right (i ∷ is) a b d =
      let kind = (kinds_predicates ps fs (i ∷ []) (a.0, tt) (b.0, tt) (d.0, tt)).0 in
      (λ e. let one = sym kind ∙ e in function_symbol i.sort i.parts i.name a.0 one (b.0 one), functions-right is a.1 b.1 d.1)

  predicates-right : (is : List Item) → Each Fit is → Each (Below 1 fs) is → Each (Below 2 ps) is → Right 2 ps (map (with_predicate ps fs) is) (item_names is)
  unfolding Each Right item_names Kinds
  predicates-right [] a b d = tt
  predicates-right (i ∷ is) a b d =
      let kind = (kinds_predicates ps fs (i ∷ []) (a.0, tt) (b.0, tt) (d.0, tt)).0 in
      (λ e. let two = sym kind ∙ e in predicate-symbol i.sort i.parts i.name a.0 two (d.0 two), predicates-right is a.1 b.1 d.1)

right_by : (k : ℕ) (known : List Name) {ws vs : List ℕ} {names others : List Name} → ws ≡ vs → names ≡ others → Right k known vs others → Right k known ws names
right_by k known e f r = rw (e, f) r

-- not more names than numbers
each_named : (k : ℕ) (known : List Name) (is : List Item) → Each (Below k known) is → Each (λ (n : Name). number_in known n < 4096) (names_of_kind k is)
unfolding Each names_of_kind
each_named k known [] e = tt
each_named k known (i ∷ is) e = go (eqb (sort_kind i.sort) k) refl (each_named k known is e.1)
  where
    go : (t : Bool) → eqb (sort_kind i.sort) k ≡ t → Each (λ (n : Name). number_in known n < 4096) (names_of_kind k is)
        → Each (λ (n : Name). number_in known n < 4096) (cond t (i.name ∷ names_of_kind k is) (names_of_kind k is))
    go true q ih = (e.0 (eqb-true (sort_kind i.sort) k q), ih)
    go false q ih = ih

-- no name stands in a part of an index without names
module _ {text index : List ℕ} (u : Unnamed text index) where
  blank-functions : Blank text (function_places index)
  blank-functions n h =
      let l : n < 4096 = omega (arith, h, length-take-le 4096 index (omega (arith, u.long))) in
      rw (get_or-take 4096 index n 0 l) (u.none n (omega (arith, l)))

  blank-predicates : Blank text (predicate_places index)
  blank-predicates n h =
      let l : n < 4096 = omega (arith, h, length-take-le 4096 (drop 4096 index) (omega (arith, u.long, length-drop 4096 index))) in
      rw (get_or-take 4096 (drop 4096 index) n 0 l, get_or-drop 4096 index n 0) (u.none (4096 + n) (omega (arith, l)))

  module _ {places words index' : List ℕ} (nb : Numbered text places words) (b : BothNoted words places index index') where
    abbrev cs : List Clause
    cs = nb.said

    abbrev is : List Item
    is = clauses_items nb.said

    kinds : Kinds (map (with_predicate (predicates cs) (functions cs)) is) is
    kinds = kinds_predicates (predicates cs) (functions cs) is nb.fit nb.named nb.stated

    function_uses_lem : uses_of 1 words (names_at text places) ≡ of_all function_uses cs
    function_uses_lem =
        ap₂ (λ (ws : List ℕ) (names : List Name). uses_of 1 ws names) nb.words_are nb.names_are
        ∙ uses_are 1 (map (with_predicate (predicates cs) (functions cs)) is) is kinds
        ∙ clauses_functions cs

    predicate_uses_lem : uses_of 2 words (names_at text places) ≡ of_all predicate_uses cs
    predicate_uses_lem =
        ap₂ (λ (ws : List ℕ) (names : List Name). uses_of 2 ws names) nb.words_are nb.names_are
        ∙ uses_are 2 (map (with_predicate (predicates cs) (functions cs)) is) is kinds
        ∙ clauses_predicates cs

    functions-few : length (functions cs) ≤ 4096
    functions-few = uses_few 4096 [] (of_all function_uses cs) (omega arith) (rw (clauses_functions cs) at (each_named 1 (functions cs) is nb.named))

    predicates-few : length (predicates cs) ≤ 4096
    predicates-few = uses_few 4096 [] (of_all predicate_uses cs) (omega arith) (rw (clauses_predicates cs) at (each_named 2 (predicates cs) is nb.stated))

    tells : Tells text index' nb.said
    tells = record {
      functions = b.functions.told text (functions cs) (ap (λ (l : List Name). first_uses l) function_uses_lem)
          (right_by 1 (functions cs) nb.words_are nb.names_are (functions-right (predicates cs) (functions cs) is nb.fit nb.named nb.stated))
          (omega (arith, functions-few, length-take-le 4096 index (omega (arith, u.long)))) blank-functions;
      predicates = b.predicates.told text (predicates cs) (ap (λ (l : List Name). first_uses l) predicate_uses_lem)
          (right_by 2 (predicates cs) nb.words_are nb.names_are (predicates-right (predicates cs) (functions cs) is nb.fit nb.named nb.stated))
          (omega (arith, predicates-few, length-take-le 4096 (drop 4096 index) (omega (arith, u.long, length-drop 4096 index)))) blank-predicates;
    }

    pub all_listed : Listed text index' true
    all_listed = record { long = b.long; made = λ ds a. refl; told = λ e ds says. subst (λ (ds : List Clause). Tells text index' ds) (one_reading nb.says says) tells }

-- two parts of an index, noted one after the other
pub both_noted : {words places index : List ℕ} → length index ≡ 16896 → {a b : List ℕ} → Noted words places 1 (take 4096 index) a
    → Noted words places 2 (take 4096 (drop 4096 (a ++ drop 4096 index))) b
    → BothNoted words places index (take 4096 (a ++ drop 4096 index) ++ (b ++ drop 4096 (drop 4096 (a ++ drop 4096 index))))
both_noted {words} {places} {index} l {a} {b} f p =
    let la : length a ≡ 4096 = f.long ∙ length-take-le 4096 index (omega (arith, l)) in
    let ta : take 4096 (a ++ drop 4096 index) ≡ a = subst (λ (n : ℕ). take n (a ++ drop 4096 index) ≡ a) la (take-append_seam a (drop 4096 index)) in
    let da : drop 4096 (a ++ drop 4096 index) ≡ drop 4096 index = subst (λ (n : ℕ). drop n (a ++ drop 4096 index) ≡ drop 4096 index) la (drop-append_seam a (drop 4096 index)) in
    let p' : Noted words places 2 (take 4096 (drop 4096 index)) b = rw da at p in
    let lb : length b ≡ 4096 = p'.long ∙ length-take-le 4096 (drop 4096 index) (omega (arith, l, length-drop 4096 index)) in
    let rest = drop 4096 (drop 4096 (a ++ drop 4096 index)) in
    let whole : take 4096 (a ++ drop 4096 index) ++ (b ++ rest) ≡ a ++ (b ++ rest) = ap (λ (l : List ℕ). l ++ (b ++ rest)) ta in
    let t : take 4096 (a ++ (b ++ rest)) ≡ a = subst (λ (n : ℕ). take n (a ++ (b ++ rest)) ≡ a) la (take-append_seam a (b ++ rest)) in
    let d : drop 4096 (a ++ (b ++ rest)) ≡ b ++ rest = subst (λ (n : ℕ). drop n (a ++ (b ++ rest)) ≡ b ++ rest) la (drop-append_seam a (b ++ rest)) in
    let tb : take 4096 (b ++ rest) ≡ b = subst (λ (n : ℕ). take n (b ++ rest) ≡ b) lb (take-append_seam b rest) in
    subst (λ (i : List ℕ). BothNoted words places index i) (sym whole) (record {
      functions = rw t f;
      predicates = rw (d, tb) p';
      long = omega (arith, l, la, lb, length-append a (b ++ rest), length-append b rest, length-drop 4096 (drop 4096 (a ++ drop 4096 index)), length-drop 4096 (a ++ drop 4096 index), length-append a (drop 4096 index), length-drop 4096 index);
    })

-- no list is made of a text that is over the limits
pub unlisted : {text index : List ℕ} → length index ≡ 16896 → ((cs : List Clause) → Admissible text cs → ⊥) → Listed text index false
unlisted l none = record { long = l; made = λ cs a. absurd (none cs a); told = λ e. let z : ◌≡◌ {A = ℕ} 0 1 = cc in absurd (omega (arith, z)) }

pub over_limits : {text words : List ℕ} → Completed text words false → (cs : List Clause) → Admissible text cs → ⊥
over_limits c cs a =
    c.over refl (subst (λ (ds : List Clause). Each (ClauseFits ds) ds) (sym (one_reading c.says a.says)) (within-said cs (split cs a.one) a.fits.within))

pub too_many : {text marks places : List ℕ} → length marks ≡ length places → Held text marks places → 15996 < length marks → (cs : List Clause) → Admissible text cs → ⊥
too_many {text} {marks} {places} even held h cs a =
    let g : Gatherable text marks places (length cs) = record {
      asked = record { limited = a.limited; said = cs; says = a.says; one = a.one; count = refl };
      items = held.items ∙ ap (λ (ds : List Clause). clauses_items ds) (one_reading held.says a.says);
      even = even;
    } in
    omega (arith, h, a.fits.short, file_size g)

-- the items of a text, gathered in memory
module _ {text marks places : List ℕ} {count : ℕ} (g : Gathered text marks places count) where
  pub gathered_even : length (take (count - 0) (drop 0 marks)) ≡ length (take (count - 0) (drop 0 places))
  gathered_even =
      let z : count - 0 ≡ count = omega arith in
      rw z (length-take-le count marks (omega (arith, g.few, g.marks_long)) ∙ sym (length-take-le count places (omega (arith, g.few, g.places_long))))

  pub gathered_held : Held text (take (count - 0) (drop 0 marks)) (take (count - 0) (drop 0 places))
  gathered_held = let z : count - 0 ≡ count = omega arith in rw z (record { said = g.said; says = g.says; items = g.items })

pub cleared_unnamed : (text index : List ℕ) {end : ℕ} → end ≡ length text → length index ≡ 16896 → {index' : List ℕ} → index' ≡ replicate (length index) end → Unnamed text index'
cleared_unnamed text index {end} e l c = record {
  long = rw (c, length-replicate (length index) end) l;
  none = λ n h. rw (c, get_or-replicate (length index) n end 0 (omega (arith, h, l)), e) (no_name text (length text) (omega arith));
}

-- a permitted text
fine_permitted : {text : List ℕ} {v : Verdict} {c : Counts} → Verdicts text v → v ≡ Ok c → (length text ≤ 65536) × Permitted text
fine_permitted (long h) e = let z : ◌≡◌ {A = ℕ} 0 1 = cc in absurd (omega (arith, z))
fine_permitted (wrong h w) e = let z : ◌≡◌ {A = ℕ} 0 1 = cc in absurd (omega (arith, z))
fine_permitted (fine {cs = cs} h y) e = (h, record { said = cs; says = y })

module _ (text : List ℕ) {v : Verdict} (is : v ≡ judged text) {c : Counts} (e : v ≡ Ok c) where
  pub fine_short : length text ≤ 65536
  fine_short = (fine_permitted {text = text} (rw is (judged_verdict text)) e).0

  pub fine_said : Permitted text
  fine_said = (fine_permitted {text = text} (rw is (judged_verdict text)) e).1

-- room for the words of a body
pub items_ready : {text marks places index : List ℕ} → length marks ≡ length places → Held text marks places → Unnamed text index → length marks ≤ 15996
    → ((length marks ≡ length (take (length marks - 0) (drop 0 (replicate {A = ℕ} 15996 0)))) × (length places ≡ length (take (length marks - 0) (drop 0 (replicate {A = ℕ} 15996 0)))) × Held text marks places) × Unnamed text index
items_ready {marks = marks} e h u few =
    let z : length marks - 0 ≡ length marks = omega arith in
    let room : length (take (length marks) (replicate {A = ℕ} 15996 0)) ≡ length marks = length-take-le (length marks) (replicate {A = ℕ} 15996 0) (omega (arith, few, length-replicate {A = ℕ} 15996 0)) in
    ((rw (z, room), rw (z, room) (sym e), h), u)

-- a wrong text is none of them
pub wrong_refused : (text : List ℕ) {v : Verdict} → v ≡ judged text → {place : ℕ} → v ≡ Err place → (cs : List Clause) → Admissible text cs → ⊥
wrong_refused text {v} is {place} e cs a =
    let one : judged text ≡ counts _ _ = only_verdict (fine a.limited a.says) in
    let z : ◌≡◌ {A = ℕ} 0 1 = cc in omega (arith, z)
