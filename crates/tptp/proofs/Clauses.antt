-- The clauses completed one by one, with premises as the code has them.
use mathlib.Core.Bool.{Bool, true, false}
use mathlib.Core.List.{List, [], ◌∷◌, ◌++◌, append_assoc, append-nil, map, map-append}
use mathlib.Core.Path.{◌≡◌, refl, sym, ap, subst, ◌∙◌}
use Prim.Native.Nat.{ℕ, zero, suc, ◌+◌, ◌-◌, ◌*◌, ◌^◌, ◌≤◌, ◌<◌}
use native.Mathlib.Numerals.{add-one}
use native.Mathlib.Omega.{arith}
use borrow.Author.Tests.{ne_eqb}
use lib.ListN.{length, take, drop, get_or, set, length-append, length-map, length-drop, length-set, drop_of_length-le}
use lib.Seq.{drop-cons, drop-drop, drop_at, set_at, take-suc, take_at, take_all, length-take-le}
use Rattle.words.specs.Fields.{kind_of, clause_word}
use Rattle.words.proofs.Packed.{clause_kind}
use Rattle.names.specs.Numbers.{Name}
use Rattle.names.specs.Noting.{name_at, names_at}
use Rattle.table.specs.Encode.{clause_words, clauses_words, literals_words}
use Rattle.table.specs.Limits.{Each}
use Rattle.clausetext.specs.Syntax.{Term, variable, application, Terms, nil, ◌then◌, Literal, Role, role_name, Clause}
use Rattle.clausetext.specs.Tokens.{Token}
use Rattle.clausetext.specs.Grammar.{Disjunction, Formula, plain, bracketed, ClauseRule, clause, none}
use Rattle.clausetext.specs.Grammar.{Clauses as Grammatical}
use Rattle.clausetext.specs.Texts.{Says}
use Rattle.tptp.specs.Said.{predicates, functions, variables, literals_said, clause_said, clauses_said}
use Rattle.tptp.specs.Sketch.{Item, many, term_items, terms_items, literal_sort, literal_items, literals_items, clause_sort, clause_items, clauses_items}
use Rattle.tptp.specs.Shapes.{sort_kind}
use Rattle.tptp.specs.Body.{item_names, Fit, with_predicate, Below, bodies, span, part, PartNumbered, Numbered, ClauseFits, Completed}
use Rattle.tptp.proofs.Items.{Kinds}
use Rattle.tptp.proofs.Stages.{kinds_predicates}
use Rattle.tptp.proofs.Trees.{Good, each_front, each_rest, each_both}
use Rattle.tptp.proofs.Shaping.{few_parts}
use Rattle.tptp.proofs.OneClause.{clause_bare, clause_uses, clause_numbered, words_long, clause_completed, clause_within, too_many_words, too_many_variables}

-- every clause has a literal
literal_there : {ls : List Literal} {from rest : List Token} → Disjunction ls from rest → 1 ≤ length ls
literal_there (Disjunction.last r) = omega arith
literal_there (Disjunction.more r rs) = omega arith

formula_there : {ls : List Literal} {from rest : List Token} → Formula ls from rest → 1 ≤ length ls
formula_there (plain r) = literal_there r
formula_there (bracketed r) = literal_there r

abbrev Some : Clause → Type 0
Some c = 1 ≤ length c.literals

clause_there : {c : Clause} {from rest : List Token} → ClauseRule c from rest → Some c
clause_there (clause f) = formula_there f

pub each_there : {cs : List Clause} {from : List Token} → Grammatical cs from → Each Some cs
unfolding Each
each_there none = tt
each_there (Grammatical.more r rs) = (clause_there r, each_there rs)

-- names and words, item by item
names_append : (xs ys : List Item) → item_names (xs ++ ys) ≡ item_names xs ++ item_names ys
unfolding item_names
names_append [] ys = refl
names_append (x ∷ xs) ys = ap (λ (l : List Name). x.name ∷ l) (names_append xs ys)

names_count : (xs : List Item) → length (item_names xs) ≡ length xs
unfolding item_names
names_count [] = refl
names_count (x ∷ xs) = ap suc (names_count xs)

names_drop : (text : List ℕ) (n : ℕ) (places : List ℕ) → names_at text (drop n places) ≡ drop n (names_at text places)
names_drop text zero places = refl
names_drop text (suc n) [] = refl
names_drop text (suc n) (p ∷ places) = names_drop text n places

names_take : (text : List ℕ) (n : ℕ) (places : List ℕ) → names_at text (take n places) ≡ take n (names_at text places)
names_take text zero places = refl
names_take text (suc n) [] = refl
names_take text (suc n) (p ∷ places) = ap (λ (l : List Name). name_at text p ∷ l) (names_take text n places)

-- the words up to the next clause word
Inside : Item → Type 0
Inside i = sort_kind i.sort ≡ 3 → ⊥

span_past : (ws : List ℕ) (is : List Item) (more : List ℕ) → Kinds ws is → Each Inside is → span (ws ++ more) ≡ length ws + span more
unfolding span Kinds Each Inside
span_past [] [] more k e = omega arith
span_past [] (i ∷ is) more k e = absurd k
span_past (w ∷ ws) [] more k e = absurd k
span_past (w ∷ ws) (i ∷ is) more k e =
    rw (ne_eqb (kind_of w) 3 (λ z. e.0 (sym k.0 ∙ z))) (ap suc (span_past ws is more k.1 e.1) ∙ omega arith)

mutual
  unfolding term_items terms_items Each Inside sort_kind

  term_inside : (t : Term) → Each Inside (term_items t)
  term_inside (variable x) = (λ z. absurd (omega arith), tt)
  term_inside (application f ts) = (λ z. absurd (omega arith), terms_inside ts)

  terms_inside : (ts : Terms) → Each Inside (terms_items ts)
  terms_inside nil = tt
  terms_inside (t then ts) = each_both Inside (term_items t) (terms_items ts) (term_inside t) (terms_inside ts)

literal_inside : (b : Bool) (parts : ℕ) (name : Name) → Inside (record { sort = literal_sort b; parts = parts; name = name })
unfolding Inside sort_kind
literal_inside false parts name z = omega arith
literal_inside true parts name z = omega arith

all_inside : (ls : List Literal) → Each Inside (literals_items ls)
unfolding literals_items literal_items Each
all_inside [] = tt
all_inside (l ∷ ls) =
    each_both Inside (literal_items l) (literals_items ls)
    (literal_inside l.negative (many l.arguments) l.predicate, terms_inside l.arguments) (all_inside ls)

clause_few : (r : Role) (n : ℕ) (name : Name) → Fit (record { sort = clause_sort r; parts = n; name = name }) → n ≤ 7
clause_few r n name e = few_parts (clause_sort r) n e

span_none : (ps fs : List Name) (cs : List Clause) → Each Fit (clauses_items cs) → span (map (with_predicate ps fs) (clauses_items cs)) ≡ 0
unfolding clauses_items clause_items span Each
span_none ps fs [] e = refl
span_none ps fs (c ∷ cs) e =
    let n : length c.literals ≤ 7 = clause_few c.role (length c.literals) (role_name c.role) e.0 in
    let k : kind_of (clause_word false (length c.literals) 0 0) ≡ 3 = clause_kind (length c.literals) 0 0 (omega arith) (omega arith) (omega arith) false in
    rw (clause_bare ps fs c.role (length c.literals) n, k)

clauses_snoc : (ps fs : List Name) (done : List Clause) (c : Clause)
    → clauses_words (clauses_said ps fs (bodies (done ++ (c ∷ [])))) ≡ clauses_words (clauses_said ps fs (bodies done)) ++ clause_words (clause_said ps fs c.literals)
unfolding clauses_words clauses_said bodies
clauses_snoc ps fs [] c = append-nil (clause_words (clause_said ps fs c.literals))
clauses_snoc ps fs (d ∷ done) c =
    rw (clauses_snoc ps fs done c)
    (sym (append_assoc (clause_words (clause_said ps fs d.literals)) (clauses_words (clauses_said ps fs (bodies done))) (clause_words (clause_said ps fs c.literals))))

-- the clauses before a place are done; the others are as they were
pub record Completing (text places words : List ℕ) (at : ℕ) : Type 0 where
  pub said : List Clause
  pub says : Says text said
  pub done : List Clause
  pub rest : List Clause
  pub split : said ≡ done ++ rest
  pub front : take at words ≡ clauses_words (clauses_said (predicates said) (functions said) (bodies done))
  pub left : drop at words ≡ map (with_predicate (predicates said) (functions said)) (clauses_items rest)
  pub names : drop at (names_at text places) ≡ item_names (clauses_items rest)
  pub fit : Each Fit (clauses_items rest)
  pub named : Each (Below 1 (functions said)) (clauses_items rest)
  pub stated : Each (Below 2 (predicates said)) (clauses_items rest)
  pub within : Each (ClauseFits said) done
  pub some : Each Some rest
  pub reached : at ≤ length words
  pub even : length places ≡ length words

pub begin_completing : {text places words : List ℕ} → length places ≡ length words → Numbered text places words → Completing text places words 0
unfolding clauses_words clauses_said bodies Each
begin_completing even n = record {
  said = n.said;
  says = n.says;
  done = [];
  rest = n.said;
  split = refl;
  front = refl;
  left = n.words_are;
  names = n.names_are;
  fit = n.fit;
  named = n.named;
  stated = n.stated;
  within = tt;
  some = each_there n.says.clauses;
  reached = omega arith;
  even = even;
}

module _ {text places words : List ℕ} {at : ℕ} (inv : Completing text places words at) where
  -- at the end all are done
  none_left : (rest : List Clause) → drop at words ≡ map (with_predicate (predicates inv.said) (functions inv.said)) (clauses_items rest) → length words ≤ at → rest ≡ []
  unfolding clauses_items clause_items
  none_left [] e h = refl
  none_left (c ∷ cs) e h =
      let z : length (drop at words) ≡ 0 = ap (λ (l : List ℕ). length l) (drop_of_length-le words h) in
      absurd (omega (arith, z, ap (λ (l : List ℕ). length l) e))

  pub completing_end : length words ≤ at → Completed text words true
  completing_end h =
      let z : inv.rest ≡ [] = none_left inv.rest inv.left h in
      let all : inv.said ≡ inv.done = inv.split ∙ rw (z, append-nil inv.done) in
      record {
        said = inv.said;
        says = inv.says;
        written = λ e. sym (take_all at words h) ∙ inv.front ∙ ap (λ (cs : List Clause). clauses_words (clauses_said (predicates inv.said) (functions inv.said) (bodies cs))) (sym all);
        within = λ e. subst (λ (cs : List Clause). Each (ClauseFits inv.said) cs) (sym all) inv.within;
        over = λ e. let y : ◌≡◌ {A = ℕ} 0 1 = cc in absurd (omega arith);
      }

-- the clause at a place, and what comes after it
record Next (rest : List Clause) : Type 0 where
  pub this : Clause
  pub others : List Clause
  pub is : rest ≡ this ∷ others

next_of : (ps fs : List Name) (words : List ℕ) (at : ℕ) (rest : List Clause) → drop at words ≡ map (with_predicate ps fs) (clauses_items rest) → at < length words → Next rest
unfolding clauses_items
next_of ps fs words at [] e h = absurd (omega (arith, ap (λ (l : List ℕ). length l) e, length-drop at words))
next_of ps fs words at (c ∷ cs) e h = record { this = c; others = cs; is = refl }

drop_one : {A : Type 0} (xs : List A) (at : ℕ) {x : A} {ys : List A} → drop at xs ≡ x ∷ ys → drop (at + 1) xs ≡ ys
drop_one {A} xs at e = sym (drop-drop 1 at xs) ∙ ap (λ (l : List A). drop 1 l) e

head_is : (xs : List ℕ) (at : ℕ) {x : ℕ} {ys : List ℕ} → at < length xs → drop at xs ≡ x ∷ ys → get_or xs at 0 ≡ x
head_is xs at h e = let z = sym (drop-cons xs at 0 h) ∙ e in cc

module _ {text places words : List ℕ} {at : ℕ} (inv : Completing text places words at) (h : at < length words) where
  abbrev ps : List Name
  ps = predicates inv.said

  abbrev fs : List Name
  fs = functions inv.said

  next : Next inv.rest
  next = next_of ps fs words at inv.rest inv.left h

  abbrev ls : List Literal
  ls = next.this.literals

  abbrev own : Item
  own = record { sort = clause_sort next.this.role; parts = length ls; name = role_name next.this.role }

  items-here : clauses_items inv.rest ≡ own ∷ (literals_items ls ++ clauses_items next.others)
  unfolding clauses_items clause_items
  items-here = ap (λ (cs : List Clause). clauses_items cs) next.is

  abbrev after : List ℕ
  after = map (with_predicate ps fs) (clauses_items next.others)

  left_here : drop at words ≡ with_predicate ps fs own ∷ (map (with_predicate ps fs) (literals_items ls) ++ after)
  left_here =
      inv.left ∙ rw items-here (ap (λ (l : List ℕ). with_predicate ps fs own ∷ l) (map-append (with_predicate ps fs) (literals_items ls) (clauses_items next.others)))

  after-here : drop (at + 1) words ≡ map (with_predicate ps fs) (literals_items ls) ++ after
  after-here = drop_one words at left_here

  names-here : drop (at + 1) (names_at text places) ≡ item_names (literals_items ls) ++ item_names (clauses_items next.others)
  unfolding item_names
  names-here =
      drop_one (names_at text places) at {x = own.name}
      (inv.names ∙ ap (λ (is : List Item). item_names is) items-here ∙ ap (λ (l : List Name). own.name ∷ l) (names_append (literals_items ls) (clauses_items next.others)))

  good : Good ps fs (variables ls) (literals_items ls)
  unfolding Each
  good = record {
    fit = each_front Fit (literals_items ls) (clauses_items next.others) (rw items-here at inv.fit).1;
    functions = each_front (Below 1 fs) (literals_items ls) (clauses_items next.others) (rw items-here at inv.named).1;
    predicates = each_front (Below 2 ps) (literals_items ls) (clauses_items next.others) (rw items-here at inv.stated).1;
  }

  own-few : length ls ≤ 7
  unfolding Each
  own-few = clause_few next.this.role (length ls) (role_name next.this.role) (rw items-here at inv.fit).0

  rest-fit : Each Fit (clauses_items next.others)
  unfolding Each
  rest-fit = each_rest Fit (literals_items ls) (clauses_items next.others) (rw items-here at inv.fit).1

  abbrev long : ℕ
  long = length (literals_items ls)

  mapped-long : length (map (with_predicate ps fs) (literals_items ls)) ≡ long
  mapped-long = length-map (literals_items ls) (with_predicate ps fs)

  span-here : span (drop (at + 1) words) ≡ long
  span-here =
      rw after-here
      (span_past (map (with_predicate ps fs) (literals_items ls)) (literals_items ls) after
      (kinds_predicates ps fs (literals_items ls) good.fit good.functions good.predicates) (all_inside ls)
      ∙ omega (arith, mapped-long, span_none ps fs next.others rest-fit))

  room-here : at + 1 + long ≤ length words
  room-here =
      omega (arith, length-drop (at + 1) words, ap (λ (l : List ℕ). length l) after-here, length-append (map (with_predicate ps fs) (literals_items ls)) after, mapped-long)

  own_word : get_or words at 0 ≡ clause_word false (length ls) 0 0
  own_word = head_is words at h left_here ∙ clause_bare ps fs next.this.role (length ls) own-few

  pub word_low : get_or words at 0 < 4000000000
  word_low = omega (arith, own_word, own-few)

  module _ {end : ℕ} (e : end ≡ at + 1 + span (drop (at + 1) words)) where
    end_is : end ≡ at + 1 + long
    end_is = omega (arith, e, span-here)

    pub end_after : at + 1 ≤ end
    end_after = omega (arith, end_is)

    pub end_within : end ≤ length words
    end_within = omega (arith, end_is, room-here)

    fits-here : Each (ClauseFits inv.said) inv.said → ClauseFits inv.said next.this
    unfolding Each
    fits-here w =
        let all : inv.said ≡ inv.done ++ (next.this ∷ next.others) = inv.split ∙ ap (λ (l : List Clause). inv.done ++ l) next.is in
        (each_rest (ClauseFits inv.said) inv.done (next.this ∷ next.others) (subst (λ (cs : List Clause). Each (ClauseFits inv.said) cs) all w)).0

    pub over_words : 255 < end - (at + 1) → Completed text words false
    over_words g = record {
      said = inv.said;
      says = inv.says;
      written = λ z. let y : ◌≡◌ {A = ℕ} 0 1 = cc in absurd (omega arith);
      within = λ z. let y : ◌≡◌ {A = ℕ} 0 1 = cc in absurd (omega arith);
      over = λ z w. too_many_words ps fs ls good (omega (arith, end_is)) (fits-here w);
    }

    part-words : part (at + 1) end words ≡ map (with_predicate ps fs) (literals_items ls)
    part-words =
        let z : end - (at + 1) ≡ long = omega (arith, end_is) in
        rw (z, after-here) (take_at (map (with_predicate ps fs) (literals_items ls)) after long mapped-long)

    part-names : names_at text (part (at + 1) end places) ≡ item_names (literals_items ls)
    part-names =
        let z : end - (at + 1) ≡ long = omega (arith, end_is) in
        names_take text (end - (at + 1)) (drop (at + 1) places)
        ∙ rw (names_drop text (at + 1) places, z, names-here)
        (take_at (item_names (literals_items ls)) (item_names (clauses_items next.others)) long (names_count (literals_items ls)))

    module _ {words' : List ℕ} {many : ℕ} (n : PartNumbered text places words (at + 1) end words' many) where
      pub completing_falls : (v : ℕ) → length (set words' at v) - end < length words - at
      completing_falls v = omega (arith, length-set words' at v, n.long, end_is, room-here)

      pub over_variables : 16 < many → Completed text words' false
      over_variables g = record {
        said = inv.said;
        says = inv.says;
        written = λ z. let y : ◌≡◌ {A = ℕ} 0 1 = cc in absurd (omega arith);
        within = λ z. let y : ◌≡◌ {A = ℕ} 0 1 = cc in absurd (omega arith);
        over = λ z w. too_many_variables ps fs ls good (rw (part-words, part-names, clause_uses ps fs ls good) at (n.over g)) (fits-here w);
      }

      module _ (few : many ≤ 16) (short : end - (at + 1) ≤ 255) {v : ℕ} (c : v ≡ (end - (at + 1)) * 2 ^ 8 + many * 2 ^ 3 + get_or words at 0) where
        abbrev filled : List ℕ
        filled = literals_words (literals_said ps fs (variables ls) ls)

        many_is : many ≡ length (variables ls)
        many_is = rw (part-words, part-names, clause_uses ps fs ls good) at (n.within few)

        after-end : drop end words ≡ after
        after-end =
            rw (end_is, ← drop-drop long (at + 1) words, after-here) (drop_at (map (with_predicate ps fs) (literals_items ls)) after long mapped-long)

        before-long : length (take at words) ≡ at
        before-long = length-take-le at words (omega arith)

        opened-here : take (at + 1) words ≡ take at words ++ (get_or words at 0 ∷ [])
        opened-here = rw (add-one at) (take-suc words at 0 h)

        words-now : words' ≡ take at words ++ (get_or words at 0 ∷ (filled ++ after))
        words-now =
            n.numbers few
            ∙ rw (part-words, part-names, clause_numbered ps fs ls good, after-end, opened-here)
            (append_assoc (take at words) (get_or words at 0 ∷ []) (filled ++ after))

        written-now : set words' at v ≡ (take at words ++ clause_words (clause_said ps fs ls)) ++ after
        written-now =
            rw (words-now, set_at (take at words) (get_or words at 0) (filled ++ after) v at before-long)
            (ap (λ (l : List ℕ). take at words ++ (l ++ after))
            (ap (λ (x : ℕ). x ∷ filled) c ∙ clause_completed ps fs ls good own_word many_is (omega (arith, end_is)))
            ∙ sym (append_assoc (take at words) (clause_words (clause_said ps fs ls)) after))

        clause_long : length (clause_words (clause_said ps fs ls)) ≡ 1 + long
        unfolding clause_words clause_said
        clause_long = omega (arith, words_long ps fs ls good)

        front_long : length (take at words ++ clause_words (clause_said ps fs ls)) ≡ end
        front_long = length-append (take at words) (clause_words (clause_said ps fs ls)) ∙ omega (arith, before-long, clause_long, end_is)

        pub completing_on : Completing text places (set words' at v) end
        unfolding Each
        completing_on = record {
          said = inv.said;
          says = inv.says;
          done = inv.done ++ (next.this ∷ []);
          rest = next.others;
          split = inv.split ∙ ap (λ (l : List Clause). inv.done ++ l) next.is ∙ sym (append_assoc inv.done (next.this ∷ []) next.others);
          front = rw (written-now, take_at (take at words ++ clause_words (clause_said ps fs ls)) after end front_long, inv.front) (sym (clauses_snoc ps fs inv.done next.this));
          left = rw written-now (drop_at (take at words ++ clause_words (clause_said ps fs ls)) after end front_long);
          names = rw (end_is, ← drop-drop long (at + 1) (names_at text places), names-here)
              (drop_at (item_names (literals_items ls)) (item_names (clauses_items next.others)) long (names_count (literals_items ls)));
          fit = rest-fit;
          named = each_rest (Below 1 fs) (literals_items ls) (clauses_items next.others) (rw items-here at inv.named).1;
          stated = each_rest (Below 2 ps) (literals_items ls) (clauses_items next.others) (rw items-here at inv.stated).1;
          within = each_both (ClauseFits inv.said) inv.done (next.this ∷ []) inv.within
              (clause_within ps fs ls good some-here.0 own-few (omega (arith, many_is)) (omega (arith, end_is)), tt);
          some = some-here.1;
          reached = omega (arith, length-set words' at v, n.long, end_is, room-here);
          even = inv.even ∙ sym (length-set words' at v ∙ n.long);
        }
          where
            some-here : Each Some (next.this ∷ next.others)
            some-here = subst (λ (cs : List Clause). Each Some cs) next.is inv.some

pub ruleset complete_laws = (begin_completing, completing_end, word_low, end_after, end_within, over_words, over_variables, completing_on)
