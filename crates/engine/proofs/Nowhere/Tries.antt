-- Tries that can lead to nothing: first arguments that clash, and a last extension to a leaf that no reduction closes.
use mathlib.Core.Path.{◌≡◌, refl, sym, ap, ap₂, ◌∙◌}
use mathlib.Core.Bool.{Bool, true, false, cond, not, and-false}
use mathlib.Core.List.{List, [], ◌∷◌, ◌++◌, map}
use mathlib.Core.Option.{some}
use Prim.Native.Nat.{ℕ, zero, suc, ◌+◌, ◌*◌, ◌-◌, ◌/◌, ◌%◌, ◌^◌, ◌≤◌, ◌<◌}
use native.Mathlib.Omega.{arith}
use borrow.Author.Tests.{le-ltb, eqb-true, eqb-false}
use lib.Dec.{eqb}
use lib.ListN.{length, get_or, get_elem?, set, length-set}
use lib.Seq.{get_or-set_same, get_or-set_other}
use Rattle.words.specs.Fields.{kind_of, symbol_of, arity_of, variables_of, function_word, function_shaped}
use Rattle.words.proofs.Packed.{function_word_lem}
use Rattle.words.specs.declared.Step.{Step}
use Rattle.words.specs.declared.Step.TheVariants.{Reduction}
use Rattle.table.specs.Syntax.{Term, Terms, Literal, Clause, app, arity}
use Rattle.table.specs.Decode.{first, rest, clause_of}
use Rattle.rules.specs.Setting.{Setting}
use Rattle.rules.specs.Substitution.{Variable}
use Rattle.rules.specs.Tableau.{Leaf, Tableau, atom, fits, copy_of, hang}
use Rattle.rules.specs.Order.{reductions, candidates_at, candidates, all_closed}
use Rattle.rules.specs.Machinery.Unify.{Bindings, Unified, made, clash, circle, after, follow, unify, unifies}
use Rattle.rules.specs.Machinery.Play.{Play, Performed, goes_on, not_possible, clashes, circular, bound_by, perform, afterwards, plays}
use Rattle.rules.specs.Machinery.Run.{no_way, one, row}
use Rattle.rules.proofs.System.Steps.{one_fails, one_no_way, search_open, row_end}
use Rattle.rules.proofs.Lists.{All}
use Rattle.rules.proofs.Steps.{extends, done, after_entry}
use Rattle.rules.proofs.Unify.Tests.{decide}
use Rattle.rules.proofs.Unify.Laws.{unify_applied, unify_clash, unify_arity, unifies_then}
use Rattle.rules.proofs.Unify.Solution.{follow_app}
use Rattle.rules.proofs.Unify.Solution as bindings
use Rattle.unification.specs.Places.{most_copies, copies_place, start_places}
use Rattle.unification.specs.State.{start_at, copies_of, literal_at, parent_at, next_at, own_words, literal_at_reference, term_of, terms_of, bindings_in, Points}
use Rattle.unification.specs.Good.{word_at, LiteralStands}
use Rattle.unification.proofs.Atoms.{literal_atom, literal_arity, literal_ahead}
use Rattle.unification.proofs.References.{first_terms, points_fewer, points_inside, function_term, function_arity, function_shape}
use Rattle.index.specs.Scanning.{other_sign}
use Rattle.index.specs.declared.entries.Scan.{Scan}
use Rattle.tableaux.specs.Leaves.{chain, literal_of_leaf, leaf_at, leaves_from}
use Rattle.tableaux.specs.Ready.{Stands, Alike, leaf_of, rest_of, hanging_at}
use Rattle.tableaux.specs.Entering.{Enters, extension_at}
use Rattle.tableaux.specs.declared.tableau.Place.{Place}
use Rattle.tableaux.proofs.Chains.{chain_at, chain_past}
use Rattle.tableaux.proofs.Hung.{reads_stands}
use Rattle.tableaux.proofs.Literals.{ReadsOn, clause_read, clause_hanging, copy_entered, copy_others}
use Rattle.engine.specs.Searching.{table_at, setting_at, question_at, leaf_treated, Treats, Against, Allows}
use Rattle.engine.specs.Nowhere.{words_up, among, stuck_at, dead_end_by, dead_end, Opens, Parted, Vain}
use Rattle.engine.specs.declared.search.Move.TheVariants.{Reduce, Enter}
use Rattle.engine.specs.declared.search.Task.{Task}
use Rattle.engine.proofs.Performed.{chain_first, open_first, performs, reduced_to, reduction_performs, Literate, stands_literate, copy_word, copy_literate, alike_other, fits_at, fits_other}

-- a step that fails, or comes to an open leaf without candidates
abbrev Stuck : Setting → Performed → Type 0
Stuck S (goes_on q) = (all_closed q.tableau.leaves ≡ false) × (candidates S q.tableau ≡ [])
Stuck S not_possible = Unit {0}
Stuck S clashes = Unit {0}
Stuck S circular = Unit {0}

module _ (S : Setting) (p : Play) (s : Step) (depth budget : ℕ) where
  one-stuck : (o : Performed) → perform S p s ≡ o → Stuck S o → one (plays S) (suc depth) budget p s ≡ no_way budget
  unfolding afterwards
  one-stuck (goes_on q) e h =
      one_no_way (plays S) (suc depth) budget p s q (ap afterwards e) budget
      (search_open (plays S) depth budget q h.0 ∙ ap (row (plays S) depth budget q) h.1 ∙ row_end (plays S) depth budget q)
  one-stuck not_possible e h = one_fails (plays S) (suc depth) budget p s (ap afterwards e)
  one-stuck clashes e h = one_fails (plays S) (suc depth) budget p s (ap afterwards e)
  one-stuck circular e h = one_fails (plays S) (suc depth) budget p s (ap afterwards e)

stuck_bound : (S : Setting) (y : Tableau) → all_closed y.leaves ≡ false → candidates S y ≡ [] → (u : Unified) → Stuck S (bound_by y u)
unfolding bound_by
stuck_bound S y a b (made bs) = (a, b)
stuck_bound S y a b clash = tt
stuck_bound S y a b circle = tt

-- a leaf that no reduction closes, where the bound's extensions are used
none_more : (S : Setting) (used : ℕ) (l : Leaf) (ls : List Leaf) → S.bound ≤ used → reductions l.literal 1 l.branch ≡ [] → candidates_at S used (l ∷ ls) ≡ []
unfolding candidates_at
none_more S used l ls h e = rw (e, le-ltb used S.bound h, and-false (S.profile.restarts l.literal.negative), and-false (S.profile.extends l.literal.negative))

is_open : (l : Leaf) (ls : List Leaf) → all_closed (l ∷ ls) ≡ false
unfolding all_closed
is_open l ls = refl

-- no word on the way up fits, so no reduction does
module _ (f m : List ℕ) (l : Literal Variable) (w : ℕ) where
  abbrev word_of_leaf : ℕ → ℕ
  word_of_leaf c = word_at f m (literal_at m c)

  none-fits : (n head height : ℕ) → ((c : ℕ) → c < n → fits l (literal_of_leaf f m c) ≡ eqb (word_of_leaf c) w) → among w (chain word_of_leaf (parent_at m) n head) ≡ false
      → reductions l height (chain (literal_of_leaf f m) (parent_at m) n head) ≡ []
  unfolding chain reductions among
  none-fits zero head height fit e = refl
  none-fits (suc n) head height fit e = go (eqb head (suc n)) e (λ h k. none-fits n h k (λ c i. fit c (omega arith)))
    where
      here : (d : Bool) → cond d true (among w (chain word_of_leaf (parent_at m) n (parent_at m n))) ≡ false → (ss : List Step)
          → (among w (chain word_of_leaf (parent_at m) n (parent_at m n)) ≡ false → reductions l (suc height) (chain (literal_of_leaf f m) (parent_at m) n (parent_at m n)) ≡ [])
          → cond d ss (reductions l (suc height) (chain (literal_of_leaf f m) (parent_at m) n (parent_at m n))) ≡ []
      here true e ss others = let z : ◌≡◌ {A = ℕ} 0 1 = cc in absurd (omega arith)
      here false e ss others = others e

      go : (b : Bool) → among w (cond b (word_of_leaf n ∷ chain word_of_leaf (parent_at m) n (parent_at m n)) (chain word_of_leaf (parent_at m) n head)) ≡ false
          → ((h k : ℕ) → among w (chain word_of_leaf (parent_at m) n h) ≡ false → reductions l k (chain (literal_of_leaf f m) (parent_at m) n h) ≡ [])
          → reductions l height (cond b (literal_of_leaf f m n ∷ chain (literal_of_leaf f m) (parent_at m) n (parent_at m n)) (chain (literal_of_leaf f m) (parent_at m) n head)) ≡ []
      go true e others = rw (fit n (omega arith)) (here (eqb (word_of_leaf n) w) e _ (others (parent_at m n) (suc height)))
      go false e others = others head height e

chain_begin : {A : Type 0} (item : ℕ → A) (link : ℕ → ℕ) (n c : ℕ) → c < n → link c ≤ c → chain item link n (suc c) ≡ item c ∷ chain item link n (link c)
chain_begin item link n c h low =
    let k : suc c - 1 ≡ c = omega arith in
    rw k at (chain_first item link n (suc c) (omega arith) (omega arith) (rw k low))

not_among : (b : Bool) → not b ≡ true → b ≡ false
not_among true e = let z : ◌≡◌ {A = ℕ} 0 1 = cc in absurd (omega arith)
not_among false e = refl

-- terms that begin with functions or constants that differ
heads_clash : (bs : Bindings) (s t : Term Variable) {v w : ℕ} {ss ts : Terms Variable}
    → follow bs s ≡ app (symbol_of v) ss → arity ss ≡ arity_of v → function_shaped v ≡ true → v < 2 ^ 32
    → follow bs t ≡ app (symbol_of w) ts → arity ts ≡ arity_of w → function_shaped w ≡ true → w < 2 ^ 32
    → (w ≡ v → ⊥) → unify bs s t ≡ clash
heads_clash bs s t {v} {w} es av sv lv et aw sw lw other =
    decide
    (eqb (symbol_of v) (symbol_of w))
    (λ e. unify_arity bs _ _ _ _ _ _ es et (λ a. other (same (eqb-true _ _ e) (sym av ∙ a ∙ aw))))
    (λ e. unify_clash bs _ _ _ _ _ _ es et (eqb-false _ _ e))
  where
    same : symbol_of v ≡ symbol_of w → arity_of v ≡ arity_of w → w ≡ v
    same es ea =
        let a : v ≡ function_word (symbol_of v) (arity_of v) = function_word_lem v sv lv in
        let b : w ≡ function_word (symbol_of w) (arity_of w) = function_word_lem w sw lw in
        b ∙ sym (a ∙ ap₂ function_word es ea)

-- literals whose first arguments clash
firsts_clash : {f m m' : List ℕ} {l r : ℕ} → LiteralStands f m l → LiteralStands f m' r → Alike (word_at f m l) (word_at f m' r) → bindings.Good (bindings_in f m) → 0 < arity_of (word_at f m l)
    → unify (bindings_in f m) (term_of f m (l + 1)) (term_of f m' (r + 1)) ≡ clash
    → unify (bindings_in f m) (atom (literal_at_reference f m l)) (atom (literal_at_reference f m' r)) ≡ clash
unfolding after
firsts_clash {f} {m} {m'} {l} {r} sl sr alike sound filled first_clash =
    let also : 0 < arity_of (word_at f m' r) = omega (arith, filled, alike.arity) in
    let al : arity_of (word_at f m l) ≡ suc (arity_of (word_at f m l) - 1) = omega (arith, filled) in
    let ar : arity_of (word_at f m' r) ≡ suc (arity_of (word_at f m' r) - 1) = omega (arith, also) in
    let pl : Points f m (l + 1) (suc (arity_of (word_at f m l) - 1)) = points_fewer (omega (arith, filled)) (literal_ahead sl filled) in
    let pr : Points f m' (r + 1) (suc (arity_of (word_at f m' r) - 1)) = points_fewer (omega (arith, also)) (literal_ahead sr also) in
    let ls = ap (λ (k : ℕ). first k (terms_of f m (l + 1))) al ∙ first_terms pl (arity_of (word_at f m l) - 1) in
    let rs = ap (λ (k : ℕ). first k (terms_of f m' (r + 1))) ar ∙ first_terms pr (arity_of (word_at f m' r) - 1) in
    ap₂ (unify (bindings_in f m)) (literal_atom sl) (literal_atom sr)
    ∙ unify_applied (bindings_in f m) _ _ _ _ _ _ (follow_app (bindings_in f m) _ _) (follow_app (bindings_in f m) _ _) alike.predicate
    (literal_arity sl ∙ alike.arity ∙ sym (literal_arity sr))
    ∙ ap₂ (unifies (bindings_in f m)) ls rs
    ∙ unifies_then (bindings_in f m) _ _ _ _ sound
    ∙ ap (λ (u : Unified). after u (λ bs. unifies bs (first (arity_of (word_at f m l) - 1) (rest 1 (terms_of f m (l + 1)))) (first (arity_of (word_at f m' r) - 1) (rest 1 (terms_of f m' (r + 1))))))
    first_clash

-- an open leaf that no reduction closes, first among others
pub record Blocked (leaves : List Leaf) : Type 0 where
  pub leaf : Leaf
  pub others : List Leaf
  pub first : leaves ≡ leaf ∷ others
  pub closed_by_none : reductions leaf.literal 1 leaf.branch ≡ []

module _ {f m : List ℕ} {task : Task} {place : Place} (treats : Treats f m task place) (some_open : 0 < place.head) where
  leaf_noted : place.head - 1 < place.leaves
  leaf_noted = omega (arith, treats.ready.head)

  noted-literate : (c : ℕ) → c < place.leaves → Literate f m (literal_at m c)
  noted-literate c l = stands_literate f m (literal_at m c) (treats.ready.noted.stands c l)

  -- a leaf of which no ancestor's word fits
  stuck-leaf : (c : ℕ) → c < place.leaves → stuck_at f m (suc c) ≡ true → reductions (literal_of_leaf f m c) 1 (leaf_at f m c).branch ≡ []
  unfolding stuck_at
  stuck-leaf c l e =
      let up = treats.ready.noted.up c l in
      let more : c ≡ c - parent_at m c + parent_at m c = omega arith in
      let past : chain (λ c. word_at f m (literal_at m c)) (parent_at m) c (parent_at m c) ≡ words_up f m (parent_at m c) =
      ap (λ (n : ℕ). chain (λ c. word_at f m (literal_at m c)) (parent_at m) n (parent_at m c)) more
      ∙ chain_past (λ c. word_at f m (literal_at m c)) (parent_at m) (parent_at m c) (c - parent_at m c) (parent_at m c) (omega arith) in
      none-fits f m (literal_of_leaf f m c) (other_sign (word_at f m (literal_at m c))) c (parent_at m c) 1
      (λ d i. fits_at treats.asked.small (noted-literate c l) (noted-literate d (omega arith)))
      (ap (among _) past ∙ not_among _ e)

  -- an ancestor's literal whose first argument clashes with the leaf's
  module _ {literal height : ℕ} (against : Against f m place literal height) (parted : Parted f m (leaf_of m place) literal) where
    parted-clash : unify (bindings_in f m) (atom (literal_at_reference f m (leaf_of m place))) (atom (literal_at_reference f m literal)) ≡ clash
    parted-clash =
        let l = parted.left in
        let r = parted.right in
        let literate = noted-literate (place.head - 1) leaf_noted in
        firsts_clash (treats.ready.noted.stands (place.head - 1) leaf_noted) against.stands
        (alike_other (word_at f m (leaf_of m place)) (word_at f m literal) literate.shaped (treats.asked.small _) against.word)
        treats.ready.good.sound l.some
        (heads_clash (bindings_in f m) _ _ l.followed l.count l.shaped l.small r.followed r.count r.shaped r.small parted.differ)

    pub vain_parted : Vain f m task place (Reduce literal height)
    unfolding bound_by
    vain_parted =
        record {
          says = λ p stands depth budget.
              one-stuck (setting_at f task) p (Reduction height) depth budget clashes
              (reduction_performs (setting_at f task) literal treats.ready some_open p stands height against.there
              (fits_other treats.asked.small (noted-literate (place.head - 1) leaf_noted) (stands_literate f m literal against.stands) against.word)
              ∙ ap (bound_by (reduced_to f m place literal p.tableau)) parted-clash) tt;
        }

  module _ {scan : Scan} (allows : Allows f m task place (Enter scan)) where
    enters : Enters f (table_at f task) (question_at f task) scan
    enters = allows.0

    abbrev offset : ℕ
    offset = scan.at - scan.start

    entered_at : scan.start + offset ≡ scan.at
    entered_at = omega (arith, enters.later)

    few : copies_of m < most_copies
    few = omega (arith, allows.2, treats.asked.low)

    -- the work words with the copy that the extension would open
    abbrev copied : List ℕ
    copied = set (set m (start_places + copies_of m) scan.start) copies_place (copies_of m + 1)

    copied_start : start_at copied (copies_of m) ≡ scan.start
    copied_start =
        get_or-set_other (set m (start_places + copies_of m) scan.start) copies_place (start_places + copies_of m) (copies_of m + 1) 0 (λ e. omega (arith, few))
        ∙ get_or-set_same m (start_places + copies_of m) scan.start 0 (omega (arith, treats.ready.good.size, few))

    copied_more : copies_of copied ≡ copies_of m + 1
    copied_more =
        get_or-set_same (set m (start_places + copies_of m) scan.start) copies_place (copies_of m + 1) 0 (simp length-set (omega (arith, treats.ready.good.size)))

    abbrev copy_at : ℕ → Literal Variable
    copy_at o = literal_at_reference f copied (copies_of m * 256 + o)

    fitting : fits (leaf_treated f m place).literal (copy_at offset) ≡ true
    fitting =
        fits_other treats.asked.small (noted-literate (place.head - 1) leaf_noted) (copy_literate enters.literal copied (copies_of m) copied_start)
        (copy_word enters.literal copied (copies_of m) copied_start ∙ ap (λ (k : ℕ). get_or f k 0) entered_at ∙ allows.1)

    module _ (p : Play) (stands : Stands f m (question_at f task) place p.tableau p.bindings) where
      abbrev clause : Clause
      clause = clause_of (own_words f scan.start)

      abbrev grown : Tableau
      grown =
          after_entry (table_at f task) p.tableau (leaf_treated f m place) (leaves_from f m place.leaves (rest_of m place)) (scan.clauses - 1) scan.literals clause (copy_at offset)

      comes_to : perform (setting_at f task) p (extension_at scan) ≡ bound_by grown (unify (bindings_in f m) (atom (leaf_treated f m place).literal) (atom (copy_at offset)))
      comes_to =
          let literal : get_elem? (copy_of (suc p.tableau.extensions) clause) scan.literals ≡ some (copy_at offset) =
          rw stands.extensions (copy_entered enters.begins copied (copies_of m) copied_start scan.literals enters.offset) in
          let low : p.tableau.extensions < task.bound = omega (arith, stands.extensions, allows.2) in
          performs (setting_at f task) p (extension_at scan) {y = grown} (leaf_treated f m place).literal (copy_at offset) refl
          (done (extends (stands.leaves ∙ open_first treats.ready some_open) (allows.3, low) enters.clause literal fitting refl)) refl
          ∙ ap (λ bs. bound_by grown (unify bs (atom (leaf_treated f m place).literal) (atom (copy_at offset)))) stands.bindings

      grown_leaves : grown.leaves
          ≡ hang ((leaf_treated f m place).literal ∷ (leaf_treated f m place).branch) (map copy_at (hanging_at f scan.start offset)) ++ leaves_from f m place.leaves (rest_of m place)
      grown_leaves =
          rw stands.extensions
          (ap (λ (ls : List (Literal Variable)). hang ((leaf_treated f m place).literal ∷ (leaf_treated f m place).branch) ls ++ leaves_from f m place.leaves (rest_of m place))
          (sym (copy_others enters.begins copied (copies_of m) copied_start scan.literals enters.offset)))

      -- the leaf that comes first: the first literal that hangs, or the next open leaf
      blocked : (os : List ℕ) → hanging_at f scan.start offset ≡ os → dead_end_by f m place scan.start os ≡ true → Blocked grown.leaves
      unfolding hang All stuck_at dead_end_by
      blocked [] none dead = next (rest_of m place) refl dead
        where
          next : (rest : ℕ) → rest_of m place ≡ rest → stuck_at f m rest ≡ true → Blocked grown.leaves
          next zero e d = let z : ◌≡◌ {A = ℕ} 0 1 = cc in absurd (omega arith)
          next (suc c) e d =
              let low : rest_of m place ≤ place.head - 1 = treats.ready.noted.right (place.head - 1) leaf_noted in
              let l : c < place.leaves = omega (arith, treats.ready.head) in
              record {
                leaf = leaf_at f m c;
                others = leaves_from f m place.leaves (next_at m c);
                first = grown_leaves ∙ rw (none, e) (chain_begin (leaf_at f m) (next_at m) place.leaves c (omega arith) (treats.ready.noted.right c l));
                closed_by_none = stuck-leaf c l d;
              }
      blocked (o ∷ os) hung dead =
          let read : ReadsOn (variables_of (get_or f scan.start 0)) (own_words f scan.start) o = (rw hung at (clause_hanging enters.begins offset)).0 in
          let there = reads_stands {m = copied} (copies_of m) copied_start (omega (arith, copied_more)) read in
          let c : (copies_of m * 256 + o) / 256 ≡ copies_of m = omega (arith, there.0) in
          let n : (copies_of m * 256 + o) % 256 ≡ o = omega (arith, there.0) in
          let word : word_at f copied (copies_of m * 256 + o) ≡ get_or f (scan.start + o) 0 = rw (c, n, copied_start) in
          let h : place.head ≡ suc (place.head - 1) = omega arith in
          let up : chain (literal_of_leaf f m) (parent_at m) place.head place.head ≡ (leaf_treated f m place).literal ∷ (leaf_treated f m place).branch =
          ap (λ (k : ℕ). chain (literal_of_leaf f m) (parent_at m) k k) h ∙ chain_at (literal_of_leaf f m) (parent_at m) (place.head - 1) in
          record {
            leaf = record { literal = copy_at o; branch = (leaf_treated f m place).literal ∷ (leaf_treated f m place).branch };
            others = hang ((leaf_treated f m place).literal ∷ (leaf_treated f m place).branch) (map copy_at os) ++ leaves_from f m place.leaves (rest_of m place);
            first = grown_leaves ∙ rw hung;
            closed_by_none =
                ap (reductions (copy_at o) 1) (sym up)
                ∙ none-fits f m (copy_at o) (other_sign (get_or f (scan.start + o) 0)) place.head place.head 1
                (λ d i. fits_at treats.asked.small (stands_literate f copied (copies_of m * 256 + o) there.1) (noted-literate d (omega (arith, treats.ready.head)))
                ∙ ap (λ (v : ℕ). eqb (word_at f m (literal_at m d)) (other_sign v)) word)
                (not_among _ dead);
          }

      -- the last extension that the bound allows
      pub vain_end : copies_of m ≡ task.bound → dead_end f m place scan.start offset ≡ true → (depth budget : ℕ)
          → one (plays (setting_at f task)) (suc depth) budget p (extension_at scan) ≡ no_way budget
      unfolding candidates
      vain_end used dead depth budget =
          let b = blocked (hanging_at f scan.start offset) refl dead in
          one-stuck (setting_at f task) p (extension_at scan) depth budget _ comes_to
          (stuck_bound (setting_at f task) grown (ap all_closed b.first ∙ is_open b.leaf b.others)
          (ap (candidates_at (setting_at f task) grown.extensions) b.first
          ∙ none_more (setting_at f task) grown.extensions b.leaf b.others (omega (arith, stands.extensions)) b.closed_by_none)
          _)

    -- first arguments that clash
    module _ {symbol : ℕ} (opens : Opens f m (leaf_of m place) symbol) where
      abbrev leaf : ℕ
      leaf = leaf_of m place

      abbrev new : ℕ
      new = copies_of m * 256 + offset

      leaf_stands : LiteralStands f m leaf
      leaf_stands = treats.ready.noted.stands (place.head - 1) leaf_noted

      new_stands : (offset < 256) × LiteralStands f copied new
      new_stands = reads_stands {m = copied} (copies_of m) copied_start (omega (arith, copied_more)) (clause_read enters.begins scan.literals enters.offset)

      new_word : word_at f copied new ≡ get_or f scan.at 0
      new_word = copy_word enters.literal copied (copies_of m) copied_start ∙ ap (λ (k : ℕ). get_or f k 0) entered_at

      alike : Alike (word_at f m leaf) (word_at f copied new)
      alike =
          alike_other (word_at f m leaf) (word_at f copied new) (noted-literate (place.head - 1) leaf_noted).shaped (treats.asked.small _) (new_word ∙ allows.1)

      leaf_points : Points f m (leaf + 1) (suc (arity_of (word_at f m leaf) - 1))
      leaf_points = points_fewer (omega (arith, opens.some)) (literal_ahead leaf_stands opens.some)

      new_points : Points f copied (new + 1) (suc (arity_of (word_at f copied new) - 1))
      new_points =
          let some : 0 < arity_of (word_at f copied new) = omega (arith, opens.some, alike.arity) in
          points_fewer (omega (arith, some)) (literal_ahead new_stands.1 some)

      next_place : start_at copied ((new + 1) / 256) + (new + 1) % 256 ≡ scan.at + 1
      next_place =
          let small = new_points.made in
          let c : (new + 1) / 256 ≡ copies_of m = omega (arith, copied_more) in
          let n : (new + 1) % 256 ≡ offset + 1 = omega (arith, c) in
          rw (c, n, copied_start) (omega (arith, entered_at))

      pub next_inside : scan.at + 1 < length f
      next_inside =
          omega (arith, next_place, (points_inside new_points (simp length-set treats.ready.good.size) (omega (arith, copied_more, few))).within)

      next_word : word_at f copied (new + 1) ≡ get_or f (scan.at + 1) 0
      next_word = ap (λ (k : ℕ). get_or f k 0) next_place

      module _ (kind : kind_of (get_or f (scan.at + 1) 0) ≡ 1) (other : get_or f (scan.at + 1) 0 ≡ symbol → ⊥) where
        applied : kind_of (word_at f copied (new + 1)) ≡ 0 → ⊥
        applied e = omega (arith, ap kind_of next_word, kind, e)

        first_clash : unify (bindings_in f m) (term_of f m (leaf + 1)) (term_of f copied (new + 1)) ≡ clash
        first_clash =
            let right : follow (bindings_in f m) (term_of f copied (new + 1)) ≡ app (symbol_of (word_at f copied (new + 1))) (first (arity_of (word_at f copied (new + 1))) (terms_of f copied (new + 1 + 1))) =
            ap (follow (bindings_in f m)) (function_term new_points applied) ∙ follow_app (bindings_in f m) _ _ in
            heads_clash (bindings_in f m) _ _ opens.followed opens.count opens.shaped opens.small right (function_arity new_points applied) (function_shape new_points applied) (treats.asked.small _) (λ e. other (sym next_word ∙ e))

        atoms_clash : unify (bindings_in f m) (atom (literal_at_reference f m leaf)) (atom (copy_at offset)) ≡ clash
        atoms_clash = firsts_clash leaf_stands new_stands.1 alike treats.ready.good.sound opens.some first_clash

        pub vain_clash : Vain f m task place (Enter scan)
        unfolding bound_by
        vain_clash =
            record {
              says = λ p stands depth budget.
                  one-stuck (setting_at f task) p (extension_at scan) depth budget clashes (comes_to p stands ∙ ap (bound_by (grown p stands)) atoms_clash) tt;
            }
