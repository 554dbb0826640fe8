-- The outcomes of one step of an offered proof, one law for each, with premises as the code has them.
use mathlib.Core.Path.{◌≡◌, refl, sym, ap, ◌∙◌}
use mathlib.Core.Bool.{Bool, true, false, cond, ◌&&◌}
use mathlib.Core.List.{List, [], ◌∷◌, map}
use mathlib.Core.Option.{Option as Maybe, none, some}
use Prim.Native.Nat.{ℕ, zero, suc, ◌+◌, ◌-◌, ◌/◌, ◌≤◌, ◌<◌}
use native.Mathlib.Omega.{arith}
use borrow.Author.Tests.{eq-eqb, ne_eqb, le-ltb, eqb-true, eqb-false}
use lib.Dec.{eqb}
use lib.ListN.{length, drop, get_or, get_elem?}
use Rattle.words.specs.Fields.{bits, plain, negative_of}
use Rattle.words.specs.Steps.{step_of, step_read}
use Rattle.words.proofs.Packed.{bits_small}
use Rattle.words.specs.declared.Step.{Step}
use Rattle.words.specs.declared.Step.TheVariants as step
use Rattle.table.specs.Syntax.{Literal, literal_under, Clause, all_clauses}
use Rattle.table.specs.Decode.{clause_of}
use Rattle.table.specs.File.{judge, table_in}
use Rattle.table.proofs.AcceptedTable.{body_readable, question_start}
use Rattle.rules.specs.Setting.{Setting, profile_of, restarting, read_step}
use Rattle.rules.specs.Substitution.{Variable}
use Rattle.rules.specs.Tableau.{fresh, copy_of, fits, Leaf, Tableau, ancestor, reduced, entered, extended, may_extend, treated, stepped}
use Rattle.rules.specs.Verdict.{not_allowed}
use Rattle.rules.specs.Machinery.Play.{Play, Performed, not_possible, performed, perform, refusal}
use Rattle.rules.proofs.Lists.{none_some, map_some}
use Rattle.unification.specs.State.{copies_of, literal_at, parent_at, next_at, own_words, ClauseAt, literal_at_reference}
use Rattle.unification.specs.Good.{word_at, Inside, LiteralStands}
use Rattle.tableaux.specs.Leaves.{chain, literal_of_leaf, leaf_at, leaves_from}
use Rattle.tableaux.specs.Ready.{Ready, leaf_of, rest_of, Reducible, Reduced, Openable, Extensible, Extended, Restarted}
use Rattle.engine.specs.Performing.{Comes}
use Rattle.index.specs.Scanning.{other_sign}
use Rattle.tableaux.specs.Entering.{extension_at, literal_from, LiteralAt, Enters}
use Rattle.engine.specs.Ended.{setting_for}
use Rattle.engine.specs.declared.Conditions.{Conditions}
use Rattle.engine.specs.Checking.{Upward, lineage, above_of, judged_by, LocatedAt, Located, Moved, Moves, PlayAt, Says, read_for, restarts_leaf, Checked}
use Rattle.index.specs.declared.entries.Scan.{Scan}
use Rattle.std.specs.Prelude.{Option, Some, None, Result, Ok, Err}
use Rattle.tableaux.specs.declared.tableau.Place.{Place}
use Rattle.unification.specs.declared.unify.Unmet.{Unmet}
use Rattle.unification.specs.declared.unify.Unmet.TheVariants.{Clash, Circle}
use Rattle.engine.specs.declared.check.Refusal.{Refusal}
use Rattle.engine.specs.declared.check.Refusal.TheVariants.{Malformed, NotAllowed}
use Rattle.tableaux.proofs.Chains.{chain_at, chain_none}
use Rattle.engine.proofs.Literals.Fitting.{fits_by_word}
use Rattle.engine.proofs.Literals.Sound.{owing_arity}
use Rattle.engine.proofs.Performed.{open_first, Literate, literate_sign, stands_literate, stands_inside, copy_word, copy_literate, alike_other, Small, fits_at, fits_other, reduction_comes, extension_comes, restart_comes}
use Rattle.engine.proofs.Literals.Places.{question_placed}
use Rattle.engine.proofs.Profiles.{one_of, other_of}
use Rattle.engine.proofs.Checker.Lineage.{chain_map, chain_member}

-- a word's height is not 0, and its clause has nine bits
abbrev InWord : Step → Type 0
InWord (step.Reduction height) = 0 < height
InWord (step.Extension clause literal) = clause < 512
InWord step.Restart = Unit {0}
InWord step.Malformed = Unit {0}

in_word : (w : ℕ) → InWord (step_of w)
unfolding step_of
in_word w = go (plain 0 6 w) (plain 1 12 w) (eqb (bits 0 6 w) 0) refl
  where
    go : (a u z : Bool) → eqb (bits 0 6 w) 0 ≡ z → InWord (cond a (cond z step.Malformed (step.Reduction (bits 0 6 w))) (cond u (step.Extension (bits 0 9 w) (bits 9 3 w)) step.Malformed))
    go true u true e = tt
    go true u false e = omega (arith, eqb-false (bits 0 6 w) 0 e)
    go false true z e = bits_small 0 9 w
    go false false z e = tt

-- the reading of a run is decoding's
pub read_is : (restarts : Bool) (w : ℕ) → step_read restarts w ≡ read_step (profile_of restarts) w
read_is true w = refl
read_is false w = refl

read_in_word : (conditions : Conditions) (w : ℕ) → InWord (read_for conditions w)
read_in_word conditions w = go (restarting (profile_of conditions.restarts) && eqb w 0x80000000)
  where
    go : (b : Bool) → InWord (cond b step.Restart (step_of w))
    go true = tt
    go false = in_word w

module _ (conditions : Conditions) (w : ℕ) where
  some-height : {height : ℕ} → read_for conditions w ≡ step.Reduction height → 0 < height
  some-height e = rw e at (read_in_word conditions w)

  pub small_clause : {clause literal : ℕ} → read_for conditions w ≡ step.Extension clause literal → clause < 512
  small_clause e = rw e at (read_in_word conditions w)

  reduction-refused : {height : ℕ} → read_for conditions w ≡ step.Reduction height → refusal (read_for conditions w) ≡ not_allowed
  unfolding refusal
  reduction-refused e = rw e

  extension-refused : {clause literal : ℕ} → read_for conditions w ≡ step.Extension clause literal → refusal (read_for conditions w) ≡ not_allowed
  unfolding refusal
  extension-refused e = rw e

  restart-refused : read_for conditions w ≡ step.Restart → refusal (read_for conditions w) ≡ not_allowed
  unfolding refusal
  restart-refused e = rw e

-- steps that the rules do not allow
within_none : {A : Type 0} (b : Bool) (o : Maybe A) → o ≡ none → cond b o none ≡ none
within_none true o e = e
within_none false o e = refl

none_within : {A : Type 0} (b : Bool) (o : Maybe A) → cond (b && false) o none ≡ none
none_within true o = refl
none_within false o = refl

absent : {A B : Type 0} (h : A → B) (xs : List A) (j : ℕ) → get_elem? xs j ≡ none → get_elem? (map h xs) j ≡ none
absent h [] j e = refl
absent h (x ∷ xs) zero e = absurd (none_some (sym e))
absent h (x ∷ xs) (suc j) e = absent h xs j e

module _ (S : Setting) (x : Tableau) where
  closed_none : (s : Step) → x.leaves ≡ [] → stepped S x s ≡ none
  unfolding stepped treated
  closed_none s e = rw e

  treated-none : (ls : List Leaf) → treated S x ls step.Malformed ≡ none
  unfolding treated
  treated-none [] = refl
  treated-none (leaf ∷ rest) = refl

  malformed-none : stepped S x step.Malformed ≡ none
  unfolding stepped
  malformed-none = treated-none x.leaves

  module _ (leaf : Leaf) (rest : List Leaf) (l : x.leaves ≡ leaf ∷ rest) where
    reduction_none : (height : ℕ) → ancestor height leaf.branch ≡ none → stepped S x (step.Reduction height) ≡ none
    unfolding stepped treated reduced
    reduction_none height a = rw (l, a)

    reduction-unfit : (height : ℕ) {m : Literal Variable} → ancestor height leaf.branch ≡ some m → fits leaf.literal m ≡ false → stepped S x (step.Reduction height) ≡ none
    unfolding stepped treated reduced
    reduction-unfit height a f = rw (l, a, f)

    extension-over : (i j : ℕ) → S.bound ≤ x.extensions → stepped S x (step.Extension i j) ≡ none
    unfolding stepped treated
    extension-over i j h = rw (l, le-ltb x.extensions S.bound h) (none_within (S.profile.extends leaf.literal.negative) _)

    extension-unlet : (i j : ℕ) → S.profile.extends leaf.literal.negative ≡ false → stepped S x (step.Extension i j) ≡ none
    unfolding stepped treated
    extension-unlet i j e = rw (l, e)

    restart-over : S.bound ≤ x.extensions → stepped S x step.Restart ≡ none
    unfolding stepped treated
    restart-over h = rw (l, le-ltb x.extensions S.bound h) (none_within (S.profile.restarts leaf.literal.negative) _)

    restart-unlet : S.profile.restarts leaf.literal.negative ≡ false → stepped S x step.Restart ≡ none
    unfolding stepped treated
    restart-unlet e = rw (l, e)

    extension-unfit : (i j : ℕ) {clause : Clause} {m : Literal Variable} → get_elem? (all_clauses S.table) i ≡ some clause
        → get_elem? (copy_of (suc x.extensions) clause) j ≡ some m → fits leaf.literal m ≡ false → stepped S x (step.Extension i j) ≡ none
    unfolding stepped treated extended entered
    extension-unfit i j c a f = rw l (within_none (may_extend S x.extensions leaf) _ (rw (c, a, f)))

    extended_none : (i j : ℕ) (o : Maybe Clause) → ((c : Clause) → o ≡ some c → get_elem? c.literals j ≡ none) → extended S.table x leaf rest i j o ≡ none
    unfolding extended entered copy_of
    extended_none i j none h = refl
    extended_none i j (some c) h = rw (absent (literal_under (fresh (suc x.extensions))) c.literals j (h c refl))

    extension-none : (i j : ℕ) → ((c : Clause) → get_elem? (all_clauses S.table) i ≡ some c → get_elem? c.literals j ≡ none) → stepped S x (step.Extension i j) ≡ none
    unfolding stepped treated
    extension-none i j h =
        ap (λ (ls : List Leaf). treated S x ls (step.Extension i j)) l
        ∙ within_none (may_extend S x.extensions leaf) _ (extended_none i j (get_elem? (all_clauses S.table) i) h)

impossible : (S : Setting) (p : Play) (s : Step) → stepped S p.tableau s ≡ none → perform S p s ≡ not_possible
unfolding perform performed
impossible S p s e = rw e

module _ {f m : List ℕ} {place : Place} (conditions : Conditions) (word : ℕ) where
  pub malformed_judged : step.Malformed ≡ read_for conditions word → Checked f m m conditions place word (Err Malformed)
  unfolding refusal
  malformed_judged e =
      record { moves = tt; says = λ p s. rw (← e) (impossible (setting_for f conditions) p step.Malformed (malformed-none (setting_for f conditions) p.tableau), refl) }

  unallowed : refusal (read_for conditions word) ≡ not_allowed → ((p : Play) → PlayAt f m place p → stepped (setting_for f conditions) p.tableau (read_for conditions word) ≡ none)
      → Checked f m m conditions place word (Err NotAllowed)
  unallowed r h = record { moves = tt; says = λ p s. (impossible (setting_for f conditions) p (read_for conditions word) (h p s), r) }

  closed : refusal (read_for conditions word) ≡ not_allowed → place.head ≡ 0 → Checked f m m conditions place word (Err NotAllowed)
  closed r z =
      unallowed r
      (λ p s. closed_none (setting_for f conditions) p.tableau (read_for conditions word) (s.leaves ∙ rw z (chain_none (leaf_at f m) (next_at m) place.leaves)))

-- what was judged of a step whose pair was brought together
judged_says : (f m : List ℕ) (s : Step) (o : Performed) (taken : Result Place Unmet) → Comes f m (judge f).question taken o → Says f m s (judged_by taken) o
judged_says f m s o (Ok next) c = c
judged_says f m s o (Err Clash) c = c
judged_says f m s o (Err Circle) c = c

judged_moves : (f m m' : List ℕ) (s : Step) (place : Place) (taken : Result Place Unmet) → ((next : Place) → taken ≡ Ok next → Moved f m m' s place next) → Moves f m m' s place (judged_by taken)
judged_moves f m m' s place (Ok next) h = h next refl
judged_moves f m m' s place (Err Clash) h = tt
judged_moves f m m' s place (Err Circle) h = tt

module _ {f m m' : List ℕ} {place : Place} where
  judged : (conditions : Conditions) (word : ℕ) (taken : Result Place Unmet) {j : Result Place Refusal} → j ≡ judged_by taken → ((next : Place) → taken ≡ Ok next → Moved f m m' (read_for conditions word) place next)
      → ((p : Play) → PlayAt f m place p → Comes f m' (judge f).question taken (perform (setting_for f conditions) p (read_for conditions word)))
      → Checked f m m' conditions place word j
  judged conditions word taken e h c =
      rw e (record { moves = judged_moves f m m' (read_for conditions word) place taken h; says = λ p s. judged_says f m' (read_for conditions word) (perform (setting_for f conditions) p (read_for conditions word)) taken (c p s) })

-- the leftmost leaf, and the ancestor at a height by the references from the leaf up
module _ {f m : List ℕ} {place : Place} (ready : Ready f m place) (n : place.head ≡ 0 → ⊥) where
  abbrev leaf : Leaf
  leaf = leaf_at f m (place.head - 1)

  abbrev right : List Leaf
  right = leaves_from f m place.leaves (rest_of m place)

  first_leaf : (p : Play) → PlayAt f m place p → p.tableau.leaves ≡ leaf ∷ right
  first_leaf p s = s.leaves ∙ open_first ready (omega arith)

  abbrev references : List ℕ
  references = chain (literal_at m) (parent_at m) (place.head - 1) (parent_at m (place.head - 1))

  lineage-first : lineage m place.head ≡ literal_at m (place.head - 1) ∷ references
  lineage-first =
      let here : place.head ≡ suc (place.head - 1) = omega arith in
      ap (λ (k : ℕ). lineage m k) here ∙ chain_at (literal_at m) (parent_at m) (place.head - 1)

  branch-references : leaf.branch ≡ map (literal_at_reference f m) references
  branch-references = chain_map (literal_at_reference f m) (literal_at m) (parent_at m) (place.head - 1) (parent_at m (place.head - 1))

  missing : (o : Maybe ℕ) → None ≡ above_of o → o ≡ none
  missing none e = refl
  missing (some r) e = cc

  found : (o : Maybe ℕ) {r : ℕ} → Some r ≡ above_of o → o ≡ some r
  found none e = cc
  found (some q) e = cc

  above_none : (height : ℕ) → 0 < height → None ≡ above_of (get_elem? (lineage m place.head) height) → ancestor height leaf.branch ≡ none
  unfolding ancestor
  above_none zero h a = absurd (omega arith)
  above_none (suc k) h a =
      let gone : get_elem? references k ≡ none = rw lineage-first at (missing (get_elem? (lineage m place.head) (suc k)) a) in
      rw branch-references (absent (literal_at_reference f m) references k gone)

  above-some : (height : ℕ) → 0 < height → {r : ℕ} → Some r ≡ above_of (get_elem? (lineage m place.head) height) → ancestor height leaf.branch ≡ some (literal_at_reference f m r)
  unfolding ancestor
  above-some zero h a = absurd (omega arith)
  above-some (suc k) h {r} a =
      let there : get_elem? references k ≡ some r = rw lineage-first at (found (get_elem? (lineage m place.head) (suc k)) a) in
      rw branch-references (map_some (literal_at_reference f m) references k there)

  pub leaf_stands : LiteralStands f m (leaf_of m place)
  leaf_stands = ready.noted.stands (place.head - 1) (omega (arith, ready.head))

  above-stands : (height : ℕ) {r : ℕ} → Some r ≡ above_of (get_elem? (lineage m place.head) height) → LiteralStands f m r
  above-stands height a =
      let from = chain_member (literal_at m) (parent_at m) place.head place.head height (found (get_elem? (lineage m place.head) height) a) in
      rw from.2 at (ready.noted.stands from.0 (omega (arith, from.1, ready.head)))

-- what the rules let be done with it
pub leaf_let : {f m : List ℕ} {place : Place} (ready : Ready f m place) (n : place.head ≡ 0 → ⊥) (conditions : Conditions)
    → restarts_leaf f m conditions place ≡ (profile_of conditions.restarts).restarts (leaf ready n).literal.negative
leaf_let {f} {m} {place} ready n conditions = rw (ne_eqb place.head 0 n)

leaf_there : (f m : List ℕ) (conditions : Conditions) (place : Place) → restarts_leaf f m conditions place ≡ true → place.head ≡ 0 → ⊥
leaf_there f m conditions place e z = let k = rw (eq-eqb place.head 0 z) at e in let y : ◌≡◌ {A = ℕ} 0 1 = cc in omega arith

pub ready_upward : {f m : List ℕ} {place : Place} → Ready f m place → Upward m place.head
ready_upward ready c h = ready.noted.up c (omega (arith, ready.head))

-- a reduction
module _ {f m : List ℕ} {place : Place} (ready : Ready f m place) (word height : ℕ) where
  pub reduce_closed : place.head ≡ 0 → (conditions : Conditions) → read_for conditions word ≡ step.Reduction height → Checked f m m conditions place word (Err NotAllowed)
  reduce_closed z conditions s = closed conditions word (reduction-refused conditions word s) z

  module _ (n : place.head ≡ 0 → ⊥) {a : Option ℕ} (e : a ≡ above_of (get_elem? (lineage m place.head) height)) where
    pub reduce_missing : a ≡ None → (conditions : Conditions) → read_for conditions word ≡ step.Reduction height → Checked f m m conditions place word (Err NotAllowed)
    reduce_missing z conditions s =
        unallowed conditions word (reduction-refused conditions word s)
        (λ p st. rw s (reduction_none (setting_for f conditions) p.tableau (leaf ready n) (right ready n) (first_leaf ready n p st) height (above_none ready n height (some-height conditions word s) (sym z ∙ e))))

    module _ {r : ℕ} (g : a ≡ Some r) where
      other-stands : LiteralStands f m r
      other-stands = above-stands ready n height (sym g ∙ e)

      pub reduce_reads : Inside f m r
      reduce_reads = stands_inside f m r ready.good other-stands

      module _ (small : Small f) {v w : ℕ} (ev : v ≡ word_at f m r) (ew : w ≡ other_sign (word_at f m (leaf_of m place))) where
        pub reduce_unfit : (v ≡ w → ⊥) → (conditions : Conditions) → read_for conditions word ≡ step.Reduction height → Checked f m m conditions place word (Err NotAllowed)
        reduce_unfit d conditions s =
            let apart = fits_at small (stands_literate f m _ (leaf_stands ready n)) (stands_literate f m r other-stands) ∙ ne_eqb _ _ (λ q. d (ev ∙ q ∙ sym ew)) in
            unallowed conditions word (reduction-refused conditions word s)
            (λ p st. rw s (reduction-unfit (setting_for f conditions) p.tableau (leaf ready n) (right ready n) (first_leaf ready n p st) height (above-some ready n height (some-height conditions word s) (sym g ∙ e)) apart))

        module _ (d : v ≡ w) where
          other_sign_lem : word_at f m r ≡ other_sign (word_at f m (leaf_of m place))
          other_sign_lem = sym ev ∙ d ∙ ew

          pub reduce_allowed : Reducible f m place r
          reduce_allowed =
              record {
                ready = ready;
                some_open = omega arith;
                stands = other-stands;
                alike = alike_other _ _ (stands_literate f m _ (leaf_stands ready n)).shaped (small _) other_sign_lem;
              }

          pub reduce_judged : {m' : List ℕ} {taken : Result Place Unmet} → Reduced f m m' place r word taken → {j : Result Place Refusal} → j ≡ judged_by taken
              → (conditions : Conditions) → read_for conditions word ≡ step.Reduction height → Checked f m m' conditions place word j
          reduce_judged {m'} {taken} h ej conditions s =
              let fitting = fits_other small (stands_literate f m _ (leaf_stands ready n)) (stands_literate f m r other-stands) other_sign_lem in
              let there = above-some ready n height (some-height conditions word s) (sym g ∙ e) in
              judged conditions word taken ej
              (λ next o. rw (h.leads next o) (record { ready = h.ready; steps = refl; later = h.stepping.later; copies = rw s h.copies }))
              (λ p st. rw s (reduction_comes (setting_for f conditions) ready (omega arith) h p st height there fitting))

-- the leaf's word can be read
module _ {f m : List ℕ} {place : Place} (ready : Ready f m place) where
  pub leaf_reads : 0 < place.head → {r : ℕ} → r ≡ leaf_of m place → Inside f m r
  leaf_reads h e = rw e (stands_inside f m (leaf_of m place) ready.good (leaf_stands ready (λ z. omega arith)))

short : (f : List ℕ) → length f - 4 ≤ length f
short f = omega arith

-- an extension
module _ {f m : List ℕ} {place : Place} (ready : Ready f m place) (conditions : Conditions) (word : ℕ) {clause literal : ℕ} (s : read_for conditions word ≡ step.Extension clause literal) where
  pub extend_closed : place.head ≡ 0 → Checked f m m conditions place word (Err NotAllowed)
  extend_closed z = closed conditions word (extension-refused conditions word s) z

  module _ (n : place.head ≡ 0 → ⊥) where
    pub extend_over : conditions.bound < copies_of m → Checked f m m conditions place word (Err NotAllowed)
    extend_over h =
        unallowed conditions word (extension-refused conditions word s)
        (λ p st. rw s (extension-over (setting_for f conditions) p.tableau (leaf ready n) (right ready n) (first_leaf ready n p st) clause literal (omega (arith, st.extensions))))

    module _ (q : Option Scan) (h : Located f clause literal q) where
      pub extend_missing : q ≡ None → Checked f m m conditions place word (Err NotAllowed)
      extend_missing e =
          let gone : (c : Clause) → get_elem? (all_clauses (table_in f)) clause ≡ some c → get_elem? c.literals literal ≡ none = rw e at h in
          unallowed conditions word (extension-refused conditions word s)
          (λ p st. rw s (extension-none (setting_for f conditions) p.tableau (leaf ready n) (right ready n) (first_leaf ready n p st) clause literal gone))

      module _ {scan : Scan} (g : q ≡ Some scan) where
        entry : LocatedAt f clause literal scan
        entry = rw g at h

        scan_enters : Enters f (table_in f) (judge f).question scan
        scan_enters = entry.enters

        scan-number : scan.clauses - 1 ≡ clause
        scan-number = omega (arith, entry.clauses)

        scan-literal : LiteralAt f scan.start literal (scan.at - scan.start)
        scan-literal = rw entry.literals at scan_enters.literal

        scan-clause : get_elem? (all_clauses (table_in f)) clause ≡ some (clause_of (own_words f scan.start))
        scan-clause = rw scan-number at scan_enters.clause

        scan_step : read_for conditions word ≡ extension_at scan
        scan_step = rw (scan-number, entry.literals) s

        pub extend_later : scan.start ≤ scan.at
        extend_later = omega (arith, scan_enters.later)

        pub extend_reads : {i : ℕ} → i ≡ scan.at → i < length f
        extend_reads e = omega (arith, scan-literal.inside, extend_later)

        module _ (small : Small f) {i w : ℕ} (ei : i ≡ scan.at) (ew : w ≡ other_sign (word_at f m (leaf_of m place))) where
          leaf_literate : Literate f m (leaf_of m place)
          leaf_literate = stands_literate f m (leaf_of m place) (leaf_stands ready n)

          scan-word : get_or f (scan.start + (scan.at - scan.start)) 0 ≡ get_or f i 0
          scan-word = let same : scan.start + (scan.at - scan.start) ≡ i = omega (arith, extend_later) in rw same

          abbrev entered_literal : ℕ → Literal Variable
          entered_literal copy = literal_under (fresh copy) (literal_from (drop (scan.at - scan.start) (own_words f scan.start)))

          fits-scan : (copy : ℕ) → fits (literal_of_leaf f m (place.head - 1)) (entered_literal copy) ≡ eqb (get_or f i 0) (other_sign (word_at f m (leaf_of m place)))
          unfolding literal_at_reference
          fits-scan copy =
              rw (leaf_literate.word, scan-literal.word)
              (fits_by_word (word_at f m (leaf_of m place)) leaf_literate.shaped (small _) (get_or f (scan.start + (scan.at - scan.start)) 0) scan-literal.shaped (small _)
              (fresh (leaf_of m place / 256)) (fresh copy) _ _ (owing_arity leaf_literate.owing) (owing_arity scan-literal.owing) ∙ rw scan-word)

          pub extend_unfit : (get_or f i 0 ≡ w → ⊥) → Checked f m m conditions place word (Err NotAllowed)
          unfolding copy_of
          extend_unfit d =
              unallowed conditions word (extension-refused conditions word s)
              (λ p st.
              let copy : ℕ = suc p.tableau.extensions in
              let there = map_some (literal_under (fresh copy)) (clause_of (own_words f scan.start)).literals literal scan-literal.literal in
              let apart = fits-scan copy ∙ ne_eqb (get_or f i 0) (other_sign (word_at f m (leaf_of m place))) (λ e. d (e ∙ sym ew)) in
              rw s (extension-unfit (setting_for f conditions) p.tableau (leaf ready n) (right ready n) (first_leaf ready n p st) clause literal scan-clause there apart))

          module _ (few : copies_of m ≤ conditions.bound) (d : get_or f i 0 ≡ w) where
            entered-sign : get_or f (scan.start + (scan.at - scan.start)) 0 ≡ other_sign (word_at f m (leaf_of m place))
            entered-sign = scan-word ∙ d ∙ ew

            pub extend_allowed : conditions.bound ≤ 32 → Extensible f m place scan.start (scan.at - scan.start)
            extend_allowed most =
                record {
                  openable = record { ready = ready; some_open = omega arith; copies = omega arith; clause = scan_enters.begins };
                  number = scan.literals;
                  entered = scan_enters.offset;
                  alike = alike_other _ _ leaf_literate.shaped (small _) entered-sign;
                }

            pub extend_judged : restarts_leaf f m conditions place ≡ false → {m' : List ℕ} {taken : Result Place Unmet} → Extended f m m' place scan.start (scan.at - scan.start) word taken
                → {j : Result Place Refusal} → j ≡ judged_by taken → Checked f m m' conditions place word j
            extend_judged let-so {m'} {taken} x ej =
                let literate = copy_literate scan-literal m' (copies_of m) x.copied.starts in
                let fitting = fits_other small leaf_literate literate (copy_word scan-literal m' (copies_of m) x.copied.starts ∙ entered-sign) in
                let may = one_of conditions.restarts (leaf ready n).literal.negative (sym (leaf_let ready n conditions) ∙ let-so) in
                judged conditions word taken ej
                (λ next o. record { ready = (x.hung next o).ready; steps = (x.hung next o).steps; later = x.copied.stepping.later; copies = rw (s, x.copied.starts) (x.copied.copies, scan-clause) })
                (λ p st. rw scan_step (extension_comes (setting_for f conditions) ready (omega arith) scan scan_enters x p st (may, omega (arith, st.extensions)) fitting))

-- whether the leaf is restarted, with premises as the code has them
module _ {f m : List ℕ} {place : Place} (ready : Ready f m place) (conditions : Conditions) where
  pub leaf_none : place.head ≡ 0 → false ≡ restarts_leaf f m conditions place
  leaf_none z = rw (eq-eqb place.head 0 z)

  module _ (n : place.head ≡ 0 → ⊥) {literal word : ℕ} (el : literal ≡ leaf_of m place) (ew : word ≡ word_at f m literal) where
    pub leaf_told : {q : Bool} → q ≡ (profile_of conditions.restarts).restarts (negative_of word) → q ≡ restarts_leaf f m conditions place
    leaf_told eq =
        let sign : (leaf ready n).literal.negative ≡ negative_of word = literate_sign (stands_literate f m (leaf_of m place) (leaf_stands ready n)) ∙ ap (λ (r : ℕ). negative_of (word_at f m r)) (sym el) ∙ ap negative_of (sym ew) in
        eq ∙ ap (λ (b : Bool). (profile_of conditions.restarts).restarts b) (sym sign) ∙ sym (leaf_let ready n conditions)

-- an extension of a leaf that is restarted
module _ {f m : List ℕ} {place : Place} (ready : Ready f m place) (conditions : Conditions) (word : ℕ) where
  pub extend_unlet : {clause literal : ℕ} → read_for conditions word ≡ step.Extension clause literal → restarts_leaf f m conditions place ≡ true → Checked f m m conditions place word (Err NotAllowed)
  extend_unlet {clause} {literal} s e =
      let n = leaf_there f m conditions place e in
      let may = other_of conditions.restarts (leaf ready n).literal.negative (sym (leaf_let ready n conditions) ∙ e) in
      unallowed conditions word (extension-refused conditions word s)
      (λ p st. rw s (extension-unlet (setting_for f conditions) p.tableau (leaf ready n) (right ready n) (first_leaf ready n p st) clause literal may))

  -- a restart
  module _ (s : read_for conditions word ≡ step.Restart) where
    pub restart_unlet_judged : restarts_leaf f m conditions place ≡ false → Checked f m m conditions place word (Err NotAllowed)
    restart_unlet_judged e = go (eqb place.head 0) refl
      where
        go : (b : Bool) → eqb place.head 0 ≡ b → Checked f m m conditions place word (Err NotAllowed)
        go true z = closed conditions word (restart-refused conditions word s) (eqb-true place.head 0 z)
        go false z =
            let n = eqb-false place.head 0 z in
            unallowed conditions word (restart-refused conditions word s)
            (λ p st. rw s (restart-unlet (setting_for f conditions) p.tableau (leaf ready n) (right ready n) (first_leaf ready n p st) (sym (leaf_let ready n conditions) ∙ e)))

    module _ (e : restarts_leaf f m conditions place ≡ true) where
      there : place.head ≡ 0 → ⊥
      there = leaf_there f m conditions place e

      pub restart_over_judged : conditions.bound < copies_of m → Checked f m m conditions place word (Err NotAllowed)
      restart_over_judged h =
          unallowed conditions word (restart-refused conditions word s)
          (λ p st. rw s (restart-over (setting_for f conditions) p.tableau (leaf ready there) (right ready there) (first_leaf ready there p st) (omega (arith, st.extensions))))

      module _ (few : copies_of m ≤ conditions.bound) (accepts : (judge f).status ≡ 0) {question : ℕ} (eq : question ≡ (judge f).question) where
        placed : ClauseAt f question × ((table_in f).question ≡ clause_of (own_words f question))
        placed =
            let last = question_placed f (length f - 4) (short f) (body_readable f accepts) in
            rw (eq, ← question_start f accepts) (last.0, sym last.1)

        pub restart_openable : conditions.bound ≤ 32 → Openable f m place question
        restart_openable most = let h = there in record { ready = ready; some_open = omega arith; copies = omega arith; clause = placed.0 }

        pub restart_judged : {m' : List ℕ} {next : Place} → Restarted f m m' place question word next → Checked f m m' conditions place word (Ok next)
        restart_judged {m'} {next} x =
            let h = there in
            let may = sym (leaf_let ready h conditions) ∙ e in
            record {
              moves = record { ready = x.hung.ready; steps = x.hung.steps; later = x.copied.stepping.later; copies = rw (s, x.copied.starts) (x.copied.copies, placed.1) };
              says = λ p st. rw (s, ← eq) (restart_comes (setting_for f conditions) ready (omega arith) placed.0 placed.1 x p (rw eq st) (may, omega (arith, st.extensions)));
            }
