-- How the stated order goes on the desk's table: the rules' own relation `Searched` is built for it, record by record, with its tries.
use lib.Dec.{eqb}
use lib.ListN.{length, length-append, length-map, get_elem?}
use mathlib.Core.Bool.{Bool, true, false, cond, ◌&&◌, ◌||◌}
use mathlib.Core.List.{List, [], ◌∷◌, ◌++◌, map, append_assoc}
use mathlib.Core.Option.{some}
use mathlib.Core.Path.{◌≡◌, refl, sym, ◌∙◌, ap, ap₂, subst}
use native.Mathlib.Omega.{arith}
use Prim.Native.Nat.{ℕ, suc, ◌+◌}
use Rattle.words.specs.declared.Step.{Step}
use Rattle.words.specs.declared.Step.TheVariants.{Reduction, Extension}
use Rattle.table.specs.Syntax.{Term, var, arity, under, Literal, literal_under, Clause, Table, all_clauses}
use Rattle.rules.specs.Substitution.{Variable, Substitution, Pair, Solves, Unifiable}
use Rattle.rules.specs.Tableau.{fresh, copy_of, fits, Leaf, Tableau, hang, start, ancestor, others, closing, after_reduction, reduced, questions_with, after_extension, entered, extended, treated, stepped}
use Rattle.rules.specs.Tableau
use Rattle.rules.specs.Setting.{base}
use Rattle.rules.specs.Order.{reductions, entries, extensions, candidates_at, candidates, all_closed, stated, Ending, found, nothing, Searched}
use Rattle.rules.specs.System.{Tried, arrived, looked, none_left, failed, finds, in_vain_is}
use Rattle.desk.specs.Records.{Record}
use Rattle.desk.specs.declared.Slot.{Slot}
use Rattle.desk.specs.declared.Slot.TheVariants.{Matinee as matinee, Evening as evening, Either as either}
use Rattle.desk.specs.Desk.{same_slot, is_of, named, settles, taken, spent, tries_for}
use Rattle.desk.specs.Clauses.{constant, at_literal, the_matinee, the_evening, alternatives, clause_for, asked_slot, question, desk_table}
use Rattle.desk.specs.Asking.{settled_by}
use Rattle.desk.proofs.Looking.{is_of_lem, is_not_of}
use Rattle.desk.proofs.Meeting.{meets, meeting, same_constant}

-- the bound of the desk's questions is 2
abbrev Trying : Table → Tableau → List Step → Ending → ℕ → Type 0
Trying t x ss e n = Tried (stated (base t 2)) x ss e n

abbrev pub Search : Table → Tableau → Ending → ℕ → Type 0
Search t x e n = Searched (base t 2) x e n

abbrev after : Table → Tableau → Step → Tableau → Type 0
after t x s y = stepped (base t 2) x s ≡ some y

-- no leaf is open, or there is one to treat
closed : (t : Table) (x : Tableau) → x.leaves ≡ [] → Search t x (found []) 0
unfolding all_closed
closed t x e = arrived {s = x} (rw e)

treating : (t : Table) (x : Tableau) {leaf : Leaf} {rest : List Leaf} {e : Ending} {n : ℕ} → x.leaves ≡ leaf ∷ rest
    → Trying t x (candidates (base t 2) x) e n → Search t x e n
unfolding all_closed
treating t x h tried = looked {s = x} (rw h) tried

-- an ending with steps found, or with none
abbrev pub Ends : Bool → Ending → Type 0
Ends true (found steps) = Unit {0}
Ends true nothing = ⊥
Ends false (found steps) = ⊥
Ends false nothing = Unit {0}

record Goes (t : Table) (x : Tableau) (ss : List Step) (b : Bool) (n : ℕ) : Type 0 where
  ending : Ending
  tried : Trying t x ss ending n
  so : Ends b ending

counted : {t : Table} {x : Tableau} {ss : List Step} {b : Bool} {m n : ℕ} → Goes t x ss b m → m ≡ n → Goes t x ss b n
counted {t} {x} {ss} {b} g e = subst (λ (k : ℕ). Goes t x ss b k) e g

module _ {t : Table} {x y : Tableau} {s : Step} {ss : List Step} where
  passing : {b : Bool} {n : ℕ} → after t x s y → ¬ Unifiable y.pairs → Goes t x ss b n → Goes t x (s ∷ ss) b (suc n)
  passing e u g = record { ending = g.ending; tried = failed (y, e, u) g.tried; so = g.so }

  failing : {b : Bool} {m n : ℕ} → after t x s y → Unifiable y.pairs → Search t y nothing m → Goes t x ss b n → Goes t x (s ∷ ss) b (suc (m + n))
  failing e u d g = record { ending = g.ending; tried = in_vain_is (e, u) d g.tried; so = g.so }

  succeeding : {steps : List Step} {n : ℕ} → after t x s y → Unifiable y.pairs → Search t y (found steps) n → Goes t x (s ∷ ss) true (suc n)
  succeeding {steps} e u d = record { ending = found (s ∷ steps); tried = finds (e, u) d; so = tt }

-- a copy of what is asked, the start, and the step into a clause's literal
abbrev asking : ℕ → ℕ → Slot → ℕ → Literal Variable
asking day house asked copy = at_literal true day house (under (fresh copy) (asked_slot asked))

abbrev asked_leaf : ℕ → ℕ → Slot → Leaf
asked_leaf day house asked = record { literal = asking day house asked 0; branch = [] }

abbrev begun : ℕ → ℕ → Slot → Tableau
begun day house asked = record { leaves = asked_leaf day house asked ∷ []; pairs = []; extensions = 0; questions = 0 ∷ [] }

start_is : (rs : List Record) (day house : ℕ) (asked : Slot) → start (desk_table rs day house asked) ≡ begun day house asked
unfolding start hang copy_of literal_under under desk_table question
start_is rs day house asked = refl

abbrev entering : Table → ℕ → ℕ → Slot → ℕ → ℕ → List (Literal Variable) → Literal Variable → Tableau
entering t day house asked i j copy m =
    after_extension (begun day house asked) (asked_leaf day house asked) [] (questions_with t i 1 (0 ∷ [])) j copy m

enter : (t : Table) (day house : ℕ) (asked : Slot) (i j : ℕ) (c : Clause) (m : Literal Variable) → get_elem? (all_clauses t) i ≡ some c
    → get_elem? (copy_of 1 c) j ≡ some m → fits (asking day house asked 0) m ≡ true
    → after t (begun day house asked) (Extension i j) (entering t day house asked i j (copy_of 1 c) m)
unfolding stepped treated extended entered
enter t day house asked i j c m e f g = rw (e, f, g)

-- a record's clause as it is entered first
abbrev clause_of : ℕ → ℕ → Slot → Clause
clause_of d h s = clause_for (record { day = d; house = h; slot = s })

abbrev literals_of : ℕ → ℕ → Slot → List (Literal Variable)
literals_of d h s = copy_of 1 (clause_of d h s)

-- the steps into it, one for each slot that it names
abbrev steps_into : ℕ → Slot → List Step → List Step
steps_into i matinee later = Extension i 0 ∷ later
steps_into i evening later = Extension i 0 ∷ later
steps_into i either later = Extension i 0 ∷ Extension i 1 ∷ later

steps_are : (day house : ℕ) (asked : Slot) (i d h : ℕ) (s : Slot) (later : List Step)
    → entries (asking day house asked 0) i 0 (literals_of d h s) ++ later ≡ steps_into i s later
unfolding entries fits copy_of literal_under under arity clause_for alternatives
steps_are day house asked i d h matinee later = refl
steps_are day house asked i d h evening later = refl
steps_are day house asked i d h either later = refl

module _ (t : Table) (day house : ℕ) (asked : Slot) (i : ℕ) where
  -- the slot that a literal of the clause names, and the tableau after it was entered
  abbrev first_slot : Slot → Term Variable
  first_slot matinee = the_matinee
  first_slot evening = the_evening
  first_slot either = the_matinee

  enter-first : (d h : ℕ) (s : Slot) → get_elem? (all_clauses t) i ≡ some (clause_of d h s)
      → after t (begun day house asked) (Extension i 0) (entering t day house asked i 0 (literals_of d h s) (at_literal false d h (first_slot s)))
  unfolding fits copy_of literal_under under arity clause_for alternatives
  enter-first d h matinee e = enter t day house asked i 0 (clause_of d h matinee) _ e refl refl
  enter-first d h evening e = enter t day house asked i 0 (clause_of d h evening) _ e refl refl
  enter-first d h either e = enter t day house asked i 0 (clause_of d h either) _ e refl refl

  enter-second : (d h : ℕ) → get_elem? (all_clauses t) i ≡ some (clause_of d h either)
      → after t (begun day house asked) (Extension i 1) (entering t day house asked i 1 (literals_of d h either) (at_literal false d h the_evening))
  unfolding fits copy_of literal_under under arity clause_for alternatives
  enter-second d h e = enter t day house asked i 1 (clause_of d h either) _ e refl refl

  -- another day or house: no try meets
  apart : (d h : ℕ) (u : Term Variable) → (d ≡ day → h ≡ house → ⊥)
      → ¬ Unifiable (closing (asking day house asked 0) (at_literal false d h u) ∷ [])
  apart d h u no-meeting by =
      let m = meets by.by true false day house (under (fresh 0) (asked_slot asked)) d h u [] by.solves in
      no-meeting (sym m.days) (sym m.houses)

  elsewhere : (d h : ℕ) (s : Slot) {later : List Step} {b : Bool} {n : ℕ} → get_elem? (all_clauses t) i ≡ some (clause_of d h s) → (d ≡ day → h ≡ house → ⊥)
      → Goes t (begun day house asked) later b n → Goes t (begun day house asked) (steps_into i s later) b (named s + n)
  unfolding named
  elsewhere d h matinee e a g = counted (passing (enter-first d h matinee e) (apart d h the_matinee a) g) (omega arith)
  elsewhere d h evening e a g = counted (passing (enter-first d h evening e) (apart d h the_evening a) g) (omega arith)
  elsewhere d h either e a g =
      let second = passing (enter-second d h e) (apart d h the_evening a) g in
      counted (passing (enter-first d h either e) (apart d h the_matinee a) second) (omega arith)

-- An either-record of that day and house was entered: its other slot is an open leaf below the question.
abbrev second_leaf : ℕ → ℕ → Slot → Term Variable → Leaf
second_leaf day house asked u = record { literal = at_literal false day house u; branch = asking day house asked 0 ∷ [] }

abbrev below : ℕ → ℕ → Slot → List ℕ → Term Variable → Term Variable → Tableau
below day house asked questions entered u =
    record {
      leaves = second_leaf day house asked u ∷ [];
      pairs = closing (asking day house asked 0) (at_literal false day house entered) ∷ [];
      extensions = 1;
      questions = questions;
    }

last_is : {A : Type 0} (xs : List A) (x : A) → get_elem? (xs ++ (x ∷ [])) (length xs) ≡ some x
last_is [] x = refl
last_is (y ∷ ys) x = last_is ys x

module _ (day house : ℕ) (u : Term Variable) where
  none-into : (i d h : ℕ) (s : Slot) → entries (at_literal false day house u) i 0 (copy_of 2 (clause_of d h s)) ≡ []
  unfolding entries fits copy_of literal_under under arity clause_for alternatives
  none-into i d h matinee = refl
  none-into i d h evening = refl
  none-into i d h either = refl

  into-question : (asked : Slot) (i : ℕ) (rs : List Record)
      → extensions (at_literal false day house u) 2 i (map clause_for rs ++ (question day house asked ∷ [])) ≡ Extension (i + length rs) 0 ∷ []
  unfolding extensions entries fits copy_of literal_under under arity question
  into-question asked i [] = ap (λ (n : ℕ). Extension n 0 ∷ []) (omega arith)
  into-question asked i (r ∷ rs) =
      rw (none-into i r.day r.house r.slot) (into-question asked (suc i) rs ∙ ap (λ (n : ℕ). Extension n 0 ∷ []) (omega arith))

-- the question's own number
abbrev own : List Record → ℕ
own rs = length (map clause_for rs)

module _ (rs : List Record) (day house : ℕ) (asked : Slot) (questions : List ℕ) (entered u : Term Variable) where
  second-steps : candidates (base (desk_table rs day house asked) 2) (below day house asked questions entered u) ≡ Reduction 1 ∷ Extension (own rs) 0 ∷ []
  unfolding candidates candidates_at reductions fits arity desk_table all_clauses
  second-steps =
      let n : 0 + length rs ≡ own rs = omega (arith, length-map rs clause_for) in
      ap (λ (ss : List Step). Reduction 1 ∷ ss) (into-question day house u asked 0 rs ∙ ap (λ (n : ℕ). Extension n 0 ∷ []) n)

  -- it is closed against the question above it, or by a new copy of the question
  abbrev against : Tableau
  against =
      after_reduction (below day house asked questions entered u) (second_leaf day house asked u) [] (asking day house asked 0)

  abbrev anew : Tableau
  anew =
      record {
        leaves = [];
        pairs = closing (at_literal false day house u) (asking day house asked 2) ∷ closing (asking day house asked 0) (at_literal false day house entered) ∷ [];
        extensions = 2;
        questions = questions_with (desk_table rs day house asked) (own rs) 2 questions;
      }

  goes_against : after (desk_table rs day house asked) (below day house asked questions entered u) (Reduction 1) against
  unfolding stepped treated reduced ancestor fits arity
  goes_against = refl

  goes_anew : after (desk_table rs day house asked) (below day house asked questions entered u) (Extension (own rs) 0) anew
  unfolding stepped treated extended Tableau.entered fits arity copy_of literal_under under hang others desk_table all_clauses question
  goes_anew = rw (last_is (map clause_for rs) (question day house asked))

  lost : ¬ Unifiable against.pairs → ¬ Unifiable anew.pairs → Search (desk_table rs day house asked) (below day house asked questions entered u) nothing 2
  lost a b =
      let tried : Trying (desk_table rs day house asked) (below day house asked questions entered u) (candidates (base (desk_table rs day house asked) 2) (below day house asked questions entered u)) nothing 2 =
      rw second-steps (failed (against, goes_against, a) (failed (anew, goes_anew, b) none_left)) in
      treating (desk_table rs day house asked) (below day house asked questions entered u) refl tried

  settled : ¬ Unifiable against.pairs → Unifiable anew.pairs
      → Search (desk_table rs day house asked) (below day house asked questions entered u) (found (Extension (own rs) 0 ∷ [])) 2
  settled a b =
      let tried : Trying (desk_table rs day house asked) (below day house asked questions entered u) (candidates (base (desk_table rs day house asked) 2) (below day house asked questions entered u)) (found (Extension (own rs) 0 ∷ [])) 2 =
      rw second-steps (failed (against, goes_against, a) (finds (goes_anew, b) (closed (desk_table rs day house asked) anew refl))) in
      treating (desk_table rs day house asked) (below day house asked questions entered u) refl tried

-- slots that are the same constant are made equal by any substitution, different ones by none
module _ (b c : Bool) (day house : ℕ) where
  one-slot : (m : ℕ) → Unifiable (closing (at_literal b day house (constant m)) (at_literal c day house (constant m)) ∷ [])
  unfolding Solves
  one-slot m = record { by = var; solves = meeting var b c day house (constant m) day house (constant m) [] (record { days = refl; houses = refl; slots = refl }) tt }

  two-slots : (m n : ℕ) (ps : List Pair) → (m ≡ n → ⊥) → ¬ Unifiable (closing (at_literal b day house (constant m)) (at_literal c day house (constant n)) ∷ ps)
  two-slots m n ps differ by =
      differ (same_constant by.by m n (meets by.by b c day house (constant m) day house (constant n) ps by.solves).slots)

-- the question for any slot: its variable takes one slot, and that of a new copy the other
abbrev asked_in : ℕ → Term Variable
asked_in copy = under (fresh copy) (asked_slot either)

one_for_each : Substitution
one_for_each x = cond (eqb x.copy 2) the_evening the_matinee

module _ (day house : ℕ) where
  any-meets : (m : ℕ) → Unifiable (closing (asking day house either 0) (at_literal false day house (constant m)) ∷ [])
  unfolding Solves under asked_slot fresh
  any-meets m =
      record {
        by = λ x. constant m;
        solves = meeting (λ x. constant m) true false day house (asked_in 0) day house (constant m) [] (record { days = refl; houses = refl; slots = refl }) tt;
      }

  abbrev first_pair : List Pair
  first_pair = closing (asking day house either 0) (at_literal false day house the_matinee) ∷ []

  not_both : ¬ Unifiable (closing (at_literal false day house the_evening) (asking day house either 0) ∷ first_pair)
  unfolding Solves
  not_both by =
      let σ = by.by in
      let e = (meets σ false true day house the_evening day house (asked_in 0) first_pair by.solves).slots in
      let m = (meets σ true false day house (asked_in 0) day house the_matinee [] by.solves.1).slots in
      let z : ◌≡◌ {A = ℕ} 2002 2001 = same_constant σ 2002 2001 (e ∙ m) in
      omega arith

  each_its_own : Unifiable (closing (at_literal false day house the_evening) (asking day house either 2) ∷ first_pair)
  unfolding Solves under asked_slot fresh one_for_each
  each_its_own =
      record {
        by = one_for_each;
        solves = meeting one_for_each false true day house the_evening day house (asked_in 2) first_pair (record { days = refl; houses = refl; slots = refl })
            (meeting one_for_each true false day house (asked_in 0) day house the_matinee [] (record { days = refl; houses = refl; slots = refl }) tt);
      }

-- A record of that day and house.
module _ (rs : List Record) (day house i : ℕ) where
  here : (asked s : Slot) {later : List Step} {b : Bool} {n : ℕ} → get_elem? (all_clauses (desk_table rs day house asked)) i ≡ some (clause_of day house s)
      → Goes (desk_table rs day house asked) (begun day house asked) later b n
      → Goes (desk_table rs day house asked) (begun day house asked) (steps_into i s later) (settles asked s || b) (spent true (settles asked s) asked s n)
  unfolding settles same_slot spent taken under asked_slot hang others copy_of literal_under clause_for alternatives
  here matinee matinee e g =
      succeeding (enter-first (desk_table rs day house matinee) day house matinee i day house matinee e) (one-slot true false day house 2001) (closed _ _ refl)
  here evening evening e g =
      succeeding (enter-first (desk_table rs day house evening) day house evening i day house evening e) (one-slot true false day house 2002) (closed _ _ refl)
  here matinee evening e g =
      counted (passing (enter-first (desk_table rs day house matinee) day house matinee i day house evening e) (two-slots true false day house 2001 2002 [] (λ z. omega arith)) g) (omega arith)
  here evening matinee e g =
      counted (passing (enter-first (desk_table rs day house evening) day house evening i day house matinee e) (two-slots true false day house 2002 2001 [] (λ z. omega arith)) g) (omega arith)
  here matinee either e g =
      let t = desk_table rs day house matinee in
      let second = passing (enter-second t day house matinee i day house e) (two-slots true false day house 2001 2002 [] (λ z. omega arith)) g in
      let first = lost rs day house matinee _ the_matinee the_evening (two-slots false true day house 2002 2001 _ (λ z. omega arith)) (two-slots false true day house 2002 2001 _ (λ z. omega arith)) in
      counted (failing (enter-first t day house matinee i day house either e) (one-slot true false day house 2001) first second) (omega arith)
  here evening either e g =
      let t = desk_table rs day house evening in
      let second = lost rs day house evening _ the_evening the_matinee (two-slots false true day house 2001 2002 _ (λ z. omega arith)) (two-slots false true day house 2001 2002 _ (λ z. omega arith)) in
      let both = failing (enter-second t day house evening i day house e) (one-slot true false day house 2002) second g in
      counted (passing (enter-first t day house evening i day house either e) (two-slots true false day house 2002 2001 [] (λ z. omega arith)) both) (omega arith)
  here either matinee e g =
      succeeding (enter-first (desk_table rs day house either) day house either i day house matinee e) (any-meets day house 2001) (closed _ _ refl)
  here either evening e g =
      succeeding (enter-first (desk_table rs day house either) day house either i day house evening e) (any-meets day house 2002) (closed _ _ refl)
  here either either e g =
      succeeding (enter-first (desk_table rs day house either) day house either i day house either e) (any-meets day house 2001)
      (settled rs day house either _ the_matinee the_evening (not_both day house) (each_its_own day house))

module _ (rs : List Record) (day house : ℕ) (asked : Slot) (i : ℕ) where
  one-record : (r : Record) {later : List Step} {b : Bool} {n : ℕ} → get_elem? (all_clauses (desk_table rs day house asked)) i ≡ some (clause_for r)
      → Goes (desk_table rs day house asked) (begun day house asked) later b n
      → Goes (desk_table rs day house asked) (begun day house asked) (steps_into i r.slot later) ((is_of day house r && settles asked r.slot) || b)
      (spent (is_of day house r) (settles asked r.slot) asked r.slot n)
  unfolding spent
  one-record r {later} {b} {n} e g = go (is_of day house r) refl
    where
      go : (o : Bool) → is_of day house r ≡ o
          → Goes (desk_table rs day house asked) (begun day house asked) (steps_into i r.slot later) ((o && settles asked r.slot) || b) (spent o (settles asked r.slot) asked r.slot n)
      go true h =
          let p = is_of_lem day house r h in
          let same : clause_for r ≡ clause_of day house r.slot = ap₂ (λ (d k : ℕ). clause_of d k r.slot) p.0 p.1 in
          here rs day house i asked r.slot (e ∙ ap some same) g
      go false h = elsewhere (desk_table rs day house asked) day house asked i r.day r.house r.slot e (is_not_of day house r h) g

at_seam : {A : Type 0} (xs : List A) (x : A) (ys : List A) → get_elem? (xs ++ x ∷ ys) (length xs) ≡ some x
at_seam [] x ys = refl
at_seam (y ∷ xs) x ys = at_seam xs x ys

module _ (all : List Record) (day house : ℕ) (asked : Slot) where
  abbrev clauses_from : List Record → List Clause
  clauses_from rs = map clause_for rs ++ (question day house asked ∷ [])

  rows : (i : ℕ) (before : List Clause) (rs : List Record) → length before ≡ i → all_clauses (desk_table all day house asked) ≡ before ++ clauses_from rs
      → Goes (desk_table all day house asked) (begun day house asked) (extensions (asking day house asked 0) 1 i (clauses_from rs)) (settled_by day house asked rs) (tries_for day house asked rs)
  unfolding extensions entries fits copy_of literal_under under arity question settled_by tries_for
  rows i before [] l e = record { ending = nothing; tried = none_left; so = tt }
  rows i before (r ∷ rs) l e =
      let there : get_elem? (all_clauses (desk_table all day house asked)) i ≡ some (clause_for r) =
      rw (e, ← l) (at_seam before (clause_for r) (clauses_from rs)) in
      let split : all_clauses (desk_table all day house asked) ≡ (before ++ (clause_for r ∷ [])) ++ clauses_from rs = e ∙ sym (append_assoc before (clause_for r ∷ []) (clauses_from rs)) in
      let longer : length (before ++ (clause_for r ∷ [])) ≡ suc i = omega (arith, length-append before (clause_for r ∷ [])) in
      rw (steps_are day house asked i r.day r.house r.slot (extensions (asking day house asked 0) 1 (suc i) (clauses_from rs)))
      (one-record all day house asked i r there (rows (suc i) (before ++ (clause_for r ∷ [])) rs longer split))

  pub record Went : Type 0 where
    pub ending : Ending
    pub searched : Search (desk_table all day house asked) (start (desk_table all day house asked)) ending (tries_for day house asked all)
    pub so : Ends (settled_by day house asked all) ending

  -- the search in the stated order: as many tries as the records say, and it finds steps exactly where a record settles the question
  pub goes : Went
  unfolding candidates candidates_at reductions desk_table all_clauses
  goes =
      let g = rows 0 [] all refl refl in
      record { ending = g.ending; searched = rw (start_is all day house asked) (treating (desk_table all day house asked) (begun day house asked) refl g.tried); so = g.so }
