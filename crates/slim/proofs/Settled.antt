-- What drops lead to when nothing more drops is one, whatever their order, and it is what the rounds leave.
use lib.ListN.{length, get_or, set, replicate, length-set, length-replicate, get_or-replicate}
use lib.Seq.{get_or-set_other, ext_get_or, get_or_at}
use lib.ListN.{get_or-append}
use lib.Dec.{eqb}
use mathlib.Core.Bool.{Bool, true, false, not, ◌&&◌, ◌||◌}
use mathlib.Core.List.{List, [], ◌∷◌, ◌++◌}
use mathlib.Core.Logic.{◌⊎◌, inl, inr}
use mathlib.Core.Path.{◌≡◌, refl, sym, ap, ◌∙◌, subst}
use native.Mathlib.Decide.{dec_lt}
use native.Mathlib.Numerals.{add-one}
use native.Mathlib.Omega.{arith}
use borrow.Author.Tests.{eqb-true, eqb-false, not-true, not-false}
use Prim.Native.Nat.{ℕ, zero, suc, ◌+◌, ◌≤◌, ◌<◌}
use Rattle.table.specs.Syntax.{Literal, Clause, Table, all_clauses}
use Rattle.table.proofs.Bools.{and_left, and_right}
use Rattle.slim.specs.Dropping.{some_of, with_flag, chosen, remaining, clause_no, opposed, partnered, dead, repeats, droppable, drops, Leads, as_it_is, and_drops, Slim}
use Rattle.slim.specs.Rounds.{flags_up_to, unrepeated, survives, round, rounds, kept_flags}
use Rattle.slim.proofs.Flags.{flags_length, some_append, flagged, flagged_none, flagged_next, flagged_now, flagged_still, flagged_all}
use Rattle.slim.proofs.Settling.{unrepeated_length, round_length, rounds_still}

-- every flag that is set is set there too
unfoldable pub Within : List Bool → List Bool → Type 0
Within p q = (n : ℕ) → get_or p n false ≡ true → get_or q n false ≡ true

pub false_true : {A : Type 0} → false ≡ true → A
false_true {A} e = let z : ◌≡◌ {A = ℕ} 0 1 = cc in let n : ⊥ = omega arith in absurd n

or_true : (b : Bool) → (b || true) ≡ true
or_true true = refl
or_true false = refl

-- fewer clauses have fewer partners
pub or_more : (a b c d : Bool) → (a ≡ true → c ≡ true) → (b ≡ true → d ≡ true) → (a || b) ≡ true → (c || d) ≡ true
or_more true b c d f g e = rw (f refl)
or_more false b true d f g e = refl
or_more false b false d f g e = g e

-- what passes among the chosen stands at a place whose flag is set
pub record Place {A : Type 0} (test : A → Bool) (p : List Bool) (xs : List A) (other : A) : Type 0 where
  pub number : ℕ
  pub below : number < length xs
  pub flag : get_or p number false ≡ true
  pub passes : test (get_or xs number other) ≡ true

module _ {A : Type 0} (test : A → Bool) (other : A) where
  next_place : {f : Bool} {p : List Bool} {x : A} {xs : List A} → Place test p xs other → Place test (f ∷ p) (x ∷ xs) other
  next_place k = record { number = suc k.number; below = omega (arith, k.below); flag = k.flag; passes = k.passes }

  pub chosen_place : (p : List Bool) (xs : List A) → some_of test (chosen p xs) ≡ true → Place test p xs other
  unfolding some_of chosen with_flag
  chosen_place [] xs e = false_true e
  chosen_place (f ∷ p) [] e = false_true e
  chosen_place (false ∷ p) (x ∷ xs) e = next_place (chosen_place p xs e)
  chosen_place (true ∷ p) (x ∷ xs) e = here (test x) refl e (λ h. next_place (chosen_place p xs h))
    where
      here : (b : Bool) → test x ≡ b → (b || some_of test (chosen p xs)) ≡ true → (some_of test (chosen p xs) ≡ true → Place test (true ∷ p) (x ∷ xs) other) → Place test (true ∷ p) (x ∷ xs) other
      here true q h k = record { number = 0; below = omega arith; flag = refl; passes = q }
      here false q h k = k h

  pub place_chosen : (p : List Bool) (xs : List A) (n : ℕ) → n < length xs → get_or p n false ≡ true → test (get_or xs n other) ≡ true → some_of test (chosen p xs) ≡ true
  unfolding some_of chosen with_flag
  place_chosen [] xs n h f e = false_true f
  place_chosen (g ∷ p) [] n h f e = absurd (omega arith)
  place_chosen (true ∷ p) (x ∷ xs) zero h f e = rw e
  place_chosen (false ∷ p) (x ∷ xs) zero h f e = false_true f
  place_chosen (true ∷ p) (x ∷ xs) (suc n) h f e = rw (place_chosen p xs n (omega arith) f e) (or_true (test x))
  place_chosen (false ∷ p) (x ∷ xs) (suc n) h f e = place_chosen p xs n (omega arith) f e

some_fewer : (test : Clause → Bool) (other : Clause) (p q : List Bool) (cs : List Clause) → Within p q → some_of test (chosen p cs) ≡ true → some_of test (chosen q cs) ≡ true
unfolding Within
some_fewer test other p q cs w e =
    let k = chosen_place test other p cs e in
    place_chosen test other q cs k.number k.below (w k.number k.flag) k.passes

some_more : {A : Type 0} (f g : A → Bool) → ((x : A) → f x ≡ true → g x ≡ true) → (xs : List A) → some_of f xs ≡ true → some_of g xs ≡ true
unfolding some_of
some_more f g h [] e = e
some_more f g h (x ∷ xs) e = or_more (f x) (some_of f xs) (g x) (some_of g xs) (h x) (some_more f g h xs) e

not_more : (a b : Bool) → (a ≡ true → b ≡ true) → not b ≡ true → not a ≡ true
not_more true b f e = false_true (sym (ap (λ (c : Bool). not c) (f refl)) ∙ e)
not_more false b f e = refl

module _ (t : Table) (p q : List Bool) (w : Within p q) where
  partners-fewer : (l : Literal ℕ) → partnered (remaining t p) l ≡ true → partnered (remaining t q) l ≡ true
  unfolding partnered remaining all_clauses
  partners-fewer l e =
      let test : Clause → Bool = λ c. some_of (opposed l) c.literals in
      some_append test (chosen q t.clauses) (t.question ∷ [])
      ∙ or_more (some_of test (chosen p t.clauses)) (some_of test (t.question ∷ [])) (some_of test (chosen q t.clauses)) (some_of test (t.question ∷ []))
      (some_fewer test t.question p q t.clauses w) (λ h. h) (sym (some_append test (chosen p t.clauses) (t.question ∷ [])) ∙ e)

  pub dead_still : (c : Clause) → dead (remaining t q) c ≡ true → dead (remaining t p) c ≡ true
  unfolding dead
  dead_still c e =
      some_more (λ l. not (partnered (remaining t q) l)) (λ l. not (partnered (remaining t p) l))
      (λ l. not_more (partnered (remaining t p) l) (partnered (remaining t q) l) (partners-fewer l)) c.literals e

  pub droppable_still : (n : ℕ) → droppable t q n ≡ true → droppable t p n ≡ true
  unfolding droppable
  droppable_still n e =
      or_more (repeats t n) (dead (remaining t q) (clause_no t n)) (repeats t n) (dead (remaining t p) (clause_no t n)) (λ h. h) (dead_still (clause_no t n)) e

-- drops only clear flags
pub cleared : (p : List Bool) (n m : ℕ) → get_or (set p n false) m false ≡ true → get_or p m false ≡ true
cleared [] n m e = e
cleared (f ∷ p) zero zero e = false_true e
cleared (f ∷ p) zero (suc m) e = e
cleared (f ∷ p) (suc n) zero e = e
cleared (f ∷ p) (suc n) (suc m) e = cleared p n m e

module _ {t : Table} where
  pub leads_length : {p q : List Bool} → Leads t p q → length q ≡ length p
  leads_length as_it_is = refl
  leads_length (and_drops {then = r} l (drops n f d)) = length-set r n false ∙ leads_length l

  pub leads_within : {p q : List Bool} → Leads t p q → Within q p
  unfolding Within
  leads_within as_it_is m e = e
  leads_within (and_drops {then = r} l (drops n f d)) m e = leads_within l m (cleared r n m e)

  pub leads_on : {p q r : List Bool} → Leads t p q → Leads t q r → Leads t p r
  leads_on l as_it_is = l
  leads_on l (and_drops k d) = and_drops (leads_on l k) d

  -- what is settled stays, whatever is dropped
  stays : (p : List Bool) → ((n : ℕ) → get_or p n false ≡ true → droppable t p n ≡ false) → {a q : List Bool} → Within p a → Leads t a q → Within p q
  unfolding Within
  stays p s {a} w as_it_is m e = w m e
  stays p s {a} w (and_drops {then = r} l (drops n f d)) m e = still (stays p s w l) (eqb m n) refl
    where
      still : Within p r → (b : Bool) → eqb m n ≡ b → get_or (set r n false) m false ≡ true
      still before true q =
          let same = eqb-true m n q in
          let now = droppable_still t p r before n d in
          false_true (sym (s m e) ∙ ap (λ (k : ℕ). droppable t p k) same ∙ now)
      still before false q = get_or-set_other r n m false false (eqb-false m n q) ∙ before m e

-- one outcome
both_ways : (a b : Bool) → (a ≡ true → b ≡ true) → (b ≡ true → a ≡ true) → a ≡ b
both_ways true b f g = sym (f refl)
both_ways false true f g = g refl
both_ways false false f g = refl

pub flag_below : (p : List Bool) (n : ℕ) → get_or p n false ≡ true → n < length p
flag_below [] n e = false_true e
flag_below (f ∷ p) zero e = omega arith
flag_below (f ∷ p) (suc n) e = let h = flag_below p n e in omega arith

pub within_all : (t : Table) (p : List Bool) → length p ≡ length t.clauses → Within p (replicate (length t.clauses) true)
unfolding Within
within_all t p l n e = get_or-replicate (length t.clauses) n true false (omega (arith, flag_below p n e))

pub slim_length : {t : Table} {p : List Bool} → Slim t p → length p ≡ length t.clauses
slim_length {t} s = leads_length s.reached ∙ length-replicate (length t.clauses) true

pub one_slim : (t : Table) (p q : List Bool) → Slim t p → Slim t q → p ≡ q
unfolding Within
one_slim t p q a b =
    ext_get_or false p q (slim_length a ∙ sym (slim_length b))
    (λ n h. both_ways (get_or p n false) (get_or q n false)
    (stays p a.settled (within_all t p (slim_length a)) b.reached n)
    (stays q b.settled (within_all t q (slim_length b)) a.reached n))

-- flags cleared from the first to the last
module _ (t : Table) (p : List Bool) (f : ℕ → Bool) (l : length p ≡ length t.clauses) (fewer : (n : ℕ) → n < length t.clauses → f n ≡ true → get_or p n false ≡ true)
    (may : (n : ℕ) → get_or p n false ≡ true → f n ≡ false → droppable t p n ≡ true) where
  leads-front : (k : ℕ) → k ≤ length t.clauses → Leads t p (flagged p f k)
  leads-front zero h = subst (λ (q : List Bool). Leads t p q) (flagged_none p f) as_it_is
  leads-front (suc k) h = subst (λ (n : ℕ). Leads t p (flagged p f n)) (add-one k) (one_more (leads-front k (omega arith)) (f k) (get_or p k false) refl refl)
    where
      below : k < length p
      below = omega arith

      one_more : Leads t p (flagged p f k) → (b c : Bool) → f k ≡ b → get_or p k false ≡ c → Leads t p (flagged p f (k + 1))
      one_more so_far true c e g = subst (λ (q : List Bool). Leads t p q) (flagged_still p f k below (e ∙ sym (fewer k h e))) so_far
      one_more so_far false false e g = subst (λ (q : List Bool). Leads t p q) (flagged_still p f k below (e ∙ sym g)) so_far
      one_more so_far false true e g =
          let now : get_or (flagged p f k) k false ≡ true = flagged_now p f k below ∙ g in
          let drop = droppable_still t (flagged p f k) p (leads_within so_far) k (may k g e) in
          let cleared-now : set (flagged p f k) k false ≡ flagged p f (k + 1) = ap (λ (b : Bool). set (flagged p f k) k b) (sym e) ∙ flagged_next p f k below in
          subst (λ (q : List Bool). Leads t p q) cleared-now (and_drops so_far (drops k now drop))

  pub leads_to : Leads t p (flags_up_to (length t.clauses) f)
  leads_to =
      subst (λ (q : List Bool). Leads t p q) (flagged_all p f (length t.clauses) (omega arith)) (leads-front (length t.clauses) (omega arith))

pub flag_at : (n : ℕ) (f : ℕ → Bool) (i : ℕ) → i < n → get_or (flags_up_to n f) i false ≡ f i
unfolding flags_up_to
flag_at zero f i h = absurd (omega arith)
flag_at (suc n) f i h = by_cases (dec_lt i n) (λ k. flag_at n f i k)
  where
    by_cases : Dec (i < n) → (i < n → get_or (flags_up_to n f) i false ≡ f i) → get_or (flags_up_to n f ++ (f n ∷ [])) i false ≡ f i
    by_cases (yes k) further = get_or-append (flags_up_to n f) (f n ∷ []) false i (omega (arith, flags_length n f)) ∙ further k
    by_cases (no k) further =
        let z : i ≡ n = omega arith in
        rw z (get_or_at (flags_up_to n f) (f n) [] false n (flags_length n f))

-- how many flags are set
set_flags : List Bool → ℕ
set_flags [] = 0
set_flags (true ∷ p) = suc (set_flags p)
set_flags (false ∷ p) = set_flags p

set_flags_few : (p : List Bool) → set_flags p ≤ length p
unfolding set_flags
set_flags_few [] = omega arith
set_flags_few (true ∷ p) = let h = set_flags_few p in omega arith
set_flags_few (false ∷ p) = let h = set_flags_few p in omega arith

same_or_fewer : (p q : List Bool) → length p ≡ length q → Within p q → (p ≡ q) ⊎ (set_flags p < set_flags q)
unfolding Within set_flags
same_or_fewer [] [] l w = inl refl
same_or_fewer [] (g ∷ q) l w = absurd (omega arith)
same_or_fewer (f ∷ p) [] l w = absurd (omega arith)
same_or_fewer (f ∷ p) (g ∷ q) l w = heads f g (w 0) (same_or_fewer p q (omega arith) (λ n. w (suc n)))
  where
    heads : (f g : Bool) → (f ≡ true → g ≡ true) → (p ≡ q) ⊎ (set_flags p < set_flags q) → (f ∷ p ≡ g ∷ q) ⊎ (set_flags (f ∷ p) < set_flags (g ∷ q))
    heads true true v (inl e) = inl (ap (λ (r : List Bool). true ∷ r) e)
    heads true true v (inr h) = inr (omega arith)
    heads true false v r = false_true (v refl)
    heads false true v (inl e) = inr (rw e (omega arith))
    heads false true v (inr h) = inr (omega arith)
    heads false false v (inl e) = inl (ap (λ (r : List Bool). false ∷ r) e)
    heads false false v (inr h) = inr (omega arith)

module _ (t : Table) where
  leads-unrepeated : Leads t (replicate (length t.clauses) true) (unrepeated t)
  unfolding unrepeated droppable
  leads-unrepeated =
      leads_to t (replicate (length t.clauses) true) (λ n. not (repeats t n)) (length-replicate (length t.clauses) true)
      (λ n h e. get_or-replicate (length t.clauses) n true false h)
      (λ n g e. rw (not-false (repeats t n) e))

  round-within : (p : List Bool) (n : ℕ) → survives t p n ≡ true → get_or p n false ≡ true
  unfolding survives
  round-within p n e = and_left (get_or p n false) _ e

  leads-round : (p : List Bool) → length p ≡ length t.clauses → Leads t p (round t p)
  unfolding round survives droppable
  leads-round p l =
      leads_to t p (survives t p) l (λ n h e. round-within p n e)
      (λ n g e. rw (not-false (dead (remaining t p) (clause_no t n)) (sym (rw g) ∙ e)) (or_true (repeats t n)))

  rounds-length : (left : ℕ) (p : List Bool) → length p ≡ length t.clauses → length (rounds t left p) ≡ length t.clauses
  unfolding rounds
  rounds-length zero p l = l
  rounds-length (suc left) p l = rounds-length left (round t p) (round_length t p)

  leads-rounds : (left : ℕ) (p : List Bool) → length p ≡ length t.clauses → Leads t p (rounds t left p)
  unfolding rounds
  leads-rounds zero p l = as_it_is
  leads-rounds (suc left) p l = leads_on (leads-round p l) (leads-rounds left (round t p) (round_length t p))

  -- as many rounds as there are flags set come to the last
  last-round : (left : ℕ) (p : List Bool) → length p ≡ length t.clauses → set_flags p ≤ left → round t (rounds t left p) ≡ rounds t left p
  unfolding rounds
  last-round zero p l h =
      elim (same_or_fewer (round t p) p (round_length t p ∙ sym l) (leads_within (leads-round p l))) [ inl e ↦ e | inr k ↦ absurd (omega arith) ]
  last-round (suc left) p l h =
      elim (same_or_fewer (round t p) p (round_length t p ∙ sym l) (leads_within (leads-round p l))) [
        | inl e ↦ ap (λ (q : List Bool). round t q) (ap (λ (q : List Bool). rounds t left q) e ∙ rounds_still t left p e) ∙ e ∙ sym (ap (λ (q : List Bool). rounds t left q) e ∙ rounds_still t left p e)
        | inr k ↦ last-round left (round t p) (round_length t p) (omega arith)
      ]

  pub kept_last : round t (kept_flags t) ≡ kept_flags t
  unfolding kept_flags
  kept_last = last-round (length t.clauses) (unrepeated t) (unrepeated_length t) (omega (arith, set_flags_few (unrepeated t), unrepeated_length t))

  pub kept_length : length (kept_flags t) ≡ length t.clauses
  unfolding kept_flags
  kept_length = rounds-length (length t.clauses) (unrepeated t) (unrepeated_length t)

  pub kept_within : Within (kept_flags t) (unrepeated t)
  unfolding kept_flags
  kept_within = leads_within (leads-rounds (length t.clauses) (unrepeated t) (unrepeated_length t))

  leads-kept : Leads t (unrepeated t) (kept_flags t)
  unfolding kept_flags
  leads-kept = leads-rounds (length t.clauses) (unrepeated t) (unrepeated_length t)

  pub unrepeated_at : (n : ℕ) → n < length t.clauses → get_or (unrepeated t) n false ≡ not (repeats t n)
  unfolding unrepeated
  unrepeated_at n h = flag_at (length t.clauses) (λ m. not (repeats t m)) n h

  pub round_at : (p : List Bool) (n : ℕ) → n < length t.clauses → get_or (round t p) n false ≡ (get_or p n false && not (dead (remaining t p) (clause_no t n)))
  unfolding round survives
  round_at p n h = flag_at (length t.clauses) (survives t p) n h

  pub kept_slim : Slim t (kept_flags t)
  unfolding Within droppable
  kept_slim =
      record {
        reached = leads_on leads-unrepeated (kept_reached);
        settled = λ n e. rw (no_repeat n e, no_dead n e);
      }
    where
      kept_reached : Leads t (unrepeated t) (kept_flags t)
      kept_reached = leads-kept

      no_repeat : (n : ℕ) → get_or (kept_flags t) n false ≡ true → repeats t n ≡ false
      no_repeat n e = not-true (repeats t n) (sym (unrepeated_at n (omega (arith, flag_below (kept_flags t) n e, kept_length))) ∙ kept_within n e)

      no_dead : (n : ℕ) → get_or (kept_flags t) n false ≡ true → dead (remaining t (kept_flags t)) (clause_no t n) ≡ false
      no_dead n e =
          not-true (dead (remaining t (kept_flags t)) (clause_no t n))
          (and_right (get_or (kept_flags t) n false) _ (sym (round_at (kept_flags t) n (omega (arith, flag_below (kept_flags t) n e, kept_length))) ∙ ap (λ (q : List Bool). get_or q n false) kept_last ∙ e))
