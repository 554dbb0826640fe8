-- Order 12 read more narrowly leaves the same: the first of several equal clauses repeats none, so it can only have been dropped as dead, and then the
-- later ones are dead too.
use lib.Dec.{eqb}
use lib.ListN.{length, take, get_or, set, replicate, get_or-replicate, length-replicate}
use lib.Seq.{get_or-take, get_or-set_other, length-take-le}
use mathlib.Core.Bool.{Bool, true, false, ◌||◌}
use mathlib.Core.List.{List}
use mathlib.Core.Path.{◌≡◌, refl, sym, ap, ◌∙◌}
use native.Mathlib.Omega.{arith}
use borrow.Author.Tests.{eqb-true, eqb-false}
use Prim.Native.Nat.{ℕ, suc, ◌<◌}
use Rattle.table.specs.Syntax.{Clause, Table}
use Rattle.table.specs.Encode.{clause_words}
use Rattle.table.specs.Limits.{FileWithin}
use Rattle.slim.specs.Dropping.{some_of, chosen, remaining, clause_no, same_words, dead, repeats, droppable, drops, Leads, Slim}
use Rattle.slim.specs.Dropping as Dropping
use Rattle.slim.specs.Rounds.{kept_flags}
use Rattle.slim.specs.Narrowly.{repeats_present, droppable_narrowly, LeadsNarrowly, as_it_is, and_drops, SlimNarrowly, SameReadNarrowly}
use Rattle.slim.proofs.Comparing.{same_self}
use Rattle.slim.proofs.Settled.{Within, or_more, cleared, false_true, place_chosen, dead_still, one_slim, kept_slim, flag_below, leads_length}
use Rattle.slim.proofs.Promises.{some_of_chosen, or_neither, not_so, Earliest, earliest}

module _ (t : Table) where
  -- a narrow drop is a drop
  repeats-so : (p : List Bool) (n : ℕ) → repeats_present t p n ≡ true → repeats t n ≡ true
  unfolding repeats_present repeats
  repeats-so p n e = some_of_chosen (λ c. same_words (clause_words c) (clause_words (clause_no t n))) (take n p) (take n t.clauses) e

  drops-so : (p : List Bool) (n : ℕ) → droppable_narrowly t p n ≡ true → droppable t p n ≡ true
  unfolding droppable_narrowly droppable
  drops-so p n e =
      or_more (repeats_present t p n) (dead (remaining t p) (clause_no t n)) (repeats t n) (dead (remaining t p) (clause_no t n)) (repeats-so p n) (λ h. h) e

  leads-so : {a p : List Bool} → LeadsNarrowly t a p → Leads t a p
  leads-so as_it_is = Dropping.as_it_is
  leads-so (and_drops {then = r} l n f d) = Dropping.and_drops (leads-so l) (drops n f (drops-so r n d))

-- how a clause was dropped
record Gone (t : Table) (p : List Bool) (m : ℕ) : Type 0 where
  from : List Bool
  within : Within p from
  dropped : droppable_narrowly t from m ≡ true

gone : (t : Table) (m : ℕ) → m < length t.clauses → {p : List Bool} → LeadsNarrowly t (replicate (length t.clauses) true) p → get_or p m false ≡ false → Gone t p m
unfolding Within
gone t m b as_it_is e = false_true (sym e ∙ get_or-replicate (length t.clauses) m true false b)
gone t m b (and_drops {then = r} l n f d) e = by_cases (eqb m n) refl (λ h. gone t m b l h)
  where
    by_cases : (same : Bool) → eqb m n ≡ same → (get_or r m false ≡ false → Gone t r m) → Gone t (set r n false) m
    by_cases true q further = record { from = r; within = λ k h. cleared r n k h; dropped = ap (λ (i : ℕ). droppable_narrowly t r i) (eqb-true m n q) ∙ d }
    by_cases false q further =
        let g = further (sym (get_or-set_other r n m false false (eqb-false m n q)) ∙ e) in
        record { from = g.from; within = λ k h. g.within k (cleared r n k h); dropped = g.dropped }

-- what narrow drops leave repeats nothing
module _ (t : Table) (h : FileWithin t) (p : List Bool) (s : SlimNarrowly t p) (n : ℕ) (f : get_or p n false ≡ true) (b : n < length t.clauses) where
  neither : (repeats_present t p n ≡ false) × (dead (remaining t p) (clause_no t n) ≡ false)
  unfolding droppable_narrowly
  neither = or_neither (repeats_present t p n) (dead (remaining t p) (clause_no t n)) (s.settled n f)

  first-still : (m : ℕ) → m < n → clause_no t m ≡ clause_no t n → get_or p m false ≡ true → false ≡ true
  unfolding repeats_present
  first-still m l e g =
      let test : Clause → Bool = λ c. same_words (clause_words c) (clause_words (clause_no t n)) in
      let there = get_or-take n t.clauses m t.question l in
      let same : test (get_or (take n t.clauses) m t.question) ≡ true = ap test (there ∙ e) ∙ same_self (clause_words (clause_no t n)) in
      let short : m < length (take n t.clauses) = rw (length-take-le n t.clauses (omega arith)) l in
      sym neither.0 ∙ place_chosen test t.question (take n p) (take n t.clauses) m short (get_or-take n p m false l ∙ g) same

  first-gone : (m : ℕ) → m < n → repeats t m ≡ false → clause_no t m ≡ clause_no t n → get_or p m false ≡ false → false ≡ true
  unfolding droppable_narrowly
  first-gone m l fresh e g =
      let k = gone t m (omega arith) s.reached g in
      let q = k.from in
      either (repeats_present t q m) (dead (remaining t q) (clause_no t m)) k.dropped
      (λ r. sym fresh ∙ repeats-so t q m r)
      (λ d. sym neither.1 ∙ dead_still t p q k.within (clause_no t n) (ap (λ (c : Clause). dead (remaining t q) c) (sym e) ∙ d))
    where
      either : (x y : Bool) → (x || y) ≡ true → (x ≡ true → false ≡ true) → (y ≡ true → false ≡ true) → false ≡ true
      either true y e f g = f refl
      either false y e f g = g e

  no-repeat-left : repeats t n ≡ false
  no-repeat-left = not_so (repeats t n) (λ r. by_first r (earliest t h (suc n) n (omega arith) b))
    where
      by_first : repeats t n ≡ true → Earliest t n → false ≡ true
      by_first r k = early (eqb k.number n) refl
        where
          before : (eqb k.number n ≡ false) → k.number < n
          before q = let d = eqb-false k.number n q in omega (arith, k.before)

          flag : (x : Bool) → get_or p k.number false ≡ x → k.number < n → false ≡ true
          flag true g l = first-still k.number l k.same g
          flag false g l = first-gone k.number l k.fresh k.same g

          early : (x : Bool) → eqb k.number n ≡ x → false ≡ true
          early true q = sym k.fresh ∙ ap (λ (i : ℕ). repeats t i) (eqb-true k.number n q) ∙ r
          early false q = flag (get_or p k.number false) refl (before q)

pub same_read_narrowly : SameReadNarrowly
unfolding droppable
same_read_narrowly t h p s =
    one_slim t p (kept_flags t) (record { reached = leads-so t s.reached; settled = λ n f. rw (no-repeat-left t h p s n f (below n f), (neither t h p s n f (below n f)).1) }) (kept_slim t)
  where
    below : (n : ℕ) → get_or p n false ≡ true → n < length t.clauses
    below n f = omega (arith, flag_below p n f, leads_length (leads-so t s.reached), length-replicate (length t.clauses) true)
