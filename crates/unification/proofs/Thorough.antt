-- What a comparison notes for itself: laws with premises as the code has them.
use borrow.Author.Tests.{ltb-true, ltb-false, eqb-true, eqb-false}
use lib.Dec.{eqb, ltb}
use lib.ListN.{length, get_or, set, length-set, get_or-eq_default}
use lib.Seq.{get_or-set_same, get_or-set_other}
use mathlib.Core.Bool.{true, false}
use mathlib.Core.List.{List, ◌∷◌}
use mathlib.Core.Path.{◌≡◌, refl, sym, ◌∙◌, ap, subst}
use native.Mathlib.Nat.{zero-add, suc-add}
use native.Mathlib.Omega.{arith}
use Prim.Native.Nat.{ℕ, zero, suc, ◌+◌, ◌-◌, ◌≤◌, ◌<◌}
use Rattle.table.specs.Syntax.{Term, under}
use Rattle.rules.specs.Substitution.{Variable}
use Rattle.rules.specs.Machinery.Unify.{Binding, Bindings, replace, solution}
use Rattle.rules.proofs.Substitution.{same, under_under}
use Rattle.rules.proofs.Unify.Tests.{decide}
use Rattle.unification.specs.Places.{most_references, mark_places}
use Rattle.unification.specs.State.{count_of, term_of, bindings_of, bindings_in}
use Rattle.unification.specs.Good.{Grown}
use Rattle.unification.specs.Thorough.{spare_of, link_at, Equal, Down, Links, Rooted, Notes, Quiet, Noting, Spent}
use Rattle.unification.proofs.KeptStarts.{same_term}

-- one store
pub set_here : (n : List ℕ) (i x : ℕ) → 0 < get_or (set n i x) i 0 → get_or (set n i x) i 0 ≡ x
set_here n i x h =
    decide
    (ltb i (length n))
    (λ e. get_or-set_same n i x 0 (ltb-true _ _ e))
    (λ e. let z : get_or (set n i x) i 0 ≡ 0 = get_or-eq_default (set n i x) 0 {n = i} (simp length-set (ltb-false _ _ e)) in absurd (omega arith))

pub noting_none : {n : List ℕ} → Noting n n
noting_none = record { size = refl; spare = λ _. refl }

pub noting_then : {n n' n'' : List ℕ} → Noting n n' → Noting n' n'' → Noting n n''
noting_then a b = record { size = b.size ∙ a.size; spare = λ l. b.spare (λ e. l (sym a.size ∙ e)) ∙ a.spare l }

pub noting_set : {n n' : List ℕ} (i x : ℕ) → 0 < i → n' ≡ set n i x → Noting n n'
noting_set {n} {n'} i x p e =
    record { size = ap length e ∙ length-set n i x; spare = λ _. ap spare_of e ∙ get_or-set_other n i 0 x 0 (λ z. omega arith) }

-- one term fewer may be looked into
module _ {n : List ℕ} (a : 0 < spare_of n) where
  pub spend_thorough : (length n ≡ 1 → ⊥) → Spent n n false
  spend_thorough l =
      record { noting = noting_none; others = λ i p. refl; on = λ _. a; tired = λ e. absurd (let z : ◌≡◌ {A = ℕ} 0 1 = cc in omega arith) }

  pub spend_one : length n ≡ 1 → Spent n (set n 0 (spare_of n - 1)) (eqb (spare_of n - 1) 0)
  spend_one l =
      let here : spare_of (set n 0 (spare_of n - 1)) ≡ spare_of n - 1 = get_or-set_same n 0 (spare_of n - 1) 0 (omega arith) in
      record {
        noting = record { size = length-set n 0 (spare_of n - 1); spare = λ d. absurd (d l) };
        others = λ i p. get_or-set_other n 0 i (spare_of n - 1) 0 (λ z. omega arith);
        on = λ e. let z : spare_of n - 1 ≡ 0 → ⊥ = eqb-false _ _ e in omega arith;
        tired = λ e. here ∙ eqb-true _ _ e;
      }

-- links are followed
pub root_begin : {n : List ℕ} (r : ℕ) → Rooted n r r
root_begin r = record { low = omega arith; equal = λ f m g. refl }

module _ {n : List ℕ} {r at w : ℕ} (small : r < most_references) (d : Down n) (g : Rooted n r at) (ew : w ≡ at) (some : link_at n w ≡ 0 → ⊥) where
  link-some : 0 < link_at n at
  link-some = rw (← ew) (omega arith)

  pub root_less : link_at n w - 1 < at
  root_less = let z : link_at n w ≡ link_at n at = ap (link_at n) ew in omega (arith, d.lower at (omega (arith, g.low)) link-some, link-some)

  pub root_on : Rooted n r (link_at n w - 1)
  root_on =
      record {
        low = omega (arith, root_less, g.low);
        equal = λ f m k. g.equal f m k ∙ rw ew (k.equal at (omega (arith, g.low)) link-some);
      }

-- terms that are equal stay so when more is bound
one_more : (b : Binding) (bs : Bindings) (s t : Term Variable) → under (solution bs) s ≡ under (solution bs) t → under (solution (b ∷ bs)) s ≡ under (solution (b ∷ bs)) t
unfolding solution
one_more b bs s t e = step s ∙ ap (under (replace b.variable (under (solution bs) b.value))) e ∙ sym (step t)
  where
    step : (u : Term Variable) → under (solution (b ∷ bs)) u ≡ under (replace b.variable (under (solution bs) b.value)) (under (solution bs) u)
    step u = same (λ x. refl) u ∙ sym (under_under (replace b.variable (under (solution bs) b.value)) (solution bs) u)

later : (f m : List ℕ) (s t : Term Variable) (k j : ℕ) → under (solution (bindings_of f m k)) s ≡ under (solution (bindings_of f m k)) t
    → under (solution (bindings_of f m (j + k))) s ≡ under (solution (bindings_of f m (j + k))) t
unfolding bindings_of
later f m s t k zero e = rw zero-add e
later f m s t k (suc j) e = rw suc-add (one_more _ (bindings_of f m (j + k)) s t (later f m s t k j e))

pub equal_grown : {f m m' : List ℕ} {r s : ℕ} → Grown f m m' → r < most_references → s < most_references → Equal f m r s → Equal f m' r s
equal_grown {f} {m} {m'} {r} {s} g lr ls e =
    let z : (count_of m' - count_of m) + count_of m ≡ count_of m' = omega (arith, g.more) in
    let old : bindings_of f m' (count_of m) ≡ bindings_in f m = g.older (count_of m) (omega arith) in
    rw (same_term g.kept.copies f r (omega arith), same_term g.kept.copies f s (omega arith), ← z)
    (later f m' (term_of f m r) (term_of f m s) (count_of m) (count_of m' - count_of m) (rw old e))

-- notes that are true stay so
module _ {n n' : List ℕ} (e : (i : ℕ) → 0 < i → i < mark_places → get_or n' i 0 ≡ get_or n i 0) where
  pub down_same : Down n → Down n'
  down_same g = record { lower = λ r l p. let z = e (1 + r) (omega arith) (omega arith) in omega (arith, g.lower r l (omega arith)) }

  pub links_same : {f m : List ℕ} → Links f m n → Links f m n'
  links_same {f} {m} g =
      record { equal = λ r l p. let z = e (1 + r) (omega arith) (omega arith) in subst (λ (k : ℕ). Equal f m r (k - 1)) (sym z) (g.equal r l (omega arith)) }

module _ {f m n : List ℕ} {In : ℕ → ℕ → Type 0} (g : Notes f m n In) where
  pub notes_same : {n' : List ℕ} → ((i : ℕ) → 0 < i → get_or n' i 0 ≡ get_or n i 0) → 0 < spare_of n' → Notes f m n' In
  notes_same {n'} e a =
      record {
        down = down_same (λ i p _. e i p) g.down;
        links = links_same (λ i p _. e i p) g.links;
        marks = λ y v ly lv q. g.marks y v ly lv (sym (e (mark_places + y) (omega arith)) ∙ q);
        awake = a;
      }

  module _ {from to : ℕ} (lf : from < most_references) (lt : to < from) (q : Equal f m from to) {n' : List ℕ} (en : n' ≡ set n (1 + from) (to + 1)) where
    other : (i : ℕ) → (i ≡ 1 + from → ⊥) → get_or n' i 0 ≡ get_or n i 0
    other i d = ap (λ (l : List ℕ). get_or l i 0) en ∙ get_or-set_other n (1 + from) i (to + 1) 0 d

    here : 0 < link_at n' from → link_at n' from ≡ to + 1
    here p = ap (λ (l : List ℕ). link_at l from) en ∙ set_here n (1 + from) (to + 1) (rw en at p)

    elsewhere : (r : ℕ) → (r ≡ from → ⊥) → link_at n' r ≡ link_at n r
    elsewhere r d = other (1 + r) (λ e. d (omega arith))

    lower : (r : ℕ) → r < most_references → 0 < link_at n' r → link_at n' r ≤ r
    lower r l p =
        decide
        (eqb r from)
        (λ e. let z : r ≡ from = eqb-true r from e in let p' : 0 < link_at n' from = rw z at p in rw z (omega (arith, here p')))
        (λ e. let z = elsewhere r (eqb-false r from e) in omega (arith, g.down.lower r l (omega arith)))

    equal : (r : ℕ) → r < most_references → 0 < link_at n' r → Equal f m r (link_at n' r - 1)
    equal r l p =
        decide
        (eqb r from)
        (λ e.
        let z : r ≡ from = eqb-true r from e in
        let p' : 0 < link_at n' from = rw z at p in
        let z' : link_at n' from - 1 ≡ to = omega (arith, here p') in
        rw (z, z') q)
        (λ e. let z = elsewhere r (eqb-false r from e) in subst (λ (k : ℕ). Equal f m r (k - 1)) (sym z) (g.links.equal r l (omega arith)))

    pub notes_link : Notes f m n' In
    notes_link =
        record {
          down = record { lower = lower };
          links = record { equal = equal };
          marks = λ y v ly lv e. g.marks y v ly lv (sym (other (mark_places + y) (λ d. omega arith)) ∙ e);
          awake = let z = other 0 (λ d. omega arith) in omega (arith, g.awake);
        }

-- nothing is noted
pub quiet_blank : {f m n : List ℕ} → ((i : ℕ) → 0 < i → get_or n i 0 ≡ 0) → 0 < spare_of n → Quiet f m n
quiet_blank e a =
    record {
      down = record { lower = λ r l p. absurd (omega (arith, e (1 + r) (omega arith))) };
      links = record { equal = λ r l p. absurd (omega (arith, e (1 + r) (omega arith))) };
      marks = λ y v ly lv q. absurd (omega (arith, e (mark_places + y) (omega arith)));
      awake = a;
    }
