-- Numbers by first use: a number that was used is found again by its number, different numbers below a limit get numbers below it, and where
-- other numbers, or names, stand for the numbers and keep them apart, the numbers by first use stay.
use borrow.Author.Tests.{eqb-true, eqb-false, eq-eqb, ne_eqb}
use mathlib.Core.Bool.{Bool, true, false, cond}
use mathlib.Core.List.{List, [], ◌∷◌, map}
use mathlib.Core.Logic.{◌≢◌}
use mathlib.Core.Path.{◌≡◌, refl, ap, subst, ◌∙◌}
use Prim.Native.Nat.{ℕ, zero, suc, ◌≤◌, ◌<◌}
use native.Mathlib.Omega.{arith}
use lib.Dec.{eqb}
use lib.ListN.{length, get_or}
use Rattle.names.specs.Numbers as Names
use Rattle.names.specs.Numbers.{Name, same_name}
use Rattle.rules.proofs.Every.{All, end, ◌also◌, all_first, all_rest, Ordered, done, ◌ahead◌}
use Rattle.rules.proofs.Distinct.{distinct_below}
use Rattle.roundtrip.specs.Renumbered.{noted, known_after, first_uses, number_in}

-- a number is known: it stands in the list
abbrev pub Known : List ℕ → ℕ → Type 0
Known known n = number_in known n < length known

-- a number once known keeps its number
tail_number : (ks js : List ℕ) (k n : ℕ) → Known (k ∷ ks) n → (Known ks n → number_in js n ≡ number_in ks n) → number_in (k ∷ js) n ≡ number_in (k ∷ ks) n
unfolding number_in
tail_number ks js k n h same = go (eqb k n) h
  where
    go : (b : Bool) → cond b zero (suc (number_in ks n)) < suc (length ks) → cond b zero (suc (number_in js n)) ≡ cond b zero (suc (number_in ks n))
    go true g = refl
    go false g = ap suc (same (omega arith))

noted_same : (known : List ℕ) (m n : ℕ) → Known known n → number_in (noted known m) n ≡ number_in known n
unfolding noted
noted_same [] m n h = absurd (omega arith)
noted_same (k ∷ ks) m n h = go (eqb k m) (λ g. noted_same ks m n g)
  where
    go : (a : Bool) → (Known ks n → number_in (noted ks m) n ≡ number_in ks n) → number_in (cond a (k ∷ ks) (k ∷ noted ks m)) n ≡ number_in (k ∷ ks) n
    go true same = refl
    go false same = tail_number ks (noted ks m) k n h same

noted_length : (known : List ℕ) (n : ℕ) → length known ≤ length (noted known n)
unfolding noted
noted_length [] n = omega arith
noted_length (k ∷ ks) n = go (eqb k n) (noted_length ks n)
  where
    go : (t : Bool) → length ks ≤ length (noted ks n) → suc (length ks) ≤ length (cond t (k ∷ ks) (k ∷ noted ks n))
    go true h = omega arith
    go false h = omega arith

noted_keeps : (known : List ℕ) (m n : ℕ) → Known known n → Known (noted known m) n
noted_keeps known m n h = omega (arith, noted_same known m n h, noted_length known m)

noted_known : (known : List ℕ) (n : ℕ) → Known (noted known n) n
unfolding noted number_in
noted_known [] n = rw (eq-eqb n n refl) (omega arith)
noted_known (k ∷ ks) n = go (eqb k n) refl (noted_known ks n)
  where
    go : (a : Bool) → eqb k n ≡ a → Known (noted ks n) n → Known (cond a (k ∷ ks) (k ∷ noted ks n)) n
    go true e h = rw e (omega arith)
    go false e h = rw e (omega arith)

known_keeps : (known uses : List ℕ) (n : ℕ) → Known known n → Known (known_after known uses) n
unfolding known_after
known_keeps known [] n h = h
known_keeps known (m ∷ ms) n h = known_keeps (noted known m) ms n (noted_keeps known m n h)

uses_after : (known uses : List ℕ) → All (Known (known_after known uses)) uses
unfolding known_after
uses_after known [] = end
uses_after known (n ∷ ns) = known_keeps (noted known n) ns n (noted_known known n) also uses_after (noted known n) ns

-- every number used is known
pub uses_known : (uses : List ℕ) → All (Known (first_uses uses)) uses
uses_known uses = uses_after [] uses

-- and found again by its number
pub recalled : (known : List ℕ) (n : ℕ) → Known known n → get_or known (number_in known n) 0 ≡ n
unfolding number_in
recalled [] n h = absurd (omega arith)
recalled (k ∷ ks) n h = go (eqb k n) refl h (λ g. recalled ks n g)
  where
    go : (b : Bool) → eqb k n ≡ b → cond b zero (suc (number_in ks n)) < suc (length ks) → (Known ks n → get_or ks (number_in ks n) 0 ≡ n)
        → get_or (k ∷ ks) (cond b zero (suc (number_in ks n))) 0 ≡ n
    go true e g rest = eqb-true k n e
    go false e g rest = rest (omega arith)

-- a number that is not known has as many before it as there are
pub unknown : (known : List ℕ) (n : ℕ) → number_in known n ≤ length known
unfolding number_in
unknown [] n = omega arith
unknown (k ∷ ks) n = go (eqb k n) (unknown ks n)
  where
    go : (b : Bool) → number_in ks n ≤ length ks → cond b zero (suc (number_in ks n)) ≤ suc (length ks)
    go true h = omega arith
    go false h = omega arith

-- the numbers known are different, and each was used
all_noted : {P : ℕ → Type 0} (known : List ℕ) (n : ℕ) → All P known → P n → All P (noted known n)
unfolding noted
all_noted [] n a p = p also end
all_noted {P} (k ∷ ks) n a p = go (eqb k n) (all_noted ks n (all_rest a) p)
  where
    go : (b : Bool) → All P (noted ks n) → All P (cond b (k ∷ ks) (k ∷ noted ks n))
    go true rest = a
    go false rest = all_first a also rest

all_known : {P : ℕ → Type 0} (known uses : List ℕ) → All P known → All P uses → All P (known_after known uses)
unfolding known_after
all_known known [] a p = a
all_known known (n ∷ ns) a p = all_known (noted known n) ns (all_noted known n a (all_first p)) (all_rest p)

abbrev pub Different : List ℕ → Type 0
Different ns = Ordered (λ (i j : ℕ). i ≢ j) ns

noted_different : (known : List ℕ) (n : ℕ) → Different known → Different (noted known n)
unfolding noted
noted_different [] n d = end ahead done
noted_different (k ∷ ks) n (a ahead d) = go (eqb k n) refl (noted_different ks n d)
  where
    go : (b : Bool) → eqb k n ≡ b → Different (noted ks n) → Different (cond b (k ∷ ks) (k ∷ noted ks n))
    go true e rest = a ahead d
    go false e rest = all_noted ks n a (eqb-false k n e) ahead rest

known_different : (known uses : List ℕ) → Different known → Different (known_after known uses)
unfolding known_after
known_different known [] d = d
known_different known (n ∷ ns) d = known_different (noted known n) ns (noted_different known n d)

pub uses_different : (uses : List ℕ) → Different (first_uses uses)
uses_different uses = known_different [] uses done

-- so the number at a place has that place as its number
at_place : {P : ℕ → Type 0} (ns : List ℕ) (k : ℕ) → All P ns → k < length ns → P (get_or ns k 0)
at_place [] k a h = absurd (omega arith)
at_place (n ∷ ns) zero a h = all_first a
at_place (n ∷ ns) (suc k) a h = at_place ns k (all_rest a) (omega arith)

-- and what holds of all uses holds of every number known
pub known_all : {P : ℕ → Type 0} (uses : List ℕ) → All P uses → (n : ℕ) → Known (first_uses uses) n → P n
known_all {P} uses a n h =
    subst (λ (i : ℕ). P i) (recalled (first_uses uses) n h) (at_place (first_uses uses) (number_in (first_uses uses) n) (all_known [] uses end a) h)

place_number : (ns : List ℕ) (k : ℕ) → Different ns → k < length ns → number_in ns (get_or ns k 0) ≡ k
unfolding number_in
place_number [] k d h = absurd (omega arith)
place_number (n ∷ ns) zero d h = rw (eq-eqb n n refl)
place_number (n ∷ ns) (suc k) (a ahead d) h = rw (ne_eqb n (get_or ns k 0) (at_place ns k a (omega arith)), place_number ns k d (omega arith))

pub number_of_place : (uses : List ℕ) (k : ℕ) → k < length (first_uses uses) → number_in (first_uses uses) (get_or (first_uses uses) k 0) ≡ k
number_of_place uses k h = place_number (first_uses uses) k (uses_different uses) h

-- different numbers below a limit are at most so many
pub few_uses : (limit : ℕ) (uses : List ℕ) → All (λ n. n < limit) uses → length (first_uses uses) ≤ limit
few_uses limit uses h = distinct_below limit (first_uses uses) (uses_different uses) (all_known [] uses end h)

-- Names that stand for numbers, where those of the numbers that have a property are kept apart.
module _ (P : ℕ → Type 0) (name : ℕ → Name) (apart : (m n : ℕ) → P m → P n → same_name (name m) (name n) ≡ eqb m n) where
  named-number : (known : List ℕ) (n : ℕ) → All P known → P n → Names.number_in (map name known) (name n) ≡ number_in known n
  unfolding number_in Names.number_in
  named-number [] n a p = refl
  named-number (k ∷ ks) n a p = rw (apart k n (all_first a) p, named-number ks n (all_rest a) p)

  named-noted : (known : List ℕ) (n : ℕ) → All P known → P n → Names.noted (map name known) (name n) ≡ map name (noted known n)
  unfolding noted Names.noted
  named-noted [] n a p = refl
  named-noted (k ∷ ks) n a p = rw (apart k n (all_first a) p, named-noted ks n (all_rest a) p) (go (eqb k n))
    where
      go : (b : Bool) → cond b (name k ∷ map name ks) (name k ∷ map name (noted ks n)) ≡ map name (cond b (k ∷ ks) (k ∷ noted ks n))
      go true = refl
      go false = refl

  named-after : (known uses : List ℕ) → All P known → All P uses → Names.known_after (map name known) (map name uses) ≡ map name (known_after known uses)
  unfolding known_after Names.known_after
  named-after known [] a p = refl
  named-after known (n ∷ ns) a p =
      ap (λ (ks : List Name). Names.known_after ks (map name ns)) (named-noted known n a (all_first p))
      ∙ named-after (noted known n) ns (all_noted known n a (all_first p)) (all_rest p)

  pub named_uses : (uses : List ℕ) → All P uses → Names.first_uses (map name uses) ≡ map name (first_uses uses)
  named_uses uses p = named-after [] uses end p

  -- a name has the number of its number
  pub number_named : (uses : List ℕ) (n : ℕ) → All P uses → P n → Names.number_in (Names.first_uses (map name uses)) (name n) ≡ number_in (first_uses uses) n
  number_named uses n a p = rw (named_uses uses a) (named-number (first_uses uses) n (all_known [] uses end a) p)
