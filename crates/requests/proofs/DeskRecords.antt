-- The desk's records in a line, one law for each outcome, with premises as the code has them.
use mathlib.Core.Path.{◌≡◌, refl, sym, ap, ◌∙◌}
use mathlib.Core.List.{List, [], ◌∷◌}
use Prim.Native.Nat.{ℕ, ◌≤◌, ◌<◌}
use native.Mathlib.Omega.{arith}
use lib.ListN.{length, drop, get_or}
use borrow.Author.Tests.{lt-ltb, le-ltb, ne_eqb}
use Rattle.std.specs.Prelude.{Option, Some, None}
use Rattle.text.specs.Put.{Put}
use Rattle.text.proofs.Putting.{then}
use Rattle.requests.specs.Pieces.{decimal_at}
use Rattle.requests.specs.Listed.{before as led, listed_words}
use Rattle.requests.specs.Records.{slot_of, with_slot, record_of, words_of, record_and, record_words}
use Rattle.requests.specs.declared.piece.Number.{Number}
use Rattle.requests.specs.declared.records.Record.{Record}

-- a slot
module _ (c : ℕ) where
  pub slot_m : c ≡ 109 → (slot_of c < 4) × (1 ≡ slot_of c)
  unfolding slot_of
  slot_m e = rw e (omega arith, refl)

  pub slot_e : c ≡ 101 → (slot_of c < 4) × (2 ≡ slot_of c)
  unfolding slot_of
  slot_e e = rw e (omega arith, refl)

  pub slot_x : c ≡ 120 → (slot_of c < 4) × (3 ≡ slot_of c)
  unfolding slot_of
  slot_x e = rw e (omega arith, refl)

  pub slot_other : c ≡ 63 → (slot_of c < 4) × (0 ≡ slot_of c)
  unfolding slot_of
  slot_other e = rw e (omega arith, refl)

  pub no_slot : (c ≡ 109 → ⊥) → (c ≡ 101 → ⊥) → (c ≡ 120 → ⊥) → (c ≡ 63 → ⊥) → slot_of c < 4 → ⊥
  unfolding slot_of
  no_slot m e x o = rw (ne_eqb c 109 m, ne_eqb c 101 e, ne_eqb c 120 x, ne_eqb c 63 o) (λ h. omega (arith, h))

-- none or more than one letter is no slot
short_slot : (day house : ℕ) (cs : List ℕ) → length cs < 1 → None ≡ with_slot day house cs
short_slot day house [] h = refl
short_slot day house (c ∷ cs) h = absurd (omega (arith, h))

long_slot : (day house : ℕ) (cs : List ℕ) → 2 ≤ length cs → None ≡ with_slot day house cs
long_slot day house [] h = refl
long_slot day house (c ∷ []) h = absurd (omega (arith, h))
long_slot day house (c ∷ d ∷ cs) h = refl

one_letter : (cs : List ℕ) → length cs ≡ 1 → cs ≡ get_or cs 0 0 ∷ []
one_letter [] h = absurd (omega (arith, h))
one_letter (c ∷ []) h = refl
one_letter (c ∷ d ∷ cs) h = absurd (omega (arith, h))

-- a record, from its day on
module _ (p : List ℕ) where
  pub no_day : None ≡ decimal_at 58 p 0 → None ≡ record_of p
  unfolding record_of
  no_day e = rw (← e)

  module _ {day : Number} (ed : Some day ≡ decimal_at 58 p 0) where
    pub no_house : None ≡ decimal_at 58 p day.next → None ≡ record_of p
    unfolding record_of
    no_house e = rw (← ed, ← e)

    module _ {house : Number} (eh : Some house ≡ decimal_at 58 p day.next) {rest : List ℕ} (er : rest ≡ drop house.next p) where
      from_slot : with_slot day.value house.value rest ≡ record_of p
      unfolding record_of
      from_slot = rw (← ed, ← eh, er)

      pub slot_missing : length rest < 1 → None ≡ record_of p
      slot_missing h = short_slot day.value house.value rest h ∙ from_slot

      pub slot_long : 2 ≤ length rest → None ≡ record_of p
      slot_long h = long_slot day.value house.value rest h ∙ from_slot

      module _ (one : length rest ≡ 1) where
        with-letter : with_slot day.value house.value (get_or rest 0 0 ∷ []) ≡ record_of p
        with-letter = ap (λ (cs : List ℕ). with_slot day.value house.value cs) (sym (one_letter rest one)) ∙ from_slot

        pub slot_none : (slot_of (get_or rest 0 0) < 4 → ⊥) → None ≡ record_of p
        slot_none n = rw (le-ltb (slot_of (get_or rest 0 0)) 4 (omega (arith, n))) at with-letter

        pub slot_read : {s : ℕ} → (slot_of (get_or rest 0 0) < 4) × (s ≡ slot_of (get_or rest 0 0))
            → Some (record { day = day.value; house = house.value; slot = s }) ≡ record_of p
        slot_read k = rw k.1 (rw (lt-ltb (slot_of (get_or rest 0 0)) 4 k.0) at with-letter)

-- the words of records
pub record_put : {r : Record} {out a b c : List ℕ} {at i j k : ℕ} → Put out at (r.day ∷ []) a i → Put a i (r.house ∷ []) b j → Put b j (r.slot ∷ []) c k → Put out at (words_of r) c k
record_put p q s = then p (then q s)

words_are : (ps : List (List ℕ)) → listed_words record_of words_of ps ≡ record_words ps
unfolding listed_words record_words
words_are [] = refl
words_are (p ∷ ps) = go (record_of p) (words_are ps)
  where
    go : (o : Option Record) → listed_words record_of words_of ps ≡ record_words ps → led words_of o (listed_words record_of words_of ps) ≡ record_and o (record_words ps)
    go None e = refl
    go (Some r) e = ap (λ (ws : List ℕ). r.day ∷ r.house ∷ r.slot ∷ ws) e

pub records_put : {out left : List ℕ} {n : ℕ} (ps : List (List ℕ)) → Put out 0 (listed_words record_of words_of ps) left n → Put out 0 (record_words ps) left n
records_put ps p = rw (← words_are ps) p
