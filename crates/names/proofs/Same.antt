-- The bytes of the name at a place, and the same name.
use mathlib.Core.Bool.{Bool, true, false, not, cond}
use mathlib.Core.List.{List, [], ◌∷◌}
use mathlib.Core.Path.{◌≡◌, refl, sym, ap, ◌∙◌}
use Prim.Native.Nat.{ℕ, suc, ◌+◌, ◌-◌, ◌≤◌, ◌<◌}
use native.Mathlib.Numerals.{add-one}
use native.Mathlib.Omega.{arith}
use borrow.Author.Tests.{eq-eqb, ne_eqb}
use lib.ListN.{length, take, drop, get_or, length-drop, drop_of_length-le}
use lib.Seq.{drop-cons, take_all, length-take-le}
use Rattle.clausetext.specs.Lexemes.{word_length}
use Rattle.clausetext.proofs.Lexing.{word_within}
use Rattle.names.specs.Numbers.{Name, same_name}
use Rattle.names.specs.Noting.{name_byte, name_from, name_at}

-- where a name ends
module _ (text : List ℕ) (at : ℕ) where
  pub no_name : length text ≤ at → name_at text at ≡ []
  unfolding name_from
  no_name h = rw (drop_of_length-le text h)

  pub name_over : at < length text → name_byte (get_or text at 0) ≡ false → name_at text at ≡ []
  unfolding name_from
  name_over h e = rw (drop-cons text at 0 h, e)

  pub name_on : at < length text → name_byte (get_or text at 0) ≡ true → name_at text at ≡ get_or text at 0 ∷ name_at text (at + 1)
  unfolding name_from
  name_on h e = rw (add-one at, drop-cons text at 0 h, e)

-- a name is the longest run of its bytes
pub run_taken : (text : List ℕ) → name_from text ≡ take (word_length text) text
unfolding name_from word_length
run_taken [] = refl
run_taken (c ∷ cs) = go (name_byte c) (run_taken cs)
  where
    go : (on : Bool) → name_from cs ≡ take (word_length cs) cs
        → cond on (c ∷ name_from cs) [] ≡ take (cond on (suc (word_length cs)) 0) (c ∷ cs)
    go true ih = ap (λ (l : List ℕ). c ∷ l) ih
    go false ih = refl

pub rest_is : (text : List ℕ) (place : ℕ) → take (length text - place) (drop place text) ≡ drop place text
rest_is text place = take_all (length text - place) (drop place text) (omega (arith, length-drop place text))

module _ (text : List ℕ) (place : ℕ) {n : ℕ} (is : n ≡ word_length (take (length text - place) (drop place text))) where
  pub name_taken : take n (take (length text - place) (drop place text)) ≡ name_at text place
  name_taken = rw (is, rest_is text place) (sym (run_taken (drop place text)))

  pub name_within : n ≡ length (take n (take (length text - place) (drop place text)))
  name_within =
      let rest = take (length text - place) (drop place text) in
      sym (length-take-le n rest (omega (arith, is, word_within rest)))

-- no name goes on at a place
first_byte : (text : List ℕ) (at : ℕ) → at < length text → (on : Bool) → name_byte (get_or text at 0) ≡ on → not on ≡ same_name [] (name_at text at)
unfolding same_name
first_byte text at h true e = rw (name_on text at h e)
first_byte text at h false e = rw (name_over text at h e)

pub ends_at : (text : List ℕ) (at : ℕ) {on : Bool} → at < length text → on ≡ name_byte (get_or text at 0) → not on ≡ same_name [] (name_at text at)
ends_at text at {on} h e = first_byte text at h on (sym e)

pub ends_after : (text : List ℕ) (at : ℕ) → length text ≤ at → true ≡ same_name [] (name_at text at)
unfolding same_name
ends_after text at h = rw (no_name text at h)

-- a name that begins with another byte
begins_so : (text : List ℕ) (j c : ℕ) (more : Name) → j < length text → (get_or text j 0 ≡ c → ⊥)
    → (on : Bool) → name_byte (get_or text j 0) ≡ on → false ≡ same_name (c ∷ more) (name_at text j)
unfolding same_name
begins_so text j c more g d true k = rw (name_on text j g k, ne_eqb c (get_or text j 0) (λ q. d (sym q)))
begins_so text j c more g d false k = rw (name_over text j g k)

-- the comparison of two names byte by byte: what is left decides
pub record Alike (text : List ℕ) (one other i j : ℕ) : Type 0 where
  pub left : same_name (name_at text one) (name_at text other) ≡ same_name (name_at text i) (name_at text j)

module _ {text : List ℕ} {one other : ℕ} where
  pub begin_alike : Alike text one other one other
  begin_alike = record { left = refl }

  module _ {i j : ℕ} (inv : Alike text one other i j) (h : i < length text) {on : Bool} (p : on ≡ name_byte (get_or text i 0)) where
    pub alike_over : on ≡ false → {r : Bool} → r ≡ same_name [] (name_at text j) → r ≡ same_name (name_at text one) (name_at text other)
    alike_over e q = rw (inv.left, name_over text i h (sym p ∙ e)) q

    module _ (e : on ≡ true) where
      pub other_over : length text ≤ j → false ≡ same_name (name_at text one) (name_at text other)
      unfolding same_name
      other_over g = rw (inv.left, name_on text i h (sym p ∙ e), no_name text j g)

      pub other_byte : j < length text → (get_or text j 0 ≡ get_or text i 0 → ⊥) → false ≡ same_name (name_at text one) (name_at text other)
      other_byte g d =
          rw (inv.left, name_on text i h (sym p ∙ e)) (begins_so text j (get_or text i 0) (name_at text (i + 1)) g d (name_byte (get_or text j 0)) refl)

      pub byte_alike : j < length text → get_or text j 0 ≡ get_or text i 0 → Alike text one other (i + 1) (j + 1)
      unfolding same_name
      byte_alike g q =
          let k : name_byte (get_or text j 0) ≡ true = rw q (sym p ∙ e) in
          record { left = inv.left ∙ rw (name_on text i h (sym p ∙ e), name_on text j g k, q, eq-eqb (get_or text i 0) (get_or text i 0) refl) }

  pub alike_end : {i j : ℕ} → Alike text one other i j → length text ≤ i → {r : Bool} → r ≡ same_name [] (name_at text j)
      → r ≡ same_name (name_at text one) (name_at text other)
  alike_end {i} inv h q = rw (inv.left, no_name text i h) q
