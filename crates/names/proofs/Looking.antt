-- Names known, looked through one by one, and noted, with premises as the code has them.
use mathlib.Core.Bool.{Bool, true, false}
use mathlib.Core.List.{List, [], ◌∷◌, ◌++◌, map-append}
use mathlib.Core.Path.{◌≡◌, refl, sym, ◌∙◌}
use Prim.Native.Nat.{ℕ, suc, ◌+◌, ◌≤◌, ◌<◌}
use native.Mathlib.Numerals.{add-one}
use native.Mathlib.Omega.{arith}
use borrow.Author.Tests.{eq-eqb, ne_eqb}
use lib.ListN.{length, take, drop, get_or, set, length-set, length-map, drop_of_length-le}
use lib.Seq.{take-suc-set, length-take-le, drop-cons}
use Rattle.names.specs.Numbers.{same_name, number_in}
use Rattle.names.specs.Noting.{name_at, names_at}
use Rattle.names.specs.Known.{grown, known_at, Noted}
use Rattle.names.proofs.Notes.{number_within, noted_known, noted_new}

module _ (count number : ℕ) where
  pub grown_more : number ≡ count → count + 1 ≡ grown count number
  grown_more e = rw (eq-eqb number count e)

  pub grown_same : (number ≡ count → ⊥) → count ≡ grown count number
  grown_same e = rw (ne_eqb number count e)

-- looking through the names: those from here on decide
pub record Looking (text known : List ℕ) (name n : ℕ) : Type 0 where
  pub left : number_in (names_at text known) (name_at text name) ≡ n + number_in (names_at text (drop n known)) (name_at text name)

module _ {text known : List ℕ} {name : ℕ} where
  pub begin_looking : Looking text known name 0
  begin_looking = record { left = omega arith }

  module _ {n : ℕ} (inv : Looking text known name n) where
    module _ (h : n < length known) {place : ℕ} (q : place ≡ get_or known n 0) {r : Bool} (p : r ≡ same_name (name_at text place) (name_at text name)) where
      here : drop n known ≡ get_or known n 0 ∷ drop (suc n) known
      here = drop-cons known n 0 h

      pub looked_up : r ≡ true → n ≡ number_in (names_at text known) (name_at text name)
      unfolding number_in
      looked_up e = let same : same_name (name_at text (get_or known n 0)) (name_at text name) ≡ true = rw q at (sym p ∙ e) in let z : number_in (names_at text known) (name_at text name) ≡ n + 0 = rw (here, same) at inv.left in omega arith

      next : r ≡ false → number_in (names_at text known) (name_at text name)
          ≡ n + suc (number_in (names_at text (drop (suc n) known)) (name_at text name))
      unfolding number_in
      next e = let other : same_name (name_at text (get_or known n 0)) (name_at text name) ≡ false = rw q at (sym p ∙ e) in rw (here, other) at inv.left

      pub looked_on : r ≡ false → Looking text known name (n + 1)
      looked_on e = rw (add-one n) (record { left = next e ∙ omega arith })

    pub looked_out : length known ≤ n → n ≤ length known → length known ≡ number_in (names_at text known) (name_at text name)
    unfolding number_in
    looked_out h g =
        let none : drop n known ≡ [] = drop_of_length-le known h in
        sym ((rw none at inv.left) ∙ omega arith)

-- a name that is known, and one that is noted
pub known_length : (text places : List ℕ) (count : ℕ) → count ≤ length places → length (known_at text places count) ≡ count
known_length text places count g = length-map (take count places) (λ (at : ℕ). name_at text at) ∙ length-take-le count places g

module _ (text places : List ℕ) (count name : ℕ) (room : count < length places) where
  long : length (known_at text places count) ≡ count
  long = known_length text places count (omega arith)

  grows : known_at text (set places count name) (suc count) ≡ known_at text places count ++ (name_at text name ∷ [])
  grows = rw (take-suc-set places count name room) (map-append (λ (at : ℕ). name_at text at) (take count places) (name ∷ []))

  noted_there : (number : ℕ) → number ≡ number_in (known_at text places count) (name_at text name) → number < count → Noted text places count name places number
  noted_there number is h = record {
    is = is;
    known = rw (ne_eqb number count (λ e. omega arith)) (sym (noted_known (known_at text places count) (name_at text name) (omega (arith, is, long))));
    long = refl;
  }

  noted-last : (number : ℕ) → number ≡ number_in (known_at text places count) (name_at text name) → count ≤ number
      → Noted text places count name (set places count name) count
  noted-last number is h =
      let all : number ≡ count = omega (arith, is, long, number_within (known_at text places count) (name_at text name)) in
      record {
        is = sym all ∙ is;
        known = rw (eq-eqb count count refl, add-one count, grows) (sym (noted_new (known_at text places count) (name_at text name) (sym is ∙ all ∙ sym long)));
        long = length-set places count name;
      }

module _ {text places : List ℕ} {count name : ℕ} (room : count < length places) {at : ℕ} (w : at ≡ name) where
  pub note_known : {number : ℕ} → number ≡ number_in (known_at text places count) (name_at text at) → number < length (take count places)
      → Noted text places count name places number
  note_known {number} found h = noted_there text places count name room number (rw w at found) (omega (arith, length-take-le count places (omega arith)))

  pub note_new : length (take count places) ≡ number_in (known_at text places count) (name_at text at)
      → Noted text places count name (set places count name) count
  note_new found =
      noted-last text places count name room count (rw w at (sym (length-take-le count places (omega arith)) ∙ found)) (omega arith)
