-- What is bound, as it is shown: one law for each outcome of the code, with premises as the code has them.
use mathlib.Core.Bool.{Bool, true, false, not}
use mathlib.Core.List.{List, []}
use mathlib.Core.Path.{◌≡◌, refl, sym, ap, ◌∙◌}
use Prim.Native.Nat.{ℕ, ◌+◌, min, ◌≤◌, ◌<◌}
use native.Mathlib.Numerals.{add-one}
use native.Mathlib.Omega.{arith}
use borrow.Author.Tests.{eq-eqb, ne_eqb, not-true, not-false}
use mir.Syntax.{w32}
use mir.Val.{Fits}
use lib.Dec.{ltb}
use lib.ListN.{length, take, drop, get_or, drop_of_length-le}
use Rattle.words.specs.Fields.{kind_of}
use Rattle.words.specs.Steps.{step_of}
use Rattle.words.specs.declared.Step.{Step}
use Rattle.words.specs.declared.Step.TheVariants.{Reduction, Extension, Restart, Malformed}
use Rattle.text.specs.Put.{Put}
use Rattle.text.specs.Quoted.{bytes}
use Rattle.text.proofs.Putting.{then as joined}
use Rattle.text.proofs.Written.{from_place}
use Rattle.naming.specs.Shown.{names_in, shown, literal_part}
use Rattle.leaves.specs.Shown.{Source, clause_in, cut_to}
use Rattle.leaves.specs.Bound.{copies_by, copy_number, slot_at, count_at, words_at, mark_text, bound_cut, has_variable, is_told, told_text}
use Rattle.leaves.proofs.Leaves.{past}
use Rattle.leaves.proofs.Showing.{no_bytes, take_within, literal_cut_is}

one_at_most : (s : Step) → copies_by s ≤ 1
unfolding copies_by
one_at_most (Reduction h) = omega arith
one_at_most (Extension i j) = omega arith
one_at_most Restart = omega arith
one_at_most Malformed = omega arith

-- so many steps are counted
pub record CountingCopies (steps : List ℕ) (number count i : ℕ) : Type 0 where
  pub low : i ≤ number
  pub few : count ≤ i
  pub same : count ≡ copy_number steps i

pub copies_begin : (steps : List ℕ) (number : ℕ) → CountingCopies steps number 0 0
unfolding copy_number
copies_begin steps number = record { low = omega arith; few = omega arith; same = refl }

module _ {steps : List ℕ} {number count i : ℕ} (g : CountingCopies steps number count i) where
  pub copies_over : number ≤ i → count ≡ copy_number steps number
  copies_over h = let z : i ≡ number = omega (arith, g.low) in rw z at g.same

  module _ (h : i < number) {w : ℕ} (ew : w ≡ get_or steps i 0) {k : ℕ} (ek : k ≡ copies_by (step_of w)) where
    pub copies_fit : Fits w32 number → Fits w32 (count + k)
    copies_fit f = record { fits = omega (arith, f.fits, g.few, ek, one_at_most (step_of w)) }

    pub copies_on : CountingCopies steps number (count + k) (i + 1)
    unfolding copy_number
    copies_on = record {
      low = omega arith;
      few = omega (arith, g.few, ek, one_at_most (step_of w));
      same = rw (add-one i, ← ew, ← ek) (ap (◌+ k) g.same);
    }

pub ruleset copies_laws = (copies_begin, copies_over, copies_fit, copies_on)

-- a variable sought
module _ (own : List ℕ) (i : ℕ) (g : has_variable (drop i own) ≡ has_variable own) where
  pub variable_none : length own ≤ i → false ≡ has_variable own
  unfolding has_variable
  variable_none h = rw (drop_of_length-le own {i = i} h) at g

  module _ (h : i < length own) {k : ℕ} (ek : k ≡ kind_of (get_or own i 0)) where
    pub variable_here : k ≡ 0 → true ≡ has_variable own
    unfolding has_variable
    variable_here z = rw (from_place own i h, eq-eqb (kind_of (get_or own i 0)) 0 (sym ek ∙ z)) at g

    pub variable_later : (k ≡ 0 → ⊥) → has_variable (drop (i + 1) own) ≡ has_variable own
    unfolding has_variable
    variable_later n = rw (from_place own i h, ne_eqb (kind_of (get_or own i 0)) 0 (λ z. n (ek ∙ z))) at g

pub variable_begin : (own : List ℕ) → has_variable (drop 0 own) ≡ has_variable own
variable_begin own = refl

pub ruleset variable_laws = (variable_begin, variable_none, variable_here, variable_later)

-- a slot
module _ (bound : List ℕ) (copy literal : ℕ) {s : ℕ} (es : s ≡ slot_at copy literal) where
  pub count_none : length bound ≤ s + 65 → 0 ≡ count_at bound copy literal
  count_none h = sym (past bound (slot_at copy literal + 65) (rw es at h))

  pub count_some : get_or bound (s + 65) 0 ≡ count_at bound copy literal
  count_some = rw es

  module _ {n : ℕ} (en : n ≡ count_at bound copy literal) {k : ℕ} (ek : k ≡ min n 64) {rest : List ℕ} (er : rest ≡ drop s bound) {own : List ℕ} (eo : own ≡ take k rest) where
    pub words_are : own ≡ words_at bound copy literal
    words_are = eo ∙ rw (ek, en, er, es)

    pub words_few : length own ≤ 4096
    words_few = let z : length own ≡ length (take k rest) = ap (λ (l : List ℕ). length l) eo in omega (arith, z, take_within k rest, ek)

pub ruleset count_laws = (count_none, count_some)

pub mark_longer : {b : Bool} → b ≡ true → {o₀ o₁ : List ℕ} {n₀ n₁ : ℕ} → Put o₀ n₀ (bytes "...") o₁ n₁ → Put o₀ n₀ (mark_text b) o₁ n₁
unfolding mark_text
mark_longer e p = rw e p

pub mark_none : {b : Bool} → b ≡ false → (out : List ℕ) (at : ℕ) → Put out at (mark_text b) out at
unfolding mark_text
mark_none e out at = rw e (no_bytes out at)

pub ruleset mark_laws = (mark_longer, mark_none)

-- the literal under what is bound
pub bound_cut_is : (text index bound : List ℕ) (copy literal : ℕ) {own : List ℕ} → own ≡ words_at bound copy literal → {vs : List ℕ} → vs ≡ take 0 index
    → {n : ℕ} → n ≡ count_at bound copy literal → {space mid left : List ℕ} {k j : ℕ} → length space ≡ 121
    → Put space 0 (shown (names_in text index vs) 1 0 [] own) mid k → Put mid k (mark_text (ltb 64 n)) left j
    → {front : List ℕ} → front ≡ take j left → {o₀ o₁ : List ℕ} {n₀ n₁ : ℕ} → Put o₀ n₀ (cut_to 120 front) o₁ n₁
    → Put o₀ n₀ (bound_cut text index bound copy literal) o₁ n₁
unfolding bound_cut
bound_cut_is text index bound copy literal eo ev en size p q ef r =
    literal_cut_is _ size (joined (rw (eo, ev) at p) (rw en at q)) ef r

-- whether it is told
module _ (file bound : List ℕ) (copy clause literal : ℕ) {n : ℕ} (en : n ≡ count_at bound copy literal) where
  pub told_not : n ≡ 0 → false ≡ is_told file bound copy clause literal
  unfolding is_told
  told_not z = rw (← en, eq-eqb n 0 z)

  pub told_so : (n ≡ 0 → ⊥) → {k : ℕ} → k ≡ clause → {own : List ℕ} → own ≡ clause_in file k → {j : ℕ} → j ≡ literal → {ws : List ℕ} → ws ≡ literal_part own j
      → {b : Bool} → b ≡ has_variable ws → b ≡ is_told file bound copy clause literal
  unfolding is_told
  told_so z ek eo ej ew eb = eb ∙ rw (ew, eo, ek, ej, ← en, ne_eqb n 0 z)

module _ (S : Source) (before after : List ℕ) (copy clause literal : ℕ) {b : Bool} (eb : b ≡ is_told S.file S.bound copy clause literal) where
  pub untold : not b ≡ true → (out : List ℕ) (at : ℕ) → Put out at (told_text S before after copy clause literal) out at
  unfolding told_text
  untold e out at = rw (← eb, not-true b e) (no_bytes out at)

  pub told_is : not b ≡ false → {o₀ o₁ o₂ o₃ : List ℕ} {n₀ n₁ n₂ n₃ : ℕ} → Put o₀ n₀ before o₁ n₁ → Put o₁ n₁ (bound_cut S.text S.index S.bound copy literal) o₂ n₂
      → Put o₂ n₂ after o₃ n₃ → Put o₀ n₀ (told_text S before after copy clause literal) o₃ n₃
  unfolding told_text
  told_is e p q r = rw (← eb, not-false b e) (joined p (joined q r))
