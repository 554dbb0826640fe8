-- The text of literals in rows: a row for each disjunct.
use borrow.Author.Tests.{ne_eqb}
use mathlib.Core.Bool.{Bool}
use mathlib.Core.List.{List, [], ◌∷◌, ◌++◌, append_assoc, flatten}
use mathlib.Core.Path.{◌≡◌, refl, sym, ap, ◌∙◌}
use Prim.Native.Nat.{ℕ, suc, ◌+◌, ◌%◌, ◌<◌}
use native.Mathlib.Nat.{mod-eq_of_lt, mod_self, suc-mod, zero-mod}
use native.Mathlib.Omega.{arith}
use lib.Dec.{eqb}
use lib.ListN.{length}
use Rattle.table.specs.Syntax.{Literal}
use Rattle.table.specs.Limits.{Each}
use Rattle.text.specs.Quoted.{bytes}
use Rattle.naming.specs.Shown.{Names, joint_text}
use Rattle.naming.specs.Texts.{literal_text, literals_text}

module _ (names : Names) where
  -- literals after the first of a row, a row, and rows after the first
  unfoldable pub further_literals : List (Literal ℕ) → List ℕ
  further_literals [] = []
  further_literals (l ∷ ls) = bytes " & " ++ (literal_text names l ++ further_literals ls)

  unfoldable pub row_text : List (Literal ℕ) → List ℕ
  row_text [] = []
  row_text (l ∷ ls) = literal_text names l ++ further_literals ls

  unfoldable pub further_rows : List (List (Literal ℕ)) → List ℕ
  further_rows [] = []
  further_rows (d ∷ ds) = bytes "\nor " ++ (row_text d ++ further_rows ds)

-- what stands before a literal within a row, and before the first of a row
joint_within : (more before j : ℕ) → suc before % suc more ≡ suc j % suc more → suc j < suc more → joint_text (suc more) (suc before) ≡ bytes " & "
unfolding joint_text
joint_within more before j e h =
    let same : suc j % suc more ≡ suc j = mod-eq_of_lt h in
    let other : eqb (suc before % suc more) 0 ≡ Bool.false = ne_eqb (suc before % suc more) 0 (λ z. omega arith) in
    rw other

joint_first : (more before : ℕ) → suc before % suc more ≡ 0 → joint_text (suc more) (suc before) ≡ bytes "\nor "
unfolding joint_text
joint_first more before e = rw e

next : (m before j : ℕ) → before % m ≡ j % m → suc before % m ≡ suc j % m
next m before j e = suc-mod before m ∙ ap (λ (n : ℕ). suc n % m) e ∙ sym (suc-mod j m)

module _ (names : Names) (more : ℕ) where
  further-text : (ls rest : List (Literal ℕ)) (tail : List ℕ) (before j : ℕ) → suc before % suc more ≡ suc j % suc more → suc j + length ls ≡ suc more
      → ((b : ℕ) → suc b % suc more ≡ 0 → literals_text names (suc more) (suc b) rest ≡ tail)
      → literals_text names (suc more) (suc before) (ls ++ rest) ≡ further_literals names ls ++ tail
  unfolding further_literals literals_text
  further-text [] rest tail before j e n k =
      let last : suc j ≡ suc more = omega arith in
      k before (e ∙ ap (λ (i : ℕ). i % suc more) last ∙ mod_self (suc more))
  further-text (l ∷ ls) rest tail before j e n k =
      ap (λ (joint : List ℕ). joint ++ literal_text names l ++ literals_text names (suc more) (suc (suc before)) (ls ++ rest)) (joint_within more before j e (omega arith))
      ∙ ap (λ (t : List ℕ). bytes " & " ++ literal_text names l ++ t)
      (further-text ls rest tail (suc before) (suc j) (next (suc more) (suc before) (suc j) e) (omega arith) k)
      ∙ simp append_assoc

  further-rows : (ds : List (List (Literal ℕ))) → Each (λ d. length d ≡ suc more) ds → (before : ℕ) → suc before % suc more ≡ 0
      → literals_text names (suc more) (suc before) (flatten ds) ≡ further_rows names ds
  unfolding Each flatten further_rows row_text literals_text
  further-rows [] h before e = refl
  further-rows ([] ∷ ds) h before e = absurd (omega (arith, h.0))
  further-rows ((l ∷ ls) ∷ ds) h before e =
      ap (λ (joint : List ℕ). joint ++ literal_text names l ++ literals_text names (suc more) (suc (suc before)) (ls ++ flatten ds)) (joint_first more before e)
      ∙ ap (λ (t : List ℕ). bytes "\nor " ++ literal_text names l ++ t)
      (further-text ls (flatten ds) (further_rows names ds) (suc before) 0 (next (suc more) (suc before) 0 (e ∙ sym (zero-mod (suc more)))) (omega (arith, h.0))
      (λ b z. further-rows ds h.1 b z))
      ∙ simp append_assoc

  -- a first row, and further ones
  pub rows_text : (d : List (Literal ℕ)) (ds : List (List (Literal ℕ))) → Each (λ d. length d ≡ suc more) (d ∷ ds)
      → literals_text names (suc more) 0 (flatten (d ∷ ds)) ≡ row_text names d ++ further_rows names ds
  unfolding Each flatten row_text literals_text joint_text
  rows_text [] ds h = absurd (omega (arith, h.0))
  rows_text (l ∷ ls) ds h =
      ap (λ (t : List ℕ). literal_text names l ++ t)
      (further-text ls (flatten ds) (further_rows names ds) 0 0 refl (omega (arith, h.0)) (λ b z. further-rows ds h.1 b z))
      ∙ simp append_assoc
