-- A file written with the question last, with premises as the code has them.
use mathlib.Core.List.{List, [], ◌++◌}
use mathlib.Core.Path.{◌≡◌, sym, ap, ◌∙◌}
use Prim.Native.Nat.{ℕ, ◌+◌, ◌-◌}
use native.Mathlib.Omega.{arith}
use lib.ListN.{length, take, drop, length-append, length-drop}
use lib.Seq.{take_all, length-take-le}
use Rattle.table.specs.Build.{at_front, behind, sealed}
use Rattle.table.proofs.Building.{more_behind}
use Rattle.tptp.specs.Body.{part, moved_last, Parted}

module _ {words : List ℕ} {at end clauses : ℕ} {file : List ℕ} (p : Parted words at end clauses file) where
  front_long : length (take at words) ≡ at
  front_long = length-take-le at words (omega (arith, p.ordered, p.inside))

  both_long : length (take at words ++ drop end words) ≡ at + (length words - end)
  both_long = length-append (take at words) (drop end words) ∙ omega (arith, front_long, length-drop end words)

  first-put : {f₁ : List ℕ} → f₁ ≡ behind file 0 (take (at - 0) (drop 0 words)) → f₁ ≡ at_front (take at words) file
  first-put e = let z : at - 0 ≡ at = omega arith in e ∙ rw z (more_behind [] (take at words) file)

  second-put : {f₁ f₂ : List ℕ} → f₁ ≡ at_front (take at words) file → f₂ ≡ behind f₁ at (take (length words - end) (drop end words))
      → f₂ ≡ at_front (take at words ++ drop end words) file
  second-put a e =
      e ∙ rw (a, take_all (length words - end) (drop end words) (omega (arith, length-drop end words)))
      (ap (λ (n : ℕ). behind (at_front (take at words) file) n (drop end words)) (sym front_long) ∙ more_behind (take at words) (drop end words) file)

  third-put : {f₂ f₃ : List ℕ} → f₂ ≡ at_front (take at words ++ drop end words) file → f₃ ≡ behind f₂ (at + (length words - end)) (part at end words)
      → f₃ ≡ at_front (moved_last words at end) file
  third-put a e =
      e ∙ rw a
      (ap (λ (n : ℕ). behind (at_front (take at words ++ drop end words) file) n (part at end words)) (sym both_long)
      ∙ more_behind (take at words ++ drop end words) (part at end words) file)

  pub write_done : {f₁ f₂ f₃ f₄ : List ℕ} → f₁ ≡ behind file 0 (take (at - 0) (drop 0 words)) → f₂ ≡ behind f₁ at (take (length words - end) (drop end words))
      → f₃ ≡ behind f₂ (at + (length words - end)) (part at end words)
      → f₄ ≡ sealed f₃ (length words) (at + (length words - end)) clauses
      → f₄ ≡ sealed (at_front (moved_last words at end) file) (length words) (at + (length words - end)) clauses
  write_done a b c d =
      d ∙ ap (λ (f : List ℕ). sealed f (length words) (at + (length words - end)) clauses) (third-put (second-put (first-put a) b) c)
