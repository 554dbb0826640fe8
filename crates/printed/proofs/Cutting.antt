-- A text cut at every place where a byte stands.
use borrow.Author.Tests.{eq-eqb}
use mathlib.Core.List.{List, [], ◌∷◌, ◌++◌, append-nil}
use mathlib.Core.Bool.{false}
use mathlib.Core.Path.{◌≡◌, refl, ap}
use Prim.Native.Nat.{ℕ}
use lib.Dec.{eqb}
use Rattle.rules.proofs.Every.{All, all_first, all_rest}
use Rattle.printed.specs.Reading.{begun, cut_at}

-- the byte stands nowhere
abbrev pub Free : ℕ → List ℕ → Type 0
Free sign text = All (λ c. eqb c sign ≡ false) text

module _ (sign : ℕ) where
  pub cut_whole : (part : List ℕ) → Free sign part → cut_at sign part ≡ part ∷ []
  unfolding cut_at
  cut_whole [] f = refl
  cut_whole (c ∷ part) f = rw (all_first f) (ap (λ (parts : List (List ℕ)). begun c parts) (cut_whole part (all_rest f)))

  pub cut_last : (part : List ℕ) → Free sign part → cut_at sign (part ++ []) ≡ part ∷ []
  cut_last part f = rw (append-nil part) (cut_whole part f)

  pub cut_first : (part rest : List ℕ) → Free sign part → cut_at sign (part ++ (sign ∷ rest)) ≡ part ∷ cut_at sign rest
  unfolding cut_at
  cut_first [] rest f = rw (eq-eqb sign sign refl)
  cut_first (c ∷ part) rest f = rw (all_first f) (ap (λ (parts : List (List ℕ)). begun c parts) (cut_first part rest (all_rest f)))
