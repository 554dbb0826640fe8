-- What order 5's relation is worth, as statements. Nothing is proved here; proofs/Comparison.antt proves each of them.
use Rattle.std.specs.Prelude.{List, [], ◌∷◌, ◌↔◌, ◌≡◌}
use Rattle.table.specs.Syntax.{Term, under}
use Rattle.rules.specs.Substitution.{Variable, Substitution, Pair, Unifiable, MostGeneral}
use Rattle.rules.specs.Comparison.{Reason, a_clash, a_circle, Fails, NewestFails}
use Rattle.rules.specs.Machinery.Unify.{clash, circle, unify}

-- There is one reason alone.
abbrev pub OneReason : Type 0
OneReason = (s t : Term Variable) (r q : Reason) → Fails s t r → Fails s t q → r ≡ q

-- A comparison fails exactly where no substitution makes the two terms equal.
abbrev pub FailsExactly : Type 0
FailsExactly = (s t : Term Variable) → ((r : Reason) × Fails s t r) ↔ (¬ Unifiable (record { left = s; right = t } ∷ []))

-- The reason is the same whichever of two free variables was bound to the other: under every most general solution of what came before,
abbrev pub AnyBindings : Type 0
AnyBindings =
    (ps : List Pair) (σ τ : Substitution) → MostGeneral σ ps → MostGeneral τ ps → (s t : Term Variable) (r : Reason)
    → Fails (under σ s) (under σ t) r → Fails (under τ s) (under τ t) r

-- and whichever of the two stands left.
abbrev pub EitherSide : Type 0
EitherSide = (s t : Term Variable) (r : Reason) → Fails s t r → Fails t s r

-- The newest pair fails for one reason alone, and exactly where the pairs before it are made equal and all together are not.
abbrev pub OneReasonOfTheNewest : Type 0
OneReasonOfTheNewest = (ps : List Pair) (r q : Reason) → NewestFails ps r → NewestFails ps q → r ≡ q

abbrev pub NewestFailsExactly : Type 0
NewestFailsExactly =
    (p : Pair) (ps : List Pair) → ((r : Reason) × NewestFails (p ∷ ps) r) ↔ (Unifiable ps × (¬ Unifiable (p ∷ ps)))

-- The comparison that the machinery makes says which.
abbrev pub ComparisonSays : Type 0
ComparisonSays =
    (s t : Term Variable) → ((unify [] s t ≡ clash) ↔ Fails s t a_clash) × ((unify [] s t ≡ circle) ↔ Fails s t a_circle)
