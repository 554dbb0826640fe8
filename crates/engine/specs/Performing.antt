-- Machinery: what a step on the work words comes to by the rules. No public contract speaks of it.
use Rattle.std.specs.Prelude.{Result, Ok, Err, List, ◌≡◌, ℕ}
use Rattle.rules.specs.Machinery.Play.{Play, Performed, goes_on, clashes, circular}
use Rattle.tableaux.specs.Ready.{Stands}
use Rattle.tableaux.specs.declared.tableau.Place.{Place}
use Rattle.unification.specs.declared.unify.Unmet.{Unmet}
use Rattle.unification.specs.declared.unify.Unmet.TheVariants.{Clash, Circle}

-- what performing a step comes to, by how its pair met: on to a play that the work words stand for, or to a failure
abbrev pub Comes : List ℕ → List ℕ → ℕ → Result Place Unmet → Performed → Type 0
Comes f m question (Ok place) o = (q : Play) × (o ≡ goes_on q) × Stands f m question place q.tableau q.bindings
Comes f m question (Err Clash) o = o ≡ clashes
Comes f m question (Err Circle) o = o ≡ circular
