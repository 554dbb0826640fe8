-- The checker says the same of the same steps over a table and over the renumbered table.
use mathlib.Core.List.{List, map}
use mathlib.Core.Path.{◌≡◌, refl, sym, ap, subst, ◌∙◌}
use Prim.Native.Nat.{ℕ}
use Rattle.words.specs.declared.Step.{Step}
use Rattle.table.specs.Syntax.{Table}
use Rattle.rules.specs.Setting.{Profile, over}
use Rattle.rules.specs.Tableau.{Leaf, Tableau, start, stepped}
use Rattle.rules.specs.Verdict.{malformed, not_allowed, not_unified, leaves_open, CheckVerdict, accepted, refused, Checks, no_leaf, some_leaf, no_step, no_tableau, no_unifier, taken}
use Rattle.rules.proofs.Steps.{does}
use Rattle.rules.proofs.Checker.{one_verdict}
use Rattle.roundtrip.specs.Renumbered.{renumbered}
use Rattle.roundtrip.specs.Promises.{SaysTheSame, accepts, refuses}
use Rattle.roundtrip.proofs.Permutations.{Permutation}
use Rattle.roundtrip.proofs.Images.{leaf_image, Image, both_none, both_some, unifiable_forth}
use Rattle.roundtrip.proofs.Reasons.{newest_image}
use Rattle.roundtrip.proofs.SameSteps.{turned_table, of_copies, copies_of, Follows, follows_on, step_image, start_image}
use Rattle.roundtrip.proofs.SameProofs.{predicate_numbers, function_numbers, turned_so}

module _ (rules : Profile) (p f : Permutation ℕ) (t : Table) (bound : ℕ) (steps : List Step) where
  abbrev u : Table
  u = turned_table p f t

  abbrev Alike : Tableau → Tableau → Type 0
  Alike x y = Image p f (of_copies t.question (copies_of t steps)) x y

  abbrev ToCome : Tableau → List Step → Type 0
  ToCome x ss = Follows rules p f t bound (copies_of t steps) x ss

  checks-image : {x y : Tableau} {place : ℕ} {ss : List Step} {c : CheckVerdict} → Alike x y → ToCome x ss → Checks (over rules t bound) x place ss c
      → (d : CheckVerdict) × Checks (over rules u bound) y place ss d × SaysTheSame c d
  checks-image {x} {y} m h (no_leaf e) =
      (accepted y, no_leaf (m.leaves ∙ ap (λ (ls : List Leaf). map (leaf_image p f (of_copies t.question (copies_of t steps))) ls) e), accepts (sym m.questions))
  checks-image m h (some_leaf {place = place} e) =
      (refused leaves_open place, some_leaf (m.leaves ∙ ap (λ (ls : List Leaf). map (leaf_image p f (of_copies t.question (copies_of t steps))) ls) e), refuses)
  checks-image m h (no_step {place = place}) = (refused malformed place, no_step, refuses)
  checks-image {x} {y} m h (no_tableau {place = place} {s = s} {ss = ss} n e) =
      let b = rw e at (step_image rules p f t bound (copies_of t steps) m s ss h) in
      (refused not_allowed place, no_tableau n (both_none p f (of_copies t.question (copies_of t steps)) (stepped (over rules u bound) y s) b), refuses)
  checks-image {x} {y} m h (no_unifier {y = x'} {place = place} {s = s} {ss = ss} {r = r} e n) =
      let b = rw e at (step_image rules p f t bound (copies_of t steps) m s ss h) in
      let k = both_some p f (of_copies t.question (copies_of t steps)) x' (stepped (over rules u bound) y s) b in
      (refused (not_unified r) place, no_unifier k.1 (newest_image p f (of_copies t.question (copies_of t steps)) k.2.pairs n), refuses)
  checks-image {x} {y} m h (taken {y = x'} {s = s} {ss = ss} e un rest) =
      let b = rw e at (step_image rules p f t bound (copies_of t steps) m s ss h) in
      let k = both_some p f (of_copies t.question (copies_of t steps)) x' (stepped (over rules u bound) y s) b in
      let r = checks-image k.2 (follows_on rules p f t bound (copies_of t steps) ss (does s e) h) rest in
      (r.0, taken k.1 (unifiable_forth p f (of_copies t.question (copies_of t steps)) k.2.pairs un) r.1, r.2)

  turned-verdicts : (c d : CheckVerdict) → Checks (over rules t bound) (start t) 0 steps c → Checks (over rules u bound) (start u) 0 steps d → SaysTheSame c d
  unfolding start
  turned-verdicts c d x y =
      let r = checks-image (start_image rules p f t bound (copies_of t steps) refl) refl x in
      let same : r.0 ≡ d = one_verdict (over rules u bound) r.1 y in
      subst (λ (e : CheckVerdict). SaysTheSame c e) same r.2

pub same_verdicts : (rules : Profile) (t : Table) (bound : ℕ) (steps : List Step) (c d : CheckVerdict) → Checks (over rules t bound) (start t) 0 steps c
    → Checks (over rules (renumbered t) bound) (start (renumbered t)) 0 steps d → SaysTheSame c d
same_verdicts rules t bound steps c d x y = turned-verdicts rules (predicate_numbers t) (function_numbers t) t bound steps c d x (rw (sym (turned_so t)) at y)
