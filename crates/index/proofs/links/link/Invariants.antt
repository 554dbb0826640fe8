use Rattle.std.proofs.Common.{ℕ}
use Rattle.index.specs.Noting.{Indexed, Linked}
use Rattle.index.proofs.links.link.Given as goal

abbrev pub invariant-loop-literal : goal.invariant-loop-literal
invariant-loop-literal l = (body : ℕ) → Indexed l.file body l.fn.work → Linked l.file body l.work l.literal
