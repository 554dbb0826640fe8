use Rattle.std.proofs.Common.{arith}
use Rattle.index.proofs.Linking.{first_missing, first_low, first_by_last}
use Rattle.index.proofs.links.first.Goals as goal

pub returns-in_default : goal.returns-in_default
returns-in_default c = λ body g. first_missing g _ (c.in_default.ensures body 0 g)

pub bounds-work-wide : goal.bounds-work-wide
bounds-work-wide c = let g = c.requires.1 in omega (arith, c.wide.ensures, g.indexed.size, (first_low g _ (c.in-Some.ensures _ 0 g)).1)

pub returns : goal.returns
returns c = λ body g. first_by_last g _ (c.in-Some.ensures body 0 g) c.wide.ensures
