use Rattle.std.proofs.Common.{rules}
use Rattle.tptp.proofs.Shaping.{shaping_laws, shaping_on, shaping_end}
use Rattle.tptp.proofs.shape.shapes.Goals as goal

ruleset all = (rules, shaping_laws)

pub loop-i-init : goal.loop-i-init
loop-i-init c = search all

pub loop-i-preserved : goal.loop-i-preserved
loop-i-preserved c = shaping_on c.requires c.loop-i.invariant c.loop-i-test.true c.fits.ensures c.if-not-fits.false c.shape.ensures

pub returns-then-not-fits : goal.returns-then-not-fits
returns-then-not-fits c = search all

pub returns : goal.returns
returns c = shaping_end c.requires c.loop-i.invariant c.loop-i-test.false
