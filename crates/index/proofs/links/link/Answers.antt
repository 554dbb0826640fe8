use Rattle.std.proofs.Common.{refl}
use Rattle.index.proofs.Linking.{link_indexed, link_begin}
use Rattle.index.proofs.links.link.Goals as goal

pub loop-literal-init : goal.loop-literal-init
loop-literal-init c = λ body g. link_begin c.args.work.now c.requires.1.size c.clear.ensures (link_indexed c.args.work.now c.requires.1.size c.clear.ensures g) refl
