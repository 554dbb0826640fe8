use borrow.Author.Rules.{rules}
use Rattle.answering.proofs.Refusing.{refused_is}
use Rattle.answering.proofs.ask.refused.Goals as goal

pub returns : goal.returns
returns c = search (rules, refused_is)
