use Rattle.std.proofs.Common.{sym, ◌∙◌, eqb-true}
use borrow.Author.Tests.{eqb-false}
use Rattle.text.proofs.Written.{bytes_none, bytes_some}
use Rattle.text.proofs.put.byte_list.Goals as goal

pub returns-then-is_empty : goal.returns-then-is_empty
returns-then-is_empty c = bytes_none _ (eqb-true _ _ (sym c.is_empty.ensures ∙ c.if-is_empty.true)) c.byte.ensures

pub returns : goal.returns
returns c = bytes_some _ (eqb-false _ _ (sym c.is_empty.ensures ∙ c.if-is_empty.false)) c.pairs.ensures
