use mathlib.Core.Path.{sym}
use Rattle.desk.proofs.Answering.{part_long, answer_ended, answer_none, answer_found}
use Rattle.desk.proofs.ask.ask.Goals as goal

pub slice_bounds-status_of-end : goal.slice_bounds-status_of-end
slice_bounds-status_of-end c = part_long c.args.slot c.requires.0 c.requires.1 c.write-words.ensures (sym c.filled-file.ensures.sized)

pub returns-then-said-eq-RAN_OUT : goal.returns-then-said-eq-RAN_OUT
returns-then-said-eq-RAN_OUT c = answer_ended c.args.slot c.requires.0 c.requires.1 c.write-words.ensures c.args.budget c.status_of-said.ensures c.if-said-eq-RAN_OUT.true

pub returns-then-said-eq-NONE_FOUND : goal.returns-then-said-eq-NONE_FOUND
returns-then-said-eq-NONE_FOUND c = answer_none c.args.slot c.requires.0 c.requires.1 c.write-words.ensures c.args.budget c.status_of-said.ensures c.if-said-eq-RAN_OUT.false c.if-said-eq-NONE_FOUND.true

pub returns : goal.returns
returns c = answer_found c.args.slot c.requires.0 c.requires.1 c.write-words.ensures c.args.budget c.status_of-said.ensures c.if-said-eq-RAN_OUT.false c.if-said-eq-NONE_FOUND.false
