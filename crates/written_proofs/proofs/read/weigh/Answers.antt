use Rattle.written_proofs.proofs.Pieces.{turn_verb, turn_height, turn_clause, turn_literal}
use Rattle.written_proofs.specs.Steps.{names_of}
use Rattle.written_proofs.proofs.read.weigh.Goals as goal

pub returns-in-Step : goal.returns-in-Step
returns-in-Step c = turn_verb (names_of c.args.text.now c.args.places.now) c.args.own.now c.in-Step.is c.verb.ensures

pub returns-in-Height : goal.returns-in-Height
returns-in-Height c = turn_height (names_of c.args.text.now c.args.places.now) c.args.own.now c.in-Height.is c.number.ensures c.reduction.ensures

pub returns-in-Clause : goal.returns-in-Clause
returns-in-Clause c = turn_clause (names_of c.args.text.now c.args.places.now) c.args.own.now c.in-Clause.is c.told.ensures c.named.ensures

pub returns-in-Literal : goal.returns-in-Literal
returns-in-Literal c = turn_literal (names_of c.args.text.now c.args.places.now) c.args.own.now c.in-Literal.is c.number-in-Literal.ensures c.extension.ensures
