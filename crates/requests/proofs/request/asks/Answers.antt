use Rattle.std.proofs.Common.{◌∙◌, ap}
use Rattle.text.specs.Put.{put}
use Rattle.requests.proofs.Rows.{other_verb, this_verb, values_left, values_read}
use Rattle.requests.proofs.request.asks.Goals as goal

pub returns-then-is : goal.returns-then-is
returns-then-is c = record {
  value = c.read.ensures.value ∙ this_verb c.args.line.now c.args.verb.now c.args.row.now c.is.ensures c.if-is.true;
  values_after = c.read.ensures.values_after ∙ ap (put c.args.values.now 0) (values_read c.args.line.now c.args.verb.now c.args.row.now c.is.ensures c.if-is.true);
}

pub returns : goal.returns
returns c = record {
  value = other_verb c.args.line.now c.args.verb.now c.args.row.now c.is.ensures c.if-is.false;
  values_after = values_left c.args.line.now c.args.verb.now c.args.row.now c.is.ensures c.if-is.false c.args.values.now;
}
