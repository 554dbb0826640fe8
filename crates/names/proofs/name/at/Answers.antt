use Rattle.std.proofs.Common.{sym}
use Rattle.names.proofs.Same.{no_name, name_taken, name_within}
use Rattle.names.proofs.name.at.Goals as goal

pub returns-then-text-place : goal.returns-then-text-place
returns-then-text-place c = sym (no_name c.args.text.now c.args.place c.if-text-place.true)

pub slice_bounds-result-end-2 : goal.slice_bounds-result-end-2
slice_bounds-result-end-2 c = name_within c.args.text.now c.args.place c.word_length-length.ensures

pub returns : goal.returns
returns c = name_taken c.args.text.now c.args.place c.word_length-length.ensures
