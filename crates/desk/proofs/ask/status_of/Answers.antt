use Rattle.desk.proofs.Heard.{status_is}
use Rattle.desk.proofs.ask.status_of.Goals as goal
use mathlib.Core.Path.{sym}

pub returns : goal.returns
returns c =
    let a = c.args in
    status_is a.file.now a.budget c.filled-proof.result c.filled-answer.result c.filled-work.result (sym c.filled-proof.ensures.sized) (sym c.filled-answer.ensures.sized) (sym c.filled-work.ensures.sized) c.search-outcome.ensures.value
