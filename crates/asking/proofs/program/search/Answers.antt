use Rattle.asking.proofs.Writes.{search_writes}
use Rattle.asking.proofs.program.search.Goals as goal

pub returns : goal.returns
returns c =
    search_writes c.args.file.now c.args.bound c.args.budget c.filled-proof.result c.filled-answer.result c.filled-work.result
    c.filled-proof.ensures.sized c.filled-answer.ensures.sized c.filled-work.ensures.sized
    c.search-o.ensures.value c.search-o.ensures.proof_after c.search-o.ensures.answer_after
    c.wide-steps.ensures c.wide-words.ensures c.front.ensures c.front-2.ensures c.report.ensures
