use Rattle.naming.proofs.Indexing.{fine_short, fine_said, wrong_refused}
use Rattle.naming.proofs.ClauseIndex.{unindexed}
use Rattle.naming.proofs.index.index.Goals as goal

pub index_text-requires : goal.index_text-requires
index_text-requires c =
    let text = c.args.text.now in
    let told = c.judge_text.ensures in
    (fine_short text told c.in-Ok.is, fine_said text told c.in-Ok.is, c.requires)

pub returns-in-Err : goal.returns-in-Err
returns-in-Err c = unindexed c.requires (wrong_refused c.args.text.now c.judge_text.ensures c.in-Err.is)
