use Rattle.requests.proofs.DeskRecords.{record_put}
use Rattle.requests.proofs.records.RecordListed.put.Goals as goal

pub returns : goal.returns
returns c = record_put c.word-a.ensures c.word-b.ensures c.word.ensures
