use Rattle.std.proofs.Common.{arith, length}
use Rattle.clauselines.proofs.Calls.{file_refused, file_ready, none_written, bytes_fit, too_long, written}
use Rattle.clauselines.proofs.call.write.Goals as goal

pub returns-then-judged-ne0-clause-value : goal.returns-then-judged-ne0-clause-value
returns-then-judged-ne0-clause-value c =
    (none_written {buffer = c.args.text.now} (file_refused c.args.file.now c.judge-judged.ensures (length c.args.text.now) c.if-judged-ne0.true) c.refused.ensures).0

pub returns-then-judged-ne0-clause-text_after : goal.returns-then-judged-ne0-clause-text_after
returns-then-judged-ne0-clause-text_after c =
    (none_written {buffer = c.args.text.now} (file_refused c.args.file.now c.judge-judged.ensures (length c.args.text.now) c.if-judged-ne0.true) c.refused.ensures).1

pub lines-bytes-requires : goal.lines-bytes-requires
lines-bytes-requires c = file_ready c.args.file.now c.judge-judged.ensures c.if-judged-ne0.false c.type_inv.file

pub returns-then-text-bytes-clause-value : goal.returns-then-text-bytes-clause-value
returns-then-text-bytes-clause-value c =
    (too_long c.args.file.now c.judge-judged.ensures c.if-judged-ne0.false c.type_inv.file c.lines-bytes.ensures {text = c.args.text.now} (omega arith) c.refused-then-text-bytes.ensures).0

pub returns-then-text-bytes-clause-text_after : goal.returns-then-text-bytes-clause-text_after
returns-then-text-bytes-clause-text_after c =
    (too_long c.args.file.now c.judge-judged.ensures c.if-judged-ne0.false c.type_inv.file c.lines-bytes.ensures {text = c.args.text.now} (omega arith) c.refused-then-text-bytes.ensures).1

pub lines-requires : goal.lines-requires
lines-requires c = file_ready c.args.file.now c.judge-judged.ensures c.if-judged-ne0.false c.type_inv.file

pub overflow_cast-result : goal.overflow_cast-result
overflow_cast-result c = bytes_fit c.args.file.now c.judge-judged.ensures c.if-judged-ne0.false c.type_inv.file c.lines-bytes.ensures

pub returns-clause-value : goal.returns-clause-value
returns-clause-value c =
    (written c.args.file.now c.judge-judged.ensures c.if-judged-ne0.false c.type_inv.file c.lines-bytes.ensures {text = c.args.text.now} (omega arith) c.lines.ensures).0

pub returns-clause-text_after : goal.returns-clause-text_after
returns-clause-text_after c =
    (written c.args.file.now c.judge-judged.ensures c.if-judged-ne0.false c.type_inv.file c.lines-bytes.ensures {text = c.args.text.now} (omega arith) c.lines.ensures).1
