use Rattle.std.proofs.Common.{◌∙◌}
use Rattle.requests.proofs.Rows.{field_number, field_unknown, no_words, no_records, no_barred_bytes, field_words, field_records, field_bytes}
use Rattle.requests.proofs.request.read_field.Goals as goal

pub returns-in_err-at-in-Words : goal.returns-in_err-at-in-Words
returns-in_err-at-in-Words c = c.from_residual.ensures ∙ no_words c.args.line.now c.args.at c.in_err-at-in-Words.ensures c.in-Words.is

pub returns-in_err-at-in-Records : goal.returns-in_err-at-in-Records
returns-in_err-at-in-Records c =
    c.from_residual-in_err-at-in-Records.ensures ∙ no_records c.args.line.now c.args.at c.in_err-at-in-Records.ensures c.in-Records.is

pub returns-in_err-barred-in-Bytes : goal.returns-in_err-barred-in-Bytes
returns-in_err-barred-in-Bytes c =
    c.from_residual-in_err-barred-in-Bytes.ensures ∙ no_barred_bytes c.args.line.now c.args.at c.in_err-barred-in-Bytes.ensures c.in-Bytes.is

pub returns-in-Number : goal.returns-in-Number
returns-in-Number c = c.number.ensures ∙ field_number c.args.line.now c.args.at c.in-Number.is

pub returns-in_ok-at-in-Words : goal.returns-in_ok-at-in-Words
returns-in_ok-at-in-Words c =
    c.list.ensures ∙ field_words c.args.line.now c.args.at c.in_ok-at-in-Words.ensures c.wide.ensures c.in-Words.is c.words.ensures

pub returns-in_ok-at-in-Records : goal.returns-in_ok-at-in-Records
returns-in_ok-at-in-Records c =
    c.list-in-Records.ensures ∙ field_records c.args.line.now c.args.at c.in_ok-at-in-Records.ensures c.wide-in-Records.ensures c.in-Records.is c.records.ensures

pub returns-in_ok-barred-in-Bytes : goal.returns-in_ok-barred-in-Bytes
returns-in_ok-barred-in-Bytes c =
    c.bytes.ensures ∙ field_bytes c.args.line.now c.args.at c.in_ok-barred-in-Bytes.ensures c.wide-in-Bytes.ensures c.in-Bytes.is

pub returns-in-Unknown : goal.returns-in-Unknown
returns-in-Unknown c = field_unknown c.args.line.now c.args.at c.in-Unknown.is
