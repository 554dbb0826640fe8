use native.Mathlib.Omega.{arith}
use borrow.Author.Rules.{rules}
use Rattle.season.proofs.Questions.{high_bound, long_question, long_file, as_alone}
use Rattle.season.proofs.Memory.{words_of, table_long}
use Rattle.season.proofs.ask.admits.Statement.{statement}
use Rattle.season.proofs.ask.admits.Tie as tie

returns : tie.Need-returns-then-bound-gt-HIGHEST_BOUND
returns c = high_bound c.args.table.now (words_of _ c.shared_slice_known-1.given) c.requires c.args.question.now c.args.bound c.if-bound-gt-HIGHEST_BOUND.true

returns-2 : tie.Need-returns-then-question-gt-LONGEST_CLAUSE
returns-2 c =
    long_question c.args.table.now (words_of _ c.shared_slice_known-1.given) c.requires c.args.question.now c.args.bound
    (words_of _ c.shared_slice_known-2-1.given) (omega arith) c.if-question-gt-LONGEST_CLAUSE.true

trailer-requires : tie.Need-trailer-requires
trailer-requires c κs = (table_long _ c.requires, omega arith)

returns-3 : tie.Need-returns-then-own-question-gt-LONGEST_FILE
returns-3 c =
    long_file c.args.table.now (words_of _ c.shared_slice_known-1.given) c.requires c.args.question.now c.args.bound
    (words_of _ c.shared_slice_known-2-1.given) (omega arith) (omega arith)

returns-4 : tie.Need-returns
returns-4 c =
    as_alone c.args.table.now (words_of _ c.shared_slice_known-1.given) c.requires c.args.question.now c.args.bound
    (words_of _ c.shared_slice_known-2-1.given) (omega arith) (omega arith) (omega arith) c.stands_alone.ensures

pub admits_spec : {M : Type 1} → statement M
admits_spec =
    tie.close
    (tie.spec
    returns
    returns-2
    trailer-requires
    (λ c κs. search rules)
    (λ c. search rules)
    (λ c. search rules)
    returns-3
    (λ c κs. search rules)
    returns-4)
