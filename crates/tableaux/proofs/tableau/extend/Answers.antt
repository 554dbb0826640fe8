use Rattle.std.proofs.Common.{arith}
use Rattle.std.proofs.lemmas.Result.{err_from_is_err_and}
use Rattle.tableaux.proofs.Extending.{extend_small, extend_meets, extend_stopped, extend_some, extend_under, extend_went_on}
use Rattle.tableaux.proofs.tableau.extend.Goals as goal

pub overflow_add-copy : goal.overflow_add-copy
overflow_add-copy c =
    let small = extend_small c.requires c.args.step in
    record { fits = omega (arith, c.open_copy-copy.ensures.0) }

pub meet_entered-requires : goal.meet_entered-requires
meet_entered-requires c = extend_meets c.requires c.args.step c.open_copy-copy.ensures c.literal_of-literal.ensures

pub returns-in_err-meet_entered : goal.returns-in_err-meet_entered
returns-in_err-meet_entered c =
    let p = err_from_is_err_and c.from_residual.result c.from_residual.ensures.1 in
    rw (p.1, p.2) (extend_stopped c.requires c.args.step c.open_copy-copy.ensures c.literal_of-literal.ensures c.meet_entered.ensures c.in_err-meet_entered.was)

pub overflow_sub-others : goal.overflow_sub-others
overflow_sub-others c = extend_some c.requires c.args.step c.open_copy-copy.ensures c.literal_of-literal.ensures c.meet_entered.ensures c.literals_at-others.ensures

pub hang_under-requires : goal.hang_under-requires
hang_under-requires c =
    let under = extend_under c.requires c.args.step c.open_copy-copy.ensures c.literal_of-literal.ensures c.meet_entered.ensures c.literals_at-others.ensures in
    record { work_len = under.0; count_value = under.1 }

pub returns : goal.returns
returns c = extend_went_on c.requires c.args.step c.open_copy-copy.ensures c.literal_of-literal.ensures c.meet_entered.ensures c.in_ok-meet_entered.was c.hang_under.ensures
