use Rattle.std.proofs.lemmas.Result.{err_from_is_err_and}
use Rattle.tableaux.proofs.Reducing.{reduce_small, reduce_meets, reduced_as, reduced_stops}
use Rattle.tableaux.proofs.tableau.reduce.Goals as goal

pub note_step-requires : goal.note_step-requires
note_step-requires c = reduce_small c.requires c.args.step

pub meet_atoms-requires : goal.meet_atoms-requires
meet_atoms-requires c = reduce_meets c.requires c.args.step c.note_step.ensures c.literal_of-literal.ensures

pub returns-in_err-meet_atoms : goal.returns-in_err-meet_atoms
returns-in_err-meet_atoms c =
    let p = err_from_is_err_and c.from_residual.result c.from_residual.ensures.1 in
    rw (p.1, p.2) (reduced_stops c.requires c.args.step c.note_step.ensures c.literal_of-literal.ensures c.in_err-meet_atoms.ensures)

pub returns : goal.returns
returns c = reduced_as c.requires c.args.step c.note_step.ensures c.literal_of-literal.ensures c.right_of-rest.ensures c.in_ok-meet_atoms.ensures
