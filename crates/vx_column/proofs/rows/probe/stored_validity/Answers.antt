use Rattle.vx_column.proofs.CellsLemmas.{bits_row, row_known}
use Rattle.vx_column.proofs.rows.probe.stored_validity.Goals as goal

pub returns-in-Bool-default-None-clause-row : goal.returns-in-Bool-default-None-clause-row
returns-in-Bool-default-None-clause-row c v =
    let plain = c.in-Bool-default-None in
    let told = bits_row c.in-Some.child plain.field-1.now plain.bits.now c.args.index c.value.result plain.ensures.0 plain.field-1-is c.value.ensures in
    row_known c.args.validity.now c.in-Some.child c.args.index c.value.result v c.in-Some.is told
