use Rattle.std.proofs.Common.{false, [], refl, sym, ap, ◌∙◌}
use Rattle.vx_value.specs.Values.{boolean, bytes}
use Rattle.vx_mask.specs.Operands.{bit_in}
use Rattle.vx_column.specs.Arguments.{bytes_in, value_at}
use Rattle.vx_column.proofs.SelectLemmas.{column_selected, column_either}
use Rattle.vx_column.proofs.SelectedLemmas.{selected_stored}
use Rattle.vx_tree.specs.Views.{rows_of}
use Rattle.vx_column.proofs.ViewsLemmas.{views_counted}
use Rattle.vx_column.proofs.functions.select.select.select_rows.Goals as goal

pub returns-in-Nulls-Nulls-clause-ok : goal.returns-in-Nulls-Nulls-clause-ok
returns-in-Nulls-Nulls-clause-ok c =
    column_either c.args.choice.now c.args.if_true c.args.if_false c.args.valid.now c.args.len c.stored_column.result
    (ap value_at (c.in-Nulls-Nulls.is-0 ∙ sym c.in-Nulls-Nulls.is-1)) c.stored_column.ensures.ok

pub returns-in_ok-bits-in-Bits-Bits-clause-ok : goal.returns-in_ok-bits-in-Bits-Bits-clause-ok
returns-in_ok-bits-in-Bits-Bits-clause-ok c =
    let arm = c.in-Bits-Bits in
    column_selected boolean false c.args.choice.now c.args.if_true c.args.if_false _ _ (bit_in arm.if_true) (bit_in arm.if_false) c.args.valid.now c.args.len
    c.in_ok-bits-in-Bits-Bits.bits _ c.valid_bools.result arm.is-0 arm.is-1 refl refl refl c.in_ok-bits-in-Bits-Bits.ensures c.valid_bools.ensures.ok

pub valid_bytes-requires-clause-stored : goal.valid_bytes-requires-clause-stored
valid_bytes-requires-clause-stored c =
    let arm = c.in-Bytes-Bytes in
    selected_stored c.args.if_true c.args.if_false arm.if_true arm.if_false c.args.choice.now (rows_of c.in_ok-rows-in-Bytes-Bytes.rows) c.args.len arm.is-0 arm.is-1
    c.requires.same c.requires.left c.requires.right c.in_ok-rows-in-Bytes-Bytes.ensures.ok

pub returns-in_ok-rows-in-Bytes-Bytes-clause-ok : goal.returns-in_ok-rows-in-Bytes-Bytes-clause-ok
returns-in_ok-rows-in-Bytes-Bytes-clause-ok c =
    let arm = c.in-Bytes-Bytes in
    column_selected bytes [] c.args.choice.now c.args.if_true c.args.if_false _ _ (bytes_in arm.if_true) (bytes_in arm.if_false) c.args.valid.now c.args.len
    (rows_of c.in_ok-rows-in-Bytes-Bytes.rows) _ c.valid_bytes.result arm.is-0 arm.is-1 refl refl refl c.in_ok-rows-in-Bytes-Bytes.ensures.ok c.valid_bytes.ensures.ok

pub valid_bytes-requires-clause-rows : goal.valid_bytes-requires-clause-rows
valid_bytes-requires-clause-rows c = views_counted c.in_ok-rows-in-Bytes-Bytes.rows _ c.args.len c.in_ok-rows-in-Bytes-Bytes.ensures.ok
