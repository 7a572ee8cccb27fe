use Rattle.std.proofs.Common.{true, false, refl, sym, ap, ◌∙◌}
use Rattle.std.proofs.lemmas.Result.{IfOk-weaker}
use Rattle.vx_mask.specs.declared.operand.BitOperand.TheVariants.{Bit, Bits}
use Rattle.vx_column.specs.Arguments.{plain_type}
use Rattle.vx_column.proofs.SelectLemmas.{is_selected}
use Rattle.vx_column.proofs.functions.select.select.select.Goals as goal

pub returns-in-Bit-true-clause-ok : goal.returns-in-Bit-true-clause-ok
returns-in-Bit-true-clause-ok c =
    let valid = c.in_ok-valid.ensures in
    is_selected c.args.choice (Bit true) c.args.if_true.now c.args.if_false.now (plain_type c.args.if_true.now.rows) c.in_ok-valid.valid c.args.len
    c.stored_column.result (c.in-Bit-true.is ∙ ap Bit (sym c.in-Bit-true.field-0-is ∙ c.in-Bit-true.field-0-test)) refl valid.rows valid.nullability
    c.stored_column.ensures.ok

pub returns-in-Bit-false-clause-ok : goal.returns-in-Bit-false-clause-ok
returns-in-Bit-false-clause-ok c =
    let valid = c.in_ok-valid.ensures in
    is_selected c.args.choice (Bit false) c.args.if_true.now c.args.if_false.now (plain_type c.args.if_false.now.rows) c.in_ok-valid.valid c.args.len
    c.stored_column-in-Bit-false.result (c.in-Bit-false.is ∙ ap Bit (sym c.in-Bit-false.field-0-is ∙ c.in-Bit-false.field-0-test)) (sym c.requires.same)
    valid.rows valid.nullability c.stored_column-in-Bit-false.ensures.ok

pub returns-clause-ok : goal.returns-clause-ok
returns-clause-ok c =
    let valid = c.in_ok-valid.ensures in
    is_selected c.args.choice (Bits c.in-Bits.bits) c.args.if_true.now c.args.if_false.now (plain_type c.args.if_true.now.rows) c.in_ok-valid.valid c.args.len
    c.select_rows.result c.in-Bits.is refl valid.rows valid.nullability
    (IfOk-weaker c.select_rows.result _ _ (λ u h. (h.typed, h.made)) c.select_rows.ensures.ok)
