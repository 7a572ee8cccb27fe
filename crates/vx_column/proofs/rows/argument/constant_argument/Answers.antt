use Rattle.std.proofs.Common.{sym, ap, subst, ◌∙◌}
use Rattle.std.proofs.lemmas.Result.{IfOk-weaker}
use Rattle.vx_column.specs.Arguments.{IsRepeated}
use Rattle.vx_column.specs.ValidRows.{IsRepeatedValidity}
use Rattle.vx_column.proofs.NullRowsLemmas.{null_repeated}
use Rattle.vx_column.proofs.rows.argument.constant_argument.Goals as goal

pub returns-then-is_null-clause-rows : goal.returns-then-is_null-clause-rows
returns-then-is_null-clause-rows c =
    IfOk-weaker c.null_argument.result _ _ (λ a e. subst (IsRepeated c.args.scalar.now) (sym (ap (λ x. x.rows) e)) c.repeated_rows-rows.ensures)
    c.null_argument.ensures.ok

pub returns-then-is_null-clause-valid : goal.returns-then-is_null-clause-valid
returns-then-is_null-clause-valid c =
    let s = c.args.scalar.now in
    let none = null_repeated s c.args.len c.dtype-dtype.ensures.typed (sym c.is_null.ensures ∙ c.if-is_null.true) in
    IfOk-weaker c.null_argument.result _ _ (λ a e. subst (IsRepeatedValidity s c.args.len) (sym (ap (λ x. x.valid) e)) none) c.null_argument.ensures.ok
