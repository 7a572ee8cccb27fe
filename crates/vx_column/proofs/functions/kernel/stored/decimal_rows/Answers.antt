use Rattle.std.proofs.Common.{◌≡◌, pos, refl, ap, subst, ◌∙◌, rules}
use Rattle.std.proofs.lemmas.Result.{IfOk-weaker}
use Rattle.vx_tree.specs.DecimalNumbers.{numbers_of, decimal_type_of}
use Rattle.vx_column.specs.Arguments.{unscaled_at, HasDecimals}
use Rattle.vx_column.proofs.CellsLemmas.{IfOk-both}
use Rattle.vx_column.proofs.RowsLemmas.{rows_shared, number_repeated}
use Rattle.vx_column.proofs.UnscaledLemmas.{row_digits, numbers_stored}
use Rattle.vx_column.proofs.functions.kernel.stored.decimal_rows.Goals as goal

pub returns-in_ok-clone-in-Rows-clause-values : goal.returns-in_ok-clone-in-Rows-clause-values
returns-in_ok-clone-in-Rows-clause-values c =
    let d = c.args.decimals in
    let n = c.args.len in
    let zs = numbers_of c.in-Rows.values.now in
    let same : numbers_of c.in_ok-clone-in-Rows.field-0 ≡ zs = search rules in
    rows_shared unscaled_at d.rows n (pos 0) _ zs _ c.in-Rows.is same (subst (λ r. HasDecimals d.decimal r n) c.in-Rows.is c.requires).0 (λ i. refl)

pub returns-in-Value-clause-values : goal.returns-in-Value-clause-values
returns-in-Value-clause-values c =
    IfOk-weaker c.repeat.result _ _
    (λ v made. let number = c.in-Value.unscaled in
    number_repeated unscaled_at c.args.decimals.rows _ c.args.len number (numbers_of v) (search rules) c.in-Value.is (ap (λ r. r.numbers) made) (λ i. refl))
    c.repeat.ensures.ok

pub returns-in-Value-clause-stored : goal.returns-in-Value-clause-stored
returns-in-Value-clause-stored c =
    let d = c.args.decimals.decimal in
    let n = c.args.len in
    IfOk-both c.repeat.result
    (λ v made numbers. numbers_stored d (decimal_type_of v) (unscaled_at c.args.decimals.rows) (numbers_of v) n
    (ap (λ r. r.kind) made ∙ c.smallest_decimal_value_type-width.ensures.value) numbers
    (λ i lt. row_digits d c.args.decimals.rows n i c.requires lt))
    c.repeat.ensures.ok (returns-in-Value-clause-values c)
