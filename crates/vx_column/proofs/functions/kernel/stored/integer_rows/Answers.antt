use Rattle.std.proofs.Common.{◌≡◌, pos, refl, ap, subst, rules}
use Rattle.std.proofs.lemmas.Result.{IfOk-weaker}
use Rattle.vx_tree.specs.Natives.{values_of}
use Rattle.vx_column.specs.Arguments.{integer_at, HasIntegers}
use Rattle.vx_column.proofs.RowsLemmas.{rows_shared, number_repeated}
use Rattle.vx_column.proofs.functions.kernel.stored.integer_rows.Goals as goal

pub returns-in_ok-clone-in-Rows-clause-values : goal.returns-in_ok-clone-in-Rows-clause-values
returns-in_ok-clone-in-Rows-clause-values c =
    let n = c.args.len in
    let zs = values_of c.in-Rows.values.now in
    let same : values_of c.in_ok-clone-in-Rows.field-0 ≡ zs = search rules in
    rows_shared integer_at c.args.integers.rows n (pos 0) _ zs _ c.in-Rows.is same (subst (λ r. HasIntegers r n) c.in-Rows.is c.requires.2) (λ i. refl)

pub returns-in-Value-clause-values : goal.returns-in-Value-clause-values
returns-in-Value-clause-values c =
    IfOk-weaker c.repeat.result _ _
    (λ v made. number_repeated integer_at c.args.integers.rows _ c.args.len c.in-Value.wide (values_of v) (search rules) c.in-Value.is
    (ap (λ r. r.numbers) made) (λ i. refl))
    c.repeat.ensures.ok
