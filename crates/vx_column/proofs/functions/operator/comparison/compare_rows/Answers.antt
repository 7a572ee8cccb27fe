use Rattle.std.proofs.Common.{refl}
use Rattle.std.specs.declared.cmp.Ordering.TheVariants.{Less, Equal, Greater}
use Rattle.vx_fn.specs.declared.function.Operator.TheVariants.{Gt, Gte, Lt, Lte}
use Rattle.vx_column.specs.ValidRows.{is_valid}
use Rattle.vx_column.proofs.ComparisonLemmas.{swapped_compared}
use Rattle.vx_column.proofs.functions.operator.comparison.compare_rows.Goals as goal

pub returns-in-Gt : goal.returns-in-Gt
returns-in-Gt g c =
    swapped_compared g.R.OrderedRows.row_value c.args.operator Gt Lt c.args.left c.args.right _ _ (is_valid c.args.valid.now) c.args.len _ c.in-Gt.is
    (elim [ Less ↦ refl | Equal ↦ refl | Greater ↦ refl ]) c.of-in-Gt.ensures.left c.of-in-Gt.ensures.right c.check_rows-in-Gt.ensures

pub returns-in-Gte : goal.returns-in-Gte
returns-in-Gte g c =
    swapped_compared g.R.OrderedRows.row_value c.args.operator Gte Lte c.args.left c.args.right _ _ (is_valid c.args.valid.now) c.args.len _ c.in-Gte.is
    (elim [ Less ↦ refl | Equal ↦ refl | Greater ↦ refl ]) c.of-in-Gte.ensures.left c.of-in-Gte.ensures.right c.check_rows-in-Gte.ensures
