use Rattle.std.proofs.Common.{◌∙◌, map, sym, ap}
use Rattle.std.proofs.lemmas.List.{drop_all}
use Rattle.vx_value.specs.Storage.{is_nested}
use Rattle.vx_tree.specs.Canonicals.{columnar_tree}
use Rattle.vx_column.specs.Arguments.{any_nested}
use Rattle.vx_column.proofs.NestedLemmas.{nested_here, nested_later}
use Rattle.vx_column.proofs.functions.apply.apply.any_nested.Goals as goal

pub returns-then-is_nested : goal.returns-then-is_nested
returns-then-is_nested c =
    nested_here c.args.columns.now c.loop-column.column-index c.column-item.result c.loop-column-test.true c.column-item.is
    (ap is_nested (sym c.dtype.ensures.dtype) ∙ sym c.is_nested.ensures ∙ c.if-is_nested.true) c.loop-column.invariant

pub loop-column-preserved : goal.loop-column-preserved
loop-column-preserved c =
    nested_later c.args.columns.now c.loop-column.column-index c.column-item.result c.loop-column-test.true c.column-item.is
    (ap is_nested (sym c.dtype.ensures.dtype) ∙ sym c.is_nested.ensures ∙ c.if-is_nested.false) c.loop-column.invariant

pub returns : goal.returns
returns c =
    sym (c.loop-column.invariant
    ∙ ap (λ l. any_nested (map columnar_tree l)) (drop_all c.loop-column.column-index c.args.columns.now c.loop-column-test.false))
