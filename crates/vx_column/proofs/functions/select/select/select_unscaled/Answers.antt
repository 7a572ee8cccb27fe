use Rattle.std.proofs.Common.{pos, refl, sym, ◌∙◌}
use Rattle.vx_value.specs.Values.{decimal}
use Rattle.vx_tree.specs.DecimalNumbers.{numbers_of, decimal_type_of}
use Rattle.vx_column.specs.Arguments.{unscaled_in}
use Rattle.vx_column.specs.declared.rows.argument.ArgumentRows.TheVariants.{Decimals}
use Rattle.vx_column.proofs.ValidRowsLemmas.{counted}
use Rattle.vx_column.specs.Selected.{selected_rows}
use Rattle.vx_column.proofs.SelectLemmas.{column_selected}
use Rattle.vx_column.proofs.SelectedLemmas.{same_scale, same_width, selected_decimals}
use Rattle.vx_column.proofs.functions.select.select.select_unscaled.Goals as goal

pub decimal_operand_of-requires-clause-kind : goal.decimal_operand_of-requires-clause-kind
decimal_operand_of-requires-clause-kind g c = same_width c.args.if_true c.args.if_false c.requires.sides.same g.T.NativeDecimalType.kind c.requires.kind

pub valid_decimals-requires-clause-values : goal.valid_decimals-requires-clause-values
valid_decimals-requires-clause-values g c =
    counted _ (numbers_of c.wrap_decimals-values.result) c.args.len (c.wrap_decimals-values.ensures.values ∙ c.in_ok-numbers.ensures)

pub valid_decimals-requires-clause-stored : goal.valid_decimals-requires-clause-stored
valid_decimals-requires-clause-stored g c =
    selected_decimals c.args.if_true c.args.if_false c.requires.sides.same c.args.choice.now (decimal_type_of c.wrap_decimals-values.result)
    (numbers_of c.wrap_decimals-values.result) c.args.len c.requires.sides.left c.requires.sides.right
    (c.wrap_decimals-values.ensures.same_kind ∙ c.requires.kind)
    (c.wrap_decimals-values.ensures.values ∙ c.in_ok-numbers.ensures
    ∙ (λ j. selected_rows c.args.choice.now (c.decimal_operand_of-left.ensures.numbers j) (c.decimal_operand_of.ensures.numbers j) c.args.len))

pub returns-clause-ok : goal.returns-clause-ok
returns-clause-ok g c =
    let bits = c.args.choice.now in
    let x = c.args.if_true in
    let y = c.args.if_false in
    let scale = same_scale x y c.requires.sides.same in
    column_selected (λ z. decimal z x.decimal.scale) (pos 0) bits (Decimals x) (Decimals y) (Decimals x) (Decimals y) (unscaled_in x) (unscaled_in y)
    c.args.valid.now c.args.len (numbers_of c.wrap_decimals-values.result) _ c.valid_decimals.result refl refl refl
    (λ j i. decimal (unscaled_in y i) (sym scale j)) refl
    (c.wrap_decimals-values.ensures.values ∙ c.in_ok-numbers.ensures
    ∙ (λ j. selected_rows bits (c.decimal_operand_of-left.ensures.numbers j) (c.decimal_operand_of.ensures.numbers j) c.args.len))
    c.valid_decimals.ensures.ok
