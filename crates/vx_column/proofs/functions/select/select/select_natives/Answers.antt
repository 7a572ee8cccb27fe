use Rattle.std.proofs.Common.{pos, refl, ap, ◌∙◌}
use Rattle.vx_value.specs.Types.{primitive}
use Rattle.vx_value.specs.Values.{integer}
use Rattle.vx_tree.specs.Natives.{values_of}
use Rattle.vx_column.specs.Arguments.{integer_in}
use Rattle.vx_column.specs.ValidRows.{nullability_in}
use Rattle.vx_column.specs.declared.rows.argument.ArgumentRows.TheVariants.{Integers}
use Rattle.vx_column.proofs.ValidRowsLemmas.{counted}
use Rattle.vx_column.specs.Selected.{selected_rows}
use Rattle.vx_column.proofs.SelectLemmas.{column_selected}
use Rattle.vx_column.proofs.functions.select.select.select_natives.Goals as goal

pub valid_integers-requires-clause-values : goal.valid_integers-requires-clause-values
valid_integers-requires-clause-values g c = counted _ (values_of c.wrap.result) c.args.len (c.wrap.ensures.values ∙ c.in_ok-numbers.ensures)

pub returns-clause-ok : goal.returns-clause-ok
returns-clause-ok g c =
    let bits = c.args.choice.now in
    let x = c.args.if_true in
    let y = c.args.if_false in
    let valid = c.args.valid.now in
    column_selected integer (pos 0) bits (Integers x) (Integers y) (Integers x) (Integers y) (integer_in x) (integer_in y) valid c.args.len
    (values_of c.wrap.result) _ c.valid_integers.result refl refl refl refl
    (ap (λ p. primitive p (nullability_in valid)) (c.wrap.ensures.same_kind ∙ c.requires.kind))
    (c.wrap.ensures.values ∙ c.in_ok-numbers.ensures
    ∙ (λ j. selected_rows bits (c.operand_of-left.ensures.numbers j) (c.operand_of.ensures.numbers j) c.args.len))
    c.valid_integers.ensures.ok
