use Rattle.std.proofs.Common.{◌∙◌, sym, subst}
use Rattle.serde_json.specs.View.{items_view}
use Rattle.vx_value.specs.View.{type_of}
use Rattle.vx_json.specs.Refused.{IsRead}
use Rattle.vx_json.proofs.SpelledColumnsLemmas.{rows_are_values}
use Rattle.vx_json.proofs.columns.flat_rows.Goals as goal

pub returns-in-NonNullable : goal.returns-in-NonNullable
returns-in-NonNullable c =
    let same = rows_are_values (type_of c.args.dtype) (items_view c.args.list.now.items) (sym c.nullability.ensures ∙ c.in-NonNullable.is) in
    subst (λ o. IsRead o c.column_of_values.result) (sym same) c.column_of_values.ensures
