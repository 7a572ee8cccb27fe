use Rattle.std.proofs.Common.{◌∙◌, sym, rules}
use Rattle.serde_json.specs.View.{items_view}
use Rattle.vx_value.specs.View.{type_of}
use Rattle.vx_value.specs.declared.dtype.Nullability.TheVariants.{Nullable}
use Rattle.vx_json.proofs.SpelledColumnsLemmas.{values_fit, bits_fit, rows_by, rows_unread, read_made}
use Rattle.vx_json.proofs.columns.nullable_column.Goals as goal

pub returns-in_err-values : goal.returns-in_err-values
returns-in_err-values c =
    let none = rows_unread c.args.dtype (items_view c.args.list.now.items) c.in_default.not-Null c.requires in
    search (rules, none)

pub column-requires : goal.column-requires
column-requires c =
    let ty = type_of c.args.dtype in
    let ds = items_view c.args.list.now.items in
    let values = c.in_ok-values.values in
    let valid = c.column_values.new.nulls in
    let validity = c.in-Ok.validity in
    let stored = c.in_ok-values.ensures in
    values_fit Nullable ty ds values valid validity stored (c.in-Ok.ensures.nullable ∙ sym c.requires)
    (bits_fit ty ds values valid validity stored c.in-Ok.ensures.ok)

pub returns-in-Ok : goal.returns-in-Ok
returns-in-Ok c =
    let made =
    rows_by (type_of c.args.dtype) (items_view c.args.list.now.items) c.in_ok-values.values c.column_values.new.nulls c.in-Ok.validity c.requires
    c.in_ok-values.ensures c.in-Ok.ensures.ok in
    read_made _ _ _ made c.column.ensures.ok c.column.ensures.err
