use Rattle.std.proofs.Common.{◌≡◌, ◌∙◌, [], length, sym, subst, arith, rules}
use Rattle.serde_json.specs.View.{items_view}
use Rattle.vx_value.specs.View.{type_of}
use Rattle.vx_tree.specs.Validities.{HasRows}
use Rattle.vx_json.specs.SpelledNulls.{validity_spelled}
use Rattle.vx_json.proofs.SpelledColumnsLemmas.{values_unread, flat_made, flat_fits, flat_unspelled, read_made}
use Rattle.vx_json.proofs.columns.column_of_values.Goals as goal

pub returns-in_err-validity : goal.returns-in_err-validity
returns-in_err-validity c =
    let none = flat_unspelled (type_of c.args.dtype) c.args.list.now.items c.args.nulls.now in
    search (rules, none)

pub returns-in_err-values : goal.returns-in_err-values
returns-in_err-values c =
    let none = values_unread (type_of c.args.dtype) (items_view c.args.list.now.items) c.args.nulls.now in
    search (rules, none)

pub column-requires : goal.column-requires
column-requires c =
    let validity = c.in_ok-validity.validity in
    let counted : c.len.result ≡ length c.args.list.now.items = omega (arith, c.args.list.now.ok.0) in
    flat_fits (type_of c.args.dtype) c.args.list.now.items c.in_ok-values.values [] c.args.nulls.now validity c.in_ok-values.ensures
    (c.in_ok-validity.ensures.nullability ∙ c.nullability.ensures) (subst (HasRows validity) counted c.in_ok-validity.ensures.rows)

pub returns : goal.returns
returns c =
    let nulls = c.args.nulls.now in
    let counted : length c.args.list.now.items ≡ c.len.result = omega (arith, c.args.list.now.ok.0) in
    let spelled = (λ j. validity_spelled (sym c.nullability.ensures j) (counted j) nulls) ∙ c.in_ok-validity.ensures.ok in
    let made =
    flat_made (type_of c.args.dtype) c.args.list.now.items c.in_ok-values.values [] nulls c.in_ok-validity.validity c.in_ok-values.ensures spelled in
    read_made _ _ _ made c.column.ensures.ok c.column.ensures.err
