use Rattle.std.proofs.Common.{◌≡◌, true, ap, sym, subst, ◌∙◌}
use Rattle.std.proofs.lemmas.Bool.{and_from}
use Rattle.std.proofs.lemmas.Result.{IfOk-weaker}
use Rattle.std.specs.List.{list_all}
use Rattle.vx_value.specs.Decimals.{has_digits, same_width_Decides}
use Rattle.vx_value.specs.IsOf.{is_of}
use Rattle.vx_value.specs.Storage.{storage_of}
use Rattle.vx_value.specs.View.{type_of}
use Rattle.vx_tree.specs.ColumnTypes.{are_bytes_of}
use Rattle.vx_tree.specs.Canonicals.{canonical_tree}
use Rattle.vx_column.specs.Stored.{decimal_column}
use Rattle.vx_column.specs.Growing.{stored_values, HaveStorage, IsColumnOf}
use Rattle.vx_column.proofs.BuiltLemmas.{width_known, digits_known, bytes_known}
use Rattle.vx_tree.specs.Views.{rows_of}
use Rattle.vx_tree.proofs.ViewsLemmas.{rows_packed}
use Rattle.vx_column.proofs.builder.values.Values.finish.Goals as goal

pub decimal_column-requires-clause-stored : goal.decimal_column-requires-clause-stored
decimal_column-requires-clause-stored c =
    let d = c.in-Decimal.decimal in
    let ty = type_of c.args.dtype.now in
    let made = c.in_ok-into_values-in-Decimals in
    let stored = ap (λ t. storage_of (type_of t)) c.in-Decimal.is in
    let kind = subst (HaveStorage (storage_of ty)) c.in-Decimals.is c.requires.kind in
    let typed = subst (λ vs. list_all (is_of ty) (stored_values vs) ≡ true) c.in-Decimals.is c.requires.typed in
    and_from _ _ ((same_width_Decides _ _).1 (ap (λ v. v.kind) made.ensures.ok ∙ width_known c.in-Decimals.values (storage_of ty) _ d kind stored))
    (ap (λ v. list_all (has_digits d.precision) v.numbers) made.ensures.ok ∙ digits_known ty d _ _ stored typed)

pub varbinview_column-requires-clause-stored : goal.varbinview_column-requires-clause-stored
varbinview_column-requires-clause-stored c =
    let ty = type_of c.args.dtype.now in
    let typed = subst (λ vs. list_all (is_of ty) (stored_values vs) ≡ true) c.in-Bytes.is c.requires.typed in
    (λ i. are_bytes_of (c.storage.ensures i) (rows_of (c.in_ok-finish-in-Bytes.ensures.ok i)))
    ∙ ap (are_bytes_of (storage_of ty)) (rows_packed c.in-Bytes.rows) ∙ bytes_known ty c.in-Bytes.rows typed

pub returns-in_ok-into_values-in-Decimals-clause-ok : goal.returns-in_ok-into_values-in-Decimals-clause-ok
returns-in_ok-into_values-in-Decimals-clause-ok c =
    let d = c.in-Decimal.decimal in
    let st = storage_of (type_of c.args.dtype.now) in
    let made = c.in_ok-into_values-in-Decimals in
    let stored = ap (λ t. storage_of (type_of t)) c.in-Decimal.is in
    let kind = subst (HaveStorage st) c.in-Decimals.is c.requires.kind in
    let width = ap (λ v. v.kind) made.ensures.ok ∙ width_known c.in-Decimals.values st _ d kind stored in
    IfOk-weaker c.decimal_column.result _ _
    (λ column is.
    subst (λ vs. IsColumnOf st vs c.args.validity.now (canonical_tree column)) (sym c.in-Decimals.is)
    (d, stored, is ∙ (λ i. decimal_column d (width i) (made.ensures.ok i).numbers c.args.validity.now)))
    c.decimal_column.ensures.ok
