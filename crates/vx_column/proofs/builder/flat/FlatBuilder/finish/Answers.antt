use Rattle.std.proofs.Common.{◌≡◌, true, false, map, ap, subst, sym, ◌∙◌}
use Rattle.std.specs.List.{list_all}
use Rattle.std.proofs.lemmas.Result.{IfOk-weaker}
use Rattle.vx_value.specs.View.{type_of}
use Rattle.vx_value.specs.Types.{nullability_of}
use Rattle.vx_value.specs.IsOf.{is_of}
use Rattle.vx_value.specs.Storage.{is_nested}
use Rattle.vx_value.specs.Cell.{value}
use Rattle.vx_tree.specs.Canonicals.{canonical_tree}
use Rattle.vx_tree.specs.Cells.{rows}
use Rattle.vx_tree.specs.Validities.{HasRows}
use Rattle.vx_column.specs.ValidRows.{child_in, nullability_in}
use Rattle.vx_column.specs.Built.{built}
use Rattle.vx_column.specs.Growing.{told_rows}
use Rattle.vx_column.proofs.GrowingLemmas.{rows_typed, kept_unnested}
use Rattle.vx_column.proofs.BuiltLemmas.{told_nullability, column_is, rows_built}
use Rattle.vx_column.proofs.builder.flat.FlatBuilder.finish.Goals as goal

pub returns-clause-ok : goal.returns-clause-ok
returns-clause-ok c =
    let bits = c.self.inside.validity in
    let n = c.self.inside.len in
    let valid = c.in_ok-valid.ensures ∙ ap (λ m. told_rows m n bits) c.nullability.ensures in
    let made = c.in_ok-validity.ensures.ok in
    let nullable = made.0 ∙ ap nullability_in valid ∙ told_nullability (nullability_of (type_of c.self.inside.dtype)) n bits c.self.invariant.nullable in
    IfOk-weaker c.finish-2.result _ _
    (λ column is. column_is _ _ _ _ c.self.invariant c.in_ok-validity.validity nullable (made.1 ∙ ap child_in valid) _ is ∙ ap built c.self.view_is)
    c.finish-2.ensures.ok

pub returns-clause-rows : goal.returns-clause-rows
returns-clause-rows c =
    let r = c.args.self in
    let typed = subst (λ r. list_all (is_of r.of_type) r.values ≡ true) c.self.view_is (rows_typed _ _ _ _ c.self.invariant) in
    let plain = subst (λ r. is_nested r.of_type ≡ false) c.self.view_is (kept_unnested _ _ c.self.invariant.kind) in
    IfOk-weaker c.finish-2.result (λ column. canonical_tree column ≡ built r) (λ column. rows (canonical_tree column) ≡ map (λ v. value v) r.values)
    (λ column is. ap rows is ∙ rows_built r.of_type r.values plain typed) (returns-clause-ok c)

pub finish-requires-2-clause-sized : goal.finish-requires-2-clause-sized
finish-requires-2-clause-sized c = subst (HasRows c.in_ok-validity.validity) (sym c.self.invariant.counted) c.in_ok-validity.ensures.ok.2
