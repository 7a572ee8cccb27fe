use Rattle.std.proofs.Common.{◌≡◌, None, OnOk, IfErr, true, sym, ap, subst, ◌∙◌}
use Rattle.std.proofs.lemmas.Result.{on_ok_weaker, IfErr-weaker}
use Rattle.vx_value.specs.Supported.{has_columns}
use Rattle.vx_tree.specs.Canonicals.{columnar_tree}
use Rattle.vx_tree.specs.Cells.{HasNoFault}
use Rattle.vx_tree.specs.Tree.{dtype}
use Rattle.vx_tree.specs.Well.{IsWell}
use Rattle.vx_tree.proofs.ConditionsLemmas.{none_refused}
use Rattle.vx_column.specs.Arguments.{IsUnread}
use Rattle.vx_column.specs.Built.{length_refusal}
use Rattle.vx_column.specs.Expanded.{expansion}
use Rattle.vx_column.specs.Grown.{count, cells_read, type_refusal, column_refusal, IsUnappended}
use Rattle.vx_column.specs.Kept.{rows_in}
use Rattle.vx_column.specs.Pieces.{IsNoPiece}
use Rattle.vx_column.proofs.GrownLemmas.{same_as}
use Rattle.vx_column.proofs.KeptLemmas.{flat_told, flat_unread, nested_told, nested_unread}
use Rattle.vx_column.proofs.builder.Builder.append_column.Goals as goal
use Rattle.vx_column.proofs.builder.Builder.append_column.Goals.{in-Flat, in-Nested}

pub push_column-requires-in-Nested-clause-typed : goal.push_column-requires-in-Nested-clause-typed
push_column-requires-in-Nested-clause-typed c =
    sym c.dtype.ensures.dtype ∙ same_as c.args.self.now _ c.in_ok-check_type.ensures
    ∙ ap (λ r. r.of_type) (sym c.self.view_is ∙ ap rows_in c.in-Nested.is)

pub returns-clause-valid : goal.returns-clause-valid
returns-clause-valid c =
    let r = c.args.self.now in
    let t = columnar_tree c.args.column.now in
    let well = subst IsWell c.as_array.ensures.of c.well_formed_tree.ensures.formed in
    let has = subst (λ u. has_columns (dtype u) ≡ true) c.as_array.ensures.of c.well_formed_tree.ensures.supported in
    let none = none_refused _ _ (ap (type_refusal r) (sym c.dtype.ensures.dtype) ∙ c.in_ok-check_type.ensures)
    (ap (length_refusal (count r)) (sym c.len.ensures) ∙ c.in_ok-check_len.ensures) in
    elim c.match-self.branch [
      | in-Flat w ↦ subst (λ x. OnOk x ((column_refusal r t ≡ None) × HasNoFault (cells_read r.of_type (expansion t)))) (sym w.result-is)
          (on_ok_weaker w.push_column.result
          (λ h. (none, flat_told c.self.inside.rows r t c.self.view_is w.in-Flat.rows w.in-Flat.is w.dtype-dtype.ensures.unnested well has h))
          w.push_column.ensures.valid)
      | in-Nested w ↦ subst (λ x. OnOk x ((column_refusal r t ≡ None) × HasNoFault (cells_read r.of_type (expansion t)))) (sym w.result-is)
          (on_ok_weaker w.push_column-in-Nested.result
          (λ h. (none, nested_told c.self.inside.rows r t c.self.view_is w.in-Nested.rows w.in-Nested.is h)) w.push_column-in-Nested.ensures.valid)
    ]

pub returns-clause-refused : goal.returns-clause-refused
returns-clause-refused c =
    let r = c.args.self.now in
    let t = columnar_tree c.args.column.now in
    let well = subst IsWell c.as_array.ensures.of c.well_formed_tree.ensures.formed in
    let has = subst (λ u. has_columns (dtype u) ≡ true) c.as_array.ensures.of c.well_formed_tree.ensures.supported in
    let none = none_refused _ _ (ap (type_refusal r) (sym c.dtype.ensures.dtype) ∙ c.in_ok-check_type.ensures)
    (ap (length_refusal (count r)) (sym c.len.ensures) ∙ c.in_ok-check_len.ensures) in
    elim c.match-self.branch [
      | in-Flat w ↦ subst (λ x. IfErr x (IsUnappended r t)) (sym w.result-is)
          (IfErr-weaker w.push_column.result (IsUnread t) (IsUnappended r t)
          (λ e. flat_unread c.self.inside.rows r t c.self.view_is w.in-Flat.rows w.in-Flat.is w.dtype-dtype.ensures.unnested well has e none)
          w.push_column.ensures.refused)
      | in-Nested w ↦ subst (λ x. IfErr x (IsUnappended r t)) (sym w.result-is)
          (IfErr-weaker w.push_column-in-Nested.result (IsNoPiece w.in-Nested.rows.of_type (expansion t)) (IsUnappended r t)
          (λ e. nested_unread c.self.inside.rows r t c.self.view_is w.in-Nested.rows w.in-Nested.is e none) w.push_column-in-Nested.ensures.refused)
    ]
