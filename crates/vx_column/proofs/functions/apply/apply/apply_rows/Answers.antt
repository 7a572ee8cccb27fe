use Rattle.std.proofs.Common.{◌≡◌, ◌∙◌, Some, ap, sym, subst, map}
use Rattle.std.specs.Prelude.{is_some}
use Rattle.std.proofs.lemmas.Bool.{false≢true}
use Rattle.std.proofs.lemmas.Result.{IfOk-weaker, IfErr-weaker, err_from_is_err_and}
use Rattle.vx_value.specs.Types.{DataType}
use Rattle.vx_value.specs.Storage.{is_nested}
use Rattle.vx_fn.specs.ReturnTypes.{return_type}
use Rattle.vx_tree.specs.Canonicals.{canonical_tree, columnar_tree}
use Rattle.vx_column.specs.Applied.{IsUnapplied}
use Rattle.vx_column.proofs.AppliedLemmas.{call_taken, unapplied, unread}
use Rattle.vx_column.proofs.CallsLemmas.{argument_rows, arguments_sized, call_typed}
use Rattle.vx_column.proofs.RowByRowLemmas.{result_shown}
use Rattle.vx_column.proofs.functions.apply.apply.apply_rows.Goals as goal

some_same : (s t : DataType) → Some s ≡ Some t → s ≡ t
some_same s t h = cc

pub result_dtype-requires : goal.result_dtype-requires
result_dtype-requires c = ap is_some (call_typed c.args.function.now (map columnar_tree c.args.arguments.now) c.args.len c.requires.call)

pub apply_to_columns-requires : goal.apply_to_columns-requires
apply_to_columns-requires c =
    let f = c.args.function.now in
    let n = c.args.len in
    let xs = c.args.arguments.now in
    let args = c.in_ok-rows.rows.items in
    let rows = argument_rows f n xs args c.requires.call c.in_ok-rows.ensures.ok in
    rw c.as_slice.ensures.value
    (record {
      taken = record { sized = arguments_sized f n xs args c.requires.call c.in_ok-rows.ensures.ok; types = call_taken f rows c.requires.call };
      unnested = λ ty typed. ap is_nested (some_same ty _ (sym (ap (return_type f) rows.types ∙ typed) ∙ c.in_ok-dtype.ensures.ok))
          ∙ sym c.is_nested.ensures ∙ c.if-is_nested.false;
    })

pub returns-clause-ok : goal.returns-clause-ok
returns-clause-ok c =
    let rows = argument_rows c.args.function.now c.args.len c.args.arguments.now c.in_ok-rows.rows.items c.requires.call c.in_ok-rows.ensures.ok in
    IfOk-weaker c.apply_to_columns.result _ _
    (λ u made.
    let result = result_shown rows made.result in
    let plain = ap is_nested (some_same _ _ (sym result.typed ∙ c.in_ok-dtype.ensures.ok)) ∙ sym c.is_nested.ensures ∙ c.if-is_nested.false in
    record { result = result; canonical = made.canonical; told = λ nested. absurd (false≢true (sym plain ∙ nested)); formed = made.formed })
    (rw c.as_slice.ensures.value at c.apply_to_columns.ensures.ok)

pub returns-clause-err : goal.returns-clause-err
returns-clause-err c =
    let f = c.args.function.now in
    let rows = argument_rows f c.args.len c.args.arguments.now c.in_ok-rows.rows.items c.requires.call c.in_ok-rows.ensures.ok in
    IfErr-weaker c.apply_to_columns.result _ _ (unapplied f rows) (rw c.as_slice.ensures.value at c.apply_to_columns.ensures.err)

pub returns-in_err-rows-clause-err : goal.returns-in_err-rows-clause-err
returns-in_err-rows-clause-err c =
    let f = c.args.function.now in
    let xs = c.args.arguments.now in
    let p = err_from_is_err_and c.from_residual-in_err-rows.result c.from_residual-in_err-rows.ensures.1 in
    rw p.1 (subst (IsUnapplied f (map columnar_tree xs) c.args.len) (sym p.2) (unread f xs c.args.len c.in_err-rows.field-0.0 c.requires.call
    c.in_err-rows.ensures.err))
