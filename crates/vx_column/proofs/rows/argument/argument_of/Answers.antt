use Rattle.std.proofs.Common.{refl, sym, ap, subst, ◌∙◌, ◌≡◌, replicate, true, false}
use Rattle.std.proofs.lemmas.Result.{IfOk-weaker, IfErr-weaker}
use Rattle.vx_value.specs.Storage.{storage_of, is_nested}
use Rattle.vx_value.specs.Values.{boolean, integer, decimal, bytes}
use Rattle.vx_tree.specs.DecimalNumbers.{numbers_of, decimal_type_of}
use Rattle.vx_tree.specs.ColumnTypes.{scale_of, are_decimals_of}
use Rattle.vx_tree.specs.Canonicals.{columnar_tree}
use Rattle.vx_tree.specs.Tree as enc
use Rattle.vx_tree.specs.Tree.{dtype, len}
use Rattle.vx_tree.specs.Well.{IsNodeOf}
use Rattle.vx_mask.specs.declared.operand.BitOperand.TheVariants.{Bits}
use Rattle.vx_tree.specs.Natives.{values_of, ptype_of}
use Rattle.vx_column.specs.Arguments.{IsArgument}
use Rattle.vx_column.specs.ValidRows.{IsRepeatedValidity}
use Rattle.vx_column.specs.declared.rows.argument.ArgumentRows.TheVariants as stored
use Rattle.vx_column.specs.declared.rows.argument.BytesRows.TheVariants.{Rows as RowsOfBytes}
use Rattle.vx_column.specs.declared.rows.argument.DecimalRows.TheVariants.{Rows as RowsOfDecimals}
use Rattle.vx_column.specs.declared.rows.argument.IntegerRows.TheVariants.{Rows}
use Rattle.vx_column.proofs.CellsLemmas.{IfOk-both}
use Rattle.vx_column.proofs.NullRowsLemmas.{nulls_argument, constant_argument, told_argument, booleans_argument, integers_argument, decimals_argument, bytes_argument, column_unread}
use Rattle.vx_tree.specs.Views.{viewed, bytes_at}
use Rattle.vx_column.proofs.rows.argument.argument_of.Goals as goal
use Rattle.vx_value.specs.View.{type_of}
use Rattle.vx_column.proofs.StoredLemmas.{decimal_typed}

pub returns-in-Null-clause-ok : goal.returns-in-Null-clause-ok
returns-in-Null-clause-ok c =
    IfOk-weaker c.null_argument.result _ _
    (λ a e. subst (IsArgument c.args.column.now) (sym e)
    (nulls_argument c.args.column.now (replicate c.len.result false) c.as_array.result.now c.as_array.ensures.of c.in-Null.ensures
    (ap (λ n. replicate n false) c.len.ensures))) c.null_argument.ensures.ok

pub returns-in-Constant-clause-ok : goal.returns-in-Constant-clause-ok
returns-in-Constant-clause-ok c =
    let t = columnar_tree c.args.column.now in
    let s = c.in-Constant.scalar.now in
    let is = subst (λ u. u ≡ enc.constant_of s (len u)) c.as_array.ensures.of c.in-Constant.ensures.0 in
    IfOk-both c.constant_argument.result
    (λ a rows valid. constant_argument c.args.column.now s a.rows a.valid is rows (subst (λ n. IsRepeatedValidity s n a.valid) c.len-in-Constant.ensures valid))
    c.constant_argument.ensures.rows c.constant_argument.ensures.valid

pub returns-in-Bool-clause-ok : goal.returns-in-Bool-clause-ok
returns-in-Bool-clause-ok c =
    let k = c.in-Bool in
    told_argument c.args.column.now (stored.Bits (Bits k.bits)) k.validity.now
    (λ valid told same sized. booleans_argument c.args.column.now k.validity.now valid told same sized c.as_array.result.now c.as_array.ensures.of k.ensures.1
    (Bits k.bits) k.bits.now (λ i. refl) (λ n e. e) k.ensures.0)
    c.column_argument.result c.column_argument.ensures.ok

pub returns-in-Bool-clause-err : goal.returns-in-Bool-clause-err
returns-in-Bool-clause-err c =
    let k = c.in-Bool in
    IfErr-weaker c.column_argument.result _ _
    (λ e h. column_unread c.args.column.now k.validity.now e c.as_array.result.now c.as_array.ensures.of h boolean enc.bool (λ n xs tys css. refl) k.bits.now
    (sym (subst IsNodeOf k.ensures.0 k.ensures.1).2)
    k.ensures.0) c.column_argument.ensures.err

pub returns-in-Primitive-clause-ok : goal.returns-in-Primitive-clause-ok
returns-in-Primitive-clause-ok c =
    let k = c.in-Primitive in
    told_argument c.args.column.now c.integers_of.result k.validity.now
    (λ valid told same sized. rw c.integers_of.ensures (integers_argument c.args.column.now k.validity.now valid told same sized c.as_array.result.now
    c.as_array.ensures.of k.ensures.1 (record { dtype = c.dtype-dtype.result; rows = Rows k.values }) (ptype_of k.values.now) (values_of k.values.now) refl
    (λ i. refl)
    (λ n e. (tt, e)) c.dtype-dtype.ensures.dtype k.ensures.0))
    c.column_argument-in-Primitive.result c.column_argument-in-Primitive.ensures.ok

pub returns-in-Primitive-clause-err : goal.returns-in-Primitive-clause-err
returns-in-Primitive-clause-err c =
    let k = c.in-Primitive in
    IfErr-weaker c.column_argument-in-Primitive.result _ _
    (λ e h. column_unread c.args.column.now k.validity.now e c.as_array.result.now c.as_array.ensures.of h integer (enc.primitive (ptype_of k.values.now))
    (λ n xs tys css. refl) (values_of k.values.now) (sym (subst IsNodeOf k.ensures.0 k.ensures.1).2) k.ensures.0) c.column_argument-in-Primitive.ensures.err

pub unreachable-requires : goal.unreachable-requires
unreachable-requires c =
    let values = c.in-Decimal.values.now in
    let flat = subst IsNodeOf c.in-Decimal.ensures.0 c.in-Decimal.ensures.1 in
    let typed = c.dtype-dtype.ensures.dtype ∙ ap dtype (sym c.as_array.ensures.of) in
    decimal_typed c.dtype-dtype.result.now (decimal_type_of values) (numbers_of values)
    (subst (λ ty. are_decimals_of (storage_of ty) (decimal_type_of values) (numbers_of values) ≡ true) (sym typed) flat.1) c.in_default-dtype.not-Decimal

pub returns-in-Decimal-dtype-clause-ok : goal.returns-in-Decimal-dtype-clause-ok
returns-in-Decimal-dtype-clause-ok c =
    let k = c.in-Decimal in
    told_argument c.args.column.now c.decimals_of-rows.result k.validity.now
    (λ valid told same sized. rw c.decimals_of-rows.ensures (decimals_argument c.args.column.now k.validity.now valid told same sized c.as_array.result.now
    c.as_array.ensures.of k.ensures.1 c.in-Decimal-dtype.decimal (RowsOfDecimals k.values) (decimal_type_of k.values.now) (numbers_of k.values.now)
    c.in-Decimal-dtype.field-1 (λ i. refl) (sym c.dtype-dtype.ensures.dtype ∙ ap type_of c.in-Decimal-dtype.is) (λ n e k. (e, k)) k.ensures.0))
    c.column_argument-in-Decimal.result c.column_argument-in-Decimal.ensures.ok

pub returns-in-Decimal-dtype-clause-err : goal.returns-in-Decimal-dtype-clause-err
returns-in-Decimal-dtype-clause-err c =
    let k = c.in-Decimal in
    IfErr-weaker c.column_argument-in-Decimal.result _ _
    (λ e h. column_unread c.args.column.now k.validity.now e c.as_array.result.now c.as_array.ensures.of h
    (λ z. decimal z (scale_of (storage_of (dtype (columnar_tree c.args.column.now))))) (enc.decimals (decimal_type_of k.values.now)) (λ n xs tys css. refl)
    (numbers_of k.values.now) (sym (subst IsNodeOf k.ensures.0 k.ensures.1).0.2) k.ensures.0) c.column_argument-in-Decimal.ensures.err

pub returns-in-VarBinView-clause-ok : goal.returns-in-VarBinView-clause-ok
returns-in-VarBinView-clause-ok c =
    let k = c.in-VarBinView in
    told_argument c.args.column.now c.bytes_of-rows.result k.validity.now
    (λ valid told same sized. rw c.bytes_of-rows.ensures (bytes_argument c.args.column.now k.validity.now valid told same sized c.as_array.result.now
    c.as_array.ensures.of k.ensures.1 (record { storage = c.storage.result; rows = RowsOfBytes k.rows }) k.rows.now (λ i. refl)
    (c.storage.ensures ∙ ap storage_of c.dtype-dtype.ensures.dtype) (λ n e k. (e, k)) k.ensures.0))
    c.column_argument-in-VarBinView.result c.column_argument-in-VarBinView.ensures.ok

pub returns-in-VarBinView-clause-err : goal.returns-in-VarBinView-clause-err
returns-in-VarBinView-clause-err c =
    let k = c.in-VarBinView in
    IfErr-weaker c.column_argument-in-VarBinView.result _ _
    (λ e h. column_unread c.args.column.now k.validity.now e c.as_array.result.now c.as_array.ensures.of h (λ x. bytes (bytes_at k.rows.now.buffers x))
    (λ vs. enc.views (viewed vs k.rows.now.buffers)) (λ n xs tys css. refl) k.rows.now.views
    (sym (subst IsNodeOf k.ensures.0 k.ensures.1).0.2) k.ensures.0) c.column_argument-in-VarBinView.ensures.err

pub constant_argument-requires : goal.constant_argument-requires
constant_argument-requires c =
    ap (λ u. is_nested (dtype u)) (sym c.in-Constant.ensures.0 ∙ c.as_array.ensures.of) ∙ c.requires
