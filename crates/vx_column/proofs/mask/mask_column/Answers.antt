use Rattle.std.proofs.Common.{◌≡◌, refl, ap, subst, ◌∙◌, rules, true, [], ◌∷◌, length, sym, IfOk}
use Rattle.vx_value.specs.Types.{bool, primitive}
use Rattle.vx_value.specs.Values.{boolean, integer, bytes, decimal}
use Rattle.vx_value.specs.Storage.{storage_of}
use Rattle.vx_tree.specs.ColumnTypes.{bytes_type, are_bytes_of, decimal_type, are_decimals_of}
use Rattle.vx_value.specs.declared.dtype.Nullability.TheVariants.{NonNullable}
use Rattle.vx_tree.specs.Natives.{values_of, ptype_of}
use Rattle.vx_tree.specs.Tree as enc
use Rattle.vx_tree.specs.Tree.{dtype, len, datum, slots_of}
use Rattle.vx_tree.specs.Well.{IsNodeOf, IsFlat, shapes}
use Rattle.vx_tree.specs.Canonicals.{canonical_tree}
use Rattle.vx_column.specs.Stored.{boolean_column, integer_column, bytes_column, decimal_column}
use Rattle.vx_column.proofs.MaskedLemmas.{bytes_set, canonical_masked}
use Rattle.vx_value.specs.Types as type
use Rattle.vx_value.specs.View.{type_of}
use Rattle.vx_tree.specs.DecimalNumbers.{numbers_of, decimal_type_of}
use Rattle.vx_column.proofs.StoredLemmas.{decimal_typed}
use Rattle.vx_column.specs.Arguments.{stored_decimals}
use Rattle.vx_tree.specs.Keeps.{KeepsExactly}
use Rattle.vx_tree.specs.Validities.{HasRows}
use Rattle.std.specs.Cmp.{second_so}
use Rattle.vx_tree.specs.Views.{ViewedRows, viewed, bytes_at, rows_of, all_lie_in}
use Rattle.std.proofs.lemmas.Result.{IfOk-weaker}
use Rattle.vx_column.proofs.mask.mask_column.Goals as goal

pub returns-in-Null-clause-ok : goal.returns-in-Null-clause-ok
returns-in-Null-clause-ok c =
    let same = ap enc.nulls_of c.len-len.ensures ∙ sym c.in-Null.ensures in
    subst (λ t. IfOk c.mask_nulls.result (λ u. KeepsExactly (enc.masked_of t c.args.child) (canonical_tree u))) same c.mask_nulls.ensures.ok

pub returns-in_ok-clone-in-Bool-clause-ok : goal.returns-in_ok-clone-in-Bool-clause-ok
returns-in_ok-clone-in-Bool-clause-ok c =
    let bits = c.in-Bool.bits.now in
    let both = c.in_ok-both-in-Bool in
    let flat = subst IsNodeOf c.in-Bool.ensures.0 c.in-Bool.ensures.1 in
    let shared : c.in_ok-clone-in-Bool.field-0 ≡ bits = search rules in
    canonical_masked boolean enc.bool (bool NonNullable) (λ m n xs tys css. refl) (λ m. refl) c.bool_column.result bits c.in-Bool.own.now c.args.child both.both
    c.len-len.result c.args.array.now _ c.len-len.ensures c.in-Bool.ensures.0 flat
    both.ensures.nullable both.ensures.both (ap (λ bs. boolean_column bs both.both) shared)
    c.bool_column.ensures.ok

pub returns-in_ok-clone-in-Primitive-clause-ok : goal.returns-in_ok-clone-in-Primitive-clause-ok
returns-in_ok-clone-in-Primitive-clause-ok c =
    let values = c.in-Primitive.values.now in
    let p = ptype_of values in
    let both = c.in_ok-both-in-Primitive in
    let flat = subst IsNodeOf c.in-Primitive.ensures.0 c.in-Primitive.ensures.1 in
    let shared = c.in_ok-clone-in-Primitive.ensures.cases in
    canonical_masked integer (enc.primitive p) (primitive p NonNullable) (λ m n xs tys css. refl) (λ m. refl) c.primitive_column.result (values_of values)
    c.in-Primitive.own.now c.args.child both.both c.len-len.result c.args.array.now _ c.len-len.ensures c.in-Primitive.ensures.0 flat
    both.ensures.nullable both.ensures.both (λ i. integer_column (shared i).kind (shared i).numbers both.both) c.primitive_column.ensures.ok

pub unreachable-requires : goal.unreachable-requires
unreachable-requires c =
    let values = c.in-Decimal.values.now in
    let flat = subst IsNodeOf c.in-Decimal.ensures.0 c.in-Decimal.ensures.1 in
    decimal_typed c.dtype.result.now (decimal_type_of values) (numbers_of values)
    (subst (λ ty. are_decimals_of (storage_of ty) (decimal_type_of values) (numbers_of values) ≡ true) (sym c.dtype.ensures.dtype) flat.1)
    c.in_default-dtype.not-Decimal

pub decimal_column-requires-clause-stored : goal.decimal_column-requires-clause-stored
decimal_column-requires-clause-stored c =
    let flat = subst IsNodeOf c.in-Decimal.ensures.0 c.in-Decimal.ensures.1 in
    let stored = ap storage_of (sym c.dtype.ensures.dtype ∙ ap type_of c.in-Decimal-dtype.is) in
    let shared = c.in_ok-clone-in-Decimal.ensures.cases in
    (λ i. are_decimals_of (stored_decimals c.in-Decimal-dtype.decimal) (shared i).kind (shared i).numbers)
    ∙ subst (λ st. are_decimals_of st (decimal_type_of c.in-Decimal.values.now) (numbers_of c.in-Decimal.values.now) ≡ true) stored flat.1

pub returns-in_ok-clone-in-Decimal-clause-ok : goal.returns-in_ok-clone-in-Decimal-clause-ok
returns-in_ok-clone-in-Decimal-clause-ok c =
    let values = c.in-Decimal.values.now in
    let d = c.in-Decimal-dtype.decimal in
    let own = c.in-Decimal.own.now in
    let t = c.args.array.now in
    let both = c.in_ok-both-in-Decimal in
    let flat = subst IsNodeOf c.in-Decimal.ensures.0 c.in-Decimal.ensures.1 in
    let stored = ap storage_of (sym c.dtype.ensures.dtype ∙ ap type_of c.in-Decimal-dtype.is) in
    let shared = c.in_ok-clone-in-Decimal.ensures.cases in
    canonical_masked (λ z. decimal z d.scale) (enc.decimals (decimal_type_of values)) (type.decimal d.precision d.scale NonNullable)
    (λ m n xs tys css. refl) (λ m. refl) c.decimal_column.result (numbers_of values) own c.args.child both.both c.len-len.result t _ c.len-len.ensures
    c.in-Decimal.ensures.0
    (subst (λ st. IsFlat (decimal_type st) (length (numbers_of values)) (dtype t) (len t) (shapes (slots_of (own ∷ [])))) stored flat.0)
    both.ensures.nullable both.ensures.both (λ i. decimal_column d (shared i).kind (shared i).numbers both.both) c.decimal_column.ensures.ok

pub varbinview_column-requires-clause-stored : goal.varbinview_column-requires-clause-stored
varbinview_column-requires-clause-stored c =
    let flat = subst IsNodeOf c.in-VarBinView.ensures.0 c.in-VarBinView.ensures.1 in
    let kind = c.storage.ensures ∙ ap storage_of c.dtype-in-VarBinView.ensures.dtype in
    let shared : c.in_ok-clone-in-VarBinView.field-0 ≡ c.in-VarBinView.rows.now = search rules in
    let rs = c.in-VarBinView.rows.now in
    let st = storage_of (dtype c.args.array.now) in
    (λ i. are_bytes_of (kind i) (rows_of (shared i))) ∙ second_so (all_lie_in rs) (are_bytes_of st (rows_of rs)) flat.1

pub returns-in_ok-clone-in-VarBinView-clause-ok : goal.returns-in_ok-clone-in-VarBinView-clause-ok
returns-in_ok-clone-in-VarBinView-clause-ok c =
    let rows = c.in-VarBinView.rows.now in
    let t = c.args.array.now in
    let st = storage_of (dtype t) in
    let both = c.in_ok-both-in-VarBinView in
    let flat = subst IsNodeOf c.in-VarBinView.ensures.0 c.in-VarBinView.ensures.1 in
    let kind = c.storage.ensures ∙ ap storage_of c.dtype-in-VarBinView.ensures.dtype in
    let shared : c.in_ok-clone-in-VarBinView.field-0 ≡ rows = search rules in
    canonical_masked (λ x. bytes (bytes_at rows.buffers x)) (λ vs. enc.views (viewed vs rows.buffers)) (bytes_type st) (λ m n xs tys css. refl) (bytes_set st)
    c.varbinview_column.result rows.views c.in-VarBinView.own.now
    c.args.child both.both c.len-len.result t _ c.len-len.ensures c.in-VarBinView.ensures.0 flat.0 both.ensures.nullable both.ensures.both
    (λ i. bytes_column (kind i) (shared i) both.both)
    c.varbinview_column.ensures.ok

pub bool_column-requires : goal.bool_column-requires
bool_column-requires c =
    let flat = subst IsNodeOf c.in-Bool.ensures.0 c.in-Bool.ensures.1 in
    subst (HasRows c.in_ok-both-in-Bool.both) (c.len-len.ensures ∙ flat.2 ∙ sym (ap length c.in_ok-clone-in-Bool.ensures.cases))
    c.in_ok-both-in-Bool.ensures.sized

pub primitive_column-requires : goal.primitive_column-requires
primitive_column-requires c =
    let flat = subst IsNodeOf c.in-Primitive.ensures.0 c.in-Primitive.ensures.1 in
    subst (HasRows c.in_ok-both-in-Primitive.both) (c.len-len.ensures ∙ flat.2 ∙ sym (ap (λ v. length v.numbers) c.in_ok-clone-in-Primitive.ensures.cases))
    c.in_ok-both-in-Primitive.ensures.sized

pub decimal_column-requires-clause-sized : goal.decimal_column-requires-clause-sized
decimal_column-requires-clause-sized c =
    let flat = subst IsNodeOf c.in-Decimal.ensures.0 c.in-Decimal.ensures.1 in
    subst (HasRows c.in_ok-both-in-Decimal.both) (c.len-len.ensures ∙ flat.0.2 ∙ sym (ap (λ v. length v.numbers) c.in_ok-clone-in-Decimal.ensures.cases))
    c.in_ok-both-in-Decimal.ensures.sized

pub varbinview_column-requires-clause-sized : goal.varbinview_column-requires-clause-sized
varbinview_column-requires-clause-sized c =
    let flat = subst IsNodeOf c.in-VarBinView.ensures.0 c.in-VarBinView.ensures.1 in
    subst (HasRows c.in_ok-both-in-VarBinView.both) (c.len-len.ensures ∙ flat.0.2 ∙ sym (ap (λ r. length (ViewedRows.views r)) c.in_ok-clone-in-VarBinView.ensures.cases))
    c.in_ok-both-in-VarBinView.ensures.sized

pub returns-in_ok-clone-in-Bool-clause-stored : goal.returns-in_ok-clone-in-Bool-clause-stored
returns-in_ok-clone-in-Bool-clause-stored c =
    IfOk-weaker c.bool_column.result _ _ (λ u made. ap datum made ∙ (ap enc.bool c.in_ok-clone-in-Bool.ensures.cases) ∙ sym (ap datum c.in-Bool.ensures.0)) c.bool_column.ensures.ok

pub returns-in_ok-clone-in-Primitive-clause-stored : goal.returns-in_ok-clone-in-Primitive-clause-stored
returns-in_ok-clone-in-Primitive-clause-stored c =
    IfOk-weaker c.primitive_column.result _ _ (λ u made. ap datum made ∙ (λ i. enc.primitive (c.in_ok-clone-in-Primitive.ensures.cases i).kind (c.in_ok-clone-in-Primitive.ensures.cases i).numbers) ∙ sym (ap datum c.in-Primitive.ensures.0)) c.primitive_column.ensures.ok

pub returns-in_ok-clone-in-Decimal-clause-stored : goal.returns-in_ok-clone-in-Decimal-clause-stored
returns-in_ok-clone-in-Decimal-clause-stored c =
    IfOk-weaker c.decimal_column.result _ _ (λ u made. ap datum made ∙ (λ i. enc.decimals (c.in_ok-clone-in-Decimal.ensures.cases i).kind (c.in_ok-clone-in-Decimal.ensures.cases i).numbers) ∙ sym (ap datum c.in-Decimal.ensures.0)) c.decimal_column.ensures.ok

pub returns-in_ok-clone-in-VarBinView-clause-stored : goal.returns-in_ok-clone-in-VarBinView-clause-stored
returns-in_ok-clone-in-VarBinView-clause-stored c =
    IfOk-weaker c.varbinview_column.result _ _ (λ u made. ap datum made ∙ (ap enc.views c.in_ok-clone-in-VarBinView.ensures.cases) ∙ sym (ap datum c.in-VarBinView.ensures.0)) c.varbinview_column.ensures.ok

pub returns-in-Null-clause-stored : goal.returns-in-Null-clause-stored
returns-in-Null-clause-stored c =
    IfOk-weaker c.mask_nulls.result _ _ (λ u made. made ∙ sym (ap datum c.in-Null.ensures)) c.mask_nulls.ensures.stored
