use Rattle.std.proofs.Common.{◌≡◌, Some, rules, ap, sym, ◌∙◌, ◌∷◌, [], true}
use Rattle.std.proofs.lemmas.Bool.{false≢true}
use Rattle.std.proofs.lemmas.Option.{same_Some}
use Rattle.std.proofs.lemmas.Result.{IfOk-weaker, IfErr-weaker}
use Rattle.vx_value.specs.View.{type_of, value_of, cell_of}
use Rattle.vx_value.specs.Types.{DataType}
use Rattle.vx_value.specs.Values.{null}
use Rattle.vx_value.specs.Cell.{value}
use Rattle.vx_value.specs.IsOf.{is_of}
use Rattle.vx_fn.specs.Binary.{binary, operated, null_rule}
use Rattle.vx_fn.specs.Logic.{truth}
use Rattle.vx_fn.specs.declared.function.Operator.{Operator}
use Rattle.vx_fn.proofs.MeaningsLemmas.{by_null, by_later}
use Rattle.vx_fn.proofs.BinaryLemmas.{null_first, null_second, of_values, logical_result}
use Rattle.vx_fn.proofs.functions.binary.operate.Goals as goal
use Rattle.vx_fn.proofs.functions.binary.operate.Goals.{After-fitted, After-operate_values}
use Rattle.vx_fn.proofs.functions.binary.operate.Goals.{in_default-2-via-in-Some+in_default, in_default-2-via-in_default}

-- the type that is found is the operator's
typed : (op : Operator) {s t s' t' ty : DataType} → s' ≡ s → t' ≡ t → Some ty ≡ (binary op).types (s' ∷ t' ∷ [])
    → (binary op).types (s ∷ t ∷ []) ≡ Some ty
typed op e e' found = (λ i. (binary op).types (sym e i ∷ sym e' i ∷ [])) ∙ sym found

-- ---- logic

joined : (c : After-fitted) → (is_of (type_of c.in-Some.dtype) (cell_of c.map.result) ≡ true)
    × ((binary c.args.operator).value (c.args.lhs.now.of_type ∷ c.args.rhs.now.of_type ∷ []) (type_of c.in-Some.dtype) (c.args.lhs.now.value ∷ c.args.rhs.now.value ∷ []) ≡ value (cell_of c.map.result))
joined c =
    let op = c.args.operator in
    let l = c.args.lhs.now in
    let r = c.args.rhs.now in
    let o = c.join-answer.result in
    let ty : DataType = type_of c.in-Some.dtype in
    let same : truth o ≡ cell_of c.map.result = search rules in
    let by : (binary op).types (l.of_type ∷ r.of_type ∷ []) ≡ Some ty = typed op c.dtype.ensures.dtype c.dtype-2.ensures.dtype c.in-Some.ensures in
    let found =
    logical_result op l.of_type r.of_type ty l.value r.value o
    (sym c.is_logical.ensures ∙ c.if-is_logical.true) c.dtype.ensures.typed c.dtype-2.ensures.typed (search rules) (search rules) by in
    (ap (is_of ty) (sym same) ∙ found.0, found.1 ∙ ap value same)

pub returns-then-is_logical-clause-typed : goal.returns-then-is_logical-clause-typed
returns-then-is_logical-clause-typed c =
    IfOk-weaker c.fitted.result _ _
    (λ s f. typed c.args.operator c.dtype.ensures.dtype c.dtype-2.ensures.dtype c.in-Some.ensures ∙ ap Some (sym f.0)) c.fitted.ensures.ok

pub returns-then-is_logical-clause-ok : goal.returns-then-is_logical-clause-ok
returns-then-is_logical-clause-ok c =
    IfOk-weaker c.fitted.result _ _ (λ s f.
    ap (λ u. (binary c.args.operator).value (c.args.lhs.now.of_type ∷ c.args.rhs.now.of_type ∷ []) u (c.args.lhs.now.value ∷ c.args.rhs.now.value ∷ [])) f.0
    ∙ (joined c).1 ∙ ap value (sym f.1)) c.fitted.ensures.ok

pub returns-then-is_logical-clause-fault : goal.returns-then-is_logical-clause-fault
returns-then-is_logical-clause-fault c =
    IfErr-weaker c.fitted.result _ _ (λ e f. absurd (false≢true (sym f.1 ∙ (joined c).0))) c.fitted.ensures.fault

-- ---- two values

-- the result's value is the operator's
valued : (c : After-operate_values) → let ty : DataType = type_of c.in-Some.dtype in
    let there = c.in-Some-Some in
    (binary c.args.operator).value (c.args.lhs.now.of_type ∷ c.args.rhs.now.of_type ∷ []) ty (c.args.lhs.now.value ∷ c.args.rhs.now.value ∷ [])
    ≡ operated c.args.operator ty (value_of there.x.now) (value_of there.y.now)
valued c =
    let there = c.in-Some-Some in
    let ty : DataType = type_of c.in-Some.dtype in
    (λ i. (binary c.args.operator).value (c.args.lhs.now.of_type ∷ c.args.rhs.now.of_type ∷ []) ty (sym there.ensures.value i ∷ sym there.ensures'.value i ∷ []))
    ∙ of_values c.args.operator (c.args.lhs.now.of_type ∷ c.args.rhs.now.of_type ∷ []) ty there.x.now there.y.now (sym c.is_logical.ensures ∙ c.if-is_logical.false)

pub returns-in-Some-Some-clause-typed : goal.returns-in-Some-Some-clause-typed
returns-in-Some-Some-clause-typed c =
    IfOk-weaker c.operate_values.result _ _
    (λ s f. typed c.args.operator c.dtype.ensures.dtype c.dtype-2.ensures.dtype c.in-Some.ensures ∙ ap Some (sym f.0)) c.operate_values.ensures.ok

pub returns-in-Some-Some-clause-ok : goal.returns-in-Some-Some-clause-ok
returns-in-Some-Some-clause-ok c =
    IfOk-weaker c.operate_values.result _ _ (λ s f.
    ap (λ u. (binary c.args.operator).value (c.args.lhs.now.of_type ∷ c.args.rhs.now.of_type ∷ []) u (c.args.lhs.now.value ∷ c.args.rhs.now.value ∷ [])) f.0
    ∙ valued c ∙ f.1) c.operate_values.ensures.ok

pub returns-in-Some-Some-clause-fault : goal.returns-in-Some-Some-clause-fault
returns-in-Some-Some-clause-fault c =
    IfErr-weaker c.operate_values.result _ _ (λ e f. (
      f.0,
      λ t known.
          ap (λ u. (binary c.args.operator).value (c.args.lhs.now.of_type ∷ c.args.rhs.now.of_type ∷ []) u (c.args.lhs.now.value ∷ c.args.rhs.now.value ∷ []))
          (same_Some _ _ (sym known ∙ typed c.args.operator c.dtype.ensures.dtype c.dtype-2.ensures.dtype c.in-Some.ensures))
          ∙ valued c ∙ f.1,
    )) c.operate_values.ensures.fault

-- ---- null

pub null-requires : goal.null-requires
null-requires c =
    let op = c.args.operator in
    let l = c.args.lhs.now in
    let r = c.args.rhs.now in
    let ty : DataType = type_of c.in-Some.dtype in
    let by = typed c.args.operator c.dtype.ensures.dtype c.dtype-2.ensures.dtype c.in-Some.ensures in
    elim c.in_default-2.branch [
      | in_default-2-via-in-Some+in_default w ↦
          let there : r.value ≡ null = search rules in
          null_second op l.of_type r.of_type ty (ap (is_of r.of_type) (sym there) ∙ c.value-2.ensures.typed) by
      | in_default-2-via-in_default w ↦
          let there : l.value ≡ null = search rules in
          null_first op l.of_type r.of_type ty (ap (is_of l.of_type) (sym there) ∙ c.value.ensures.typed) by
    ]

pub returns-in_default-2-clause-typed : goal.returns-in_default-2-clause-typed
returns-in_default-2-clause-typed c =
    typed c.args.operator c.dtype.ensures.dtype c.dtype-2.ensures.dtype c.in-Some.ensures
    ∙ ap (λ s. Some s.of_type) (sym c.null.ensures)

pub returns-in_default-2-clause-ok : goal.returns-in_default-2-clause-ok
returns-in_default-2-clause-ok c =
    let v = c.args.lhs.now.value in
    let w = c.args.rhs.now.value in
    let o = operated c.args.operator c.null.result.of_type v w in
    ap (λ b. null_rule b v (null_rule b w o)) (sym c.is_logical.ensures ∙ c.if-is_logical.false)
    ∙ elim c.in_default-2.branch [
      | in_default-2-via-in-Some+in_default w ↦ by_later v _ (by_null _ o (search rules))
      | in_default-2-via-in_default w ↦ by_null v _ (search rules)
    ]
    ∙ ap (λ s. value s.value) (sym c.null.ensures)
