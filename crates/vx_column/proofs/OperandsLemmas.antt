-- An arithmetic operator on the numbers of two operands.
use Rattle.std.proofs.Common.{◌≡◌, ℕ, ℤ, false, Some, inl, inr, sym, ap, ◌∙◌}
use Rattle.std.specs.Prelude.{IsSome}
use Rattle.vx_value.specs.Types.{DataType, primitive, decimal}
use Rattle.vx_value.specs.Casts.{sized}
use Rattle.vx_value.specs.Cell.{Cell}
use Rattle.vx_value.specs.declared.dtype.PType.{PType}
use Rattle.vx_value.specs.declared.error.VortexError.{VortexError}
use Rattle.vx_fn.specs.Apply.{apply}
use Rattle.vx_fn.specs.Arithmetic.{calculated, calculated_by}
use Rattle.vx_fn.specs.Binary.{is_comparison, operator_type}
use Rattle.vx_fn.specs.declared.function.Operator.{Operator}
use Rattle.vx_fn.specs.declared.function.ScalarFnRef.TheVariants.{Binary}
use Rattle.vx_tree.specs.Tree.{Tree, dtype}
use Rattle.vx_column.specs.Arguments.{integer_in, ptype_in, unscaled_in, plain_type, pair_types, pair_at}
use Rattle.vx_column.specs.Computed.{IsColumnOfCells}
use Rattle.vx_column.specs.Filled.{IsRowwiseResult, HasNoRowwiseResult, filled_type}
use Rattle.vx_column.specs.Operands.{IsFaultyRow, IsPrimitiveColumnOf, IsDecimalColumnOf}
use Rattle.vx_column.specs.ValidRows.{is_valid, nullability_in}
use Rattle.vx_column.specs.declared.rows.argument.ArgumentRows.{ArgumentRows}
use Rattle.vx_column.specs.declared.rows.argument.ArgumentRows.TheVariants.{Integers, Decimals}
use Rattle.vx_column.specs.declared.rows.argument.DecimalOperand.{DecimalOperand}
use Rattle.vx_column.specs.declared.rows.argument.IntegerOperand.{IntegerOperand}
use Rattle.vx_column.specs.declared.rows.valid.ValidRows.{ValidRows}
use Rattle.vx_column.proofs.FilledLemmas.{filled, filled_fault}
use Rattle.vx_column.proofs.OperatorLemmas.{integers_plain, integers_calculated, calculated_value, decimals_calculated, decimal_value}

-- cells of a type, each the operator on a row
module _ (op : Operator) (lhs rhs : ArgumentRows) (valid : ValidRows) (n : ℕ) (ty : DataType) (cell : ℕ → Cell)
    (typed : filled_type valid (operator_type op (plain_type lhs)) ≡ Some ty) (same_cell : (i : ℕ) → cell i ≡ apply (Binary op) (pair_types lhs rhs) ty (pair_at lhs rhs i)) where
  cells_filled : (u : Tree) → (dtype u ≡ ty) × IsColumnOfCells valid cell n u → IsRowwiseResult (Binary op) (pair_types lhs rhs) (operator_type op (plain_type lhs)) (pair_at lhs rhs) valid n u
  cells_filled u h = filled (Binary op) (pair_types lhs rhs) (operator_type op (plain_type lhs)) (pair_at lhs rhs) valid n ty cell u typed h (λ i lt here. same_cell i)

  cells_not_filled : (e : VortexError) → IsFaultyRow (is_valid valid) cell n e
      → HasNoRowwiseResult (Binary op) (pair_types lhs rhs) (operator_type op (plain_type lhs)) (pair_at lhs rhs) valid n e
  cells_not_filled e (inl memory) = inl memory
  cells_not_filled e (inr h) =
      inr (
        h.0,
        filled_fault (Binary op) (pair_types lhs rhs) (operator_type op (plain_type lhs)) (pair_at lhs rhs) valid n ty h.1 typed h.2 h.3 (sym (same_cell h.1) ∙ h.4),
      )

module _ (op : Operator) (p : PType) (lhs rhs : IntegerOperand) (valid : ValidRows) (n : ℕ) (other : is_comparison op ≡ false) (kind : ptype_in lhs ≡ p)
    (taken : IsSome (operator_type op (plain_type (Integers lhs)))) (l r : ℕ → ℤ) (left : l ≡ integer_in lhs) (right : r ≡ integer_in rhs) where
  typed : filled_type valid (operator_type op (plain_type (Integers lhs))) ≡ Some (primitive p (nullability_in valid))
  typed = integers_calculated op (ptype_in lhs) (nullability_in valid) taken other ∙ ap (λ q. Some (primitive q (nullability_in valid))) kind

  same_cell : (i : ℕ) → calculated op p (l i) (r i) ≡ apply (Binary op) (pair_types (Integers lhs) (Integers rhs)) (primitive p (nullability_in valid)) (pair_at (Integers lhs) (Integers rhs) i)
  same_cell i =
      (λ j. calculated op p (left j i) (right j i))
      ∙ sym (calculated_value op p (nullability_in valid) (integer_in lhs i) (integer_in rhs i) (integers_plain op (ptype_in lhs) taken))

  pub operation_filled : (u : Tree) → IsPrimitiveColumnOf p valid (λ i. calculated op p (l i) (r i)) n u
      → IsRowwiseResult (Binary op) (pair_types (Integers lhs) (Integers rhs)) (operator_type op (plain_type (Integers lhs))) (pair_at (Integers lhs) (Integers rhs)) valid n u
  operation_filled =
      cells_filled op (Integers lhs) (Integers rhs) valid n (primitive p (nullability_in valid)) (λ i. calculated op p (l i) (r i)) typed same_cell

  pub operation_not_filled : (e : VortexError) → IsFaultyRow (is_valid valid) (λ i. calculated op p (l i) (r i)) n e
      → HasNoRowwiseResult (Binary op) (pair_types (Integers lhs) (Integers rhs)) (operator_type op (plain_type (Integers lhs))) (pair_at (Integers lhs) (Integers rhs)) valid n e
  operation_not_filled =
      cells_not_filled op (Integers lhs) (Integers rhs) valid n (primitive p (nullability_in valid)) (λ i. calculated op p (l i) (r i)) typed same_cell

module _ (op : Operator) (lhs rhs : DecimalOperand) (valid : ValidRows) (n : ℕ) (other : is_comparison op ≡ false)
    (taken : IsSome (operator_type op (plain_type (Decimals lhs)))) (l r : ℕ → ℤ) (left : l ≡ unscaled_in lhs) (right : r ≡ unscaled_in rhs) where
  decimals_cell : (i : ℕ) → calculated_by op (sized lhs.decimal.precision lhs.decimal.scale) (l i) (r i)
      ≡ apply (Binary op) (pair_types (Decimals lhs) (Decimals rhs)) (decimal lhs.decimal.precision lhs.decimal.scale (nullability_in valid)) (pair_at (Decimals lhs) (Decimals rhs) i)
  decimals_cell i =
      (λ j. calculated_by op (sized lhs.decimal.precision lhs.decimal.scale) (left j i) (right j i))
      ∙ sym (decimal_value op lhs.decimal.precision lhs.decimal.scale (nullability_in valid) (unscaled_in lhs i) (unscaled_in rhs i) lhs.decimal.scale
      rhs.decimal.scale taken)

  pub decimals_filled : (u : Tree) → IsDecimalColumnOf lhs.decimal valid (λ i. calculated_by op (sized lhs.decimal.precision lhs.decimal.scale) (l i) (r i)) n u
      → IsRowwiseResult (Binary op) (pair_types (Decimals lhs) (Decimals rhs)) (operator_type op (plain_type (Decimals lhs))) (pair_at (Decimals lhs) (Decimals rhs)) valid n u
  decimals_filled =
      cells_filled op (Decimals lhs) (Decimals rhs) valid n (decimal lhs.decimal.precision lhs.decimal.scale (nullability_in valid))
      (λ i. calculated_by op (sized lhs.decimal.precision lhs.decimal.scale) (l i) (r i))
      (decimals_calculated op lhs.decimal.precision lhs.decimal.scale (nullability_in valid) taken other) decimals_cell

  pub decimals_not_filled : (e : VortexError)
      → IsFaultyRow (is_valid valid) (λ i. calculated_by op (sized lhs.decimal.precision lhs.decimal.scale) (l i) (r i)) n e
      → HasNoRowwiseResult (Binary op) (pair_types (Decimals lhs) (Decimals rhs)) (operator_type op (plain_type (Decimals lhs))) (pair_at (Decimals lhs) (Decimals rhs)) valid n e
  decimals_not_filled =
      cells_not_filled op (Decimals lhs) (Decimals rhs) valid n (decimal lhs.decimal.precision lhs.decimal.scale (nullability_in valid))
      (λ i. calculated_by op (sized lhs.decimal.precision lhs.decimal.scale) (l i) (r i))
      (decimals_calculated op lhs.decimal.precision lhs.decimal.scale (nullability_in valid) taken other) decimals_cell
