-- Functions of columns with nulls, from what they give on the valid rows.
use Rattle.std.proofs.Common.{List, ◌≡◌, ◌<◌, ℕ, Bool, true, false, [], ◌∷◌, Some, inl, inr, refl, sym, ap, ◌∙◌, subst}
use Rattle.std.specs.Prelude.{◌&&◌, option_map}
use Rattle.vx_value.specs.Types.{DataType, bool}
use Rattle.vx_value.specs.Nullabilities.{with_nullability, union}
use Rattle.vx_value.specs.Values.{Value, null}
use Rattle.vx_value.specs.Cell.{value}
use Rattle.vx_value.specs.declared.dtype.Nullability.TheVariants.{NonNullable}
use Rattle.vx_value.specs.declared.error.VortexError.{VortexError}
use Rattle.vx_mask.specs.declared.operand.BitOperand.{BitOperand}
use Rattle.vx_mask.proofs.Lists.{same_below}
use Rattle.vx_fn.specs.Apply.{apply}
use Rattle.vx_fn.specs.Binary.{is_logical, null_rule, operated, operator_type}
use Rattle.vx_fn.specs.Meanings.{null_through}
use Rattle.vx_fn.specs.ReturnTypes.{return_type}
use Rattle.vx_fn.specs.declared.function.Operator.{Operator}
use Rattle.vx_fn.specs.declared.function.ScalarFnRef.TheVariants.{Binary, Not}
use Rattle.vx_fn.proofs.MeaningsLemmas.{union_with_plain}
use Rattle.vx_tree.specs.Cells.{HasNoFault}
use Rattle.vx_tree.specs.Tree.{Tree, dtype}
use Rattle.vx_column.specs.Arguments.{AreShown, types_of, plain_type, pair_types, pair_at, row_of, value_at}
use Rattle.vx_column.specs.Computed.{Takes, IsCanonicalResult, HasNoCanonicalResult}
use Rattle.vx_column.specs.Filled.{IsRowwiseResult, HasNoRowwiseResult}
use Rattle.vx_column.specs.ValidRows.{is_valid, nullability_in, null_unless}
use Rattle.vx_column.specs.declared.rows.argument.Argument.{Argument}
use Rattle.vx_column.specs.declared.rows.argument.ArgumentRows.{ArgumentRows}
use Rattle.vx_column.specs.declared.rows.argument.ArgumentRows.TheVariants.{Nulls, Bits, Integers, Decimals, Bytes}
use Rattle.vx_column.specs.declared.rows.valid.ValidRows.{ValidRows}
use Rattle.vx_column.proofs.MadeLemmas.{computed_by}
use Rattle.vx_column.proofs.OperatorLemmas.{operands_typed}

-- ---- two arguments

through : (x : Value) → null_through x (value null) ≡ value null
through null = refl
through _ = refl

null_pair : (op : Operator) (tys : List DataType) (ty : DataType) (v w : Bool) (x y : Value) → is_logical op ≡ false
    → apply (Binary op) tys ty (null_unless v (value x) ∷ null_unless w (value y) ∷ []) ≡ null_unless (v && w) (apply (Binary op) tys ty (value x ∷ value y ∷ []))
null_pair op tys ty true true x y h = refl
null_pair op tys ty true false x y h = ap (λ b. null_rule b x (null_rule b null (operated op ty x null))) h ∙ through x
null_pair op tys ty false true x y h = ap (λ b. null_rule b null (null_rule b y (operated op ty null y))) h
null_pair op tys ty false false x y h = ap (λ b. null_rule b null (null_rule b null (operated op ty null null))) h

-- an operator that a null passes through
module _ (op : Operator) (n : ℕ) (a b : Argument) (takes : Takes (Binary op) (a ∷ b ∷ []) n)
    (plain : is_logical op ≡ false) (valid : ValidRows) (rows : (i : ℕ) → i < n → is_valid valid i ≡ is_valid a.valid i && is_valid b.valid i)
    (nullability : nullability_in valid ≡ union (nullability_in a.valid) (nullability_in b.valid)) where
  same_cell : (ty : DataType) (i : ℕ) → i < n
      → null_unless (is_valid valid i) (apply (Binary op) (pair_types a.rows b.rows) ty (pair_at a.rows b.rows i))
      ≡ apply (Binary op) (types_of (a ∷ b ∷ [])) ty (row_of (a ∷ b ∷ []) i)
  same_cell ty i lt =
      ap (λ v. null_unless v (apply (Binary op) (pair_types a.rows b.rows) ty (pair_at a.rows b.rows i))) (rows i lt)
      ∙ sym (null_pair op (pair_types a.rows b.rows) ty (is_valid a.valid i) (is_valid b.valid i) (value_at a.rows i) (value_at b.rows i) plain)

  pub operands_shown : AreShown a.rows valid n
  operands_shown = by_rows a.rows takes.sized.0.2
    where
      by_rows : (r : ArgumentRows) → AreShown r a.valid n → AreShown r valid n
      by_rows Nulls h = λ i lt. rows i lt ∙ ap (λ v. v && is_valid b.valid i) (h i lt)
      by_rows (Bits bs) h = tt
      by_rows (Integers zs) h = tt
      by_rows (Decimals ds) h = tt
      by_rows (Bytes bs) h = tt

  same_type : return_type (Binary op) (types_of (a ∷ b ∷ [])) ≡ option_map (with_nullability (nullability_in valid)) (operator_type op (plain_type a.rows))
  same_type =
      operands_typed op n a b takes
      ∙ ap (λ m. option_map (with_nullability m) (operator_type op (plain_type a.rows))) (sym nullability)

  pub operands_computed : (u : Tree) → IsRowwiseResult (Binary op) (pair_types a.rows b.rows) (operator_type op (plain_type a.rows)) (pair_at a.rows b.rows) valid n u
      → IsCanonicalResult (Binary op) (a ∷ b ∷ []) n u
  operands_computed u h = computed_by (Binary op) (a ∷ b ∷ []) valid _ n u (same_type ∙ h.typed) h.made (same_cell (dtype u))

  pub operands_not_computed : (e : VortexError) → HasNoRowwiseResult (Binary op) (pair_types a.rows b.rows) (operator_type op (plain_type a.rows)) (pair_at a.rows b.rows) valid n e
      → HasNoCanonicalResult (Binary op) (a ∷ b ∷ []) n e
  operands_not_computed e (inl m) = inl m
  operands_not_computed e (inr h) =
      inr (h.0, λ ty typed. λ k. h.1 ty (sym same_type ∙ typed) (subst HasNoFault (sym (same_below n _ _ (same_cell ty))) k))

-- ---- a negation

null_negated : (ty : DataType) (v : Bool) (x : Value)
    → null_unless v (apply Not (bool NonNullable ∷ []) ty (value x ∷ [])) ≡ apply Not (bool NonNullable ∷ []) ty (null_unless v (value x) ∷ [])
null_negated ty true x = refl
null_negated ty false x = refl

pub negation_computed : (bs : BitOperand) (valid : ValidRows) (n : ℕ) (u : Tree)
    → IsRowwiseResult Not (bool NonNullable ∷ []) (Some (bool NonNullable)) (λ i. value (value_at (Bits bs) i) ∷ []) valid n u
    → IsCanonicalResult Not (record { rows = Bits bs; valid = valid } ∷ []) n u
negation_computed bs valid n u h =
    computed_by Not (record { rows = Bits bs; valid = valid } ∷ []) valid _ n u
    (ap (λ m. Some (bool m)) (union_with_plain (nullability_in valid) NonNullable refl) ∙ h.typed) h.made
    (λ i lt. null_negated (dtype u) (is_valid valid i) (value_at (Bits bs) i))
