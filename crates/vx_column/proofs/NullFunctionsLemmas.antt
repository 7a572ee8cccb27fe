-- Functions of which values are null.
use Rattle.std.proofs.Common.{◌≡◌, ◌<◌, ℕ, Bool, true, false, List, [], ◌∷◌, map, Some, refl, sym, ap, ◌∙◌}
use Rattle.std.specs.Prelude.{◌&&◌}
use Rattle.std.specs.List.{range_with_len}
use Rattle.vx_value.specs.Types.{DataType, bool, nullability_of}
use Rattle.vx_value.specs.Nullabilities.{with_nullability}
use Rattle.vx_value.specs.Values.{Value, null, boolean}
use Rattle.vx_value.specs.Cell.{value}
use Rattle.vx_value.specs.IsOf.{is_null}
use Rattle.vx_value.specs.declared.dtype.Nullability.TheVariants.{NonNullable, Nullable}
use Rattle.vx_mask.specs.Logic.{bit_row}
use Rattle.vx_mask.specs.Operands.{bit_in}
use Rattle.vx_mask.specs.declared.operand.BitOperand.{BitOperand}
use Rattle.vx_fn.specs.Apply.{apply}
use Rattle.vx_fn.specs.Mask.{mask_type}
use Rattle.vx_fn.specs.ReturnTypes.{return_type}
use Rattle.vx_fn.specs.declared.function.ScalarFnRef.{ScalarFnRef}
use Rattle.vx_fn.specs.declared.function.ScalarFnRef.TheVariants.{Mask}
use Rattle.vx_tree.specs.Tree.{Tree, dtype}
use Rattle.vx_column.specs.Arguments.{types_of, type_of_argument, plain_type, value_at, cell_at, IsSized, AreShown}
use Rattle.vx_column.specs.Computed.{Takes, IsColumnOfCells, IsCanonicalResult}
use Rattle.vx_column.specs.ValidRows.{is_valid, nullability_in, null_unless}
use Rattle.vx_column.specs.declared.rows.argument.Argument.{Argument}
use Rattle.vx_column.specs.declared.rows.argument.ArgumentRows.{ArgumentRows}
use Rattle.vx_column.specs.declared.rows.argument.ArgumentRows.TheVariants as stored
use Rattle.vx_column.specs.declared.rows.valid.ValidRows.{ValidRows}
use Rattle.vx_column.specs.declared.rows.valid.ValidRows.TheVariants as rows_valid
use Rattle.vx_column.proofs.MadeLemmas.{computed_by}
use Rattle.vx_column.proofs.KernelArgumentsLemmas.{argument_type, argument_nullability, set_again}
use Rattle.vx_column.proofs.ValidRowsLemmas.{bit_made}

-- ---- tests of a value, by what they say of null, and of any other

-- a valid row isn't null
pub valid_value : (r : ArgumentRows) (valid : ValidRows) (n i : ℕ) → AreShown r valid n → i < n → is_valid valid i ≡ true → is_null (value_at r i) ≡ false
valid_value stored.Nulls valid n i shown lt here = let none = shown i lt in absurd (cc)
valid_value (stored.Bits bs) valid n i shown lt here = refl
valid_value (stored.Integers zs) valid n i shown lt here = refl
valid_value (stored.Decimals ds) valid n i shown lt here = refl
valid_value (stored.Bytes bs) valid n i shown lt here = refl

module _ (f : ScalarFnRef) (g : Bool → Bool) (typed : (s : DataType) → return_type f (s ∷ []) ≡ Some (bool NonNullable))
    (of_null : (s ty : DataType) → apply f (s ∷ []) ty (value null ∷ []) ≡ value (boolean (g false)))
    (of_value : (s ty : DataType) (x : Value) → is_null x ≡ false → apply f (s ∷ []) ty (value x ∷ []) ≡ value (boolean (g true))) where
  test_cell : (s ty : DataType) (x : Value) (v : Bool) → (v ≡ true → is_null x ≡ false)
      → value (boolean (g v)) ≡ apply f (s ∷ []) ty (null_unless v (value x) ∷ [])
  test_cell s ty x true h = sym (of_value s ty x (h refl))
  test_cell s ty x false h = sym (of_null s ty)

  pub tested : (a : Argument) (n : ℕ) (bits : List Bool) (u : Tree) → IsSized n a → bits ≡ map (λ i. g (is_valid a.valid i)) (range_with_len 0 n)
      → (dtype u ≡ bool NonNullable) × IsColumnOfCells (rows_valid.All NonNullable) (λ i. value (boolean (bit_row bits i))) n u → IsCanonicalResult f (a ∷ []) n u
  tested a n bits u sized made h =
      computed_by f (a ∷ []) (rows_valid.All NonNullable) (λ i. value (boolean (bit_row bits i))) n u (typed (type_of_argument a) ∙ ap Some (sym h.0)) h.1
      (λ i lt. ap (λ b. value (boolean b)) (bit_made (λ j. g (is_valid a.valid j)) bits n i made lt)
      ∙ test_cell (type_of_argument a) (dtype u) (value_at a.rows i) (is_valid a.valid i) (valid_value a.rows a.valid n i sized.2 lt))

-- ---- a mask

mask_cell : (ty : DataType) (v b : Bool) (x : Value) → null_unless (v && b) (value x) ≡ apply Mask (ty ∷ bool NonNullable ∷ []) ty (null_unless v (value x) ∷ value (boolean b) ∷ [])
mask_cell ty true true x = refl
mask_cell ty true false x = refl
mask_cell ty false true x = refl
mask_cell ty false false x = refl

all_valid : (valid : ValidRows) (i : ℕ) → nullability_in valid ≡ NonNullable → is_valid valid i ≡ true
all_valid (rows_valid.All m) i h = refl
all_valid (rows_valid.Bits bits) i h = absurd (cc)

-- it is one of non-nullable booleans
of_mask : (s t ty : DataType) → mask_type s t ≡ Some ty → t ≡ bool NonNullable
of_mask s (bool NonNullable) ty e = refl
of_mask s (bool Nullable) ty e = absurd (cc)
of_mask s _ ty e = absurd (cc)

module _ (n : ℕ) (a k : Argument) (takes : Takes Mask (a ∷ k ∷ []) n) where
  mask_typed : type_of_argument k ≡ bool NonNullable
  mask_typed = of_mask (type_of_argument a) (type_of_argument k) takes.types.0 takes.types.1

  pub masked : (keep : BitOperand) (bits : List Bool) (u : Tree) → k.rows ≡ stored.Bits keep
      → bits ≡ map (λ i. is_valid a.valid i && bit_in keep i) (range_with_len 0 n)
      → (dtype u ≡ with_nullability Nullable (plain_type a.rows)) × IsColumnOfCells (rows_valid.Bits bits) (λ i. value (value_at a.rows i)) n u
      → IsCanonicalResult Mask (a ∷ k ∷ []) n u
  masked keep bits u is made h =
      let plain : nullability_in k.valid ≡ NonNullable = sym (argument_nullability n k takes.sized.1.0) ∙ ap nullability_of mask_typed in
      let typed : return_type Mask (types_of (a ∷ k ∷ [])) ≡ Some (with_nullability Nullable (plain_type a.rows)) =
      ap (mask_type (type_of_argument a)) mask_typed ∙ ap (λ s. Some (with_nullability Nullable s)) (argument_type n a takes.sized.0)
      ∙ ap Some (set_again Nullable (nullability_in a.valid) a.rows) in
      computed_by Mask (a ∷ k ∷ []) (rows_valid.Bits bits) (λ i. value (value_at a.rows i)) n u (typed ∙ ap Some (sym h.0)) h.1
      (λ i lt. ap (λ b. null_unless b (value (value_at a.rows i))) (bit_made (λ j. is_valid a.valid j && bit_in keep j) bits n i made lt)
      ∙ mask_cell (dtype u) (is_valid a.valid i) (bit_in keep i) (value_at a.rows i)
      ∙ (λ j. apply Mask (types_of (a ∷ k ∷ [])) (dtype u) (cell_at a i ∷ null_unless (sym (all_valid k.valid i plain) j) (value (value_at (sym is j) i)) ∷ [])))
