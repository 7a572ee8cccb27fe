-- What an operator gives on columns: the type of its result and the value of a row, over booleans and over integers.
use Rattle.std.proofs.Common.{◌≡◌, ℕ, Bool, true, false, if◌then◌else◌, refl, sym, ap, ◌∙◌, ◌∷◌, [], Some, None}
use Rattle.std.specs.Prelude.{ℤ, Option, IsSome, option_map}
use Rattle.vx_value.specs.Types.{null, bool, primitive, decimal}
use Rattle.vx_value.specs.Nullabilities.{with_nullability, union, same_but_nullability}
use Rattle.vx_value.specs.Values as values
use Rattle.vx_value.specs.Values.{boolean, integer}
use Rattle.vx_value.specs.Casts.{sized}
use Rattle.vx_value.specs.Cell.{value}
use Rattle.vx_value.specs.declared.dtype.PType.{PType}
use Rattle.vx_value.specs.declared.dtype.Nullability.{Nullability}
use Rattle.vx_value.specs.declared.dtype.Nullability.TheVariants.{NonNullable}
use Rattle.vx_fn.specs.Apply.{apply}
use Rattle.vx_fn.specs.ReturnTypes.{return_type}
use Rattle.vx_fn.specs.Binary.{is_comparison, is_logical, operator_type, null_rule, operated}
use Rattle.vx_fn.specs.Arithmetic.{calculated, calculated_by}
use Rattle.vx_fn.specs.Meanings.{widened}
use Rattle.vx_fn.specs.declared.function.Operator.{Operator}
use Rattle.vx_fn.specs.declared.function.Operator.TheVariants as operator
use Rattle.vx_fn.specs.declared.function.ScalarFnRef.TheVariants.{Binary}
use Rattle.vx_fn.proofs.BinaryLemmas.{result_type}
use Rattle.vx_value.specs.declared.dtype.Storage.{Storage}
use Rattle.vx_value.specs.declared.dtype.Storage.TheVariants.{Text}
use Rattle.vx_tree.specs.ColumnTypes.{bytes_type}
use Rattle.vx_column.specs.Bits.{bit_by}
use Rattle.vx_column.specs.Arguments.{type_of_argument, plain_type, types_of, ptype_in}
use Rattle.vx_column.specs.Computed.{Takes}
use Rattle.vx_column.specs.ValidRows.{nullability_in}
use Rattle.vx_column.proofs.KernelArgumentsLemmas.{argument_type, argument_nullability, plain_same}
use Rattle.vx_column.specs.declared.rows.argument.Argument.{Argument}
use Rattle.vx_column.specs.declared.rows.argument.ArgumentRows.{ArgumentRows}
use Rattle.vx_column.specs.declared.rows.argument.ArgumentRows.TheVariants as stored

-- ---- booleans

-- logic and comparison take them, and give booleans
bool_result : (op : Operator) → IsSome (operator_type op (bool NonNullable)) → operator_type op (bool NonNullable) ≡ Some (bool NonNullable)
bool_result operator.Add h = absurd (cc)
bool_result operator.Sub h = absurd (cc)
bool_result operator.Mul h = absurd (cc)
bool_result operator.Div h = absurd (cc)
bool_result _ h = refl

pub bools_typed : (op : Operator) (m : Nullability) → IsSome (operator_type op (bool NonNullable))
    → option_map (with_nullability m) (operator_type op (bool NonNullable)) ≡ Some (bool m)
bools_typed op m h = ap (option_map (with_nullability m)) (bool_result op h)

pub bools_valued : (op : Operator) (m : Nullability) (a b : Bool)
    → apply (Binary op) (bool NonNullable ∷ bool NonNullable ∷ []) (bool m) (value (boolean a) ∷ value (boolean b) ∷ []) ≡ value (boolean (bit_by op a b))
bools_valued operator.And m true b = refl
bools_valued operator.And m false b = refl
bools_valued operator.Or m true b = refl
bools_valued operator.Or m false b = refl
bools_valued operator.Eq m a b = refl
bools_valued _ m a b = refl

-- ---- integers

-- logic takes none
pub integers_plain : (op : Operator) (p : PType) → IsSome (operator_type op (primitive p NonNullable)) → is_logical op ≡ false
integers_plain operator.And p h = absurd (cc)
integers_plain operator.Or p h = absurd (cc)
integers_plain operator.Eq p h = refl
integers_plain _ p h = refl

pub integers_calculated : (op : Operator) (p : PType) (m : Nullability) → IsSome (operator_type op (primitive p NonNullable)) → is_comparison op ≡ false
    → option_map (with_nullability m) (operator_type op (primitive p NonNullable)) ≡ Some (primitive p m)
integers_calculated op p m h c = by_operator op c (integers_plain op p h)
  where
    by_operator : (op : Operator) → is_comparison op ≡ false → is_logical op ≡ false
        → option_map (with_nullability m) (operator_type op (primitive p NonNullable)) ≡ Some (primitive p m)
    by_operator operator.Add c l = refl
    by_operator operator.Sub c l = refl
    by_operator operator.Mul c l = refl
    by_operator operator.Div c l = refl
    by_operator _ c l = absurd (cc)

-- what isn't arithmetic on them compares them
pub integers_compared : (op : Operator) (p : PType) → IsSome (operator_type op (primitive p NonNullable)) → ¬ (op ≡ operator.Add) → ¬ (op ≡ operator.Sub)
    → ¬ (op ≡ operator.Mul) → ¬ (op ≡ operator.Div) → is_comparison op ≡ true
integers_compared operator.Add p h add sub mul div = absurd (add refl)
integers_compared operator.Sub p h add sub mul div = absurd (sub refl)
integers_compared operator.Mul p h add sub mul div = absurd (mul refl)
integers_compared operator.Div p h add sub mul div = absurd (div refl)
integers_compared operator.And p h add sub mul div = absurd (cc)
integers_compared operator.Or p h add sub mul div = absurd (cc)
integers_compared _ p h add sub mul div = refl

pub calculated_value : (op : Operator) (p : PType) (m : Nullability) (x y : ℤ) → is_logical op ≡ false
    → apply (Binary op) (primitive p NonNullable ∷ primitive p NonNullable ∷ []) (primitive p m) (value (integer x) ∷ value (integer y) ∷ []) ≡ calculated op p x y
calculated_value op p m x y l = ap (λ b. null_rule b (integer x) (null_rule b (integer y) (operated op (primitive p m) (integer x) (integer y)))) l

-- ---- nulls

-- they are only compared for equality
nulls_result : (op : Operator) → IsSome (operator_type op null) → operator_type op null ≡ Some (bool NonNullable)
nulls_result operator.Eq h = refl
nulls_result operator.NotEq h = refl
nulls_result _ h = absurd (cc)

pub nulls_typed : (op : Operator) (m : Nullability) → IsSome (operator_type op null)
    → option_map (with_nullability m) (operator_type op null) ≡ Some (bool m)
nulls_typed op m h = ap (option_map (with_nullability m)) (nulls_result op h)

-- ---- decimals

-- they are added and subtracted, and compared
decimals_plain : (op : Operator) (p s : ℕ) → IsSome (operator_type op (decimal p s NonNullable)) → is_logical op ≡ false
decimals_plain operator.And p s h = absurd (cc)
decimals_plain operator.Or p s h = absurd (cc)
decimals_plain operator.Eq p s h = refl
decimals_plain _ p s h = refl

pub decimals_calculated : (op : Operator) (p s : ℕ) (m : Nullability) → IsSome (operator_type op (decimal p s NonNullable)) → is_comparison op ≡ false
    → option_map (with_nullability m) (operator_type op (decimal p s NonNullable)) ≡ Some (decimal p s m)
decimals_calculated operator.Add p s m h c = refl
decimals_calculated operator.Sub p s m h c = refl
decimals_calculated operator.Mul p s m h c = absurd (cc)
decimals_calculated operator.Div p s m h c = absurd (cc)
decimals_calculated operator.And p s m h c = absurd (cc)
decimals_calculated operator.Or p s m h c = absurd (cc)
decimals_calculated _ p s m h c = absurd (cc)

-- what is neither of the two compares them
pub decimals_compared : (op : Operator) (p s : ℕ) → IsSome (operator_type op (decimal p s NonNullable)) → ¬ (op ≡ operator.Add) → ¬ (op ≡ operator.Sub)
    → is_comparison op ≡ true
decimals_compared operator.Add p s h add sub = absurd (add refl)
decimals_compared operator.Sub p s h add sub = absurd (sub refl)
decimals_compared operator.Mul p s h add sub = absurd (cc)
decimals_compared operator.Div p s h add sub = absurd (cc)
decimals_compared operator.And p s h add sub = absurd (cc)
decimals_compared operator.Or p s h add sub = absurd (cc)
decimals_compared _ p s h add sub = refl

pub decimal_value : (op : Operator) (p s : ℕ) (m : Nullability) (x y : ℤ) (q r : ℕ) → IsSome (operator_type op (decimal p s NonNullable))
    → apply (Binary op) (decimal p s NonNullable ∷ decimal p s NonNullable ∷ []) (decimal p s m) (value (values.decimal x q) ∷ value (values.decimal y r) ∷ []) ≡ calculated_by op (sized p s) x y
decimal_value op p s m x y q r h =
    ap (λ b. null_rule b (values.decimal x q) (null_rule b (values.decimal y r) (operated op (decimal p s m) (values.decimal x q) (values.decimal y r))))
    (decimals_plain op p s h)

-- ---- two arguments, by the types and the cells of their rows

-- an operator's result doesn't depend on the nullability of its arguments
same_for_bools : (op : Operator) (m : Nullability) → operator_type op (bool m) ≡ operator_type op (bool NonNullable)
same_for_bools operator.Eq m = refl
same_for_bools _ m = refl

same_for_integers : (op : Operator) (p : PType) (m : Nullability) → operator_type op (primitive p m) ≡ operator_type op (primitive p NonNullable)
same_for_integers operator.Eq p m = refl
same_for_integers _ p m = refl

same_for_decimals : (op : Operator) (p s : ℕ) (m : Nullability) → operator_type op (decimal p s m) ≡ operator_type op (decimal p s NonNullable)
same_for_decimals operator.Eq p s m = refl
same_for_decimals _ p s m = refl

same_for_bytes : (op : Operator) (st : Storage) (m : Nullability) → operator_type op (with_nullability m (bytes_type st)) ≡ operator_type op (bytes_type st)
same_for_bytes operator.Eq Text m = refl
same_for_bytes _ Text m = refl
same_for_bytes operator.Eq _ m = refl
same_for_bytes _ _ m = refl

operator_again : (op : Operator) (m : Nullability) (r : ArgumentRows) → operator_type op (with_nullability m (plain_type r)) ≡ operator_type op (plain_type r)
operator_again op m stored.Nulls = refl
operator_again op m (stored.Bits bs) = same_for_bools op m
operator_again op m (stored.Integers zs) = same_for_integers op (ptype_in zs) m
operator_again op m (stored.Decimals ds) = same_for_decimals op ds.decimal.precision ds.decimal.scale m
operator_again op m (stored.Bytes bs) = same_for_bytes op bs.storage m

taken_before : {A B : Type 0} (f : A → B) (o : Option A) (b : B) → option_map f o ≡ Some b → IsSome o
taken_before f None b e = absurd (cc)
taken_before f (Some a) b e = refl

module _ (op : Operator) (n : ℕ) (a b : Argument) (takes : Takes (Binary op) (a ∷ b ∷ []) n) where
  same_types : same_but_nullability (type_of_argument a) (type_of_argument b) ≡ true
  same_types = by_test (same_but_nullability (type_of_argument a) (type_of_argument b)) takes.types.1
    where
      by_test : (t : Bool) → widened (type_of_argument a) (widened (type_of_argument b) (if t then operator_type op (type_of_argument a) else None))
          ≡ Some takes.types.0
          → t ≡ true
      by_test true e = refl
      by_test false e = absurd (cc)

  pub operands_same : plain_type a.rows ≡ plain_type b.rows
  operands_same = plain_same n a b takes.sized.0 takes.sized.1.0 same_types

  pub operands_typed : return_type (Binary op) (types_of (a ∷ b ∷ []))
      ≡ option_map (with_nullability (union (nullability_in a.valid) (nullability_in b.valid))) (operator_type op (plain_type a.rows))
  operands_typed =
      let left = argument_nullability n a takes.sized.0 in
      let right = argument_nullability n b takes.sized.1.0 in
      result_type op (type_of_argument a) (type_of_argument b) same_types
      ∙ (λ i. option_map (with_nullability (union (left i) (right i))) (operator_type op (type_of_argument a)))
      ∙ ap (option_map (with_nullability (union (nullability_in a.valid) (nullability_in b.valid))))
      (ap (operator_type op) (argument_type n a takes.sized.0) ∙ operator_again op (nullability_in a.valid) a.rows)

  pub operands_taken : IsSome (operator_type op (plain_type a.rows))
  operands_taken = taken_before _ _ takes.types.0 (sym operands_typed ∙ takes.types.1)
