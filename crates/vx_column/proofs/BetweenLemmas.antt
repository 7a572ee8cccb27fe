-- Rows between bounds.
use Rattle.std.proofs.Common.{Result, IfOk, ◌≡◌, ◌<◌, ℕ, Bool, true, false, if◌then◌else◌, List, [], ◌∷◌, map, Some, None, refl, sym, ap, ◌∙◌}
use Rattle.std.proofs.lemmas.Result.{IfOk-weaker}
use Rattle.std.specs.Prelude.{◌&&◌}
use Rattle.std.specs.Ordering.{bool_cmp}
use Rattle.std.specs.Cmp.{first_so, second_so}
use Rattle.std.specs.List.{range_with_len}
use Rattle.vx_value.specs.Types.{DataType, bool, nullability_of}
use Rattle.vx_value.specs.Nullabilities.{union, same_but_nullability}
use Rattle.vx_value.specs.Values.{Value, null, boolean}
use Rattle.vx_value.specs.Cell.{Cell, value}
use Rattle.vx_value.specs.Order.{value_cmp}
use Rattle.vx_value.specs.declared.dtype.Nullability.TheVariants.{NonNullable}
use Rattle.vx_mask.specs.Logic.{bit_row}
use Rattle.vx_mask.specs.Operands.{bit_in}
use Rattle.vx_mask.specs.declared.operand.BitOperand.{BitOperand}
use Rattle.vx_mask.proofs.Lists.{same_below}
use Rattle.vx_fn.specs.Apply.{apply}
use Rattle.vx_fn.specs.Between.{is_below, lies_between}
use Rattle.vx_fn.specs.Comparisons.{is_ordered, ordered_type}
use Rattle.vx_fn.specs.Meanings.{widened, null_through}
use Rattle.vx_fn.specs.ReturnTypes.{return_type}
use Rattle.vx_fn.specs.declared.function.ScalarFnRef.TheVariants.{Between}
use Rattle.vx_fn.specs.declared.functions.between.BetweenOptions.{BetweenOptions}
use Rattle.vx_fn.specs.declared.functions.between.StrictComparison.{StrictComparison}
use Rattle.vx_fn.specs.declared.functions.between.StrictComparison.TheVariants.{Strict, NonStrict}
use Rattle.vx_fn.proofs.MeaningsLemmas.{union_with_plain}
use Rattle.vx_tree.specs.Tree.{Tree, dtype}
use Rattle.vx_column.specs.Arguments.{types_of, value_at, plain_type, type_of_argument}
use Rattle.vx_column.specs.Bits.{bit_by}
use Rattle.vx_column.specs.Bounds.{bound_by, is_between, AreBetween}
use Rattle.vx_column.specs.Checks.{checked_rows}
use Rattle.vx_column.specs.Computed.{Takes, IsColumnOfCells, IsCanonicalResult}
use Rattle.vx_column.specs.ValidRows.{is_valid, nullability_in, null_unless}
use Rattle.vx_column.specs.declared.rows.argument.Argument.{Argument}
use Rattle.vx_column.specs.declared.rows.argument.ArgumentRows.{ArgumentRows}
use Rattle.vx_column.specs.declared.rows.argument.ArgumentRows.TheVariants.{Bits}
use Rattle.vx_column.specs.declared.rows.valid.ValidRows.{ValidRows}
use Rattle.vx_column.proofs.ComparisonLemmas.{stored_through, ordered_again}
use Rattle.vx_column.proofs.MadeLemmas.{computed_by, stored_cell}
use Rattle.vx_column.proofs.KernelArgumentsLemmas.{argument_type, argument_nullability, plain_same}
use Rattle.vx_column.proofs.ValidRowsLemmas.{bit_made}

-- ---- a bound

bound_bit : (s : StrictComparison) (a b : Bool) → bit_by (bound_by s) a b ≡ is_below s (bool_cmp a b)
bound_bit Strict a b = refl
bound_bit NonStrict a b = refl

pub words_between : (options : BetweenOptions) (x l u : BitOperand) (v : ℕ → Bool) (n : ℕ) (above below bits : List Bool)
    → above ≡ map (λ i. bit_by (bound_by options.lower_strict) (bit_in l i) (bit_in x i)) (range_with_len 0 n)
    → below ≡ map (λ i. bit_by (bound_by options.upper_strict) (bit_in x i) (bit_in u i)) (range_with_len 0 n)
    → bits ≡ map (λ i. bit_row above i && bit_row below i) (range_with_len 0 n)
    → map (λ i. v i && bit_row bits i) (range_with_len 0 n) ≡ checked_rows v (is_between options (value_at (Bits x)) (value_at (Bits l)) (value_at (Bits u))) n
words_between options x l u v n above below bits first second both =
    same_below n _ _
    (λ i lt. ap (λ b. v i && b)
    (bit_made (λ k. bit_row above k && bit_row below k) bits n i both lt
    ∙ (λ j. bit_made (λ k. bit_by (bound_by options.lower_strict) (bit_in l k) (bit_in x k)) above n i first lt j
    && bit_made (λ k. bit_by (bound_by options.upper_strict) (bit_in x k) (bit_in u k)) below n i second lt j)
    ∙ (λ j. bound_bit options.lower_strict (bit_in l i) (bit_in x i) j && bound_bit options.upper_strict (bit_in x i) (bit_in u i) j)))

-- of values that are ordered as those that the arguments store
pub values_between : {E : Type 0} (options : BetweenOptions) (valid : ValidRows) (x l u : ArgumentRows) (p q r : ℕ → Value) (n : ℕ)
    (found : Result (List Bool) E) → ((i : ℕ) → value_cmp (q i) (p i) ≡ value_cmp (value_at l i) (value_at x i))
    → ((i : ℕ) → value_cmp (p i) (r i) ≡ value_cmp (value_at x i) (value_at u i))
    → IfOk found (λ b. b ≡ checked_rows (is_valid valid) (is_between options p q r) n) → IfOk found (AreBetween options valid x l u n)
values_between options valid x l u p q r n found below above =
    IfOk-weaker found _ _
    (λ b are. record {
      made = are
          ∙ same_below n _ _
          (λ i lt j. is_valid valid i && (is_below options.lower_strict (below i j) && is_below options.upper_strict (above i j)));
    })

-- ---- the function

-- a stored value isn't null
through : (v : Bool) (r : ArgumentRows) (i : ℕ) (c : Cell) → is_ordered (plain_type r) ≡ true
    → null_through (if v then value_at r i else null) c ≡ null_unless v c
through true r i c h = stored_through r i c h
through false r i c h = refl

lies_cell : (options : BetweenOptions) (ty : DataType) (v w k : Bool) (x l u : ArgumentRows) (i : ℕ)
    → is_ordered (plain_type x) ≡ true → is_ordered (plain_type l) ≡ true → is_ordered (plain_type u) ≡ true
    → apply (Between options) (plain_type x ∷ plain_type l ∷ plain_type u ∷ []) ty (null_unless v (value (value_at x i)) ∷ null_unless w (value (value_at l i)) ∷ null_unless k (value (value_at u i)) ∷ [])
    ≡ null_unless (v && (w && k)) (value (boolean (is_between options (value_at x) (value_at l) (value_at u) i)))
lies_cell options ty v w k x l u i first second third =
    (λ j. apply (Between options) (plain_type x ∷ plain_type l ∷ plain_type u ∷ []) ty (stored_cell v (value_at x i) j ∷ stored_cell w (value_at l i) j ∷ stored_cell k (value_at u i) j ∷ []))
    ∙ through v x i _ first
    ∙ ap (null_unless v) (through w l i _ second)
    ∙ ap (λ c. null_unless v (null_unless w c)) (through k u i _ third)
    ∙ by_bits v w k (value_at x i) (value_at l i) (value_at u i)
  where
    by_bits : (v w k : Bool) (p q r : Value)
        → null_unless v (null_unless w (null_unless k (lies_between options (if v then p else null) (if w then q else null) (if k then r else null))))
        ≡ null_unless (v && (w && k)) (lies_between options p q r)
    by_bits true true true p q r = refl
    by_bits true true false p q r = refl
    by_bits true false k p q r = refl
    by_bits false w k p q r = refl

kept_cell : (v b : Bool) → null_unless v (value (boolean (v && b))) ≡ null_unless v (value (boolean b))
kept_cell true b = refl
kept_cell false b = refl

module _ (options : BetweenOptions) (n : ℕ) (a l u : Argument) (takes : Takes (Between options) (a ∷ l ∷ u ∷ []) n) where
  same_types : (same_but_nullability (type_of_argument a) (type_of_argument l) && same_but_nullability (type_of_argument a) (type_of_argument u)) ≡ true
  same_types = by_test _ takes.types.1
    where
      by_test : (t : Bool)
          → widened (type_of_argument a) (widened (type_of_argument l) (widened (type_of_argument u) (if t then ordered_type (type_of_argument a) else None)))
          ≡ Some takes.types.0
          → t ≡ true
      by_test true e = refl
      by_test false e = absurd (cc)

  pub array_ordered : is_ordered (plain_type a.rows) ≡ true
  array_ordered =
      sym (ap is_ordered (argument_type n a takes.sized.0) ∙ ordered_again (nullability_in a.valid) (plain_type a.rows))
      ∙ by_tests _ _ takes.types.1
    where
      by_tests : (t o : Bool)
          → widened (type_of_argument a) (widened (type_of_argument l) (widened (type_of_argument u)
          (if t then (if o then Some (bool NonNullable) else None) else None)))
          ≡ Some takes.types.0
          → o ≡ true
      by_tests true true e = refl
      by_tests true false e = absurd (cc)
      by_tests false o e = absurd (cc)

  pub same_lower : plain_type a.rows ≡ plain_type l.rows
  same_lower = plain_same n a l takes.sized.0 takes.sized.1.0 (first_so _ _ same_types)

  pub same_upper : plain_type a.rows ≡ plain_type u.rows
  same_upper = plain_same n a u takes.sized.0 takes.sized.1.1.0 (second_so (same_but_nullability (type_of_argument a) (type_of_argument l)) _ same_types)

  between_typed : return_type (Between options) (types_of (a ∷ l ∷ u ∷ []))
      ≡ Some (bool (union (nullability_in a.valid) (union (nullability_in l.valid) (nullability_in u.valid))))
  between_typed =
      let of_array = argument_nullability n a takes.sized.0 in
      let of_lower = argument_nullability n l takes.sized.1.0 in
      let of_upper = argument_nullability n u takes.sized.1.1.0 in
      let A = type_of_argument a in
      let L = type_of_argument l in
      let U = type_of_argument u in
      ap (λ t. widened A (widened L (widened U (if t then ordered_type A else None)))) same_types
      ∙ ap (λ b. widened A (widened L (widened U (if b then Some (bool NonNullable) else None))))
      (ap is_ordered (argument_type n a takes.sized.0) ∙ ordered_again (nullability_in a.valid) (plain_type a.rows) ∙ array_ordered)
      ∙ ap (λ m. Some (bool (union (nullability_of A) (union (nullability_of L) m)))) (union_with_plain (nullability_of U) NonNullable refl)
      ∙ (λ j. Some (bool (union (of_array j) (union (of_lower j) (of_upper j)))))

  pub between_computed : (valid : ValidRows) (bits : List Bool) (t : Tree)
      → ((i : ℕ) → i < n → is_valid valid i ≡ is_valid a.valid i && (is_valid l.valid i && is_valid u.valid i))
      → nullability_in valid ≡ union (nullability_in a.valid) (union (nullability_in l.valid) (nullability_in u.valid))
      → bits ≡ checked_rows (is_valid valid) (is_between options (value_at a.rows) (value_at l.rows) (value_at u.rows)) n
      → (dtype t ≡ bool (nullability_in valid)) × IsColumnOfCells valid (λ i. value (boolean (bit_row bits i))) n t → IsCanonicalResult (Between options) (a ∷ l ∷ u ∷ []) n t
  between_computed valid bits t rows nullability are h =
      let lies = is_between options (value_at a.rows) (value_at l.rows) (value_at u.rows) in
      computed_by (Between options) (a ∷ l ∷ u ∷ []) valid (λ i. value (boolean (bit_row bits i))) n t
      (between_typed ∙ ap (λ m. Some (bool m)) (sym nullability) ∙ ap Some (sym h.0))
      h.1
      (λ i lt. ap (λ b. null_unless (is_valid valid i) (value (boolean b))) (bit_made (λ k. is_valid valid k && lies k) bits n i are lt)
      ∙ kept_cell (is_valid valid i) (lies i)
      ∙ ap (λ b. null_unless b (value (boolean (lies i)))) (rows i lt)
      ∙ sym (lies_cell options (dtype t) (is_valid a.valid i) (is_valid l.valid i) (is_valid u.valid i) a.rows l.rows u.rows i array_ordered
      (ap is_ordered (sym same_lower) ∙ array_ordered) (ap is_ordered (sym same_upper) ∙ array_ordered)))
