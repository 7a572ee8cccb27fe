-- Comparisons of the values that arguments store: an order of each type, and the column of what a comparison gives.
use Rattle.std.proofs.Common.{◌≡◌, ℕ, true, if◌then◌else◌, Some, None, refl, sym, ap, subst, ◌∙◌, ◌+◌, ℤ, Bool, false, List, [], ◌∷◌, ◌++◌, map, Result, IfOk}
use Rattle.std.specs.Prelude.{ℤ, IsSome, option_map, ◌&&◌, slice_get}
use Rattle.std.specs.Cmp.{nat_cmp_is}
use Rattle.std.proofs.lemmas.Result.{IfOk-weaker}
use Rattle.std.specs.Ordering.{int_cmp, ordering_then, ordering_reverse}
use Rattle.std.specs.declared.cmp.Ordering.{Ordering}
use Rattle.std.specs.declared.cmp.Ordering.TheVariants.{Less, Equal, Greater}
use Rattle.vx_value.specs.Storage.{storage_of}
use Rattle.vx_value.specs.Types.{DataType, bool}
use Rattle.vx_value.specs.Types as type
use Rattle.vx_value.specs.Nullabilities.{with_nullability}
use Rattle.vx_value.specs.Values.{Value, boolean, integer}
use Rattle.vx_value.specs.Cell.{Cell, value}
use Rattle.vx_value.specs.Order.{value_cmp, is_unnested}
use Rattle.vx_value.specs.OrderLaws.{value_cmp_total}
use Rattle.vx_value.specs.declared.dtype.Nullability.{Nullability}
use Rattle.vx_value.specs.declared.dtype.Nullability.TheVariants.{NonNullable}
use Rattle.vx_value.specs.declared.dtype.Storage.{Storage}
use Rattle.vx_value.specs.declared.dtype.Storage.TheVariants.{Text}
use Rattle.vx_fn.specs.Apply.{apply}
use Rattle.vx_fn.specs.Binary.{is_comparison, operator_type}
use Rattle.vx_fn.specs.Comparisons.{holds, is_ordered, ordered_type, compare, compared, same_cmp}
use Rattle.vx_fn.specs.Meanings.{null_through}
use Rattle.vx_fn.specs.declared.function.Operator.{Operator}
use Rattle.vx_fn.specs.declared.function.Operator.TheVariants as operator
use Rattle.vx_fn.specs.declared.function.ScalarFnRef.TheVariants.{Binary}
use Rattle.vx_tree.specs.ColumnTypes.{bytes_type, scale_of}
use Rattle.vx_tree.specs.Tree.{Tree, dtype}
use Rattle.vx_column.specs.Arguments.{plain_type, pair_types, pair_at, value_at, unscaled_in}
use Rattle.vx_column.specs.ValidRows.{nullability_in, is_valid}
use Rattle.vx_column.specs.declared.rows.argument.ArgumentRows.{ArgumentRows}
use Rattle.vx_column.specs.declared.rows.argument.ArgumentRows.TheVariants as stored
use Rattle.vx_column.specs.declared.rows.argument.BytesOperand.{BytesOperand}
use Rattle.vx_column.specs.declared.rows.argument.DecimalOperand.{DecimalOperand}
use Rattle.vx_column.specs.declared.rows.valid.ValidRows.{ValidRows}
use Rattle.vx_column.specs.Computed.{IsColumnOfCells}
use Rattle.vx_column.specs.Filled.{IsRowwiseResult}
use Rattle.vx_column.proofs.FilledLemmas.{filled}
use Rattle.std.proofs.lemmas.Option.{get_or_from_slice_get}
use Rattle.vx_column.specs.Checks.{checked_rows}
use Rattle.vx_column.specs.Compared.{is_compared}
use Rattle.std.specs.List.{range_with_len}
use Rattle.vx_column.proofs.ComputedLemmas.{items_more}
use Rattle.vx_column.proofs.MadeLemmas.{made_by}
use Rattle.vx_column.proofs.ValidRowsLemmas.{bit_made}
use Rattle.vx_mask.specs.Logic.{bit_row}
use Rattle.vx_mask.proofs.Lists.{same_below}

-- ---- what arguments store

-- numbers as values
abbrev pub integers : (ℕ → ℤ) → ℕ → Value
integers z i = integer (z i)

-- it isn't null if it has an order
pub stored_through : (r : ArgumentRows) (i : ℕ) (c : Cell) → is_ordered (plain_type r) ≡ true → null_through (value_at r i) c ≡ c
stored_through stored.Nulls i c h = absurd (cc)
stored_through (stored.Bits bs) i c h = refl
stored_through (stored.Integers zs) i c h = refl
stored_through (stored.Decimals ds) i c h = refl
stored_through (stored.Bytes bs) i c h = refl

pub bytes_ordered : {r : ArgumentRows} {bs : BytesOperand} → r ≡ stored.Bytes bs → is_ordered (plain_type r) ≡ true
bytes_ordered {bs = bs} is = ap (λ s. is_ordered (plain_type s)) is ∙ by_storage bs.storage
  where
    by_storage : (st : Storage) → is_ordered (bytes_type st) ≡ true
    by_storage Text = refl
    by_storage _ = refl

-- whatever the nullability is
pub ordered_again : (m : Nullability) (t : DataType) → is_ordered (with_nullability m t) ≡ is_ordered t
ordered_again m type.null = refl
ordered_again m _ = refl

-- ---- a comparison

-- text and bytes are only compared
pub bytes_compared : (op : Operator) {r : ArgumentRows} {bs : BytesOperand} → r ≡ stored.Bytes bs → IsSome (operator_type op (plain_type r))
    → is_comparison op ≡ true
bytes_compared op {bs = bs} is taken = by_operator op bs.storage (subst (λ s. IsSome (operator_type op (plain_type s))) is taken)
  where
    by_operator : (op : Operator) (st : Storage) → IsSome (operator_type op (bytes_type st)) → is_comparison op ≡ true
    by_operator operator.Add Text h = absurd (cc)
    by_operator operator.Add _ h = absurd (cc)
    by_operator operator.Sub Text h = absurd (cc)
    by_operator operator.Sub _ h = absurd (cc)
    by_operator operator.Mul Text h = absurd (cc)
    by_operator operator.Mul _ h = absurd (cc)
    by_operator operator.Div Text h = absurd (cc)
    by_operator operator.Div _ h = absurd (cc)
    by_operator operator.And Text h = absurd (cc)
    by_operator operator.And _ h = absurd (cc)
    by_operator operator.Or Text h = absurd (cc)
    by_operator operator.Or _ h = absurd (cc)
    by_operator _ _ h = refl

comparison_type : (op : Operator) (t : DataType) → is_comparison op ≡ true → is_ordered t ≡ true → operator_type op t ≡ Some (bool NonNullable)
comparison_type op t c h = by_operator op c
  where
    ordered : ordered_type t ≡ Some (bool NonNullable)
    ordered = ap (λ b. if b then Some (bool NonNullable) else None) h

    by_operator : (op : Operator) → is_comparison op ≡ true → operator_type op t ≡ Some (bool NonNullable)
    by_operator operator.Eq c = refl
    by_operator operator.NotEq c = refl
    by_operator operator.Gt c = ordered
    by_operator operator.Gte c = ordered
    by_operator operator.Lt c = ordered
    by_operator operator.Lte c = ordered
    by_operator _ c = absurd (cc)

-- stored values are compared by their order
value_unnested : (r : ArgumentRows) (i : ℕ) → is_unnested (value_at r i) ≡ true
value_unnested stored.Nulls i = refl
value_unnested (stored.Bits bs) i = refl
value_unnested (stored.Integers zs) i = refl
value_unnested (stored.Decimals ds) i = refl
value_unnested (stored.Bytes bs) i = refl

values_compared : (l r : ArgumentRows) (i : ℕ) → compare (value_at l i) (value_at r i) ≡ value_cmp (value_at l i) (value_at r i)
values_compared l r i =
    λ j. if value_unnested l i j && value_unnested r i j then value_cmp (value_at l i) (value_at r i) else same_cmp (value_at l i) (value_at r i)

compared_cell : (op : Operator) (m : Nullability) (l r : ArgumentRows) (i : ℕ) → is_ordered (plain_type l) ≡ true → is_ordered (plain_type r) ≡ true
    → is_comparison op ≡ true → apply (Binary op) (pair_types l r) (bool m) (pair_at l r i) ≡ value (boolean (holds op (value_cmp (value_at l i) (value_at r i))))
compared_cell op m l r i first second c = by_operator op c
  where
    through_both : (c : Cell) → null_through (value_at l i) (null_through (value_at r i) c) ≡ c
    through_both c = stored_through l i (null_through (value_at r i) c) first ∙ stored_through r i c second

    by_order : (op : Operator) → compared op (value_at l i) (value_at r i) ≡ value (boolean (holds op (value_cmp (value_at l i) (value_at r i))))
    by_order op = ap (λ o. value (boolean (holds op o))) (values_compared l r i)

    by_operator : (op : Operator) → is_comparison op ≡ true
        → apply (Binary op) (pair_types l r) (bool m) (pair_at l r i) ≡ value (boolean (holds op (value_cmp (value_at l i) (value_at r i))))
    by_operator operator.Eq c = through_both (compared operator.Eq (value_at l i) (value_at r i)) ∙ by_order operator.Eq
    by_operator operator.NotEq c = through_both (compared operator.NotEq (value_at l i) (value_at r i)) ∙ by_order operator.NotEq
    by_operator operator.Gt c = through_both (compared operator.Gt (value_at l i) (value_at r i)) ∙ by_order operator.Gt
    by_operator operator.Gte c = through_both (compared operator.Gte (value_at l i) (value_at r i)) ∙ by_order operator.Gte
    by_operator operator.Lt c = through_both (compared operator.Lt (value_at l i) (value_at r i)) ∙ by_order operator.Lt
    by_operator operator.Lte c = through_both (compared operator.Lte (value_at l i) (value_at r i)) ∙ by_order operator.Lte
    by_operator _ c = absurd (cc)

pub bits_more : (f : ℕ → Bool) (out : List Bool) (i : ℕ) (r : Bool) → out ≡ map f (range_with_len 0 i) → r ≡ f i
    → out ++ r ∷ [] ≡ map f (range_with_len 0 (i + 1))
bits_more = items_more

pub kept_more : (f : ℕ → Bool) (bits out : List Bool) (i : ℕ) (x b : Bool) → slice_get bits i ≡ Some b → x ≡ b && f i →
    out ≡ checked_rows (bit_row bits) f i → out ++ x ∷ [] ≡ checked_rows (bit_row bits) f (i + 1)
kept_more f bits out i x b here e h =
    bits_more (λ j. bit_row bits j && f j) out i x h (e ∙ ap (λ c. c && f i) (sym (get_or_from_slice_get bits i b false here)))

-- the bits of `op`, from those of the one that says the same of swapped operands
pub swapped_compared : {R E : Type 0} (read : R → ℕ → Value) (op known swapped : Operator) (l r p q : R) (v : ℕ → Bool) (n : ℕ) (found : Result (List Bool) E)
    → op ≡ known → ((o : Ordering) → holds swapped o ≡ holds known (ordering_reverse o)) → p ≡ r → q ≡ l
    → IfOk found (λ b. b ≡ checked_rows v (is_compared swapped (read p) (read q)) n)
    → IfOk found (λ b. b ≡ checked_rows v (is_compared op (read l) (read r)) n)
swapped_compared read op known swapped l r p q v n found is says first second =
    IfOk-weaker found _ _
    (λ b are. are
    ∙ (λ j. checked_rows v (is_compared swapped (read (first j)) (read (second j))) n)
    ∙ same_below n _ _
    (λ i lt. ap (λ b. v i && b)
    (says (value_cmp (read r i) (read l i)) ∙ (λ j. holds (sym is j) (sym (value_cmp_total.antisymm (read l i) (read r i)) j)))))

-- a column that stores these bits
pub compared_made : (op : Operator) (valid : ValidRows) (l r : ℕ → Value) (n : ℕ) (bits : List Bool) (t : Tree) →
    bits ≡ checked_rows (is_valid valid) (is_compared op l r) n → IsColumnOfCells valid (λ i. value (boolean (bit_row bits i))) n t →
    IsColumnOfCells valid (λ i. value (boolean (holds op (value_cmp (l i) (r i))))) n t
compared_made op valid l r n bits t are =
    made_by valid (λ i. value (boolean (bit_row bits i))) _ n t
    (λ i lt here. ap (λ b. value (boolean b)) (bit_made (λ j. is_valid valid j && holds op (value_cmp (l j) (r j))) bits n i are lt)
    ∙ ap (λ b. value (boolean (b && holds op (value_cmp (l i) (r i))))) here)

-- the column of one, from that of an order that is the values'
pub ordered_filled : (op : Operator) (l r : ArgumentRows) (order : ℕ → Ordering) (valid : ValidRows) (n : ℕ) (t : Tree)
    → is_ordered (plain_type l) ≡ true → is_ordered (plain_type r) ≡ true → is_comparison op ≡ true
    → ((i : ℕ) → order i ≡ value_cmp (value_at l i) (value_at r i))
    → (dtype t ≡ bool (nullability_in valid)) × IsColumnOfCells valid (λ i. value (boolean (holds op (order i)))) n t
    → IsRowwiseResult (Binary op) (pair_types l r) (operator_type op (plain_type l)) (pair_at l r) valid n t
ordered_filled op l r order valid n t first second c same made =
    filled (Binary op) (pair_types l r) (operator_type op (plain_type l)) (pair_at l r) valid n (bool (nullability_in valid)) (λ i. value (boolean (holds op (order i)))) t
    (ap (option_map (with_nullability (nullability_in valid))) (comparison_type op (plain_type l) c first)) made
    (λ i lt here. ap (λ o. value (boolean (holds op o))) (same i) ∙ sym (compared_cell op (nullability_in valid) l r i first second c))

-- from that of its values
pub compared_filled : (op : Operator) (l r : ArgumentRows) (p q : ℕ → Value) (valid : ValidRows) (n : ℕ) (t : Tree)
    → is_ordered (plain_type l) ≡ true → is_ordered (plain_type r) ≡ true → is_comparison op ≡ true → p ≡ value_at l → q ≡ value_at r
    → (dtype t ≡ bool (nullability_in valid)) × IsColumnOfCells valid (λ i. value (boolean (holds op (value_cmp (p i) (q i))))) n t
    → IsRowwiseResult (Binary op) (pair_types l r) (operator_type op (plain_type l)) (pair_at l r) valid n t
compared_filled op l r p q valid n t first second c left right =
    ordered_filled op l r (λ i. value_cmp (p i) (q i)) valid n t first second c (λ i j. value_cmp (left j i) (right j i))

-- ---- decimals

then_equal : (o : Ordering) → o ≡ ordering_then o Equal
then_equal Less = refl
then_equal Equal = refl
then_equal Greater = refl

-- decimals of one type are ordered as their numbers without their points
pub decimals_ordered : (l r : DecimalOperand) (p q : ℕ → ℤ) → p ≡ unscaled_in l → q ≡ unscaled_in r
    → plain_type (stored.Decimals l) ≡ plain_type (stored.Decimals r) → (i : ℕ)
    → value_cmp (integer (p i)) (integer (q i)) ≡ value_cmp (value_at (stored.Decimals l) i) (value_at (stored.Decimals r) i)
decimals_ordered l r p q left right same i =
    let scale : l.decimal.scale ≡ r.decimal.scale = ap (λ t. scale_of (storage_of t)) same in
    (λ j. int_cmp (left j i) (right j i))
    ∙ then_equal (int_cmp (unscaled_in l i) (unscaled_in r i))
    ∙ ap (ordering_then (int_cmp (unscaled_in l i) (unscaled_in r i))) (nat_cmp_is l.decimal.scale r.decimal.scale Equal scale)
