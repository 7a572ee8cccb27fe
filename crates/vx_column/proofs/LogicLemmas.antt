-- Logic on truth values that are told by bits, from what is sure and what is possible.
use Rattle.std.proofs.Common.{◌≡◌, ℕ, Bool, true, false, List, [], ◌∷◌, map, Option, Some, None, refl, sym, ap, ◌∙◌, subst}
use Rattle.std.specs.Prelude.{◌&&◌, ◌||◌, IsSome}
use Rattle.std.specs.List.{range_with_len}
use Rattle.std.specs.Ordering.{bool_cmp, is_eq, is_le}
use Rattle.vx_value.specs.Types.{bool}
use Rattle.vx_value.specs.Nullabilities.{union}
use Rattle.vx_value.specs.Values.{boolean}
use Rattle.vx_value.specs.Cell.{Cell, value}
use Rattle.vx_value.specs.declared.dtype.Nullability.{Nullability}
use Rattle.vx_value.specs.declared.dtype.Nullability.TheVariants.{NonNullable, Nullable}
use Rattle.vx_value.specs.declared.dtype.Storage.{Storage}
use Rattle.vx_value.specs.declared.dtype.Storage.TheVariants.{Text}
use Rattle.vx_mask.specs.Logic.{bit_row}
use Rattle.vx_mask.specs.Operands.{bit_in}
use Rattle.vx_mask.specs.declared.operand.BitOperand.{BitOperand}
use Rattle.vx_mask.proofs.Lists.{same_below}
use Rattle.vx_fn.specs.Apply.{apply}
use Rattle.vx_fn.specs.Binary.{is_logical, logical_type, operator_type}
use Rattle.vx_fn.specs.Logic.{kleene_and, kleene_or, truth}
use Rattle.vx_fn.specs.ReturnTypes.{return_type}
use Rattle.vx_fn.specs.declared.function.Operator.{Operator}
use Rattle.vx_fn.specs.declared.function.Operator.TheVariants as operator
use Rattle.vx_fn.specs.declared.function.ScalarFnRef.TheVariants.{Binary}
use Rattle.vx_fn.proofs.BinaryLemmas.{result_type, and_is, or_is}
use Rattle.vx_tree.specs.ColumnTypes.{bytes_type}
use Rattle.vx_tree.specs.Tree.{Tree, dtype}
use Rattle.vx_column.specs.Arguments.{types_of, plain_type, row_of, IsSized}
use Rattle.vx_column.specs.Bits.{bit_by}
use Rattle.vx_column.specs.Computed.{IsColumnOfCells, IsCanonicalResult}
use Rattle.vx_column.specs.Truths.{argument_in, row_over, HasTruths}
use Rattle.vx_column.specs.ValidRows.{is_valid, nullability_in, null_unless}
use Rattle.vx_column.specs.declared.rows.argument.Argument.{Argument}
use Rattle.vx_column.specs.declared.rows.argument.ArgumentRows.{ArgumentRows}
use Rattle.vx_column.specs.declared.rows.argument.ArgumentRows.TheVariants.{Nulls, Bits, Integers, Decimals, Bytes}
use Rattle.vx_column.specs.declared.functions.operator.logic.Truths.{Truths}
use Rattle.vx_column.specs.declared.rows.valid.ValidRows.TheVariants as rows_valid
use Rattle.vx_column.proofs.MadeLemmas.{computed_by}
use Rattle.vx_column.proofs.OperatorLemmas.{bools_valued}
use Rattle.vx_column.proofs.ValidRowsLemmas.{bit_made}

pub logic_typed : (op : Operator) (m n : Nullability) → is_logical op ≡ true → return_type (Binary op) (bool m ∷ bool n ∷ []) ≡ Some (bool (union m n))
logic_typed operator.And m n h = result_type operator.And (bool m) (bool n) refl
logic_typed operator.Or m n h = result_type operator.Or (bool m) (bool n) refl
logic_typed _ m n h = absurd (cc)

-- the bits must be of a type that the operator takes
pub logic_taken : (op : Operator) → is_logical op ≡ true → IsSome (operator_type op (bool NonNullable))
logic_taken operator.And h = refl
logic_taken operator.Or h = refl
logic_taken _ h = absurd (cc)

-- and rows of another type are of none that it takes
pub logic_bits : (op : Operator) (r : ArgumentRows) → is_logical op ≡ true → IsSome (operator_type op (plain_type r)) → (bs : BitOperand) × (r ≡ Bits bs)
logic_bits op r logical taken = by_rows r (by_operator op logical taken)
  where
    by_operator : (op : Operator) → is_logical op ≡ true → IsSome (operator_type op (plain_type r)) → IsSome (logical_type (plain_type r))
    by_operator operator.And l h = h
    by_operator operator.Or l h = h
    by_operator _ l h = absurd (cc)

    no_bytes : (st : Storage) → IsSome (logical_type (bytes_type st)) → ⊥
    no_bytes Text h = absurd (cc)
    no_bytes _ h = absurd (cc)

    by_rows : (r : ArgumentRows) → IsSome (logical_type (plain_type r)) → (bs : BitOperand) × (r ≡ Bits bs)
    by_rows Nulls h = absurd (cc)
    by_rows (Bits bs) h = (bs, refl)
    by_rows (Integers zs) h = absurd (cc)
    by_rows (Decimals ds) h = absurd (cc)
    by_rows (Bytes bs) h = absurd (no_bytes bs.storage h)

-- ---- one truth value: whether it is sure to be true, and whether that is possible

abbrev truth_if : Bool → Bool → Option Bool
truth_if true b = Some b
truth_if false b = None

abbrev sure : Option Bool → Bool
sure None = false
sure (Some b) = b

abbrev possible : Option Bool → Bool
possible None = true
possible (Some b) = b

sure_bit : (v b : Bool) → sure (truth_if v b) ≡ v && b
sure_bit true b = refl
sure_bit false b = refl

possible_bit : (v b : Bool) → possible (truth_if v b) ≡ is_le (bool_cmp v b)
possible_bit true true = refl
possible_bit true false = refl
possible_bit false true = refl
possible_bit false false = refl

cell_is : (v b : Bool) → value (truth (truth_if v b)) ≡ null_unless v (value (boolean b))
cell_is true b = refl
cell_is false b = refl

-- ---- two, joined: the result is known if what is sure of it is all that is possible

-- of what is sure of a result, and of what is possible
abbrev joined_cell : Bool → Bool → Cell
joined_cell s p = null_unless (is_eq (bool_cmp s p)) (value (boolean s))

-- of what is sure of a truth value itself, and of what is possible
truth_joined : (q : Option Bool) → joined_cell (sure q) (possible q) ≡ value (truth q)
truth_joined None = refl
truth_joined (Some true) = refl
truth_joined (Some false) = refl

sure_and : (p q : Option Bool) → joined_cell (sure p && sure q) (possible p && possible q) ≡ value (truth (kleene_and p q))
sure_and (Some true) q = truth_joined q
sure_and (Some false) q = refl
sure_and None None = refl
sure_and None (Some true) = refl
sure_and None (Some false) = refl

sure_or : (p q : Option Bool) → joined_cell (sure p || sure q) (possible p || possible q) ≡ value (truth (kleene_or p q))
sure_or (Some true) q = refl
sure_or (Some false) q = truth_joined q
sure_or None None = refl
sure_or None (Some true) = refl
sure_or None (Some false) = refl

joined : (op : Operator) (m : Nullability) (p q : Option Bool) → is_logical op ≡ true →
    joined_cell (bit_by op (sure p) (sure q)) (bit_by op (possible p) (possible q)) ≡ apply (Binary op) (bool m ∷ bool m ∷ []) (bool m) (value (truth p) ∷ value (truth q) ∷ [])
joined operator.And m p q h = sure_and p q ∙ sym (and_is (bool m ∷ bool m ∷ []) m p q)
joined operator.Or m p q h = sure_or p q ∙ sym (or_is (bool m ∷ bool m ∷ []) m p q)
joined _ m p q h = absurd (cc)

joined_bits : (op : Operator) (m : Nullability) (v a w b : Bool) → is_logical op ≡ true →
    joined_cell (bit_by op (v && a) (w && b)) (bit_by op (is_le (bool_cmp v a)) (is_le (bool_cmp w b)))
    ≡ apply (Binary op) (bool m ∷ bool m ∷ []) (bool m) (null_unless v (value (boolean a)) ∷ null_unless w (value (boolean b)) ∷ [])
joined_bits op m v a w b h =
    (λ j. joined_cell (bit_by op (sym (sure_bit v a) j) (sym (sure_bit w b) j)) (bit_by op (sym (possible_bit v a) j) (sym (possible_bit w b) j)))
    ∙ joined op m (truth_if v a) (truth_if w b) h
    ∙ (λ j. apply (Binary op) (bool m ∷ bool m ∷ []) (bool m) (cell_is v a j ∷ cell_is w b j ∷ []))

-- ---- columns of them

module _ (op : Operator) (logical : is_logical op ≡ true) (l r : Truths) (n : ℕ) where
  -- what is joined of both
  abbrev pub over : (Bool → Bool → Bool) → ℕ → Bool
  over f i = bit_by op (row_over f l i) (row_over f r i)

  pub over_joined : (f : Bool → Bool → Bool) (first second bits : List Bool) → first ≡ map (row_over f l) (range_with_len 0 n)
      → second ≡ map (row_over f r) (range_with_len 0 n)
      → bits ≡ map (λ i. bit_by op (bit_row first i) (bit_row second i)) (range_with_len 0 n) → bits ≡ map (over f) (range_with_len 0 n)
  over_joined f first second bits left right made =
      made
      ∙ same_below n _ _ (λ i lt j. bit_by op (bit_made (row_over f l) first n i left lt j) (bit_made (row_over f r) second n i right lt j))

  -- if one of them is nullable
  pub nullable_joined : (low high known : List Bool) (u : Tree) → union (nullability_in l.valid.now) (nullability_in r.valid.now) ≡ Nullable →
      low ≡ map (over (λ a b. a && b)) (range_with_len 0 n) → high ≡ map (over (λ a b. is_le (bool_cmp a b))) (range_with_len 0 n) →
      known ≡ map (λ i. is_eq (bool_cmp (bit_row low i) (bit_row high i))) (range_with_len 0 n) →
      dtype u ≡ bool Nullable → IsColumnOfCells (rows_valid.Bits known) (λ i. value (boolean (bit_row low i))) n u →
      IsCanonicalResult (Binary op) (argument_in l ∷ argument_in r ∷ []) n u
  nullable_joined low high known u nullable lows highs knowns typed made =
      computed_by (Binary op) (argument_in l ∷ argument_in r ∷ []) (rows_valid.Bits known) (λ i. value (boolean (bit_row low i))) n u
      (logic_typed op (nullability_in l.valid.now) (nullability_in r.valid.now) logical ∙ ap (λ m. Some (bool m)) nullable ∙ ap Some (sym typed)) made
      (λ i lt. (λ j. null_unless (bit_made _ known n i knowns lt j) (value (boolean (bit_row low i))))
      ∙ (λ j. joined_cell (bit_made _ low n i lows lt j) (bit_made _ high n i highs lt j))
      ∙ joined_bits op Nullable (is_valid l.valid.now i) (bit_in l.bits i) (is_valid r.valid.now i) (bit_in r.bits i) logical
      ∙ ap (λ ty. apply (Binary op) (types_of (argument_in l ∷ argument_in r ∷ [])) ty (row_of (argument_in l ∷ argument_in r ∷ []) i)) (sym typed))

  -- if no row of either is null
  pub plain_joined : (m k w : Nullability) (bits : List Bool) (u : Tree) → l.valid.now ≡ rows_valid.All m → r.valid.now ≡ rows_valid.All k →
      bits ≡ map (λ i. bit_by op (bit_in l.bits i) (bit_in r.bits i)) (range_with_len 0 n) → w ≡ union m k →
      (dtype u ≡ bool w) × IsColumnOfCells (rows_valid.All w) (λ i. value (boolean (bit_row bits i))) n u →
      IsCanonicalResult (Binary op) (argument_in l ∷ argument_in r ∷ []) n u
  plain_joined m k w bits u first second made both h =
      subst (λ v. IsCanonicalResult (Binary op) (record { rows = Bits l.bits; valid = v } ∷ argument_in r ∷ []) n u) (sym first)
      (subst (λ v. IsCanonicalResult (Binary op) (record { rows = Bits l.bits; valid = rows_valid.All m } ∷ record { rows = Bits r.bits; valid = v } ∷ []) n u)
      (sym second)
      (computed_by (Binary op) (record { rows = Bits l.bits; valid = rows_valid.All m } ∷ record { rows = Bits r.bits; valid = rows_valid.All k } ∷ [])
      (rows_valid.All w) (λ i. value (boolean (bit_row bits i))) n u (logic_typed op m k logical ∙ ap (λ j. Some (bool j)) (sym both) ∙ ap Some (sym h.0)) h.1
      (λ i lt. ap (λ b. value (boolean b)) (bit_made _ bits n i made lt)
      ∙ sym (bools_valued op w (bit_in l.bits i) (bit_in r.bits i))
      ∙ ap (λ ty. apply (Binary op) (bool m ∷ bool k ∷ []) ty (value (boolean (bit_in l.bits i)) ∷ value (boolean (bit_in r.bits i)) ∷ [])) (sym h.0))))

-- ---- an argument of booleans

pub truths_sized : (n : ℕ) (t : Truths) (a : Argument) → argument_in t ≡ a → IsSized n a → HasTruths t n
truths_sized n t a is h = let sized : IsSized n (argument_in t) = subst (IsSized n) (sym is) h in (sized.0, sized.1)
