-- Casts of an argument: the targets that it has, and its rows.
use Rattle.std.proofs.Common.{◌≡◌, ◌==◌, ◌<◌, ◌+◌, ℕ, suc, ℤ, Bool, true, false, List, [], ◌∷◌, length, map, get_or, pos, Option, Some}
use Rattle.std.proofs.Common.{None}
use Rattle.std.proofs.Common.{inl}
use Rattle.std.proofs.Common.{inr}
use Rattle.std.proofs.Common.{refl}
use Rattle.std.proofs.Common.{sym}
use Rattle.std.proofs.Common.{ap}
use Rattle.std.proofs.Common.{◌∙◌}
use Rattle.std.proofs.Common.{subst}
use Rattle.std.proofs.Common.{if◌then◌else◌}
use Rattle.std.proofs.Common.{arith}
use Rattle.std.proofs.Math.Bool.{not}
use Rattle.std.specs.Prelude.{◌&&◌, is_some, nat_lt, MatchOption, option_map, Result, IfOk, IfErr}
use Rattle.std.proofs.lemmas.Result.{IfOk-weaker, IfErr-weaker}
use Rattle.std.proofs.lemmas.Bool.Decides.{nat_tests}
use Rattle.std.proofs.lemmas.Bool.{and_from, false≢true}
use Rattle.std.specs.Cmp.{unsigned_Decides, second_so}
use Rattle.vx_value.specs.Types.{DataType, null as null_type, bool, primitive, decimal, utf8, binary, nullability_of, is_nullable}
use Rattle.vx_value.specs.Nullabilities.{with_nullability}
use Rattle.vx_value.specs.Storage.{storage_of, is_nested}
use Rattle.vx_value.specs.View.{type_of}
use Rattle.vx_value.specs.Values.{Value, null, boolean, integer}
use Rattle.vx_value.specs.Values as of
use Rattle.vx_value.specs.Cell.{Cell, value, fault}
use Rattle.vx_value.specs.Decimals.{has_digits, smallest_width}
use Rattle.vx_value.specs.IsOf.{in_range, is_of}
use Rattle.vx_value.specs.Typed.{Typed}
use Rattle.vx_value.specs.Casts.{to_integer, rescaled, cast_to, has_cast}
use Rattle.vx_value.proofs.CastsLemmas.{into_typed, cast_to_self, cast_unchanged, cast_by_target}
use Rattle.vx_value.specs.declared.decimal.DecimalDType.{DecimalDType}
use Rattle.vx_value.specs.declared.decimal.DecimalType.{DecimalType}
use Rattle.vx_tree.specs.Widths.{fits_width}
use Rattle.vx_tree.proofs.DecimalNumbersLemmas.{digits_fit}
use Rattle.vx_value.specs.declared.dtype.DType.{DType}
use Rattle.vx_value.specs.declared.dtype.PType.{PType}
use Rattle.vx_value.specs.declared.dtype.Nullability.{Nullability}
use Rattle.vx_value.specs.declared.dtype.Nullability.TheVariants.{NonNullable, Nullable}
use Rattle.vx_value.specs.declared.dtype.Storage.{Storage}
use Rattle.vx_value.specs.declared.dtype.Storage.TheVariants.{Text}
use Rattle.vx_value.specs.declared.error.VortexError.{VortexError}
use Rattle.vx_value.specs.declared.rescaling.Rescaling.{Rescaling}
use Rattle.vx_mask.specs.Logic.{bit_row}
use Rattle.vx_mask.specs.Operands.{bit_in}
use Rattle.vx_mask.specs.Places.{true_count}
use Rattle.vx_mask.specs.declared.operand.BitOperand.{BitOperand}
use Rattle.vx_fn.specs.Apply.{apply}
use Rattle.vx_fn.specs.ReturnTypes.{return_type}
use Rattle.vx_fn.specs.declared.function.ScalarFnRef.TheVariants.{Cast}
use Rattle.vx_fn.proofs.CastLemmas.{cast_taken}
use Rattle.vx_tree.specs.ColumnTypes.{bytes_type}
use Rattle.vx_tree.specs.Tree.{Tree, dtype}
use Rattle.vx_tree.specs.Canonicals.{canonical_tree}
use Rattle.vx_tree.specs.declared.canonical.canonical.Canonical.{Canonical}
use Rattle.vx_tree.specs.Cells.{HasNoFault}
use Rattle.vx_column.specs.Arguments.{type_of_argument, type_of_rows, types_of, row_of, plain_type, value_at, unscaled_in, IsSized, IsRepeated}
use Rattle.vx_column.specs.Arguments.{HasStored}
use Rattle.vx_column.specs.Arguments.{AreStored}
use Rattle.vx_column.specs.Arguments.{AreShown}
use Rattle.vx_column.specs.Arguments.{AreDecimals}
use Rattle.vx_column.specs.Casts.{converted, rescaled_row, rescaled_item, IsCastTarget}
use Rattle.vx_column.specs.Computed.{Takes, IsColumnOfCells, IsCanonicalResult, HasNoCanonicalResult, cells_of}
use Rattle.vx_column.specs.Operands.{IsFaultyRow, IsDecimalColumnOf}
use Rattle.vx_column.specs.ValidRows.{is_valid, nullability_in, null_unless, HasValidity}
use Rattle.vx_column.specs.declared.rows.argument.Argument.{Argument}
use Rattle.vx_column.specs.declared.rows.argument.ArgumentRows.{ArgumentRows}
use Rattle.vx_column.specs.declared.rows.argument.DecimalOperand.{DecimalOperand}
use Rattle.vx_column.specs.declared.rows.argument.ArgumentRows.TheVariants as stored
use Rattle.vx_column.specs.declared.rows.valid.ValidRows.{ValidRows}
use Rattle.vx_column.specs.declared.rows.valid.ValidRows.TheVariants as rows_valid
use Rattle.vx_column.proofs.ComputedLemmas.{fault_among}
use Rattle.vx_column.proofs.MadeLemmas.{made_by, computed_by}
use Rattle.vx_column.proofs.KernelArgumentsLemmas.{argument_type, has_stored}
use Rattle.vx_column.proofs.UnscaledLemmas.{row_digits}
use Rattle.vx_column.proofs.ValidRowsLemmas.{row_made}
use Rattle.std.specs.List.{range_with_len}

-- ---- which casts there are

-- a cast to a type that isn't nested
plain_row : {a b : Bool} → a ≡ false → b ≡ true → (not a && b) ≡ true
plain_row e h = λ i. not (e i) && h i

bytes_target : (m : Nullability) (st : Storage) (t : DataType) → is_nested t ≡ false → has_cast (with_nullability m (bytes_type st)) t ≡ true
    → t ≡ with_nullability (nullability_of t) (bytes_type (storage_of t))
bytes_target m st (utf8 k) plain h = refl
bytes_target m st (binary k) plain h = refl
bytes_target m Text _ plain h = absurd (false≢true (plain_row plain h))
bytes_target m _ _ plain h = absurd (false≢true (plain_row plain h))

-- null alone goes into each nullable type
nulls_target : (t : DataType) → is_nested t ≡ false → has_cast null_type t ≡ true → nullability_of t ≡ Nullable
nulls_target null_type plain h = refl
nulls_target (bool Nullable) plain h = refl
nulls_target (primitive p Nullable) plain h = refl
nulls_target (decimal p s Nullable) plain h = refl
nulls_target (utf8 Nullable) plain h = refl
nulls_target (binary Nullable) plain h = refl
nulls_target _ plain h = absurd (false≢true (plain_row plain h))

cast_target : (r : ArgumentRows) (m : Nullability) (t : DataType) → is_nested t ≡ false → has_cast (with_nullability m (plain_type r)) t ≡ true → IsCastTarget r t
cast_target stored.Nulls m t plain h = nulls_target t plain h
cast_target (stored.Bits bs) m (bool k) plain h = refl
cast_target (stored.Bits bs) m _ plain h = absurd (false≢true (plain_row plain h))
cast_target (stored.Integers zs) m (primitive p k) plain h = inl (p, refl)
cast_target (stored.Integers zs) m (decimal p s k) plain h = inr (p, s, refl)
cast_target (stored.Integers zs) m _ plain h = absurd (false≢true (plain_row plain h))
cast_target (stored.Decimals ds) m (decimal p s k) plain h = (p, s, refl)
cast_target (stored.Decimals ds) m _ plain h = absurd (false≢true (plain_row plain h))
cast_target (stored.Bytes bs) m t plain h = bytes_target m bs.storage t plain h

-- ---- rows

-- what holds of each row before, and of one more
pub below_more : (P : ℕ → Type 0) (n : ℕ) → ((i : ℕ) → i < n → P i) → P n → (i : ℕ) → i < n + 1 → P i
below_more P n h p i lt = by_test (nat_lt i n) refl
  where
    by_test : (b : Bool) → nat_lt i n ≡ b → P i
    by_test true e = h i (grind (arith, nat_tests))
    by_test false e = subst P (grind (arith, nat_tests)) p

-- bits that aren't all true
pub false_row : (bits : List Bool) → ¬ (true_count bits ≡ length bits) → (i : ℕ) × (i < length bits) × (bit_row bits i ≡ false)
unfolding true_count
false_row [] h = absurd (h refl)
false_row (false ∷ bits) h = (0, omega arith, refl)
false_row (true ∷ bits) h =
    let later = false_row bits (λ e. h (ap suc e)) in
    (suc later.0, omega (arith, later.1), later.2)

-- the column of integers in their own type
pub integers_kept : (p : PType) (z : ℕ → ℤ) (valid : ValidRows) (n : ℕ) (u : Tree) → ((i : ℕ) → i < n → in_range p (z i) ≡ true)
    → IsColumnOfCells valid (λ i. value (integer (z i))) n u → IsColumnOfCells valid (converted p z) n u
integers_kept p z valid n u ranged =
    made_by valid (λ i. value (integer (z i))) (converted p z) n u
    (λ i lt here. ap (λ b. if b then value (integer (z i)) else fault) (sym (ranged i lt)))

-- the cells of numbers, by the rows that the numbers are made of
module _ (cell : ℤ → Cell) (z : ℕ → ℤ) (zs : List ℤ) (valid : ValidRows) (n : ℕ) (are : zs ≡ map z (range_with_len 0 n)) where
  same_row : (i : ℕ) → i < n → cell (get_or zs i (pos 0)) ≡ cell (z i)
  same_row i lt = ap cell (row_made (pos 0) z zs n i are lt)

  pub rows_cast : (u : Tree) → IsColumnOfCells valid (λ i. cell (get_or zs i (pos 0))) n u → IsColumnOfCells valid (λ i. cell (z i)) n u
  rows_cast u = made_by valid _ _ n u (λ i lt here. same_row i lt)

  pub rows_not_cast : (e : VortexError) → IsFaultyRow (is_valid valid) (λ i. cell (get_or zs i (pos 0))) n e
      → IsFaultyRow (is_valid valid) (λ i. cell (z i)) n e
  rows_not_cast e (inl memory) = inl memory
  rows_not_cast e (inr h) = inr (h.0, h.1, h.2, h.3, sym (same_row h.1 h.2) ∙ h.4)

-- so with numbers that are cast to decimals
module _ (x : Rescaling) (d : DecimalDType) (r : ℕ) (target : x.target ≡ d) (scale : x.scale ≡ r) (z : ℕ → ℤ) (zs : List ℤ) (valid : ValidRows) (n : ℕ)
    (are : zs ≡ map z (range_with_len 0 n)) where
  same_column : (u : Tree) → IsDecimalColumnOf x.target valid (rescaled_item x zs) n u → IsDecimalColumnOf d valid (rescaled_row d r z) n u
  same_column u h =
      subst (λ (s : ℕ). IsDecimalColumnOf d valid (rescaled_row d s z) n u) scale
      (subst (λ (t : DecimalDType). IsDecimalColumnOf t valid (rescaled_row t x.scale z) n u) target
      (h.0, rows_cast (λ (y : ℤ). rescaled x.target.precision x.target.scale y x.scale) z zs valid n are u h.1))

  same_fault : (e : VortexError) → IsFaultyRow (is_valid valid) (rescaled_item x zs) n e → IsFaultyRow (is_valid valid) (rescaled_row d r z) n e
  same_fault e h =
      subst (λ (s : ℕ). IsFaultyRow (is_valid valid) (rescaled_row d s z) n e) scale
      (subst (λ (t : DecimalDType). IsFaultyRow (is_valid valid) (rescaled_row t x.scale z) n e) target
      (rows_not_cast (λ (y : ℤ). rescaled x.target.precision x.target.scale y x.scale) z zs valid n are e h))

  pub decimals_cast : (found : Result Canonical VortexError) → IfOk found (λ c. IsDecimalColumnOf x.target valid (rescaled_item x zs) n (canonical_tree c))
      → IfErr found (IsFaultyRow (is_valid valid) (rescaled_item x zs) n)
      → IfOk found (λ c. IsDecimalColumnOf d valid (rescaled_row d r z) n (canonical_tree c)) × IfErr found (IsFaultyRow (is_valid valid) (rescaled_row d r z) n)
  decimals_cast found ok err = (IfOk-weaker found _ _ (λ c. same_column (canonical_tree c)) ok, IfErr-weaker found _ _ same_fault err)

-- of rows that are all null none is shown, whatever is stored
shown_null : (r : ArgumentRows) (valid : ValidRows) (n : ℕ) → AreShown stored.Nulls valid n → AreShown r valid n
shown_null stored.Nulls valid n h = h
shown_null _ valid n h = tt

pub shown_again : (r : ArgumentRows) (v w : ValidRows) (n : ℕ) → ((i : ℕ) → i < n → is_valid w i ≡ is_valid v i) → AreShown r v n → AreShown r w n
shown_again stored.Nulls v w n same h = λ i lt. same i lt ∙ h i lt
shown_again _ v w n same h = tt

-- the column of a null of type t, by the rows of the constant
module _ (x : Typed) (t : DataType) (r : ArgumentRows) (valid : ValidRows) (n : ℕ) (repeated : IsRepeated x r) (typed : x.of_type ≡ t)
    (nullability : nullability_in valid ≡ nullability_of t) (sized : HasValidity valid n) (shown : AreShown stored.Nulls valid n) where
  abbrev null_argument : Argument
  null_argument = record { rows = r; valid = valid }

  same_nullability : nullability_in valid ≡ nullability_of x.of_type
  same_nullability = nullability ∙ sym (ap nullability_of typed)

  null_sized : IsSized n null_argument
  null_sized = (subst (λ m. AreStored m r n) (sym same_nullability) (repeated.sized n), sized, shown_null r valid n shown)

  pub null_stored : HasStored r n
  null_stored = has_stored n null_argument null_sized

  pub nulls_cast : (u : Tree) → (dtype u ≡ with_nullability (nullability_in valid) (plain_type r)) × IsColumnOfCells valid (λ i. value (value_at r i)) n u
      → (dtype u ≡ t) × IsColumnOfCells valid (λ i. cast_to t null) n u
  nulls_cast u h = (
    h.0 ∙ sym (argument_type n null_argument null_sized) ∙ ap (λ m. type_of_rows m r) same_nullability ∙ repeated.typed ∙ typed,
    made_by valid _ _ n u (λ i lt here. let none = shown i lt in absurd (cc)) h.1,
  )

-- booleans stay
pub bits_kept : (r : ArgumentRows) (bs : BitOperand) (t : DataType) (valid : ValidRows) (n : ℕ) (u : Tree) → r ≡ stored.Bits bs → IsCastTarget r t
    → nullability_in valid ≡ nullability_of t
    → (dtype u ≡ with_nullability (nullability_in valid) (plain_type r)) × IsColumnOfCells valid (λ i. value (value_at r i)) n u
    → (dtype u ≡ t) × IsColumnOfCells valid (λ i. cast_to t (value_at r i)) n u
bits_kept stored.Nulls bs t valid n u is target nullability h = absurd (cc)
bits_kept (stored.Bits cs) bs t valid n u is target nullability h = (
  h.0 ∙ ap bool nullability ∙ sym target,
  made_by valid _ _ n u (λ i lt here. sym (ap (λ s. cast_to s (boolean (bit_in cs i))) target)) h.1,
)
bits_kept (stored.Integers zs) bs t valid n u is target nullability h = absurd (cc)
bits_kept (stored.Decimals ds) bs t valid n u is target nullability h = absurd (cc)
bits_kept (stored.Bytes ys) bs t valid n u is target nullability h = absurd (cc)

-- what is cast to a type by name
pub cast_made : (ty : Nullability → DataType) {r s : ArgumentRows} {t : DataType} {k : Nullability} (valid : ValidRows) (n : ℕ)
    (found : Result Canonical VortexError) → r ≡ s → t ≡ ty k → nullability_of (ty k) ≡ k → nullability_in valid ≡ nullability_of t
    → IfOk found (λ c. (dtype (canonical_tree c) ≡ ty (nullability_in valid)) × IsColumnOfCells valid (λ i. cast_to (ty k) (value_at s i)) n (canonical_tree c))
    → IfOk found (λ c. (dtype (canonical_tree c) ≡ t) × IsColumnOfCells valid (λ i. cast_to t (value_at r i)) n (canonical_tree c))
cast_made ty valid n found is typed own nullability =
    IfOk-weaker found _ _
    (λ c h. (
      h.0 ∙ ap ty (nullability ∙ ap nullability_of typed ∙ own) ∙ sym typed,
      made_by valid _ _ n (canonical_tree c) (λ i lt here. λ j. cast_to (sym typed j) (value_at (sym is j) i)) h.1,
    ))

-- an integer in another type
pub converted_row : {U : Type 0} (read : U → ℤ) (p : PType) (wide z : ℤ) (r : Option U)
    → option_map read r ≡ (if in_range p wide then Some wide else None) → wide ≡ z
    → MatchOption r (to_integer p (integer z) ≡ fault) (λ u. to_integer p (integer z) ≡ value (integer (read u)))
converted_row {U = U} read p wide z r h same =
    subst (λ w. MatchOption r (to_integer p (integer w) ≡ fault) (λ u. to_integer p (integer w) ≡ value (integer (read u)))) same
    (by_test (in_range p wide) r h)
  where
    by_test : (b : Bool) (r : Option U) → option_map read r ≡ (if b then Some wide else None)
        → MatchOption r ((if b then value (integer wide) else fault) ≡ fault) (λ u. (if b then value (integer wide) else fault) ≡ value (integer (read u)))
    by_test true None e = absurd (cc)
    by_test true (Some u) e = let is : wide ≡ read u = cc in ap (λ w. value (integer w)) is
    by_test false None e = refl
    by_test false (Some u) e = absurd (cc)

-- ---- decimals

-- a decimal in its own type
own_scale : (p s : ℕ) (z : ℤ) → has_digits p z ≡ true → value (of.decimal z s) ≡ rescaled p s z s
own_scale p s z h =
    let t = decimal p s NonNullable in
    let v = of.decimal z s in
    let typed : is_of t v ≡ true = and_from (s == s) (has_digits p z) ((unsigned_Decides s s).1 refl) h in
    sym (cast_unchanged t v typed) ∙ cast_by_target t t v typed refl (cast_to_self t)

-- the column of decimals in their own type
pub decimals_kept : (ds : DecimalOperand) (d : DecimalDType) (valid : ValidRows) (n : ℕ) (u : Tree) → AreDecimals ds n → ds.decimal.precision ≡ d.precision
    → ds.decimal.scale ≡ d.scale → (dtype u ≡ decimal ds.decimal.precision ds.decimal.scale (nullability_in valid))
    × IsColumnOfCells valid (λ i. value (value_at (stored.Decimals ds) i)) n u → IsDecimalColumnOf d valid (rescaled_row d ds.decimal.scale (unscaled_in ds)) n u
decimals_kept ds d valid n u are precision scale h = (
  h.0 ∙ (λ j. decimal (precision j) (scale j) (nullability_in valid)),
  made_by valid _ _ n u
      (λ i lt here. own_scale ds.decimal.precision ds.decimal.scale (unscaled_in ds i) (row_digits ds.decimal ds.rows n i are lt)
      ∙ (λ j. rescaled (precision j) (scale j) (unscaled_in ds i) ds.decimal.scale)) h.1,
)

-- what a cast gives has the digits of its type
rescaled_digits : (p s r : ℕ) (y z : ℤ) → rescaled p s y r ≡ value (of.decimal z s) → has_digits p z ≡ true
rescaled_digits p s r y z e = second_so (s == s) (has_digits p z) (into_typed (decimal p s NonNullable) (of.decimal y r) (of.decimal z s) e)

-- so it fits the width of the type
pub narrowed_row : {U : Type 0} (read : U → ℤ) (w : DecimalType) (d : DecimalDType) (r : ℕ) (y wide z : ℤ) (narrow : Option U)
    → option_map read narrow ≡ (if fits_width w wide then Some wide else None) → wide ≡ z → w ≡ smallest_width d.precision
    → rescaled d.precision d.scale y r ≡ value (of.decimal z d.scale)
    → MatchOption narrow (rescaled d.precision d.scale y r ≡ fault) (λ u. rescaled d.precision d.scale y r ≡ value (of.decimal (read u) d.scale))
narrowed_row {U = U} read w d r y wide z narrow h same width e =
    let fits : fits_width w wide ≡ true =
    ap (fits_width w) same ∙ digits_fit w d.precision z width d.is_decimal.1 (rescaled_digits d.precision d.scale r y z e) in
    by_option narrow (h ∙ ap (λ b. if b then Some wide else None) fits)
  where
    by_option : (o : Option U) → option_map read o ≡ Some wide
        → MatchOption o (rescaled d.precision d.scale y r ≡ fault) (λ u. rescaled d.precision d.scale y r ≡ value (of.decimal (read u) d.scale))
    by_option None k = absurd (cc)
    by_option (Some u) k = let is : z ≡ read u = cc in e ∙ ap (λ x. value (of.decimal x d.scale)) is

-- only nullable columns have nulls
null_nullable : (valid : ValidRows) (i : ℕ) → is_valid valid i ≡ false → nullability_in valid ≡ Nullable
null_nullable (rows_valid.All m) i h = absurd (cc)
null_nullable (rows_valid.Bits bits) i h = refl

cast_cell : (target : DType) (tys : List DataType) (t : DataType) (v : Bool) (x : Value) → (v ≡ false → nullability_of t ≡ Nullable)
    → null_unless v (cast_to t x) ≡ apply (Cast target) tys t (null_unless v (value x) ∷ [])
cast_cell target tys t true x h = refl
cast_cell target tys t false x h = sym (ap (λ m. if is_nullable m then value null else fault) (h refl))

-- ---- the column of a cast

module _ (n : ℕ) (a : Argument) (target : DType) (takes : Takes (Cast target) (a ∷ []) n) where
  found : (has_cast (type_of_argument a) (type_of target) ≡ true) × (return_type (Cast target) (types_of (a ∷ [])) ≡ Some (type_of target))
  found = cast_taken (type_of target) (type_of_argument a) (ap is_some takes.types.1)

  same_type : (t : DataType) → return_type (Cast target) (types_of (a ∷ [])) ≡ Some t → t ≡ type_of target
  same_type t h = let typed = found.1 in cc (typed, h)

  pub is_cast_target : is_nested (type_of target) ≡ false → IsCastTarget a.rows (type_of target)
  is_cast_target plain =
      cast_target a.rows (nullability_in a.valid) (type_of target) plain (ap (λ s. has_cast s (type_of target)) (sym (argument_type n a takes.sized.0)) ∙ found.0)

  -- its result isn't nested
  pub target_unnested : ((t : DataType) → return_type (Cast target) (types_of (a ∷ [])) ≡ Some t → is_nested t ≡ false) → is_nested (type_of target) ≡ false
  target_unnested plain = plain (type_of target) found.1

  pub null_not_computed : (i : ℕ) → i < n → is_valid a.valid i ≡ false → nullability_of (type_of target) ≡ NonNullable → (t : DataType)
      → return_type (Cast target) (types_of (a ∷ [])) ≡ Some t → ¬ (HasNoFault (cells_of (Cast target) (types_of (a ∷ [])) t (row_of (a ∷ [])) n))
  null_not_computed i lt here plain t typed =
      fault_among (λ j. apply (Cast target) (types_of (a ∷ [])) t (row_of (a ∷ []) j)) n i lt
      (ap (λ b. apply (Cast target) (types_of (a ∷ [])) t (null_unless b (value (value_at a.rows i)) ∷ [])) here
      ∙ ap (λ m. if is_nullable m then value null else fault) (ap nullability_of (same_type t typed) ∙ plain))

  module _ (valid : ValidRows) (rows : (i : ℕ) → i < n → is_valid valid i ≡ is_valid a.valid i) where
    pub cast_computed : (u : Tree) → nullability_in valid ≡ nullability_of (type_of target)
        → (dtype u ≡ type_of target) × IsColumnOfCells valid (λ i. cast_to (type_of target) (value_at a.rows i)) n u → IsCanonicalResult (Cast target) (a ∷ []) n u
    cast_computed u nullability h =
        computed_by (Cast target) (a ∷ []) valid _ n u (found.1 ∙ ap Some (sym h.0)) h.1
        (λ i lt. cast_cell target (types_of (a ∷ [])) (type_of target) (is_valid valid i) (value_at a.rows i) (λ e. sym nullability ∙ null_nullable valid i e)
        ∙ (λ j. apply (Cast target) (types_of (a ∷ [])) (sym h.0 j) (null_unless (rows i lt j) (value (value_at a.rows i)) ∷ [])))

    pub cast_not_computed : (e : VortexError) → IsFaultyRow (is_valid valid) (λ i. cast_to (type_of target) (value_at a.rows i)) n e
        → HasNoCanonicalResult (Cast target) (a ∷ []) n e
    cast_not_computed e (inl memory) = inl memory
    cast_not_computed e (inr h) =
        let i = h.1 in
        inr (
          h.0,
          λ t typed. fault_among (λ j. apply (Cast target) (types_of (a ∷ [])) t (row_of (a ∷ []) j)) n i h.2
              (ap (λ b. apply (Cast target) (types_of (a ∷ [])) t (null_unless b (value (value_at a.rows i)) ∷ [])) (sym (rows i h.2) ∙ h.3)
              ∙ ap (λ s. cast_to s (value_at a.rows i)) (same_type t typed)
              ∙ h.4),
        )
