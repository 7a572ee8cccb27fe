-- The rows that a builder keeps: more of them at the end, also those of a column, and their types.
use Rattle.std.proofs.Common.{◌≡◌, inl, inr, ◌<◌, ◌≤◌, ◌+◌, ◌-◌, ℕ, zero, suc, Bool, true, false, List, [], ◌∷◌, ◌++◌, length}
use Rattle.std.proofs.Common.{map}
use Rattle.std.proofs.Common.{take}
use Rattle.std.proofs.Common.{replicate}
use Rattle.std.proofs.Common.{refl}
use Rattle.std.proofs.Common.{sym}
use Rattle.std.proofs.Common.{ap}
use Rattle.std.proofs.Common.{ap₂}
use Rattle.std.proofs.Common.{subst}
use Rattle.std.proofs.Common.{◌∙◌}
use Rattle.std.proofs.Common.{arith}
use Rattle.std.proofs.lemmas.Bool.{and_parts, and_from}
use Rattle.std.proofs.lemmas.List.{map-append, replicate-append-replicate, append-nil, append_assoc, length-append, length-replicate, take-append-le, take_all}
use Rattle.std.proofs.lemmas.List.Folds.{list_all-append}
use Rattle.std.specs.List.{list_all}
use Rattle.vx_value.specs.Types.{DataType, nullability_of, is_nullable}
use Rattle.vx_value.specs.Values.{Value, null}
use Rattle.vx_value.specs.IsOf.{is_of, is_stored, in_range}
use Rattle.vx_value.specs.Decimals.{smallest_width}
use Rattle.vx_value.specs.Storage.{storage_of, has_parts, is_nested}
use Rattle.vx_value.specs.Defaults.{zero_of}
use Rattle.vx_value.specs.Types as type
use Rattle.vx_value.specs.View.{type_of, value_of}
use Rattle.vx_value.specs.declared.scalar.ScalarValue.{ScalarValue}
use Rattle.vx_value.specs.declared.scalar.ScalarValue.TheVariants as scalar
use Rattle.vx_value.specs.declared.decimal.DecimalType.{DecimalType}
use Rattle.vx_value.specs.declared.dtype.Nullability.{Nullability}
use Rattle.vx_value.specs.declared.dtype.Nullability.TheVariants.{Nullable}
use Rattle.vx_value.specs.declared.dtype.PType.{PType}
use Rattle.vx_value.specs.declared.dtype.Storage.{Storage}
use Rattle.vx_value.specs.declared.dtype.Storage.TheVariants as storage
use Rattle.vx_value.proofs.DefaultsLemmas.{zero_typed}
use Rattle.std.specs.Prelude.{◌==◌}
use Rattle.std.specs.Cmp.{unsigned_Decides, first_so, second_so}
use Rattle.vx_tree.specs.Numbers.{Numbers}
use Rattle.vx_tree.proofs.DecimalNumbersLemmas.{digits_fit}
use Rattle.vx_column.proofs.RepeatedLemmas.{all_copies}
use Rattle.vx_column.proofs.StoredLemmas.{parts_in}
use Rattle.vx_column.specs.declared.builder.values.Values.{Values}
use Rattle.vx_column.specs.declared.builder.values.Values.TheVariants.{Nulls, Bits, Integers, Decimals, Bytes}
use Rattle.vx_tree.proofs.NativesLemmas.{map_copies}
use Rattle.std.specs.Prelude.{if◌then◌else◌}
use Rattle.std.specs.List.{range_with_len}
use Rattle.std.specs.Str.{is_utf8}
use Rattle.std.proofs.Common.{◌⊎◌}
use Rattle.std.proofs.Common.{get_or}
use Rattle.std.proofs.lemmas.List.FromFn.{length-map-range_with_len}
use Rattle.vx_value.specs.Values as of
use Rattle.vx_value.specs.Nullabilities.{with_nullability}
use Rattle.std.proofs.lemmas.Simd.{map-map}
use Rattle.std.specs.Prelude.{◌&&◌}
use Rattle.std.proofs.Common.{ℤ, pos, FitsSigned, to_z, of_z}
use Rattle.std.proofs.Math.Facts.{to_z-of_z}
use Rattle.std.specs.Int.{w128}
use Rattle.vx_mask.specs.Logic.{bit_row}
use Rattle.vx_mask.specs.Operands.{bit_in, HasBits}
use Rattle.vx_mask.proofs.Lists.{same_below, all_below}
use Rattle.vx_mask.specs.declared.operand.BitOperand.{BitOperand}
use Rattle.vx_tree.specs.ColumnTypes.{bytes_type, are_bytes_of}
use Rattle.vx_column.specs.Arguments.{value_at, ptype_in, integer_in, bytes_in, type_of_rows, type_of_argument, stored_decimals}
use Rattle.vx_column.specs.Arguments.{AreIntegers, AreDecimals, AreBytes, AreStored, IsSized}
use Rattle.vx_column.specs.ValidRows.{is_valid, HasValidity, nullability_in}
use Rattle.vx_column.specs.declared.rows.argument.Argument.{Argument}
use Rattle.vx_column.specs.declared.rows.argument.ArgumentRows.{ArgumentRows}
use Rattle.vx_column.specs.declared.rows.argument.ArgumentRows.TheVariants as stored
use Rattle.vx_column.specs.declared.rows.argument.IntegerOperand.{IntegerOperand}
use Rattle.vx_column.specs.declared.rows.argument.DecimalOperand.{DecimalOperand}
use Rattle.vx_column.specs.declared.rows.argument.BytesOperand.{BytesOperand}
use Rattle.vx_column.specs.declared.rows.valid.ValidRows.{ValidRows}
use Rattle.vx_column.specs.declared.rows.valid.ValidRows.TheVariants as valid
use Rattle.vx_column.proofs.KernelArgumentsLemmas.{argument_nullability}
use Rattle.vx_column.proofs.ValidRowsLemmas.{by_rows, counted, row_made, bit_made}
use Rattle.vx_column.proofs.UnscaledLemmas.{row_digits}
use Rattle.vx_column.proofs.ViewsLemmas.{row_stored}
use Rattle.vx_column.specs.Built.{TypedRows, appended}
use Rattle.vx_column.specs.Growing.{stored_values, zero_in, HaveStorage, Accepts, AcceptRows, AreRanged, rows_or, values_or, padded, told_more, masked_by}
use Rattle.vx_column.specs.Growing.{rows_kept, IsKept}

-- ---- values by bits

-- as many as before
pub length-masked_by : (d : Value) (bits : List Bool) (vs : List Value) → length (masked_by d bits vs) ≡ length vs
length-masked_by d [] vs = refl
length-masked_by d (b ∷ bits) [] = refl
length-masked_by d (b ∷ bits) (v ∷ vs) = omega (arith, length-masked_by d bits vs)

-- more of them, past the bits
pub masked_more : (d : Value) (bits : List Bool) (vs more : List Value) → length bits ≤ length vs → masked_by d bits (vs ++ more) ≡ masked_by d bits vs ++ more
masked_more d [] vs more within = refl
masked_more d (b ∷ bits) [] more within = absurd (omega arith)
masked_more d (b ∷ bits) (v ∷ vs) more within = λ i. masked_by d (b ∷ []) (v ∷ []) ++ masked_more d bits vs more (omega arith) i

-- bits that are true
masked_trues : (d : Value) (k : ℕ) (vs : List Value) → masked_by d (replicate k true) vs ≡ vs
masked_trues d zero vs = refl
masked_trues d (suc k) [] = refl
masked_trues d (suc k) (v ∷ vs) = ap (λ l. v ∷ l) (masked_trues d k vs)

masked_padded : (d : Value) (bits : List Bool) (k : ℕ) (vs : List Value) → length bits ≤ length vs
    → masked_by d (bits ++ replicate k true) vs ≡ masked_by d bits vs
masked_padded d [] k vs within = masked_trues d k vs
masked_padded d (b ∷ bits) k [] within = absurd (omega arith)
masked_padded d (b ∷ bits) k (v ∷ vs) within = λ i. masked_by d (b ∷ []) (v ∷ []) ++ masked_padded d bits k vs (omega arith) i

-- and bits that are false
masked_falses : (d z : Value) (k : ℕ) → masked_by d (replicate k false) (replicate k z) ≡ replicate k d
masked_falses d z zero = refl
masked_falses d z (suc k) = ap (λ l. d ∷ l) (masked_falses d z k)

masked_both : (d : Value) (bs cs : List Bool) (vs ws : List Value) → length bs ≡ length vs
    → masked_by d (bs ++ cs) (vs ++ ws) ≡ masked_by d bs vs ++ masked_by d cs ws
masked_both d [] cs [] ws long = refl
masked_both d [] cs (v ∷ vs) ws long = absurd (omega arith)
masked_both d (b ∷ bs) cs [] ws long = absurd (omega arith)
masked_both d (b ∷ bs) cs (v ∷ vs) ws long = λ i. masked_by d (b ∷ []) (v ∷ []) ++ masked_both d bs cs vs ws (omega arith) i

pub length-padded : (n : ℕ) (bits : List Bool) → length bits ≤ n → length (padded n bits) ≡ n
length-padded n bits within =
    omega (arith, length-append bits (replicate (n - length bits) true), length-replicate (n - length bits) true)

pub masked_nulls : (d z : Value) (bits : List Bool) (vs : List Value) (n k : ℕ) → length vs ≡ n → length bits ≤ n
    → masked_by d (padded n bits ++ replicate k false) (vs ++ replicate k z) ≡ masked_by d bits vs ++ replicate k d
masked_nulls d z bits vs n k long within =
    masked_both d (padded n bits) (replicate k false) vs (replicate k z) (length-padded n bits within ∙ sym long)
    ∙ ap₂ (λ l r. l ++ r) (masked_padded d bits (n - length bits) vs (omega arith)) (masked_falses d z k)

-- the bits before nulls came
pub bits_before : (n k : ℕ) (bits : List Bool) → take (length bits) (padded n bits ++ replicate k false) ≡ bits
bits_before n k bits =
    ap (take (length bits)) (append_assoc bits (replicate (n - length bits) true) (replicate k false))
    ∙ take-append-le (length bits) bits (replicate (n - length bits) true ++ replicate k false) (omega arith)
    ∙ take_all (length bits) bits (omega arith)

-- ---- types

-- the values of a type that can come
pub stored_as : (ty : DataType) (st : Storage) (v : Value) → storage_of ty ≡ st → is_of ty v ≡ true → is_stored (nullability_of ty) st (parts_in ty v) v ≡ true
stored_as ty st v e h = ap (λ x. is_stored (nullability_of ty) x (parts_in ty v) v) (sym e) ∙ h

nulls_accept : (m : Nullability) (parts : Bool) (n : ℕ) (s : ScalarValue) → is_stored m storage.Nulls parts (value_of s) ≡ true → Accepts (Nulls n) (value_of s)
nulls_accept m parts n (scalar.Bool b) h = absurd (cc)
nulls_accept m parts n _ h = absurd (cc)

bits_accept : (m : Nullability) (parts : Bool) (bits : List Bool) (s : ScalarValue) → is_stored m storage.Bits parts (value_of s) ≡ true → Accepts (Bits bits) (value_of s)
bits_accept m parts bits (scalar.Bool b) h = tt
bits_accept m parts bits _ h = absurd (cc)

integers_accept : (m : Nullability) (parts : Bool) (p : PType) (zs : Numbers PType) (s : ScalarValue) → zs.kind ≡ p → is_stored m (storage.Integers p) parts (value_of s) ≡ true
    → Accepts (Integers zs) (value_of s)
integers_accept m parts p zs (scalar.Integer z) e h = ap (λ o. in_range o z) e ∙ h
integers_accept m parts p zs _ e h = absurd (cc)

decimals_accept : (m : Nullability) (parts : Bool) (p r : ℕ) (zs : Numbers DecimalType) (s : ScalarValue) → p ≤ 38 → zs.kind ≡ smallest_width p
    → is_stored m (storage.Decimals p r) parts (value_of s) ≡ true → Accepts (Decimals zs r) (value_of s)
decimals_accept m parts p r zs (scalar.Decimal d) few e h = (
  digits_fit zs.kind p d.unscaled e few (second_so (d.scale == r) _ h),
  (unsigned_Decides d.scale r).0 (first_so (d.scale == r) _ h),
)
decimals_accept m parts p r zs _ few e h = absurd (cc)

text_accepts : (m : Nullability) (parts : Bool) (rs : List (List ℕ)) (s : ScalarValue) → is_stored m storage.Text parts (value_of s) ≡ true → Accepts (Bytes rs) (value_of s)
text_accepts m parts rs (scalar.Bytes bs) h = tt
text_accepts m parts rs _ h = absurd (cc)

bytes_accept : (m : Nullability) (parts : Bool) (rs : List (List ℕ)) (s : ScalarValue) → is_stored m storage.Bytes parts (value_of s) ≡ true → Accepts (Bytes rs) (value_of s)
bytes_accept m parts rs (scalar.Bytes bs) h = tt
bytes_accept m parts rs _ h = absurd (cc)

pub accepted : (ty : DataType) (values : Values) (s : ScalarValue) → HaveStorage (storage_of ty) values → is_of ty (value_of s) ≡ true
    → Accepts values (value_of s)
accepted ty (Nulls n) s kind h =
    nulls_accept (nullability_of ty) (parts_in ty (value_of s)) n s (stored_as ty storage.Nulls (value_of s) kind h)
accepted ty (Bits bits) s kind h =
    bits_accept (nullability_of ty) (parts_in ty (value_of s)) bits s (stored_as ty storage.Bits (value_of s) kind h)
accepted ty (Integers zs) s kind h =
    integers_accept (nullability_of ty) (parts_in ty (value_of s)) kind.0 zs s kind.2 (stored_as ty (storage.Integers kind.0) (value_of s) kind.1 h)
accepted ty (Decimals zs r) s kind h =
    decimals_accept (nullability_of ty) (parts_in ty (value_of s)) kind.0 r zs s kind.2 kind.3 (stored_as ty (storage.Decimals kind.0 r) (value_of s) kind.1 h)
accepted ty (Bytes rs) s (inl e) h =
    text_accepts (nullability_of ty) (parts_in ty (value_of s)) rs s (stored_as ty storage.Text (value_of s) e h)
accepted ty (Bytes rs) s (inr e) h =
    bytes_accept (nullability_of ty) (parts_in ty (value_of s)) rs s (stored_as ty storage.Bytes (value_of s) e h)

-- no type with such values is nested
pub kept_unnested : (st : Storage) (values : Values) → HaveStorage st values → has_parts st ≡ false
kept_unnested st (Nulls n) e = ap has_parts e
kept_unnested st (Bits bs) e = ap has_parts e
kept_unnested st (Integers zs) e = ap has_parts e.1
kept_unnested st (Decimals zs s) e = ap has_parts e.1
kept_unnested st (Bytes rs) (inl e) = ap has_parts e
kept_unnested st (Bytes rs) (inr e) = ap has_parts e

-- the zero value of the types of a storage that isn't nested
abbrev zero_stored : Storage → Value
zero_stored storage.Nulls = null
zero_stored storage.Bits = of.boolean false
zero_stored (storage.Integers p) = of.integer (pos 0)
zero_stored (storage.Decimals p s) = of.decimal (pos 0) s
zero_stored _ = of.bytes []

zero_known : (ty : DataType) → is_nested ty ≡ false → zero_stored (storage_of ty) ≡ zero_of ty
zero_known type.null h = refl
zero_known (type.bool m) h = refl
zero_known (type.primitive p m) h = refl
zero_known (type.decimal p s m) h = refl
zero_known (type.utf8 m) h = refl
zero_known (type.binary m) h = refl
zero_known _ h = absurd (cc)

-- what stands under a null is the type's zero value
zero_is : (st : Storage) (values : Values) → HaveStorage st values → zero_in values ≡ zero_stored st
zero_is st (Nulls n) e = ap zero_stored (sym e)
zero_is st (Bits bs) e = ap zero_stored (sym e)
zero_is st (Integers zs) e = ap zero_stored (sym e.1)
zero_is st (Decimals zs s) e = ap zero_stored (sym e.1)
zero_is st (Bytes rs) (inl e) = ap zero_stored (sym e)
zero_is st (Bytes rs) (inr e) = ap zero_stored (sym e)

zero_of_type : (ty : DataType) (values : Values) → HaveStorage (storage_of ty) values → is_of ty (zero_in values) ≡ true
zero_of_type ty values kind =
    let plain : is_nested ty ≡ false = kept_unnested (storage_of ty) values kind in
    ap (is_of ty) (zero_is (storage_of ty) values kind ∙ zero_known ty plain) ∙ zero_typed ty plain

pub null_of_type : (ty : DataType) → nullability_of ty ≡ Nullable → is_of ty null ≡ true
null_of_type ty e = ap is_nullable e

all_masked : (p : Value → Bool) (d : Value) (bits : List Bool) (vs : List Value) → (0 < length bits → p d ≡ true) → list_all p vs ≡ true
    → list_all p (masked_by d bits vs) ≡ true
all_masked p d [] vs h all = all
all_masked p d (b ∷ bits) [] h all = refl
all_masked p d (true ∷ bits) (v ∷ vs) h all =
    let parts = and_parts (p v) (list_all p vs) all in and_from _ _ parts.0 (all_masked p d bits vs (λ some. h (omega arith)) parts.1)
all_masked p d (false ∷ bits) (v ∷ vs) h all =
    let parts = and_parts (p v) (list_all p vs) all in and_from _ _ (h (omega arith)) (all_masked p d bits vs (λ some. h (omega arith)) parts.1)

-- ---- more of the values that stand under nulls

pub more_zeros : {A : Type 0} (old : Values) (make : A → Value) (d : A) (xs ys : List A) (k : ℕ) → stored_values old ≡ map make xs → zero_in old ≡ make d
    → ys ≡ xs ++ replicate k d → map make ys ≡ stored_values old ++ replicate k (zero_in old)
more_zeros old make d xs ys k stored none e =
    ap (map make) e ∙ map-append make xs (replicate k d) ∙ ap (λ l. map make xs ++ l) (map_copies make k d)
    ∙ (λ i. sym stored i ++ replicate k (sym none i))

pub more_nulls : (old : Values) (n k : ℕ) → old ≡ Nulls n → stored_values (Nulls (n + k)) ≡ stored_values old ++ replicate k null
more_nulls old n k e = sym (replicate-append-replicate n k null) ∙ ap (λ vs. stored_values vs ++ replicate k null) (sym e)

-- rows of a column: all of a list, copies of an item, and those that a list has where they are valid
pub all_rows_or : {A : Type 0} (d : A) (told : ValidRows) (m : Nullability) (xs : List A) → told ≡ valid.All m
    → xs ≡ rows_or d told (λ i. get_or xs i d) (length xs)
all_rows_or d told m xs is = by_rows xs d (length xs) refl ∙ ap (λ v. rows_or d v (λ i. get_or xs i d) (length xs)) (sym is)

pub copies_rows_or : {A : Type 0} (d : A) (told : ValidRows) (m : Nullability) (f : ℕ → A) (x : A) (n : ℕ) → told ≡ valid.All m → ((i : ℕ) → f i ≡ x)
    → replicate n x ≡ rows_or d told f n
copies_rows_or d told m f x n is same = sym (ap (λ v. rows_or d v f n) is ∙ all_below n f x (λ i lt. same i))

pub number_rows_or : (told : ValidRows) (m : Nullability) (f : ℕ → ℤ) (z : ℤ) (n : ℕ) → FitsSigned w128 z → told ≡ valid.All m → ((i : ℕ) → f i ≡ z)
    → replicate n (to_z w128 (of_z w128 z)) ≡ rows_or (pos 0) told f n
number_rows_or told m f z n fits is same = ap (replicate n) (to_z-of_z fits) ∙ copies_rows_or (pos 0) told m f z n is same

pub made_rows_or : {A : Type 0} (d : A) (told : ValidRows) (f : ℕ → A) (n : ℕ) (xs : List A) → xs ≡ map f (range_with_len 0 n)
    → rows_or d told (λ i. get_or xs i d) (length xs) ≡ rows_or d told f n
made_rows_or d told f n xs made =
    ap (rows_or d told (λ i. get_or xs i d)) (counted f xs n made)
    ∙ same_below n _ _ (λ i lt. ap (λ x. if is_valid told i then x else d) (row_made d f xs n i made lt))

and_if : (b c : Bool) → (b && c) ≡ (if b then c else false)
and_if true c = refl
and_if false c = refl

pub bits_rows_or : (bits : BitOperand) (told : ValidRows) (n : ℕ) (rows kept : List Bool) → rows ≡ map (λ i. bit_in bits i) (range_with_len 0 n)
    → kept ≡ map (λ i. is_valid told i && bit_row rows i) (range_with_len 0 n) → kept ≡ rows_or false told (bit_in bits) n
bits_rows_or bits told n rows kept read made =
    made
    ∙ same_below n _ _ (λ i lt. ap (λ b. is_valid told i && b) (bit_made (bit_in bits) rows n i read lt) ∙ and_if (is_valid told i) (bit_in bits i))

-- more rows of a column
made_of : {A : Type 0} (make : A → Value) (b : Bool) (x d : A) (v z : Value) → v ≡ make x → z ≡ make d → make (if b then x else d) ≡ (if b then v else z)
made_of make true x d v z first second = sym first
made_of make false x d v z first second = sym second

pub more_rows : {A : Type 0} (old : Values) (make : A → Value) (d : A) (rows : ArgumentRows) (f : ℕ → A) (told : ValidRows) (n : ℕ) (xs ys : List A)
    → stored_values old ≡ map make xs → zero_in old ≡ make d → value_at rows ≡ (λ i. make (f i))
    → ys ≡ xs ++ rows_or d told f n → map make ys ≡ stored_values old ++ values_or (zero_in old) rows told n
more_rows old make d rows f told n xs ys shown none read e =
    let row : ℕ → _ = λ i. if is_valid told i then f i else d in
    let made : map make (rows_or d told f n) ≡ values_or (zero_in old) rows told n =
    map-map make row (range_with_len 0 n)
    ∙ same_below n _ _ (λ i lt. made_of make (is_valid told i) (f i) d (value_at rows i) (zero_in old) (ap (λ g. g i) read) none) in
    ap (map make) e ∙ map-append make xs (rows_or d told f n) ∙ (λ i. sym shown i ++ made i)

pub more_null_rows : (old : Values) (k n : ℕ) (rows : ArgumentRows) (told : ValidRows) → old ≡ Nulls k → rows ≡ stored.Nulls
    → stored_values (Nulls (k + n)) ≡ stored_values old ++ values_or (zero_in old) rows told n
more_null_rows old k n rows told is none =
    let row = λ (i : ℕ). made_of (λ v. v) (is_valid told i) null null (value_at rows i) (zero_in old) (ap (λ r. value_at r i) none) (ap zero_in is) in
    more_nulls old k n is
    ∙ ap (λ l. stored_values old ++ l) (sym (all_below n _ null (λ i lt. sym (row i) ∙ either (is_valid told i))))
  where
    either : (b : Bool) → (if b then null else null) ≡ null
    either true = refl
    either false = refl

-- ---- a value of the same type

pub typed_so : (ty of_value : DataType) (v w : Value) → ty ≡ of_value → v ≡ w → is_of of_value w ≡ true → is_of ty v ≡ true
typed_so ty of_value v w seen same typed = (λ i. is_of (seen i) (same i)) ∙ typed

-- ---- rows of a column

-- rows of g, by bits
masked_from : (d : Value) (g h : ℕ → Value) (s : ℕ) (bs : List Bool)
    → ((i k : ℕ) → k ≡ s + i → i < length bs → (if get_or bs i false then g k else d) ≡ h k)
    → masked_by d bs (map g (range_with_len s (length bs))) ≡ map h (range_with_len s (length bs))
masked_from d g h s [] same = refl
masked_from d g h s (b ∷ bs) same =
    ap₂ (λ v l. v ∷ l) (same 0 s (omega arith) (omega arith))
    (masked_from d g h (s + 1) bs (λ i k at lt. same (suc i) k (omega (arith, at)) (omega (arith, lt))))

if_twice : (b : Bool) (v z d : Value) → (if b then (if b then v else z) else d) ≡ (if b then v else d)
if_twice true v z d = refl
if_twice false v z d = refl

masked_rows : (d z : Value) (bs : List Bool) (f : ℕ → Value) (m : ℕ) → length bs ≡ m
    → masked_by d bs (rows_or z (valid.Bits bs) f m) ≡ rows_or d (valid.Bits bs) f m
masked_rows d z bs f m long =
    subst (λ n. masked_by d bs (rows_or z (valid.Bits bs) f n) ≡ rows_or d (valid.Bits bs) f n) long
    (masked_from d _ _ 0 bs (λ i k at lt.
    let same : i ≡ k = omega (arith, at) in
    ap (λ j. if get_or bs j false then (if get_or bs k false then f k else z) else d) same ∙ if_twice (get_or bs k false) (f k) z d))

masked_appended : (d z : Value) (bits : List Bool) (vs : List Value) (n m : ℕ) (rows : ArgumentRows) (told : ValidRows) → length vs ≡ n → length bits ≤ n
    → HasValidity told m → masked_by d (told_more n bits told) (vs ++ values_or z rows told m) ≡ masked_by d bits vs ++ values_or d rows told m
masked_appended d z bits vs n m rows (valid.All k) long within sized = masked_more d bits vs (values_or z rows (valid.All k) m) (omega (arith, long, within))
masked_appended d z bits vs n m rows (valid.Bits more) long within sized =
    masked_both d (padded n bits) more vs (values_or z rows (valid.Bits more) m) (length-padded n bits within ∙ sym long)
    ∙ ap₂ (λ l r. l ++ r) (masked_padded d bits (n - length bits) vs (omega (arith, long, within))) (masked_rows d z more (value_at rows) m sized)

-- the bits before they came
pub told_before : (n : ℕ) (bits : List Bool) (told : ValidRows) → take (length bits) (told_more n bits told) ≡ bits
told_before n bits (valid.All m) = take_all (length bits) bits (omega arith)
told_before n bits (valid.Bits more) =
    ap (take (length bits)) (append_assoc bits (replicate (n - length bits) true) more)
    ∙ take-append-le (length bits) bits (replicate (n - length bits) true ++ more) (omega arith)
    ∙ take_all (length bits) bits (omega arith)

pub told_longer : (n : ℕ) (bits : List Bool) (told : ValidRows) → length bits ≤ length (told_more n bits told)
told_longer n bits (valid.All m) = omega arith
told_longer n bits (valid.Bits more) =
    omega (arith, length-append (padded n bits) more, length-append bits (replicate (n - length bits) true))

told_within : (n m : ℕ) (bits : List Bool) (told : ValidRows) → length bits ≤ n → HasValidity told m → length (told_more n bits told) ≤ n + m
told_within n m bits (valid.All k) within sized = omega (arith, within)
told_within n m bits (valid.Bits more) within sized = omega (arith, length-append (padded n bits) more, length-padded n bits within, sized)

told_nullable : (n : ℕ) (bits : List Bool) (told : ValidRows) (m : Nullability) → (0 < length bits → m ≡ Nullable) → m ≡ nullability_in told
    → 0 < length (told_more n bits told) → m ≡ Nullable
told_nullable n bits (valid.All k) m before same some = before some
told_nullable n bits (valid.Bits more) m before same some = same

-- each is a value of the type
row_typed : (m : Nullability) (rows : ArgumentRows) (n i : ℕ) → AreStored m rows n → AreRanged rows n → i < n
    → is_of (type_of_rows m rows) (value_at rows i) ≡ true
row_typed m stored.Nulls n i are ranged lt = refl
row_typed m (stored.Bits bs) n i are ranged lt = refl
row_typed m (stored.Integers zs) n i are ranged lt =
    let ty = type_of zs.dtype.now in
    let v = of.integer (integer_in zs i) in
    ap (λ st. is_stored (nullability_of ty) st (parts_in ty v) v) are.0.3 ∙ ranged i lt
row_typed m (stored.Decimals ds) n i are ranged lt =
    and_from _ _ ((unsigned_Decides ds.decimal.scale ds.decimal.scale).1 refl) (row_digits ds.decimal ds.rows n i are lt)
row_typed m (stored.Bytes bs) n i are ranged lt = by_storage bs.storage (row_stored bs.storage bs.rows n i are lt)
  where
    by_storage : (st : Storage) → are_bytes_of st (bytes_in bs i ∷ []) ≡ true
        → is_of (with_nullability m (bytes_type st)) (of.bytes (bytes_in bs i)) ≡ true
    by_storage storage.Text h = first_so (is_utf8 (bytes_in bs i)) _ h
    by_storage _ h = refl

if_passes : (p : Value → Bool) (b : Bool) (v z : Value) → p v ≡ true → p z ≡ true → p (if b then v else z) ≡ true
if_passes p true v z first second = first
if_passes p false v z first second = second

all_from : (p : Value → Bool) (f : ℕ → Value) (s m : ℕ) → ((i : ℕ) → i < s + m → p (f i) ≡ true) → list_all p (map f (range_with_len s m)) ≡ true
all_from p f s zero h = refl
all_from p f s (suc m) h = and_from _ _ (h s (omega arith)) (all_from p f (s + 1) m (λ i lt. h i (omega (arith, lt))))

-- they are of the kind that is kept for the type: a line for each kind
nulls_accepted : (n : ℕ) (values : Values) → HaveStorage storage.Nulls values → AcceptRows values stored.Nulls n
nulls_accepted n (Nulls k) h = tt
nulls_accepted n (Bits bs) h = absurd (cc)
nulls_accepted n (Integers zs) h = let no = h.1 in absurd (cc)
nulls_accepted n (Decimals zs s) h = let no = h.1 in absurd (cc)
nulls_accepted n (Bytes rs) (inl e) = absurd (cc)
nulls_accepted n (Bytes rs) (inr e) = absurd (cc)

bits_accepted : (n : ℕ) (rows : BitOperand) (values : Values) → HaveStorage storage.Bits values → HasBits rows n → AcceptRows values (stored.Bits rows) n
bits_accepted n rows (Nulls k) h are = absurd (cc)
bits_accepted n rows (Bits bs) h are = are
bits_accepted n rows (Integers zs) h are = let no = h.1 in absurd (cc)
bits_accepted n rows (Decimals zs s) h are = let no = h.1 in absurd (cc)
bits_accepted n rows (Bytes rs) (inl e) are = absurd (cc)
bits_accepted n rows (Bytes rs) (inr e) are = absurd (cc)

integers_accepted : (n : ℕ) (rows : IntegerOperand) (values : Values) → HaveStorage (storage.Integers (ptype_in rows)) values
    → AreIntegers (ptype_in rows) rows n → AcceptRows values (stored.Integers rows) n
integers_accepted n rows (Nulls k) h are = absurd (cc)
integers_accepted n rows (Bits bs) h are = absurd (cc)
integers_accepted n rows (Integers zs) h are =
    let is = h.1 in
    let same : ptype_in rows ≡ h.0 = cc in
    (are, same ∙ sym h.2)
integers_accepted n rows (Decimals zs s) h are = let no = h.1 in absurd (cc)
integers_accepted n rows (Bytes rs) (inl e) are = absurd (cc)
integers_accepted n rows (Bytes rs) (inr e) are = absurd (cc)

decimals_accepted : (n : ℕ) (rows : DecimalOperand) (values : Values) → HaveStorage (stored_decimals rows.decimal) values
    → AreDecimals rows n → AcceptRows values (stored.Decimals rows) n
decimals_accepted n rows (Nulls k) h are = absurd (cc)
decimals_accepted n rows (Bits bs) h are = absurd (cc)
decimals_accepted n rows (Integers zs) h are = let no = h.1 in absurd (cc)
decimals_accepted n rows (Decimals zs s) h are =
    let is = h.1 in
    let same : rows.decimal.precision ≡ h.0 = cc in
    let scale : rows.decimal.scale ≡ s = cc in
    (are, ap smallest_width same ∙ sym h.3, scale)
decimals_accepted n rows (Bytes rs) (inl e) are = absurd (cc)
decimals_accepted n rows (Bytes rs) (inr e) are = absurd (cc)

bytes_accepted : (n : ℕ) (rows : BytesOperand) (values : Values) (st : Storage) → HaveStorage st values → (st ≡ storage.Text) ⊎ (st ≡ storage.Bytes)
    → AreBytes rows n → AcceptRows values (stored.Bytes rows) n
bytes_accepted n rows (Nulls k) st h (inl e) are = absurd (cc)
bytes_accepted n rows (Nulls k) st h (inr e) are = absurd (cc)
bytes_accepted n rows (Bits bs) st h (inl e) are = absurd (cc)
bytes_accepted n rows (Bits bs) st h (inr e) are = absurd (cc)
bytes_accepted n rows (Integers zs) st h (inl e) are = let no = h.1 in absurd (cc)
bytes_accepted n rows (Integers zs) st h (inr e) are = let no = h.1 in absurd (cc)
bytes_accepted n rows (Decimals zs s) st h (inl e) are = let no = h.1 in absurd (cc)
bytes_accepted n rows (Decimals zs s) st h (inr e) are = let no = h.1 in absurd (cc)
bytes_accepted n rows (Bytes rs) st h e are = are

storage_of_bytes : (m : Nullability) (st : Storage)
    → (storage_of (with_nullability m (bytes_type st)) ≡ storage.Text) ⊎ (storage_of (with_nullability m (bytes_type st)) ≡ storage.Bytes)
storage_of_bytes m storage.Text = inl refl
storage_of_bytes m _ = inr refl

pub rows_accepted : (ty : DataType) (values : Values) (m : Nullability) (rows : ArgumentRows) (n : ℕ) → HaveStorage (storage_of ty) values
    → ty ≡ type_of_rows m rows → AreStored m rows n → AcceptRows values rows n
rows_accepted ty values m stored.Nulls n kind e are = nulls_accepted n values (subst (λ st. HaveStorage st values) (ap storage_of e) kind)
rows_accepted ty values m (stored.Bits bs) n kind e are = bits_accepted n bs values (subst (λ st. HaveStorage st values) (ap storage_of e) kind) are
rows_accepted ty values m (stored.Integers zs) n kind e are =
    integers_accepted n zs values (subst (λ st. HaveStorage st values) (ap storage_of e ∙ are.0.3) kind) are.0
rows_accepted ty values m (stored.Decimals ds) n kind e are =
    decimals_accepted n ds values (subst (λ st. HaveStorage st values) (ap storage_of e) kind) are
rows_accepted ty values m (stored.Bytes bs) n kind e are =
    bytes_accepted n bs values _ (subst (λ st. HaveStorage st values) (ap storage_of e) kind) (storage_of_bytes m bs.storage) are

-- ---- what a builder keeps

module _ (ty : DataType) (n : ℕ) (values : Values) (bits : List Bool) (kept : IsKept ty n values bits) where
  pub rows_counted : length (rows_kept values bits) ≡ n
  rows_counted = length-masked_by null bits (stored_values values) ∙ kept.counted

  pub rows_typed : list_all (is_of ty) (rows_kept values bits) ≡ true
  rows_typed = all_masked (is_of ty) null bits (stored_values values) (λ some. null_of_type ty (kept.nullable some)) kept.typed

  module _ (new : Values) (same_zero : zero_in new ≡ zero_in values) (kind : (st : Storage) → HaveStorage st values → HaveStorage st new) where
    within : length bits ≤ length (stored_values values)
    within = omega (arith, kept.told, kept.counted)

    -- with more values
    pub rows_more : (more : List Value) → stored_values new ≡ stored_values values ++ more → rows_kept new bits ≡ rows_kept values bits ++ more
    rows_more more e = ap (masked_by null bits) e ∙ masked_more null bits (stored_values values) more within

    pub kept_more : (more : List Value) (m : ℕ) → stored_values new ≡ stored_values values ++ more → list_all (is_of ty) more ≡ true → m ≡ n + length more
        → IsKept ty m new bits
    kept_more more m e typed count =
        record {
          kind = kind (storage_of ty) kept.kind;
          counted = omega (arith, ap length e, length-append (stored_values values) more, kept.counted);
          typed = ap (list_all (is_of ty)) e ∙ list_all-append (is_of ty) (stored_values values) more ∙ and_from _ _ kept.typed typed;
          told = omega (arith, kept.told);
          nullable = kept.nullable;
          zeros = (λ i. masked_by (same_zero i) bits (e i)) ∙ masked_more (zero_in values) bits (stored_values values) more within
              ∙ ap (λ l. l ++ more) kept.zeros ∙ sym e;
        }

    -- with the same
    pub kept_same : stored_values new ≡ stored_values values → IsKept ty n new bits
    kept_same e = kept_more [] n (e ∙ sym (append-nil (stored_values values))) refl (omega arith)

    -- with nulls
    pub rows_nulls : (k : ℕ) → stored_values new ≡ stored_values values ++ replicate k (zero_in values)
        → rows_kept new (padded n bits ++ replicate k false) ≡ rows_kept values bits ++ replicate k null
    rows_nulls k e =
        ap (masked_by null (padded n bits ++ replicate k false)) e
        ∙ masked_nulls null (zero_in values) bits (stored_values values) n k kept.counted kept.told

    pub kept_nulls : (k : ℕ) → nullability_of ty ≡ Nullable → stored_values new ≡ stored_values values ++ replicate k (zero_in values)
        → IsKept ty (n + k) new (padded n bits ++ replicate k false)
    kept_nulls k nullable e =
        let copies = replicate k (zero_in values) in
        record {
          kind = kind (storage_of ty) kept.kind;
          counted = omega (arith, ap length e, length-append (stored_values values) copies, length-replicate k (zero_in values), kept.counted);
          typed = ap (list_all (is_of ty)) e ∙ list_all-append (is_of ty) (stored_values values) copies
              ∙ and_from _ _ kept.typed (all_copies (is_of ty) k (zero_in values) (zero_of_type ty values kept.kind));
          told = omega (arith, length-append (padded n bits) (replicate k false), length-padded n bits kept.told, length-replicate k false);
          nullable = λ some. nullable;
          zeros = (λ i. masked_by (same_zero i) (padded n bits ++ replicate k false) (e i))
              ∙ masked_nulls (zero_in values) (zero_in values) bits (stored_values values) n k kept.counted kept.told
              ∙ ap (λ l. l ++ copies) kept.zeros ∙ sym e;
        }

    -- with the rows of an argument
    pub rows_appended : (rows : ArgumentRows) (told : ValidRows) (m : ℕ) → HasValidity told m
        → stored_values new ≡ stored_values values ++ values_or (zero_in values) rows told m
        → rows_kept new (told_more n bits told) ≡ rows_kept values bits ++ values_or null rows told m
    rows_appended rows told m sized e =
        ap (masked_by null (told_more n bits told)) e
        ∙ masked_appended null (zero_in values) bits (stored_values values) n m rows told kept.counted kept.told sized

    pub kept_appended : (a : Argument) (m : ℕ) → ty ≡ type_of_argument a → IsSized m a → AreRanged a.rows m
        → stored_values new ≡ stored_values values ++ values_or (zero_in values) a.rows a.valid m
        → IsKept ty (n + m) new (told_more n bits a.valid)
    kept_appended a m same sized ranged e =
        let more = values_or (zero_in values) a.rows a.valid m in
        let zero = zero_of_type ty values kept.kind in
        let each = λ (i : ℕ) (lt : i < m). ap (λ t. is_of t (value_at a.rows i)) same ∙ row_typed (nullability_in a.valid) a.rows m i sized.0 ranged lt in
        record {
          kind = kind (storage_of ty) kept.kind;
          counted = omega (
            arith,
            ap length e,
            length-append (stored_values values) more,
            length-map-range_with_len (λ i. if is_valid a.valid i then value_at a.rows i else zero_in values) 0 m,
            kept.counted,
          );
          typed = ap (list_all (is_of ty)) e ∙ list_all-append (is_of ty) (stored_values values) more
              ∙ and_from _ _ kept.typed (all_from (is_of ty) _ 0 m
              (λ i lt. if_passes (is_of ty) (is_valid a.valid i) (value_at a.rows i) (zero_in values) (each i (omega (arith, lt))) zero));
          told = told_within n m bits a.valid kept.told sized.1;
          nullable = told_nullable n bits a.valid (nullability_of ty) kept.nullable (ap nullability_of same ∙ argument_nullability m a sized);
          zeros = (λ i. masked_by (same_zero i) (told_more n bits a.valid) (e i))
              ∙ masked_appended (zero_in values) (zero_in values) bits (stored_values values) n m a.rows a.valid kept.counted kept.told sized.1
              ∙ ap (λ l. l ++ more) kept.zeros ∙ sym e;
        }

  -- with nulls that nothing is stored of
  module _ (r k : ℕ) (is : values ≡ Nulls r) where
    same_zero : zero_in (Nulls (r + k)) ≡ zero_in values
    same_zero = ap zero_in (sym is)

    same_kind : (st : Storage) → HaveStorage st values → HaveStorage st (Nulls (r + k))
    same_kind st h = subst (HaveStorage st) is h

    pub rows_counted_on : rows_kept (Nulls (r + k)) bits ≡ rows_kept values bits ++ replicate k null
    rows_counted_on = rows_more (Nulls (r + k)) same_zero same_kind (replicate k null) (more_nulls values r k is)

    pub kept_counted_on : nullability_of ty ≡ Nullable → IsKept ty (n + k) (Nulls (r + k)) bits
    kept_counted_on nullable =
        kept_more (Nulls (r + k)) same_zero same_kind (replicate k null) (n + k) (more_nulls values r k is)
        (all_copies (is_of ty) k null (null_of_type ty nullable)) (omega (arith, length-replicate k null))

-- what is seen of them
pub seen_more : (ty : DataType) (rows new more : List Value) (r : TypedRows) → record { of_type = ty; values = rows } ≡ r → new ≡ rows ++ more
    → record { of_type = ty; values = new } ≡ appended r more
seen_more ty rows new more r seen e =
    let of_rows : List Value → TypedRows = λ vs. record { of_type = ty; values = vs } in
    ap of_rows e ∙ ap (λ x. appended x more) seen
