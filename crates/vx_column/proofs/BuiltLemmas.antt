-- The column of the rows that a builder keeps, and the rows of a column as values.
use Rattle.std.proofs.Common.{◌≡◌, ◌⊎◌, inl, inr, ◌<◌, ◌≤◌, ◌+◌, ◌-◌, ℕ, zero, suc, ℤ, pos, Bool, true, false, Option, Some, None, List}
use Rattle.std.proofs.Common.{[]}
use Rattle.std.proofs.Common.{◌∷◌}
use Rattle.std.proofs.Common.{◌++◌}
use Rattle.std.proofs.Common.{length}
use Rattle.std.proofs.Common.{map}
use Rattle.std.proofs.Common.{replicate}
use Rattle.std.proofs.Common.{refl}
use Rattle.std.proofs.Common.{sym}
use Rattle.std.proofs.Common.{ap}
use Rattle.std.proofs.Common.{ap₂}
use Rattle.std.proofs.lemmas.Simd.{map-map}
use Rattle.std.proofs.Common.{◌∙◌}
use Rattle.std.proofs.Common.{arith}
use Rattle.std.specs.Prelude.{is_some, option_map, unwrap_or, not, ◌==◌, if◌then◌else◌}
use Rattle.std.specs.Str.{is_utf8}
use Rattle.std.specs.Cmp.{unsigned_Decides, first_so, second_so}
use Rattle.std.specs.List.{list_all}
use Rattle.std.proofs.lemmas.Bool.{and_parts, and_from, false≢true}
use Rattle.std.proofs.lemmas.List.{length-map, length-replicate}
use Rattle.std.proofs.lemmas.List.Folds.{list_all-map}
use Rattle.std.proofs.lemmas.Option.{same_Some}
use Rattle.vx_value.specs.Types as type
use Rattle.vx_value.specs.Types.{DataType, nullability_of}
use Rattle.vx_value.specs.Values as of
use Rattle.vx_value.specs.Values.{Value, null}
use Rattle.vx_value.specs.Cell.{Cell, value}
use Rattle.vx_value.specs.IsOf.{is_of, is_null, is_stored}
use Rattle.vx_value.specs.Nullabilities.{with_nullability}
use Rattle.vx_value.specs.Parts.{boolean_in, integer_in, bytes_in}
use Rattle.vx_value.specs.Storage.{storage_of, is_nested}
use Rattle.vx_column.proofs.StoredLemmas.{parts_in, decimal_kept, bytes_kept}
use Rattle.vx_value.specs.declared.dtype.Nullability.{Nullability}
use Rattle.vx_value.specs.declared.dtype.Nullability.TheVariants.{NonNullable, Nullable}
use Rattle.vx_value.specs.declared.dtype.PType.{PType}
use Rattle.vx_value.specs.declared.dtype.Storage.TheVariants as storage
use Rattle.vx_mask.specs.Masks.{is_all_true, is_all_false}
use Rattle.vx_tree.specs.Numbers.{Numbers}
use Rattle.vx_value.specs.Decimals.{has_digits, smallest_width, same_width_Decides}
use Rattle.vx_value.specs.declared.decimal.DecimalDType.{DecimalDType}
use Rattle.vx_value.specs.declared.decimal.DecimalType.{DecimalType}
use Rattle.vx_value.specs.declared.dtype.Storage.{Storage}
use Rattle.vx_column.specs.Arguments.{stored_decimals, unscaled_of}
use Rattle.vx_tree.specs.Tree as enc
use Rattle.vx_tree.specs.Tree.{Tree, Data, column, nulls_of, booleans, slots_of}
use Rattle.vx_tree.specs.Cells.{rows, slots_rows, cells_at, valid_cell, valid_cells}
use Rattle.vx_tree.specs.Rows.{item_or, bytes_rows}
use Rattle.vx_tree.specs.ColumnTypes.{width_in, bytes_type, are_bytes_of, are_views_of}
use Rattle.vx_tree.specs.Validities.{nullability_by, child_of, child_by, truths}
use Rattle.vx_tree.specs.declared.validity.Validity.{Validity}
use Rattle.vx_tree.specs.declared.validity.Validity.TheVariants.{Array}
use Rattle.vx_tree.specs.Well.{shape, shape_of, shapes, IsValidity, IsFlat, IsWell, AreWell}
use Rattle.vx_column.specs.Stored.{decimal_column}
use Rattle.vx_column.specs.ValidRows.{child_in, nullability_in}
use Rattle.std.specs.Prelude.{slice_get, slice_index_or}
use Rattle.std.specs.List.{range_with_len}
use Rattle.std.proofs.Common.{get_or}
use Rattle.std.proofs.Common.{subst}
use Rattle.vx_value.specs.Cell.{fault}
use Rattle.vx_value.specs.Types.{is_nullable}
use Rattle.vx_mask.proofs.Lists.{same_below}
use Rattle.vx_tree.specs.Tree.{dtype, len, constant_of}
use Rattle.vx_tree.specs.Cells.{HasNoFault}
use Rattle.vx_tree.proofs.NativesLemmas.{map_copies}
use Rattle.vx_column.specs.Arguments.{value_at, cell_at}
use Rattle.vx_column.specs.ValidRows.{is_valid, null_unless}
use Rattle.vx_column.specs.declared.rows.argument.Argument.{Argument}
use Rattle.vx_column.proofs.KeepsLemmas.{copies_clean}
use Rattle.vx_column.proofs.ValidRowsLemmas.{by_rows}
use Rattle.vx_column.proofs.StoredLemmas.{column_of_bytes}
use Rattle.vx_column.proofs.ValidRowsLemmas.{child_told, one_slot, bits_rows}
use Rattle.vx_column.proofs.ComposedLemmas.{slots_shaped}
use Rattle.vx_column.specs.ValueColumns.{present}
use Rattle.vx_column.specs.Built.{without_point, built_stored, built, value_in, values_in}
use Rattle.vx_column.specs.declared.builder.values.Values.{Values}
use Rattle.vx_column.specs.declared.builder.values.Values.TheVariants.{Nulls, Bits, Integers, Decimals, Bytes}
use Rattle.vx_column.specs.Growing.{HaveStorage, padded, masked_by, rows_kept, IsKept, IsNullConstant, told_rows, values_or, IsColumnOf}
use Rattle.vx_column.proofs.GrowingLemmas.{length-masked_by, stored_as, rows_counted}
use Rattle.vx_tree.specs.Views.{packed, bytes_at}
use Rattle.vx_tree.proofs.ViewsLemmas.{length-views_from, rows_packed, packed_lie, lie_tested}

-- ---- the validity

all_trues : (k : ℕ) → is_all_true (replicate k true) ≡ true
all_trues zero = refl
all_trues (suc k) = all_trues k

-- rows without bits are all valid
pub told_child : (m : Nullability) (n : ℕ) (bits : List Bool) → child_in (told_rows m n bits) ≡ child_by (padded n bits)
told_child m n [] =
    let bits = padded n [] in
    sym (ap (λ b. if b then None else (if is_all_false bits then Some (truths false (length bits)) else Some (booleans bits))) (all_trues (n - 0)))
told_child m n (b ∷ bits) = refl

pub told_nullability : (m : Nullability) (n : ℕ) (bits : List Bool) → (0 < length bits → m ≡ Nullable) → nullability_in (told_rows m n bits) ≡ m
told_nullability m n [] h = refl
told_nullability m n (b ∷ bits) h = sym (h (omega arith))

-- ---- rows of items: `read` has the item of a value that `make` makes of it, and none of null; `d` stands under a null

module _ {A : Type 0} (read : Value → Option A) (make : A → Value) (d : A) (made : (x : A) → read (make x) ≡ Some x) (no : read null ≡ None) where
  kept_items : (bits : List Bool) (xs : List A) → masked_by (make d) bits (map make xs) ≡ map make xs → length bits ≤ length xs
      → map (item_or d) (map read (masked_by null bits (map make xs))) ≡ xs
  kept_items [] [] zeros within = refl
  kept_items [] (x ∷ xs) zeros within = ap₂ (λ y l. y ∷ l) (ap (item_or d) (made x)) (kept_items [] xs refl (omega arith))
  kept_items (b ∷ bits) [] zeros within = absurd (omega arith)
  kept_items (true ∷ bits) (x ∷ xs) zeros within =
      let rest : masked_by (make d) bits (map make xs) ≡ map make xs = cc in
      ap₂ (λ y l. y ∷ l) (ap (item_or d) (made x)) (kept_items bits xs rest (omega arith))
  kept_items (false ∷ bits) (x ∷ xs) zeros within =
      let first : make d ≡ make x = cc in
      let rest : masked_by (make d) bits (map make xs) ≡ map make xs = cc in
      ap₂ (λ y l. y ∷ l) (ap (item_or d) no ∙ same_Some d x (sym (made d) ∙ ap read first ∙ made x)) (kept_items bits xs rest (omega arith))

  kept_bits : (bits : List Bool) (k : ℕ) (xs : List A) → length bits + k ≡ length xs
      → map is_some (map read (masked_by null bits (map make xs))) ≡ bits ++ replicate k true
  kept_bits [] zero [] e = refl
  kept_bits [] zero (x ∷ xs) e = absurd (omega arith)
  kept_bits [] (suc k) [] e = absurd (omega arith)
  kept_bits [] (suc k) (x ∷ xs) e = ap₂ (λ b l. b ∷ l) (ap is_some (made x)) (kept_bits [] k xs (omega arith))
  kept_bits (b ∷ bits) k [] e = absurd (omega arith)
  kept_bits (true ∷ bits) k (x ∷ xs) e = ap₂ (λ b l. b ∷ l) (ap is_some (made x)) (kept_bits bits k xs (omega arith))
  kept_bits (false ∷ bits) k (x ∷ xs) e = ap₂ (λ b l. b ∷ l) (ap is_some no) (kept_bits bits k xs (omega arith))

  -- their column
  column_kept : (s ty : DataType) (same : s ≡ ty) (of_items : List A → Data) (m : Nullability) (n : ℕ) (bits : List Bool) (xs : List A) (v : Validity)
      → masked_by (make d) bits (map make xs) ≡ map make xs → length bits ≤ n → length (map make xs) ≡ n → child_of v n ≡ child_in (told_rows m n bits)
      → column s (length xs) (of_items xs) (child_of v (length xs))
      ≡ column ty (length (map read (masked_by null bits (map make xs)))) (of_items (map (item_or d) (map read (masked_by null bits (map make xs)))))
      (child_by (map is_some (map read (masked_by null bits (map make xs)))))
  column_kept s ty same of_items m n bits xs v zeros within counted child =
      let kept = masked_by null bits (map make xs) in
      let long : length xs ≡ n = sym (length-map xs make) ∙ counted in
      let count : length xs ≡ length (map read kept) = sym (length-map kept read ∙ length-masked_by null bits (map make xs) ∙ length-map xs make) in
      let items = kept_items bits xs zeros (omega (arith, long)) in
      let told = kept_bits bits (n - length bits) xs (omega (arith, long)) in
      let validity = ap (child_of v) long ∙ child ∙ told_child m n bits ∙ ap child_by (sym told) in
      λ i. column (same i) (count i) (of_items (sym items i)) (validity i)

-- ---- the column

-- the width and the digits of decimals, and the bytes of text, by their type
pub width_known : (zs : Numbers DecimalType) (st : Storage) (s : ℕ) (d : DecimalDType) → HaveStorage st (Decimals zs s) → st ≡ stored_decimals d
    → zs.kind ≡ smallest_width d.precision
width_known zs st s d kind is =
    let same : storage.Decimals kind.0 s ≡ stored_decimals d = sym kind.1 ∙ is in
    let precision : kind.0 ≡ d.precision = cc in
    kind.3 ∙ ap smallest_width precision

pub digits_known : (ty : DataType) (d : DecimalDType) (s : ℕ) (zs : List ℤ) → storage_of ty ≡ stored_decimals d
    → list_all (is_of ty) (map (λ z. of.decimal z s) zs) ≡ true → list_all (has_digits d.precision) zs ≡ true
digits_known ty d s [] is all = refl
digits_known ty d s (z ∷ zs) is all =
    let parts = and_parts (is_of ty (of.decimal z s)) (list_all (is_of ty) (map (λ z. of.decimal z s) zs)) all in
    and_from _ _ (second_so (s == d.scale) _ (stored_as ty (stored_decimals d) (of.decimal z s) is parts.0)) (digits_known ty d s zs is parts.1)

pub bytes_known : (ty : DataType) (rs : List (List ℕ)) → list_all (is_of ty) (map (λ r. of.bytes r) rs) ≡ true → are_bytes_of (storage_of ty) rs ≡ true
bytes_known (type.utf8 m) rs all = sym (list_all-map (is_of (type.utf8 m)) of.bytes rs) ∙ all
bytes_known _ rs all = refl

decimal_is : (p s : ℕ) (ty : DataType) → storage_of ty ≡ storage.Decimals p s → type.decimal p s (nullability_of ty) ≡ ty
decimal_is p s (type.decimal q r m) e = let one : p ≡ q = cc in let two : s ≡ r = cc in λ i. type.decimal (one i) (two i) m
decimal_is p s _ e = absurd (cc)

bytes_stored : (ty : DataType) (vs : List Value) → (storage_of ty ≡ storage.Text) ⊎ (storage_of ty ≡ storage.Bytes)
    → bytes_rows ty (map bytes_in vs) ≡ built_stored (storage_of ty) ty vs
bytes_stored ty vs (inl e) = ap (λ st. built_stored st ty vs) (sym e)
bytes_stored ty vs (inr e) = ap (λ st. built_stored st ty vs) (sym e)

-- is the one of the rows
pub column_is : (ty : DataType) (n : ℕ) (values : Values) (bits : List Bool) → IsKept ty n values bits → (v : Validity) → nullability_by v ≡ nullability_of ty
    → child_of v n ≡ child_in (told_rows (nullability_of ty) n bits) → (t : Tree) → IsColumnOf (storage_of ty) values v t
    → t ≡ built (record { of_type = ty; values = rows_kept values bits })
column_is ty n (Nulls k) bits kept v nullable child t is =
    let count : k ≡ length (rows_kept (Nulls k) bits) =
    sym (length-replicate k null) ∙ kept.counted ∙ sym (rows_counted ty n (Nulls k) bits kept) in
    is ∙ ap nulls_of count ∙ ap (λ st. built_stored st ty (rows_kept (Nulls k) bits)) (sym kept.kind)
column_is ty n (Bits bs) bits kept v nullable child t is =
    is ∙ column_kept boolean_in of.boolean false (λ x. refl) refl (type.bool (nullability_by v)) (type.bool (nullability_of ty)) (ap type.bool nullable)
    enc.bool (nullability_of ty) n bits bs v kept.zeros kept.told kept.counted child
    ∙ ap (λ st. built_stored st ty (rows_kept (Bits bs) bits)) (sym kept.kind)
column_is ty n (Integers zs) bits kept v nullable child t is =
    is.2 ∙ column_kept integer_in of.integer (pos 0) (λ x. refl) refl (type.primitive is.0 (nullability_by v)) (type.primitive is.0 (nullability_of ty))
    (ap (type.primitive is.0) nullable) (enc.primitive is.0) (nullability_of ty) n bits zs.numbers v kept.zeros kept.told kept.counted child
    ∙ ap (λ st. built_stored st ty (rows_kept (Integers zs) bits)) (sym is.1)
column_is ty n (Decimals zs s) bits kept v nullable child t is =
    let d = is.0 in
    let same = ap (type.decimal d.precision d.scale) nullable ∙ decimal_is d.precision d.scale ty is.1 in
    is.2 ∙ ap (λ w. decimal_column d w zs.numbers v) (ap width_in (sym is.1))
    ∙ column_kept without_point (λ z. of.decimal z s) (pos 0) (λ x. refl) refl (type.decimal d.precision d.scale (nullability_by v)) ty same
    (enc.decimals (width_in (storage_of ty))) (nullability_of ty) n bits zs.numbers v kept.zeros kept.told kept.counted child
    ∙ ap (λ st. built_stored st ty (rows_kept (Decimals zs s) bits)) (sym is.1)
column_is ty n (Bytes rs) bits kept v nullable child t is =
    let same = ap (λ m. with_nullability m (bytes_type (storage_of ty))) nullable ∙ column_of_bytes ty kept.kind in
    let s = with_nullability (nullability_by v) (bytes_type (storage_of ty)) in
    is ∙ ap (λ k. column s k (enc.views (packed rs)) (child_of v k)) (length-views_from 0 rs)
    ∙ column_kept bytes_in of.bytes [] (λ x. refl) refl s ty same (λ l. enc.views (packed l))
    (nullability_of ty) n bits rs v kept.zeros kept.told kept.counted child
    ∙ bytes_stored ty (rows_kept (Bytes rs) bits) kept.kind

-- ---- its rows

abbrev IsNullOr : {A : Type 0} → (A → Value) → Value → Type 0
IsNullOr {A = A} make v = (v ≡ null) ⊎ ((x : A) × (v ≡ make x))

-- a value of a type is null, or made of an item: a line for each storage
null_or_boolean : (m : Nullability) (parts : Bool) (v : Value) → is_stored m storage.Bits parts v ≡ true → IsNullOr of.boolean v
null_or_boolean m parts null h = inl refl
null_or_boolean m parts (of.boolean b) h = inr (b, refl)
null_or_boolean m parts _ h = absurd (cc)

null_or_integer : (m : Nullability) (parts : Bool) (p : PType) (v : Value) → is_stored m (storage.Integers p) parts v ≡ true → IsNullOr of.integer v
null_or_integer m parts p null h = inl refl
null_or_integer m parts p (of.integer z) h = inr (z, refl)
null_or_integer m parts p _ h = absurd (cc)

null_or_decimal : (m : Nullability) (parts : Bool) (p s : ℕ) (v : Value) → is_stored m (storage.Decimals p s) parts v ≡ true → IsNullOr (λ z. of.decimal z s) v
null_or_decimal m parts p s null h = inl refl
null_or_decimal m parts p s (of.decimal z r) h = inr (z, ap (of.decimal z) ((unsigned_Decides r s).0 (first_so (r == s) _ h)))
null_or_decimal m parts p s _ h = absurd (cc)

null_or_text : (m : Nullability) (parts : Bool) (v : Value) → is_stored m storage.Text parts v ≡ true → IsNullOr of.bytes v
null_or_text m parts null h = inl refl
null_or_text m parts (of.bytes bs) h = inr (bs, refl)
null_or_text m parts _ h = absurd (cc)

null_or_bytes : (m : Nullability) (parts : Bool) (v : Value) → is_stored m storage.Bytes parts v ≡ true → IsNullOr of.bytes v
null_or_bytes m parts null h = inl refl
null_or_bytes m parts (of.bytes bs) h = inr (bs, refl)
null_or_bytes m parts _ h = absurd (cc)

all_null : (vs : List Value) → list_all (is_of type.null) vs ≡ true → replicate (length vs) (value null) ≡ map (λ v. value v) vs
all_null [] h = refl
all_null (null ∷ vs) h = ap (λ l. value null ∷ l) (all_null vs h)
all_null (v ∷ vs) h = absurd (cc)

module _ {A : Type 0} (read : Value → Option A) (make : A → Value) (d : A) (made : (x : A) → read (make x) ≡ Some x) (no : read null ≡ None) where
  cell_read : (v : Value) → IsNullOr make v → valid_cell (value (of.boolean (is_some (read v)))) (value (make (item_or d (read v)))) ≡ value v
  cell_read v (inl e) =
      ap (λ w. valid_cell (value (of.boolean (is_some (read w)))) (value (make (item_or d (read w))))) e
      ∙ ap (λ o. valid_cell (value (of.boolean (is_some o))) (value (make (item_or d o)))) no ∙ ap value (sym e)
  cell_read v (inr w) =
      ap (λ w. valid_cell (value (of.boolean (is_some (read w)))) (value (make (item_or d (read w))))) w.1
      ∙ ap (λ o. valid_cell (value (of.boolean (is_some o))) (value (make (item_or d o)))) (made w.0) ∙ ap value (sym w.1)

  cells_read : (p : Value → Bool) (vs : List Value) → ((v : Value) → p v ≡ true → IsNullOr make v) → list_all p vs ≡ true
      → valid_cells (map (λ b. value (of.boolean b)) (map is_some (map read vs))) (map (λ x. value (make x)) (map (item_or d) (map read vs)))
      ≡ map (λ v. value v) vs
  cells_read p [] known all = refl
  cells_read p (v ∷ vs) known all =
      let parts = and_parts (p v) (list_all p vs) all in
      ap₂ (λ c l. c ∷ l) (cell_read v (known v parts.0)) (cells_read p vs known parts.1)

  rows_read : (p : Value → Bool) (vs : List Value) → ((v : Value) → p v ≡ true → IsNullOr make v) → list_all p vs ≡ true
      → valid_cells (cells_at (slots_rows (slots_of (child_by (map is_some (map read vs)) ∷ []))) 0) (map (λ x. value (make x)) (map (item_or d) (map read vs)))
      ≡ map (λ v. value v) vs
  rows_read p vs known all =
      let bits = map is_some (map read vs) in
      let cells = map (λ x. value (make x)) (map (item_or d) (map read vs)) in
      let long : length cells ≡ length bits =
      length-map (map (item_or d) (map read vs)) (λ x. value (make x)) ∙ length-map (map read vs) (item_or d) ∙ sym (length-map (map read vs) is_some) in
      ap (λ css. valid_cells (cells_at css 0) cells) (one_slot (child_by bits)) ∙ child_told bits cells long ∙ cells_read p vs known all

-- the cells of rows in one buffer
cells_packed : (rs : List (List ℕ)) → map (λ v. value (of.bytes (bytes_at (packed rs).buffers v))) (packed rs).views ≡ map (λ r. value (of.bytes r)) rs
cells_packed rs =
    let cell : List ℕ → Cell = λ r. value (of.bytes r) in
    sym (map-map cell (bytes_at (packed rs).buffers) (packed rs).views) ∙ ap (map cell) (rows_packed rs)

bytes_read : (p : Value → Bool) (vs : List Value) → ((v : Value) → p v ≡ true → IsNullOr of.bytes v) → list_all p vs ≡ true
    → (ty : DataType) → rows (bytes_rows ty (map bytes_in vs)) ≡ map (λ v. value v) vs
bytes_read p vs known all ty =
    let rs = map (item_or []) (map bytes_in vs) in
    let css = slots_rows (slots_of (child_by (map is_some (map bytes_in vs)) ∷ [])) in
    ap (valid_cells (cells_at css 0)) (cells_packed rs) ∙ rows_read bytes_in of.bytes [] (λ x. refl) refl p vs known all

-- the values: a line for each type that isn't nested
pub rows_built : (ty : DataType) (vs : List Value) → is_nested ty ≡ false → list_all (is_of ty) vs ≡ true
    → rows (built (record { of_type = ty; values = vs })) ≡ map (λ v. value v) vs
rows_built type.null vs plain all = all_null vs all
rows_built (type.bool m) vs plain all =
    rows_read boolean_in of.boolean false (λ x. refl) refl (is_of (type.bool m)) vs (λ v. null_or_boolean m (parts_in (type.bool m) v) v) all
rows_built (type.primitive p m) vs plain all =
    rows_read integer_in of.integer (pos 0) (λ x. refl) refl (is_of (type.primitive p m)) vs (λ v. null_or_integer m (parts_in (type.primitive p m) v) p v) all
rows_built (type.decimal p s m) vs plain all =
    rows_read without_point (λ z. of.decimal z s) (pos 0) (λ x. refl) refl (is_of (type.decimal p s m)) vs (λ v. null_or_decimal m (parts_in (type.decimal p s m) v) p s v) all
rows_built (type.utf8 m) vs plain all =
    bytes_read (is_of (type.utf8 m)) vs (λ v. null_or_text m (parts_in (type.utf8 m) v) v) all (type.utf8 m)
rows_built (type.binary m) vs plain all =
    bytes_read (is_of (type.binary m)) vs (λ v. null_or_bytes m (parts_in (type.binary m) v) v) all (type.binary m)
rows_built _ vs plain all = absurd (cc)

-- ---- its conditions

-- the validity of values is absent, or their type is nullable
pub all_shown : (ty : DataType) (vs : List Value) → list_all (is_of ty) vs ≡ true → (nullability_of ty ≡ Nullable) ⊎ (is_all_true (present vs) ≡ true)
all_shown ty vs all = by_type (nullability_of ty) refl
  where
    no_null : nullability_of ty ≡ NonNullable → (ws : List Value) → list_all (is_of ty) ws ≡ true → is_all_true (present ws) ≡ true
    no_null e [] h = refl
    no_null e (null ∷ ws) h = absurd (false≢true (sym (ap is_nullable e) ∙ (and_parts (is_of ty null) (list_all (is_of ty) ws) h).0))
    no_null e (w ∷ ws) h = no_null e ws (and_parts (is_of ty w) (list_all (is_of ty) ws) h).1

    by_type : (m : Nullability) → nullability_of ty ≡ m → (nullability_of ty ≡ Nullable) ⊎ (is_all_true (present vs) ≡ true)
    by_type Nullable e = inl e
    by_type NonNullable e = inr (no_null e vs all)

pub child_fits : (m : Nullability) (bits : List Bool) (w : Option Tree) → w ≡ child_by bits → (m ≡ Nullable) ⊎ (is_all_true bits ≡ true)
    → IsValidity m (length bits) (option_map shape_of w) × AreWell (slots_of (w ∷ []))
child_fits m bits None e h = (tt, tt)
child_fits m bits (Some t) e (inl n) =
    let has = bits_rows bits (length bits) (Array t) refl e in
    (subst (λ k. IsValidity k (length bits) (Some (shape_of t))) (sym n) (λ i. shape (has.1 i) (has.2 i)), (has.0, tt))
child_fits m bits (Some t) e (inr h) =
    let none : Some t ≡ None = e ∙ ap (λ b. if b then None else (if is_all_false bits then Some (truths false (length bits)) else Some (booleans bits))) h in
    absurd (cc (none))

module _ {A : Type 0} (read : Value → Option A) (make : A → Value) (d : A) (made : (x : A) → read (make x) ≡ Some x) (no : read null ≡ None)
    (some : (x : A) → is_null (make x) ≡ false) where
  item_shown : (v : Value) → IsNullOr make v → is_some (read v) ≡ not (is_null v)
  item_shown v (inl e) = ap (λ w. is_some (read w)) e ∙ ap is_some no ∙ sym (ap (λ w. not (is_null w)) e)
  item_shown v (inr w) = ap (λ u. is_some (read u)) w.1 ∙ ap is_some (made w.0) ∙ sym (ap not (ap is_null w.1 ∙ some w.0))

  items_shown : (p : Value → Bool) (vs : List Value) → ((v : Value) → p v ≡ true → IsNullOr make v) → list_all p vs ≡ true
      → map is_some (map read vs) ≡ present vs
  items_shown p [] known all = refl
  items_shown p (v ∷ vs) known all =
      let parts = and_parts (p v) (list_all p vs) all in
      ap₂ (λ b l. b ∷ l) (item_shown v (known v parts.0)) (items_shown p vs known parts.1)

  -- k values of the type of_type, as a column of the type ty
  items_fit : (ty of_type : DataType) (vs : List Value) (k : ℕ) → ty ≡ with_nullability (nullability_of ty) of_type → length vs ≡ k
      → ((v : Value) → is_of ty v ≡ true → IsNullOr make v) → list_all (is_of ty) vs ≡ true
      → IsFlat of_type k ty (length (map read vs)) (shapes (slots_of (child_by (map is_some (map read vs)) ∷ [])))
      × AreWell (slots_of (child_by (map is_some (map read vs)) ∷ []))
  items_fit ty of_type vs k typed long known all =
      let bits = map is_some (map read vs) in
      let told = items_shown (is_of ty) vs known all in
      let shown = subst (λ bs. (nullability_of ty ≡ Nullable) ⊎ (is_all_true bs ≡ true)) (sym told) (all_shown ty vs all) in
      let fits = child_fits (nullability_of ty) bits (child_by bits) refl shown in
      let valid = subst (λ n. IsValidity (nullability_of ty) n (option_map shape_of (child_by bits))) (length-map (map read vs) is_some) fits.0 in
      ((option_map shape_of (child_by bits), typed, length-map vs read ∙ long, slots_shaped (child_by bits ∷ []), valid), fits.1)

-- numbers have few enough digits, and text is text; also what stands under a null
digits_read : (p s : ℕ) (m : Nullability) (vs : List Value) → list_all (is_of (type.decimal p s m)) vs ≡ true
    → list_all (has_digits p) (map (item_or (pos 0)) (map without_point vs)) ≡ true
digits_read p s m [] all = refl
digits_read p s m (v ∷ vs) all =
    let parts = and_parts (is_of (type.decimal p s m) v) (list_all (is_of (type.decimal p s m)) vs) all in
    and_from _ _ (one v (decimal_kept p s m (parts_in (type.decimal p s m) v) v parts.0)) (digits_read p s m vs parts.1)
  where
    one : (w : Value) → has_digits p (unscaled_of w) ≡ true → has_digits p (item_or (pos 0) (without_point w)) ≡ true
    one (of.decimal z r) h = h
    one _ h = h

text_read : (m : Nullability) (vs : List Value) → list_all (is_of (type.utf8 m)) vs ≡ true → list_all is_utf8 (map (item_or []) (map bytes_in vs)) ≡ true
text_read m [] all = refl
text_read m (v ∷ vs) all =
    let parts = and_parts (is_of (type.utf8 m) v) (list_all (is_of (type.utf8 m)) vs) all in
    let kept = bytes_kept m storage.Text (parts_in (type.utf8 m) v) v (inl refl) parts.0 in
    and_from _ _ (one v (first_so (is_utf8 (unwrap_or (bytes_in v) [])) true kept)) (text_read m vs parts.1)
  where
    one : (w : Value) → is_utf8 (unwrap_or (bytes_in w) []) ≡ true → is_utf8 (item_or [] (bytes_in w)) ≡ true
    one (of.bytes bs) h = h
    one _ h = h

packed_fit : (st : Storage) (rs : List (List ℕ)) → are_bytes_of st rs ≡ true → are_views_of st (packed rs) ≡ true
packed_fit st rs h = and_from _ _ (lie_tested (packed rs) (packed_lie rs)) (ap (are_bytes_of st) (rows_packed rs) ∙ h)

-- as many views as rows
views_long : (vs : List Value) → length vs ≡ length (packed (map (item_or []) (map bytes_in vs))).views
views_long vs = sym (length-views_from 0 (map (item_or []) (map bytes_in vs)) ∙ length-map (map bytes_in vs) (item_or []) ∙ length-map vs bytes_in)

items_long : {A : Type 0} (read : Value → Option A) (d : A) (vs : List Value) → length vs ≡ length (map (item_or d) (map read vs))
items_long read d vs = sym (length-map (map read vs) (item_or d) ∙ length-map vs read)

-- a line for each type that isn't nested
pub built_well : (ty : DataType) (vs : List Value) → is_nested ty ≡ false → list_all (is_of ty) vs ≡ true → IsWell (built_stored (storage_of ty) ty vs)
built_well type.null vs plain all = ((refl, refl), tt)
built_well (type.bool m) vs plain all =
    items_fit boolean_in of.boolean false (λ x. refl) refl (λ x. refl) (type.bool m) (type.bool NonNullable) vs _ refl (items_long boolean_in false vs)
    (λ v. null_or_boolean m (parts_in (type.bool m) v) v) all
built_well (type.primitive p m) vs plain all =
    items_fit integer_in of.integer (pos 0) (λ x. refl) refl (λ x. refl) (type.primitive p m) (type.primitive p NonNullable) vs _ refl
    (items_long integer_in (pos 0) vs) (λ v. null_or_integer m (parts_in (type.primitive p m) v) p v) all
built_well (type.decimal p s m) vs plain all =
    let fit =
    items_fit without_point (λ z. of.decimal z s) (pos 0) (λ x. refl) refl (λ x. refl) (type.decimal p s m) (type.decimal p s NonNullable) vs _ refl
    (items_long without_point (pos 0) vs) (λ v. null_or_decimal m (parts_in (type.decimal p s m) v) p s v) all in
    ((fit.0, and_from _ _ ((same_width_Decides (smallest_width p) (smallest_width p)).1 refl) (digits_read p s m vs all)), fit.1)
built_well (type.utf8 m) vs plain all =
    let fit =
    items_fit bytes_in of.bytes [] (λ x. refl) refl (λ x. refl) (type.utf8 m) (type.utf8 NonNullable) vs _ refl (views_long vs)
    (λ v. null_or_text m (parts_in (type.utf8 m) v) v) all in
    ((fit.0, packed_fit storage.Text (map (item_or []) (map bytes_in vs)) (text_read m vs all)), fit.1)
built_well (type.binary m) vs plain all =
    let fit =
    items_fit bytes_in of.bytes [] (λ x. refl) refl (λ x. refl) (type.binary m) (type.binary NonNullable) vs _ refl (views_long vs)
    (λ v. null_or_bytes m (parts_in (type.binary m) v) v) all in
    ((fit.0, packed_fit storage.Bytes (map (item_or []) (map bytes_in vs)) refl), fit.1)
built_well _ vs plain all = absurd (false≢true (sym plain))

-- ---- the rows of a column, as values

clean_row : (b : Bool) (v : Value) (cs : List Cell) → HasNoFault cs → HasNoFault (null_unless b (value v) ∷ cs)
clean_row true v cs h = h
clean_row false v cs h = h

clean_from : (told : ℕ → Bool) (f : ℕ → Value) (s n : ℕ) → HasNoFault (map (λ i. null_unless (told i) (value (f i))) (range_with_len s n))
clean_from told f s zero = tt
clean_from told f s (suc n) = clean_row (told s) (f s) _ (clean_from told f (s + 1) n)

value_read : (b : Bool) (v : Value) → value_in (null_unless b (value v)) ≡ (if b then v else null)
value_read true v = refl
value_read false v = refl

pub values_back : (cs : List Cell) → HasNoFault cs → map (λ v. value v) (values_in cs) ≡ cs
values_back [] h = refl
values_back (value v ∷ cs) h = ap (λ l. value v ∷ l) (values_back cs h)
values_back (fault ∷ cs) h = absurd h

pub fault_found : (cs : List Cell) (i : ℕ) → slice_get cs i ≡ Some fault → HasNoFault cs → ⊥
fault_found [] i e h = absurd (cc)
fault_found (value v ∷ cs) zero e h = absurd (cc)
fault_found (value v ∷ cs) (suc i) e h = fault_found cs i e h
fault_found (fault ∷ cs) i e h = h

module _ (t : Tree) (a : Argument) (counted : length (rows t) ≡ len t)
    (shown : (i : ℕ) → i < len t → slice_index_or (rows t) i fault ≡ cell_at a i) where
  rows_read_of : rows t ≡ map (cell_at a) (range_with_len 0 (len t))
  rows_read_of = by_rows (rows t) fault (len t) counted ∙ same_below (len t) (λ i. get_or (rows t) i fault) (cell_at a) shown

  pub values_shown : values_or null a.rows a.valid (len t) ≡ values_in (rows t)
  values_shown =
      sym (ap values_in rows_read_of ∙ map-map value_in (cell_at a) (range_with_len 0 (len t))
      ∙ same_below (len t) _ _ (λ i lt. value_read (is_valid a.valid i) (value_at a.rows i)))

  pub clean_shown : HasNoFault (rows t)
  clean_shown = subst HasNoFault (sym rows_read_of) (clean_from (is_valid a.valid) (value_at a.rows) 0 (len t))

-- of nulls
pub values_null : (t : Tree) → IsNullConstant t → replicate (len t) null ≡ values_in (rows t)
values_null t is = sym (ap values_in is.0 ∙ map_copies value_in (len t) (value null))

pub clean_null : (t : Tree) → IsNullConstant t → HasNoFault (rows t)
clean_null t is = subst HasNoFault (sym is.0) (copies_clean (len t) null)
