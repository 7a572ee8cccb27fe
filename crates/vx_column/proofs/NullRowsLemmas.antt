-- Columns with their validities as arguments.
use Rattle.std.specs.Prelude.{slice_get, Result}
use Rattle.std.specs.Result.{IfOk}
use Rattle.std.proofs.lemmas.Result.{IfOk-weaker}
use Rattle.std.proofs.lemmas.List.{length-map, length-replicate, get_or-map, get_or-replicate}
use Rattle.std.proofs.lemmas.Option.{slice_get-get_or}
use Rattle.vx_value.specs.declared.error.VortexError.{VortexError}
use Rattle.vx_value.specs.declared.error.VortexError.TheVariants.{OutOfMemory, Fault}
use Rattle.vx_column.proofs.CellsLemmas.{row_told}
use Rattle.vx_column.proofs.ValidRowsLemmas.{one_slot}
use Rattle.std.proofs.Common.{◌≡◌, ◌⊎◌, inl, inr, ◌<◌, ℕ, zero, suc, ℤ, pos, List, [], ◌∷◌, map, length, replicate, get_or, Bool, true, false, Option, Some, None, refl, sym, ap, subst, ◌∙◌, arith}
use Rattle.std.proofs.Math.Bool.{not}
use Rattle.std.specs.Cmp.{second_so}
use Rattle.vx_value.specs.Types.{DataType, bool, utf8, binary, nullability_of, same_type_Decides, decimal}
use Rattle.vx_value.specs.Nullabilities.{with_nullability}
use Rattle.vx_value.specs.View.{type_of}
use Rattle.vx_value.specs.Typed.{Typed}
use Rattle.vx_value.specs.IsOf.{is_null, is_of, is_stored}
use Rattle.vx_value.specs.Values.{Value, null, boolean, integer, bytes}
use Rattle.vx_value.specs.Cell.{Cell, value, fault}
use Rattle.vx_value.specs.Storage.{storage_of}
use Rattle.vx_column.proofs.StoredLemmas.{parts_in}
use Rattle.vx_value.specs.declared.dtype.Storage.{Storage}
use Rattle.vx_value.specs.declared.dtype.Storage.TheVariants as storage
use Rattle.vx_value.specs.declared.dtype.Nullability.{Nullability}
use Rattle.vx_value.specs.declared.dtype.Nullability.TheVariants.{NonNullable, Nullable}
use Rattle.vx_value.specs.declared.dtype.PType.{PType}
use Rattle.vx_tree.specs.Tree as enc
use Rattle.vx_tree.specs.ColumnTypes.{bytes_type, are_bytes_of, are_decimals_of, scale_of}
use Rattle.vx_tree.specs.Tree.{Tree, Data, slots_of, dtype, len, column, nulls_of, constant_of}
use Rattle.vx_tree.specs.Cells.{rows, slots_rows, node_cells, cells_at, valid_cells}
use Rattle.vx_tree.specs.Well.{IsNodeOf}
use Rattle.vx_tree.specs.Validities.{nullability_by, flat_refusal, bytes_refusal, HasRows, decimal_refusal}
use Rattle.vx_tree.specs.Canonicals.{columnar_tree}
use Rattle.vx_tree.specs.declared.canonical.columnar.Columnar.{Columnar}
use Rattle.vx_tree.specs.declared.validity.Validity.{Validity}
use Rattle.vx_tree.proofs.ConditionsLemmas.{none_refused, none_unless}
use Rattle.vx_tree.proofs.ValiditiesLemmas.{rows_allowed}
use Rattle.vx_mask.specs.Logic.{bit_row}
use Rattle.vx_mask.specs.Operands.{bit_in, HasBits}
use Rattle.vx_mask.specs.declared.operand.BitOperand.{BitOperand}
use Rattle.vx_column.specs.Arguments.{IsArgument, IsTold, IsUnread, AreUnread, IsRepeated, AreStored, AreShown, IsInRange, HasIntegers, type_of_rows, value_at, ptype_in, integer_in, bytes_in, AreBytes, stored_decimals, unscaled_at, HasDecimals}
use Rattle.vx_column.specs.Nulls.{validity_cells}
use Rattle.vx_column.specs.ValidRows.{is_valid, HasValidity, nullability_in, AreTold, IsRepeatedValidity, null_unless}
use Rattle.vx_column.specs.declared.rows.argument.Argument.{Argument}
use Rattle.vx_column.specs.declared.rows.argument.ArgumentRows.{ArgumentRows}
use Rattle.vx_column.specs.declared.rows.argument.ArgumentRows.TheVariants as stored
use Rattle.vx_column.specs.declared.rows.argument.BytesOperand.{BytesOperand}
use Rattle.vx_column.specs.declared.rows.argument.IntegerOperand.{IntegerOperand}
use Rattle.vx_column.specs.declared.rows.valid.ValidRows.{ValidRows}
use Rattle.vx_column.specs.declared.rows.valid.ValidRows.TheVariants as rows_valid
use Rattle.vx_value.specs.Values as of
use Rattle.vx_value.specs.declared.decimal.DecimalDType.{DecimalDType}
use Rattle.vx_value.specs.declared.decimal.DecimalType.{DecimalType}
use Rattle.vx_column.specs.declared.rows.argument.DecimalRows.{DecimalRows}
use Rattle.vx_tree.specs.Views.{ViewedRows, viewed, view_at, bytes_at, rows_of, all_lie_in}

pub flat_taken : (s ty : DataType) (n : ℕ) (v : Validity) → HasRows v n → ty ≡ with_nullability (nullability_by v) s → flat_refusal s ty n v ≡ None
flat_taken s ty n v h typed =
    none_refused _ _ (none_unless _ _ ((same_type_Decides ty (with_nullability (nullability_by v) s)).1 typed)) (rows_allowed n v h)

-- and the column of rows of bytes with one
pub bytes_taken : (st : Storage) (ty : DataType) (rs : ViewedRows) (v : Validity) → HasRows v (length rs.views) → are_bytes_of st (rows_of rs) ≡ true
    → ty ≡ with_nullability (nullability_by v) (bytes_type st) → bytes_refusal ty rs v ≡ None
bytes_taken storage.Text ty rs v h k e =
    subst (λ t. bytes_refusal t rs v ≡ None) (sym e) (none_refused _ _ (flat_taken (utf8 NonNullable) (utf8 (nullability_by v)) (length rs.views) v h refl)
    (none_unless _ _ k))
bytes_taken _ ty rs v h k e =
    subst (λ t. bytes_refusal t rs v ≡ None) (sym e)
    (none_refused _ _ (flat_taken (binary NonNullable) (binary (nullability_by v)) (length rs.views) v h refl) refl)

-- and the column of decimals with one
pub decimals_taken : (d : DecimalDType) (ty : DataType) (w : DecimalType) (zs : List ℤ) (v : Validity) → HasRows v (length zs)
    → are_decimals_of (stored_decimals d) w zs ≡ true → ty ≡ decimal d.precision d.scale (nullability_by v) → decimal_refusal ty w zs v ≡ None
decimals_taken d ty w zs v h k e =
    let of_type = decimal d.precision d.scale in
    subst (λ t. decimal_refusal t w zs v ≡ None) (sym e)
    (none_refused _ _ (flat_taken (of_type NonNullable) (of_type (nullability_by v)) (length zs) v h refl) (none_unless _ _ k))

-- ---- a column's validity tells of its rows

-- its cells by row
told_row : {X : Type 0} (read : X → Value) (d : X) (bits : List Bool) (xs : List X) (i : ℕ) → i < length xs → length bits ≡ length xs
    → get_or (valid_cells (map (λ b. value (boolean b)) bits) (map (λ x. value (read x)) xs)) i fault ≡ null_unless (bit_row bits i)
    (value (read (get_or xs i d)))
told_row read d [] [] i lt e = absurd (omega arith)
told_row read d [] (x ∷ xs) i lt e = absurd (omega arith)
told_row read d (b ∷ bits) [] i lt e = absurd (omega arith)
told_row read d (true ∷ bits) (x ∷ xs) zero lt e = refl
told_row read d (false ∷ bits) (x ∷ xs) zero lt e = refl
told_row read d (b ∷ bits) (x ∷ xs) (suc i) lt e = told_row read d bits xs i (omega arith) (omega arith)

column_row : {X : Type 0} (read : X → Value) (d : X) (v : Option Tree) (valid : ValidRows) (n : ℕ) (xs : List X) (i : ℕ) → AreTold n v valid
    → length xs ≡ n → i < n
    → get_or (valid_cells (validity_cells v) (map (λ x. value (read x)) xs)) i fault ≡ null_unless (is_valid valid i) (value (read (get_or xs i d)))
column_row read d None valid n xs i told long lt =
    get_or-map (λ x. value (read x)) xs i d fault (omega arith) ∙ ap (λ b. null_unless b (value (read (get_or xs i d)))) (sym (told i))
column_row read d (Some t) valid n xs i told long lt =
    ap (λ cs. get_or (valid_cells cs (map (λ x. value (read x)) xs)) i fault) told.2
    ∙ told_row read d told.0 xs i (omega arith) (told.1 ∙ sym long)
    ∙ ap (λ b. null_unless b (value (read (get_or xs i d)))) (sym (told.3 i lt))

-- ---- columns and constants as arguments

-- what the cells of a column of values are, each read from an item
abbrev pub AreCells : {X : Type 0} → DataType → (X → Value) → (List X → Data) → Type 0
AreCells {X = X} ty read of_items =
    (n : ℕ) (xs : List X) (tys : List DataType) (css : List (List Cell)) → node_cells ty n (of_items xs) tys css ≡ valid_cells (cells_at css 0) (map (λ x. value (read x)) xs)

module _ (c : Columnar) (v : Option Tree) (valid : ValidRows) (told : AreTold (len (columnar_tree c)) v valid)
    (same : nullability_in valid ≡ nullability_of (dtype (columnar_tree c)))
    (sized : HasValidity valid (len (columnar_tree c))) (array : Tree) (is : array ≡ columnar_tree c) (well : IsNodeOf array) where
  -- the column, as it is stored
  shown_by : (d : Data) → array ≡ column (dtype array) (len array) d v → columnar_tree c ≡ column (dtype (columnar_tree c)) (len (columnar_tree c)) d v
  shown_by d = subst (λ x. x ≡ column (dtype x) (len x) d v) is

  flat_by : (d : Data) → array ≡ column (dtype array) (len array) d v → IsNodeOf (column (dtype (columnar_tree c)) (len (columnar_tree c)) d v)
  flat_by d h = subst IsNodeOf (shown_by d h) (subst IsNodeOf is well)

  -- and each of its rows
  rows_by : {X : Type 0} (read : X → Value) (d : X) (of_items : List X → Data) → AreCells (dtype (columnar_tree c)) read of_items → (xs : List X)
      → length xs ≡ len (columnar_tree c)
      → array ≡ column (dtype array) (len array) (of_items xs) v → (i : ℕ) → i < len (columnar_tree c)
      → get_or (rows (columnar_tree c)) i fault ≡ null_unless (is_valid valid i) (value (read (get_or xs i d)))
  rows_by read d of_items cells xs long is_column i lt =
      let t = columnar_tree c in
      ap (λ u. get_or (rows u) i fault) (shown_by (of_items xs) is_column)
      ∙ ap (λ cs. get_or cs i fault) (cells (len t) xs _ (slots_rows (slots_of (v ∷ []))))
      ∙ ap (λ css. get_or (valid_cells (cells_at css 0) (map (λ x. value (read x)) xs)) i fault) (one_slot v)
      ∙ column_row read d v valid (len t) xs i told long lt

  pub booleans_argument : (bs : BitOperand) (bits : List Bool) → ((i : ℕ) → bit_in bs i ≡ bit_row bits i) → ((n : ℕ) → length bits ≡ n → HasBits bs n)
      → array ≡ column (dtype array) (len array) (enc.bool bits) v → IsArgument c (record { rows = stored.Bits bs; valid = valid })
  booleans_argument bs bits read rows_of is_column =
      let flat = flat_by (enc.bool bits) is_column in
      record {
        typed = flat.1 ∙ ap bool (sym same);
        shown = λ i lt. rows_by boolean false enc.bool (λ n xs tys css. refl) bits (sym flat.2) is_column i lt
            ∙ ap (λ b. null_unless (is_valid valid i) (value (boolean b))) (sym (read i));
        sized = (rows_of (len (columnar_tree c)) (sym flat.2), sized, tt);
      }

  pub integers_argument : (zs : IntegerOperand) (p : PType) (ws : List ℤ) → ptype_in zs ≡ p → ((i : ℕ) → integer_in zs i ≡ get_or ws i (pos 0))
      → ((n : ℕ) → length ws ≡ n → IsInRange zs.rows × HasIntegers zs.rows n) → type_of zs.dtype.now ≡ dtype (columnar_tree c)
      → array ≡ column (dtype array) (len array) (enc.primitive p ws) v → IsArgument c (record { rows = stored.Integers zs; valid = valid })
  integers_argument zs p ws kind read rows_of typed is_column =
      let flat = flat_by (enc.primitive p ws) is_column in
      let there = rows_of (len (columnar_tree c)) (sym flat.2) in
      record {
        typed = sym typed;
        shown = λ i lt. rows_by integer (pos 0) (enc.primitive p) (λ n xs tys css. refl) ws (sym flat.2) is_column i lt
            ∙ ap (λ z. null_unless (is_valid valid i) (value (integer z))) (sym (read i));
        sized = (((refl, there.0, there.1, ap storage_of (typed ∙ flat.1) ∙ ap storage.Integers (sym kind)), ap nullability_of typed ∙ sym same), sized, tt);
      }

  pub decimals_argument : (d : DecimalDType) (ds : DecimalRows) (w : DecimalType) (zs : List ℤ) (m : Nullability)
      → ((i : ℕ) → unscaled_at ds i ≡ get_or zs i (pos 0))
      → dtype (columnar_tree c) ≡ decimal d.precision d.scale m
      → ((n : ℕ) → length zs ≡ n → are_decimals_of (stored_decimals d) w zs ≡ true → HasDecimals d ds n)
      → array ≡ column (dtype array) (len array) (enc.decimals w zs) v
      → IsArgument c (record { rows = stored.Decimals (record { decimal = d; rows = ds }); valid = valid })
  decimals_argument d ds w zs m read typed rows_of is_column =
      let t = columnar_tree c in
      let flat = flat_by (enc.decimals w zs) is_column in
      let kind : storage_of (dtype t) ≡ stored_decimals d = ap storage_of typed in
      record {
        typed = typed ∙ ap (decimal d.precision d.scale) (ap nullability_of (sym typed) ∙ sym same);
        shown = λ i lt. rows_by (λ z. of.decimal z (scale_of (storage_of (dtype t)))) (pos 0) (enc.decimals w) (λ n xs tys css. refl) zs
            (sym flat.0.2) is_column i lt
            ∙ ap (λ z. null_unless (is_valid valid i) (value (of.decimal z (scale_of (storage_of (dtype t)))))) (sym (read i))
            ∙ ap (λ st. null_unless (is_valid valid i) (value (of.decimal (unscaled_at ds i) (scale_of st)))) kind;
        sized = (rows_of (len t) (sym flat.0.2) (ap (λ st. are_decimals_of st w zs) (sym kind) ∙ flat.1), sized, tt);
      }

  pub bytes_argument : (bs : BytesOperand) (rs : ViewedRows) → ((i : ℕ) → bytes_in bs i ≡ get_or (rows_of rs) i [])
      → bs.storage ≡ storage_of (dtype (columnar_tree c))
      → ((n : ℕ) → length rs.views ≡ n → are_bytes_of bs.storage (rows_of rs) ≡ true → AreBytes bs n)
      → array ≡ column (dtype array) (len array) (enc.views rs) v
      → IsArgument c (record { rows = stored.Bytes bs; valid = valid })
  bytes_argument bs rs read kind there is_column =
      let t = columnar_tree c in
      let flat = flat_by (enc.views rs) is_column in
      let st = storage_of (dtype t) in
      let typed : are_bytes_of st (rows_of rs) ≡ true = second_so (all_lie_in rs) (are_bytes_of st (rows_of rs)) flat.1 in
      record {
        typed = flat.0.1 ∙ (λ i. with_nullability (sym same i) (bytes_type (sym kind i)));
        shown = λ i lt. rows_by (λ x. bytes (bytes_at rs.buffers x)) (view_at 0 0) (λ vs. enc.views (viewed vs rs.buffers)) (λ n xs tys css. refl) rs.views
            (sym flat.0.2) is_column i lt
            ∙ ap (λ r. null_unless (is_valid valid i) (value (bytes r)))
            (sym (read i ∙ get_or-map (bytes_at rs.buffers) rs.views i (view_at 0 0) [] (subst (λ n. i < n) flat.0.2 lt)));
        sized = (there (len t) (sym flat.0.2) (ap (λ x. are_bytes_of x (rows_of rs)) kind ∙ typed), sized, tt);
      }

-- the rows of a column make an argument with any valid rows that its validity tells
pub told_argument : (c : Columnar) (rs : ArgumentRows) (v : Option Tree)
    → ((valid : ValidRows) → AreTold (len (columnar_tree c)) v valid → nullability_in valid ≡ nullability_of (dtype (columnar_tree c))
    → HasValidity valid (len (columnar_tree c)) → IsArgument c (record { rows = rs; valid = valid }))
    → (r : Result Argument VortexError) → IfOk r (IsTold (columnar_tree c) rs v) → IfOk r (IsArgument c)
told_argument c rs v made r =
    IfOk-weaker r _ _ (λ a h. subst (λ x. IsArgument c (record { rows = x; valid = a.valid })) (sym h.rows) (made a.valid h.told h.nullability h.sized))

-- a fault in the validity is one in the column
flat_unread : {X : Type 0} (read : X → Value) (v : Option Tree) (xs : List X) (n : ℕ) (e : VortexError) → length xs ≡ n → AreUnread n v e →
    (e ≡ OutOfMemory) ⊎ ((e ≡ Fault) × (i : ℕ) × (i < n) × (slice_get (valid_cells (validity_cells v) (map (λ x. value (read x)) xs)) i ≡ Some fault))
flat_unread read None xs n e long h = inl h
flat_unread read (Some t) xs n e long (inl m) = inl m
flat_unread read (Some t) xs n e long (inr h) =
    let i = h.1 in
    let cs = map (λ x. value (read x)) xs in
    let there : i < length cs = omega (arith, length-map xs (λ x. value (read x)), h.2) in
    inr (h.0, i, h.2, row_told (Some t) t i fault (get_or cs i fault) refl h.3 cs (slice_get-get_or cs i fault there))

module _ (c : Columnar) (v : Option Tree) (e : VortexError) (array : Tree) (is : array ≡ columnar_tree c) (unread : AreUnread (len (columnar_tree c)) v e) where
  pub column_unread : {X : Type 0} (read : X → Value) (of_items : List X → Data) → AreCells (dtype (columnar_tree c)) read of_items → (xs : List X)
      → length xs ≡ len array
      → array ≡ column (dtype array) (len array) (of_items xs) v → IsUnread (columnar_tree c) e
  column_unread read of_items cells xs long is_column =
      let t = columnar_tree c in
      let shown : t ≡ column (dtype t) (len t) (of_items xs) v = subst (λ x. x ≡ column (dtype x) (len x) (of_items xs) v) is is_column in
      let told = ap rows shown ∙ cells (len t) xs _ (slots_rows (slots_of (v ∷ [])))
      ∙ ap (λ css. valid_cells (cells_at css 0) (map (λ x. value (read x)) xs)) (one_slot v) in
      elim (flat_unread read v xs (len t) e (long ∙ ap len is) unread) [
        | inl m ↦ inl m
        | inr h ↦ inr (h.0, h.1, h.2, ap (λ cs. slice_get cs h.1) told ∙ h.3)
      ]

null_is : (v : Value) → is_null v ≡ true → v ≡ null
null_is null h = refl
null_is _ h = absurd (cc)

-- no row of a null constant is valid
false_row : (n i : ℕ) → bit_row (replicate n false) i ≡ false
false_row zero i = refl
false_row (suc n) zero = refl
false_row (suc n) (suc i) = false_row n i

null_nullable : (m : Nullability) (st : Storage) (parts : Bool) (v : Value) → is_stored m st parts v ≡ true → v ≡ null → Nullable ≡ m
null_nullable Nullable st parts v h e = refl
null_nullable NonNullable st parts v h e = let no : false ≡ true = ap (is_stored NonNullable st parts) (sym e) ∙ h in absurd (cc)

pub null_repeated : (s : Typed) (n : ℕ) → is_of s.of_type s.value ≡ true → is_null s.value ≡ true → IsRepeatedValidity s n (rows_valid.Bits (replicate n false))
null_repeated s n typed h = (
  length-replicate n false,
  null_nullable (nullability_of s.of_type) (storage_of s.of_type) (parts_in s.of_type s.value) s.value typed (null_is s.value h),
  λ i. false_row n i
      ∙ ap not (sym h),
)

-- a value of type null isn't shown
repeated_shown : (s : Typed) (a : ArgumentRows) (valid : ValidRows) (n : ℕ) → ((i : ℕ) → is_null s.value ≡ false → value_at a i ≡ s.value)
    → ((i : ℕ) → is_valid valid i ≡ not (is_null s.value)) → AreShown a valid n
repeated_shown s stored.Nulls valid n shown told = λ i lt. told i ∙ none i (is_null s.value) refl
  where
    none : (i : ℕ) (b : Bool) → is_null s.value ≡ b → not (is_null s.value) ≡ false
    none i true e = ap not e
    none i false e = ap (λ v. not (is_null v)) (sym (shown i e))
repeated_shown s (stored.Bits bs) valid n shown told = tt
repeated_shown s (stored.Integers zs) valid n shown told = tt
repeated_shown s (stored.Decimals ds) valid n shown told = tt
repeated_shown s (stored.Bytes bs) valid n shown told = tt

null_always : (b : Bool) → value null ≡ null_unless b (value null)
null_always true = refl
null_always false = refl

-- a column of type null, none of whose rows is valid
pub nulls_argument : (c : Columnar) (bits : List Bool) (t : Tree) → t ≡ columnar_tree c → t ≡ nulls_of (len t) → bits ≡ replicate (len (columnar_tree c)) false
    → IsArgument c (record { rows = stored.Nulls; valid = rows_valid.Bits bits })
nulls_argument c bits t same h e =
    let n = len (columnar_tree c) in
    let is : columnar_tree c ≡ nulls_of n = subst (λ u. u ≡ nulls_of (len u)) same h in
    record {
      typed = ap dtype is;
      shown = λ i lt. ap (λ u. get_or (rows u) i fault) is ∙ get_or-replicate n i (value null) fault lt ∙ null_always (bit_row bits i);
      sized = (refl, ap length e ∙ length-replicate n false, λ i lt. ap (λ bs. bit_row bs i) e ∙ get_or-replicate n i false false lt);
    }

pub constant_argument : (c : Columnar) (s : Typed) (a : ArgumentRows) (valid : ValidRows) → columnar_tree c ≡ constant_of s (len (columnar_tree c))
    → IsRepeated s a
    → IsRepeatedValidity s (len (columnar_tree c)) valid → IsArgument c (record { rows = a; valid = valid })
constant_argument c s a valid is stored valids =
    let n = len (columnar_tree c) in
    record {
      typed = ap dtype is ∙ sym stored.typed ∙ ap (λ m. type_of_rows m a) (sym valids.1);
      shown = λ i lt. ap (λ t. get_or (rows t) i fault) is ∙ get_or-replicate n i (value s.value) fault lt ∙ one i (is_null s.value) refl
          ∙ ap (λ b. null_unless b (value (value_at a i))) (sym (valids.2 i));
      sized = (subst (λ m. AreStored m a n) (sym valids.1) (stored.sized n), valids.0, repeated_shown s a valid n stored.shown valids.2);
    }
  where
    one : (i : ℕ) (b : Bool) → is_null s.value ≡ b → value s.value ≡ null_unless (not (is_null s.value)) (value (value_at a i))
    one i true e = ap value (null_is s.value e) ∙ ap (λ b. null_unless (not b) (value (value_at a i))) (sym e)
    one i false e = ap value (sym (stored.shown i e)) ∙ ap (λ b. null_unless (not b) (value (value_at a i))) (sym e)
