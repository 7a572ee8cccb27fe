-- Rows that are read one by one, and the column that is built of them.
use Rattle.std.proofs.Common.{◌≡◌, ◌⊎◌, ◌<◌, ◌+◌, inl, inr, ℕ, zero, suc, Bool, true, false, List, [], ◌∷◌, length, map, replicate}
use Rattle.std.proofs.Common.{sum, Option, Some, None, refl, sym, ap, ap₂, ◌∙◌, subst, arith}
use Rattle.std.specs.Prelude.{is_some, nat_lt, ◌&&◌}
use Rattle.std.specs.List.{list_all}
use Rattle.std.proofs.lemmas.Bool.{and_parts, false≢true}
use Rattle.std.proofs.lemmas.List.{length-map}
use Rattle.vx_value.specs.Types as type
use Rattle.vx_value.specs.Types.{DataType, primitive, nullability_of, is_nullable}
use Rattle.vx_value.specs.Nullabilities.{with_nullability}
use Rattle.std.proofs.lemmas.Option.{get_or_from_slice_get}
use Rattle.vx_column.specs.Read.{IsRow}
use Rattle.vx_value.specs.Typed.{Typed}
use Rattle.vx_value.specs.Values as of
use Rattle.vx_value.specs.Values.{Value, null, integer}
use Rattle.vx_value.specs.Cell.{Cell, value, fault}
use Rattle.vx_value.specs.IsOf.{is_of}
use Rattle.vx_value.specs.Storage.{is_nested, storage_of}
use Rattle.vx_value.specs.Supported.{has_columns}
use Rattle.vx_value.specs.Parts.{boolean_in, integer_in, bytes_in}
use Rattle.vx_value.specs.declared.dtype.Nullability.{Nullability}
use Rattle.vx_value.specs.declared.dtype.Nullability.TheVariants.{NonNullable, Nullable}
use Rattle.vx_value.specs.declared.dtype.PType.{PType}
use Rattle.vx_value.specs.declared.error.VortexError.{VortexError}
use Rattle.vx_value.specs.declared.error.VortexError.TheVariants.{OutOfMemory, Fault}
use Rattle.vx_tree.specs.Cells.{rows, HasNoFault}
use Rattle.vx_tree.specs.Lookups.{taken, taken_cells}
use Rattle.vx_tree.specs.Rows.{item_or}
use Rattle.vx_tree.specs.Tree as enc
use Rattle.vx_tree.specs.Tree.{Tree, dtype, len, datum, slots, slots_of, is_constant, constant_of, nulls_of}
use Rattle.vx_tree.specs.Validities.{child_by}
use Rattle.std.proofs.lemmas.Bool.Decides.{nat_tests}
use Rattle.std.proofs.Common.{◌^◌}
use Rattle.vx_value.specs.Types.{same_type, same_type_Decides}
use Rattle.vx_value.specs.declared.error.VortexError.TheVariants.{InvalidArgument, TooLong}
use Rattle.vx_value.specs.declared.error.ArgKind.TheVariants.{BadType}
use Rattle.vx_tree.specs.Conditions.{first_of_both, unless}
use Rattle.vx_tree.specs.Tree.{is_canonical, is_composed, is_flat, is_bool}
use Rattle.vx_tree.specs.Cells.{AreClean}
use Rattle.vx_column.specs.LookedUp.{IsCanonicalOf, named_cells, place_if, place_at}
use Rattle.vx_column.specs.ValidRows.{is_valid}
use Rattle.vx_column.specs.declared.rows.valid.ValidRows.{ValidRows}
use Rattle.vx_column.specs.declared.rows.valid.ValidRows.TheVariants as rows_valid
use Rattle.vx_column.proofs.ComputedLemmas.{fault_among}
use Rattle.vx_column.proofs.ValidRowsLemmas.{filled_clean}
use Rattle.vx_column.specs.Built.{without_point, built_stored, values_in}
use Rattle.vx_column.specs.Grown.{GrownRows, IsGrown, grown, count, scalar_refusal}
use Rattle.vx_column.specs.ValueColumns.{column_of}
use Rattle.vx_column.specs.Formed.{IsFormed, is_shown, is_true}
use Rattle.vx_column.specs.LookedUp.{IsNamed, IsNotNamed, cell_named, named_type, IsLookedUp, IsNotLookedUp}
use Rattle.vx_column.proofs.BuiltLemmas.{rows_built}
use Rattle.vx_column.proofs.ComposedLemmas.{slots_clean}
use Rattle.vx_column.proofs.GrownLemmas.{plain_grown}
use Rattle.vx_column.proofs.ValueColumnsLemmas.{flat_column, column_typed, column_long, column_rows, column_composed, column_clean}
use Rattle.vx_column.proofs.WholeLemmas.{values_whole}
use Rattle.vx_column.proofs.FormedLemmas.{not_flat_formed, constant_formed}
use Rattle.vx_column.proofs.KeepsLemmas.{copies_clean}

-- ---- the form of a column that is built

boolean_shown : (m : Nullability) (v : Value) → is_of (type.bool m) v ≡ true → is_some (boolean_in v) ≡ is_shown (value v)
boolean_shown m null h = refl
boolean_shown m (of.boolean b) h = refl
boolean_shown m _ h = absurd (false≢true h)

boolean_true : (m : Nullability) (v : Value) → is_of (type.bool m) v ≡ true → item_or false (boolean_in v) ≡ is_true (value v)
boolean_true m null h = refl
boolean_true m (of.boolean b) h = refl
boolean_true m _ h = absurd (false≢true h)

integer_shown : (p : PType) (m : Nullability) (v : Value) → is_of (type.primitive p m) v ≡ true → is_some (integer_in v) ≡ is_shown (value v)
integer_shown p m null h = refl
integer_shown p m (of.integer z) h = refl
integer_shown p m _ h = absurd (false≢true h)

decimal_shown : (p s : ℕ) (m : Nullability) (v : Value) → is_of (type.decimal p s m) v ≡ true → is_some (without_point v) ≡ is_shown (value v)
decimal_shown p s m null h = refl
decimal_shown p s m (of.decimal z r) h = refl
decimal_shown p s m _ h = absurd (false≢true h)

text_shown : (m : Nullability) (v : Value) → is_of (type.utf8 m) v ≡ true → is_some (bytes_in v) ≡ is_shown (value v)
text_shown m null h = refl
text_shown m (of.bytes bs) h = refl
text_shown m _ h = absurd (false≢true h)

bytes_shown : (m : Nullability) (v : Value) → is_of (type.binary m) v ≡ true → is_some (bytes_in v) ≡ is_shown (value v)
bytes_shown m null h = refl
bytes_shown m (of.bytes bs) h = refl
bytes_shown m _ h = absurd (false≢true h)

-- what is read of each value is what its cell says
read_each : {A B : Type 0} (read : Value → A) (f : A → B) (g : Cell → B) (p : Value → Bool) (vs : List Value) → ((v : Value) → p v ≡ true → f (read v) ≡ g (value v))
    → list_all p vs ≡ true → map f (map read vs) ≡ map g (map (λ v. value v) vs)
read_each read f g p [] same all = refl
read_each read f g p (v ∷ vs) same all =
    let parts = and_parts (p v) (list_all p vs) all in
    ap₂ (λ x l. x ∷ l) (same v parts.0) (read_each read f g p vs same parts.1)

module _ (ty : DataType) (vs : List Value) (all : list_all (is_of ty) vs ≡ true) (u : Tree) (shown : rows u ≡ map (λ v. value v) vs) where
  told : {A : Type 0} (read : Value → Option A) → ((v : Value) → is_of ty v ≡ true → is_some (read v) ≡ is_shown (value v))
      → slots_of (child_by (map is_some (map read vs)) ∷ []) ≡ slots_of (child_by (map is_shown (rows u)) ∷ [])
  told read same =
      ap (λ bs. slots_of (child_by bs ∷ [])) (read_each read is_some is_shown (is_of ty) vs same all ∙ ap (map is_shown) (sym shown))

-- a column that isn't nested
flat_formed : (ty : DataType) (vs : List Value) → is_nested ty ≡ false → list_all (is_of ty) vs ≡ true → IsFormed (built_stored (storage_of ty) ty vs)
flat_formed type.null vs plain all = not_flat_formed (nulls_of (length vs)) refl refl
flat_formed (type.bool m) vs plain all =
    let ty = type.bool m in
    let u = built_stored (storage_of ty) ty vs in
    let shown = rows_built ty vs refl all in
    record {
      validity_told = λ k. told ty vs all u shown boolean_in (boolean_shown m);
      bits_cleared = λ k. ap enc.bool (read_each boolean_in (item_or false) is_true (is_of ty) vs (boolean_true m) all ∙ ap (map is_true) (sym shown));
      parts_built = λ k. absurd (false≢true k);
    }
flat_formed (type.primitive p m) vs plain all =
    let ty = type.primitive p m in
    record {
      validity_told = λ k. told ty vs all (built_stored (storage_of ty) ty vs) (rows_built ty vs refl all) integer_in (integer_shown p m);
      bits_cleared = λ k. absurd (false≢true k);
      parts_built = λ k. absurd (false≢true k);
    }
flat_formed (type.decimal p s m) vs plain all =
    let ty = type.decimal p s m in
    record {
      validity_told = λ k. told ty vs all (built_stored (storage_of ty) ty vs) (rows_built ty vs refl all) without_point (decimal_shown p s m);
      bits_cleared = λ k. absurd (false≢true k);
      parts_built = λ k. absurd (false≢true k);
    }
flat_formed (type.utf8 m) vs plain all =
    let ty = type.utf8 m in
    record {
      validity_told = λ k. told ty vs all (built_stored (storage_of ty) ty vs) (rows_built ty vs refl all) bytes_in (text_shown m);
      bits_cleared = λ k. absurd (false≢true k);
      parts_built = λ k. absurd (false≢true k);
    }
flat_formed (type.binary m) vs plain all =
    let ty = type.binary m in
    record {
      validity_told = λ k. told ty vs all (built_stored (storage_of ty) ty vs) (rows_built ty vs refl all) bytes_in (bytes_shown m);
      bits_cleared = λ k. absurd (false≢true k);
      parts_built = λ k. absurd (false≢true k);
    }
flat_formed _ vs plain all = absurd (cc)

values_again : (vs : List Value) → vs ≡ values_in (map (λ v. value v) vs)
values_again [] = refl
values_again (v ∷ vs) = ap (λ l. v ∷ l) (values_again vs)

composed_only : (d : enc.Data) → is_composed d ≡ true → (is_flat d ≡ false) × (is_bool d ≡ false) × (is_canonical d ≡ true)
composed_only (enc.composed l) h = (refl, refl, refl)
composed_only _ h = absurd (false≢true h)

-- a column of values has the one form
pub column_formed : (ty : DataType) (vs : List Value) → has_columns ty ≡ true → list_all (is_of ty) vs ≡ true → IsFormed (column_of ty vs)
column_formed ty vs columns all = by_nesting (is_nested ty) refl
  where
    by_nesting : (b : Bool) → is_nested ty ≡ b → IsFormed (column_of ty vs)
    by_nesting false plain = subst IsFormed (sym (flat_column ty vs plain)) (flat_formed ty vs plain all)
    by_nesting true nested =
        let d = composed_only (datum (column_of ty vs)) (column_composed ty vs nested columns) in
        record {
          validity_told = λ k. absurd (false≢true (sym d.0 ∙ k));
          bits_cleared = λ k. absurd (false≢true (sym d.1 ∙ k));
          parts_built = λ k i. column_of (sym (column_typed ty vs columns) i) ((values_again vs ∙ ap values_in (sym (column_rows ty vs columns all))) i);
        }

flat_canonical : (ty : DataType) (vs : List Value) → is_nested ty ≡ false → is_canonical (datum (built_stored (storage_of ty) ty vs)) ≡ true
flat_canonical type.null vs plain = refl
flat_canonical (type.bool m) vs plain = refl
flat_canonical (type.primitive p m) vs plain = refl
flat_canonical (type.decimal p s m) vs plain = refl
flat_canonical (type.utf8 m) vs plain = refl
flat_canonical (type.binary m) vs plain = refl
flat_canonical _ vs plain = absurd (cc)

column_canonical : (ty : DataType) (vs : List Value) → has_columns ty ≡ true → is_canonical (datum (column_of ty vs)) ≡ true
column_canonical ty vs columns = by_nesting (is_nested ty) refl
  where
    by_nesting : (b : Bool) → is_nested ty ≡ b → is_canonical (datum (column_of ty vs)) ≡ true
    by_nesting false plain = ap (λ t. is_canonical (datum t)) (flat_column ty vs plain) ∙ flat_canonical ty vs plain
    by_nesting true nested = (composed_only (datum (column_of ty vs)) (column_composed ty vs nested columns)).2

-- the column of values whose cells these are
pub column_found : (ty : DataType) (vs : List Value) (n : ℕ) (cells : List Cell) → has_columns ty ≡ true → list_all (is_of ty) vs ≡ true
    → map (λ v. value v) vs ≡ cells → length cells ≡ n → IsCanonicalOf ty n cells (column_of ty vs)
column_found ty vs n cells columns all are long = record {
  typed = column_typed ty vs columns;
  counted = column_long ty vs ∙ sym (length-map vs (λ v. value v)) ∙ ap length are ∙ long;
  shown = column_rows ty vs columns all ∙ are;
  clean = slots_clean (column_of ty vs) (column_clean ty vs columns all);
  canonical = column_canonical ty vs columns;
  told = λ _. subst HasNoFault are (values_whole (λ v. v) vs);
  formed = column_formed ty vs columns all;
}

-- a builder's column of the cells, if no column was appended to it
pub built_found : (r : GrownRows) (ty : DataType) (n : ℕ) (cells : List Cell) (u : Tree) → r.pieces ≡ [] → IsGrown r → u ≡ grown r → r.of_type ≡ ty
    → map (λ v. value v) r.values ≡ cells → length cells ≡ n → IsCanonicalOf ty n cells u
built_found r ty n cells u alone made new typed are long =
    subst (IsCanonicalOf ty n cells) (sym (new ∙ plain_grown r alone))
    (subst (λ t. IsCanonicalOf t n cells (column_of r.of_type r.values)) typed (column_found r.of_type r.values n cells made.columns made.typed are long))

-- nothing refuses a row of the builder's type
pub never_refused : (r : GrownRows) (s : Typed) (e : VortexError) → r.pieces ≡ [] → s.of_type ≡ r.of_type → length r.values + 1 < 2 ^ 64
    → scalar_refusal r s ≡ Some e → ⊥
never_refused r s e alone typed fits h =
    let same : same_type s.of_type r.of_type ≡ true = (same_type_Decides s.of_type r.of_type).1 typed in
    let rows_only : count r ≡ length r.values = omega (arith, ap (λ ps. sum (map len ps)) alone) in
    let short : nat_lt (count r + 1) (2 ^ 64) ≡ true = grind (arith, nat_tests, rows_only) in
    let none : scalar_refusal r s ≡ None =
    (λ j. first_of_both (unless (same j) (InvalidArgument BadType)) (unless (short j) (TooLong (count r) 1))) in
    let both : None ≡ Some e = sym none ∙ h in absurd (cc (both))

-- a row that can't be read
pub name_missed : (valid : ValidRows) (places : List ℕ) (t : Tree) (n i : ℕ) (e : VortexError) → i < n
    → IsNotNamed t (place_if (is_valid valid i) (place_at places i)) e → IsNotLookedUp (named_cells valid places (rows t) n) e
name_missed valid places t n i e lt (inl memory) = inl memory
name_missed valid places t n i e lt (inr h) =
    inr (h.0, fault_among (λ j. cell_named (rows t) (place_if (is_valid valid j) (place_at places j))) n i lt h.1)

-- ---- a row that is read

-- the type of a row where the codes have this nullability
pub widened_same : (ty : DataType) → ty ≡ named_type NonNullable ty
widened_same type.null = refl
widened_same (type.bool m) = refl
widened_same (type.primitive p m) = refl
widened_same (type.decimal p s m) = refl
widened_same (type.utf8 m) = refl
widened_same (type.binary m) = refl
widened_same (type.list t m) = refl
widened_same (type.fixed_size_list t k m) = refl
widened_same (type.map k t m) = refl
widened_same (type.struct fs m) = refl
widened_same (type.union us m) = refl
widened_same (type.variant m) = refl
widened_same (type.extension id t) = ap (type.extension id) (widened_same t)

nullable_codes : (m : Nullability) → is_nullable m ≡ true → m ≡ Nullable
nullable_codes Nullable h = refl
nullable_codes NonNullable h = absurd (false≢true h)

plain_codes : (m : Nullability) → is_nullable m ≡ false → m ≡ NonNullable
plain_codes NonNullable h = refl
plain_codes Nullable h = absurd (false≢true (sym h))

-- a row that a place names, nullable if the codes are
module _ (t : Tree) (codes : Nullability) (place : Option ℕ) (k : ℕ) (r : Typed) (there : place ≡ Some k) (row : IsRow t k r) where
  cell_read : cell_named (rows t) place ≡ value r.value
  cell_read = ap (cell_named (rows t)) there ∙ get_or_from_slice_get (rows t) k (value r.value) fault row.0

  pub row_nullable : is_nullable codes ≡ true → (s : Typed) → s ≡ record { of_type = with_nullability Nullable r.of_type; value = r.value }
      → IsNamed codes t place s
  row_nullable h s e = (
    cell_read ∙ ap (λ y. value (Typed.value y)) (sym e),
    ap (λ y. Typed.of_type y) e ∙ ap (with_nullability Nullable) row.1 ∙ ap (λ m. named_type m (dtype t)) (sym (nullable_codes codes h)),
  )

  pub row_plain : is_nullable codes ≡ false → IsNamed codes t place r
  row_plain h = (cell_read, row.1 ∙ widened_same (dtype t) ∙ ap (λ m. named_type m (dtype t)) (sym (plain_codes codes h)))

-- ---- a code that is a constant

taken_copies : (vs : List Cell) (c : Cell) (n : ℕ) → taken_cells (replicate n c) vs ≡ replicate n (taken vs c)
taken_copies vs c zero = refl
taken_copies vs c (suc n) = ap (λ cs. taken vs c ∷ cs) (taken_copies vs c n)

fault_copies : (n : ℕ) → 0 < n → ¬ (HasNoFault (replicate n fault))
fault_copies zero lt = absurd (omega arith)
fault_copies (suc n) lt = λ h. h

pub copies_found : (ty : DataType) (n : ℕ) (vs : List Cell) (v : Value) (s : Typed) (u : Tree) → 0 < n → taken vs (value v) ≡ value s.value → s.of_type ≡ ty
    → u ≡ constant_of s n → IsLookedUp ty n (taken_cells (replicate n (value v)) vs) true u
copies_found ty n vs v s u some found typed new =
    subst (IsLookedUp ty n (taken_cells (replicate n (value v)) vs) true) (sym new) (record {
      typed = typed;
      counted = refl;
      shown = sym (taken_copies vs (value v) n ∙ ap (replicate n) found);
      clean = (copies_clean n s.value, tt);
      constant_kept = positive n some;
      formed = constant_formed (constant_of s n) refl;
    })
  where
    positive : (n : ℕ) → 0 < n → true ≡ (nat_lt 0 n && true)
    positive n lt = let above : nat_lt 0 n ≡ true = grind (arith, nat_tests) in ap (λ b. b && true) (sym above)

pub copies_missed : (n : ℕ) (vs : List Cell) (v : Value) (e : VortexError) → 0 < n → (e ≡ OutOfMemory) ⊎ ((e ≡ Fault) × (taken vs (value v) ≡ fault))
    → IsNotLookedUp (taken_cells (replicate n (value v)) vs) e
copies_missed n vs v e some (inl memory) = inl memory
copies_missed n vs v e some (inr h) =
    inr (h.0, λ none. fault_copies n some (subst HasNoFault (taken_copies vs (value v) n ∙ ap (replicate n) h.1) none))
