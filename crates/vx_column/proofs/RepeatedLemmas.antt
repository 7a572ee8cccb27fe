-- A column of one value, repeated.
use Rattle.std.proofs.Common.{◌≡◌, ◌⊎◌, inl, inr, ℕ, zero, suc, ℤ, pos, Bool, true, false, List, [], ◌∷◌, length, map, replicate, Result, IfOk, refl, sym, ◌∙◌, ap, subst, arith}
use Rattle.std.specs.Prelude.{unwrap_or, if◌then◌else◌}
use Rattle.std.proofs.lemmas.List.{length-replicate, take_all}
use Rattle.std.proofs.lemmas.Result.{IfOk-weaker}
use Rattle.vx_value.specs.Types as type
use Rattle.vx_value.specs.Types.{DataType, nullability_of, is_nullable}
use Rattle.vx_value.specs.Storage.{storage_of}
use Rattle.vx_value.specs.declared.dtype.Storage.{Storage}
use Rattle.vx_value.specs.declared.dtype.Storage.TheVariants.{Bits, Integers, Text, Bytes}
use Rattle.vx_value.specs.Nullabilities.{with_nullability}
use Rattle.vx_value.specs.IsOf.{is_of, is_null, is_stored}
use Rattle.vx_value.specs.Parts.{boolean_in, integer_in, bytes_in}
use Rattle.vx_value.specs.Values as of
use Rattle.vx_value.specs.Values.{Value, boolean, integer}
use Rattle.vx_value.specs.Typed.{Typed}
use Rattle.vx_value.specs.Cell.{Cell, value}
use Rattle.vx_value.specs.declared.dtype.Nullability.{Nullability}
use Rattle.vx_value.specs.declared.dtype.Nullability.TheVariants.{NonNullable, Nullable}
use Rattle.vx_value.specs.declared.dtype.PType.{PType}
use Rattle.vx_value.specs.declared.error.VortexError.{VortexError}
use Rattle.std.specs.Str.{is_utf8}
use Rattle.std.specs.Cmp.{first_so}
use Rattle.std.proofs.lemmas.Bool.{and_from}
use Rattle.vx_tree.specs.ColumnTypes.{bytes_type, are_bytes_of}
use Rattle.vx_tree.specs.Tree.{Tree, Data, node, len, datum, constant, bool, primitive, views, slots_of, column, constant_of, decimals}
use Rattle.vx_tree.specs.Cells.{rows, slots_rows, node_cells, cells_at, valid_cells, AreClean}
use Rattle.vx_tree.specs.Canonicals.{canonical_tree}
use Rattle.vx_tree.specs.Keeps.{KeepsExactly}
use Rattle.vx_tree.specs.Validities.{nullability_by, without_nulls, child_of, HasRows}
use Rattle.vx_tree.specs.declared.canonical.canonical.Canonical.{Canonical}
use Rattle.vx_tree.specs.declared.validity.Validity.{Validity}
use Rattle.vx_tree.specs.declared.validity.Validity.TheVariants.{AllInvalid}
use Rattle.vx_tree.proofs.ColumnTypesLemmas.{column_of_bits, column_of_integers}
use Rattle.vx_tree.proofs.ValiditiesLemmas.{no_child, same_nullability}
use Rattle.vx_tree.proofs.NativesLemmas.{map_copies}
use Rattle.vx_column.specs.Stored.{boolean_column, integer_column, bytes_column, decimal_column}
use Rattle.vx_column.proofs.KeepsLemmas.{same_exactly, any_rows, copies_clean}
use Rattle.vx_column.proofs.StoredLemmas.{parts_in, column_of_bytes, stored_boolean, stored_number, stored_as_bytes, stored_decimal}
use Rattle.vx_column.specs.Expanded.{repeated_validity, expanded, expanded_stored, expansion}
use Rattle.vx_value.specs.declared.decimal.DecimalDType.{DecimalDType}
use Rattle.vx_value.specs.declared.decimal.DecimalType.{DecimalType}
use Rattle.vx_column.specs.Arguments.{stored_decimals, unscaled_of}
use Rattle.std.specs.List.{list_all}
use Rattle.vx_tree.specs.Views.{ViewedRows, viewed, view_at, bytes_at, repeated}

pub nullable_null : (m : Nullability) → is_nullable m ≡ true → m ≡ Nullable
nullable_null Nullable h = refl
nullable_null NonNullable h = absurd (cc)

abbrev pub validity_by : DataType → Value → Validity
validity_by ty v = if is_null v then AllInvalid else without_nulls (nullability_of ty)

pub nullability_back : (ty : DataType) (v : Value) → is_of ty v ≡ true → nullability_by (validity_by ty v) ≡ nullability_of ty
nullability_back ty of.null h = sym (nullable_null (nullability_of ty) h)
nullability_back ty _ h = same_nullability (nullability_of ty)

pub repeated_rows : (s : Typed) (n : ℕ) → HasRows (repeated_validity s) n
repeated_rows s n = by_value s.value
  where
    by_value : (v : Value) → HasRows (validity_by s.of_type v) n
    by_value of.null = tt
    by_value _ = any_rows (nullability_of s.of_type) n

-- it has a row for each of the copies
pub repeated_has : {X : Type 0} (s : Typed) (n : ℕ) (v : Validity) → v ≡ repeated_validity s → (xs : List X) (x : X) → xs ≡ replicate n x
    → HasRows v (length xs)
repeated_has s n v told xs x made =
    subst (λ w. HasRows w (length xs)) (sym told) (subst (HasRows (repeated_validity s)) (sym (ap length made ∙ length-replicate n x)) (repeated_rows s n))

pub validity_clean : (ty : DataType) (v : Value) (n : ℕ) → AreClean (slots_of (child_of (validity_by ty v) n ∷ []))
validity_clean ty of.null n = ((copies_clean n (boolean false), tt), tt)
validity_clean ty _ n = subst (λ w. AreClean (slots_of (w ∷ []))) (sym (no_child (nullability_of ty) n)) tt

nulls : {X : Type 0} (read : X → Value) (x : X) (n : ℕ)
    → valid_cells (replicate n (value (boolean false))) (map (λ y. value (read y)) (replicate n x)) ≡ replicate n (value of.null)
nulls read x zero = refl
nulls read x (suc n) = ap (λ cs. value of.null ∷ cs) (nulls read x n)

pub repeated_cells : {X : Type 0} (read : X → Value) (x : X) (ty : DataType) (v : Value) (n : ℕ) → (is_null v ≡ false → read x ≡ v) →
    valid_cells (cells_at (slots_rows (slots_of (child_of (validity_by ty v) n ∷ []))) 0) (map (λ y. value (read y)) (replicate n x)) ≡ replicate n (value v)
repeated_cells read x ty of.null n h = nulls read x n
repeated_cells read x ty v n h =
    ap (λ w. valid_cells (cells_at (slots_rows (slots_of (w ∷ []))) 0) (map (λ y. value (read y)) (replicate n x))) (no_child (nullability_of ty) n)
    ∙ map_copies (λ y. value (read y)) n x
    ∙ ap (λ u. replicate n (value u)) (h refl)

pub repeated_exactly : {X : Type 0} (read : X → Value) (of_items : List X → Data) (s : Typed) →
    ((n : ℕ) (xs : List X) (tys : List DataType) (css : List (List Cell)) → node_cells s.of_type n (of_items xs) tys css ≡ valid_cells (cells_at css 0) (map (λ x. value (read x)) xs)) →
    (x : X) (n : ℕ) (u : Tree) → (is_null s.value ≡ false → read x ≡ s.value) →
    u ≡ column s.of_type n (of_items (replicate n x)) (child_of (repeated_validity s) n) → KeepsExactly (constant_of s n) u
repeated_exactly read of_items s cells x n u valued made =
    let whole = column s.of_type n (of_items (replicate n x)) (child_of (repeated_validity s) n) in
    let css = slots_rows (slots_of (child_of (repeated_validity s) n ∷ [])) in
    let shown : rows (constant_of s n) ≡ rows whole =
    sym (cells n (replicate n x) _ css ∙ repeated_cells read x s.of_type s.value n valued) in
    subst (KeepsExactly (constant_of s n)) (sym made) (same_exactly (constant_of s n) whole refl refl shown (validity_clean s.of_type s.value n))

module _ (s : Typed) (n : ℕ) (typed : is_of s.of_type s.value ≡ true) (v : Validity) (told : v ≡ repeated_validity s) (r : Result Canonical VortexError) where
  nullability : nullability_by v ≡ nullability_of s.of_type
  nullability = ap nullability_by told ∙ nullability_back s.of_type s.value typed

  pub bools_repeated : (bit : Bool) (bits : List Bool) → storage_of s.of_type ≡ Bits → bit ≡ unwrap_or (boolean_in s.value) false → bits ≡ replicate n bit →
      IfOk r (λ c. canonical_tree c ≡ boolean_column bits v) → IfOk r (λ c. KeepsExactly (constant_of s n) (canonical_tree c))
  bools_repeated bit bits stored valued made column_made =
      let long : length bits ≡ n = ap length made ∙ length-replicate n bit in
      let of_type : type.bool (nullability_by v) ≡ s.of_type = ap type.bool nullability ∙ sym (column_of_bits s.of_type stored) in
      let is : boolean_column bits v ≡ column s.of_type n (bool (replicate n bit)) (child_of (repeated_validity s) n) =
      λ i. column (of_type i) (long i) (bool (made i)) (child_of (told i) (long i)) in
      IfOk-weaker r _ _
      (λ c new. repeated_exactly boolean bool s (λ n xs tys css. refl) bit n (canonical_tree c)
      (λ k. ap boolean valued ∙ stored_boolean (nullability_of s.of_type) (storage_of s.of_type) (parts_in s.of_type s.value) s.value stored typed k) (new ∙ is)) column_made

  pub integers_repeated : (p q : PType) (z : ℤ) (zs : List ℤ) → storage_of s.of_type ≡ Integers p → z ≡ unwrap_or (integer_in s.value) (pos 0) → q ≡ p
      → zs ≡ replicate n z →
      IfOk r (λ c. canonical_tree c ≡ integer_column q zs v) → IfOk r (λ c. KeepsExactly (constant_of s n) (canonical_tree c))
  integers_repeated p q z zs stored valued same made column_made =
      let long : length zs ≡ n = ap length made ∙ length-replicate n z in
      let of_type : type.primitive q (nullability_by v) ≡ s.of_type =
      (λ i. type.primitive (same i) (nullability i)) ∙ sym (column_of_integers p s.of_type stored) in
      let is : integer_column q zs v ≡ column s.of_type n (primitive p (replicate n z)) (child_of (repeated_validity s) n) =
      λ i. column (of_type i) (long i) (primitive (same i) (made i)) (child_of (told i) (long i)) in
      IfOk-weaker r _ _
      (λ c new. repeated_exactly integer (primitive p) s (λ n xs tys css. refl) z n (canonical_tree c)
      (λ k. ap integer valued ∙ stored_number p (nullability_of s.of_type) (storage_of s.of_type) (parts_in s.of_type s.value) s.value stored typed k) (new ∙ is)) column_made

  pub bytes_repeated : (st : Storage) (x : List ℕ) (rs : ViewedRows) → storage_of s.of_type ≡ st → (st ≡ Text) ⊎ (st ≡ Bytes)
      → x ≡ unwrap_or (bytes_in s.value) [] → rs ≡ repeated n x →
      IfOk r (λ c. canonical_tree c ≡ bytes_column st rs v) → IfOk r (λ c. KeepsExactly (constant_of s n) (canonical_tree c))
  bytes_repeated st x rs stored known valued made column_made =
      let all = view_at 0 (length x) in
      let long : length rs.views ≡ n = ap (λ r. length (ViewedRows.views r)) made ∙ length-replicate n all in
      let whole : bytes_at (x ∷ []) all ≡ x = take_all (length x) x (omega arith) in
      let there = subst (λ y. (y ≡ Text) ⊎ (y ≡ Bytes)) (sym stored) known in
      let of_type : with_nullability (nullability_by v) (bytes_type st) ≡ s.of_type =
      (λ i. with_nullability (nullability i) (bytes_type (sym stored i))) ∙ column_of_bytes s.of_type there in
      let is : bytes_column st rs v ≡ column s.of_type n (views (repeated n x)) (child_of (repeated_validity s) n) =
      λ i. column (of_type i) (long i) (views (made i)) (child_of (told i) (long i)) in
      IfOk-weaker r _ _
      (λ c new. repeated_exactly (λ y. of.bytes (bytes_at (x ∷ []) y)) (λ vs. views (viewed vs (x ∷ []))) s (λ n xs tys css. refl) all n (canonical_tree c)
      (λ k. ap of.bytes (whole ∙ valued) ∙ stored_as_bytes (nullability_of s.of_type) (storage_of s.of_type) (parts_in s.of_type s.value) s.value there typed k) (new ∙ is)) column_made

  pub decimals_repeated : (d : DecimalDType) (m : Nullability) (w : DecimalType) (z : ℤ) (zs : List ℤ) → s.of_type ≡ type.decimal d.precision d.scale m
      → z ≡ unscaled_of s.value → zs ≡ replicate n z →
      IfOk r (λ c. canonical_tree c ≡ decimal_column d w zs v) → IfOk r (λ c. KeepsExactly (constant_of s n) (canonical_tree c))
  decimals_repeated d m w z zs stored valued made column_made =
      let long : length zs ≡ n = ap length made ∙ length-replicate n z in
      let of_type : type.decimal d.precision d.scale (nullability_by v) ≡ s.of_type =
      ap (type.decimal d.precision d.scale) (nullability ∙ ap nullability_of stored) ∙ sym stored in
      let is : decimal_column d w zs v ≡ column s.of_type n (decimals w (replicate n z)) (child_of (repeated_validity s) n) =
      λ i. column (of_type i) (long i) (decimals w (made i)) (child_of (told i) (long i)) in
      let parts : Bool = parts_in s.of_type s.value in
      let there : is_stored (nullability_of s.of_type) (stored_decimals d) parts s.value ≡ true =
      ap (λ ty. is_stored (nullability_of s.of_type) (storage_of ty) parts s.value) (sym stored) ∙ typed in
      IfOk-weaker r _ _
      (λ c new. repeated_exactly (λ x. of.decimal x d.scale) (decimals w) s (λ n xs tys css. ap (λ ty. node_cells ty n (decimals w xs) tys css) stored) z n
      (canonical_tree c)
      (λ k. ap (λ x. of.decimal x d.scale) valued ∙ stored_decimal d.precision d.scale (nullability_of s.of_type) parts s.value there k) (new ∙ is)) column_made

-- what passes, repeated, passes everywhere
pub all_copies : {A : Type 0} (p : A → Bool) (n : ℕ) (x : A) → p x ≡ true → list_all p (replicate n x) ≡ true
all_copies p zero x h = refl
all_copies p (suc n) x h = and_from (p x) _ h (all_copies p n x h)

-- one row's bytes, repeated, are of its type
pub bytes_copies : (st : Storage) (n : ℕ) (x : List ℕ) → are_bytes_of st (x ∷ []) ≡ true → are_bytes_of st (replicate n x) ≡ true
bytes_copies Text n x h = all_copies is_utf8 n x (first_so (is_utf8 x) true h)
bytes_copies _ n x h = refl

-- ---- the layout

pub bytes_expanded : (s : Typed) (n : ℕ) (st : Storage) → (st ≡ Text) ⊎ (st ≡ Bytes)
    → expanded_stored st s n ≡ bytes_column st (repeated n (unwrap_or (bytes_in s.value) [])) (repeated_validity s)
bytes_expanded s n Text h = refl
bytes_expanded s n Bytes h = refl
bytes_expanded s n _ (inl e) = absurd (cc)
bytes_expanded s n _ (inr e) = absurd (cc)

pub expansion_of : (t : Tree) (s : Typed) → constant s ≡ datum t → expanded s (len t) ≡ expansion t
expansion_of (node ty n d ss) s e = ap (λ x. expansion (node ty n x ss)) e
