-- A column by what it stores and by its valid rows.
use Rattle.std.proofs.Common.{◌≡◌, ◌<◌, ℕ, ℤ, Bool, true, false, if◌then◌else◌, List, [], ◌∷◌, length, map, get_or, Some, refl, sym, ap, ◌∙◌, subst, arith}
use Rattle.std.specs.List.{range_with_len}
use Rattle.std.proofs.lemmas.List.{length-map}
use Rattle.std.proofs.lemmas.List.FromFn.{get_or-map-range_with_len, length-map-range_with_len}
use Rattle.std.proofs.lemmas.Result.{IfOk-weaker}
use Rattle.std.proofs.lemmas.Simd.{map-map}
use Rattle.std.proofs.lemmas.Bool.{false≢true}
use Rattle.std.specs.Prelude.{Result, IfOk, ◌&&◌}
use Rattle.vx_value.specs.Types.{DataType, bool, primitive, decimal}
use Rattle.vx_value.specs.Nullabilities.{with_nullability}
use Rattle.vx_value.specs.Values as of
use Rattle.vx_value.specs.Values.{Value, null, boolean, integer, bytes}
use Rattle.vx_value.specs.Cell.{Cell, value}
use Rattle.vx_value.specs.IsOf.{is_null}
use Rattle.vx_value.specs.declared.decimal.DecimalDType.{DecimalDType}
use Rattle.vx_value.specs.declared.decimal.DecimalType.{DecimalType}
use Rattle.vx_value.specs.declared.dtype.PType.{PType}
use Rattle.vx_value.specs.declared.dtype.Nullability.{Nullability}
use Rattle.vx_value.specs.declared.dtype.Storage.{Storage}
use Rattle.vx_value.specs.declared.error.VortexError.{VortexError}
use Rattle.vx_mask.proofs.Lists.{same_below, all_below}
use Rattle.vx_fn.specs.Apply.{apply}
use Rattle.vx_fn.specs.ReturnTypes.{return_type}
use Rattle.vx_fn.specs.declared.function.ScalarFnRef.{ScalarFnRef}
use Rattle.vx_tree.specs.ColumnTypes.{bytes_type}
use Rattle.vx_tree.specs.Tree as enc
use Rattle.vx_tree.specs.Tree.{Tree, Data, dtype, slots_of, column, nulls_of, is_canonical, is_composed, is_bool}
use Rattle.vx_tree.specs.Canonicals.{canonical_tree}
use Rattle.vx_tree.specs.declared.canonical.canonical.Canonical.{Canonical}
use Rattle.vx_tree.specs.Cells.{rows, slots_rows, node_cells, cells_at, valid_cells}
use Rattle.vx_tree.specs.Validities.{nullability_by, child_of, child_by}
use Rattle.vx_tree.specs.declared.validity.Validity.{Validity}
use Rattle.vx_column.specs.Arguments.{types_of, row_of, plain_type, value_at}
use Rattle.vx_column.specs.Computed.{IsColumnOfCells, IsCanonicalResult}
use Rattle.vx_column.specs.Formed.{is_shown, is_true}
use Rattle.vx_column.specs.Stored.{boolean_column, integer_column, decimal_column, bytes_column}
use Rattle.vx_column.specs.ValidRows.{is_valid, HasValidity, nullability_in, child_in, IsValidityOf, null_unless}
use Rattle.vx_column.specs.declared.rows.argument.Argument.{Argument}
use Rattle.vx_column.specs.declared.rows.argument.ArgumentRows.{ArgumentRows}
use Rattle.vx_column.specs.declared.rows.valid.ValidRows.{ValidRows}
use Rattle.vx_column.proofs.FormedLemmas.{not_flat_formed, child_shown, bits_true, kept_again}
use Rattle.vx_column.proofs.ValidRowsLemmas.{filled_rows, filled_clean, one_slot}
use Rattle.vx_tree.specs.Views.{ViewedRows, bytes_at, rows_of}

-- what stands under a null tells nothing
same_unless_null : (b : Bool) (c d : Cell) → (b ≡ true → c ≡ d) → null_unless b c ≡ null_unless b d
same_unless_null true c d h = h refl
same_unless_null false c d h = refl

-- the value of a cell that may be null
pub stored_cell : (v : Bool) (x : Value) → null_unless v (value x) ≡ value (if v then x else null)
stored_cell true x = refl
stored_cell false x = refl

pub made_by : (valid : ValidRows) (stored other : ℕ → Cell) (n : ℕ) (u : Tree) → ((i : ℕ) → i < n → is_valid valid i ≡ true → stored i ≡ other i)
    → IsColumnOfCells valid stored n u → IsColumnOfCells valid other n u
made_by valid stored other n u same h = record {
  counted = h.counted;
  shown = h.shown ∙ same_below n _ _ (λ i lt. same_unless_null (is_valid valid i) (stored i) (other i) (same i lt));
  clean = h.clean;
  canonical = h.canonical;
  formed = h.formed;
}

-- items that stand for the values of `f`
pub made_stored : {X : Type 0} (read : X → Value) (d : X) (g : ℕ → X) (f : ℕ → Value) (valid : ValidRows) (n : ℕ) (xs : List X) (u : Tree)
    → xs ≡ map g (range_with_len 0 n) → ((i : ℕ) → read (g i) ≡ f i) → IsColumnOfCells valid (λ i. value (read (get_or xs i d))) n u
    → IsColumnOfCells valid (λ i. value (f i)) n u
made_stored read d g f valid n xs u are same h =
    made_by valid (λ i. value (read (get_or xs i d))) (λ i. value (f i)) n u
    (λ i lt here. ap (λ zs. value (read (get_or zs i d))) are
    ∙ ap (λ z. value (read z)) (get_or-map-range_with_len g 0 n i i d lt (omega arith))
    ∙ ap value (same i)) h

-- the rows of an argument, by items that stand for them
pub rows_made : {X : Type 0} (read : X → Value) (d : X) (g : ℕ → X) (rows stored : ArgumentRows) (valid : ValidRows) (n : ℕ) (xs : List X) (ty : DataType)
    (r : Result Canonical VortexError) → rows ≡ stored → xs ≡ map g (range_with_len 0 n) → ((i : ℕ) → read (g i) ≡ value_at stored i)
    → ty ≡ with_nullability (nullability_in valid) (plain_type stored)
    → IfOk r (λ c. (dtype (canonical_tree c) ≡ ty) × IsColumnOfCells valid (λ i. value (read (get_or xs i d))) n (canonical_tree c))
    → IfOk r (λ c. (dtype (canonical_tree c) ≡ with_nullability (nullability_in valid) (plain_type rows))
    × IsColumnOfCells valid (λ i. value (value_at rows i)) n (canonical_tree c))
rows_made read d g rows stored valid n xs ty r is are same typed =
    IfOk-weaker r _ _
    (λ c h. (
      h.0 ∙ typed ∙ ap (λ q. with_nullability (nullability_in valid) (plain_type q)) (sym is),
      made_stored read d g (value_at rows) valid n xs (canonical_tree c) are (λ i. same i ∙ ap (λ q. value_at q i) (sym is)) h.1,
    ))

null_always : (b : Bool) → null_unless b (value null) ≡ value null
null_always true = refl
null_always false = refl

-- a column of nulls
pub nulls_made : (f : ℕ → Value) (valid : ValidRows) (n : ℕ) → ((i : ℕ) → f i ≡ null) → IsColumnOfCells valid (λ i. value (f i)) n (nulls_of n)
nulls_made f valid n none = record {
  counted = refl;
  shown = sym (all_below n (λ i. null_unless (is_valid valid i) (value (f i))) (value null)
      (λ i lt. ap (λ v. null_unless (is_valid valid i) (value v)) (none i) ∙ null_always (is_valid valid i)));
  clean = tt;
  canonical = refl;
  formed = not_flat_formed (nulls_of n) refl refl;
}

-- the column of a function, by what it stores
pub computed_by : (f : ScalarFnRef) (args : List Argument) (valid : ValidRows) (stored : ℕ → Cell) (n : ℕ) (u : Tree)
    → return_type f (types_of args) ≡ Some (dtype u) → IsColumnOfCells valid stored n u
    → ((i : ℕ) → i < n → null_unless (is_valid valid i) (stored i) ≡ apply f (types_of args) (dtype u) (row_of args i)) → IsCanonicalResult f args n u
computed_by f args valid stored n u typed h same = record {
  result = record { typed = typed; counted = h.counted; shown = h.shown ∙ same_below n _ _ same; clean = h.clean };
  canonical = h.canonical;
  formed = h.formed;
}

module _ (valid : ValidRows) (n : ℕ) (sized : HasValidity valid n) (v : Validity) (told : IsValidityOf valid n v) where
  -- the cells of values in the valid rows
  abbrev cells_made : (ℕ → Value) → List Cell
  cells_made f = map (λ i. null_unless (is_valid valid i) (value (f i))) (range_with_len 0 n)

  -- a column that stores the values of `f`
  made_of : (d : Data) (k : ℕ) (f : ℕ → Value) (ty : Nullability → DataType) → k ≡ n
      → ((m : Nullability) (tys : List DataType) (css : List (List Cell)) → node_cells (ty m) k d tys css ≡ valid_cells (cells_at css 0) (map (λ i. value (f i)) (range_with_len 0 n)))
      → (is_canonical d ≡ true) × (is_composed d ≡ false) → ((i : ℕ) → is_null (f i) ≡ false) → (is_bool d ≡ true → d ≡ enc.bool (map is_true (cells_made f))) → (u : Tree)
      → u ≡ column (ty (nullability_by v)) k d (child_of v k)
      → (dtype u ≡ ty (nullability_in valid)) × IsColumnOfCells valid (λ i. value (f i)) n u
  made_of d k f ty long cells canonical held cleared u new =
      let child : child_of v k ≡ child_in valid = ap (child_of v) long ∙ told.1 in
      let shown : rows (column (ty (nullability_by v)) k d (child_in valid)) ≡ cells_made f =
      cells (nullability_by v) _ (slots_rows (slots_of (child_in valid ∷ [])))
      ∙ ap (λ css. valid_cells (cells_at css 0) (map (λ i. value (f i)) (range_with_len 0 n))) (one_slot (child_in valid))
      ∙ filled_rows valid n f sized in
      let whole : IsColumnOfCells valid (λ i. value (f i)) n (column (ty (nullability_by v)) k d (child_in valid)) =
      record {
        counted = long;
        shown = shown;
        clean = filled_clean valid;
        canonical = canonical.0;
        formed = record {
          validity_told = λ k. ap (λ t. slots_of (t ∷ [])) (child_shown valid n sized f held ∙ ap (λ cs. child_by (map is_shown cs)) (sym shown));
          bits_cleared = λ k. cleared k ∙ ap (λ cs. enc.bool (map is_true cs)) (sym shown);
          parts_built = λ k. absurd (false≢true (sym canonical.1 ∙ k));
        };
      } in (
        ap dtype new ∙ ap ty told.0,
        subst (IsColumnOfCells valid (λ i. value (f i)) n) (sym (new ∙ ap (column (ty (nullability_by v)) k d) child)) whole,
      )

  -- items that are stored in a column
  made : {X : Type 0} (read : X → Value) (of_items : List X → Data)
      (ty : Nullability → DataType)
      → ((m : Nullability) (k : ℕ) (xs : List X) (tys : List DataType) (css : List (List Cell))
      → node_cells (ty m) k (of_items xs) tys css ≡ valid_cells (cells_at css 0) (map (λ x. value (read x)) xs))
      → ((xs : List X) → (is_canonical (of_items xs) ≡ true) × (is_composed (of_items xs) ≡ false)) → ((x : X) → is_null (read x) ≡ false) → (xs : List X) (g : ℕ → X)
      → (is_bool (of_items xs) ≡ true → of_items xs ≡ enc.bool (map is_true (cells_made (λ i. read (g i)))))
      → (u : Tree) → xs ≡ map g (range_with_len 0 n)
      → u ≡ column (ty (nullability_by v)) (length xs) (of_items xs) (child_of v (length xs))
      → (dtype u ≡ ty (nullability_in valid)) × IsColumnOfCells valid (λ i. value (read (g i))) n u
  made read of_items ty cells canonical held xs g cleared u are new =
      let stored : map (λ x. value (read x)) xs ≡ map (λ i. value (read (g i))) (range_with_len 0 n) =
      ap (map (λ x. value (read x))) are ∙ map-map (λ x. value (read x)) g (range_with_len 0 n) in
      made_of (of_items xs) (length xs) (λ i. read (g i)) ty (ap length are ∙ length-map-range_with_len g 0 n)
      (λ m tys css. cells m (length xs) xs tys css ∙ ap (valid_cells (cells_at css 0)) stored) (canonical xs) (λ i. held (g i)) cleared u new

  -- bits that are false in the rows that aren't valid
  pub bools_made : (bits : List Bool) (test : ℕ → Bool) (u : Tree) → bits ≡ map (λ i. is_valid valid i && test i) (range_with_len 0 n)
      → u ≡ boolean_column bits v → (dtype u ≡ bool (nullability_in valid)) × IsColumnOfCells valid (λ i. value (boolean (test i))) n u
  bools_made bits test u are new =
      let kept : ℕ → Bool = λ i. is_valid valid i && test i in
      let both : (dtype u ≡ bool (nullability_in valid)) × IsColumnOfCells valid (λ i. value (boolean (kept i))) n u =
      made boolean enc.bool bool (λ m k xs tys css. refl) (λ xs. (refl, refl)) (λ b. refl) bits kept
      (λ k. ap enc.bool (are ∙ same_below n _ _ (λ i lt. sym (kept_again (is_valid valid i) (test i))) ∙ bits_true valid n kept)) u are new in (
        both.0,
        made_by valid _ _ n u (λ i lt here. ap (λ b. value (boolean (b && test i))) here) both.1,
      )

  pub integers_made : (p : PType) (zs : List ℤ) (g : ℕ → ℤ) (u : Tree) → zs ≡ map g (range_with_len 0 n) → u ≡ integer_column p zs v
      → (dtype u ≡ primitive p (nullability_in valid)) × IsColumnOfCells valid (λ i. value (integer (g i))) n u
  integers_made p zs g =
      made integer (enc.primitive p) (primitive p) (λ m k xs tys css. refl) (λ xs. (refl, refl)) (λ z. refl) zs g (λ k. absurd (false≢true k))

  pub decimals_made : (d : DecimalDType) (w : DecimalType) (zs : List ℤ) (g : ℕ → ℤ) (u : Tree) → zs ≡ map g (range_with_len 0 n) → u ≡ decimal_column d w zs v
      → (dtype u ≡ decimal d.precision d.scale (nullability_in valid)) × IsColumnOfCells valid (λ i. value (of.decimal (g i) d.scale)) n u
  decimals_made d w zs g =
      made (λ z. of.decimal z d.scale) (enc.decimals w) (decimal d.precision d.scale) (λ m k xs tys css. refl) (λ xs. (refl, refl)) (λ z. refl) zs g
      (λ k. absurd (false≢true k))

  pub bytes_made : (st : Storage) (rs : ViewedRows) (g : ℕ → List ℕ) (u : Tree) → rows_of rs ≡ map g (range_with_len 0 n) → u ≡ bytes_column st rs v
      → (dtype u ≡ with_nullability (nullability_in valid) (bytes_type st)) × IsColumnOfCells valid (λ i. value (bytes (g i))) n u
  bytes_made st rs g u are =
      let read : List ℕ → Cell = λ r. value (bytes r) in
      let stored : map (λ x. read (bytes_at rs.buffers x)) rs.views ≡ map (λ i. read (g i)) (range_with_len 0 n) =
      sym (map-map read (bytes_at rs.buffers) rs.views) ∙ ap (map read) are ∙ map-map read g (range_with_len 0 n) in
      let long = sym (length-map rs.views (bytes_at rs.buffers)) ∙ ap length are ∙ length-map-range_with_len g 0 n in
      made_of (enc.views rs) (length rs.views) (λ i. bytes (g i)) (λ m. with_nullability m (bytes_type st)) long
      (λ m tys css. ap (valid_cells (cells_at css 0)) stored) (refl, refl) (λ i. refl) (λ k. absurd (false≢true k)) u
