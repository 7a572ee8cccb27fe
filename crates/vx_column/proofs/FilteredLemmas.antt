-- Columns at the true bits of a mask: their values, and their validity.
use Rattle.std.proofs.Common.{◌≡◌, ℕ, List, [], ◌∷◌, length, map, replicate, Bool, true, false, Option, Some, None, ℤ, refl, sym, ap}
use Rattle.std.proofs.Common.{subst}
use Rattle.std.proofs.Common.{◌∙◌}
use Rattle.std.proofs.Common.{arith}
use Rattle.std.proofs.lemmas.List.{length-map, length-replicate}
use Rattle.std.specs.List.{list_all}
use Rattle.std.specs.Str.{is_utf8}
use Rattle.std.specs.Cmp.{first_so, second_so}
use Rattle.std.proofs.lemmas.Bool.{and_from}
use Rattle.vx_value.specs.Types.{DataType, bool, nullability_of}
use Rattle.vx_value.specs.declared.dtype.Storage.{Storage}
use Rattle.vx_value.specs.declared.dtype.Storage.TheVariants.{Text}
use Rattle.vx_tree.specs.ColumnTypes.{are_bytes_of, are_decimals_of}
use Rattle.vx_value.specs.Nullabilities.{with_nullability}
use Rattle.vx_value.specs.Values.{Value, boolean}
use Rattle.vx_value.specs.Cell.{Cell, value}
use Rattle.vx_value.specs.declared.dtype.Nullability.{Nullability}
use Rattle.vx_value.specs.declared.dtype.Nullability.TheVariants.{NonNullable, Nullable}
use Rattle.vx_mask.specs.Places.{true_count, chosen}
use Rattle.vx_mask.proofs.ChosenLemmas.{chosen_map, chosen-replicate}
use Rattle.vx_mask.proofs.PlacesLemmas.{length-chosen}
use Rattle.vx_tree.specs.Tree as enc
use Rattle.vx_tree.specs.Tree.{Tree, Data, slots_of, dtype, len, datum, column, booleans, filter_of, types_in}
use Rattle.vx_tree.specs.Well.{shapes, IsWell, AreWell, IsFlat, IsNodeOf}
use Rattle.vx_tree.specs.Cells.{rows, node_cells, cells_at, valid_cell, valid_cells, HasNoFault, IsClean}
use Rattle.vx_tree.specs.Keeps.{KeepsExactly}
use Rattle.vx_tree.specs.Validities.{nullability_by, without_nulls, child_of, validity_of, of_truth, of_data, truths, valid_rows, HasRows}
use Rattle.vx_tree.specs.declared.validity.Validity.{Validity}
use Rattle.vx_tree.specs.declared.validity.Validity.TheVariants as validity
use Rattle.vx_tree.proofs.JoinedLemmas.{all_valid}
use Rattle.vx_tree.proofs.KeepsLemmas.{rows_equal}
use Rattle.vx_tree.proofs.TellsLemmas.{chosen_clean}
use Rattle.vx_tree.proofs.CellsLemmas.{rows_counted}
use Rattle.vx_tree.proofs.ValiditiesLemmas.{told_back, whole, no_child, same_nullability}
use Rattle.vx_column.specs.Filtered.{IsChoice}
use Rattle.vx_column.specs.Nulls.{validity_cells}
use Rattle.vx_column.specs.ValidRows.{TellsRows}
use Rattle.vx_column.proofs.KeepsLemmas.{any_rows, copies_clean}
use Rattle.vx_column.proofs.ValidRowsLemmas.{one_slot}
use Rattle.vx_value.specs.declared.decimal.DecimalDType.{DecimalDType}
use Rattle.vx_value.specs.declared.decimal.DecimalType.{DecimalType}
use Rattle.vx_value.specs.Decimals.{has_digits, smallest_width, same_width}
use Rattle.vx_column.specs.Arguments.{stored_decimals}
use Rattle.std.specs.Prelude.{Result}
use Rattle.std.specs.Result.{IfOk}
use Rattle.std.proofs.lemmas.Result.{IfOk-weaker}
use Rattle.vx_tree.specs.Canonicals.{canonical_tree}
use Rattle.vx_tree.specs.declared.canonical.canonical.Canonical.{Canonical}
use Rattle.vx_column.specs.Filtered.{chosen_data}

-- ---- cells chosen by a mask

chosen_valid : (bits : List Bool) (vs cs : List Cell) → length vs ≡ length cs → chosen bits (valid_cells vs cs) ≡ valid_cells (chosen bits vs) (chosen bits cs)
unfolding chosen
chosen_valid [] vs cs h = refl
chosen_valid (b ∷ bits) [] [] h = refl
chosen_valid (b ∷ bits) [] (c ∷ cs) h = absurd (omega arith)
chosen_valid (b ∷ bits) (v ∷ vs) [] h = absurd (omega arith)
chosen_valid (true ∷ bits) (v ∷ vs) (c ∷ cs) h = ap (λ l. valid_cell v c ∷ l) (chosen_valid bits vs cs (omega arith))
chosen_valid (false ∷ bits) (v ∷ vs) (c ∷ cs) h = chosen_valid bits vs cs (omega arith)

-- ---- the validity of the chosen rows

module _ (bits : List Bool) where
  choice_none : IsChoice bits None None
  choice_none = record { told = λ cs h. refl; clean = λ h. h }

  choice_by_rows : (t u : Tree) → length (rows t) ≡ length bits → chosen bits (rows t) ≡ rows u → (IsClean t → IsClean u) → IsChoice bits (Some t) (Some u)
  choice_by_rows t u long e clean = record {
    told = λ cs h. chosen_valid bits (rows t) cs (long ∙ sym h) ∙ ap (λ vs. valid_cells vs (chosen bits cs)) e;
    clean = λ h. (clean h.0, tt);
  }

  choice_all : (t : Tree) → rows t ≡ replicate (length bits) (value (boolean true)) → IsChoice bits (Some t) None
  choice_all t e = record {
    told = λ cs h. ap (chosen bits) (ap (λ vs. valid_cells vs cs) e ∙ all_valid (length bits) cs h);
    clean = λ h. tt;
  }

  choice_false : (t : Tree) → rows t ≡ replicate (length bits) (value (boolean false)) → IsChoice bits (Some t) (Some (truths false (true_count bits)))
  choice_false t e =
      choice_by_rows t (truths false (true_count bits)) (ap length e ∙ length-replicate (length bits) (value (boolean false)))
      (ap (chosen bits) e ∙ chosen-replicate bits (length bits) (value (boolean false)) refl)
      (λ h. (copies_clean (true_count bits) (boolean false), tt))

  pub choice_kept : (t u : Tree) → IsWell t → len t ≡ length bits → KeepsExactly (filter_of bits t) u → IsChoice bits (Some t) (Some u)
  choice_kept t u well long kept =
      choice_by_rows t u (rows_counted t well ∙ long) kept.equal (λ h. kept.keeps.still_clean (chosen_clean bits (rows t) (whole t h), (h, tt)))

-- what a validity's slot is read as
none_by_data : (d : Data) (t : Tree) → of_data d t ≡ validity.NonNullable → ⊥
none_by_data (enc.constant s) t h = by_value s.value h
  where
    by_value : (x : Value) → of_truth x t ≡ validity.NonNullable → ⊥
    by_value (boolean true) h = cc
    by_value (boolean false) h = cc
    by_value _ h = cc
none_by_data _ t h = cc

same_tree : (t u : Tree) → validity.Array t ≡ validity.Array u → u ≡ t
same_tree t u h = cc

array_by_data : (d : Data) (t u : Tree) → of_data d t ≡ validity.Array u → u ≡ t
array_by_data (enc.constant s) t u h = by_value s.value h
  where
    by_value : (x : Value) → of_truth x t ≡ validity.Array u → u ≡ t
    by_value (boolean true) h = absurd (cc)
    by_value (boolean false) h = absurd (cc)
    by_value _ h = same_tree t u h
array_by_data _ t u h = same_tree t u h

plain_no_array : (m : Nullability) (u : Tree) → without_nulls m ≡ validity.Array u → ⊥
plain_no_array NonNullable u h = cc
plain_no_array Nullable u h = cc

-- an array that is read is the slot's
pub array_read : (m : Nullability) (w : Option Tree) (u : Tree) → validity_of m w ≡ validity.Array u → w ≡ Some u
array_read m None u h = absurd (plain_no_array m u h)
array_read m (Some t) u h = ap Some (sym (array_by_data (datum t) t u h))

-- else the same validity is that of the chosen rows
abbrev IsRead : List Bool → Nullability → Option Tree → Validity → Type 0
IsRead bits m w v = (nullability_by v ≡ m) × HasRows v (true_count bits) × IsChoice bits w (child_of v (true_count bits))

pub same_choice : (bits : List Bool) (m : Nullability) (w : Option Tree) (v : Validity) → TellsRows m (length bits) w → AreWell (slots_of (w ∷ []))
    → v ≡ validity_of m w → ((u : Tree) → v ≡ validity.Array u → ⊥) → IsRead bits m w v
same_choice bits m None v tells well is none =
    subst (IsRead bits m None) (sym is)
    (same_nullability m, any_rows m (true_count bits), subst (IsChoice bits None) (sym (no_child m (true_count bits))) (choice_none bits))
same_choice bits m (Some t) v tells well is none =
    by_validity v is none (ap (λ x. valid_rows x (length bits)) is ∙ told_back (validity.Array t) (length bits) (well.0, tells.1, tells.2))
  where
    by_validity : (v : Validity) → v ≡ of_data (datum t) t → ((u : Tree) → v ≡ validity.Array u → ⊥) → valid_rows v (length bits) ≡ rows t
        → IsRead bits m (Some t) v
    by_validity validity.NonNullable is none e = absurd (none_by_data (datum t) t (sym is))
    by_validity validity.AllValid is none e = (sym tells.0, tt, choice_all bits t (sym e))
    by_validity validity.AllInvalid is none e = (sym tells.0, tt, choice_false bits t (sym e))
    by_validity (validity.Array u) is none e = absurd (none u refl)

-- ---- a column of values of one type, each read from an item

pub chosen_count : {X : Type 0} (bits : List Bool) (xs ys : List X) (n : ℕ) → length xs ≡ n → length bits ≡ n → ys ≡ chosen bits xs
    → true_count bits ≡ length ys
chosen_count bits xs ys n long masked kept = sym (ap length kept ∙ length-chosen bits xs (omega (arith, long, masked)))

-- a validity of the chosen rows is one of the chosen values
pub rows_chosen : {X : Type 0} (bits : List Bool) (xs ys : List X) (t u : Tree) (v : Validity) → length xs ≡ len t → length bits ≡ len u → t ≡ u
    → ys ≡ chosen bits xs → HasRows v (true_count bits) → HasRows v (length ys)
rows_chosen bits xs ys t u v long masked same kept h =
    subst (HasRows v) (chosen_count bits xs ys (len t) long (masked ∙ ap len (sym same)) kept) h

module _ {X : Type 0} (read : X → Value) (of_items : List X → Data) (of_type : DataType)
    (cells : (m : Nullability) (n : ℕ) (xs : List X) (tys : List DataType) (css : List (List Cell))
    → node_cells (with_nullability m of_type) n (of_items xs) tys css ≡ valid_cells (cells_at css 0) (map (λ x. value (read x)) xs)) where
  pub column_cells : (m : Nullability) (n : ℕ) (xs : List X) (v : Option Tree)
      → rows (column (with_nullability m of_type) n (of_items xs) v) ≡ valid_cells (validity_cells v) (map (λ x. value (read x)) xs)
  column_cells m n xs v =
      ap (node_cells (with_nullability m of_type) n (of_items xs) (types_in (shapes (slots_of (v ∷ []))))) (one_slot v) ∙ cells m n xs _ (validity_cells v ∷ [])

  pub filtered_exactly : (bits : List Bool) (xs ys : List X) (v w : Option Tree) (m : Nullability) (n : ℕ) → length xs ≡ n → length bits ≡ n
      → ys ≡ chosen bits xs
      → IsChoice bits v w
      → KeepsExactly (filter_of bits (column (with_nullability m of_type) n (of_items xs) v)) (column (with_nullability m of_type) (length ys) (of_items ys) w)
  filtered_exactly bits xs ys v w m n long masked kept choice =
      let t = column (with_nullability m of_type) n (of_items xs) v in
      let u = column (with_nullability m of_type) (length ys) (of_items ys) w in
      let stored = λ (zs : List X). map (λ x. value (read x)) zs in
      let shown : rows (filter_of bits t) ≡ rows u =
      ap (chosen bits) (column_cells m n xs v)
      ∙ choice.told (stored xs) (length-map xs (λ x. value (read x)) ∙ long ∙ sym masked)
      ∙ ap (valid_cells (validity_cells w)) (chosen_map (λ x. value (read x)) bits xs ∙ ap stored (sym kept))
      ∙ sym (column_cells m (length ys) ys w) in
      record {
        keeps = record {
          same_type = refl;
          same_len = chosen_count bits xs ys n long masked kept;
          same_rows = rows_equal _ _ shown;
          still_clean = λ c. (subst HasNoFault shown c.0, choice.clean c.1.0.1);
        };
        equal = shown;
      }

  pub column_filtered : (bits : List Bool) (xs ys : List X) (v : Option Tree) (w : Validity) (t u : Tree) →
      t ≡ column (dtype t) (len t) (of_items xs) v → IsFlat of_type (length xs) (dtype t) (len t) (shapes (slots_of (v ∷ []))) →
      length bits ≡ len t → ys ≡ chosen bits xs → nullability_by w ≡ nullability_of (dtype t) → IsChoice bits v (child_of w (true_count bits)) →
      u ≡ column (with_nullability (nullability_by w) of_type) (length ys) (of_items ys) (child_of w (length ys)) → KeepsExactly (filter_of bits t) u
  column_filtered bits xs ys v w t u is flat long kept same choice made =
      let m = nullability_by w in
      let child : child_of w (true_count bits) ≡ child_of w (length ys) = ap (child_of w) (chosen_count bits xs ys (len t) (sym flat.2) long kept) in
      let typed : dtype t ≡ with_nullability m of_type = flat.1 ∙ ap (λ x. with_nullability x of_type) (sym same) in
      let whole : t ≡ column (with_nullability m of_type) (len t) (of_items xs) v = is ∙ ap (λ ty. column ty (len t) (of_items xs) v) typed in
      let shown : column (with_nullability m of_type) (length ys) (of_items ys) (child_of w (true_count bits)) ≡ u =
      ap (column (with_nullability m of_type) (length ys) (of_items ys)) child ∙ sym made in
      subst (KeepsExactly (filter_of bits t)) shown
      (subst (λ x. KeepsExactly (filter_of bits x) (column (with_nullability m of_type) (length ys) (of_items ys) (child_of w (true_count bits)))) (sym whole)
      (filtered_exactly bits xs ys v (child_of w (true_count bits)) m (len t) (sym flat.2) long kept choice))

-- booleans without a validity, filtered at once
pub booleans_filtered : (bits bs kept : List Bool) (t : Tree) → t ≡ column (dtype t) (len t) (enc.bool bs) None → dtype t ≡ bool NonNullable → IsNodeOf t
    → length bits ≡ len t → kept ≡ chosen bits bs → KeepsExactly (filter_of bits t) (booleans kept)
booleans_filtered bits bs kept t is typed well long e =
    let whole_is : t ≡ column (bool NonNullable) (len t) (enc.bool bs) None = is ∙ ap (λ ty. column ty (len t) (enc.bool bs) None) typed in
    let flat : IsFlat (bool NonNullable) (length bs) (dtype t) (len t) (shapes (slots_of (None ∷ []))) = subst IsNodeOf is well in
    subst (λ x. KeepsExactly (filter_of bits x) (booleans kept)) (sym whole_is)
    (filtered_exactly boolean enc.bool (bool NonNullable) (λ m n xs tys css. refl) bits bs kept None None NonNullable (len t) (sym flat.2) long e
    (choice_none bits))

-- ---- values that pass a test

module _ {X : Type 0} (test : X → Bool) where
  all_chosen : (bits : List Bool) (xs : List X) → list_all test xs ≡ true → list_all test (chosen bits xs) ≡ true
  unfolding chosen
  all_chosen [] xs h = refl
  all_chosen (b ∷ bits) [] h = by_bit b
    where
      by_bit : (b : Bool) → list_all test (chosen (b ∷ bits) []) ≡ true
      by_bit true = refl
      by_bit false = refl
  all_chosen (true ∷ bits) (x ∷ xs) h = and_from (test x) _ (first_so (test x) _ h) (all_chosen bits xs (second_so (test x) _ h))
  all_chosen (false ∷ bits) (x ∷ xs) h = all_chosen bits xs (second_so (test x) _ h)

-- rows of bytes that are chosen are of their type too, and so are decimals
pub bytes_chosen : (st : Storage) (bits : List Bool) (rs kept : List (List ℕ)) → are_bytes_of st rs ≡ true → kept ≡ chosen bits rs → are_bytes_of st kept ≡ true
bytes_chosen Text bits rs kept h made = ap (list_all is_utf8) made ∙ all_chosen is_utf8 bits rs h
bytes_chosen _ bits rs kept h made = refl

pub decimals_chosen : (d : DecimalDType) (bits : List Bool) (w u : DecimalType) (zs kept : List ℤ) → are_decimals_of (stored_decimals d) w zs ≡ true → u ≡ w
    → kept ≡ chosen bits zs → are_decimals_of (stored_decimals d) u kept ≡ true
decimals_chosen d bits w u zs kept h same made =
    let width = ap (λ x. same_width x (smallest_width d.precision)) same ∙ first_so _ _ h in
    and_from _ _ width (ap (list_all (has_digits d.precision)) made ∙ all_chosen (has_digits d.precision) bits zs
    (second_so (same_width w (smallest_width d.precision)) _ h))

-- a column that stores the chosen values of another
pub data_chosen : {E : Type 0} (bits : List Bool) (t s : Tree) (d kept : Data) (u : Tree) (r : Result Canonical E) → s ≡ t → datum s ≡ d → datum u ≡ kept
    → kept ≡ chosen_data bits d → IfOk r (λ c. canonical_tree c ≡ u) → IfOk r (λ c. datum (canonical_tree c) ≡ chosen_data bits (datum t))
data_chosen bits t s d kept u r same stored made are =
    IfOk-weaker r _ _ (λ c is. ap datum is ∙ made ∙ are ∙ ap (chosen_data bits) (sym stored ∙ ap datum same))
