-- Columns with some of their rows made null: the two validities joined.
use Rattle.std.proofs.Common.{◌≡◌, ℕ, suc, ◌+◌, List, [], ◌∷◌, length, map, Bool, true, false, ◌&&◌, Option, Some, None, refl, sym}
use Rattle.std.proofs.Common.{ap}
use Rattle.std.proofs.Common.{subst}
use Rattle.std.proofs.Common.{◌∙◌}
use Rattle.std.proofs.Common.{arith}
use Rattle.std.proofs.Common.{rules}
use Rattle.std.proofs.Common.{Result}
use Rattle.std.proofs.Common.{IfOk}
use Rattle.std.proofs.lemmas.Result.{IfOk-weaker}
use Rattle.std.specs.List.{range_with_len}
use Rattle.std.proofs.lemmas.List.{length-map}
use Rattle.vx_value.specs.Types.{DataType, bool, nullability_of}
use Rattle.vx_value.specs.Nullabilities.{with_nullability}
use Rattle.vx_value.specs.Values.{Value, boolean}
use Rattle.vx_value.specs.Cell.{Cell, value, fault}
use Rattle.vx_value.specs.declared.dtype.Nullability.{Nullability}
use Rattle.vx_value.specs.declared.dtype.Nullability.TheVariants.{NonNullable, Nullable}
use Rattle.vx_fn.specs.declared.function.Operator.TheVariants.{And}
use Rattle.vx_fn.specs.declared.function.ScalarFnRef.TheVariants.{Binary}
use Rattle.vx_value.specs.declared.dtype.Storage.{Storage}
use Rattle.vx_value.specs.declared.dtype.Storage.TheVariants.{Text}
use Rattle.vx_tree.specs.ColumnTypes.{bytes_type}
use Rattle.vx_tree.specs.Tree.{Tree, Data, slots_of, dtype, len, column, call_of, masked_of}
use Rattle.vx_tree.specs.Well.{shapes, IsFlat}
use Rattle.vx_tree.specs.Cells.{rows, node_cells, cells_at, valid_cell, valid_cells, HasNoFault}
use Rattle.vx_tree.specs.Canonicals.{canonical_tree}
use Rattle.vx_tree.specs.declared.canonical.canonical.Canonical.{Canonical}
use Rattle.vx_tree.specs.Keeps.{KeepsExactly}
use Rattle.vx_tree.specs.Validities.{nullability_by, child_of, HasRows}
use Rattle.vx_tree.specs.declared.validity.Validity.{Validity}
use Rattle.vx_tree.specs.declared.validity.Validity.TheVariants as validity
use Rattle.vx_tree.proofs.CellsLemmas.{rows_counted}
use Rattle.vx_tree.proofs.KeepsLemmas.{rows_equal}
use Rattle.vx_tree.proofs.ValiditiesLemmas.{whole}
use Rattle.vx_mask.specs.Logic.{bit_row}
use Rattle.std.proofs.lemmas.List.FromFn.{length-map-range_with_len}
use Rattle.vx_column.specs.Masked.{TellsAll, IsBoth}
use Rattle.vx_column.specs.ValidRows.{IsValidityOf}
use Rattle.vx_column.specs.declared.rows.valid.ValidRows.TheVariants as rows_valid
use Rattle.vx_column.proofs.ValidRowsLemmas.{child_told, filled_clean}
use Rattle.vx_column.specs.Nulls.{validity_cells}
use Rattle.vx_column.proofs.CellsLemmas.{fault_cell, masked_rows}
use Rattle.vx_column.proofs.FilteredLemmas.{column_cells}
use Rattle.vx_tree.proofs.TypedLemmas.{CellFits, AllFit, rows_fit}
use Rattle.vx_tree.proofs.JoinedLemmas.{and_cell, and_cells, and_rows, and_clean}

-- ---- the cells of a conjunction

both_cell : (c d x : Cell) → CellFits (bool NonNullable) c → CellFits (bool NonNullable) d → valid_cell d (valid_cell c x) ≡ valid_cell (and_cell c d) x
both_cell fault d x h k = fault_cell d
both_cell (value (boolean b)) fault x h k = refl
both_cell (value (boolean true)) (value (boolean true)) x h k = refl
both_cell (value (boolean true)) (value (boolean false)) x h k = refl
both_cell (value (boolean false)) (value (boolean true)) x h k = refl
both_cell (value (boolean false)) (value (boolean false)) (value v) h k = refl
both_cell (value (boolean false)) (value (boolean false)) fault h k = refl
both_cell (value (boolean b)) (value _) x h k = absurd (cc)
both_cell (value _) d x h k = absurd (cc)

both_cells : (cs ds xs : List Cell) → length cs ≡ length ds → length xs ≡ length cs → AllFit (bool NonNullable) cs → AllFit (bool NonNullable) ds
    → valid_cells ds (valid_cells cs xs) ≡ valid_cells (and_cells cs ds) xs
both_cells [] [] xs e l h k = refl
both_cells [] (d ∷ ds) xs e l h k = absurd (omega arith)
both_cells (c ∷ cs) [] xs e l h k = absurd (omega arith)
both_cells (c ∷ cs) (d ∷ ds) [] e l h k = absurd (omega arith)
both_cells (c ∷ cs) (d ∷ ds) (x ∷ xs) e l h k = λ j. both_cell c d x h.0 k.0 j ∷ both_cells cs ds xs (omega arith) (omega arith) h.1 k.1 j

-- ---- the rows that two validities both tell

pub both_and : (n : ℕ) (t u w : Tree) → HasRows (validity.Array t) n → HasRows (validity.Array u) n → w ≡ call_of (Binary And) (bool NonNullable) n (t ∷ u ∷ [])
    → IsBoth n (Some t) (Some u) (Some w)
both_and n t u w first second made =
    let left : length (rows t) ≡ n = rows_counted t first.0 ∙ first.2 in
    let right : length (rows u) ≡ n = rows_counted u second.0 ∙ second.2 in
    let cells = and_rows t u n left right in
    let left_fit = subst (λ ty. AllFit ty (rows t)) first.1 (rows_fit t first.0) in
    let right_fit = subst (λ ty. AllFit ty (rows u)) second.1 (rows_fit u second.0) in
    subst (λ x. IsBoth n (Some t) (Some u) (Some x)) (sym made)
    (record {
      told = λ cs h. both_cells (rows t) (rows u) cs (left ∙ sym right) (h ∙ sym left) left_fit right_fit ∙ ap (λ vs. valid_cells vs cs) (sym cells);
      clean = λ h k. ((subst HasNoFault (sym cells) (and_clean (rows t) (rows u) (whole t h.0) (whole u k.0)), (h.0, (k.0, tt))), tt);
    })

-- the tree of a validity of n rows tells them
pub tells_child : (n k : ℕ) (v : Validity) (x : Option Tree) → x ≡ child_of v n → n ≡ k → HasRows v k → TellsAll n x
tells_child n k v x slot same has = subst (TellsAll n) (sym slot) (told v (subst (HasRows v) (sym same) has))
  where
    told : (v : Validity) → HasRows v n → TellsAll n (child_of v n)
    told validity.AllInvalid h = search rules
    told (validity.Array t) h = h
    told _ h = tt

-- of which one tells nothing
pub none_first : (n : ℕ) (u v : Option Tree) → u ≡ None → IsBoth n u v v
none_first n u v e = subst (λ x. IsBoth n x v v) (sym e) (record { told = λ cs h. refl; clean = λ h k. k })

pub none_second : (n : ℕ) (u v : Option Tree) → v ≡ None → IsBoth n u v u
none_second n u v e = subst (λ x. IsBoth n u x u) (sym e) (record { told = λ cs h. refl; clean = λ h k. h })

-- of bits, joined by words
bits_fit : (bits : List Bool) → AllFit (bool NonNullable) (map (λ b. value (boolean b)) bits)
bits_fit [] = tt
bits_fit (b ∷ bits) = (refl, bits_fit bits)

and_bits : (s : ℕ) (xs ys : List Bool) (f : ℕ → Bool) → length xs ≡ length ys → ((i : ℕ) → f (s + i) ≡ bit_row xs i && bit_row ys i)
    → map (λ b. value (boolean b)) (map f (range_with_len s (length xs))) ≡ and_cells (map (λ b. value (boolean b)) xs) (map (λ b. value (boolean b)) ys)
and_bits s [] ys f long h = refl
and_bits s (x ∷ xs) [] f long h = absurd (omega arith)
and_bits s (x ∷ xs) (y ∷ ys) f long h =
    let here : s ≡ s + 0 = omega arith in
    let first : f s ≡ x && y = ap f here ∙ h 0 in
    let later : (i : ℕ) → s + 1 + i ≡ s + suc i = λ i. omega arith in
    λ j. (ap (λ b. value (boolean b)) first ∙ and_bit x y) j ∷ and_bits (s + 1) xs ys f (omega arith) (λ i. ap f (later i) ∙ h (suc i)) j
  where
    and_bit : (x y : Bool) → value (boolean (x && y)) ≡ and_cell (value (boolean x)) (value (boolean y))
    and_bit true true = refl
    and_bit true false = refl
    and_bit false true = refl
    and_bit false false = refl

pub both_bits : (n : ℕ) (t u : Tree) (xs ys bits : List Bool) (v : Validity) → HasRows (validity.Array t) n → HasRows (validity.Array u) n
    → rows t ≡ map (λ b. value (boolean b)) xs → rows u ≡ map (λ b. value (boolean b)) ys
    → bits ≡ map (λ i. bit_row xs i && bit_row ys i) (range_with_len 0 n) → IsValidityOf (rows_valid.Bits bits) n v → IsBoth n (Some t) (Some u) (child_of v n)
both_bits n t u xs ys bits v first second left right made told =
    let long : length xs ≡ n = sym (length-map xs (λ b. value (boolean b))) ∙ ap length (sym left) ∙ rows_counted t first.0 ∙ first.2 in
    let wide : length ys ≡ n = sym (length-map ys (λ b. value (boolean b))) ∙ ap length (sym right) ∙ rows_counted u second.0 ∙ second.2 in
    let count : length bits ≡ n = ap length made ∙ length-map-range_with_len (λ i. bit_row xs i && bit_row ys i) 0 n in
    let cells : map (λ b. value (boolean b)) bits ≡ and_cells (rows t) (rows u) =
    ap (map (λ b. value (boolean b))) (made ∙ ap (λ k. map (λ i. bit_row xs i && bit_row ys i) (range_with_len 0 k)) (sym long))
    ∙ and_bits 0 xs ys (λ i. bit_row xs i && bit_row ys i) (long ∙ sym wide) (λ i. ap (λ k. bit_row xs k && bit_row ys k) (omega arith))
    ∙ (λ j. and_cells (sym left j) (sym right j)) in
    let left_fit = subst (AllFit (bool NonNullable)) (sym left) (bits_fit xs) in
    let right_fit = subst (AllFit (bool NonNullable)) (sym right) (bits_fit ys) in
    let t_long : length (rows t) ≡ n = rows_counted t first.0 ∙ first.2 in
    let u_long : length (rows u) ≡ n = rows_counted u second.0 ∙ second.2 in
    subst (IsBoth n (Some t) (Some u)) (sym told.1) (record {
      told = λ cs h. both_cells (rows t) (rows u) cs (t_long ∙ sym u_long) (h ∙ sym t_long) left_fit right_fit
          ∙ ap (λ vs. valid_cells vs cs) (sym cells) ∙ sym (child_told bits cs (h ∙ sym count));
      clean = λ h k. filled_clean (rows_valid.Bits bits);
    })

-- ---- a column of values of one type, each read from an item

module _ {X : Type 0} (read : X → Value) (of_items : List X → Data) (of_type : DataType)
    (cells : (m : Nullability) (n : ℕ) (xs : List X) (tys : List DataType) (css : List (List Cell))
    → node_cells (with_nullability m of_type) n (of_items xs) tys css ≡ valid_cells (cells_at css 0) (map (λ x. value (read x)) xs))
    (set : (m : Nullability) → with_nullability Nullable (with_nullability m of_type) ≡ with_nullability Nullable of_type) where
  masked_exactly : (xs : List X) (v c w : Option Tree) (m : Nullability) → IsBoth (length xs) v c w
      → KeepsExactly (masked_of (column (with_nullability m of_type) (length xs) (of_items xs) v) c)
      (column (with_nullability Nullable of_type) (length xs) (of_items xs) w)
  masked_exactly xs v c w m both =
      let n = length xs in
      let t = column (with_nullability m of_type) n (of_items xs) v in
      let u = column (with_nullability Nullable of_type) n (of_items xs) w in
      let stored = map (λ x. value (read x)) xs in
      let shown : rows (masked_of t c) ≡ rows u =
      masked_rows (masked_of t c) t c refl
      ∙ ap (valid_cells (validity_cells c)) (column_cells read of_items of_type cells m n xs v)
      ∙ both.told stored (length-map xs (λ x. value (read x)))
      ∙ sym (column_cells read of_items of_type cells Nullable n xs w) in
      record {
        keeps = record {
          same_type = set m;
          same_len = refl;
          same_rows = rows_equal _ _ shown;
          still_clean = λ k. (subst HasNoFault shown k.0, both.clean k.1.0.1 k.1.1);
        };
        equal = shown;
      }

  pub column_masked : (xs : List X) (v c : Option Tree) (w : Validity) (t u : Tree) → t ≡ column (dtype t) (len t) (of_items xs) v
      → IsFlat of_type (length xs) (dtype t) (len t) (shapes (slots_of (v ∷ []))) → nullability_by w ≡ Nullable → IsBoth (len t) v c (child_of w (len t))
      → u ≡ column (with_nullability (nullability_by w) of_type) (length xs) (of_items xs) (child_of w (length xs)) → KeepsExactly (masked_of t c) u
  column_masked xs v c w t u is flat nullable both made =
      let m = nullability_of (dtype t) in
      let whole_is : t ≡ column (with_nullability m of_type) (length xs) (of_items xs) v = is ∙ (λ i. column (flat.1 i) (flat.2 i) (of_items xs) v) in
      let shown : column (with_nullability Nullable of_type) (length xs) (of_items xs) (child_of w (length xs)) ≡ u =
      ap (λ m. column (with_nullability m of_type) (length xs) (of_items xs) (child_of w (length xs))) (sym nullable) ∙ sym made in
      subst (KeepsExactly (masked_of t c)) shown
      (subst (λ x. KeepsExactly (masked_of x c) (column (with_nullability Nullable of_type) (length xs) (of_items xs) (child_of w (length xs)))) (sym whole_is)
      (masked_exactly xs v c (child_of w (length xs)) m (subst (λ n. IsBoth n v c (child_of w n)) flat.2 both)))

  -- of a column `t` of n rows
  pub canonical_masked : {E : Type 0} (found : Result Canonical E) (xs : List X) (own x : Option Tree) (w : Validity) (n : ℕ) (t s : Tree) → n ≡ len t
      → t ≡ column (dtype t) (len t) (of_items xs) own → IsFlat of_type (length xs) (dtype t) (len t) (shapes (slots_of (own ∷ [])))
      → nullability_by w ≡ Nullable
      → IsBoth n own x (child_of w n) → s ≡ column (with_nullability (nullability_by w) of_type) (length xs) (of_items xs) (child_of w (length xs))
      → IfOk found (λ c. canonical_tree c ≡ s) → IfOk found (λ c. KeepsExactly (masked_of t x) (canonical_tree c))
  canonical_masked found xs own x w n t s sized is flat nullable both stored =
      IfOk-weaker found _ _
      (λ c made. column_masked xs own x w t (canonical_tree c) is flat nullable (subst (λ k. IsBoth k own x (child_of w k)) sized both) (made ∙ stored))

-- text and bytes keep their type, whatever the nullability
pub bytes_set : (st : Storage) (m : Nullability) → with_nullability Nullable (with_nullability m (bytes_type st)) ≡ with_nullability Nullable (bytes_type st)
bytes_set Text m = refl
bytes_set _ m = refl
