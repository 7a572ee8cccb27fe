-- What a mask of a masked array keeps: M1.
use Rattle.std.proofs.Common.{◌≡◌, ℕ, zero, suc, ◌<◌, true, false, List, [], ◌∷◌, length, map, get_or, refl, sym, ap, subst, ◌∙◌, arith}
use Rattle.std.specs.List.{range_with_len}
use Rattle.std.proofs.lemmas.List.{length-replicate, get_or-replicate}
use Rattle.std.proofs.lemmas.List.FromFn.{length-map-range_with_len, get_or-map-range_with_len}
use Rattle.vx_value.specs.Types as type
use Rattle.vx_value.specs.Types.{DataType}
use Rattle.vx_value.specs.Values.{null, boolean}
use Rattle.vx_value.specs.Cell.{Cell, value, fault}
use Rattle.vx_value.specs.declared.dtype.Nullability.TheVariants.{NonNullable}
use Rattle.vx_fn.specs.Apply.{apply}
use Rattle.vx_fn.specs.declared.function.ScalarFnRef.TheVariants as fn_of
use Rattle.vx_tree.specs.Tree as enc
use Rattle.vx_tree.specs.Tree.{Tree, Slots, node, no_slots, absent, slot, dtype, len, types_in}
use Rattle.vx_tree.specs.Cells.{rows, slots_rows, row_at, cells_at, valid_cell, valid_cells, HasNoFault, IsClean, AreClean}
use Rattle.vx_tree.specs.Keeps.{KeepsExactly}
use Rattle.vx_tree.specs.NodeValidities.{both_of}
use Rattle.vx_tree.specs.Well.{IsWell, AreWell, shapes}
use Rattle.vx_tree.proofs.CellsLemmas.{rows_counted}
use Rattle.vx_tree.proofs.KeepsLemmas.{exactly_of_rows}
use Rattle.vx_tree.proofs.KindsLemmas.{type_in, len_in}
use Rattle.vx_tree.proofs.JoinedLemmas.{and_cell, and_rows, and_clean}
use Rattle.vx_tree.proofs.TypedLemmas.{CellFits, fit_at, rows_fit}
use Rattle.vx_tree.proofs.ValiditiesLemmas.{whole}
use Rattle.vx_rule.specs.Rules.{validity_column}
use Rattle.vx_rule.proofs.PicksLemmas.{rows_are, slots_long, IsSecond, masked_slots}
use Rattle.vx_rule.proofs.RangesLemmas.{copies_clean}

-- ---- one row

-- a value by a truth value and then by a mask is the value by both
mask_cell : (tys : List DataType) (ty : DataType) (v c m : Cell) → CellFits (type.bool NonNullable) v
    → apply fn_of.Mask tys ty (valid_cell v c ∷ m ∷ []) ≡ apply fn_of.Mask tys ty (c ∷ and_cell m v ∷ [])
mask_cell tys ty (value (boolean true)) fault m h = refl
mask_cell tys ty (value (boolean true)) (value x) fault h = refl
mask_cell tys ty (value (boolean true)) (value x) (value (boolean true)) h = refl
mask_cell tys ty (value (boolean true)) (value x) (value (boolean false)) h = refl
mask_cell tys ty (value (boolean true)) (value x) (value _) h = refl
mask_cell tys ty (value (boolean false)) fault m h = refl
mask_cell tys ty (value (boolean false)) (value x) fault h = refl
mask_cell tys ty (value (boolean false)) (value x) (value (boolean true)) h = refl
mask_cell tys ty (value (boolean false)) (value x) (value (boolean false)) h = refl
mask_cell tys ty (value (boolean false)) (value x) (value _) h = refl
mask_cell tys ty (value null) c m h = absurd (cc (h))
mask_cell tys ty (value _) c m h = absurd (cc (h))
mask_cell tys ty fault fault m h = refl
mask_cell tys ty fault (value x) fault h = refl
mask_cell tys ty fault (value x) (value y) h = refl

valid_at : (vs cs : List Cell) (i : ℕ) → length vs ≡ length cs → get_or (valid_cells vs cs) i fault ≡ valid_cell (get_or vs i fault) (get_or cs i fault)
valid_at [] [] i e = refl
valid_at [] (c ∷ cs) i e = absurd (omega arith)
valid_at (v ∷ vs) [] i e = absurd (omega arith)
valid_at (v ∷ vs) (c ∷ cs) zero e = refl
valid_at (v ∷ vs) (c ∷ cs) (suc i) e = valid_at vs cs i (omega arith)

-- ---- the validity of n rows, all true if there is none

pub told_at : (n : ℕ) (vs : Slots) (cs : List Cell) (i : ℕ) → AreWell vs → IsSecond n vs → length cs ≡ n → i < n
    → get_or (valid_cells (cells_at (slots_rows vs) 0) cs) i fault ≡ valid_cell (get_or (rows (validity_column n vs)) i fault) (get_or cs i fault)
told_at n no_slots cs i w h long lt = sym (ap (λ v. valid_cell v (get_or cs i fault)) (get_or-replicate n i (value (boolean true)) fault lt))
told_at n (absent vs) cs i w h long lt = sym (ap (λ v. valid_cell v (get_or cs i fault)) (get_or-replicate n i (value (boolean true)) fault lt))
told_at n (slot t vs) cs i w h long lt = valid_at (rows t) cs i (rows_counted t w.0 ∙ ap len_in h ∙ sym long)

pub told_fits : (n : ℕ) (vs : Slots) (i : ℕ) → AreWell vs → IsSecond n vs → i < n → CellFits (type.bool NonNullable) (get_or (rows (validity_column n vs)) i fault)
told_fits n no_slots i w h lt = subst (CellFits (type.bool NonNullable)) (sym (get_or-replicate n i (value (boolean true)) fault lt)) refl
told_fits n (absent vs) i w h lt = subst (CellFits (type.bool NonNullable)) (sym (get_or-replicate n i (value (boolean true)) fault lt)) refl
told_fits n (slot t vs) i w h lt = subst (λ ty. CellFits ty (get_or (rows t) i fault)) (ap type_in h) (fit_at (dtype t) (rows t) i (rows_fit t w.0))

told_long : (n : ℕ) (vs : Slots) → AreWell vs → IsSecond n vs → length (rows (validity_column n vs)) ≡ n
told_long n no_slots w h = length-replicate n (value (boolean true))
told_long n (absent vs) w h = length-replicate n (value (boolean true))
told_long n (slot t vs) w h = rows_counted t w.0 ∙ ap len_in h

pub told_clean : (n : ℕ) (vs : Slots) → AreClean vs → IsClean (validity_column n vs)
told_clean n no_slots c = copies_clean (record { of_type = type.bool NonNullable; value = boolean true }) n
told_clean n (absent vs) c = copies_clean (record { of_type = type.bool NonNullable; value = boolean true }) n
told_clean n (slot t vs) c = c.0

-- ---- the row

pub M1_keeps : (ty mty : DataType) (n k : ℕ) (c m : Tree) (vs : Slots)
    → IsWell (node ty n (enc.function fn_of.Mask) (slot (node mty k enc.masked (slot c vs)) (slot m no_slots)))
    → KeepsExactly (node ty n (enc.function fn_of.Mask) (slot (node mty k enc.masked (slot c vs)) (slot m no_slots)))
    (node ty n (enc.function fn_of.Mask) (slot c (slot (both_of n m (validity_column n vs)) no_slots)))
M1_keeps ty mty n k c m vs w =
    let child = node mty k enc.masked (slot c vs) in
    let truth = validity_column n vs in
    let both = both_of n m truth in
    let before = slot child (slot m no_slots) in
    let after = slot c (slot both no_slots) in
    let tys = types_in (shapes before) in
    let long = slots_long n w.0.0 before w.0.1 w.1 in
    let same : k ≡ n = sym (rows_counted child w.1.0) ∙ long.0 in
    let parts = masked_slots mty k c vs w.1.0.0 in
    let second : IsSecond n vs = subst (λ l. IsSecond l vs) same parts.1 in
    let rows_long : length (rows c) ≡ n = rows_counted c w.1.0.1.0 ∙ parts.0 ∙ same in
    let wells : AreWell vs = w.1.0.1.1 in
    let truth_long : length (rows truth) ≡ n = told_long n vs wells second in
    let given = λ (i : ℕ). apply fn_of.Mask tys ty (row_at (slots_rows after) i) in
    let at = λ (i : ℕ) (lt : i < n).
    ap (λ x. apply fn_of.Mask tys ty (x ∷ get_or (rows m) i fault ∷ [])) (told_at n vs (rows c) i wells second rows_long lt)
    ∙ mask_cell tys ty (get_or (rows truth) i fault) (get_or (rows c) i fault) (get_or (rows m) i fault) (told_fits n vs i wells second lt)
    ∙ ap (λ x. apply fn_of.Mask tys ty (get_or (rows c) i fault ∷ x ∷ []))
    (sym (get_or-map-range_with_len (λ j. and_cell (get_or (rows m) j fault) (get_or (rows truth) j fault)) 0 n i i fault lt (omega arith))) in
    let shown : rows (node ty n (enc.function fn_of.Mask) before) ≡ rows (node ty n (enc.function fn_of.Mask) after) =
    rows_are (λ i. apply fn_of.Mask tys ty (row_at (slots_rows before) i)) n (map given (range_with_len 0 n)) (length-map-range_with_len given 0 n)
    (λ i lt. at i lt ∙ sym (get_or-map-range_with_len given 0 n i i fault lt (omega arith))) in
    exactly_of_rows ty n (enc.function fn_of.Mask) (enc.function fn_of.Mask) before after shown
    (λ d.
    let clean_truth : IsClean truth = told_clean n vs d.0.1.1 in
    let fine : HasNoFault (rows both) =
    subst HasNoFault (sym (and_rows m truth n long.1.0 truth_long)) (and_clean (rows m) (rows truth) (whole m d.1.0) (whole truth clean_truth)) in
    (d.0.1.0, ((fine, (d.1.0, (clean_truth, tt))), tt)))
