-- What the rows of dictionaries keep: D1 and D2.
use Rattle.std.proofs.Common.{◌≡◌, ℕ, zero, suc, pos, List, [], ◌∷◌, length, map, replicate, slice_get, Option, Some, None, true, false, refl, sym, ap, subst, ◌∙◌}
use Rattle.std.specs.Prelude.{not, slice_index_or, option_map}
use Rattle.std.proofs.lemmas.List.{length-map, length-replicate}
use Rattle.vx_value.specs.Types.{DataType, nullability_of}
use Rattle.vx_value.specs.Typed.{Typed}
use Rattle.vx_value.specs.Values.{Value, null, boolean, integer}
use Rattle.vx_value.specs.IsOf.{is_null}
use Rattle.vx_value.specs.Cell.{Cell, value, fault}
use Rattle.vx_value.specs.declared.dtype.Nullability.TheVariants.{NonNullable}
use Rattle.vx_tree.specs.Tree as enc
use Rattle.vx_tree.specs.Tree.{Tree, Data, Slots, node, no_slots, slot, slots_of, dtype, len, dict_of}
use Rattle.vx_tree.specs.Slots.{map_slots, count_slots}
use Rattle.vx_tree.specs.Lookups.{taken, taken_cells}
use Rattle.vx_tree.specs.Cells.{rows, slots_rows, cells_at, valid_cell, valid_cells, shown_cell, HasNoFault, IsClean, AreClean}
use Rattle.vx_tree.specs.Keeps.{CellKeeps, RowsKeep, Keeps, KeepsExactly}
use Rattle.vx_tree.specs.Validities.{valid_rows}
use Rattle.vx_tree.specs.NodeValidities.{node_validity, IsValidityFor}
use Rattle.vx_tree.specs.declared.validity.Validity.{Validity}
use Rattle.vx_tree.specs.declared.validity.Validity.TheVariants as validity
use Rattle.vx_tree.specs.Well.{shape, shape_of, IsWell, AreWell}
use Rattle.vx_tree.proofs.CellsLemmas.{rows_counted}
use Rattle.vx_tree.proofs.JoinedLemmas.{all_valid, cells_sized}
use Rattle.vx_tree.proofs.KeepsLemmas.{no_fault_kept}
use Rattle.vx_tree.proofs.KindsLemmas.{len_in}
use Rattle.vx_tree.proofs.NodeValiditiesLemmas.{told_by_node}
use Rattle.vx_tree.proofs.TellsLemmas.{non_nullable}
use Rattle.vx_rule.specs.Rules.{masked_by, named_by, taken_of}
use Rattle.vx_rule.proofs.PicksLemmas.{IsSecond, first_of, exactly_by, masked_slots, only_slot, slot_mapped}
use Rattle.vx_rule.proofs.RangesLemmas.{copies_clean}

-- ---- rows that are told to be null or not, all at once

all_told : (cs vs : List Cell) → length cs ≡ length vs
    → ((i : ℕ) (w : Value) → slice_get cs i ≡ Some (value w) → slice_get vs i ≡ Some (value (boolean (not (is_null w)))))
    → RowsKeep (map shown_cell cs) vs
all_told [] [] e h = tt
all_told [] (v ∷ vs) e h = absurd (cc)
all_told (c ∷ cs) [] e h = absurd (cc)
all_told (c ∷ cs) (v ∷ vs) e h = (here c (λ w is. h 0 w (ap Some is)), all_told cs vs (let e : length cs ≡ length vs = cc in e) (λ i w is. h (suc i) w is))
  where
    here : (c : Cell) → ((w : Value) → c ≡ value w → Some v ≡ Some (value (boolean (not (is_null w))))) → CellKeeps (shown_cell c) v
    here fault k = tt
    here (value null) k = let is : Some v ≡ Some (value (boolean false)) = k null refl in cc
    here (value (boolean b)) k = let is : Some v ≡ Some (value (boolean true)) = k (boolean b) refl in cc
    here (value x) k = let is : Some v ≡ Some (value (boolean true)) = k x refl in cc

-- ---- a dictionary of copies of one value

copy_at : (k j : ℕ) (x : Value) → CellKeeps (slice_index_or (replicate k (value x)) j fault) (value x)
copy_at zero j x = tt
copy_at (suc k) zero x = refl
copy_at (suc k) (suc j) x = copy_at k j x

-- by a code of which v says whether it is null
copy_named : (k : ℕ) (x : Value) (d v : Cell) → CellKeeps (shown_cell d) v → CellKeeps (taken (replicate k (value x)) d) (valid_cell v (value x))
copy_named k x fault v h = tt
copy_named k x (value null) v h = ap (λ y. valid_cell y (value x)) h
copy_named k x (value (integer (pos j))) v h =
    subst (λ y. CellKeeps (slice_index_or (replicate k (value x)) j fault) (valid_cell y (value x))) (sym h) (copy_at k j x)
copy_named k x (value _) v h = tt

copies_named : (k : ℕ) (x : Value) (ds vs : List Cell) → RowsKeep (map shown_cell ds) vs
    → RowsKeep (taken_cells ds (replicate k (value x))) (valid_cells vs (replicate (length ds) (value x)))
copies_named k x [] [] h = tt
copies_named k x [] (v ∷ vs) h = absurd h
copies_named k x (d ∷ ds) [] h = absurd h
copies_named k x (d ∷ ds) (v ∷ vs) h = (copy_named k x d v h.0, copies_named k x ds vs h.1)

null_named : (k : ℕ) (d : Cell) → CellKeeps (taken (replicate k (value null)) d) (value null)
null_named k fault = tt
null_named k (value null) = refl
null_named k (value (integer (pos j))) = copy_at k j null
null_named k (value _) = tt

nulls_named : (k : ℕ) (ds : List Cell) → RowsKeep (taken_cells ds (replicate k (value null))) (replicate (length ds) (value null))
nulls_named k [] = tt
nulls_named k (d ∷ ds) = (null_named k d, nulls_named k ds)

all_invalid : (n : ℕ) (x : Value) → valid_cells (replicate n (value (boolean false))) (replicate n (value x)) ≡ replicate n (value null)
all_invalid zero x = refl
all_invalid (suc n) x = ap (λ cs. value null ∷ cs) (all_invalid n x)

-- n rows of x, by a validity of the codes
module _ (ty : DataType) (k : ℕ) (x : Value) (ds : List Cell) where
  abbrev n : ℕ
  n = length ds

  abbrev before : List Cell
  before = taken_cells ds (replicate k (value x))

  masked_rows : (u : Tree) → RowsKeep (map shown_cell ds) (rows u) → RowsKeep before (rows (masked_by ty n x u))
  masked_rows u h = by_value x refl
    where
      by_value : (y : Value) → x ≡ y → RowsKeep before (rows (masked_by ty n y u))
      by_value null e = subst (λ z. RowsKeep (taken_cells ds (replicate k (value z))) (replicate n (value null))) (sym e) (nulls_named k ds)
      by_value y e = subst (λ z. RowsKeep before (valid_cells (rows u) (replicate n (value z)))) e (copies_named k x ds (rows u) h)

  named_rows : (w : Validity) → RowsKeep (map shown_cell ds) (valid_rows w n) → RowsKeep before (rows (named_by ty n x w))
  named_rows validity.NonNullable h = subst (RowsKeep before) (all_valid n (replicate n (value x)) (length-replicate n (value x))) (copies_named k x ds _ h)
  named_rows validity.AllValid h = subst (RowsKeep before) (all_valid n (replicate n (value x)) (length-replicate n (value x))) (copies_named k x ds _ h)
  named_rows validity.AllInvalid h = subst (RowsKeep before) (all_invalid n x) (copies_named k x ds _ h)
  named_rows (validity.Array u) h = masked_rows u h

named_type : (ty : DataType) (n : ℕ) (x : Value) (w : Validity) → ty ≡ dtype (named_by ty n x w)
named_type ty n x (validity.Array u) = by_value x
  where
    by_value : (x : Value) → ty ≡ dtype (masked_by ty n x u)
    by_value null = refl
    by_value _ = refl
named_type ty n x _ = refl

named_len : (ty : DataType) (n : ℕ) (x : Value) (w : Validity) → n ≡ len (named_by ty n x w)
named_len ty n x (validity.Array u) = by_value x
  where
    by_value : (x : Value) → n ≡ len (masked_by ty n x u)
    by_value null = refl
    by_value _ = refl
named_len ty n x _ = refl

-- its own rows are clean, so it is
named_clean : (ty : DataType) (n : ℕ) (x : Value) (c : Tree) (w : Validity) → IsValidityFor c w → IsClean c → HasNoFault (rows (named_by ty n x w))
    → IsClean (named_by ty n x w)
named_clean ty n x c validity.NonNullable h d own = copies_clean (record { of_type = ty; value = x }) n
named_clean ty n x c validity.AllValid h d own = copies_clean (record { of_type = ty; value = x }) n
named_clean ty n x c validity.AllInvalid h d own = copies_clean (record { of_type = ty; value = null }) n
named_clean ty n x c (validity.Array u) h d own = by_value x own
  where
    by_value : (x : Value) → HasNoFault (rows (masked_by ty n x u)) → IsClean (masked_by ty n x u)
    by_value null own = copies_clean (record { of_type = ty; value = null }) n
    by_value x own = (own, (copies_clean (record { of_type = ty; value = x }) n, (h.clean d, tt)))

-- ---- a well-formed dictionary

codes_len : (ty : DataType) (n : ℕ) (c v : Tree) → IsWell (node ty n enc.dict (slot c (slot v no_slots))) → len c ≡ n
codes_len ty n c v w = let is : shape_of c ≡ shape w.0.0 n = first_of w.0.3 in ap len_in is

pub D1_keeps : (ty s : DataType) (n k : ℕ) (c : Tree) (v : Typed)
    → IsWell (node ty n enc.dict (slot c (slot (node s k (enc.constant v) no_slots) no_slots)))
    → Keeps (node ty n enc.dict (slot c (slot (node s k (enc.constant v) no_slots) no_slots))) (named_by ty n v.value (node_validity c))
D1_keeps ty s n k c v w =
    let t = node ty n enc.dict (slot c (slot (node s k (enc.constant v) no_slots) no_slots)) in
    let told = told_by_node c w.1.0 in
    let valid = node_validity c in
    let counted : length (rows c) ≡ n = rows_counted c w.1.0 ∙ codes_len ty n c (node s k (enc.constant v) no_slots) w in
    let long : length (rows c) ≡ length (valid_rows valid (len c)) = rows_counted c w.1.0 ∙ sym (cells_sized valid (len c) told.sized) in
    let shown : RowsKeep (map shown_cell (rows c)) (valid_rows valid (length (rows c))) =
    subst (λ m. RowsKeep (map shown_cell (rows c)) (valid_rows valid m)) (sym (rows_counted c w.1.0)) (all_told (rows c) (valid_rows valid (len c)) long told.told) in
    let kept : RowsKeep (rows t) (rows (named_by ty n v.value valid)) =
    subst (λ m. RowsKeep (rows t) (rows (named_by ty m v.value valid))) counted (named_rows ty k v.value (rows c) valid shown) in
    record {
      same_type = named_type ty n v.value valid;
      same_len = named_len ty n v.value valid;
      same_rows = kept;
      still_clean = λ d. named_clean ty n v.value c valid told d.1.0 (no_fault_kept (rows t) (rows (named_by ty n v.value valid)) kept d.0);
    }

-- ---- a dictionary of a masked array

no_cell : (x : Value) → fault ≡ valid_cell (value x) fault
no_cell (boolean true) = refl
no_cell (boolean false) = refl
no_cell _ = refl

valid_at : (vs cs : List Cell) (j : ℕ) → length vs ≡ length cs
    → slice_index_or (valid_cells vs cs) j fault ≡ valid_cell (slice_index_or vs j fault) (slice_index_or cs j fault)
valid_at [] [] j e = refl
valid_at [] (c ∷ cs) j e = absurd (cc)
valid_at (v ∷ vs) [] j e = absurd (cc)
valid_at (v ∷ vs) (c ∷ cs) zero e = refl
valid_at (v ∷ vs) (c ∷ cs) (suc j) e = valid_at vs cs j (let e : length vs ≡ length cs = cc in e)

copy_valid_at : (x : Value) (cs : List Cell) (j : ℕ)
    → slice_index_or (valid_cells (replicate (length cs) (value x)) cs) j fault ≡ valid_cell (value x) (slice_index_or cs j fault)
copy_valid_at x [] j = no_cell x
copy_valid_at x (c ∷ cs) zero = refl
copy_valid_at x (c ∷ cs) (suc j) = copy_valid_at x cs j

-- a code that isn't null
valid_named : (vs cs : List Cell) (d : Cell) → length vs ≡ length cs → CellKeeps (shown_cell d) (value (boolean true))
    → taken (valid_cells vs cs) d ≡ valid_cell (taken vs d) (taken cs d)
valid_named vs cs fault e h = refl
valid_named vs cs (value null) e h = absurd (cc (h))
valid_named vs cs (value (integer (pos j))) e h = valid_at vs cs j e
valid_named vs cs (value _) e h = refl

copy_valid_named : (x : Value) (cs : List Cell) (d : Cell) → CellKeeps (shown_cell d) (value (boolean true))
    → taken (valid_cells (replicate (length cs) (value x)) cs) d ≡ valid_cell (value x) (taken cs d)
copy_valid_named x cs fault h = no_cell x
copy_valid_named x cs (value null) h = absurd (cc (h))
copy_valid_named x cs (value (integer (pos j))) h = copy_valid_at x cs j
copy_valid_named x cs (value _) h = no_cell x

-- codes none of which is null
abbrev AreShown : List Cell → Type 0
AreShown ds = RowsKeep (map shown_cell ds) (replicate (length ds) (value (boolean true)))

all_valid_named : (vs cs ds : List Cell) → length vs ≡ length cs → AreShown ds
    → taken_cells ds (valid_cells vs cs) ≡ valid_cells (taken_cells ds vs) (taken_cells ds cs)
all_valid_named vs cs [] e h = refl
all_valid_named vs cs (d ∷ ds) e h = λ i. valid_named vs cs d e h.0 i ∷ all_valid_named vs cs ds e h.1 i

copies_valid_named : (x : Value) (cs ds : List Cell) → AreShown ds
    → taken_cells ds (valid_cells (replicate (length cs) (value x)) cs) ≡ valid_cells (replicate (length ds) (value x)) (taken_cells ds cs)
copies_valid_named x cs [] h = refl
copies_valid_named x cs (d ∷ ds) h = λ i. copy_valid_named x cs d h.0 i ∷ copies_valid_named x cs ds h.1 i

-- of valid cells none is a fault if none is in either
parts_clean : (vs cs : List Cell) → length vs ≡ length cs → HasNoFault (valid_cells vs cs) → HasNoFault vs × HasNoFault cs
parts_clean [] [] e h = (tt, tt)
parts_clean [] (c ∷ cs) e h = absurd (cc)
parts_clean (v ∷ vs) [] e h = absurd (cc)
parts_clean (value (boolean true) ∷ vs) (value x ∷ cs) e h = parts_clean vs cs (let e : length vs ≡ length cs = cc in e) h
parts_clean (value (boolean false) ∷ vs) (value x ∷ cs) e h = parts_clean vs cs (let e : length vs ≡ length cs = cc in e) h
parts_clean (value (boolean true) ∷ vs) (fault ∷ cs) e h = absurd h
parts_clean (value _ ∷ vs) (c ∷ cs) e h = absurd h
parts_clean (fault ∷ vs) (c ∷ cs) e h = absurd h

-- codes, and the child and the validity of a masked array
module _ (codes c : Tree) (counted : length (rows codes) ≡ len codes) where
  abbrev ds : List Cell
  ds = rows codes

  abbrev cs : List Cell
  cs = rows c

  -- the slot of a validity, and what the codes take of it
  module _ (k : ℕ) (long : length cs ≡ k) (shown : AreShown ds) where
    named_valid : (v : Option Tree) → AreWell (slots_of (v ∷ [])) → IsSecond k (slots_of (v ∷ []))
        → taken_cells ds (valid_cells (cells_at (slots_rows (slots_of (v ∷ []))) 0) cs)
        ≡ valid_cells (cells_at (slots_rows (slots_of (option_map (taken_of codes) v ∷ []))) 0) (taken_cells ds cs)
    named_valid None w h = refl
    named_valid (Some (node vty m (enc.constant x) us)) w h =
        let sized : length cs ≡ m = long ∙ sym (ap len_in h) in
        let one = value x.value in
        subst (λ j. taken_cells ds (valid_cells (replicate j one) cs) ≡ valid_cells (replicate (len codes) one) (taken_cells ds cs)) sized
        (subst (λ j. taken_cells ds (valid_cells (replicate (length cs) one) cs) ≡ valid_cells (replicate j one) (taken_cells ds cs)) counted
        (copies_valid_named x.value cs ds shown))
    named_valid (Some t) w h = all_valid_named (rows t) cs ds (rows_counted t w.0 ∙ ap len_in h ∙ sym long) shown

  taken_clean : (v : Option Tree) → IsClean codes → IsClean c → AreClean (slots_of (v ∷ []))
      → HasNoFault (valid_cells (cells_at (slots_rows (slots_of (option_map (taken_of codes) v ∷ []))) 0) (taken_cells ds cs))
      → IsClean (dict_of codes c) × AreClean (slots_of (option_map (taken_of codes) v ∷ []))
  taken_clean None d e f own = ((own, (d, (e, tt))), tt)
  taken_clean (Some (node vty m (enc.constant x) us)) d e f own =
      let parts = parts_clean (replicate (len codes) (value x.value)) (taken_cells ds cs)
      (length-replicate (len codes) (value x.value) ∙ sym counted ∙ sym (length-map ds (taken cs))) own in
      ((parts.1, (d, (e, tt))), (copies_clean x (len codes), tt))
  taken_clean (Some t) d e f own =
      let parts = parts_clean (taken_cells ds (rows t)) (taken_cells ds cs) (length-map ds (taken (rows t)) ∙ sym (length-map ds (taken cs))) own in
      ((parts.1, (d, (e, tt))), ((parts.0, (d, (f.0, tt))), tt))

-- the same of the slots that hold it
D2_by : (ty mty : DataType) (n k : ℕ) (codes c : Tree) (v : Option Tree) → nullability_of (dtype codes) ≡ NonNullable
    → IsWell (node ty n enc.dict (slot codes (slot (node mty k enc.masked (slot c (slots_of (v ∷ [])))) no_slots)))
    → KeepsExactly (node ty n enc.dict (slot codes (slot (node mty k enc.masked (slot c (slots_of (v ∷ [])))) no_slots)))
    (node ty n enc.masked (slot (dict_of codes c) (slots_of (option_map (taken_of codes) v ∷ []))))
D2_by ty mty n k codes c v never w =
    let vs = slots_of (v ∷ []) in
    let m = node mty k enc.masked (slot c vs) in
    let t = node ty n enc.dict (slot codes (slot m no_slots)) in
    let u = node ty n enc.masked (slot (dict_of codes c) (slots_of (option_map (taken_of codes) v ∷ []))) in
    let counted = rows_counted codes w.1.0 in
    let here = masked_slots mty k c vs w.1.1.0.0 in
    let shown : AreShown (rows codes) =
    subst (λ j. RowsKeep (map shown_cell (rows codes)) (replicate j (value (boolean true)))) (sym counted) (non_nullable codes w.1.0 never).told in
    let same : rows t ≡ rows u =
    named_valid codes c counted k (rows_counted c w.1.1.0.1.0 ∙ here.0) shown v w.1.1.0.1.1 here.1 in
    exactly_by t u refl refl same (λ d.
    let own = subst HasNoFault same d.0 in
    (own, taken_clean codes c counted v d.1.0 d.1.1.0.1.0 d.1.1.0.1.1 own))

pub D2_keeps : (ty mty : DataType) (n k : ℕ) (codes c : Tree) (vs : Slots) → nullability_of (dtype codes) ≡ NonNullable → count_slots vs ≡ 1
    → IsWell (node ty n enc.dict (slot codes (slot (node mty k enc.masked (slot c vs)) no_slots)))
    → KeepsExactly (node ty n enc.dict (slot codes (slot (node mty k enc.masked (slot c vs)) no_slots)))
    (node ty n enc.masked (slot (dict_of codes c) (map_slots (taken_of codes) vs)))
D2_keeps ty mty n k codes c vs never one w =
    let o = only_slot vs one in
    let before = λ (ss : Slots). node ty n enc.dict (slot codes (slot (node mty k enc.masked (slot c ss)) no_slots)) in
    let after = λ (ss : Slots). node ty n enc.masked (slot (dict_of codes c) ss) in
    let made : slots_of (option_map (taken_of codes) o.0 ∷ []) ≡ map_slots (taken_of codes) vs =
    slot_mapped (taken_of codes) o.0 ∙ ap (map_slots (taken_of codes)) (sym o.1) in
    subst (λ ss. KeepsExactly (before vs) (after ss)) made
    (subst (λ ss. KeepsExactly (before ss) (after (slots_of (option_map (taken_of codes) o.0 ∷ [])))) (sym o.1)
    (D2_by ty mty n k codes c o.0 never (subst (λ ss. IsWell (before ss)) o.1 w)))
