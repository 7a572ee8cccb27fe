-- A masked node: its parts, and which of its rows are null.
use Rattle.std.proofs.Common.{◌≢◌, get_or, arith, ◌≡◌, ℕ, List, [], ◌∷◌, length, map, Option, Some, None, refl, sym, ap, subst, ◌∙◌}
use Rattle.std.specs.Prelude.{Result, IfOk, option_map}
use Rattle.std.proofs.lemmas.Result.{IfOk-weaker}
use Rattle.std.specs.Cmp.{unsigned_Decides}
use Rattle.vx_value.specs.Types.{DataType, same_type_Decides}
use Rattle.vx_value.specs.Nullabilities.{with_nullability}
use Rattle.vx_value.specs.declared.error.VortexError.{VortexError}
use Rattle.vx_value.specs.declared.dtype.Nullability.TheVariants.{Nullable}
use Rattle.vx_tree.specs.Tree as enc
use Rattle.vx_tree.specs.Tree.{Tree, node, slot, slots_of, dtype, len, masked_of, mask_refusal, masked_refusal}
use Rattle.vx_tree.specs.Well.{shape, shape_of, shapes, IsValidity, IsNode, IsWell, AreWell, Shape}
use Rattle.vx_tree.specs.Cells.{rows, valid_cells, shown_cell}
use Rattle.vx_tree.specs.Keeps.{RowsKeep}
use Rattle.vx_tree.specs.Validities.{validity_of, HasRows, valid_rows}
use Rattle.vx_tree.specs.NodeValidities.{slot_tree, joined, if_nullable, node_validity, first_validity}
use Rattle.vx_tree.specs.declared.validity.Validity.{Validity}
use Rattle.vx_tree.proofs.KindsLemmas.{type_in, len_in}
use Rattle.vx_tree.proofs.SlotsLemmas.{two_slots, one_shape, first_shape}
use Rattle.vx_tree.proofs.CellsLemmas.{rows_counted}
use Rattle.vx_tree.proofs.ConditionsLemmas.{none_refused, first_none, second_none, unless_none, none_unless}
use Rattle.vx_tree.proofs.RefusalsLemmas.{validity_kept, validity_taken}
use Rattle.vx_tree.proofs.TellsLemmas.{slot_sized, slot_told, slot_clean, slot_nullable, Tells, FirstTells, first_tree}
use Rattle.vx_tree.proofs.ValiditiesLemmas.{nullable_set, told as slot_cells}
use Rattle.vx_tree.proofs.JoinedLemmas.{joined_sized, joined_nullable, joined_clean, joined_told}
use Rattle.vx_value.specs.declared.error.VortexError.TheVariants.{InvalidArgument}
use Rattle.vx_value.specs.declared.error.ArgKind.TheVariants.{SlotCount, SlotMissing}

-- ---- its parts, which aren't refused if they meet its conditions, and else are

pub kept : (ty : DataType) (n : ℕ) (ss : List (Option Shape)) → masked_refusal ty n ss ≡ None → IsNode ty n enc.masked ss
kept ty n [] h = absurd (cc)
kept ty n (c ∷ []) h = absurd (cc)
kept ty n (None ∷ v ∷ []) h = absurd (cc)
kept ty n (Some (shape s m) ∷ v ∷ []) h =
    let later = second_none _ _ h in
    let lengths = second_none _ _ later in
    let typed : ty ≡ with_nullability Nullable s = (same_type_Decides ty (with_nullability Nullable s)).0 (unless_none _ _ (first_none _ _ h)) in
    let counted : n ≡ m = (unsigned_Decides n m).0 (unless_none _ _ (first_none _ _ lengths)) in
    let valid = validity_kept 1 Nullable n v (first_none _ _ later) (second_none _ _ lengths) in
    (s, v, ap (λ z. Some (shape s z) ∷ v ∷ []) (sym counted), typed, valid)
kept ty n (c ∷ v ∷ r ∷ ss) h = absurd (cc)

pub taken : (ty : DataType) (n : ℕ) (ss : List (Option Shape)) → IsNode ty n enc.masked ss → masked_refusal ty n ss ≡ None
taken ty n ss h =
    let typed = none_unless _ _ ((same_type_Decides ty (with_nullability Nullable h.0)).1 h.3) in
    let counted = none_unless _ _ ((unsigned_Decides n n).1 refl) in
    let valid = validity_taken 1 Nullable n h.1 h.4 in
    let e : mask_refusal ty n (Some (shape h.0 n)) h.1 ≡ None = none_refused _ _ typed (none_refused _ _ valid.0 (none_refused _ _ counted valid.1)) in
    subst (λ l. masked_refusal ty n l ≡ None) (sym h.2) e

-- what is asked of the slots, as the code asks

pub masked_slot_count : (ty : DataType) (n : ℕ) (xs : List (Option Tree)) → length xs ≢ 2
    → masked_refusal ty n (shapes (slots_of xs)) ≡ Some (InvalidArgument SlotCount)
masked_slot_count ty n [] h = refl
masked_slot_count ty n (None ∷ []) h = refl
masked_slot_count ty n (Some t ∷ []) h = refl
masked_slot_count ty n (x ∷ y ∷ []) h = absurd (h refl)
masked_slot_count ty n (x ∷ y ∷ z ∷ xs) h =
    ap (masked_refusal ty n) (first_shape x (y ∷ z ∷ xs)
    ∙ ap (λ l. option_map shape_of x ∷ l) (first_shape y (z ∷ xs) ∙ ap (λ l. option_map shape_of y ∷ l) (first_shape z xs)))

pub masked_slot_missing : (ty : DataType) (n : ℕ) (xs : List (Option Tree)) (s : Option Tree) → length xs ≡ 2 → s ≡ get_or xs 0 s → s ≡ None
    → masked_refusal ty n (shapes (slots_of xs)) ≡ Some (InvalidArgument (SlotMissing 0))
masked_slot_missing ty n [] s h e k = absurd (omega arith)
masked_slot_missing ty n (x ∷ []) s h e k = absurd (omega arith)
masked_slot_missing ty n (x ∷ y ∷ []) s h e k =
    let none : x ≡ None = sym e ∙ k in
    ap (masked_refusal ty n) (first_shape x (y ∷ []) ∙ ap (λ l. option_map shape_of x ∷ l) (first_shape y [])
    ∙ ap (λ z. option_map shape_of z ∷ option_map shape_of y ∷ []) none)
masked_slot_missing ty n (x ∷ y ∷ z ∷ xs) s h e k = absurd (omega arith)

pub masked_by_slots : (ty : DataType) (n : ℕ) (ss : List (Option Shape)) (c : Tree) (v : Option Tree) → ss ≡ Some (shape_of c) ∷ option_map shape_of v ∷ []
    → masked_refusal ty n ss ≡ mask_refusal ty n (Some (shape_of c)) (option_map shape_of v)
masked_by_slots ty n ss c v h = ap (masked_refusal ty n) h

-- ---- which of its rows are null

masked_rows : (c : Tree) (w : Option Tree) → rows (masked_of c w) ≡ valid_cells (slot_cells w) (rows c)
masked_rows c None = refl
masked_rows c (Some t) = refl

pub masked_tells : (c : Tree) (w : Option Tree) (v : Validity) → IsWell c → IsValidity Nullable (len c) (option_map shape_of w)
    → AreWell (slots_of (w ∷ [])) → Tells c v
    → Tells (masked_of c w) (joined (len c) (validity_of Nullable w) v)
masked_tells c w v well h k t =
    let own = validity_of Nullable w in
    let long : length (rows c) ≡ len c = rows_counted c well in
    let sized : HasRows own (len c) = slot_sized w (len c) h k in
    let cells : valid_cells (valid_rows own (len c)) (rows c) ≡ rows (masked_of c w) =
    sym (masked_rows c w ∙ subst (λ n. valid_cells (slot_cells w) (rows c) ≡ valid_cells (valid_rows own n) (rows c)) long
    (slot_told w (rows c) (subst (λ n. IsValidity Nullable n (option_map shape_of w)) (sym long) h) k)) in
    let told : RowsKeep (map shown_cell (valid_cells (valid_rows own (len c)) (rows c))) (valid_rows (joined (len c) own v) (len c)) =
    subst (λ n. RowsKeep (map shown_cell (valid_cells (valid_rows own n) (rows c))) (valid_rows (joined n own v) n)) long
    (joined_told own v (rows c) (slot_nullable w) (subst (HasRows own) (sym long) sized) (subst (HasRows v) (sym long) t.sized)
    (subst (λ n. RowsKeep (map shown_cell (rows c)) (valid_rows v n)) (sym long) t.told)) in
    record {
      nullable = joined_nullable (len c) own v ∙ sym (nullable_set (dtype c));
      sized = joined_sized (len c) own v sized t.sized;
      told = subst (λ cs. RowsKeep (map shown_cell cs) (valid_rows (joined (len c) own v) (len c))) cells told;
      clean = λ d. joined_clean (len c) own v sized t.sized (slot_clean w d.1.1) (t.clean d.1.0);
    }

-- the second slot of a masked node is a validity
second_slot : (ty : DataType) (n : ℕ) (c : Tree) (w : Option Tree) → IsNode ty n enc.masked (shapes (slots_of (Some c ∷ w ∷ [])))
    → IsValidity Nullable n (option_map shape_of w)
second_slot ty n c w h =
    let lists : Some (shape h.0 n) ∷ h.1 ∷ [] ≡ Some (shape_of c) ∷ option_map shape_of w ∷ [] = sym h.2 ∙ ap (λ l. Some (shape_of c) ∷ l) (one_shape w) in
    let same : h.1 ≡ option_map shape_of w = cc in
    subst (IsValidity Nullable n) same h.4

pub masked_node : (ty : DataType) (n : ℕ) (xs : List (Option Tree)) → IsNode ty n enc.masked (shapes (slots_of xs)) → AreWell (slots_of xs)
    → FirstTells (slots_of xs)
    → Tells (node ty n enc.masked (slots_of xs)) (joined n (validity_of Nullable (slot_tree 1 (slots_of xs))) (first_validity (slots_of xs)))
masked_node ty n xs h k f =
    let o = two_slots xs h.0 n h.1 h.2 in
    let c = o.0 in
    let w = o.1 in
    let counted : len c ≡ n = ap len_in o.3 in
    let typed : with_nullability Nullable (dtype c) ≡ ty = ap (λ s. with_nullability Nullable (type_in s)) o.3 ∙ sym h.3 in
    let is : masked_of c w ≡ node ty n enc.masked (slots_of (Some c ∷ w ∷ [])) = λ i. node (typed i) (counted i) enc.masked (slots_of (Some c ∷ w ∷ [])) in
    let wells : IsWell c × AreWell (slots_of (w ∷ [])) = subst (λ ys. AreWell (slots_of ys)) o.2 k in
    let slot : IsValidity Nullable n (option_map shape_of w) = second_slot ty n c w (subst (λ ys. IsNode ty n enc.masked (shapes (slots_of ys))) o.2 h) in
    let first : Tells c (node_validity c) = subst (λ ys. FirstTells (slots_of ys)) o.2 f in
    let told = masked_tells c w (node_validity c) wells.0 (subst (λ m. IsValidity Nullable m (option_map shape_of w)) (sym counted) slot) wells.1 first in
    let made : joined (len c) (validity_of Nullable w) (node_validity c)
    ≡ joined n (validity_of Nullable (slot_tree 1 (slots_of (Some c ∷ w ∷ [])))) (node_validity c) =
    λ i. joined (counted i) (validity_of Nullable (sym (first_tree w) i)) (node_validity c) in
    subst (λ ys. Tells (node ty n enc.masked (slots_of ys)) (joined n (validity_of Nullable (slot_tree 1 (slots_of ys))) (first_validity (slots_of ys))))
    (sym o.2)
    (subst (Tells (node ty n enc.masked (slots_of (Some c ∷ w ∷ [])))) made
    (subst (λ t. Tells t (joined (len c) (validity_of Nullable w) (node_validity c))) is told))

pub own_rows : (v : Validity) (k : ℕ) (t c : Tree) (w : Option Tree) → v ≡ validity_of Nullable w → k ≡ len t → t ≡ masked_of c w → IsWell t → HasRows v k
own_rows v k t c w read counted shown well =
    let h : IsWell (masked_of c w) = subst IsWell shown well in
    let sized : HasRows (validity_of Nullable w) (len c) = slot_sized w (len c) (second_slot _ (len c) c w h.0) h.1.1 in
    subst (λ x. HasRows x k) (sym read) (subst (HasRows (validity_of Nullable w)) (sym (counted ∙ ap len shown)) sized)

-- the validity that is joined of the two is the node's
own_told : (t c : Tree) (w : Option Tree) (k : ℕ) (own v : Validity) → t ≡ masked_of c w → k ≡ len t
    → own ≡ validity_of Nullable w → v ≡ node_validity c → joined k own v ≡ node_validity t
own_told t c w k own v shown counted first second =
    (λ i. joined ((counted ∙ ap len shown) i) (first i) (second i))
    ∙ ap (λ x. joined (len c) (validity_of Nullable x) (node_validity c)) (sym (first_tree w))
    ∙ ap (λ m. if_nullable m (joined (len c) (validity_of Nullable (slot_tree 0 (slots_of (w ∷ [])))) (node_validity c))) (sym (nullable_set (dtype c)))
    ∙ sym (ap node_validity shown)

pub masked_told : (r : Result Validity VortexError) (t c : Tree) (w : Option Tree) (k : ℕ) (own v : Validity) → t ≡ masked_of c w → k ≡ len t
    → own ≡ validity_of Nullable w → v ≡ node_validity c → IfOk r (λ x. x ≡ joined k own v) → IfOk r (λ x. x ≡ node_validity t)
masked_told r t c w k own v shown counted first second h =
    let told : joined k own v ≡ node_validity t = own_told t c w k own v shown counted first second in
    IfOk-weaker r (λ x. x ≡ joined k own v) (λ x. x ≡ node_validity t) (λ x g. g ∙ told) h
