-- Validities: their slot, and the rows of a range.
use Rattle.std.proofs.Common.{◌≡◌, ◌≤◌, ℕ, zero, suc, ◌-◌, List, [], ◌∷◌, length, take, drop, map, replicate, slice_range, true, false}
use Rattle.std.proofs.Common.{Option}
use Rattle.std.proofs.Common.{Some}
use Rattle.std.proofs.Common.{None}
use Rattle.std.proofs.Common.{refl}
use Rattle.vx_value.specs.Storage.{is_nested}
use Rattle.vx_value.specs.Supported.{has_columns}
use Rattle.vx_value.proofs.NullabilitiesLemmas.{nested_kept}
use Rattle.std.proofs.Common.{sym}
use Rattle.std.proofs.Common.{ap}
use Rattle.std.proofs.Common.{subst}
use Rattle.std.proofs.Common.{◌∙◌}
use Rattle.std.proofs.Common.{arith}
use Rattle.std.proofs.Common.{length-drop}
use Rattle.std.specs.Prelude.{option_map}
use Rattle.std.proofs.lemmas.List.{length-map, length-take-le, take-replicate, drop-replicate}
use Rattle.std.specs.Cmp.{unsigned_Decides}
use Rattle.vx_value.specs.Types as type
use Rattle.vx_value.specs.Types.{DataType, nullability_of, same_type_Decides}
use Rattle.vx_value.specs.Nullabilities.{with_nullability}
use Rattle.vx_value.specs.Values.{Value, boolean}
use Rattle.vx_value.specs.Typed.{Typed}
use Rattle.vx_value.specs.Cell.{Cell, value, fault}
use Rattle.vx_value.specs.declared.dtype.Nullability.{Nullability}
use Rattle.vx_value.specs.declared.dtype.Nullability.TheVariants.{NonNullable, Nullable}
use Rattle.vx_tree.specs.Tree as enc
use Rattle.vx_tree.specs.Tree.{Tree, Data, node, slots_of, dtype, len, datum, column, constant_of, slice_of, types_in}
use Rattle.vx_tree.specs.Well.{Shape, shape, shape_of, shapes, IsWell, AreWell, IsValidity, IsFlat, IsNode}
use Rattle.vx_tree.specs.Cells.{rows, slots_rows, node_cells, cells_at, valid_cell, valid_cells, HasNoFault, IsClean, AreClean}
use Rattle.vx_tree.specs.Keeps.{KeepsExactly}
use Rattle.vx_tree.specs.Validities.{nullability_by, without_nulls, child_of, validity_of, of_truth, of_data, valid_rows, array_refusal, flat_refusal, HasRows, IsValidityPart, HasRange}
use Rattle.vx_tree.specs.declared.validity.Validity.{Validity}
use Rattle.vx_tree.specs.declared.validity.Validity.TheVariants as validity
use Rattle.vx_tree.proofs.CellsLemmas.{rows_counted}
use Rattle.vx_tree.proofs.ConditionsLemmas.{first_none, second_none, unless_none, none_refused, none_unless}
use Rattle.vx_tree.proofs.KindsLemmas.{type_in, len_in}
use Rattle.vx_tree.proofs.KeepsLemmas.{column_exactly, rows_equal}
use Rattle.vx_tree.proofs.NativesLemmas.{map_part}
use Rattle.vx_tree.proofs.SlotsLemmas.{one_shape}

-- a validity without nulls has no tree, and the nullability that it was made for
pub no_child : (m : Nullability) (n : ℕ) → child_of (without_nulls m) n ≡ None
no_child NonNullable n = refl
no_child Nullable n = refl

pub same_nullability : (m : Nullability) → nullability_by (without_nulls m) ≡ m
same_nullability NonNullable = refl
same_nullability Nullable = refl

-- ---- the conditions of a column

set_again : (m : Nullability) (s : DataType) → with_nullability (nullability_of (with_nullability m s)) s ≡ with_nullability m s
set_again m type.null = refl
set_again m (type.extension id t) = ap (type.extension id) (set_again m t)
set_again m _ = refl

pub nullable_set : (s : DataType) → nullability_of (with_nullability Nullable s) ≡ Nullable
nullable_set type.null = refl
nullable_set (type.extension id t) = nullable_set t
nullable_set _ = refl

nullable_validity : (m : Nullability) (n : ℕ) (t : Tree) → m ≡ Nullable → dtype t ≡ type.bool NonNullable → len t ≡ n → IsValidity m n (Some (shape_of t))
nullable_validity m n t e typed counted =
    subst (λ k. IsValidity k n (Some (shape_of t))) (sym e) (λ i. shape (typed i) (counted i))

-- of a tree that isn't refused
validity_kept : (of_type ty : DataType) (n : ℕ) (v : Validity) → ty ≡ with_nullability (nullability_by v) of_type → array_refusal n v ≡ None
    → IsValidity (nullability_of ty) n (option_map shape_of (child_of v n))
validity_kept of_type ty n validity.NonNullable typed h = tt
validity_kept of_type ty n validity.AllValid typed h = tt
validity_kept of_type ty n validity.AllInvalid typed h =
    nullable_validity (nullability_of ty) n (constant_of (record { of_type = type.bool NonNullable; value = boolean false }) n)
    (ap nullability_of typed ∙ nullable_set of_type) refl refl
validity_kept of_type ty n (validity.Array t) typed h =
    let booleans : dtype t ≡ type.bool NonNullable = (same_type_Decides (dtype t) (type.bool NonNullable)).0 (unless_none _ _ (first_none _ _ h)) in
    let counted : len t ≡ n = (unsigned_Decides (len t) n).0 (unless_none _ _ (second_none _ _ h)) in
    nullable_validity (nullability_of ty) n t (ap nullability_of typed ∙ nullable_set of_type) booleans counted

-- a column's type is nested only if that of its values is
pub flat_unnested : (of_type ty : DataType) (n : ℕ) (v : Validity) → flat_refusal of_type ty n v ≡ None → is_nested of_type ≡ false → is_nested ty ≡ false
flat_unnested of_type ty n v h unnested =
    ap is_nested ((same_type_Decides ty (with_nullability (nullability_by v) of_type)).0 (unless_none _ _ (first_none _ _ h)))
    ∙ nested_kept (nullability_by v) of_type ∙ unnested

-- the parts of a column with a validity meet its conditions
pub flat_made : (of_type ty : DataType) (n : ℕ) (v : Validity) (child : Option Tree) (xs : List (Option Tree)) →
    flat_refusal of_type ty n v ≡ None → child ≡ child_of v n → xs ≡ child ∷ [] → IsFlat of_type n ty n (shapes (slots_of xs))
flat_made of_type ty n v child xs h made only =
    let typed : ty ≡ with_nullability (nullability_by v) of_type =
    (same_type_Decides ty (with_nullability (nullability_by v) of_type)).0 (unless_none _ _ (first_none _ _ h)) in
    let kept : ty ≡ with_nullability (nullability_of ty) of_type =
    typed ∙ sym (set_again (nullability_by v) of_type) ∙ sym (ap (λ u. with_nullability (nullability_of u) of_type) typed) in
    let slot : shapes (slots_of xs) ≡ option_map shape_of (child_of v n) ∷ [] =
    ap (λ l. shapes (slots_of l)) (only ∙ ap (λ c. c ∷ []) made) ∙ one_shape (child_of v n) in
    (option_map shape_of (child_of v n), kept, refl, slot, validity_kept of_type ty n v typed (second_none _ _ h))

-- ---- the rows of a range

valid_drop : (k : ℕ) (vs cs : List Cell) → length vs ≡ length cs → drop k (valid_cells vs cs) ≡ valid_cells (drop k vs) (drop k cs)
valid_drop zero vs cs h = refl
valid_drop (suc k) [] cs h = refl
valid_drop (suc k) (v ∷ vs) [] h = absurd (omega arith)
valid_drop (suc k) (v ∷ vs) (c ∷ cs) h = valid_drop k vs cs (omega arith)

valid_take : (k : ℕ) (vs cs : List Cell) → length vs ≡ length cs → take k (valid_cells vs cs) ≡ valid_cells (take k vs) (take k cs)
valid_take zero vs cs h = refl
valid_take (suc k) [] cs h = refl
valid_take (suc k) (v ∷ vs) [] h = absurd (omega arith)
valid_take (suc k) (v ∷ vs) (c ∷ cs) h = ap (λ l. valid_cell v c ∷ l) (valid_take k vs cs (omega arith))

-- a column's validity is as long
flat_long : (of_type ty : DataType) (k n : ℕ) (t : Tree) → IsFlat of_type k ty n (shapes (slots_of (Some t ∷ []))) → len t ≡ n
flat_long of_type ty k n t h = by_nullability (nullability_of ty) h.0 (sym h.3) h.4
  where
    by_nullability : (m : Nullability) (s : Option Shape) → s ∷ [] ≡ Some (shape_of t) ∷ [] → IsValidity m n s → len t ≡ n
    by_nullability m None e h = absurd (cc)
    by_nullability NonNullable (Some s) e h = absurd h
    by_nullability Nullable (Some s) e h = let same : s ≡ shape_of t = cc in ap len_in (sym same ∙ h)

valid_part : (a b : ℕ) (vs cs : List Cell) → length vs ≡ length cs → slice_range (valid_cells vs cs) a b ≡ valid_cells (slice_range vs a b) (slice_range cs a b)
valid_part a b vs cs h =
    ap (take (b - a)) (valid_drop a vs cs h) ∙ valid_take (b - a) (drop a vs) (drop a cs) (length-drop a vs ∙ ap (λ n. n - a) h ∙ sym (length-drop a cs))

whole_drop : (k : ℕ) (cs : List Cell) → HasNoFault cs → HasNoFault (drop k cs)
whole_drop zero cs h = h
whole_drop (suc k) [] h = h
whole_drop (suc k) (value v ∷ cs) h = whole_drop k cs h
whole_drop (suc k) (fault ∷ cs) h = absurd h

whole_take : (k : ℕ) (cs : List Cell) → HasNoFault cs → HasNoFault (take k cs)
whole_take zero cs h = tt
whole_take (suc k) [] h = h
whole_take (suc k) (value v ∷ cs) h = whole_take k cs h
whole_take (suc k) (fault ∷ cs) h = absurd h

pub whole : (t : Tree) → IsClean t → HasNoFault (rows t)
whole (node ty n d ss) h = h.0

-- a clean tree's range is clean
pub part_clean : (a b : ℕ) (t : Tree) → IsClean t → IsClean (slice_of a b t)
part_clean a b t h = (whole_take (b - a) (drop a (rows t)) (whole_drop a (rows t) (whole t h)), (h, tt))

-- the cells of a validity's slot
abbrev pub told : Option Tree → List Cell
told None = []
told (Some t) = rows t

-- as many as n, if there is one
abbrev IsTold : ℕ → Option Tree → Type 0
IsTold n None = Unit {0}
IsTold n (Some t) = length (rows t) ≡ n

pub told_rows : (v : Option Tree) → slots_rows (slots_of (v ∷ [])) ≡ told v ∷ []
told_rows None = refl
told_rows (Some t) = refl

-- a range of a constant is a shorter constant
pub constant_part : (v : Typed) (n a b : ℕ) → a ≤ b → b ≤ n → KeepsExactly (slice_of a b (constant_of v n)) (constant_of v (b - a))
constant_part v n a b h k =
    let dropped = ap (take (b - a)) (drop-replicate a n (value v.value)) in
    column_exactly (slice_of a b (constant_of v n)) (constant_of v (b - a)) refl refl
    (dropped ∙ take-replicate (b - a) (n - a) (value v.value) (omega arith)) (copies (b - a), tt)
  where
    copies : (m : ℕ) → HasNoFault (replicate m (value v.value))
    copies zero = tt
    copies (suc m) = copies m

module _ (a b : ℕ) where
  -- the range of a validity is one of the range
  part_told : (n : ℕ) (v w : Option Tree) (cs : List Cell) → IsValidityPart a b v w → length cs ≡ n → IsTold n v
      → slice_range (valid_cells (told v) cs) a b ≡ valid_cells (told w) (slice_range cs a b)
  part_told n None w cs h e k = ap (λ x. valid_cells (told x) (slice_range cs a b)) (sym h)
  part_told n (Some t) w cs h e k =
      valid_part a b (rows t) cs (k ∙ sym e) ∙ ap (λ vs. valid_cells vs (slice_range cs a b)) (h.2.equal ∙ ap told (sym h.1))

  part_slots_clean : (v w : Option Tree) → IsValidityPart a b v w → AreClean (slots_of (v ∷ [])) → AreClean (slots_of (w ∷ []))
  part_slots_clean None w h c = subst (λ x. AreClean (slots_of (x ∷ []))) (sym h) tt
  part_slots_clean (Some t) w h c =
      subst (λ x. AreClean (slots_of (x ∷ []))) (sym h.1) (h.2.keeps.still_clean (part_clean a b t c.0), tt)

  again : (m : Nullability) (n k : ℕ) (s : Shape) (u : Tree) → IsValidity m n (Some s) → shape_of u ≡ shape (type.bool NonNullable) k
      → IsValidity m k (Some (shape_of u))
  again NonNullable n k s u h e = h
  again Nullable n k s u h e = e

  typed_part : (m : Nullability) (n : ℕ) (s : Shape) (t : Tree) → s ≡ shape_of t → IsValidity m n (Some s) → dtype t ≡ type.bool NonNullable
  typed_part NonNullable n s t e h = absurd h
  typed_part Nullable n s t e h = ap type_in (sym e ∙ h)

  -- it meets the conditions of a column of the range's rows
  pub part_flat : (of_type ty : DataType) (k n : ℕ) (v w : Option Tree) (xs : List (Option Tree)) → IsFlat of_type k ty n (shapes (slots_of (v ∷ [])))
      → IsValidityPart a b v w → xs ≡ w ∷ [] → IsFlat of_type (b - a) ty (b - a) (shapes (slots_of xs))
  part_flat of_type ty k n v w xs h part only =
      let slot : shapes (slots_of xs) ≡ option_map shape_of w ∷ [] = ap (λ l. shapes (slots_of l)) only ∙ one_shape w in
      (option_map shape_of w, h.1, refl, slot, by_tree v part (subst (IsValidity (nullability_of ty) n) (first_one h.0 v (sym h.3 ∙ one_shape v)) h.4))
    where
      first_one : (s : Option Shape) (v : Option Tree) → s ∷ [] ≡ option_map shape_of v ∷ [] → s ≡ option_map shape_of v
      first_one s v e = cc

      by_tree : (v : Option Tree) → IsValidityPart a b v w → IsValidity (nullability_of ty) n (option_map shape_of v)
          → IsValidity (nullability_of ty) (b - a) (option_map shape_of w)
      by_tree None h e = subst (λ x. IsValidity (nullability_of ty) (b - a) (option_map shape_of x)) (sym h) tt
      by_tree (Some t) h e =
          let typed : dtype h.0 ≡ type.bool NonNullable = sym h.2.keeps.same_type ∙ typed_part (nullability_of ty) n (shape_of t) t refl e in
          let counted : len h.0 ≡ b - a = sym h.2.keeps.same_len in
          subst (λ x. IsValidity (nullability_of ty) (b - a) (option_map shape_of x)) (sym h.1)
          (again (nullability_of ty) n (b - a) (shape_of t) h.0 e (λ i. shape (typed i) (counted i)))

  -- the rows of a column, whose values are those that items are read as, in the range
  pub part_exactly : {X : Type 0} (ty : DataType) (read : X → Value) (of_items : List X → Data) →
      ((n : ℕ) (xs : List X) (tys : List DataType) (css : List (List Cell)) → node_cells ty n (of_items xs) tys css ≡ valid_cells (cells_at css 0) (map (λ x. value (read x)) xs)) →
      (xs ys : List X) (v w : Option Tree) (t : Tree) → t ≡ column ty (length xs) (of_items xs) v → IsTold (length xs) v → b ≤ length xs →
      ys ≡ slice_range xs a b → IsValidityPart a b v w → KeepsExactly (slice_of a b t) (column ty (length ys) (of_items ys) w)
  part_exactly ty read of_items cells xs ys v w t is counted within range part =
      let of = λ (zs : List _) (u : Option Tree). column ty (length zs) (of_items zs) u in
      let shown : rows (slice_of a b (of xs v)) ≡ rows (of ys w) =
      ap (λ cs. slice_range (node_cells ty (length xs) (of_items xs) (types_in (shapes (slots_of (v ∷ [])))) cs) a b) (told_rows v)
      ∙ ap (λ cs. slice_range cs a b) (cells (length xs) xs _ (told v ∷ []))
      ∙ part_told (length xs) v w (map (λ x. value (read x)) xs) part (length-map-read xs) counted
      ∙ ap (valid_cells (told w)) (map_part (λ x. value (read x)) xs a b ∙ ap (map (λ x. value (read x))) (sym range))
      ∙ sym (cells (length ys) ys _ (told w ∷ [])) ∙ sym (ap (node_cells ty (length ys) (of_items ys) (types_in (shapes (slots_of (w ∷ []))))) (told_rows w)) in
      let counted_part : b - a ≡ length ys = sym (ap length range ∙ length-take-le (b - a) (drop a xs) (omega (arith, length-drop a xs))) in
      subst (λ x. KeepsExactly (slice_of a b x) (of ys w)) (sym is)
      (record {
        keeps = record {
          same_type = refl;
          same_len = counted_part;
          same_rows = rows_equal _ _ shown;
          still_clean = λ c. (subst HasNoFault shown c.0, part_slots_clean v w part c.1.0.1);
        };
        equal = shown;
      })
    where
      length-map-read : (xs : List _) → length (map (λ x. value (read x)) xs) ≡ length xs
      length-map-read xs = length-map xs (λ x. value (read x))

-- a range of a column's rows is one of its validity's
pub flat_range : (of_type ty : DataType) (k n a b : ℕ) (v : Option Tree) → IsFlat of_type k ty n (shapes (slots_of (v ∷ []))) → a ≤ b → b ≤ n → HasRange a b v
flat_range of_type ty k n a b None h p q = tt
flat_range of_type ty k n a b (Some t) h p q = (p, subst (λ m. b ≤ m) (sym (flat_long of_type ty k n t h)) q)

-- the cells of its validity are as many as its rows
pub told_counted : (of_type ty : DataType) (k n : ℕ) (v : Option Tree) → IsFlat of_type k ty n (shapes (slots_of (v ∷ []))) → AreWell (slots_of (v ∷ []))
    → IsTold n v
told_counted of_type ty k n None h w = tt
told_counted of_type ty k n (Some t) h w = rows_counted t w.0 ∙ flat_long of_type ty k n t h

-- a column of values of one type, each read from an item, and a range of it
module _ {X : Type 0} (of_type : DataType) (read : X → Value) (of_items : List X → Data)
    (a b : ℕ) (xs ys : List X) (v : Option Tree) (t : Tree)
    (cells : (n : ℕ) (xs : List X) (tys : List DataType) (css : List (List Cell))
    → node_cells (dtype t) n (of_items xs) tys css ≡ valid_cells (cells_at css 0) (map (λ x. value (read x)) xs))
    (shown : t ≡ column (dtype t) (len t) (of_items xs) v) (well : IsWell t)
    (within : b ≤ len t) (range : ys ≡ slice_range xs a b)
    (flat : (ss : List (Option Shape)) → IsNode (dtype t) (len t) (of_items xs) ss → IsFlat of_type (length xs) (dtype t) (len t) ss)
    (node_of : (ty : DataType) (n : ℕ) (ss : List (Option Shape)) → IsFlat of_type (length ys) ty n ss → IsNode ty n (of_items ys) ss) where
  is_flat : IsFlat of_type (length xs) (dtype t) (len t) (shapes (slots_of (v ∷ [])))
  is_flat = flat (shapes (slots_of (v ∷ []))) (subst IsWell shown well).0

  counted : b - a ≡ length ys
  counted = sym (ap length range ∙ length-take-le (b - a) (drop a xs) (omega (arith, length-drop a xs, is_flat.2)))

  part_node : (w : Option Tree) → IsValidityPart a b v w → IsNode (dtype t) (b - a) (of_items ys) (shapes (slots_of (w ∷ [])))
  part_node w part =
      let flat = part_flat a b of_type (dtype t) (length xs) (len t) v w (w ∷ []) is_flat part refl in
      node_of (dtype t) (b - a) (shapes (slots_of (w ∷ []))) (subst (λ k. IsFlat of_type k (dtype t) (b - a) (shapes (slots_of (w ∷ [])))) counted flat)

  part_kept : (u : Tree) → (w : Option Tree) × IsValidityPart a b v w × (u ≡ column (dtype t) (b - a) (of_items ys) w) → KeepsExactly (slice_of a b t) u
  part_kept u h =
      let whole_is : t ≡ column (dtype t) (length xs) (of_items xs) v = shown ∙ ap (λ n. column (dtype t) n (of_items xs) v) is_flat.2 in
      let part_is : column (dtype t) (length ys) (of_items ys) h.0 ≡ u = sym (h.2 ∙ ap (λ n. column (dtype t) n (of_items ys) h.0) counted) in
      let told_there = subst (λ n. IsTold n v) is_flat.2 (told_counted of_type (dtype t) (length xs) (len t) v is_flat (subst IsWell shown well).1) in
      subst (KeepsExactly (slice_of a b t)) part_is
      (part_exactly a b (dtype t) read of_items cells xs ys v h.0 t whole_is told_there (subst (λ n. b ≤ n) is_flat.2 within) range h.1)

  pub flat_part : (w : Option Tree) → IsValidityPart a b v w
      → IsNode (dtype t) (b - a) (of_items ys) (shapes (slots_of (w ∷ []))) × KeepsExactly (slice_of a b t) (column (dtype t) (b - a) (of_items ys) w)
  flat_part w part = (part_node w part, part_kept (column (dtype t) (b - a) (of_items ys) w) (w, part, refl))

-- ---- what a validity says is read back from its child

constant_rows : (v : Typed) (t : Tree) → IsWell t → datum t ≡ enc.constant v → rows t ≡ replicate (len t) (value v.value)
constant_rows v (node ty n d ss) w e = ap (λ x. node_cells ty n x (types_in (shapes ss)) (slots_rows ss)) e

pub told_back : (v : Validity) (n : ℕ) → HasRows v n → valid_rows (validity_of (nullability_by v) (child_of v n)) n ≡ valid_rows v n
told_back validity.NonNullable n h = refl
told_back validity.AllValid n h = refl
told_back validity.AllInvalid n h = refl
told_back (validity.Array t) n h = by_data (datum t) refl
  where
    by_value : (s : Typed) (x : Value) → datum t ≡ enc.constant s → s.value ≡ x → valid_rows (of_truth x t) n ≡ rows t
    by_value s (boolean true) e k = ap (λ m. replicate m (value (boolean true))) (sym h.2)
        ∙ sym (constant_rows s t h.0 e ∙ ap (λ y. replicate (len t) (value y)) k)
    by_value s (boolean false) e k = ap (λ m. replicate m (value (boolean false))) (sym h.2)
        ∙ sym (constant_rows s t h.0 e ∙ ap (λ y. replicate (len t) (value y)) k)
    by_value s _ e k = refl

    by_data : (d : Data) → datum t ≡ d → valid_rows (of_data d t) n ≡ rows t
    by_data (enc.constant s) e = by_value s s.value e refl
    by_data _ e = refl

-- ---- a masked node

masked_validity : (v : Validity) (n : ℕ) → HasRows v n → IsValidity Nullable n (option_map shape_of (child_of v n))
masked_validity validity.NonNullable n h = tt
masked_validity validity.AllValid n h = tt
masked_validity validity.AllInvalid n h = refl
masked_validity (validity.Array t) n h = λ i. shape (h.1 i) (h.2 i)

pub masked_is_node : (t : Tree) (v : Validity) → HasRows v (len t)
    → IsNode (with_nullability Nullable (dtype t)) (len t) enc.masked (shapes (slots_of (Some t ∷ child_of v (len t) ∷ [])))
masked_is_node t v h =
    let w = child_of v (len t) in
    (dtype t, option_map shape_of w, ap (λ l. Some (shape_of t) ∷ l) (one_shape w), refl, masked_validity v (len t) h)

-- a validity of as many rows isn't refused
pub tree_allowed : (t : Tree) (n : ℕ) → dtype t ≡ type.bool NonNullable → len t ≡ n → array_refusal n (validity.Array t) ≡ None
tree_allowed t n typed counted = none_refused _ _ (none_unless _ _ ((same_type_Decides _ _).1 typed)) (none_unless _ _ ((unsigned_Decides _ _).1 counted))

pub rows_allowed : (n : ℕ) (v : Validity) → HasRows v n → array_refusal n v ≡ None
rows_allowed n (validity.Array t) h = tree_allowed t n h.1 h.2
rows_allowed n _ h = refl

-- there are columns of the type of a constant's value
pub constant_supported : (t : Tree) (v : Typed) (n : ℕ) → t ≡ constant_of v n → has_columns (dtype t) ≡ true → has_columns v.of_type ≡ true
constant_supported t v n shown h = subst (λ u. has_columns (dtype u) ≡ true) shown h
