-- A validity that tells which rows of a tree are null.
use Rattle.std.proofs.Common.{◌≡◌, ℕ, zero, suc, ◌-◌, ◌≤◌, List, [], ◌∷◌, length, map, replicate, take, drop, slice_get, Bool, true, false, Option, Some, None, refl, sym, ap, subst, ◌∙◌, arith}
use Rattle.std.specs.Prelude.{option_map, not}
use Rattle.std.proofs.lemmas.List.{take-replicate, drop-replicate}
use Rattle.vx_value.specs.Types.{DataType, nullability_of, is_nullable}
use Rattle.vx_value.specs.IsOf.{is_null}
use Rattle.vx_value.specs.Values.{Value, null, boolean}
use Rattle.vx_value.specs.Typed.{Typed}
use Rattle.vx_value.specs.Cell.{Cell, value, fault}
use Rattle.vx_value.specs.declared.dtype.Nullability.TheVariants.{NonNullable, Nullable}
use Rattle.vx_mask.specs.Places.{chosen}
use Rattle.vx_tree.proofs.NativesLemmas.{map_copies}
use Rattle.vx_tree.specs.Tree as enc
use Rattle.vx_tree.specs.Tree.{Tree, Data, Slots, slot, slots_of, dtype, len, datum, column, constant_of}
use Rattle.vx_tree.specs.Well.{shape_of, IsValidity, IsWell, AreWell}
use Rattle.vx_tree.specs.Cells.{rows, valid_cells, shown_cell, HasNoFault, IsClean, AreClean}
use Rattle.vx_tree.specs.Keeps.{CellKeeps, RowsKeep}
use Rattle.vx_tree.specs.Validities.{nullability_by, validity_of, of_truth, of_data, valid_rows, HasRows}
use Rattle.vx_tree.specs.NodeValidities.{slot_tree, node_validity, constant_validity, on_array, IsCleanValidity, IsValidityFor}
use Rattle.vx_tree.specs.declared.validity.Validity.{Validity}
use Rattle.vx_tree.specs.declared.validity.Validity.TheVariants as validity
use Rattle.vx_tree.proofs.CellsLemmas.{rows_counted}
use Rattle.vx_tree.proofs.KindsLemmas.{type_in, len_in}
use Rattle.vx_tree.proofs.KeepsLemmas.{rows_equal}
use Rattle.vx_tree.proofs.TypedLemmas.{CellFits, AllFit, rows_fit}
use Rattle.vx_tree.proofs.ValiditiesLemmas.{told as slot_cells, told_back}
use Rattle.vx_tree.proofs.JoinedLemmas.{own_told, all_valid, cells_sized}

-- ---- the validity that a slot tells

-- what a tree is read back as
read_back : (P : Validity → Type 0) (t : Tree) → P validity.AllValid → P validity.AllInvalid → P (validity.Array t) → P (of_data (datum t) t)
read_back P t valid invalid array = by_data (datum t)
  where
    by_value : (v : Value) → P (of_truth v t)
    by_value (boolean true) = valid
    by_value (boolean false) = invalid
    by_value _ = array

    by_data : (d : Data) → P (of_data d t)
    by_data (enc.constant v) = by_value v.value
    by_data _ = array

pub slot_sized : (w : Option Tree) (n : ℕ) → IsValidity Nullable n (option_map shape_of w) → AreWell (slots_of (w ∷ [])) → HasRows (validity_of Nullable w) n
slot_sized None n h k = tt
slot_sized (Some t) n h k = read_back (λ v. HasRows v n) t tt tt (k.0, ap type_in h, ap len_in h)

pub slot_nullable : (w : Option Tree) → nullability_by (validity_of Nullable w) ≡ Nullable
slot_nullable None = refl
slot_nullable (Some t) = read_back (λ v. nullability_by v ≡ Nullable) t refl refl refl

pub slot_clean : (w : Option Tree) → AreClean (slots_of (w ∷ [])) → IsCleanValidity (validity_of Nullable w)
slot_clean None h = tt
slot_clean (Some t) h = read_back IsCleanValidity t tt tt h.0

pub slot_told : (w : Option Tree) (cs : List Cell) → IsValidity Nullable (length cs) (option_map shape_of w) → AreWell (slots_of (w ∷ []))
    → valid_cells (slot_cells w) cs ≡ valid_cells (valid_rows (validity_of Nullable w) (length cs)) cs
slot_told None cs h k = sym (all_valid (length cs) cs refl)
slot_told (Some t) cs h k =
    ap (λ vs. valid_cells vs cs) (sym (told_back (validity.Array t) (length cs) (k.0, ap type_in h, ap len_in h)))

-- ---- a validity that tells which rows of a tree are null

pub record Tells (t : Tree) (v : Validity) : Type 0 where
  pub nullable : nullability_by v ≡ nullability_of (dtype t)
  pub sized : HasRows v (len t)
  pub told : RowsKeep (map shown_cell (rows t)) (valid_rows v (len t))
  pub clean : IsClean t → IsCleanValidity v

pub shown_value : (w : Value) → shown_cell (value w) ≡ value (boolean (not (is_null w)))
shown_value null = refl
shown_value _ = refl

row_told : (cs vs : List Cell) (i : ℕ) (w : Value) → RowsKeep (map shown_cell cs) vs → slice_get cs i ≡ Some (value w)
    → slice_get vs i ≡ Some (value (boolean (not (is_null w))))
row_told [] vs i w h e = absurd (cc)
row_told (c ∷ cs) [] i w h e = absurd h
row_told (c ∷ cs) (v ∷ vs) zero w h e =
    let is : c ≡ value w = cc in
    let there : CellKeeps (value (boolean (not (is_null w)))) v = subst (λ x. CellKeeps x v) (ap shown_cell is ∙ shown_value w) h.0 in
    ap Some there
row_told (c ∷ cs) (v ∷ vs) (suc i) w h e = row_told cs vs i w h.1 e

pub is_for : (t : Tree) (v : Validity) → Tells t v → IsValidityFor t v
is_for t v h =
    record {
      nullable = h.nullable;
      sized = h.sized;
      told = λ i w e. row_told (rows t) (valid_rows v (len t)) i w h.told e;
      clean = h.clean;
    }

-- ---- a tree of a non-nullable type

shown_valid : (w : Value) → is_null w ≡ false → CellKeeps (shown_cell (value w)) (value (boolean true))
shown_valid null e = absurd (cc)
shown_valid _ e = refl

fits_valid : (ty : DataType) (w : Value) → nullability_of ty ≡ NonNullable → CellFits ty (value w) → is_null w ≡ false
fits_valid ty null e h = let no : is_nullable (nullability_of ty) ≡ false = ap is_nullable e in absurd (cc (no, h))
fits_valid ty _ e h = refl

never_null : (ty : DataType) (cs : List Cell) → nullability_of ty ≡ NonNullable → AllFit ty cs
    → RowsKeep (map shown_cell cs) (replicate (length cs) (value (boolean true)))
never_null ty [] e h = tt
never_null ty (value w ∷ cs) e h = (shown_valid w (fits_valid ty w e h.0), never_null ty cs e h.1)
never_null ty (fault ∷ cs) e h = (tt, never_null ty cs e h.1)

pub non_nullable : (t : Tree) → IsWell t → nullability_of (dtype t) ≡ NonNullable → Tells t validity.NonNullable
non_nullable t w e =
    record {
      nullable = sym e;
      sized = tt;
      told =
          subst (λ n. RowsKeep (map shown_cell (rows t)) (replicate n (value (boolean true)))) (rows_counted t w)
          (never_null (dtype t) (rows t) e (rows_fit t w));
      clean = λ h. tt;
    }

-- ---- a constant

pub constant_tells : (v : Typed) (n : ℕ) → nullability_of v.of_type ≡ Nullable → Tells (constant_of v n) (constant_validity v.value)
constant_tells v n e = by_value v.value refl
  where
    copies : (x : Value) → v.value ≡ x → map shown_cell (replicate n (value v.value)) ≡ replicate n (shown_cell (value x))
    copies x e = map_copies shown_cell n (value v.value) ∙ ap (λ y. replicate n (shown_cell (value y))) e

    by_value : (x : Value) → v.value ≡ x → Tells (constant_of v n) (constant_validity x)
    by_value null is = record { nullable = sym e; sized = tt; told = rows_equal _ _ (copies null is); clean = λ h. tt }
    by_value (boolean b) is = record { nullable = sym e; sized = tt; told = rows_equal _ _ (copies (boolean b) is); clean = λ h. tt }
    by_value x is = record { nullable = sym e; sized = tt; told = rows_equal _ _ (copies x is); clean = λ h. tt }

-- ---- chosen rows

pub chosen_nullable : (f : Tree → Tree) (v : Validity) → nullability_by (on_array f v) ≡ nullability_by v
chosen_nullable f validity.NonNullable = refl
chosen_nullable f _ = refl

pub part_copies : (c : Cell) (a b m : ℕ) → a ≤ b → b ≤ m → replicate (b - a) c ≡ take (b - a) (drop a (replicate m c))
part_copies c a b m h k = sym (ap (take (b - a)) (drop-replicate a m c) ∙ take-replicate (b - a) (m - a) c (omega arith))

pub chosen_clean : (bits : List Bool) (cs : List Cell) → HasNoFault cs → HasNoFault (chosen bits cs)
unfolding chosen
chosen_clean [] cs h = tt
chosen_clean (b ∷ bits) [] h = tt
chosen_clean (b ∷ bits) (fault ∷ cs) h = absurd h
chosen_clean (true ∷ bits) (value v ∷ cs) h = chosen_clean bits cs h
chosen_clean (false ∷ bits) (value v ∷ cs) h = chosen_clean bits cs h

-- ---- a column

pub stored_valid : {X : Type 0} (read : X → Value) → ((x : X) → is_null (read x) ≡ false) → (xs : List X)
    → RowsKeep (map shown_cell (map (λ x. value (read x)) xs)) (replicate (length (map (λ x. value (read x)) xs)) (value (boolean true)))
stored_valid read h [] = tt
stored_valid read h (x ∷ xs) = (shown_valid (read x) (h x), stored_valid read h xs)

pub column_tells : (ty : DataType) (n : ℕ) (d : Data) (w : Option Tree) (stored : List Cell) → rows (column ty n d w) ≡ valid_cells (slot_cells w) stored
    → length stored ≡ n
    → RowsKeep (map shown_cell stored) (replicate (length stored) (value (boolean true))) → nullability_of ty ≡ Nullable
    → IsValidity Nullable n (option_map shape_of w)
    → AreWell (slots_of (w ∷ [])) → Tells (column ty n d w) (validity_of Nullable w)
column_tells ty n d w stored cells long valid e h k =
    let own = validity_of Nullable w in
    let sized : HasRows own (length stored) = slot_sized w (length stored) (subst (λ m. IsValidity Nullable m (option_map shape_of w)) (sym long) h) k in
    let shown : valid_cells (valid_rows own (length stored)) stored ≡ rows (column ty n d w) =
    sym (cells ∙ slot_told w stored (subst (λ m. IsValidity Nullable m (option_map shape_of w)) (sym long) h) k) in
    let told = own_told (valid_rows own (length stored)) stored (cells_sized own (length stored) sized) valid in
    record {
      nullable = slot_nullable w ∙ sym e;
      sized = slot_sized w n h k;
      told =
          subst (λ m. RowsKeep (map shown_cell (rows (column ty n d w))) (valid_rows own m)) long
          (subst (λ cs. RowsKeep (map shown_cell cs) (valid_rows own (length stored))) shown told);
      clean = λ c. slot_clean w c.1;
    }

-- ---- a node, from its slots

-- of the first slot's tree, if there is one
abbrev pub FirstTells : Slots → Type 0
FirstTells (slot t ss) = Tells t (node_validity t)
FirstTells _ = Unit {0}

pub first_tree : (w : Option Tree) → slot_tree 0 (slots_of (w ∷ [])) ≡ w
first_tree None = refl
first_tree (Some t) = refl
