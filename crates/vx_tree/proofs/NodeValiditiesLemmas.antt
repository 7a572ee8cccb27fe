-- The validity of every node tells which of its rows are null.
use Rattle.std.proofs.Common.{ℤ, ◌≡◌, ℕ, List, [], ◌∷◌, length, map, replicate, Bool, true, Option, Some, None, refl, sym, ap, subst, ◌∙◌}
use Rattle.std.specs.Prelude.{option_map}
use Rattle.std.proofs.lemmas.List.{length-map}
use Rattle.vx_value.specs.declared.dtype.PType.{PType}
use Rattle.vx_value.specs.declared.decimal.DecimalType.{DecimalType}
use Rattle.vx_value.specs.Types as type
use Rattle.vx_value.specs.Types.{DataType, nullability_of}
use Rattle.vx_value.specs.Values.{Value, null, boolean, integer, bytes, decimal}
use Rattle.vx_value.specs.Typed.{Typed}
use Rattle.vx_value.specs.Cell.{Cell, value}
use Rattle.vx_value.specs.declared.dtype.Nullability.{Nullability}
use Rattle.vx_value.specs.declared.dtype.Nullability.TheVariants.{NonNullable, Nullable}
use Rattle.vx_value.specs.Storage.{storage_of}
use Rattle.vx_tree.specs.ColumnTypes.{bytes_type, scale_of, decimal_type}
use Rattle.vx_tree.specs.Tree as enc
use Rattle.vx_tree.specs.Tree.{Tree, Data, Slots, node, no_slots, absent, slot, slots_of, len, column, constant_of, types_in, laid_out}
use Rattle.vx_tree.specs.Well.{shape_of, shapes, IsValidity, IsFlat, IsNode, IsWell, AreWell}
use Rattle.vx_tree.specs.Cells.{rows, node_cells, cells_at, valid_cells, shown_cell}
use Rattle.vx_tree.specs.Keeps.{RowsKeep}
use Rattle.vx_tree.specs.Validities.{validity_of, HasRows}
use Rattle.vx_tree.specs.Views.{ViewedRows, bytes_at}
use Rattle.vx_tree.specs.declared.views.view.View.{View}
use Rattle.vx_tree.specs.declared.array.layout.Layout.{Layout}
use Rattle.vx_tree.specs.declared.array.layout.Layout.TheVariants as layout
use Rattle.vx_tree.specs.NodeValidities.{slot_tree, constant_validity, data_validity, if_nullable, node_validity, first_validity, IsValidityFor}
use Rattle.vx_tree.specs.declared.validity.Validity.{Validity}
use Rattle.vx_tree.specs.declared.validity.Validity.TheVariants as validity
use Rattle.vx_tree.proofs.SlotsLemmas.{only_slot, one_shape, none_there}
use Rattle.vx_tree.proofs.TellsLemmas.{Tells, FirstTells, first_tree, constant_tells, column_tells, stored_valid, non_nullable, is_for}
use Rattle.vx_tree.proofs.ValiditiesLemmas.{told as slot_cells, told_rows}

-- ---- a node, from its slots

slots_back : (ss : Slots) → (xs : List (Option Tree)) × (slots_of xs ≡ ss)
slots_back no_slots = ([], refl)
slots_back (absent ss) = let r = slots_back ss in (None ∷ r.0, ap absent r.1)
slots_back (slot t ss) = let r = slots_back ss in (Some t ∷ r.0, ap (slot t) r.1)

constant_node : (ty : DataType) (n : ℕ) (v : Typed) (xs : List (Option Tree)) → IsNode ty n (enc.constant v) (shapes (slots_of xs))
    → nullability_of ty ≡ Nullable
    → Tells (node ty n (enc.constant v) (slots_of xs)) (constant_validity v.value)
constant_node ty n v xs h e =
    let is : constant_of v n ≡ node ty n (enc.constant v) (slots_of xs) = λ i. node (sym h.0 i) n (enc.constant v) (slots_of (sym (none_there xs h.2) i)) in
    subst (λ t. Tells t (constant_validity v.value)) is (constant_tells v n (sym (ap nullability_of h.0) ∙ e))

-- a column of values of one type
column_node : (of_type ty : DataType) (k n : ℕ) (d : Data) (stored : List Cell) (xs : List (Option Tree))
    → ((tys : List DataType) (css : List (List Cell)) → node_cells ty n d tys css ≡ valid_cells (cells_at css 0) stored) → length stored ≡ k
    → RowsKeep (map shown_cell stored) (replicate (length stored) (value (boolean true))) → IsFlat of_type k ty n (shapes (slots_of xs)) → AreWell (slots_of xs)
    → nullability_of ty ≡ Nullable → Tells (node ty n d (slots_of xs)) (validity_of Nullable (slot_tree 0 (slots_of xs)))
column_node of_type ty k n d stored xs cells long valid h wells e =
    let o = only_slot xs h.0 h.3 in
    let w = o.0 in
    let lists : h.0 ∷ [] ≡ option_map shape_of w ∷ [] = sym h.3 ∙ ap (λ ys. shapes (slots_of ys)) o.1 ∙ one_shape w in
    let same : h.0 ≡ option_map shape_of w = cc in
    let slot : IsValidity Nullable n (option_map shape_of w) = subst (IsValidity Nullable n) same (subst (λ m. IsValidity m n h.0) e h.4) in
    let shown : rows (column ty n d w) ≡ valid_cells (slot_cells w) stored = ap (node_cells ty n d (types_in (shapes (slots_of (w ∷ []))))) (told_rows w) ∙ cells _ (slot_cells w ∷ []) in
    let told = column_tells ty n d w stored shown (long ∙ sym h.2) valid e slot (subst (λ ys. AreWell (slots_of ys)) o.1 wells) in
    subst (λ ys. Tells (node ty n d (slots_of ys)) (validity_of Nullable (slot_tree 0 (slots_of ys)))) (sym o.1)
    (subst (λ x. Tells (column ty n d w) (validity_of Nullable x)) (sym (first_tree w)) told)

nulls_node : (ty : DataType) (n : ℕ) (xs : List (Option Tree)) → nullability_of ty ≡ Nullable → Tells (node ty n enc.nulls (slots_of xs)) validity.AllInvalid
nulls_node ty n xs e =
    let told = constant_tells (record { of_type = ty; value = null }) n e in
    record { nullable = told.nullable; sized = tt; told = told.told; clean = λ h. tt }

module _ (ty : DataType) (n : ℕ) (xs : List (Option Tree)) where
  bool_node : (bs : List Bool) → IsNode ty n (enc.bool bs) (shapes (slots_of xs)) → AreWell (slots_of xs) → nullability_of ty ≡ Nullable
      → Tells (node ty n (enc.bool bs) (slots_of xs)) (validity_of Nullable (slot_tree 0 (slots_of xs)))
  bool_node bs =
      column_node (type.bool NonNullable) ty (length bs) n (enc.bool bs) (map (λ b. value (boolean b)) bs) xs (λ tys css. refl)
      (length-map bs (λ b. value (boolean b))) (stored_valid boolean (λ b. refl) bs)

  primitive_node : (p : PType) (zs : List ℤ) → IsNode ty n (enc.primitive p zs) (shapes (slots_of xs)) → AreWell (slots_of xs) → nullability_of ty ≡ Nullable
      → Tells (node ty n (enc.primitive p zs) (slots_of xs)) (validity_of Nullable (slot_tree 0 (slots_of xs)))
  primitive_node p zs =
      column_node (type.primitive p NonNullable) ty (length zs) n (enc.primitive p zs) (map (λ z. value (integer z)) zs) xs (λ tys css. refl)
      (length-map zs (λ z. value (integer z))) (stored_valid integer (λ z. refl) zs)

  decimals_node : (w : DecimalType) (zs : List ℤ) → IsNode ty n (enc.decimals w zs) (shapes (slots_of xs)) → AreWell (slots_of xs)
      → nullability_of ty ≡ Nullable → Tells (node ty n (enc.decimals w zs) (slots_of xs)) (validity_of Nullable (slot_tree 0 (slots_of xs)))
  decimals_node w zs h =
      let read : ℤ → Value = λ z. decimal z (scale_of (storage_of ty)) in
      column_node (decimal_type (storage_of ty)) ty (length zs) n (enc.decimals w zs) (map (λ z. value (read z)) zs) xs (λ tys css. refl)
      (length-map zs (λ z. value (read z))) (stored_valid read (λ z. refl) zs) h.0

  views_node : (rs : ViewedRows) → IsNode ty n (enc.views rs) (shapes (slots_of xs)) → AreWell (slots_of xs) → nullability_of ty ≡ Nullable
      → Tells (node ty n (enc.views rs) (slots_of xs)) (validity_of Nullable (slot_tree 0 (slots_of xs)))
  views_node rs h =
      let read : View → Value = λ v. bytes (bytes_at rs.buffers v) in
      column_node (bytes_type (storage_of ty)) ty (length rs.views) n (enc.views rs) (map (λ v. value (read v)) rs.views) xs (λ tys css. refl)
      (length-map rs.views (λ v. value (read v))) (stored_valid read (λ v. refl) rs.views) h.0

-- a line for each layout
layout_tells : (l : Layout) (ty : DataType) (n : ℕ) (xs : List (Option Tree)) → IsNode ty n (enc.composed l) (shapes (slots_of xs)) → AreWell (slots_of xs)
    → nullability_of ty ≡ Nullable → FirstTells (slots_of xs)
    → Tells (node ty n (enc.composed l) (slots_of xs)) ((laid_out l).validity (slots_of xs) (first_validity (slots_of xs)))
layout_tells layout.Struct ty n xs h w e f = Rattle.vx_tree.proofs.StructLemmas.struct_node ty n (slots_of xs) h w e
layout_tells layout.Extension ty n xs h w e f = Rattle.vx_tree.proofs.ExtensionLemmas.extension_node ty n xs h w f

-- of a nullable node: a line for each encoding
data_tells : (ty : DataType) (n : ℕ) (d : Data) (xs : List (Option Tree)) → IsNode ty n d (shapes (slots_of xs)) → AreWell (slots_of xs)
    → nullability_of ty ≡ Nullable → FirstTells (slots_of xs)
    → Tells (node ty n d (slots_of xs)) (data_validity ty n d (slots_of xs) (first_validity (slots_of xs)))
data_tells ty n (enc.constant v) xs h w e f = constant_node ty n v xs h e
data_tells ty n (enc.slice a b) xs h w e f = Rattle.vx_tree.proofs.SliceLemmas.slice_node ty n a b xs h f
data_tells ty n (enc.filter bits) xs h w e f = Rattle.vx_tree.proofs.FilterLemmas.filter_node ty n bits xs h f
data_tells ty n enc.masked xs h w e f = Rattle.vx_tree.proofs.MaskedLemmas.masked_node ty n xs h w f
data_tells ty n enc.is_valid xs h w e f = Rattle.vx_tree.proofs.ScalarFnValidityLemmas.is_valid_node ty n xs validity.NonNullable h e
data_tells ty n (enc.function g) xs h w e f = Rattle.vx_tree.proofs.ScalarFnLemmas.tested_tells (node ty n (enc.function g) (slots_of xs)) (h, w) e
data_tells ty n enc.dict xs h w e f = Rattle.vx_tree.proofs.ScalarFnLemmas.tested_tells (node ty n enc.dict (slots_of xs)) (h, w) e
data_tells ty n enc.chunked xs h w e f = Rattle.vx_tree.proofs.ScalarFnLemmas.tested_tells (node ty n enc.chunked (slots_of xs)) (h, w) e
data_tells ty n enc.interleave xs h w e f = Rattle.vx_tree.proofs.ScalarFnLemmas.tested_tells (node ty n enc.interleave (slots_of xs)) (h, w) e
data_tells ty n enc.nulls xs h w e f = nulls_node ty n xs e
data_tells ty n (enc.bool bs) xs h w e f = bool_node ty n xs bs h w e
data_tells ty n (enc.primitive p zs) xs h w e f = primitive_node ty n xs p zs h w e
data_tells ty n (enc.decimals d zs) xs h w e f = decimals_node ty n xs d zs h w e
data_tells ty n (enc.views rs) xs h w e f = views_node ty n xs rs h w e
data_tells ty n (enc.composed l) xs h w e f = layout_tells l ty n xs h w e f

node_tells : (ty : DataType) (n : ℕ) (d : Data) (ss : Slots) (m : Nullability) → nullability_of ty ≡ m → IsWell (node ty n d ss) → FirstTells ss
    → Tells (node ty n d ss) (if_nullable m (data_validity ty n d ss (first_validity ss)))
node_tells ty n d ss NonNullable e w f = non_nullable (node ty n d ss) w e
node_tells ty n d ss Nullable e w f =
    let b = slots_back ss in
    subst (λ zs. IsWell (node ty n d zs) → FirstTells zs → Tells (node ty n d zs) (data_validity ty n d zs (first_validity zs))) b.1
    (λ h g. data_tells ty n d b.0 h.0 h.1 e g) w f

mutual
  tree_tells : (t : Tree) → IsWell t → Tells t (node_validity t)
  tree_tells (node ty n d ss) w = node_tells ty n d ss (nullability_of ty) refl w (first_tells ss w.1)

  first_tells : (ss : Slots) → AreWell ss → FirstTells ss
  first_tells no_slots w = tt
  first_tells (absent ss) w = tt
  first_tells (slot t ss) w = tree_tells t w.0

pub told_by_node : (t : Tree) → IsWell t → IsValidityFor t (node_validity t)
told_by_node t w = is_for t (node_validity t) (tree_tells t w)

-- ---- what the function needs

pub node_sized : (t : Tree) → IsWell t → HasRows (node_validity t) (len t)
node_sized t w = (tree_tells t w).sized

-- v, the validity of a node's first child
module _ (v : Validity) (t c : Tree) (ty : DataType) (n : ℕ) (d : Data) (ss : Slots)
    (read : v ≡ node_validity c) (shown : t ≡ node ty n d (slot c ss)) (well : IsWell t) where
  first_sized : HasRows v (len c)
  first_sized = subst (λ x. HasRows x (len c)) (sym read) (node_sized c (subst IsWell shown well).1.0)

  -- its array is as long as the child
  pub first_long : (u : Tree) → v ≡ validity.Array u → len u ≡ len c
  first_long u is = let sized : HasRows (validity.Array u) (len c) = subst (λ x. HasRows x (len c)) is first_sized in sized.2

  pub first_counted : (k : ℕ) → k ≡ len c → (u : Tree) → v ≡ validity.Array u → k ≡ len u
  first_counted k counted u is = counted ∙ sym (first_long u is)

  pub first_rows : (k : ℕ) → k ≡ len t → len c ≡ n → HasRows v k
  first_rows k counted same = subst (HasRows v) (same ∙ sym (ap len shown) ∙ sym counted) first_sized
