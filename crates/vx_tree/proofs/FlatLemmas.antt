-- Ranges of columns that hold their rows themselves.
use Rattle.std.proofs.Common.{◌≡◌, ◌≢◌, None, ◌≤◌, ℕ, ◌-◌, List, [], ◌∷◌, slice_range, true, false, Option, refl, sym, ap, ◌∙◌, subst}
use Rattle.std.proofs.lemmas.Bool.{and_from, false≢true}
use Rattle.vx_value.specs.Types as type
use Rattle.vx_value.specs.Types.{DataType}
use Rattle.vx_value.specs.Storage.{storage_of, is_nested}
use Rattle.vx_value.specs.Values.{boolean, integer, decimal, bytes}
use Rattle.vx_value.specs.Decimals.{smallest_width, same_width_Decides}
use Rattle.vx_value.specs.declared.dtype.Nullability.TheVariants.{NonNullable}
use Rattle.vx_value.specs.declared.dtype.Storage.TheVariants.{Nulls}
use Rattle.vx_tree.specs.ColumnTypes.{decimal_type, scale_of, bytes_type}
use Rattle.vx_tree.specs.Tree as enc
use Rattle.vx_tree.specs.Tree.{Tree, Data, node, dtype, len, datum, slots, slots_of, column, slice_of, is_flat}
use Rattle.vx_tree.specs.Well.{IsFlat, IsNode, IsWell, shapes}
use Rattle.vx_tree.specs.Columns.{count_in, data_range, no_rows, empty_of}
use Rattle.vx_tree.specs.Keeps.{KeepsExactly}
use Rattle.vx_tree.specs.Validities.{HasRange, IsValidityPart}
use Rattle.vx_tree.specs.Views.{viewed, bytes_at, viewed_range}
use Rattle.vx_tree.proofs.KindsLemmas.{flat_node}
use Rattle.vx_tree.proofs.SlotsLemmas.{only_slot}
use Rattle.vx_tree.proofs.BytesLemmas.{bytes_node, views_part}
use Rattle.vx_tree.proofs.DecimalsLemmas.{decimals_node, decimals_part}
use Rattle.vx_tree.proofs.ValiditiesLemmas.{flat_range, flat_part}

-- the range of its values is a column of the range's rows: a line for each
pub flat_range_kept : (t : Tree) (v w : Option Tree) (a b : ℕ) → IsWell t → is_flat (datum t) ≡ true → slots t ≡ slots_of (v ∷ []) → b ≤ len t
    → IsValidityPart a b v w
    → IsNode (dtype t) (b - a) (data_range a b (datum t)) (shapes (slots_of (w ∷ [])))
    × KeepsExactly (slice_of a b t) (column (dtype t) (b - a) (data_range a b (datum t)) w)
flat_range_kept (node ty n (enc.bool bs) ss) v w a b well h s within part =
    flat_part (type.bool NonNullable) boolean enc.bool a b bs (slice_range bs a b) v (node ty n (enc.bool bs) ss) (λ n xs tys css. refl)
    (ap (node ty n (enc.bool bs)) s) well within
    refl (λ ss h. h) (λ ty n ss h. h) w part
flat_range_kept (node ty n (enc.primitive p zs) ss) v w a b well h s within part =
    flat_part (type.primitive p NonNullable) integer (enc.primitive p) a b zs (slice_range zs a b) v (node ty n (enc.primitive p zs) ss) (λ n xs tys css. refl)
    (ap (node ty n (enc.primitive p zs)) s) well within refl (λ ss h. h) (λ ty n ss h. h) w part
flat_range_kept (node ty n (enc.decimals d zs) ss) v w a b well h s within part =
    let stored = storage_of ty in
    flat_part (decimal_type stored) (λ z. decimal z (scale_of stored)) (enc.decimals d) a b zs (slice_range zs a b) v (node ty n (enc.decimals d zs) ss)
    (λ n xs tys css. refl)
    (ap (node ty n (enc.decimals d zs)) s) well within refl (λ ss h. h.0)
    (decimals_node stored d (slice_range zs a b) (decimals_part stored d zs (slice_range zs a b) a b well.0.1 refl)) w part
flat_range_kept (node ty n (enc.views rs) ss) v w a b well h s within part =
    let stored = storage_of ty in
    flat_part (bytes_type stored) (λ v. bytes (bytes_at rs.buffers v)) (λ vs. enc.views (viewed vs rs.buffers)) a b rs.views (slice_range rs.views a b) v
    (node ty n (enc.views rs) ss) (λ n xs tys css. refl)
    (ap (node ty n (enc.views rs)) s) well within
    refl (λ ss h. h.0) (bytes_node stored (viewed_range a b rs) (views_part stored rs a b well.0.1)) w part
flat_range_kept _ v w a b well h s within part = absurd (cc)

-- its root is a column of values of some type
flat_root : (t : Tree) → IsWell t → is_flat (datum t) ≡ true → (of_type : DataType) × IsFlat of_type (count_in (datum t)) (dtype t) (len t) (shapes (slots t))
flat_root (node ty n d ss) w h = flat_node ty n d (shapes ss) h w.0

-- its validity has the range of its rows
pub flat_has_range : (t : Tree) (v : Option Tree) (a b : ℕ) → IsWell t → is_flat (datum t) ≡ true → slots t ≡ slots_of (v ∷ []) → a ≤ b → b ≤ len t
    → HasRange a b v
flat_has_range t v a b w h s p q =
    let flat = flat_root t w h in
    flat_range flat.0 (dtype t) (count_in (datum t)) (len t) a b v (subst (λ ss. IsFlat flat.0 (count_in (datum t)) (dtype t) (len t) (shapes ss)) s flat.1) p q

-- it has as many values as rows
pub flat_counted : (t : Tree) → IsWell t → is_flat (datum t) ≡ true → len t ≡ count_in (datum t)
flat_counted t w h = (flat_root t w h).1.2

-- it has one slot
pub flat_slot : (t : Tree) (xs : List (Option Tree)) → IsWell t → is_flat (datum t) ≡ true → slots_of xs ≡ slots t → (v : Option Tree) × (xs ≡ v ∷ [])
flat_slot t xs w h e =
    let flat = (flat_root t w h).1 in
    only_slot xs flat.0 (ap shapes e ∙ flat.3)

-- the one without rows: a line for each type
pub no_rows_node : (ty : DataType) → storage_of ty ≢ Nulls → is_nested ty ≡ false → IsNode ty 0 (no_rows (storage_of ty)) (None ∷ [])
no_rows_node type.null h u = absurd (h refl)
no_rows_node (type.bool m) h u = (None, refl, refl, refl, tt)
no_rows_node (type.primitive p m) h u = (None, refl, refl, refl, tt)
no_rows_node (type.decimal p s m) h u = ((None, refl, refl, refl, tt), and_from _ _ ((same_width_Decides (smallest_width p) (smallest_width p)).1 refl) refl)
no_rows_node (type.utf8 m) h u = ((None, refl, refl, refl, tt), refl)
no_rows_node (type.binary m) h u = ((None, refl, refl, refl, tt), refl)
no_rows_node _ h u = absurd (false≢true (sym u))

pub no_rows_column : (ty : DataType) → storage_of ty ≢ Nulls → is_nested ty ≡ false → column ty 0 (no_rows (storage_of ty)) None ≡ empty_of ty
no_rows_column type.null h u = absurd (h refl)
no_rows_column (type.bool m) h u = refl
no_rows_column (type.primitive p m) h u = refl
no_rows_column (type.decimal p s m) h u = refl
no_rows_column (type.utf8 m) h u = refl
no_rows_column (type.binary m) h u = refl
no_rows_column _ h u = absurd (false≢true (sym u))
