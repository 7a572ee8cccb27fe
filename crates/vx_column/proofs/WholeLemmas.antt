-- A column whose validity has no fault has none itself.
use Rattle.std.proofs.Common.{◌≡◌, ℕ, List, [], ◌∷◌, length, map, Bool, true, false, refl, Option, Some, sym, subst, ap}
use Rattle.std.proofs.lemmas.Bool.{false≢true}
use Rattle.vx_value.specs.Types as type
use Rattle.vx_value.specs.Types.{DataType, nullability_of}
use Rattle.vx_value.specs.Values.{Value, null, boolean, integer, decimal, bytes}
use Rattle.vx_value.specs.Cell.{Cell, value, fault}
use Rattle.vx_value.specs.declared.dtype.Nullability.{Nullability}
use Rattle.vx_value.specs.declared.dtype.Nullability.TheVariants.{NonNullable, Nullable}
use Rattle.vx_tree.specs.Tree as enc
use Rattle.vx_tree.specs.Tree.{Tree, Data, Slots, node, no_slots, absent, slot, dtype, len, datum, slots, is_canonical}
use Rattle.vx_tree.specs.Well.{Shape, shape_of, shapes, IsWell, AreWell, IsValidity, IsFlat}
use Rattle.vx_tree.specs.Cells.{rows, slots_rows, cells_at, valid_cells, HasNoFault, AreClean}
use Rattle.vx_value.specs.Storage.{storage_of, is_nested}
use Rattle.vx_tree.specs.ColumnTypes.{scale_of, decimal_type, bytes_type}
use Rattle.vx_tree.proofs.KindsLemmas.{type_in}
use Rattle.vx_tree.proofs.TypedLemmas.{AllFit, rows_fit}
use Rattle.vx_tree.proofs.ValiditiesLemmas.{whole}
use Rattle.vx_column.proofs.KeepsLemmas.{copies_clean}
use Rattle.vx_column.proofs.NestedLemmas.{not_composed}
use Rattle.vx_tree.specs.Views.{bytes_at}
use Rattle.vx_tree.specs.declared.views.view.View.{View}

pub values_whole : {A : Type 0} (f : A → Value) (xs : List A) → HasNoFault (map (λ x. value (f x)) xs)
values_whole f [] = tt
values_whole f (x ∷ xs) = values_whole f xs

-- booleans without a fault, as a validity, make none
valid_whole : (vs cs : List Cell) → AllFit (type.bool NonNullable) vs → HasNoFault vs → HasNoFault cs → HasNoFault (valid_cells vs cs)
valid_whole [] cs f h k = k
valid_whole (v ∷ vs) [] f h k = tt
valid_whole (value (boolean true) ∷ vs) (value w ∷ cs) f h k = valid_whole vs cs f.1 h k
valid_whole (value (boolean false) ∷ vs) (value w ∷ cs) f h k = valid_whole vs cs f.1 h k
valid_whole (value (boolean b) ∷ vs) (fault ∷ cs) f h k = absurd k
valid_whole (value _ ∷ vs) (c ∷ cs) f h k = absurd (false≢true f.0)
valid_whole (fault ∷ vs) (c ∷ cs) f h k = absurd h

validity_typed : (m : Nullability) (n : ℕ) (t : Tree) → IsValidity m n (Some (shape_of t)) → dtype t ≡ type.bool NonNullable
validity_typed NonNullable n t h = absurd h
validity_typed Nullable n t h = ap type_in h

first_validity : (m : Nullability) (n : ℕ) (t : Tree) (rest : List (Option Shape)) (v : Option Shape) → Some (shape_of t) ∷ rest ≡ v ∷ [] → IsValidity m n v
    → dtype t ≡ type.bool NonNullable
first_validity m n t rest v e h = validity_typed m n t (subst (IsValidity m n) (sym (first_of e)) h)
  where
    first_of : {A : Type 0} {x y : A} {xs ys : List A} → x ∷ xs ≡ y ∷ ys → x ≡ y
    first_of e = cc

flat_whole : (of_type : DataType) (k : ℕ) (ty : DataType) (n : ℕ) (ss : Slots) (cs : List Cell) → IsFlat of_type k ty n (shapes ss) → AreWell ss
    → AreClean ss → HasNoFault cs → HasNoFault (valid_cells (cells_at (slots_rows ss) 0) cs)
flat_whole of_type k ty n no_slots cs flat wells clean h = h
flat_whole of_type k ty n (absent us) cs flat wells clean h = h
flat_whole of_type k ty n (slot t us) cs flat wells clean h =
    let typed = first_validity (nullability_of ty) n t (shapes us) flat.0 flat.3 flat.4 in
    valid_whole (rows t) cs (subst (λ s. AllFit s (rows t)) typed (rows_fit t wells.0)) (whole t clean.0) h

column_whole : (ty : DataType) (n : ℕ) (d : Data) (ss : Slots) → is_nested ty ≡ false → IsWell (node ty n d ss) → is_canonical d ≡ true → AreClean ss
    → HasNoFault (rows (node ty n d ss))
column_whole ty n enc.nulls ss plain w h clean = copies_clean n null
column_whole ty n (enc.bool bs) ss plain w h clean =
    flat_whole (type.bool NonNullable) (length bs) ty n ss (map (λ b. value (boolean b)) bs) w.0 w.1 clean (values_whole boolean bs)
column_whole ty n (enc.primitive p zs) ss plain w h clean =
    flat_whole (type.primitive p NonNullable) (length zs) ty n ss (map (λ z. value (integer z)) zs) w.0 w.1 clean (values_whole integer zs)
column_whole ty n (enc.decimals k zs) ss plain w h clean =
    let s = scale_of (storage_of ty) in
    flat_whole (decimal_type (storage_of ty)) (length zs) ty n ss (map (λ z. value (decimal z s)) zs) w.0.0 w.1 clean (values_whole (λ z. decimal z s) zs)
column_whole ty n (enc.views rs) ss plain w h clean =
    let read : View → Value = λ v. bytes (bytes_at rs.buffers v) in
    flat_whole (bytes_type (storage_of ty)) (length rs.views) ty n ss (map (λ v. value (read v)) rs.views) w.0.0 w.1 clean (values_whole read rs.views)
column_whole ty n (enc.composed l) ss plain w h clean = absurd (not_composed l ty n (shapes ss) w.0 plain)
column_whole ty n _ ss plain w h clean = absurd (false≢true h)

-- no row of a canonical column with clean slots is a fault, if its type isn't nested
pub canonical_whole : (u : Tree) → is_nested (dtype u) ≡ false → IsWell u → is_canonical (datum u) ≡ true → AreClean (slots u) → HasNoFault (rows u)
canonical_whole (node ty n d ss) plain w h clean = column_whole ty n d ss plain w h clean

-- nor of any other, if none is told of where the type is nested
pub canonical_told : (u : Tree) → IsWell u → is_canonical (datum u) ≡ true → AreClean (slots u) → (is_nested (dtype u) ≡ true → HasNoFault (rows u)) → HasNoFault (rows u)
canonical_told u w h clean told = by_nesting (is_nested (dtype u)) refl
  where
    by_nesting : (b : Bool) → is_nested (dtype u) ≡ b → HasNoFault (rows u)
    by_nesting false plain = canonical_whole u plain w h clean
    by_nesting true nested = told nested
