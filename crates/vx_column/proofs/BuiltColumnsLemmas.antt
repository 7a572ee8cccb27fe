-- The column of values that aren't nested: its type, its length, and that it has no fault.
use Rattle.std.proofs.Common.{◌≡◌, List, [], ◌∷◌, length, map, true, false, refl, sym, subst}
use Rattle.std.specs.Prelude.{is_some}
use Rattle.std.specs.List.{list_all}
use Rattle.std.proofs.lemmas.Bool.{false≢true}
use Rattle.std.proofs.lemmas.List.{length-map}
use Rattle.vx_value.specs.Types as type
use Rattle.vx_value.specs.Types.{DataType}
use Rattle.vx_value.specs.Storage.{storage_of, is_nested}
use Rattle.vx_value.specs.Values.{Value}
use Rattle.vx_value.specs.Cell.{value}
use Rattle.vx_value.specs.IsOf.{is_of}
use Rattle.vx_value.specs.Parts.{boolean_in, integer_in, bytes_in}
use Rattle.vx_tree.specs.Tree.{Tree, dtype, len, slots}
use Rattle.vx_tree.specs.Cells.{HasNoFault, IsClean, AreClean}
use Rattle.vx_column.specs.Built.{built_stored, without_point}
use Rattle.vx_column.specs.declared.rows.valid.ValidRows.TheVariants.{Bits}
use Rattle.vx_column.proofs.BuiltLemmas.{rows_built}
use Rattle.vx_column.proofs.KeepsLemmas.{whole_clean}
use Rattle.vx_column.proofs.ValidRowsLemmas.{filled_clean}

abbrev column : DataType → List Value → Tree
column ty vs = built_stored (storage_of ty) ty vs

pub built_typed : (ty : DataType) (vs : List Value) → is_nested ty ≡ false → dtype (column ty vs) ≡ ty
built_typed type.null vs plain = refl
built_typed (type.bool m) vs plain = refl
built_typed (type.primitive p m) vs plain = refl
built_typed (type.decimal p s m) vs plain = refl
built_typed (type.utf8 m) vs plain = refl
built_typed (type.binary m) vs plain = refl
built_typed _ vs plain = absurd (false≢true (sym plain))

pub built_long : (ty : DataType) (vs : List Value) → len (column ty vs) ≡ length vs
built_long type.null vs = refl
built_long (type.bool m) vs = length-map vs boolean_in
built_long (type.primitive p m) vs = length-map vs integer_in
built_long (type.decimal p s m) vs = length-map vs without_point
built_long (type.utf8 m) vs = length-map vs bytes_in
built_long (type.binary m) vs = length-map vs bytes_in
built_long _ vs = refl

pub values_clean : (vs : List Value) → HasNoFault (map (λ v. value v) vs)
values_clean [] = tt
values_clean (v ∷ vs) = values_clean vs

slots_clean : (ty : DataType) (vs : List Value) → AreClean (slots (column ty vs))
slots_clean type.null vs = tt
slots_clean (type.bool m) vs = filled_clean (Bits (map is_some (map boolean_in vs)))
slots_clean (type.primitive p m) vs = filled_clean (Bits (map is_some (map integer_in vs)))
slots_clean (type.decimal p s m) vs = filled_clean (Bits (map is_some (map without_point vs)))
slots_clean (type.utf8 m) vs = filled_clean (Bits (map is_some (map bytes_in vs)))
slots_clean (type.binary m) vs = filled_clean (Bits (map is_some (map bytes_in vs)))
slots_clean _ vs = tt

pub built_clean : (ty : DataType) (vs : List Value) → is_nested ty ≡ false → list_all (is_of ty) vs ≡ true → IsClean (column ty vs)
built_clean ty vs plain all =
    whole_clean (column ty vs) (slots_clean ty vs) (subst HasNoFault (sym (rows_built ty vs plain all)) (values_clean vs))
