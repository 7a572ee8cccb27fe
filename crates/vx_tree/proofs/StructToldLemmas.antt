-- The validity of a column of structs, from its last slot.
use Rattle.std.proofs.Common.{◌≡◌, ℕ, List, [], ◌∷◌, ◌++◌, true, Option, ap, refl, sym, ◌∙◌}
use Rattle.vx_value.specs.Types.{DataType, nullability_of, is_nullable}
use Rattle.vx_value.specs.declared.dtype.Nullability.{Nullability}
use Rattle.vx_value.specs.declared.dtype.Nullability.TheVariants.{NonNullable, Nullable}
use Rattle.vx_tree.specs.Tree as enc
use Rattle.vx_tree.specs.Tree.{Tree, Slots, node, dtype, slots_of, last_tree}
use Rattle.vx_tree.specs.NodeValidities.{if_nullable, data_validity, first_validity, node_validity}
use Rattle.vx_tree.specs.Validities.{validity_of}
use Rattle.vx_tree.specs.declared.array.layout.Layout.TheVariants as layout
use Rattle.vx_tree.proofs.StructLemmas.{last_is}

told_by : (ty : DataType) (n : ℕ) (ss : Slots) (m : Nullability) → is_nullable m ≡ true
    → if_nullable m (data_validity ty n (enc.composed layout.Struct) ss (first_validity ss)) ≡ validity_of Nullable (last_tree ss)
told_by ty n ss NonNullable h = absurd (cc)
told_by ty n ss Nullable h = refl

pub struct_told : (t : Tree) (ty : DataType) (n : ℕ) (xs rest : List (Option Tree)) (v : Option Tree) → t ≡ node ty n (enc.composed layout.Struct) (slots_of xs)
    → xs ≡ rest ++ v ∷ [] → is_nullable (nullability_of (dtype t)) ≡ true → node_validity t ≡ validity_of Nullable v
struct_told t ty n xs rest v is split e =
    ap node_validity is ∙ told_by ty n (slots_of xs) (nullability_of ty) (ap (λ u. is_nullable (nullability_of (dtype u))) (sym is) ∙ e)
    ∙ ap (validity_of Nullable) (last_is xs rest v split)
