-- A node, opened.
use Rattle.std.proofs.Common.{◌≡◌, ℕ, Bool, true, ◌≤◌, List, [], ◌∷◌, length, get_or, Option, Some, sym, ◌∙◌, ap, subst}
use Rattle.vx_value.specs.Types as type
use Rattle.vx_value.specs.Types.{DataType}
use Rattle.vx_value.specs.Nullabilities.{with_nullability}
use Rattle.vx_value.specs.declared.dtype.Nullability.TheVariants.{NonNullable, Nullable}
use Rattle.vx_value.specs.Typed.{Typed}
use Rattle.vx_value.specs.View.{type_of}
use Rattle.vx_value.specs.IsOf.{is_of}
use Rattle.vx_value.specs.Storage.{storage_of}
use Rattle.vx_tree.specs.ColumnTypes.{decimal_type, bytes_type}
use Rattle.vx_tree.specs.Tree as enc
use Rattle.vx_tree.specs.Tree.{Tree, Data, node, slots_of, dtype, len, column, nulls_of, constant_of, slice_of, filter_of, masked_of, validity_in, is_flat}
use Rattle.vx_tree.specs.Columns.{count_in}
use Rattle.vx_tree.specs.Well.{Shape, shape, shapes, IsFlat, IsNode, IsNodeOf}
use Rattle.vx_tree.specs.TreeView.{data_of, tree_of}
use Rattle.vx_tree.specs.declared.array.node.Node.{Node}
use Rattle.vx_tree.proofs.SlotsLemmas.{one_slot, only_slot, two_slots, none_there}

abbrev pub type_in : Shape → DataType
type_in (shape ty n) = ty

abbrev pub len_in : Shape → ℕ
len_in (shape ty n) = n

-- a node that holds its rows itself is a column of values of some type: a line for each such encoding
pub flat_node : (ty : DataType) (n : ℕ) (d : Data) (ss : List (Option Shape)) → is_flat d ≡ true → IsNode ty n d ss
    → (of_type : DataType) × IsFlat of_type (count_in d) ty n ss
flat_node ty n (enc.bool bs) ss is h = (type.bool NonNullable, h)
flat_node ty n (enc.primitive p zs) ss is h = (type.primitive p NonNullable, h)
flat_node ty n (enc.decimals w zs) ss is h = (decimal_type (storage_of ty), h.0)
flat_node ty n (enc.views rs) ss is h = (bytes_type (storage_of ty), h.0)
flat_node ty n _ ss is h = absurd (cc)

-- n is a node that meets the conditions of its encoding
module _ (n : Node) (well : IsNodeOf (tree_of n)) where
  pub of_data : (d : Data) → data_of n.encoding ≡ d → IsNode (type_of n.dtype) n.len d (shapes (slots_of n.slots.items))
  of_data d e = subst (λ x. IsNode (type_of n.dtype) n.len x (shapes (slots_of n.slots.items))) e well

  pub kind_constant : (v : Typed) → data_of n.encoding ≡ enc.constant v →
      (tree_of n ≡ constant_of v n.len) × (is_of v.of_type v.value ≡ true)
  kind_constant v e =
      let h = of_data (enc.constant v) e in
      let i = none_there n.slots.items h.2 in
      ((λ j. node (h.0 j) n.len (e j) (slots_of (i j))), subst (λ x. is_of x v.value ≡ true) h.0 h.1)

  pub kind_nulls : data_of n.encoding ≡ enc.nulls → tree_of n ≡ nulls_of n.len
  kind_nulls e =
      let h = of_data enc.nulls e in
      let i = none_there n.slots.items h.1 in
      λ j. node (h.0 j) n.len (e j) (slots_of (i j))

  -- a node with one child, of type s and m rows
  pub child_is : (s : DataType) (m : ℕ) (z : Option Tree) (c : Tree) → shapes (slots_of n.slots.items) ≡ Some (shape s m) ∷ [] → z ≡ get_or n.slots.items 0 z
      → z ≡ Some c
      → (n.slots.items ≡ Some c ∷ []) × (dtype c ≡ s) × (len c ≡ m)
  child_is s m z c h g e =
      let o = one_slot n.slots.items s m h in
      let y : z ≡ Some o.0 = g ∙ ap (λ l. get_or l 0 z) o.1 in
      let f : o.0 ≡ c = cc in
      (o.1 ∙ ap (λ x. Some x ∷ []) f, ap dtype (sym f) ∙ ap type_in o.2, ap len (sym f) ∙ ap len_in o.2)

  pub kind_slice : (a b : ℕ) (z : Option Tree) (c : Tree) → data_of n.encoding ≡ enc.slice a b → z ≡ get_or n.slots.items 0 z → z ≡ Some c →
      (tree_of n ≡ slice_of a b c) × (a ≤ b) × (b ≤ len c)
  kind_slice a b z c e g s =
      let v = of_data (enc.slice a b) e in
      let o = child_is (type_of n.dtype) v.0 z c v.1 g s in
      ((λ j. node (sym o.1 j) (v.4 j) (e j) (slots_of (o.0 j))), v.2, subst (λ m. b ≤ m) (sym o.2) v.3)

  pub kind_filter : (bits : List Bool) (z : Option Tree) (c : Tree) → data_of n.encoding ≡ enc.filter bits → z ≡ get_or n.slots.items 0 z → z ≡ Some c →
      (tree_of n ≡ filter_of bits c) × (length bits ≡ len c)
  kind_filter bits z c e g s =
      let v = of_data (enc.filter bits) e in
      let o = child_is (type_of n.dtype) (length bits) z c v.0 g s in
      ((λ j. node (sym o.1 j) (v.1 j) (e j) (slots_of (o.0 j))), sym o.2)

  pub kind_validity : (z : Option Tree) (c : Tree) → data_of n.encoding ≡ enc.is_valid → z ≡ get_or n.slots.items 0 z → z ≡ Some c → tree_of n ≡ validity_in c
  kind_validity z c e g s =
      let v = of_data enc.is_valid e in
      let o = child_is v.0 n.len z c v.1 g s in
      λ j. node (v.2 j) (sym o.2 j) (e j) (slots_of (o.0 j))

  pub kind_masked : (z w v : Option Tree) (c : Tree) → data_of n.encoding ≡ enc.masked → z ≡ get_or n.slots.items 0 z → z ≡ Some c
      → v ≡ get_or n.slots.items 1 w →
      (tree_of n ≡ masked_of c v) × IsNodeOf (tree_of n)
  kind_masked z w v c e g s i =
      let h = of_data enc.masked e in
      let o = two_slots n.slots.items h.0 n.len h.1 h.2 in
      let y : z ≡ Some o.0 = g ∙ ap (λ l. get_or l 0 z) o.2 in
      let f : o.0 ≡ c = cc in
      let same : o.1 ≡ v = sym (i ∙ ap (λ l. get_or l 1 w) o.2) in
      let typed : dtype c ≡ h.0 = ap dtype (sym f) ∙ ap type_in o.3 in
      let counted : len c ≡ n.len = ap len (sym f) ∙ ap len_in o.3 in
      let slots_are = o.2 ∙ (λ j. Some (f j) ∷ same j ∷ []) in
      ((λ j. node ((h.3 ∙ ap (with_nullability Nullable) (sym typed)) j) (sym counted j) (e j) (slots_of (slots_are j))), well)

  -- a column has one slot, for its validity
  pub kind_flat : (d : Data) (s v : Option Tree) → is_flat d ≡ true → data_of n.encoding ≡ d → v ≡ get_or n.slots.items 0 s →
      (tree_of n ≡ column (type_of n.dtype) n.len d v) × IsNodeOf (tree_of n)
  kind_flat d s v is e g =
      let h = (flat_node (type_of n.dtype) n.len d (shapes (slots_of n.slots.items)) is (of_data d e)).1 in
      let o = only_slot n.slots.items h.0 h.3 in
      let same : o.0 ≡ v = sym (g ∙ ap (λ l. get_or l 0 s) o.1) in
      ((λ j. node (type_of n.dtype) n.len (e j) (slots_of ((o.1 ∙ ap (λ z. z ∷ []) same) j))), well)
