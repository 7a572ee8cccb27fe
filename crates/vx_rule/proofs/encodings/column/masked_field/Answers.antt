use Rattle.std.proofs.Common.{◌≡◌, Some, ◌∷◌, [], ap, sym, subst, ◌∙◌}
use Rattle.vx_value.specs.Types.{struct}
use Rattle.vx_value.specs.declared.dtype.Nullability.TheVariants.{Nullable}
use Rattle.vx_fn.specs.declared.function.ScalarFnRef.TheVariants as fn_of
use Rattle.vx_tree.specs.Tree.{dtype, len, node, function, composed, slots_of}
use Rattle.vx_tree.specs.Well.{IsNode, shapes}
use Rattle.vx_tree.specs.declared.array.layout.Layout.TheVariants as layout
use Rattle.vx_rule.specs.Rules.{validity_column, field_in}
use Rattle.vx_rule.proofs.ItemNodesLemmas.{mask_well}
use Rattle.vx_rule.proofs.StructsLemmas.{struct_shape, structs_node, masked_field_known}
use Rattle.vx_rule.proofs.FitsLemmas.{fit_G4_masked}
use Rattle.vx_rule.proofs.encodings.column.masked_field.Goals as goal

pub struct_slots-requires : goal.struct_slots-requires
struct_slots-requires c =
    let x = c.args.child.now in
    (dtype x, len x, structs_node x c.slots.result.now c.requires.structs c.slots.ensures c.well_formed_tree-2.ensures.formed)

pub function_node-requires : goal.function_node-requires
function_node-requires c =
    let t = c.args.parent.now in
    let x = c.args.child.now in
    let name = c.args.name.now in
    let v = c.struct_slots.result.1.now in
    let told = c.in_ok-validity.validity in
    let tells : told ≡ validity_column (len t) (slots_of (v ∷ [])) =
    c.in_ok-validity.ensures.ok ∙ (λ i. validity_column (c.len-len.ensures i) (slots_of (v ∷ []))) in
    let known = masked_field_known name t x c.args.field.now c.slots.result.now c.struct_slots.result.0.now v c.requires.call c.requires.structs c.slots.ensures
    c.well_formed_tree-2.ensures.formed c.requires.nullable c.requires.field c.struct_slots.ensures told tells in
    let items = c.in_ok-slots.ensures.items ∙ (λ i. Some (c.in_ok-clone.ensures.cases i) ∷ Some told ∷ []) in
    subst (λ z. z) (λ i. IsNode (dtype t) (sym c.len-len.ensures i) (function fn_of.Mask) (shapes (slots_of (sym items i))))
    (mask_well (dtype t) (len t) c.args.field.now told known.0 known.1 known.2)

pub returns : goal.returns
returns c =
    let t = c.args.parent.now in
    let x = c.args.child.now in
    let name = c.args.name.now in
    let v = c.struct_slots.result.1.now in
    let told = c.in_ok-validity.validity in
    let tells : told ≡ validity_column (len t) (slots_of (v ∷ [])) =
    c.in_ok-validity.ensures.ok ∙ (λ i. validity_column (c.len-len.ensures i) (slots_of (v ∷ []))) in
    let known = masked_field_known name t x c.args.field.now c.slots.result.now c.struct_slots.result.0.now v c.requires.call c.requires.structs c.slots.ensures
    c.well_formed_tree-2.ensures.formed c.requires.nullable c.requires.field c.struct_slots.ensures told tells in
    let fs = c.requires.field.0 in
    let xs = c.slots.result.now in
    let typed : dtype x ≡ struct fs Nullable = c.requires.field.1 ∙ ap (struct fs) c.requires.nullable in
    let is : x ≡ node (struct fs Nullable) (len x) (composed layout.Struct) (slots_of xs) =
    struct_shape x xs c.requires.structs c.slots.ensures ∙ ap (λ ty. node ty (len x) (composed layout.Struct) (slots_of xs)) typed in
    let found = ap (field_in name fs) c.slots.ensures ∙ c.requires.field.2 in
    let items = c.in_ok-slots.ensures.items ∙ (λ i. Some (c.in_ok-clone.ensures.cases i) ∷ Some told ∷ []) in
    let made = c.done.ensures.tree ∙ c.in_ok-mask.ensures.ok ∙ (λ i. node (dtype t) (c.len-len.ensures i) (function fn_of.Mask) (slots_of (items i))) in
    fit_G4_masked name fs (slots_of xs) t x c.args.field.now told c.done.result.tree v c.done.result.optimize.items c.requires.call.0 is found known.3 tells made
    c.done.ensures.optimize
