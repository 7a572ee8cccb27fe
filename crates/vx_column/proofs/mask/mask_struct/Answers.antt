use Rattle.std.proofs.Common.{◌≡◌, ◌++◌, ◌∷◌, [], refl, subst, sym, ap, ◌∙◌, rules}
use Rattle.std.proofs.lemmas.Result.{IfOk-weaker}
use Rattle.vx_value.specs.Nullabilities.{with_nullability}
use Rattle.vx_value.specs.declared.dtype.Nullability.TheVariants.{Nullable}
use Rattle.vx_tree.specs.Tree.{dtype, len}
use Rattle.vx_tree.specs.Well.{IsWell}
use Rattle.vx_tree.specs.Canonicals.{canonical_tree}
use Rattle.vx_column.specs.Masked.{TellsAll, IsBoth}
use Rattle.vx_column.proofs.ComposedLemmas.{own_told, nullable_node, struct_masked}
use Rattle.vx_column.proofs.MaskedLemmas.{tells_child}
use Rattle.vx_column.proofs.mask.mask_struct.Goals as goal

pub struct_slots-requires : goal.struct_slots-requires
struct_slots-requires c =
    (dtype c.args.array.now, len c.args.array.now, (subst IsWell c.requires.structs c.well_formed_tree.ensures.formed).0)

pub both_valid-requires-clause-first : goal.both_valid-requires-clause-first
both_valid-requires-clause-first c =
    let t = c.args.array.now in
    subst (λ n. TellsAll n c.struct_slots.result.1.now) (sym c.len-len.ensures)
    (own_told t c.struct_slots.result.0.now c.args.slots.now c.struct_slots.result.1.now c.struct_slots.ensures c.requires.structs
    c.well_formed_tree.ensures.formed)

pub composed_column-requires-clause-node : goal.composed_column-requires-clause-node
composed_column-requires-clause-node c =
    let n = c.len-len.result in
    let child = c.in_ok-validity_to_child.field-0 in
    let slots : c.push.new.self.items ≡ c.struct_slots.result.0.now ++ child ∷ [] = search rules in
    nullable_node c.args.array.now c.struct_slots.result.0.now c.args.slots.now c.struct_slots.result.1.now c.struct_slots.ensures c.requires.structs
    c.well_formed_tree.ensures.formed c.push.new.self.items child _ n c.len-len.ensures
    (c.in_ok-dtype.ensures.ok ∙ ap (with_nullability Nullable) c.dtype.ensures.dtype) slots
    (tells_child n n c.in_ok-both.both child c.in_ok-validity_to_child.ensures.ok refl c.in_ok-both.ensures.sized)

pub returns-clause-ok : goal.returns-clause-ok
returns-clause-ok c =
    let n = c.len-len.result in
    let own = c.struct_slots.result.1.now in
    let child = c.in_ok-validity_to_child.field-0 in
    let slots : c.push.new.self.items ≡ c.struct_slots.result.0.now ++ child ∷ [] = search rules in
    IfOk-weaker c.composed_column.result _ _
    (λ u made. struct_masked c.args.array.now c.struct_slots.result.0.now c.args.slots.now own c.struct_slots.ensures c.requires.structs
    c.well_formed_tree.ensures.formed c.args.child child (canonical_tree u) c.push.new.self.items _ n c.len-len.ensures
    (c.in_ok-dtype.ensures.ok ∙ ap (with_nullability Nullable) c.dtype.ensures.dtype)
    (tells_child n n c.in_ok-both.both child c.in_ok-validity_to_child.ensures.ok refl c.in_ok-both.ensures.sized)
    (subst (IsBoth n own c.args.child) (sym c.in_ok-validity_to_child.ensures.ok) c.in_ok-both.ensures.both) slots made)
    c.composed_column.ensures.ok
