use Rattle.std.proofs.Common.{sym, subst, ◌∙◌}
use Rattle.vx_fn.specs.declared.function.ScalarFnRef.TheVariants as fn_of
use Rattle.vx_tree.specs.Tree.{dtype, len, node, composed, function, slots_of}
use Rattle.vx_tree.specs.Well.{IsNode, IsWell, shapes}
use Rattle.vx_tree.specs.declared.array.layout.Layout.TheVariants as layout
use Rattle.vx_rule.proofs.StructsLemmas.{packed_node}
use Rattle.vx_rule.proofs.FitsLemmas.{fit_P1}
use Rattle.vx_rule.proofs.encodings.scalar_fn.struct_of_arguments.Goals as goal

pub structs_node-requires : goal.structs_node-requires
structs_node-requires c =
    let t = c.args.array.now in
    let options = c.requires.0 in
    let ss = slots_of c.args.slots.now in
    let w : IsWell (node (dtype t) (len t) (function (fn_of.Pack options)) ss) = subst IsWell c.requires.1 c.well_formed_tree.ensures.formed in
    subst (λ z. z) (λ i. IsNode (dtype t) (sym c.len.ensures i) (composed layout.Struct) (shapes (sym c.in_ok-columns.ensures.ok i)))
    (packed_node (dtype t) (len t) options ss w.0)

pub returns : goal.returns
returns c =
    let t = c.args.array.now in
    let ss = slots_of c.args.slots.now in
    let made = c.done.ensures.tree ∙ c.in_ok-structs.ensures.ok
    ∙ (λ i. node (dtype t) (c.len.ensures i) (composed layout.Struct) (c.in_ok-columns.ensures.ok i)) in
    fit_P1 (dtype t) (len t) c.requires.0 ss t c.done.result.tree c.done.result.optimize.items c.requires.1 made c.done.ensures.optimize
