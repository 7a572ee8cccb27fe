use Rattle.std.proofs.Common.{[], ◌∷◌, refl}
use Rattle.vx_value.specs.View.{type_of}
use Rattle.vx_tree.specs.Tree.{slots_of}
use Rattle.vx_tree.specs.Well.{shapes}
use Rattle.vx_tree.specs.Validities.{child_of}
use Rattle.vx_tree.proofs.ValiditiesLemmas.{flat_made, flat_unnested}
use Rattle.vx_tree.proofs.arrays.column.flat_column.Goals as goal

pub flat_unchecked-requires-clause-node : goal.flat_unchecked-requires-clause-node
flat_unchecked-requires-clause-node g c =
    let ty = type_of c.args.dtype in
    let n = c.args.len in
    let child = child_of c.args.validity.now n in
    c.requires.node ty n (shapes (slots_of (child ∷ [])))
    (flat_made (type_of c.args.of_type.now) ty n c.args.validity.now child (child ∷ []) c.in_ok-check_flat_column.ensures.valid refl refl)

pub flat_unchecked-requires-clause-unnested : goal.flat_unchecked-requires-clause-unnested
flat_unchecked-requires-clause-unnested g c =
    flat_unnested (type_of c.args.of_type.now) (type_of c.args.dtype) c.args.len c.args.validity.now c.in_ok-check_flat_column.ensures.valid c.requires.unnested
