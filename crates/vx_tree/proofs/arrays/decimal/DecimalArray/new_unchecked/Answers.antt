use Rattle.std.proofs.Common.{◌≡◌, [], ◌∷◌, length, true, refl, sym, subst}
use Rattle.vx_value.specs.View.{type_of}
use Rattle.vx_value.specs.Storage.{storage_of}
use Rattle.vx_tree.specs.DecimalNumbers.{numbers_of, decimal_type_of}
use Rattle.vx_tree.specs.Tree.{slots_of, decimals}
use Rattle.vx_tree.specs.ColumnTypes.{decimal_type, are_decimals_of}
use Rattle.vx_tree.specs.Well.{IsNode, shapes}
use Rattle.vx_tree.specs.Validities.{child_of}
use Rattle.vx_tree.proofs.ConditionsLemmas.{first_none, second_none, unless_none}
use Rattle.vx_tree.proofs.DecimalsLemmas.{decimals_node}
use Rattle.vx_tree.proofs.ValiditiesLemmas.{flat_made}
use Rattle.vx_tree.proofs.arrays.decimal.DecimalArray.new_unchecked.Goals as goal

pub flat_unchecked-requires-clause-node : goal.flat_unchecked-requires-clause-node
flat_unchecked-requires-clause-node c =
    let ty = type_of c.args.dtype in
    let s = storage_of ty in
    let w = decimal_type_of c.args.values in
    let zs = numbers_of c.args.values in
    let n = length zs in
    let child = child_of c.args.validity.now n in
    let pass : are_decimals_of s w zs ≡ true = unless_none _ _ (second_none _ _ c.requires) in
    let flat = flat_made (decimal_type s) ty n c.args.validity.now child (child ∷ []) (first_none _ _ c.requires) refl refl in
    subst (λ k. IsNode ty k (decimals w zs) (shapes (slots_of (child_of c.args.validity.now k ∷ [])))) (sym c.len-len.ensures)
    (decimals_node s w zs pass ty n (shapes (slots_of (child ∷ []))) flat)
