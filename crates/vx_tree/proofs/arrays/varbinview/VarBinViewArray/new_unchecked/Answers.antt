use Rattle.std.proofs.Common.{◌≡◌, [], ◌∷◌, length, true, refl, sym, subst}
use Rattle.vx_value.specs.View.{type_of}
use Rattle.vx_value.specs.Storage.{storage_of}
use Rattle.vx_tree.specs.Tree.{slots_of, views}
use Rattle.vx_tree.specs.ColumnTypes.{bytes_type, are_bytes_of}
use Rattle.vx_tree.specs.Views.{rows_of}
use Rattle.vx_tree.specs.Well.{IsNode, shapes}
use Rattle.vx_tree.specs.Validities.{child_of}
use Rattle.vx_tree.proofs.BytesLemmas.{bytes_node, views_known}
use Rattle.vx_tree.proofs.ConditionsLemmas.{first_none, second_none, unless_none}
use Rattle.vx_tree.proofs.ValiditiesLemmas.{flat_made}
use Rattle.vx_tree.proofs.arrays.varbinview.VarBinViewArray.new_unchecked.Goals as goal

pub flat_unchecked-requires-clause-node : goal.flat_unchecked-requires-clause-node
flat_unchecked-requires-clause-node c =
    let ty = type_of c.args.dtype in
    let s = storage_of ty in
    let rs = c.args.rows in
    let n = length rs.views in
    let child = child_of c.args.validity.now n in
    let pass : are_bytes_of s (rows_of rs) ≡ true = unless_none _ _ (second_none _ _ c.requires) in
    let known = views_known s rs c.lie_in_buffers.ensures pass in
    let flat = flat_made (bytes_type s) ty n c.args.validity.now child (child ∷ []) (first_none _ _ c.requires) refl refl in
    subst (λ k. IsNode ty k (views rs) (shapes (slots_of (child_of c.args.validity.now k ∷ [])))) (sym c.len-len.ensures)
    (bytes_node s rs known ty n (shapes (slots_of (child ∷ []))) flat)
