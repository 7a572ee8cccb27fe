use Rattle.std.proofs.Common.{◌≡◌, ◌∙◌, ◌∷◌, [], Some, true, sym, ap}
use Rattle.vx_tree.specs.Tree.{slots_of, dtype, len}
use Rattle.vx_tree.specs.Well.{shape, shape_of, shapes}
use Rattle.vx_tree.specs.SlotTypes.{is_integer}
use Rattle.vx_tree.proofs.ConditionsLemmas.{unless_none}
use Rattle.vx_tree.proofs.arrays.dict.DictArray.try_new.Goals as goal

pub of-requires-clause-node : goal.of-requires-clause-node
of-requires-clause-node c =
    let codes = c.args.codes in
    let values = c.args.values in
    let integer : is_integer (dtype codes) ≡ true = sym c.is_integer.ensures ∙ unless_none _ _ c.in_ok-check_that.ensures in
    let counted : c.len-len.result ≡ len codes = c.len-len.ensures in
    let slots = ap (λ l. shapes (slots_of l)) c.in_ok-slots.ensures.items ∙ (λ i. Some (shape (dtype codes) (sym counted i)) ∷ Some (shape_of values) ∷ []) in
    (dtype codes, dtype values, len values, slots, integer, c.in_ok-dtype.ensures.ok)
