use Rattle.std.proofs.Common.{◌≡◌, ◌∷◌, [], Some, ap, ◌∙◌, rules}
use Rattle.vx_value.specs.Supported.{has_columns}
use Rattle.vx_value.specs.View.{type_of}
use Rattle.vx_value.proofs.SupportedLemmas.{columns_kept}
use Rattle.vx_value.specs.Nullabilities.{with_nullability}
use Rattle.vx_value.specs.declared.dtype.Nullability.TheVariants.{Nullable}
use Rattle.vx_tree.specs.Tree.{dtype, len}
use Rattle.vx_tree.specs.Validities.{child_of}
use Rattle.vx_tree.proofs.ValiditiesLemmas.{masked_is_node}
use Rattle.vx_tree.proofs.arrays.masked.MaskedArray.new_unchecked.Goals as goal

pub of-requires-clause-node : goal.of-requires-clause-node
of-requires-clause-node c =
    let t = c.args.child in
    let v = c.args.validity.now in
    let slots_are : c.in_ok-slots.slots.items ≡ Some t ∷ child_of v (len t) ∷ [] =
    c.in_ok-slots.ensures.items ∙ ap (λ w. Some t ∷ w ∷ []) (c.in_ok-validity.ensures.ok ∙ ap (child_of v) c.len-len.ensures) in
    let typed : type_of c.in_ok-dtype.dtype ≡ with_nullability Nullable (dtype t) = search rules in
    rw (slots_are, typed, c.len-len.ensures) (masked_is_node t v c.requires.rows)

pub of-requires-clause-supported : goal.of-requires-clause-supported
of-requires-clause-supported c =
    ap has_columns c.in_ok-dtype.ensures.ok ∙ columns_kept _ (type_of c.dtype.result.now) ∙ ap has_columns c.dtype.ensures.dtype ∙ c.dtype.ensures.columns
