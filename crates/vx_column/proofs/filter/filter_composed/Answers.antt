use Rattle.std.proofs.Common.{length, ap, ◌∙◌}
use Rattle.std.proofs.lemmas.Result.{IfOk-weaker}
use Rattle.vx_mask.specs.Masks.{bits_in}
use Rattle.vx_value.specs.View.{type_of}
use Rattle.vx_tree.specs.Tree.{dtype}
use Rattle.vx_tree.specs.Canonicals.{canonical_tree}
use Rattle.vx_column.proofs.ComposedLemmas.{composed_slots, chosen_node, chosen_kept}
use Rattle.vx_column.proofs.filter.filter_composed.Goals as goal

pub choose_slots-requires : goal.choose_slots-requires
choose_slots-requires c =
    composed_slots c.args.layout c.args.array.now (length (bits_in c.args.mask.now)) c.args.slots.now c.requires.composed c.well_formed_tree.ensures.formed
    c.requires.sized

pub composed_column-requires-clause-node : goal.composed_column-requires-clause-node
composed_column-requires-clause-node c =
    chosen_node c.args.layout c.args.array.now (bits_in c.args.mask.now) c.args.slots.now c.in_ok-choices.choices.items c.requires.composed
    c.well_formed_tree.ensures.formed c.requires.sized c.in_ok-choices.ensures.ok _ _ (ap type_of c.in_ok-dtype.ensures.cases ∙ c.dtype.ensures.dtype)
    c.true_count.ensures

pub returns-clause-ok : goal.returns-clause-ok
returns-clause-ok c =
    IfOk-weaker c.composed_column.result _ _
    (λ u made. chosen_kept c.args.layout c.args.array.now (bits_in c.args.mask.now) c.args.slots.now c.in_ok-choices.choices.items c.requires.composed
    c.well_formed_tree.ensures.formed c.requires.sized c.in_ok-choices.ensures.ok _ _ (canonical_tree u)
    (ap type_of c.in_ok-dtype.ensures.cases ∙ c.dtype.ensures.dtype) c.true_count.ensures made)
    c.composed_column.ensures.ok
