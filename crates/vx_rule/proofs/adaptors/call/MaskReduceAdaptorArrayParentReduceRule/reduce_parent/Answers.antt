use Rattle.std.proofs.Common.{ap}
use Rattle.vx_fn.specs.Functions.{arity}
use Rattle.vx_tree.specs.Tree.{dtype, len}
use Rattle.vx_rule.proofs.SlotsLemmas.{two_arguments}
use Rattle.vx_rule.proofs.adaptors.call.MaskReduceAdaptorArrayParentReduceRule.reduce_parent.Goals as goal

pub two_arguments-requires : goal.two_arguments-requires
two_arguments-requires g c =
    let t = c.args.parent.now in
    let h = c.in-ScalarFn-Mask-default in
    two_arguments (dtype t) (len t) h.field-0.now h.slots.now h.ensures.1 (ap arity h.field-0-is)
