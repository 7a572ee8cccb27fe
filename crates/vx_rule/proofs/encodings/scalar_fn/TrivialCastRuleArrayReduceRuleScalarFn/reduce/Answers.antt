use Rattle.std.proofs.Common.{ap}
use Rattle.vx_fn.specs.Functions.{arity}
use Rattle.vx_tree.specs.Tree.{dtype, len}
use Rattle.vx_rule.proofs.SlotsLemmas.{one_argument}
use Rattle.vx_rule.proofs.encodings.scalar_fn.TrivialCastRuleArrayReduceRuleScalarFn.reduce.Goals as goal

pub only_argument-requires : goal.only_argument-requires
only_argument-requires c =
    let t = c.array.result.now in
    let h = c.in-ScalarFn-Cast-default in
    one_argument (dtype t) (len t) h.field-0.now h.slots.now h.ensures.1 (ap arity h.field-0-is)
