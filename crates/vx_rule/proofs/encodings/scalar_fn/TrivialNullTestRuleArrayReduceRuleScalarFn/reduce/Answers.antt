use Rattle.std.proofs.Common.{ap}
use Rattle.vx_fn.specs.Functions.{arity}
use Rattle.vx_tree.specs.Tree.{dtype, len}
use Rattle.vx_rule.proofs.SlotsLemmas.{one_argument}
use Rattle.vx_rule.proofs.encodings.scalar_fn.TrivialNullTestRuleArrayReduceRuleScalarFn.reduce.Goals as goal

pub only_argument-requires : goal.only_argument-requires
only_argument-requires c =
    let t = c.array.result.now in
    let h = c.in-ScalarFn-IsNull-default in
    one_argument (dtype t) (len t) h.field-0.now h.slots.now h.ensures.1 (ap arity h.field-0-is)

pub only_argument-requires-in-ScalarFn-IsNotNull-default : goal.only_argument-requires-in-ScalarFn-IsNotNull-default
only_argument-requires-in-ScalarFn-IsNotNull-default c =
    let t = c.array.result.now in
    let h = c.in-ScalarFn-IsNotNull-default in
    one_argument (dtype t) (len t) h.field-0.now h.slots.now h.ensures.1 (ap arity h.field-0-is)
