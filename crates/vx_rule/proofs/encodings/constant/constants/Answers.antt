use Rattle.std.proofs.Common.{◌≡◌, Some, None, take, sym, ap, ◌∙◌}
use Rattle.std.proofs.lemmas.List.{take_more}
use Rattle.vx_rule.specs.Constants.{slot_value}
use Rattle.vx_rule.proofs.ConstantsLemmas.{values_more, values_none}
use Rattle.vx_rule.proofs.encodings.constant.constants.Goals as goal

pub returns-in-None-clause-none : goal.returns-in-None-clause-none
returns-in-None-clause-none c =
    let s = c.index-slots-index.result in
    let none : slot_value s ≡ None = sym c.in_ok-scalar.ensures.ok ∙ c.in-None.is in
    values_none c.args.slots.now c.loop-index.index s c.loop-index-test.true (ap slot_value (sym c.index-slots-index.is) ∙ none)

pub loop-index-preserved : goal.loop-index-preserved
loop-index-preserved c =
    let s = c.index-slots-index.result in
    let some : slot_value s ≡ Some c.in-Some.scalar = sym c.in_ok-scalar.ensures.ok ∙ c.in-Some.is in
    rw (take_more c.args.slots.now c.loop-index.index s c.loop-index-test.true, ← c.index-slots-index.is, c.in_ok-push-in-Some.ensures.items)
    (values_more (take c.loop-index.index c.args.slots.now) s c.loop-index.scalars.items c.in-Some.scalar c.loop-index.invariant some)
