use Rattle.std.proofs.Common.{◌≡◌, rules, take, true, false, sym, ap, ◌∙◌}
use Rattle.std.proofs.lemmas.List.{take_more}
use Rattle.vx_step.specs.Kernels.{holds_plain}
use Rattle.vx_step.proofs.KernelsLemmas.{plain_add, not_plain_at}
use Rattle.vx_step.proofs.kernels.bool_binary.are_plain.Goals as goal

pub returns-then-not-holds_plain : goal.returns-then-not-holds_plain
returns-then-not-holds_plain c =
    let slot = c.index-slots-index.result in
    let other : holds_plain slot ≡ false = search rules in
    sym (not_plain_at c.args.slots.now c.loop-index.index slot c.loop-index-test.true (ap holds_plain (sym c.index-slots-index.is) ∙ other))

pub loop-index-preserved : goal.loop-index-preserved
loop-index-preserved c =
    let slot = c.index-slots-index.result in
    let plain : holds_plain slot ≡ true = search rules in
    rw (take_more c.args.slots.now c.loop-index.index slot c.loop-index-test.true, ← c.index-slots-index.is)
    (plain_add (take c.loop-index.index c.args.slots.now) slot c.loop-index.invariant plain)
