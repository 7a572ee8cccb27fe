use Rattle.std.proofs.Common.{◌≡◌, rules, take, true, false, sym, ap, ◌∙◌}
use Rattle.std.proofs.lemmas.List.{take_more}
use Rattle.vx_tree.specs.Refusals.{is_long}
use Rattle.vx_tree.proofs.RefusalsLemmas.{long_more, short_there}
use Rattle.vx_tree.proofs.arrays.scalar_fn.are_long.Goals as goal

pub returns-then-not-has_length : goal.returns-then-not-has_length
returns-then-not-has_length c =
    let short : is_long c.args.len c.slot-item.result ≡ false = search rules in
    let here = ap (is_long c.args.len) (sym c.slot-item.is) ∙ short in
    sym (short_there c.args.len c.args.slots.now c.loop-slot.slot-index c.slot-item.result c.loop-slot-test.true here)

pub loop-slot-preserved : goal.loop-slot-preserved
loop-slot-preserved c =
    let long : is_long c.args.len c.slot-item.result ≡ true = search rules in
    rw (take_more c.args.slots.now c.loop-slot.slot-index c.slot-item.result c.loop-slot-test.true, ← c.slot-item.is)
    (long_more c.args.len (take c.loop-slot.slot-index c.args.slots.now) c.slot-item.result c.loop-slot.invariant long)
