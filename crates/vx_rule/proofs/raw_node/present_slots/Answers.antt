use Rattle.std.proofs.Common.{rules, ◌≡◌, length, take, arith, true, false, sym}
use Rattle.std.specs.Prelude.{is_some}
use Rattle.std.proofs.lemmas.List.{take_more, length-take-le}
use Rattle.vx_rule.proofs.PresentLemmas.{present_more, absent_more, some_is, none_is}
use Rattle.vx_rule.proofs.raw_node.present_slots.Goals as goal
use Rattle.vx_rule.proofs.raw_node.present_slots.Goals.{then-is_some+in_ok-push, else-is_some}

pub loop-index-preserved : goal.loop-index-preserved
loop-index-preserved c =
    let s = c.index-slots-index.result in
    let xs = take c.loop-index.index c.args.slots.now in
    let counted : length xs ≡ c.loop-index.index = length-take-le c.loop-index.index c.args.slots.now (omega (arith, c.loop-index-test.true)) in
    rw (take_more c.args.slots.now c.loop-index.index s c.loop-index-test.true, ← c.index-slots-index.is)
    (elim c.if-is_some.branch [
      | then-is_some+in_ok-push w ↦
          let here : is_some s ≡ true = search rules in
          let found = some_is s here in
          rw (w.present-is, w.in_ok-push.ensures.items, c.loop-index.invariant) (sym (present_more xs s c.loop-index.index found.0 counted found.1))
      | else-is_some w ↦
          let here : is_some s ≡ false = search rules in
          rw (w.present-is, c.loop-index.invariant) (sym (absent_more xs s (none_is s here)))
    ])
