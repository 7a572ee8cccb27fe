use Rattle.std.proofs.Common.{◌∙◌, arith, length-take, length-drop}
use Rattle.std.proofs.lemmas.List.{take_rest}
use Rattle.vx_main.proofs.StreamsLemmas.{appends_more}
use Rattle.vx_main.proofs.streams.write.write_all.Goals as goal

pub loop-done-preserved : goal.loop-done-preserved
loop-done-preserved g c =
    let within = simp (length-take, length-drop) at c.in_ok-done.ensures.bound in
    let taken = rw (take_rest c.args.bytes.now c.loop-done.done) at c.in_ok-done.ensures.bytes in
    record {
      within = omega arith;
      put = appends_more _ _ _ c.args.bytes.now c.loop-done.done c.in_ok-done.field-0 c.loop-done.invariant.put taken;
      kept = c.in_ok-done.ensures.cause.kept ∙ c.loop-done.invariant.kept;
    }
