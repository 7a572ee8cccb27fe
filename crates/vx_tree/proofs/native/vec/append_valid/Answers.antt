use Rattle.std.proofs.Common.{◌∙◌, arith, ap, map}
use Rattle.vx_tree.specs.Vecs.{valid_number}
use Rattle.vx_tree.proofs.VecsLemmas.{appended_more}
use Rattle.vx_tree.proofs.native.vec.append_valid.Goals as goal

pub loop-index-preserved : goal.loop-index-preserved
loop-index-preserved g c =
    let f = g.T.Number.value in
    let numbers = map f c.as_slice-items.result.now in
    let before = c.loop-index.invariant in
    record {
      room = omega (arith, before.room, c.push_reserved.ensures.capacity);
      count = omega (arith, before.count, c.push_reserved.ensures.len);
      done = ap (map f) c.push_reserved.ensures.items
          ∙ appended_more f (valid_number c.args.valid.now numbers) (map f c.reserve.new.self.items) c.loop-index.values.items c.loop-index.index
          c.valid_or_zero.result before.done c.valid_or_zero.ensures;
    }
