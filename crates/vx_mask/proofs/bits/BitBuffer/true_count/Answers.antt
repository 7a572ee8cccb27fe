use Rattle.std.proofs.Common.{◌+◌, ◌*◌, arith}
use Rattle.vx_mask.proofs.PlacesLemmas.{true_count-nil, true_count-le-length}
use Rattle.vx_mask.proofs.PartPlaces.{count_more, count_last, count_fits}
use Rattle.vx_mask.proofs.bits.BitBuffer.true_count.Goals as goal

pub loop-k-init : goal.loop-k-init
loop-k-init c = true_count-nil

pub overflow_add-count : goal.overflow_add-count
overflow_add-count c = record { fits = omega (arith, count_fits c.args.self.now c.loop-k.k c.full_word.result c.full_word.ensures (omega arith)) }

pub loop-k-preserved : goal.loop-k-preserved
loop-k-preserved c =
    let more = count_more c.args.self.now (64 * c.loop-k.k) (64 * (c.loop-k.k + 1)) c.full_word.result c.full_word.ensures (omega arith) (omega arith) in
    omega (arith, more)

pub overflow_add-result : goal.overflow_add-result
overflow_add-result c =
    let all = count_last c.args.self.now c.loop-k.k c.last_word.result (omega arith) c.last_word.ensures in
    record { fits = omega (arith, all, true_count-le-length c.args.self.now) }

pub returns : goal.returns
returns c = omega (arith, count_last c.args.self.now c.loop-k.k c.last_word.result (omega arith) c.last_word.ensures)
