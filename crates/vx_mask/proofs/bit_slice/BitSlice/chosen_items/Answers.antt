use Rattle.std.proofs.Common.{◌+◌, ◌*◌, ◌/◌, length, take, arith, ap, ◌∙◌}
use Rattle.vx_mask.proofs.PartPlaces.{true_count-take-le}
use Rattle.vx_mask.proofs.ChosenWords.{part_more, part_last, part_pushed, chosen_start}
use Rattle.vx_mask.proofs.bit_slice.BitSlice.chosen_items.Goals as goal

pub loop-k-init : goal.loop-k-init
loop-k-init g c = record {
  room = omega (arith, c.in_ok-kept.ensures.capacity);
  done = c.in_ok-kept.ensures.items ∙ chosen_start c.args.items.now;
}

pub push_items-requires-clause-each : goal.push_items-requires-clause-each
push_items-requires-clause-each g c =
    (part_more c.args.self.now c.args.items.now (64 * c.loop-k.k) (64 * (c.loop-k.k + 1)) c.full_word.result c.full_word.ensures
    (omega arith) (omega arith) (omega arith)).each

pub push_items-requires-clause-room : goal.push_items-requires-clause-room
push_items-requires-clause-room g c =
    let bits = c.args.self.now in
    let next = 64 * (c.loop-k.k + 1) in
    let part = part_more bits c.args.items.now (64 * c.loop-k.k) next c.full_word.result c.full_word.ensures (omega arith) (omega arith) (omega arith) in
    omega (arith, part.count, ap length c.loop-k.invariant.done, true_count-take-le next bits, c.loop-k.invariant.room, c.loop-k.kept.ok.0)

pub loop-k-preserved : goal.loop-k-preserved
loop-k-preserved g c =
    let bits = c.args.self.now in
    let items = c.args.items.now in
    let from = 64 * c.loop-k.k in
    let next = 64 * (c.loop-k.k + 1) in
    let word = c.full_word.result in
    let part = part_more bits items from next word c.full_word.ensures (omega arith) (omega arith) (omega arith) in
    record {
      room = omega (arith, c.loop-k.invariant.room, c.push_items.ensures.capacity);
      done = part_pushed items c.loop-k.kept.items c.push_items.new.kept.items (take from bits) (take next bits) from word
          part c.loop-k.invariant.done c.in_ok-push_items.ensures.items;
    }

pub push_items-requires-2-clause-each : goal.push_items-requires-2-clause-each
push_items-requires-2-clause-each g c =
    (part_last c.args.self.now c.args.items.now c.loop-k.k (c.len-full.result / 64) c.last_word.result (omega arith) (omega arith) c.last_word.ensures
    (omega arith)).each

pub push_items-requires-2-clause-room : goal.push_items-requires-2-clause-room
push_items-requires-2-clause-room g c =
    let part = part_last c.args.self.now c.args.items.now c.loop-k.k (c.len-full.result / 64) c.last_word.result (omega arith)
    (omega arith) c.last_word.ensures (omega arith) in
    omega (arith, part.count, ap length c.loop-k.invariant.done, c.loop-k.invariant.room, c.loop-k.kept.ok.0)

pub returns : goal.returns
returns g c =
    let bits = c.args.self.now in
    let items = c.args.items.now in
    let k = c.loop-k.k in
    let full = c.len-full.result / 64 in
    let word = c.last_word.result in
    let part = part_last bits items k full word (omega arith) (omega arith) c.last_word.ensures (omega arith) in
    part_pushed items c.loop-k.kept.items c.push_items-2.new.kept.items (take (64 * k) bits) bits (64 * full) word
    part c.loop-k.invariant.done c.in_ok-push_items-2.ensures.items
