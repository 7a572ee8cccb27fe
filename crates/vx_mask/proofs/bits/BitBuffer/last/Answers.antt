use Rattle.std.specs.Prelude.{Some}
use Rattle.std.proofs.Common.{◌≡◌, ◌+◌, ◌-◌, ◌*◌, ◌/◌, ◌≤◌, length, take, arith, ap, ◌∙◌, sym}
use Rattle.vx_mask.specs.Places.{true_count, true_place}
use Rattle.vx_mask.specs.Words.{low_bits}
use Rattle.vx_mask.proofs.PlacesLemmas.{true_count-nil, true_place-past, place_is}
use Rattle.vx_mask.proofs.WordBits.{low_bits-zero, cleared_count}
use Rattle.vx_mask.proofs.PartPlaces.{count_more, count_last, part_within, part_last, place_in_part}
use Rattle.vx_mask.proofs.bits.BitBuffer.last.Goals as goal

pub loop-word-init : goal.loop-word-init
loop-word-init c =
    let bits = c.args.self.now in
    let full = c.len-k.result / 64 in
    record {
      fits = omega arith;
      within = omega arith;
      part = part_last bits full c.last_word-word.result (omega arith) c.last_word-word.ensures;
      counted = count_last bits full c.last_word-word.result (omega arith) c.last_word-word.ensures;
    }

pub returns-then-k-eq0 : goal.returns-then-k-eq0
returns-then-k-eq0 c =
    let bits = c.args.self.now in
    let none : true_count (low_bits 64 c.loop-word.word) ≡ 0 = ap (λ w. true_count (low_bits 64 w)) c.loop-word-test.true ∙ low_bits-zero 64 in
    let before : true_count (take (64 * c.loop-word.k) bits) ≡ 0 = ap (λ n. true_count (take (64 * n) bits)) c.if-k-eq0.true ∙ sym true_count-nil in
    sym (true_place-past bits (true_count bits - 1) (omega (arith, c.loop-word.invariant.counted)))

pub loop-word-preserved : goal.loop-word-preserved
loop-word-preserved c =
    let bits = c.args.self.now in
    let k = c.loop-word.k - 1 in
    let none : true_count (low_bits 64 c.loop-word.word) ≡ 0 = ap (λ w. true_count (low_bits 64 w)) c.loop-word-test.true ∙ low_bits-zero 64 in
    let within : 64 * c.loop-word.k ≤ length bits = c.loop-word.invariant.within in
    let counted = c.loop-word.invariant.counted in
    let more = count_more bits (64 * k) (64 * c.loop-word.k) c.full_word-word.result c.full_word-word.ensures (omega arith) within in
    record {
      fits = omega arith;
      within = omega arith;
      part = part_within bits (64 * k) c.full_word-word.result c.full_word-word.ensures (omega arith);
      counted = omega (arith, none, more, counted);
    }

found : (c : goal.After-last_one) → true_place c.args.self.now (true_count c.args.self.now - 1) ≡ Some (64 * c.loop-word.k + c.last_one.result)
found c =
    let bits = c.args.self.now in
    let word = c.loop-word.word in
    let some = cleared_count 64 word (omega arith) (omega arith) in
    let counted = c.loop-word.invariant.counted in
    place_in_part bits (64 * c.loop-word.k) word (true_count bits - 1) (true_count (low_bits 64 word) - 1) c.last_one.result
    c.loop-word.invariant.part c.loop-word.invariant.within (omega arith) (omega arith) c.last_one.ensures

pub overflow_add-result : goal.overflow_add-result
overflow_add-result c = record { fits = omega (arith, (place_is c.args.self.now (true_count c.args.self.now - 1) _ (found c)).0) }

pub returns : goal.returns
returns c = sym (found c)
