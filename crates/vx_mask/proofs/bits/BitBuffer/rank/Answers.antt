use Rattle.std.specs.Prelude.{Some}
use Rattle.std.proofs.Common.{◌≡◌, ◌+◌, ◌*◌, ◌/◌, take, arith, ap, ◌∙◌, sym}
use Rattle.vx_mask.specs.Places.{true_count, true_place}
use Rattle.vx_mask.proofs.PlacesLemmas.{true_count-nil, true_place-past, place_is}
use Rattle.vx_mask.proofs.PartPlaces.{count_more, count_last, part_within, part_last, place_in_part}
use Rattle.vx_mask.proofs.bits.BitBuffer.rank.Goals as goal

pub loop-place-init : goal.loop-place-init
loop-place-init c = omega (arith, true_count-nil)

-- within a word, and within the last one
found : (c : goal.After-nth_one) → true_place c.args.self.now c.args.k ≡ Some (64 * c.loop-place.place + c.nth_one.result)
found c =
    let bits = c.args.self.now in
    let from = 64 * c.loop-place.place in
    place_in_part bits from c.full_word-word.result c.args.k c.loop-place.left c.nth_one.result
    (part_within bits from c.full_word-word.result c.full_word-word.ensures (omega arith)) (omega arith) c.loop-place.invariant (omega arith) c.nth_one.ensures

found_last : (c : goal.After-nth_one-then-left-ones_in)
    → true_place c.args.self.now c.args.k ≡ Some (64 * (c.len-full.result / 64) + c.nth_one-then-left-ones_in.result)
found_last c =
    let bits = c.args.self.now in
    let full = c.len-full.result / 64 in
    let before : c.loop-place.left + true_count (take (64 * full) bits) ≡ c.args.k =
    ap (λ n. c.loop-place.left + true_count (take (64 * n) bits)) (omega arith) ∙ c.loop-place.invariant in
    place_in_part bits (64 * full) c.last_word-last.result c.args.k c.loop-place.left c.nth_one-then-left-ones_in.result
    (part_last bits full c.last_word-last.result (omega arith) c.last_word-last.ensures) (omega arith) before (omega arith) c.nth_one-then-left-ones_in.ensures

pub overflow_add-result : goal.overflow_add-result
overflow_add-result c = record { fits = omega (arith, (place_is c.args.self.now c.args.k _ (found c)).0) }

pub returns-then-left-ones : goal.returns-then-left-ones
returns-then-left-ones c = sym (found c)

pub loop-place-preserved : goal.loop-place-preserved
loop-place-preserved c =
    let place = c.loop-place.place in
    omega (arith, count_more c.args.self.now (64 * place) (64 * (place + 1)) c.full_word-word.result c.full_word-word.ensures (omega arith) (omega arith))

pub overflow_add-result-then-left-ones_in : goal.overflow_add-result-then-left-ones_in
overflow_add-result-then-left-ones_in c = record { fits = omega (arith, (place_is c.args.self.now c.args.k _ (found_last c)).0) }

pub returns-then-left-ones_in : goal.returns-then-left-ones_in
returns-then-left-ones_in c = sym (found_last c)

pub returns-else-left-ones_in : goal.returns-else-left-ones_in
returns-else-left-ones_in c =
    let bits = c.args.self.now in
    let all = count_last bits c.loop-place.place c.last_word-last.result (omega arith) c.last_word-last.ensures in
    sym (true_place-past bits c.args.k (omega (arith, all)))
