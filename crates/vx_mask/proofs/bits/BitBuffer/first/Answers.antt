use Rattle.std.specs.Prelude.{Some}
use Rattle.std.proofs.Common.{◌≡◌, ◌+◌, ◌*◌, ◌/◌, take, arith, ap, ◌∙◌, sym}
use Rattle.vx_mask.specs.Places.{true_count, true_place}
use Rattle.vx_mask.specs.Words.{low_bits}
use Rattle.vx_mask.proofs.PlacesLemmas.{true_count-nil, true_place-past, place_is}
use Rattle.vx_mask.proofs.WordBits.{low_bits-zero, cleared_count}
use Rattle.vx_mask.proofs.PartPlaces.{count_more, count_last, part_within, part_last, place_in_part}
use Rattle.vx_mask.proofs.bits.BitBuffer.first.Goals as goal

pub loop-k-init : goal.loop-k-init
loop-k-init c = sym true_count-nil

-- within a word, and within the last one
found : (c : goal.After-first_one) → true_place c.args.self.now 0 ≡ Some (64 * c.loop-k.k + c.first_one.result)
found c =
    let bits = c.args.self.now in
    let from = 64 * c.loop-k.k in
    let word = c.full_word-word.result in
    place_in_part bits from word 0 0 c.first_one.result (part_within bits from word c.full_word-word.ensures (omega arith)) (omega arith) (omega arith)
    (omega (arith, cleared_count 64 word (omega arith) (omega arith))) c.first_one.ensures

found_last : (c : goal.After-first_one-then-last-ne0)
    → true_place c.args.self.now 0 ≡ Some (64 * (c.len-full.result / 64) + c.first_one-then-last-ne0.result)
found_last c =
    let bits = c.args.self.now in
    let full = c.len-full.result / 64 in
    let word = c.last_word-last.result in
    let before : true_count (take (64 * full) bits) ≡ 0 = ap (λ n. true_count (take (64 * n) bits)) (omega arith) ∙ c.loop-k.invariant in
    let part = part_last bits full word (omega arith) c.last_word-last.ensures in
    place_in_part bits (64 * full) word 0 0 c.first_one-then-last-ne0.result part (omega arith) (omega arith)
    (omega (arith, cleared_count 64 word (omega arith) (omega arith))) c.first_one-then-last-ne0.ensures

pub overflow_add-result : goal.overflow_add-result
overflow_add-result c = record { fits = omega (arith, (place_is c.args.self.now 0 _ (found c)).0) }

pub returns-then-word-ne0 : goal.returns-then-word-ne0
returns-then-word-ne0 c = sym (found c)

pub loop-k-preserved : goal.loop-k-preserved
loop-k-preserved c =
    let k = c.loop-k.k in
    let none : true_count (low_bits 64 c.full_word-word.result) ≡ 0 = ap (λ w. true_count (low_bits 64 w)) c.if-word-ne0.false ∙ low_bits-zero 64 in
    omega (arith, none, count_more c.args.self.now (64 * k) (64 * (k + 1)) c.full_word-word.result c.full_word-word.ensures (omega arith) (omega arith))

pub overflow_add-result-then-last-ne0 : goal.overflow_add-result-then-last-ne0
overflow_add-result-then-last-ne0 c = record { fits = omega (arith, (place_is c.args.self.now 0 _ (found_last c)).0) }

pub returns-then-last-ne0 : goal.returns-then-last-ne0
returns-then-last-ne0 c = sym (found_last c)

pub returns-else-last-ne0 : goal.returns-else-last-ne0
returns-else-last-ne0 c =
    let bits = c.args.self.now in
    let none : true_count (low_bits 64 c.last_word-last.result) ≡ 0 = ap (λ w. true_count (low_bits 64 w)) c.if-last-ne0.false ∙ low_bits-zero 64 in
    let all = count_last bits c.loop-k.k c.last_word-last.result (omega arith) c.last_word-last.ensures in
    sym (true_place-past bits 0 (omega (arith, all, none)))
