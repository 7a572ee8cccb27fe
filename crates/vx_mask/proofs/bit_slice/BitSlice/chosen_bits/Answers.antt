use Rattle.std.proofs.Common.{◌≡◌, ◌+◌, ◌*◌, ◌++◌, arith, ap, sym, ◌∙◌}
use Rattle.vx_mask.specs.Places.{chosen}
use Rattle.vx_mask.specs.Words.{low_bits}
use Rattle.vx_mask.proofs.ChosenWords.{bits_more, bits_last, chosen_start}
use Rattle.vx_mask.proofs.bit_slice.BitSlice.chosen_bits.Goals as goal

pub loop-k-init : goal.loop-k-init
loop-k-init c = c.in_ok-kept.ensures ∙ chosen_start _

pub loop-k-preserved : goal.loop-k-preserved
loop-k-preserved c =
    let word = c.full_word.result in
    let values = c.full_word-in-loop-k.result in
    c.in_ok-push_bits.ensures ∙ ap (λ l. l ++ chosen (low_bits 64 word) (low_bits 64 values)) c.loop-k.invariant
    ∙ sym (bits_more c.args.self.now c.args.bits.now (64 * c.loop-k.k) (64 * (c.loop-k.k + 1)) word values c.full_word.ensures c.full_word-in-loop-k.ensures
    (omega arith) (omega arith) c.requires)

pub returns : goal.returns
returns c =
    let bits = c.args.self.now in
    let values = c.args.bits.now in
    let word = c.last_word.result in
    let last = c.last_word-2.result in
    let all : c.push_bits-2.new.kept ≡ chosen bits values =
    c.in_ok-push_bits-2.ensures ∙ ap (λ l. l ++ chosen (low_bits 64 word) (low_bits 64 last)) c.loop-k.invariant
    ∙ sym (bits_last bits values c.loop-k.k word last (omega arith) c.last_word.ensures c.last_word-2.ensures c.requires) in
    rw (← all) c.finish.ensures
