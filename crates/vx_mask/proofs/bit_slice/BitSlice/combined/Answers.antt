use Rattle.std.proofs.Common.{◌≡◌, ◌+◌, ◌-◌, ◌*◌, ◌/◌, ◌%◌, ◌++◌, false, length, take, replicate, arith, ap, ◌∙◌, sym}
use Rattle.vx_mask.specs.Bits.{bits_of}
use Rattle.vx_mask.specs.Places.{combined}
use Rattle.vx_mask.specs.Words.{low_bits}
use Rattle.vx_mask.proofs.PlacesLemmas.{true_count-nil}
use Rattle.vx_mask.proofs.Parts.{next_word}
use Rattle.vx_mask.proofs.PartPlaces.{count_more, count_last, count_fits, count_within}
use Rattle.vx_mask.proofs.CombinedWords.{combine_none, combine_more, combine_end}
use Rattle.vx_mask.proofs.bit_slice.BitSlice.combined.Goals as goal

pub loop-k-init : goal.loop-k-init
loop-k-init c = record {
  count = omega (arith, c.in_ok-words.ensures.len);
  room = omega (arith, c.in_ok-words.ensures.capacity);
  used = true_count-nil;
  done = combine_none c.in_ok-words.words.items c.args.inner.now (ap length c.in_ok-words.ensures.items);
}

pub spread_over-word-requires : goal.spread_over-word-requires
spread_over-word-requires c = omega (arith, count_within c.args.self.now c.loop-k.k c.full_word.result c.full_word.ensures (omega arith))

pub overflow_add-used : goal.overflow_add-used
overflow_add-used c = record { fits = omega (arith, count_fits c.args.self.now c.loop-k.k c.full_word.result c.full_word.ensures (omega arith)) }

pub loop-k-preserved : goal.loop-k-preserved
loop-k-preserved c =
    let bits = c.args.self.now in
    let inner = c.args.inner.now in
    let from = 64 * c.loop-k.k in
    let more = count_more bits from (64 * (c.loop-k.k + 1)) c.full_word.result c.full_word.ensures (omega arith) (omega arith) in
    let next : from + 64 ≡ 64 * (c.loop-k.k + 1) = omega arith in
    record {
      count = omega arith;
      room = omega arith;
      used = omega (arith, more);
      done = ap bits_of c.push_reserved.ensures.items
          ∙ combine_more c.loop-k.words.items (take from bits) inner c.full_word.result c.spread_over-word.result.0 c.loop-k.used
          c.loop-k.invariant.done c.loop-k.invariant.used c.spread_over-word.ensures.word
          ∙ ap (λ l. combined l inner) (sym (next_word bits from c.full_word.result c.full_word.ensures (omega arith)) ∙ ap (λ n. take n bits) next);
    }

pub spread_over-word-requires-2 : goal.spread_over-word-requires-2
spread_over-word-requires-2 c = omega (arith, count_last c.args.self.now c.loop-k.k c.last_word.result (omega arith) c.last_word.ensures)

pub returns : goal.returns
returns c =
    let bits = c.args.self.now in
    let inner = c.args.inner.now in
    let k = c.loop-k.k in
    let last = c.last_word.result in
    let full : k ≡ length bits / 64 = omega arith in
    let padded : take (64 * k) bits ++ low_bits 64 last ≡ bits ++ replicate (64 - length bits % 64) false =
    ap (λ n. take (64 * n) bits ++ low_bits 64 last) full ∙ c.last_word.ensures in
    let all = combine_more c.loop-k.words.items (take (64 * k) bits) inner last c.spread_over-word-2.result.0 c.loop-k.used
    c.loop-k.invariant.done c.loop-k.invariant.used c.spread_over-word-2.ensures.word in
    let new = c.push_reserved-2.new.self.items in
    let done : bits_of new ≡ combined (bits ++ replicate (64 - length bits % 64) false) inner =
    ap bits_of c.push_reserved-2.ensures.items ∙ all ∙ ap (λ l. combined l inner) padded in
    let result : take c.len.result (bits_of new) ≡ combined bits inner =
    ap (λ n. take n (bits_of new)) c.len.ensures ∙ combine_end new bits inner (64 - length bits % 64) done in
    rw (← result) c.from_words.ensures
