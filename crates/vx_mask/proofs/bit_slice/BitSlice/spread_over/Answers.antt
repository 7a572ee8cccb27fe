use Rattle.std.proofs.Common.{◌≤◌, ◌+◌, length, drop, arith, ap, subst, ◌∙◌, sym}
use Rattle.vx_mask.specs.Places.{true_count, combined}
use Rattle.vx_mask.specs.Words.{low_bits}
use Rattle.vx_mask.proofs.PlacesLemmas.{true_count-trues}
use Rattle.vx_mask.proofs.WordBits.{low_bits-zero, cleared_count}
use Rattle.vx_mask.proofs.Parts.{low_bits-trues}
use Rattle.vx_mask.proofs.CombinedWords.{over_none, over_word, over_all}
use Rattle.vx_mask.proofs.bit_slice.BitSlice.spread_over.Goals as goal

pub returns-then-outer-eq0 : goal.returns-then-outer-eq0
returns-then-outer-eq0 c =
    let rest = drop c.args.index c.args.self.now in
    let outer = sym c.if-outer-eq0.true in
    record {
      word = over_none rest ∙ ap (λ w. combined (low_bits 64 w) rest) outer;
      ones = sym (low_bits-zero 64) ∙ ap (λ w. true_count (low_bits 64 w)) outer;
    }

pub word_from-word-requires : goal.word_from-word-requires
word_from-word-requires c = omega (arith, cleared_count 64 c.args.outer (omega arith) (omega arith))

pub returns-then-outer-eq18446744073709551615-clause-word : goal.returns-then-outer-eq18446744073709551615-clause-word
returns-then-outer-eq18446744073709551615-clause-word c =
    let bits = c.args.self.now in
    let outer = c.if-outer-eq18446744073709551615.true in
    let within = subst (λ w. c.args.index + true_count (low_bits 64 w) ≤ length bits) outer c.requires in
    over_all bits c.args.index c.word_from-word.result c.word_from-word.ensures within
    ∙ ap (λ w. combined (low_bits 64 w) (drop c.args.index bits)) (sym outer)

pub returns-then-outer-eq18446744073709551615-clause-ones : goal.returns-then-outer-eq18446744073709551615-clause-ones
returns-then-outer-eq18446744073709551615-clause-ones c =
    sym (ap (λ w. true_count (low_bits 64 w)) c.if-outer-eq18446744073709551615.true ∙ ap true_count (low_bits-trues 64) ∙ true_count-trues 64)

pub returns-else-outer-eq18446744073709551615-clause-word : goal.returns-else-outer-eq18446744073709551615-clause-word
returns-else-outer-eq18446744073709551615-clause-word c =
    c.spread.ensures ∙ over_word c.args.self.now c.args.index c.args.outer c.word_from-word.result c.word_from-word.ensures c.requires
