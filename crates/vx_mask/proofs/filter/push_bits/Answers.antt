use Rattle.std.proofs.Common.{◌≡◌, ◌++◌, arith, sym, ap, ◌∙◌}
use Rattle.std.proofs.lemmas.List.{append-nil, take_all}
use Rattle.vx_mask.specs.Words.{low_bits}
use Rattle.vx_mask.specs.Places.{chosen}
use Rattle.vx_mask.proofs.WordBits.{true_count-le_size, length-low_bits}
use Rattle.vx_mask.proofs.ChosenWords.{chosen_of_ones, chosen_of_zeros}
use Rattle.vx_mask.proofs.filter.push_bits.Goals as goal

pub push_bits-requires-else-word-eq18446744073709551615-clause-size :
    goal.push_bits-requires-else-word-eq18446744073709551615-clause-size
push_bits-requires-else-word-eq18446744073709551615-clause-size c = omega (arith, c.ones_in.ensures, true_count-le_size 64 c.args.word)

pub returns-then-word-eq0 : goal.returns-then-word-eq0
returns-then-word-eq0 c =
    let kept = c.args.kept.now in
    sym (append-nil kept) ∙ ap (λ l. kept ++ l) (sym (chosen_of_zeros c.args.word (low_bits 64 c.args.bits) c.if-word-eq0.true))

pub returns-then-word-eq18446744073709551615 : goal.returns-then-word-eq18446744073709551615
returns-then-word-eq18446744073709551615 c =
    let bits = low_bits 64 c.args.bits in
    let all : chosen (low_bits 64 c.args.word) bits ≡ bits =
    chosen_of_ones c.args.word bits c.if-word-eq18446744073709551615.true ∙ take_all 64 bits (omega (arith, length-low_bits 64 c.args.bits)) in
    rw all c.push_bits.ensures.ok
