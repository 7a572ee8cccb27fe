use Rattle.std.specs.Prelude.{bit_and}
use Rattle.std.proofs.Common.{◌≡◌, ◌+◌, ◌*◌, ◌/◌, ◌%◌, ◌^◌, ◌-◌, ◌++◌, length, take, arith, ap, ◌∙◌}
use Rattle.vx_mask.specs.Words.{low_bits}
use Rattle.vx_mask.proofs.Pushes.{appended_word, appended_rest}
use Rattle.vx_mask.proofs.builder.BitBuilder.push_words.Goals as goal

pub loop-k-preserved : goal.loop-k-preserved
loop-k-preserved c =
    let word = c.full_word.result in
    c.in_ok-push_bits.ensures.ok ∙ ap (λ l. l ++ low_bits 64 word) c.loop-k.invariant
    ∙ appended_word c.args.self.now c.args.bits.now c.loop-k.k word c.full_word.ensures (omega arith)

pub returns-clause-ok : goal.returns-clause-ok
returns-clause-ok c =
    let bits = c.args.bits.now in
    let full = c.len-full.result / 64 in
    let rest = c.len-rest.result % 64 in
    let done : c.loop-k.k ≡ full = omega arith in
    let all : 64 * full + rest ≡ length bits = omega (arith, c.len-full.ensures, c.len-rest.ensures) in
    let last = bit_and c.word.result (1 * 2 ^ rest % 2 ^ 64 - 1) in
    let same : c.loop-k.self ++ low_bits rest last ≡ c.args.self.now ++ bits =
    ap (λ l. l ++ low_bits rest last) (c.loop-k.invariant ∙ ap (λ k. c.args.self.now ++ take (64 * k) bits) done)
    ∙ appended_rest c.args.self.now bits full c.word.result rest c.word.ensures all (omega arith) in
    rw (← same) c.push_bits-2.ensures.ok
