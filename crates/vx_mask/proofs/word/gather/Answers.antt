use Rattle.std.proofs.Common.{◌≡◌, ◌<◌, ◌*◌, ◌^◌, arith, ap, ◌∙◌}
use Rattle.vx_mask.specs.Words.{low_bits}
use Rattle.vx_mask.specs.Places.{true_count}
use Rattle.vx_mask.proofs.WordBits.{cleared_count, some_word, true_count-le_size}
use Rattle.vx_mask.proofs.Gather.{gathered, gathered-step, gathered-none, gathered-fits, gathered-above, gathered-bits, lowest_inside}
use Rattle.vx_mask.proofs.word.gather.Goals as goal

pub overflow_shr-gathered : goal.overflow_shr-gathered
overflow_shr-gathered c =
    lowest_inside c.loop-count.left (some_word 64 c.loop-count.left (omega (arith, c.loop-count.invariant.enough))) (omega arith)

pub overflow_shl-gathered : goal.overflow_shl-gathered
overflow_shl-gathered c = omega (arith, true_count-le_size 64 c.args.places)

pub overflow_add-gathered : goal.overflow_add-gathered
overflow_add-gathered c =
    let left = c.loop-count.left in
    let some : 0 < left = some_word 64 left (omega (arith, c.loop-count.invariant.enough)) in
    let step = gathered-step left c.args.word c.loop-count.count some (omega arith) (omega (arith, true_count-le_size 64 c.args.places)) in
    record { fits = omega (arith, step, c.loop-count.invariant.done, gathered-fits c.args.places c.args.word) }

pub overflow_sub-left : goal.overflow_sub-left
overflow_sub-left c = some_word 64 c.loop-count.left (omega (arith, c.loop-count.invariant.enough))

pub loop-count-preserved : goal.loop-count-preserved
loop-count-preserved c =
    let left = c.loop-count.left in
    let some : 0 < left = some_word 64 left (omega (arith, c.loop-count.invariant.enough)) in
    let step = gathered-step left c.args.word c.loop-count.count some (omega arith) (omega (arith, true_count-le_size 64 c.args.places)) in
    record {
      enough = omega (arith, c.loop-count.invariant.enough, cleared_count 64 left some (omega arith));
      done = omega (arith, step, c.loop-count.invariant.done);
    }

all : (c : goal.After-loop-count) → c.loop-count.gathered ≡ gathered c.args.places c.args.word
all c =
    let left = c.loop-count.left in
    let none : gathered left c.args.word ≡ 0 = gathered-none left c.args.word (omega (arith, c.loop-count.invariant.enough)) in
    let rest = ap (λ n. 2 ^ c.loop-count.count * n) none in
    omega (arith, c.loop-count.invariant.done, rest)

pub returns-clause-bits : goal.returns-clause-bits
returns-clause-bits c = ap (low_bits (true_count (low_bits 64 c.args.places))) (all c) ∙ gathered-bits c.args.places c.args.word

pub returns-clause-above : goal.returns-clause-above
returns-clause-above c = omega (arith, all c, gathered-above c.args.places c.args.word)
