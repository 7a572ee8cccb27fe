use Rattle.std.proofs.Common.{◌≡◌, arith, ap, ◌∙◌}
use Rattle.vx_mask.specs.Words.{low_bits}
use Rattle.vx_mask.proofs.Spread.{spread_bits, spread_bits-zero, spread_bits-lt, spread_bits-step, spread_is}
use Rattle.vx_mask.proofs.word.spread.Goals as goal

pub loop-left-init : goal.loop-left-init
loop-left-init c = omega arith

pub overflow_add-word : goal.overflow_add-word
overflow_add-word c =
    let step = spread_bits-step 64 c.loop-left.left c.loop-left.bits (omega arith) (omega arith) in
    record { fits = omega (arith, step, spread_bits-lt 64 c.args.outer c.args.inner) }

pub loop-left-preserved : goal.loop-left-preserved
loop-left-preserved c = omega (arith, spread_bits-step 64 c.loop-left.left c.loop-left.bits (omega arith) (omega arith))

pub returns : goal.returns
returns c =
    let rest : spread_bits 64 c.loop-left.left c.loop-left.bits ≡ 0 =
    ap (λ l. spread_bits 64 l c.loop-left.bits) c.loop-left-test.false ∙ spread_bits-zero 64 c.loop-left.bits in
    let all : c.loop-left.word ≡ spread_bits 64 c.args.outer c.args.inner = omega arith in
    ap (low_bits 64) all ∙ spread_is 64 c.args.outer c.args.inner (omega arith)
