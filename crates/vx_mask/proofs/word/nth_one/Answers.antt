use Rattle.std.proofs.Common.{◌+◌, ◌<◌, ◌≡◌, suc, arith, ◌∙◌, ap, sym}
use Rattle.vx_mask.specs.Places.{true_place}
use Rattle.vx_mask.specs.Words.{low_bits}
use Rattle.vx_mask.proofs.WordBits.{cleared_place, cleared_count, some_word}
use Rattle.vx_mask.proofs.word.nth_one.Goals as goal

pub loop-init : goal.loop-init
loop-init c = record {
  enough = omega arith;
  rest = λ j. ap (true_place (low_bits 64 c.args.word)) (omega arith);
}

pub overflow_sub-left : goal.overflow_sub-left
overflow_sub-left c = some_word 64 c.loop.left (omega arith)

pub loop-preserved : goal.loop-preserved
loop-preserved c =
    let left = c.loop.left in
    let some : 0 < left = some_word 64 left (omega arith) in
    record {
      enough = omega (arith, cleared_count 64 left some (omega arith));
      rest = λ j. cleared_place 64 left j some ∙ c.loop.invariant.rest (suc j) ∙ ap (true_place (low_bits 64 c.args.word)) (omega arith);
    }

pub first_one-requires : goal.first_one-requires
first_one-requires c = some_word 64 c.loop.left (omega arith)

pub returns : goal.returns
returns c =
    let place : c.args.k ≡ c.loop.counter + 0 = omega arith in
    ap (true_place (low_bits 64 c.args.word)) place ∙ sym (c.loop.invariant.rest 0) ∙ c.first_one.ensures
