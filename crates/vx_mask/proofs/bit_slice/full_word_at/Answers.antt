use Rattle.std.specs.Prelude.{◌==◌}
use Rattle.std.proofs.Common.{arith, ap, ◌∙◌, refl}
use Rattle.vx_mask.proofs.Words.{bit_from}
use Rattle.vx_mask.proofs.bit_slice.full_word_at.Goals as goal

pub returns-else-by-eq0 : goal.returns-else-by-eq0
returns-else-by-eq0 c i h =
    ap (λ x. x == 1) (c.joined.ensures i h) ∙ bit_from c.args.words.now c.args.place c.args.by i _ _ (omega arith) refl refl h
