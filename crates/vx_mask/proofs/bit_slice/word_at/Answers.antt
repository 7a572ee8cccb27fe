use Rattle.std.specs.Prelude.{◌==◌}
use Rattle.std.specs.Option.{unwrap_or}
use Rattle.std.proofs.Common.{◌≡◌, ◌+◌, slice_index, arith, ap, ◌∙◌, refl}
use Rattle.vx_mask.proofs.Words.{bit_from}
use Rattle.vx_mask.proofs.bit_slice.word_at.Goals as goal

pub returns-else-by-eq0 : goal.returns-else-by-eq0
returns-else-by-eq0 c i h =
    let words = c.args.words.now in
    let place = c.args.place in
    let high : c.unwrap_or.result ≡ slice_index words (place + 1) =
    c.unwrap_or.ensures ∙ ap (λ o. unwrap_or o 0) c.copied.ensures ∙ c.get.ensures.lookup.4 (omega arith) 0 in
    ap (λ x. x == 1) (c.joined.ensures i h) ∙ bit_from words place c.args.by i _ _ (omega arith) refl high h
