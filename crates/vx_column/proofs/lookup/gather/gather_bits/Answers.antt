use Rattle.std.proofs.Common.{ap, ◌∙◌}
use Rattle.std.specs.Prelude.{◌&&◌}
use Rattle.vx_mask.specs.Operands.{bit_in}
use Rattle.vx_column.specs.LookedUp.{place_at}
use Rattle.vx_column.specs.ValidRows.{is_valid}
use Rattle.vx_column.proofs.ComputedLemmas.{items_more}
use Rattle.vx_column.proofs.lookup.gather.gather_bits.Goals as goal

pub loop-index-preserved : goal.loop-index-preserved
loop-index-preserved c =
    let i = c.loop-index.index in
    let bits = c.args.bits in
    let places = c.args.places.now in
    c.in_ok-push.ensures.ok
    ∙ items_more (λ k. is_valid c.args.valid.now k && bit_in bits (place_at places k)) c.loop-index.gathered i c.kept_bit-kept.result c.loop-index.invariant
    (c.kept_bit-kept.ensures ∙ ap (λ b. b && bit_in bits (place_at places i)) c.is_valid.ensures)
