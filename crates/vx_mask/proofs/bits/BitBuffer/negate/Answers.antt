use Rattle.std.proofs.Common.{true}
use Rattle.std.specs.Prelude.{not}
use Rattle.std.specs.Ordering.{bool_cmp, is_ne}
use Rattle.vx_mask.specs.Logic.{bit_row}
use Rattle.vx_mask.proofs.Lists.{same_below}
use Rattle.vx_mask.proofs.Operations.{differs_from_true}
use Rattle.vx_mask.proofs.bits.BitBuffer.negate.Goals as goal

pub returns : goal.returns
returns c =
    let bit = bit_row c.args.self.now in
    let rows = same_below c.len.result (λ i. is_ne (bool_cmp (bit i) true)) (λ i. not (bit i)) (λ i h. differs_from_true (bit i)) in
    rw (← c.len.ensures, ← rows) c.zip.ensures
