use Rattle.std.proofs.Common.{sym, ap, ◌∙◌, ◌-◌, replicate}
use Rattle.std.proofs.lemmas.Nat.{one_shl}
use Rattle.vx_mask.specs.Words.{low_bits}
use Rattle.vx_mask.proofs.Parts.{low_bits-trues, low_bits-falses}
use Rattle.vx_mask.proofs.builder.repeated_bit.Goals as goal

pub returns-then-bit-clause-bits : goal.returns-then-bit-clause-bits
returns-then-bit-clause-bits c =
    ap (λ m. low_bits c.args.count (m - 1)) (one_shl c.args.count 64 c.requires) ∙ low_bits-trues c.args.count
    ∙ ap (replicate c.args.count) (sym c.if-bit.true)

pub returns-else-bit-clause-bits : goal.returns-else-bit-clause-bits
returns-else-bit-clause-bits c = low_bits-falses c.args.count ∙ ap (replicate c.args.count) (sym c.if-bit.false)
