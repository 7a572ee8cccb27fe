use Rattle.std.proofs.Common.{false, sym, ap, ◌∙◌}
use Rattle.std.specs.Option.{unwrap_or}
use Rattle.std.proofs.lemmas.Option.{unwrap_or-slice_get}
use Rattle.vx_mask.specs.Operands.{bit_in}
use Rattle.vx_column.proofs.lookup.gather.bit_at.Goals as goal

pub returns-in-Bits : goal.returns-in-Bits
returns-in-Bits c =
    let rows = c.in-Bits.rows.now in
    c.unwrap_or.ensures ∙ ap (λ o. unwrap_or o false) c.get.ensures ∙ unwrap_or-slice_get rows c.args.place false ∙ ap (λ b. bit_in b c.args.place) (sym c.in-Bits.is)
