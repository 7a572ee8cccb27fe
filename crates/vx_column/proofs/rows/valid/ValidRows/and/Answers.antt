use Rattle.std.proofs.Common.{◌&&◌, length, false, sym, ap, ◌∙◌, arith}
use Rattle.vx_column.specs.ValidRows.{is_valid}
use Rattle.std.proofs.lemmas.List.FromFn.{get_or-map-range_with_len, length-map-range_with_len}
use Rattle.vx_mask.specs.Logic.{bit_row}
use Rattle.vx_column.proofs.rows.valid.ValidRows.and.Goals as goal

pub returns-in_ok-bits-in-Bits-Bits-clause-rows : goal.returns-in_ok-bits-in-Bits-Bits-clause-rows
returns-in_ok-bits-in-Bits-Bits-clause-rows c =
    λ i lt. ap (λ bs. bit_row bs i) c.in_ok-bits-in-Bits-Bits.ensures ∙ get_or-map-range_with_len _ 0 c.args.len i i false lt (omega arith)
    ∙ (λ j. is_valid (sym c.in-Bits-Bits.is-0 j) i && is_valid (sym c.in-Bits-Bits.is-1 j) i)

pub returns-in_ok-bits-in-Bits-Bits-clause-sized : goal.returns-in_ok-bits-in-Bits-Bits-clause-sized
returns-in_ok-bits-in-Bits-Bits-clause-sized c = ap length c.in_ok-bits-in-Bits-Bits.ensures ∙ length-map-range_with_len _ 0 c.args.len
