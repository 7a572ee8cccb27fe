use Rattle.std.proofs.Common.{◌≡◌, ◌&&◌, false, map, sym, subst}
use Rattle.std.specs.List.{range_with_len}
use Rattle.vx_mask.specs.Logic.{bit_row}
use Rattle.vx_column.specs.ValidRows.{is_valid}
use Rattle.vx_column.proofs.ValidRowsLemmas.{by_rows}
use Rattle.vx_column.proofs.functions.kernel.valid.keep_valid.Goals as goal

pub returns-in-All : goal.returns-in-All
returns-in-All c =
    let bits = c.args.bits in
    subst (λ v. bits ≡ map (λ i. is_valid v i && bit_row bits i) (range_with_len 0 c.args.len)) (sym c.in-All.is)
    (by_rows bits false c.args.len c.requires.bits)
