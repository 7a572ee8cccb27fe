use Rattle.std.proofs.Common.{◌++◌, false, ap, ◌∙◌, arith}
use Rattle.vx_mask.specs.Operands.{bit_in}
use Rattle.vx_column.proofs.ValidRowsLemmas.{counted}
use Rattle.vx_column.proofs.GrowingLemmas.{copies_rows_or, bits_rows_or}
use Rattle.std.specs.Prelude.{◌&&◌}
use Rattle.vx_mask.specs.Logic.{bit_row}
use Rattle.vx_column.specs.ValidRows.{is_valid}
use Rattle.vx_column.proofs.builder.rows.push_bits.Goals as goal

pub returns-in-Bit-All-clause-ok : goal.returns-in-Bit-All-clause-ok
returns-in-Bit-All-clause-ok c =
    let k = c.in-Bit-All in
    c.in_ok-push_copies.ensures.ok
    ∙ ap (λ l. c.args.kept.now ++ l)
    (copies_rows_or false c.args.valid.now k.field-0-1 (bit_in c.args.bits) k.bit c.args.len k.is-1 (λ i. ap (λ b. bit_in b i) k.is-0))

pub keep_valid-requires-clause-bits : goal.keep_valid-requires-clause-bits
keep_valid-requires-clause-bits c = counted (λ i. bit_in c.args.bits i) c.in_ok-bit_rows.field-0 c.args.len c.in_ok-bit_rows.ensures

pub append-requires : goal.append-requires
append-requires c =
    let rows = c.in_ok-bit_rows.field-0 in
    omega (arith, c.requires.fits, counted (λ i. is_valid c.args.valid.now i && bit_row rows i) c.in_ok-bits.bits c.args.len c.in_ok-bits.ensures)

pub returns-clause-ok : goal.returns-clause-ok
returns-clause-ok c =
    c.in_ok-append.ensures.ok
    ∙ ap (λ l. c.args.kept.now ++ l)
    (bits_rows_or c.args.bits c.args.valid.now c.args.len c.in_ok-bit_rows.field-0 c.in_ok-bits.bits c.in_ok-bit_rows.ensures c.in_ok-bits.ensures)
