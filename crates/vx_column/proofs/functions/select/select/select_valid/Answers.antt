use Rattle.std.proofs.Common.{if◌then◌else◌, ◌∙◌}
use Rattle.vx_column.proofs.ValidRowsLemmas.{bit_made}
use Rattle.vx_mask.specs.Operands.{bit_in}
use Rattle.vx_column.proofs.functions.select.select.select_valid.Goals as goal

pub returns-in_ok-bits-in_default-clause-rows : goal.returns-in_ok-bits-in_default-clause-rows
returns-in_ok-bits-in_default-clause-rows c =
    λ i lt. bit_made _ c.in_ok-bits-in_default.bits c.args.len i c.in_ok-bits-in_default.ensures lt
    ∙ (λ j. if bit_in c.args.choice i then c.as_operand.ensures.bits i j else c.as_operand-in_default.ensures.bits i j)
