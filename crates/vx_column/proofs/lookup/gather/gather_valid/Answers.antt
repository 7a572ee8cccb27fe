use Rattle.std.proofs.Common.{ap, ◌∙◌}
use Rattle.std.specs.Prelude.{◌&&◌}
use Rattle.vx_column.specs.LookedUp.{place_at}
use Rattle.vx_column.specs.ValidRows.{is_valid}
use Rattle.vx_column.proofs.ValidRowsLemmas.{bit_made, counted}
use Rattle.vx_column.proofs.lookup.gather.gather_valid.Goals as goal

pub returns-in_ok-bits-in_default-clause-rows : goal.returns-in_ok-bits-in_default-clause-rows
returns-in_ok-bits-in_default-clause-rows c =
    λ i lt. bit_made _ c.in_ok-bits-in_default.bits c.args.len i c.in_ok-bits-in_default.ensures lt
    ∙ ap (λ b. is_valid c.args.codes.now i && b) (c.as_operand.ensures.bits (place_at c.args.places.now i))

pub returns-in_ok-bits-in_default-clause-sized : goal.returns-in_ok-bits-in_default-clause-sized
returns-in_ok-bits-in_default-clause-sized c = counted _ c.in_ok-bits-in_default.bits c.args.len c.in_ok-bits-in_default.ensures
