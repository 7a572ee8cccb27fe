use Rattle.std.proofs.Common.{arith, ◌∙◌}
use Rattle.vx_mask.specs.Places.{combined}
use Rattle.vx_mask.proofs.PlacesLemmas.{chosen-combined, length-chosen, length-combined, true_count-combined}
use Rattle.vx_mask.proofs.ChosenLemmas.{chosen-item}
use Rattle.vx_mask.proofs.laws.choice_laws.Goals as goal

pub returns-clause-twice : goal.returns-clause-twice
returns-clause-twice g c outer inner items = chosen-combined outer inner items

pub returns-clause-count : goal.returns-clause-count
returns-clause-count g c bits items size = length-chosen bits items (omega arith)

pub returns-clause-combined_count : goal.returns-clause-combined_count
returns-clause-combined_count g c outer inner items inner_size size =
    length-chosen (combined outer inner) items (omega (arith, length-combined outer inner)) ∙ true_count-combined outer inner (omega arith)

pub returns-clause-item : goal.returns-clause-item
returns-clause-item g c = chosen-item
