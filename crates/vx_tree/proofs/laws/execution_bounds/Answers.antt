use Rattle.vx_tree.proofs.WeightLemmas.{cost_positive}
use Rattle.vx_tree.proofs.CostLemmas.{function_cost, function_reach, item_reach, column_cost, column_reach, masked_cost, masked_reach, chunked_cost, interleave_cost}
use Rattle.vx_tree.proofs.laws.execution_bounds.Goals as goal

pub returns-clause-positive : goal.returns-clause-positive
returns-clause-positive c = cost_positive

pub returns-clause-columns : goal.returns-clause-columns
returns-clause-columns c = column_cost

pub returns-clause-column_reach : goal.returns-clause-column_reach
returns-clause-column_reach c = column_reach

pub returns-clause-functions : goal.returns-clause-functions
returns-clause-functions c = function_cost

pub returns-clause-function_reach : goal.returns-clause-function_reach
returns-clause-function_reach c = function_reach

pub returns-clause-item_reach : goal.returns-clause-item_reach
returns-clause-item_reach c = item_reach

pub returns-clause-masks : goal.returns-clause-masks
returns-clause-masks c = masked_cost

pub returns-clause-mask_reach : goal.returns-clause-mask_reach
returns-clause-mask_reach c = masked_reach

pub returns-clause-chunks : goal.returns-clause-chunks
returns-clause-chunks c = chunked_cost

pub returns-clause-interleaves : goal.returns-clause-interleaves
returns-clause-interleaves c = interleave_cost
