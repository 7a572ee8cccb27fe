use Rattle.vx_rule.proofs.StopsLemmas.{stops, passes, column_as_row}
use Rattle.vx_rule.proofs.laws.push_laws.Goals as goal

pub returns-clause-stops : goal.returns-clause-stops
returns-clause-stops c = stops

pub returns-clause-passes : goal.returns-clause-passes
returns-clause-passes c = passes

pub returns-clause-column : goal.returns-clause-column
returns-clause-column c = column_as_row
