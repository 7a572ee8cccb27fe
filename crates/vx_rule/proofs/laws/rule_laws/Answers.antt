use Rattle.vx_rule.proofs.AnswersLemmas.{row_determined, row_one_child}
use Rattle.vx_rule.proofs.KeepsLemmas.{row_keeps}
use Rattle.vx_rule.proofs.LighterLemmas.{row_lighter, row_moves, row_present, row_asked}
use Rattle.vx_rule.proofs.laws.rule_laws.Goals as goal

pub returns-clause-keeps : goal.returns-clause-keeps
returns-clause-keeps c = row_keeps

pub returns-clause-lighter : goal.returns-clause-lighter
returns-clause-lighter c = row_lighter

pub returns-clause-present : goal.returns-clause-present
returns-clause-present c = row_present

pub returns-clause-asked : goal.returns-clause-asked
returns-clause-asked c = row_asked

pub returns-clause-moves : goal.returns-clause-moves
returns-clause-moves c = row_moves

pub returns-clause-determined : goal.returns-clause-determined
returns-clause-determined c = row_determined

pub returns-clause-one_child : goal.returns-clause-one_child
returns-clause-one_child c = row_one_child
