use Rattle.vx_rule.proofs.AnswersLemmas.{values_answer}
use Rattle.vx_rule.proofs.QuietLemmas.{codes_quiet}
use Rattle.vx_rule.proofs.laws.take_laws.Goals as goal

pub returns-clause-values : goal.returns-clause-values
returns-clause-values c = values_answer

pub returns-clause-codes : goal.returns-clause-codes
returns-clause-codes c = codes_quiet
