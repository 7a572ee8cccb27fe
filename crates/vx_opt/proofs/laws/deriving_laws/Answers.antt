use Rattle.vx_opt.proofs.DerivesLemmas.{reaches_row, reaches_trans, reaches_inside, reaches_answer}
use Rattle.vx_opt.proofs.laws.deriving_laws.Goals as goal

pub returns-clause-row : goal.returns-clause-row
returns-clause-row c = reaches_row

pub returns-clause-after : goal.returns-clause-after
returns-clause-after c = reaches_trans

pub returns-clause-inside : goal.returns-clause-inside
returns-clause-inside c = reaches_inside

pub returns-clause-handed_in : goal.returns-clause-handed_in
returns-clause-handed_in c = reaches_answer
