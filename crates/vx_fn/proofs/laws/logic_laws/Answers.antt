use Rattle.vx_fn.proofs.LogicLemmas.{and_by_or, or_by_and, negation_is}
use Rattle.vx_fn.proofs.BinaryLemmas.{and_applied, or_applied, and_is, or_is}
use Rattle.vx_fn.proofs.laws.logic_laws.Goals as goal

pub returns : goal.returns
returns c = record {
  and_commutes = and_applied;
  or_commutes = or_applied;
  and_by_or = and_by_or;
  or_by_and = or_by_and;
  and_is = and_is;
  or_is = or_is;
  not_is = negation_is;
}
