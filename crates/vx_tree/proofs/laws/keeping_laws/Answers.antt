use Rattle.vx_tree.proofs.KeepsLemmas.{keeps_trans, put_keeps, exactly_refl, exactly_trans, put_exactly}
use Rattle.vx_tree.proofs.laws.keeping_laws.Goals as goal

pub returns-clause-reflexive : goal.returns-clause-reflexive
returns-clause-reflexive c = exactly_refl

pub returns-clause-transitive : goal.returns-clause-transitive
returns-clause-transitive c = keeps_trans

pub returns-clause-transitive_exactly : goal.returns-clause-transitive_exactly
returns-clause-transitive_exactly c = exactly_trans

pub returns-clause-in_slot : goal.returns-clause-in_slot
returns-clause-in_slot c = put_keeps

pub returns-clause-in_slot_exactly : goal.returns-clause-in_slot_exactly
returns-clause-in_slot_exactly c = put_exactly
