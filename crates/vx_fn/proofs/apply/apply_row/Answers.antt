use Rattle.vx_fn.proofs.apply.apply_row.Goals as goal

pub returns-in-Between-clause-ok : goal.returns-in-Between-clause-ok
returns-in-Between-clause-ok c = rw c.in-Between.is c.apply-in-Between.ensures.ok
