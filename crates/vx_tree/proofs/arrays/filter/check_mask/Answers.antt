use Rattle.std.proofs.Common.{◌∙◌, sym}
use Rattle.vx_tree.proofs.arrays.filter.check_mask.Goals as goal

pub returns-then-len-clause-ok : goal.returns-then-len-clause-ok
returns-then-len-clause-ok c = sym c.len.ensures ∙ c.if-len.true
