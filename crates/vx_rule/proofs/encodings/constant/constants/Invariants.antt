use Rattle.std.proofs.Common.{◌≡◌, take, Some}
use Rattle.vx_tree.specs.Tree.{slots_of}
use Rattle.vx_rule.specs.Constants.{constant_values}
use Rattle.vx_rule.proofs.encodings.constant.constants.Given as goal

abbrev pub invariant-loop-index : goal.invariant-loop-index
invariant-loop-index l = constant_values (slots_of (take l.index l.slots)) ≡ Some l.scalars.items
