use Rattle.std.proofs.Common.{◌≡◌, length}
use Rattle.vx_rule.specs.DictFunctions.{AreFirstOfValues}
use Rattle.vx_rule.proofs.builtins.dict_fn.arguments_of_values.Given as goal

abbrev pub invariant-loop-index : goal.invariant-loop-index
invariant-loop-index l = AreFirstOfValues l.slot l.values l.arguments l.children.items × (length l.children.items ≡ l.index)
