use Rattle.std.proofs.Common.{◌≡◌, length}
use Rattle.vx_rule.specs.StructCasts.{AreFirstCast}
use Rattle.vx_rule.proofs.builtins.struct_cast.cast_fields.Given as goal

abbrev pub invariant-loop-index : goal.invariant-loop-index
invariant-loop-index l = AreFirstCast l.fields l.columns l.casts.items × (length l.casts.items ≡ l.index)
