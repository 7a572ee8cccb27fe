use Rattle.std.proofs.Common.{◌+◌}
use Rattle.vx_value.specs.Types.{height}
use Rattle.vx_column.proofs.canonicalize.+repeat.Given as goal

-- the type's height, and more where a call goes on with the same value
abbrev pub decreases-repeat : goal.decreases-repeat
decreases-repeat l = height l.scalar.now.of_type + 1

abbrev pub decreases-repeat_extension : goal.decreases-repeat_extension
decreases-repeat_extension l = height l.scalar.now.of_type
