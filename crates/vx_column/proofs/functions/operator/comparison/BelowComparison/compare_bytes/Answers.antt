use Rattle.std.proofs.Common.{rules}
use Rattle.vx_column.proofs.functions.operator.comparison.BelowComparison.compare_bytes.Goals as goal

pub returns : goal.returns
returns c = search rules
