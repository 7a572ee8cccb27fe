use Rattle.std.proofs.Common.{false}
use Rattle.serde_json.specs.Find.{as_bool}
use Rattle.vx_json.proofs.ReadRowsLemmas.{AreReadTo}
use Rattle.vx_json.proofs.values.booleans.Given as goal

-- the booleans of the rows so far
abbrev pub invariant-loop-value : goal.invariant-loop-value
invariant-loop-value g l = AreReadTo g.N.RowNulls.mode false as_bool l.list.items l.value-index l.bits (g.N.RowNulls.told l.nulls)
