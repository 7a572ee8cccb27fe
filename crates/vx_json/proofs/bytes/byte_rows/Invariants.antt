use Rattle.std.proofs.Common.{◌≡◌, [], true}
use Rattle.vx_tree.specs.ColumnTypes.{are_bytes_of}
use Rattle.vx_json.specs.SpelledValues.{bytes_spelled}
use Rattle.vx_json.proofs.ReadRowsLemmas.{AreReadTo}
use Rattle.vx_json.proofs.bytes.byte_rows.Given as goal

-- the bytes of the rows so far, which are of their type
abbrev pub invariant-loop-value : goal.invariant-loop-value
invariant-loop-value g l = record {
  read : AreReadTo g.N.RowNulls.mode [] (bytes_spelled l.storage) l.list.items l.value-index l.rows (g.N.RowNulls.told l.nulls);
  typed : are_bytes_of l.storage l.rows ≡ true;
}
