use Rattle.std.proofs.Common.{◌≡◌, ◌≤◌, length, map, pos, vec_len, vec_capacity}
use Rattle.vx_json.proofs.ReadRowsLemmas.{AreReadTo}
use Rattle.vx_json.proofs.numbers.numbers.Given as goal

-- the numbers of the rows so far, and room for those of the items that are left
abbrev pub invariant-loop-value : goal.invariant-loop-value
invariant-loop-value g l = record {
  counted : vec_len l.numbers ≡ l.value-index;
  room : length l.list.items ≤ vec_capacity l.numbers;
  read : AreReadTo g.N.RowNulls.mode (pos 0) (g.R.NumberReader.spelled l.reader) l.list.items l.value-index
      (map g.T.Number.value l.numbers.items) (g.N.RowNulls.told l.nulls);
}
