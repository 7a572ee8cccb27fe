use Rattle.std.proofs.Common.{◌≡◌, ◌≤◌, ◌+◌, ◌++◌, map, length, vec_len, vec_capacity}
use Rattle.std.specs.List.{range_with_len}
use Rattle.vx_tree.specs.Vecs.{valid_number}
use Rattle.vx_tree.proofs.native.vec.append_valid.Given as goal

abbrev pub invariant-loop-index : goal.invariant-loop-index
invariant-loop-index g l = record {
  room : vec_len l.initial.values + length l.items ≤ vec_capacity l.values;
  count : vec_len l.values ≡ vec_len l.initial.values + l.index;
  done : map g.T.Number.value l.values.items
      ≡ map g.T.Number.value l.initial.values.items ++ map (valid_number l.valid (map g.T.Number.value l.items)) (range_with_len 0 l.index);
}
