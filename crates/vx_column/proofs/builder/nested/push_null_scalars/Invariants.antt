use Rattle.std.proofs.Common.{◌≡◌, ◌+◌, ◌≤◌, ◌++◌, replicate, vec_len}
use Rattle.std.specs.Prelude.{vec_capacity}
use Rattle.vx_value.specs.Values.{null}
use Rattle.vx_value.specs.View.{type_of}
use Rattle.vx_column.proofs.builder.nested.push_null_scalars.Given as goal

-- as many nulls as were counted, and room for the others
abbrev pub invariant-loop : goal.invariant-loop
invariant-loop l = record {
  pushed : l.scalars.items ≡ l.initial.scalars.items ++ replicate l.counter (record { of_type = type_of l.dtype; value = null });
  room : vec_len l.scalars + l.more ≤ vec_capacity l.scalars + l.counter;
}
