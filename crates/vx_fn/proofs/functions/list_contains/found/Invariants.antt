use Rattle.std.proofs.Common.{◌≡◌, ◌||◌, drop}
use Rattle.vx_value.specs.Values.{null}
use Rattle.vx_value.specs.View.{value_of, values_of}
use Rattle.vx_fn.specs.ListContains.{has}
use Rattle.vx_fn.proofs.functions.list_contains.found.Given as goal

-- the needle is among the elements if it is among the rest, and null if it is there or was seen
abbrev pub invariant-loop-element : goal.invariant-loop-element
invariant-loop-element l = record {
  has_needle : has (value_of l.needle) (values_of l.elements) ≡ has (value_of l.needle) (values_of (drop l.element-index l.elements));
  has_null : has null (values_of l.elements) ≡ (l.has_null || has null (values_of (drop l.element-index l.elements)));
}
