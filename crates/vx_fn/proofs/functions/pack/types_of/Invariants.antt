use Rattle.std.proofs.Common.{◌≡◌, map, take, drop}
use Rattle.vx_value.specs.View.{type_of}
use Rattle.vx_fn.specs.Pack.{AreTyped}
use Rattle.vx_fn.proofs.functions.pack.types_of.Given as goal

-- the types of the arguments so far; the arguments to come decide whether all are of their types
abbrev pub invariant-loop-argument : goal.invariant-loop-argument
invariant-loop-argument l = record {
  types : map type_of l.types.items ≡ map (λ s. s.of_type) (take l.argument-index l.arguments);
  typed : AreTyped (drop l.argument-index l.arguments) → AreTyped l.arguments;
}
