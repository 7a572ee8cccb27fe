use Rattle.std.proofs.Common.{◌≡◌, map, drop}
use Rattle.vx_fn.specs.Pack.{in_order}
use Rattle.vx_value.proofs.ValuesLemmas.{prepend}
use Rattle.vx_fn.proofs.functions.pack.values_of.Given as goal

-- the values of the arguments so far, and those to come
abbrev pub invariant-loop-argument : goal.invariant-loop-argument
invariant-loop-argument l =
    in_order (map (λ s. s.value) l.arguments)
    ≡ prepend l.values.items (in_order (map (λ s. s.value) (drop l.argument-index l.arguments)))
