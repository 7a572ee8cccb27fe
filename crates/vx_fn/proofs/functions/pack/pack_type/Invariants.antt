use Rattle.std.proofs.Common.{◌≡◌, length, map, drop}
use Rattle.vx_value.specs.View.{type_of}
use Rattle.vx_fn.specs.Pack.{fields_with}
use Rattle.vx_fn.proofs.PackLemmas.{before}
use Rattle.vx_fn.proofs.functions.pack.pack_type.Given as goal

-- the fields so far, and those to come
abbrev pub invariant-loop-i : goal.invariant-loop-i
invariant-loop-i l =
    (length l.types ≡ length l.names)
    × (fields_with l.names (map type_of l.types) ≡ before l.fields.items (fields_with (drop l.i l.names) (map type_of (drop l.i l.types))))
