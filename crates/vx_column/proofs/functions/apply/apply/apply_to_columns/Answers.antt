use Rattle.std.proofs.Common.{◌≡◌, rules, arith}
use Rattle.vx_fn.specs.Functions.{arity}
use Rattle.vx_column.proofs.UnnestedLemmas.{taken_count, other_function, target_plain}
use Rattle.vx_column.proofs.functions.apply.apply.apply_to_columns.Goals.{in_default-via-in-Binary+then-arguments-lt2, in_default-via-in-Binary+else-arguments-lt2+else-this-lt3, in_default-via-in-Between+then-this-lt3-2, in_default-via-in-Between+else-this-lt3-2+else-this-lt4, in_default-via-in-Not+then-this-lt1, in_default-via-in-Not+else-this-lt1+else-this-lt2, in_default-via-in-Mask+then-this-lt2-2, in_default-via-in-Mask+else-this-lt2-2+else-this-lt3-3, in_default-via-in-Zip+then-this-lt3-4, in_default-via-in-Zip+else-this-lt3-4+else-this-lt4-2, in_default-via-in-FillNull+then-this-lt2-3, in_default-via-in-FillNull+else-this-lt2-3+else-this-lt3-5, in_default-via-in-IsNull+then-this-lt1-2, in_default-via-in-IsNull+else-this-lt1-2+else-this-lt2-4, in_default-via-in-IsNotNull+then-this-lt1-3, in_default-via-in-IsNotNull+else-this-lt1-3+else-this-lt2-5, in_default-via-in-Cast+then-this-lt1-4, in_default-via-in-Cast+else-this-lt1-4+else-this-lt2-6, in_default-via-in_default}
use Rattle.vx_column.proofs.functions.apply.apply.apply_to_columns.Goals as goal

pub unreachable-requires : goal.unreachable-requires
unreachable-requires c =
    let f = c.args.function.now in
    let count = taken_count f c.args.arguments.now c.args.len c.requires.taken in
    elim c.in_default.branch [
      | in_default-via-in-Binary+then-arguments-lt2 w ↦ let k : arity f ≡ 2 = search rules in grind (arith, count, k)
      | in_default-via-in-Binary+else-arguments-lt2+else-this-lt3 w ↦ let k : arity f ≡ 2 = search rules in grind (arith, count, k)
      | in_default-via-in-Between+then-this-lt3-2 w ↦ let k : arity f ≡ 3 = search rules in grind (arith, count, k)
      | in_default-via-in-Between+else-this-lt3-2+else-this-lt4 w ↦ let k : arity f ≡ 3 = search rules in grind (arith, count, k)
      | in_default-via-in-Not+then-this-lt1 w ↦ let k : arity f ≡ 1 = search rules in grind (arith, count, k)
      | in_default-via-in-Not+else-this-lt1+else-this-lt2 w ↦ let k : arity f ≡ 1 = search rules in grind (arith, count, k)
      | in_default-via-in-Mask+then-this-lt2-2 w ↦ let k : arity f ≡ 2 = search rules in grind (arith, count, k)
      | in_default-via-in-Mask+else-this-lt2-2+else-this-lt3-3 w ↦ let k : arity f ≡ 2 = search rules in grind (arith, count, k)
      | in_default-via-in-Zip+then-this-lt3-4 w ↦ let k : arity f ≡ 3 = search rules in grind (arith, count, k)
      | in_default-via-in-Zip+else-this-lt3-4+else-this-lt4-2 w ↦ let k : arity f ≡ 3 = search rules in grind (arith, count, k)
      | in_default-via-in-FillNull+then-this-lt2-3 w ↦ let k : arity f ≡ 2 = search rules in grind (arith, count, k)
      | in_default-via-in-FillNull+else-this-lt2-3+else-this-lt3-5 w ↦ let k : arity f ≡ 2 = search rules in grind (arith, count, k)
      | in_default-via-in-IsNull+then-this-lt1-2 w ↦ let k : arity f ≡ 1 = search rules in grind (arith, count, k)
      | in_default-via-in-IsNull+else-this-lt1-2+else-this-lt2-4 w ↦ let k : arity f ≡ 1 = search rules in grind (arith, count, k)
      | in_default-via-in-IsNotNull+then-this-lt1-3 w ↦ let k : arity f ≡ 1 = search rules in grind (arith, count, k)
      | in_default-via-in-IsNotNull+else-this-lt1-3+else-this-lt2-5 w ↦ let k : arity f ≡ 1 = search rules in grind (arith, count, k)
      | in_default-via-in-Cast+then-this-lt1-4 w ↦ let k : arity f ≡ 1 = search rules in grind (arith, count, k)
      | in_default-via-in-Cast+else-this-lt1-4+else-this-lt2-6 w ↦ let k : arity f ≡ 1 = search rules in grind (arith, count, k)
      | in_default-via-in_default w ↦ other_function f c.args.arguments.now c.args.len c.requires.taken c.requires.unnested w.in_default.not-Binary-0 w.in_default.not-Between-0 w.in_default.not-Not-0
          w.in_default.not-Mask-0 w.in_default.not-Zip-0 w.in_default.not-FillNull-0 w.in_default.not-IsNull-0 w.in_default.not-IsNotNull-0 w.in_default.not-Cast-0
    ]

pub cast-requires-clause-unnested : goal.cast-requires-clause-unnested
cast-requires-clause-unnested c =
    target_plain c.args.function.now c.args.arguments.now c.args.len c.in-Cast-len1.target c.in-Cast-len1.is-0 c.requires.taken c.requires.unnested
