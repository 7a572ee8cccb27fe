use Rattle.std.proofs.Common.{rules, pos, true, inr, refl}
use Rattle.vx_value.specs.Cell.{value}
use Rattle.vx_column.specs.Operands.{zero_unless}
use Rattle.vx_column.proofs.ComputedLemmas.{rows_more}
use Rattle.vx_column.proofs.functions.kernel.calculation.calculate_all.Goals as goal

pub loop-index-preserved : goal.loop-index-preserved
loop-index-preserved g c =
    let stands_for = g.C.Calculation.stands_for c.args.calculation.now in
    rw c.push_reserved.ensures.items (
      search rules,
      search rules,
      rows_more (λ x. value (stands_for (g.U.Number.value x))) (λ i. zero_unless (stands_for (pos 0)) true (g.C.Calculation.cell c.args.calculation.now i))
          c.loop-index.numbers.items c.loop-index.index c.in-Some.number c.loop-index.invariant.2 c.in-Some.ensures,
    )

pub returns-in_default-clause-err : goal.returns-in_default-clause-err
returns-in_default-clause-err g c = inr (refl, c.loop-index.index, c.loop-index-test.true, refl, c.in_default.ensures)
