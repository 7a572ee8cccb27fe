use Rattle.std.proofs.Common.{rules, pos, false, inr, refl, sym, ap, ◌∙◌}
use Rattle.std.proofs.lemmas.Option.{get_or_from_slice_get}
use Rattle.vx_column.specs.Operands.{zero_unless}
use Rattle.vx_column.proofs.ComputedLemmas.{calculated_more}
use Rattle.vx_column.proofs.functions.kernel.calculation.calculate_valid.Goals as goal

pub loop-index-preserved : goal.loop-index-preserved
loop-index-preserved g c =
    let stands_for = g.C.Calculation.stands_for c.args.calculation.now in
    rw c.push_reserved.ensures.items (
      search rules,
      search rules,
      calculated_more (λ x. stands_for (g.U.Number.value x)) (stands_for (pos 0)) c.args.valid.now (g.C.Calculation.cell c.args.calculation.now)
          c.loop-index.numbers.items c.loop-index.index c.in-Some.number c.value-is_valid.result c.value-is_valid.ensures
          c.in-Some.ensures.cell c.loop-index.invariant.2,
    )

pub returns-in_default-clause-err : goal.returns-in_default-clause-err
returns-in_default-clause-err g c =
    let i = c.loop-index.index in
    let none = g.C.Calculation.stands_for c.args.calculation.now (pos 0) in
    let cell = g.C.Calculation.cell c.args.calculation.now i in
    let is_valid = c.in_default.ensures.fault in
    let row = get_or_from_slice_get c.args.valid.now i c.value-is_valid.result false c.value-is_valid.ensures ∙ is_valid in
    inr (refl, i, c.loop-index-test.true, row, ap (λ b. zero_unless none b cell) (sym is_valid) ∙ c.in_default.ensures.cell)
