use Rattle.std.proofs.Common.{ℤ, FitsSigned, sym, ap, ◌∙◌, rules}
use Rattle.std.proofs.Math.Facts.{to_z-of_z}
use Rattle.std.specs.Int.{w128}
use Rattle.vx_value.specs.Casts.{rescaled}
use Rattle.vx_column.specs.Operands.{number_in}
use Rattle.vx_column.proofs.CastsLemmas.{narrowed_row}
use Rattle.vx_column.proofs.functions.cast.rescale.RescaledCalculation.calculate_row.Goals as goal

pub returns-in-Some : goal.returns-in-Some
returns-in-Some g c =
    let s = c.args.self.now in
    let d = s.rescaling.target in
    let r = s.rescaling.scale in
    let number : FitsSigned w128 c.wide-number.result = search rules in
    let unscaled : FitsSigned w128 c.in-Some.unscaled = search rules in
    let same = to_z-of_z number ∙ c.wide-number.ensures ∙ c.row.ensures in
    narrowed_row g.U.Number.value g.U.NativeDecimalType.kind d r (number_in g.T.Number.value s.numbers c.args.index) _ c.in-Some.unscaled c.narrow.result
    c.narrow.ensures (to_z-of_z unscaled) c.requires.1 (ap (λ (z : ℤ). rescaled d.precision d.scale z r) (sym same) ∙ c.in-Some.ensures)
