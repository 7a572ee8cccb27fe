use Rattle.std.proofs.Common.{FitsSigned, ◌∙◌, rules}
use Rattle.std.proofs.Math.Facts.{to_z-of_z}
use Rattle.std.specs.Int.{w128}
use Rattle.vx_column.specs.Operands.{number_in}
use Rattle.vx_column.proofs.CastsLemmas.{converted_row}
use Rattle.vx_column.proofs.functions.cast.casts.ConvertedCalculation.calculate_row.Goals as goal

pub returns : goal.returns
returns g c =
    let fits : FitsSigned w128 c.wide.result = search rules in
    converted_row g.U.Number.value g.U.NativeInteger.kind _ (number_in g.T.Number.value c.args.self.now.numbers c.args.index) c.from_wide.result
    c.from_wide.ensures (to_z-of_z fits ∙ c.wide.ensures ∙ c.row.ensures)
