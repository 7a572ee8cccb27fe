use Rattle.std.proofs.Common.{pos, sym, ap, subst, ◌∙◌}
use Rattle.std.proofs.lemmas.List.{get_or-map}
use Rattle.vx_column.specs.Operands.{number_in, HasRow}
use Rattle.vx_column.proofs.functions.kernel.operand.Operand.row.Goals as goal

pub returns-in-Rows : goal.returns-in-Rows
returns-in-Rows g c =
    let read = g.T.Number.value in
    let i = c.args.index in
    let row = c.index-rows-index in
    let within = subst (λ o. HasRow o i) c.in-Rows.is c.requires in
    ap read row.is ∙ sym (get_or-map read c.in-Rows.rows.now i row.result (pos 0) within) ∙ ap (λ o. number_in read o i) (sym c.in-Rows.is)

pub returns-in-Value : goal.returns-in-Value
returns-in-Value g c = ap (λ o. number_in g.T.Number.value o c.args.index) (sym c.in-Value.is)
