use Rattle.std.proofs.Common.{IfOk, pos, get_or, map, sym, ap, ◌∙◌, subst}
use Rattle.vx_tree.specs.Canonicals.{canonical_tree}
use Rattle.vx_column.specs.Casts.{converted, value_in}
use Rattle.vx_column.specs.Operands.{IsPrimitiveColumnOf}
use Rattle.vx_column.proofs.functions.cast.casts.convert_buffer.Goals as goal

pub returns-clause-ok : goal.returns-clause-ok
returns-clause-ok g c =
    let x = c.args.conversion.now in
    let kind = g.U.NativeInteger.kind in
    let r = c.calculated_column.result in
    let same = ap (map g.T.Number.value) c.as_slice.ensures ∙ c.requires.buffer in
    subst (λ p. IfOk r (λ u. IsPrimitiveColumnOf p x.valid.now (converted p (value_in x)) x.len (canonical_tree u))) (sym c.requires.target)
    (subst (λ zs. IfOk r (λ u. IsPrimitiveColumnOf kind x.valid.now (converted kind (λ i. get_or zs i (pos 0))) x.len (canonical_tree u))) same
    c.calculated_column.ensures.ok)
