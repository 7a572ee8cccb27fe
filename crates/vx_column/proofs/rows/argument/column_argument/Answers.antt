use Rattle.std.proofs.Common.{refl, sym, subst, ◌∙◌, ◌<◌}
use Rattle.vx_value.specs.Types.{nullability_of}
use Rattle.vx_tree.specs.Canonicals.{columnar_tree}
use Rattle.vx_tree.specs.Tree.{dtype, len}
use Rattle.vx_column.specs.ValidRows.{HasValidity, AreTold, TellsRows}
use Rattle.vx_column.proofs.rows.argument.column_argument.Goals as goal

pub returns-in-Ok-clause-ok : goal.returns-in-Ok-clause-ok
returns-in-Ok-clause-ok c =
    let t = columnar_tree c.args.column.now in
    let tells = subst (TellsRows (nullability_of (dtype t)) (len t)) c.in-Some.is c.requires in
    let long = c.in-Ok.ensures.sized ∙ tells.2 in
    let known = subst (λ v. AreTold (len t) v c.from_bits.result) (sym c.in-Some.is)
    (c.in-Ok.bits, long, c.in-Ok.ensures.ok, λ i lt. c.from_bits.ensures.rows i (subst (λ n. i < n) (sym long) lt)) in
    record {
      rows = refl;
      told = known;
      nullability = c.from_bits.ensures.nullability
          ∙ sym tells.0;
      sized = subst (HasValidity c.from_bits.result) long c.from_bits.ensures.sized;
    }
