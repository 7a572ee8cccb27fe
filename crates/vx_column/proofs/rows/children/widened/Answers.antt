use Rattle.std.proofs.Common.{refl, sym, ap, ◌∙◌}
use Rattle.vx_column.specs.LookedUp.{named_type}
use Rattle.vx_column.proofs.EachLemmas.{widened_same}
use Rattle.vx_column.proofs.rows.children.widened.Goals as goal

pub returns-in-NonNullable-clause-ok : goal.returns-in-NonNullable-clause-ok
returns-in-NonNullable-clause-ok c =
    let ty = c.args.scalar.of_type in
    (refl, widened_same ty ∙ ap (λ m. named_type m ty) (sym c.in-NonNullable.is ∙ c.nullability.ensures))
