use Rattle.std.proofs.Common.{sym, ap, ◌∙◌}
use Rattle.vx_column.specs.Kept.{rows_in}
use Rattle.vx_column.proofs.GrownLemmas.{same_as}
use Rattle.vx_column.proofs.builder.Builder.append_scalar.Goals as goal

pub push-requires-clause-typed : goal.push-requires-clause-typed
push-requires-clause-typed c =
    sym c.dtype.ensures.dtype ∙ same_as c.args.self.now _ c.in_ok-check_type.ensures
    ∙ ap (λ r. r.of_type) (sym c.self.view_is ∙ ap rows_in c.in-Flat.is)

pub push-requires-in-Nested-clause-typed : goal.push-requires-in-Nested-clause-typed
push-requires-in-Nested-clause-typed c =
    sym c.dtype.ensures.dtype ∙ same_as c.args.self.now _ c.in_ok-check_type.ensures
    ∙ ap (λ r. r.of_type) (sym c.self.view_is ∙ ap rows_in c.in-Nested.is)
