use Rattle.std.proofs.Common.{ap, sym, ◌∙◌, length}
use Rattle.vx_column.proofs.GrowingLemmas.{rows_counted}
use Rattle.vx_column.proofs.builder.flat.FlatBuilder.len.Goals as goal

pub returns : goal.returns
returns c = sym (rows_counted _ _ _ _ c.self.invariant) ∙ ap (λ r. length r.values) c.self.view_is
