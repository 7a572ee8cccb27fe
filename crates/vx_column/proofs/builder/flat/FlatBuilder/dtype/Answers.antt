use Rattle.std.proofs.Common.{subst, ◌≡◌, true, false}
use Rattle.std.specs.List.{list_all}
use Rattle.vx_value.specs.IsOf.{is_of}
use Rattle.vx_value.specs.Storage.{is_nested}
use Rattle.vx_column.proofs.GrowingLemmas.{rows_typed, kept_unnested}
use Rattle.vx_column.proofs.builder.flat.FlatBuilder.dtype.Goals as goal

pub returns-clause-typed : goal.returns-clause-typed
returns-clause-typed c =
    subst (λ r. list_all (is_of r.of_type) r.values ≡ true) c.self.view_is (rows_typed _ _ _ _ c.self.invariant)

pub returns-clause-unnested : goal.returns-clause-unnested
returns-clause-unnested c = subst (λ r. is_nested r.of_type ≡ false) c.self.view_is (kept_unnested _ _ c.self.invariant.kind)
