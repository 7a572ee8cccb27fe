use Rattle.std.proofs.Common.{◌+◌, ap, sym, subst, ◌∙◌, arith}
use Rattle.vx_value.specs.Types.{nullability_of}
use Rattle.vx_value.specs.View.{type_of}
use Rattle.vx_column.specs.Grown.{count}
use Rattle.vx_column.specs.KeptPieces.{pieces_kept, ArePieces}
use Rattle.vx_column.proofs.KeptPiecesLemmas.{nulls_kept, nulls_seen}
use Rattle.vx_column.proofs.builder.nested.NestedBuilder.push_nulls.Goals as goal

pub invariant_of-self-2 : goal.invariant_of-self-2
invariant_of-self-2 c =
    let b = c.self.inside in
    let nullable = ap (λ r. nullability_of r.of_type) c.self.view_is ∙ c.requires.nullable in
    let seen = ap count c.self.view_is in
    subst (ArePieces (type_of b.dtype) (b.len + c.args.more) b.pieces.items) (sym c.in_ok-push_null_scalars.ensures.ok)
    (nulls_kept (type_of b.dtype) b.len b.pieces.items b.scalars.items c.self.invariant c.args.more nullable
    (omega (arith, c.requires.fits, c.self.invariant.counted, seen)))

pub returns-clause-ok : goal.returns-clause-ok
returns-clause-ok c =
    let b = c.self.inside in
    ap (pieces_kept (type_of b.dtype) b.pieces.items) c.in_ok-push_null_scalars.ensures.ok
    ∙ nulls_seen (type_of b.dtype) b.pieces.items b.scalars.items c.args.more c.args.self.now c.self.view_is
