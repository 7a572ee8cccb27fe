use Rattle.std.proofs.Common.{◌∙◌}
use Rattle.std.proofs.lemmas.Result.{err_from_is_err_and}
use Rattle.vx_value.specs.View.{type_of}
use Rattle.vx_column.specs.ValueColumns.{values_of}
use Rattle.vx_column.proofs.KeptPiecesLemmas.{never_faulty}
use Rattle.vx_column.proofs.builder.nested.last_piece.Goals as goal

pub returns-in_err-piece_of-clause-err : goal.returns-in_err-piece_of-clause-err
returns-in_err-piece_of-clause-err c =
    let p = err_from_is_err_and c.from_residual-in_err-piece_of.result c.from_residual-in_err-piece_of.ensures.1 in
    let is = c.into_array-column.ensures ∙ c.in_ok-column_of.ensures.ok in
    rw p.1 (p.2 ∙ never_faulty (type_of c.args.dtype.now) (values_of c.args.scalars.now) c.into_array-column.result c.in_err-piece_of.field-0.0 is
    c.requires.nested c.requires.columns c.in_err-piece_of.ensures.err)
