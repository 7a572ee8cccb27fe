use Rattle.std.proofs.Common.{◌≡◌, ◌+◌, true, sym, ap, subst, ◌∙◌, arith}
use Rattle.std.proofs.lemmas.Result.{err_from_is_err_and}
use Rattle.vx_value.specs.Storage.{is_nested}
use Rattle.vx_value.specs.Supported.{has_columns}
use Rattle.vx_value.specs.View.{type_of}
use Rattle.vx_tree.specs.Canonicals.{columnar_tree}
use Rattle.vx_tree.specs.Cells.{HasNoFault}
use Rattle.vx_tree.specs.Tree.{dtype, datum, is_composed}
use Rattle.vx_tree.specs.Well.{IsWell}
use Rattle.vx_column.specs.Expanded.{expansion}
use Rattle.vx_column.specs.Grown.{count, open_piece, cells_read}
use Rattle.vx_column.specs.KeptPieces.{pieces_kept, ArePieces}
use Rattle.vx_column.specs.Pieces.{IsNoPiece}
use Rattle.vx_column.specs.ValueColumns.{values_of}
use Rattle.vx_column.proofs.ExpandedLemmas.{expansion_composed}
use Rattle.vx_column.proofs.KeptPiecesLemmas.{column_kept, column_seen, expansion_typed}
use Rattle.vx_column.proofs.builder.nested.NestedBuilder.push_column.Goals as goal

pub piece_of-requires : goal.piece_of-requires
piece_of-requires c =
    let t = columnar_tree c.args.column.now in
    let well = subst IsWell c.as_array.ensures.of c.well_formed_tree.ensures.formed in
    let has = subst (λ u. has_columns (dtype u) ≡ true) c.as_array.ensures.of c.well_formed_tree.ensures.supported in
    let nested = ap is_nested (c.requires.typed ∙ ap (λ r. r.of_type) (sym c.self.view_is)) ∙ c.self.invariant.nested in
    subst (λ u. is_composed (datum u) ≡ true) (sym c.in_ok-canonical.ensures.ok) (expansion_composed t well c.as_array.ensures.columnar nested has)

pub invariant_of-self-2 : goal.invariant_of-self-2
invariant_of-self-2 c =
    let t = columnar_tree c.args.column.now in
    let b = c.self.inside in
    let ty = type_of b.dtype in
    let well = subst IsWell c.as_array.ensures.of c.well_formed_tree.ensures.formed in
    let same = c.requires.typed ∙ ap (λ r. r.of_type) (sym c.self.view_is) in
    let last = c.in_ok-more.ensures.columns ∙ ap (λ ss. open_piece ty (values_of ss)) c.as_slice.ensures.value in
    let seen = ap count c.self.view_is in
    let new = column_kept ty b.len b.pieces.items b.scalars.items c.self.invariant t c.in_ok-canonical.field-0 c.in_ok-canonical.ensures.ok well same
    c.in_ok-more.more.items c.push.new.self.items c.in_ok-piece.piece last c.in_ok-piece.ensures.column c.in_ok-push.ensures.items
    (b.len + c.len.result) c.in_ok-more.ensures.pieces c.in_ok-piece.ensures.ok (ap (λ n. b.len + n) c.len.ensures)
    (omega (arith, c.requires.fits, c.self.invariant.counted, seen, c.len.ensures)) in
    subst (λ x. x) (λ i. ArePieces ty (b.len + c.len.result) (sym c.in_ok-append.ensures.items i) (sym c.new.ensures.items i)) new

pub returns-clause-ok : goal.returns-clause-ok
returns-clause-ok c =
    let t = columnar_tree c.args.column.now in
    let b = c.self.inside in
    let ty = type_of b.dtype in
    let well = subst IsWell c.as_array.ensures.of c.well_formed_tree.ensures.formed in
    let same = c.requires.typed ∙ ap (λ r. r.of_type) (sym c.self.view_is) in
    let last = c.in_ok-more.ensures.columns ∙ ap (λ ss. open_piece ty (values_of ss)) c.as_slice.ensures.value in
    (λ i. pieces_kept ty (c.in_ok-append.ensures.items i) (c.new.ensures.items i))
    ∙ column_seen ty b.len b.pieces.items b.scalars.items c.self.invariant t c.in_ok-canonical.field-0 c.in_ok-canonical.ensures.ok well same
    c.in_ok-more.more.items c.push.new.self.items c.in_ok-piece.piece last c.in_ok-piece.ensures.column c.in_ok-push.ensures.items c.args.self.now
    c.self.view_is

pub returns-clause-valid : goal.returns-clause-valid
returns-clause-valid c =
    let t = columnar_tree c.args.column.now in
    let well = subst IsWell c.as_array.ensures.of c.well_formed_tree.ensures.formed in
    let has = subst (λ u. has_columns (dtype u) ≡ true) c.as_array.ensures.of c.well_formed_tree.ensures.supported in
    let is = c.in_ok-canonical.ensures.ok in
    let typed = expansion_typed t c.in_ok-canonical.field-0 c.args.self.now.of_type is well has c.requires.typed in
    subst (λ x. x) (λ i. HasNoFault (cells_read (typed i) ((c.in_ok-piece.ensures.column ∙ is) i))) c.in_ok-piece.ensures.ok.column.told

pub returns-in_err-piece-clause-refused : goal.returns-in_err-piece-clause-refused
returns-in_err-piece-clause-refused c =
    let t = columnar_tree c.args.column.now in
    let ty = c.args.self.now.of_type in
    let well = subst IsWell c.as_array.ensures.of c.well_formed_tree.ensures.formed in
    let has = subst (λ u. has_columns (dtype u) ≡ true) c.as_array.ensures.of c.well_formed_tree.ensures.supported in
    let is = c.in_ok-canonical.ensures.ok in
    let typed = expansion_typed t c.in_ok-canonical.field-0 ty is well has c.requires.typed in
    let p = err_from_is_err_and c.from_residual-in_err-piece.result c.from_residual-in_err-piece.ensures.1 in
    let e = c.in_err-piece.field-0.0 in
    rw p.1 (subst (IsNoPiece ty (expansion t)) (sym p.2) (subst (λ x. x) (λ i. IsNoPiece (typed i) (is i) e) c.in_err-piece.ensures.err))
