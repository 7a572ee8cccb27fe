use Rattle.std.proofs.Common.{◌≡◌, ◌<◌, ℕ, zero, suc, length, false, sym, ap, subst, ◌∙◌, arith}
use Rattle.std.specs.Cmp.{unsigned_Decides}
use Rattle.std.specs.List.{All}
use Rattle.std.specs.Prelude.{◌==◌}
use Rattle.std.proofs.lemmas.List.Elements.{All-append}
use Rattle.std.proofs.lemmas.Result.{IfOk-weaker}
use Rattle.vx_value.specs.View.{type_of}
use Rattle.vx_tree.specs.Canonicals.{canonical_tree}
use Rattle.vx_tree.specs.Cells.{rows}
use Rattle.vx_column.specs.Grown.{grown, grown_cells, open_piece, IsGrown}
use Rattle.vx_column.specs.Joined.{joined}
use Rattle.vx_column.specs.Pieces.{columns_in, IsPieceOf}
use Rattle.vx_column.specs.ValueColumns.{column_of, values_of}
use Rattle.vx_column.proofs.GrownLemmas.{grown_rows}
use Rattle.vx_column.proofs.KeptPiecesLemmas.{alone_grown, joined_grown}
use Rattle.vx_column.proofs.builder.nested.NestedBuilder.finish.Goals as goal

pub returns-then-is_empty-clause-ok : goal.returns-then-is_empty-clause-ok
returns-then-is_empty-clause-ok c =
    let b = c.self.inside in
    let ty = type_of b.dtype in
    let none = (unsigned_Decides _ 0).0 (sym c.is_empty.ensures ∙ c.if-is_empty.true) in
    let is = ap (λ ss. column_of ty (values_of ss)) c.as_slice.ensures.value
    ∙ alone_grown ty b.pieces.items b.scalars.items c.args.self c.self.view_is (omega (arith, none, b.pieces.ok.0)) in
    IfOk-weaker c.column_of.result (λ u. canonical_tree u ≡ column_of ty (values_of c.as_slice.result.now)) (λ u. canonical_tree u ≡ grown c.args.self)
    (λ u made. made ∙ is) c.column_of.ensures.ok

pub returns-then-is_empty-clause-rows : goal.returns-then-is_empty-clause-rows
returns-then-is_empty-clause-rows c =
    let r = c.args.self in
    let g = subst IsGrown c.self.view_is c.self.invariant.grown in
    IfOk-weaker c.column_of.result (λ u. canonical_tree u ≡ grown r) (λ u. rows (canonical_tree u) ≡ grown_cells r) (λ u is. ap rows is ∙ grown_rows r g)
    (returns-then-is_empty-clause-ok c)

pub join-requires-clause-pieces : goal.join-requires-clause-pieces
join-requires-clause-pieces c =
    let b = c.self.inside in
    let of_type = IsPieceOf (type_of b.dtype) in
    subst (All of_type) (sym (c.as_slice-3.ensures.value ∙ c.in_ok-append.ensures.items))
    (All-append of_type b.pieces.items c.in_ok-last_piece.field-0.items c.self.invariant.pieces c.in_ok-last_piece.ensures.pieces)

pub returns-clause-ok : goal.returns-clause-ok
returns-clause-ok c =
    let b = c.self.inside in
    let ty = type_of b.dtype in
    let some : 0 < length b.pieces.items = omega (arith, not_zero _ (sym c.is_empty.ensures ∙ c.if-is_empty.false), b.pieces.ok.0) in
    let last = c.in_ok-last_piece.ensures.columns ∙ ap (λ ss. open_piece ty (values_of ss)) c.as_slice-2.ensures.value in
    let is = joined_grown ty b.pieces.items b.scalars.items c.args.self c.self.view_is c.in_ok-last_piece.field-0.items c.as_slice-3.result.now some last
    (c.as_slice-3.ensures.value ∙ c.in_ok-append.ensures.items) in
    IfOk-weaker c.join.result (λ u. canonical_tree u ≡ joined ty (columns_in c.as_slice-3.result.now)) (λ u. canonical_tree u ≡ grown c.args.self)
    (λ u made. made ∙ is) c.join.ensures.ok
  where
    not_zero : (n : ℕ) → (n == 0) ≡ false → 0 < n
    not_zero zero h = absurd (cc (h))
    not_zero (suc n) h = omega arith

pub returns-clause-rows : goal.returns-clause-rows
returns-clause-rows c =
    let r = c.args.self in
    let g = subst IsGrown c.self.view_is c.self.invariant.grown in
    IfOk-weaker c.join.result (λ u. canonical_tree u ≡ grown r) (λ u. rows (canonical_tree u) ≡ grown_cells r) (λ u is. ap rows is ∙ grown_rows r g)
    (returns-clause-ok c)
