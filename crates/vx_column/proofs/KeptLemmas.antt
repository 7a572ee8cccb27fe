-- A column that isn't appended, by how the rows of a builder are kept.
use Rattle.std.proofs.Common.{◌≡◌, inl, inr, true, false, None, sym, ap, subst, ◌∙◌}
use Rattle.vx_value.specs.Storage.{is_nested}
use Rattle.vx_value.specs.Supported.{has_columns}
use Rattle.vx_value.specs.declared.error.VortexError.{VortexError}
use Rattle.vx_tree.specs.Cells.{rows, HasNoFault}
use Rattle.vx_tree.specs.Tree.{Tree, dtype}
use Rattle.vx_tree.specs.Well.{IsWell}
use Rattle.vx_column.specs.Arguments.{IsUnread}
use Rattle.vx_column.specs.Built.{TypedRows}
use Rattle.vx_column.specs.Expanded.{expansion}
use Rattle.vx_column.specs.Grown.{GrownRows, cells_read, column_refusal, IsUnappended}
use Rattle.vx_column.specs.Kept.{rows_in}
use Rattle.vx_column.specs.Pieces.{IsNoPiece}
use Rattle.vx_column.specs.declared.builder.KeptRows.{KeptRows}
use Rattle.vx_column.specs.declared.builder.KeptRows.TheVariants.{Flat, Nested}
use Rattle.vx_column.proofs.BuiltLemmas.{fault_found}
use Rattle.vx_column.proofs.ExpandedLemmas.{expansion_exactly}
use Rattle.vx_column.proofs.GrownLemmas.{all_read}

module _ (kept : KeptRows) (r : GrownRows) (t : Tree) (seen : rows_in kept ≡ r) where
  -- of values alone, every row of the column is read
  module _ (b : TypedRows) (is : kept ≡ Flat b) (plain : is_nested b.of_type ≡ false) (well : IsWell t) (has : has_columns (dtype t) ≡ true) where
    same_cells : rows t ≡ cells_read r.of_type (expansion t)
    same_cells =
        (expansion_exactly t well has).equal ∙ sym (all_read b.of_type (expansion t) plain)
        ∙ ap (λ x. cells_read x.of_type (expansion t)) (ap rows_in (sym is) ∙ seen)

    pub flat_told : HasNoFault (rows t) → HasNoFault (cells_read r.of_type (expansion t))
    flat_told h = subst HasNoFault same_cells h

    pub flat_unread : (e : VortexError) → column_refusal r t ≡ None → IsUnread t e → IsUnappended r t e
    flat_unread e none (inl m) = inl m
    flat_unread e none (inr h) = inr (inr (none, h.0, λ k. fault_found (rows t) h.1 h.3 (subst HasNoFault (sym same_cells) k)))

  -- of pieces, the validity is
  module _ (b : GrownRows) (is : kept ≡ Nested b) where
    same_rows : b ≡ r
    same_rows = ap rows_in (sym is) ∙ seen

    pub nested_told : HasNoFault (cells_read b.of_type (expansion t)) → HasNoFault (cells_read r.of_type (expansion t))
    nested_told h = subst (λ x. HasNoFault (cells_read x.of_type (expansion t))) same_rows h

    pub nested_unread : (e : VortexError) → column_refusal r t ≡ None → IsNoPiece b.of_type (expansion t) e → IsUnappended r t e
    nested_unread e none (inl m) = inl m
    nested_unread e none (inr h) = inr (inr (none, h.0, λ k. h.1 (subst (λ x. HasNoFault (cells_read x.of_type (expansion t))) (sym same_rows) k)))
