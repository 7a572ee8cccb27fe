-- The cells of a column that are read when it is appended to a builder.
use Rattle.std.proofs.Common.{◌≡◌, inl, inr, None, Some, true, sym, subst, ◌∙◌}
use Rattle.std.specs.Prelude.{Option}
use Rattle.vx_value.specs.Types as type
use Rattle.vx_value.specs.Types.{DataType}
use Rattle.vx_value.specs.Supported.{has_columns}
use Rattle.vx_value.specs.declared.error.VortexError.{VortexError}
use Rattle.vx_tree.specs.Tree.{Tree, Slots, node, no_slots, absent, slot, dtype, last_tree}
use Rattle.vx_tree.specs.Cells.{rows, HasNoFault, IsClean, AreClean}
use Rattle.vx_tree.specs.Well.{IsWell}
use Rattle.vx_tree.proofs.ConditionsLemmas.{first_none}
use Rattle.vx_tree.proofs.ValiditiesLemmas.{whole}
use Rattle.vx_column.specs.Expanded.{expansion}
use Rattle.vx_column.specs.Grown.{GrownRows, cells_read, column_refusal, IsUnappended}
use Rattle.vx_column.specs.Nulls.{validity_cells}
use Rattle.vx_column.proofs.ExpandedLemmas.{expansion_exactly}
use Rattle.vx_column.proofs.GrownLemmas.{same_as}
use Rattle.vx_exec.specs.Moves.{IsUnread, read_cells}

-- the validity of a column with clean slots
last_told : (ss : Slots) → AreClean ss → HasNoFault (validity_cells (last_tree ss))
last_told no_slots h = tt
last_told (absent no_slots) h = tt
last_told (slot t no_slots) h = whole t h.0
last_told (absent (absent ss)) h = last_told (absent ss) h
last_told (absent (slot u ss)) h = last_told (slot u ss) h
last_told (slot t (absent ss)) h = last_told (absent ss) h.1
last_told (slot t (slot u ss)) h = last_told (slot u ss) h.1

cells_told : (ty : DataType) (t : Tree) → IsClean t → HasNoFault (cells_read ty t)
cells_told (type.struct fs m) (node ty n d ss) h = last_told ss h.1
cells_told (type.extension i s) t h = tt
cells_told _ t h = whole t h

-- none is a fault if the column is clean
clean_read : (t : Tree) → IsWell t → has_columns (dtype t) ≡ true → IsClean t → HasNoFault (read_cells t)
clean_read t well columns clean = cells_told (dtype t) (expansion t) ((expansion_exactly t well columns).keeps.still_clean clean)

module _ (r : GrownRows) (c : Tree) (taken : column_refusal r c ≡ None) where
  typed : dtype c ≡ r.of_type
  typed = same_as r (dtype c) (first_none _ _ taken)

  pub read_told : HasNoFault (cells_read r.of_type (expansion c)) → HasNoFault (read_cells c)
  read_told h = subst (λ ty. HasNoFault (cells_read ty (expansion c))) (sym typed) h

  -- why a column that the builder takes isn't appended
  pub unread : IsWell c → has_columns (dtype c) ≡ true → (e : VortexError) → IsUnappended r c e → IsUnread c e
  unread well columns e (inl m) = inl m
  unread well columns e (inr (inl h)) = let none : None ≡ Some e = sym taken ∙ h in absurd (cc (none))
  unread well columns e (inr (inr h)) =
      let not_read : HasNoFault (read_cells c) → ⊥ = λ k. h.2 (subst (λ ty. HasNoFault (cells_read ty (expansion c))) typed k) in
      inr (h.1, not_read, λ clean. not_read (clean_read c well columns clean))
