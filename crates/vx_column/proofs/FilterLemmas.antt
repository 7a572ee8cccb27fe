-- Rows of a filter.
use Rattle.std.proofs.Common.{◌≡◌, ℕ, List, map, Bool, Some, sym, ap, ◌∙◌}
use Rattle.std.specs.Prelude.{slice_get, Result}
use Rattle.std.specs.Option.{option_and_then}
use Rattle.std.specs.Result.{IfOk, IfErr}
use Rattle.std.proofs.lemmas.Result.{IfErr-weaker}
use Rattle.vx_value.specs.Typed.{Typed}
use Rattle.vx_value.specs.Values.{boolean}
use Rattle.vx_value.specs.Cell.{value}
use Rattle.vx_value.specs.declared.error.VortexError.{VortexError}
use Rattle.vx_mask.specs.Places.{true_place, chosen}
use Rattle.vx_mask.proofs.ChosenLemmas.{chosen-item, chosen_map}
use Rattle.vx_tree.specs.Tree.{Tree, dtype, filter_of}
use Rattle.vx_tree.specs.Cells.{rows}
use Rattle.vx_column.specs.Read.{IsRow, IsUnreadRow}
use Rattle.vx_column.proofs.CellsLemmas.{row_by, unread_by}

module _ (t c : Tree) (bits : List Bool) (i p : ℕ) where
  filter_row : t ≡ filter_of bits c → true_place bits i ≡ Some p → slice_get (rows t) i ≡ slice_get (rows c) p
  filter_row e place = ap (λ u. slice_get (rows u) i) e ∙ chosen-item bits (rows c) i ∙ ap (option_and_then (slice_get (rows c))) place

  pub filter_read : (r : Result Typed VortexError) → t ≡ filter_of bits c → true_place bits i ≡ Some p → IfOk r (IsRow c p) → IfOk r (IsRow t i)
  filter_read r e place = row_by t c i p (filter_row e place) (ap dtype e) r

  pub filter_unread : (r : Result Typed VortexError) → t ≡ filter_of bits c → true_place bits i ≡ Some p → IfErr r (IsUnreadRow c p) → IfErr r (IsUnreadRow t i)
  filter_unread r e place = IfErr-weaker r _ _ (unread_by t c i p (λ h. filter_row e place ∙ h))

pub ruleset filter_rows = (filter_read, filter_unread)

-- of booleans
pub filter_told : (t c : Tree) (mask bits kept : List Bool) → t ≡ filter_of mask c → rows c ≡ map (λ b. value (boolean b)) bits → kept ≡ chosen mask bits
    → rows t ≡ map (λ b. value (boolean b)) kept
filter_told t c mask bits kept e r p =
    ap rows e ∙ ap (chosen mask) r ∙ chosen_map (λ b. value (boolean b)) mask bits ∙ ap (map (λ b. value (boolean b))) (sym p)
