-- Rows of a test for null.
use Rattle.std.proofs.Common.{◌≡◌, ℕ, Some, ap, ◌∙◌}
use Rattle.std.specs.Prelude.{slice_get}
use Rattle.std.specs.Option.{option_map}
use Rattle.std.proofs.Math.Bool.{not}
use Rattle.std.proofs.lemmas.Option.{slice_get-map}
use Rattle.vx_value.specs.IsOf.{is_null}
use Rattle.vx_value.specs.Values.{Value, boolean}
use Rattle.vx_value.specs.Cell.{value, fault}
use Rattle.vx_tree.specs.Tree.{Tree, validity_in}
use Rattle.vx_tree.specs.Cells.{rows, shown_cell}
use Rattle.vx_tree.proofs.TellsLemmas.{shown_value}

pub validity_row : (t c : Tree) (i : ℕ) (v : Value) → t ≡ validity_in c → slice_get (rows c) i ≡ Some (value v)
    → slice_get (rows t) i ≡ Some (value (boolean (not (is_null v))))
validity_row t c i v e h =
    ap (λ u. slice_get (rows u) i) e ∙ slice_get-map shown_cell (rows c) i ∙ ap (option_map shown_cell) h ∙ ap Some (shown_value v)

pub validity_fault : (t c : Tree) (i : ℕ) → t ≡ validity_in c → slice_get (rows c) i ≡ Some fault → slice_get (rows t) i ≡ Some fault
validity_fault t c i e h = ap (λ u. slice_get (rows u) i) e ∙ slice_get-map shown_cell (rows c) i ∙ ap (option_map shown_cell) h

pub ruleset validity_rows = (validity_row, validity_fault)
