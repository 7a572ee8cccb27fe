-- One row of a tree, read.
use Rattle.std.specs.Prelude.{◌≡◌, ◌⊎◌, ℕ, Some, slice_get}
use Rattle.vx_value.specs.Typed.{Typed}
use Rattle.vx_value.specs.Cell.{value, fault}
use Rattle.vx_value.specs.declared.error.VortexError.{VortexError}
use Rattle.vx_value.specs.declared.error.VortexError.TheVariants.{OutOfMemory, Fault}
use Rattle.vx_tree.specs.Tree.{Tree, dtype}
use Rattle.vx_tree.specs.Cells.{rows}

-- the value of row i, of the tree's type
abbrev pub IsRow : Tree → ℕ → Typed → Type 0
IsRow t i s = (slice_get (rows t) i ≡ Some (value s.value)) × (s.of_type ≡ dtype t)

-- why row i can't be read: out of memory, or the row is a fault
abbrev pub IsUnreadRow : Tree → ℕ → VortexError → Type 0
IsUnreadRow t i e = (e ≡ OutOfMemory) ⊎ ((e ≡ Fault) × (slice_get (rows t) i ≡ Some fault))
