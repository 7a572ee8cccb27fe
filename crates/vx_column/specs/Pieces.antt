-- Columns of a nested type that a builder keeps, each with its rows that aren't null by a validity of its own.
use Rattle.std.specs.Prelude.{◌≡◌, ◌⊎◌, List, map, Option, None}
use Rattle.vx_value.specs.Types as type
use Rattle.vx_value.specs.Types.{DataType, nullability_of}
use Rattle.vx_value.specs.declared.error.VortexError.{VortexError}
use Rattle.vx_value.specs.declared.error.VortexError.TheVariants.{OutOfMemory, Fault}
use Rattle.vx_tree.specs.Tree.{Tree, dtype, len, slots, last_tree}
use Rattle.vx_tree.specs.Cells.{HasNoFault}
use Rattle.vx_column.specs.Grown.{IsPiece, cells_read}
use Rattle.vx_column.specs.ValidRows.{AreTold, HasValidity, nullability_in}
use Rattle.vx_column.specs.declared.builder.join.Piece.{Piece}

abbrev pub columns_in : List Piece → List Tree
columns_in ps = map (λ p. p.column) ps

-- the validity that a column of the type has itself
abbrev pub own_validity : DataType → Tree → Option Tree
own_validity (type.struct fs m) t = last_tree (slots t)
own_validity _ t = None

-- a column of the type, and its rows that aren't null by its own validity
pub record IsPieceOf (ty : DataType) (p : Piece) : Type 0 where
  pub column : IsPiece ty p.column
  pub valid : AreTold (len p.column) (own_validity ty p.column) p.valid
  pub sized : HasValidity p.valid (len p.column)
  pub nullability : nullability_in p.valid ≡ nullability_of ty

-- why a column is no piece: out of memory, or a fault among the cells that are read
abbrev pub IsNoPiece : DataType → Tree → VortexError → Type 0
IsNoPiece ty t e = (e ≡ OutOfMemory) ⊎ ((e ≡ Fault) × (HasNoFault (cells_read ty t) → ⊥))
