-- What a builder of a nested type keeps: columns that were appended, and the scalars after them.
use Rattle.std.specs.Prelude.{◌≡◌, ℕ, List, true}
use Rattle.std.specs.List.{All}
use Rattle.vx_value.specs.Types.{DataType}
use Rattle.vx_value.specs.Typed.{Typed}
use Rattle.vx_value.specs.Storage.{is_nested}
use Rattle.vx_column.specs.Grown.{GrownRows, IsGrown, count}
use Rattle.vx_column.specs.Pieces.{columns_in, IsPieceOf}
use Rattle.vx_column.specs.ValueColumns.{values_of, AreOf}
use Rattle.vx_column.specs.declared.builder.join.Piece.{Piece}

-- their rows
abbrev pub pieces_kept : DataType → List Piece → List Typed → GrownRows
pieces_kept ty ps ss = record { of_type = ty; pieces = columns_in ps; values = values_of ss }

-- n rows of the type
pub record ArePieces (ty : DataType) (n : ℕ) (ps : List Piece) (ss : List Typed) : Type 0 where
  pub grown : IsGrown (pieces_kept ty ps ss)
  pub nested : is_nested ty ≡ true
  pub pieces : All (IsPieceOf ty) ps
  pub scalars : AreOf ty ss
  pub counted : n ≡ count (pieces_kept ty ps ss)
