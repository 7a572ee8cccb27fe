-- The text of a column.
use Rattle.std.specs.Prelude.{◌≡◌, ◌⊎◌, ℕ, List, [], ◌∷◌, ◌++◌, map, codes, flat_map}
use Rattle.vx_value.specs.Types.{DataType}
use Rattle.vx_value.specs.Values.{Value}
use Rattle.vx_value.specs.Text.{type_text}
use Rattle.vx_value.specs.Ids.{id_text}
use Rattle.vx_value.specs.declared.id.Id.{Id}
use Rattle.vx_value.specs.Cell.{Cell, value}
use Rattle.vx_value.specs.declared.error.VortexError.{VortexError}
use Rattle.vx_value.specs.declared.error.VortexError.TheVariants.{OutOfMemory, Fault}
use Rattle.vx_tree.specs.Tree.{Tree}
use Rattle.vx_tree.specs.Cells.{rows, HasNoFault}
use Rattle.vx_json.specs.RowText.{row_text}

-- a line of text, with its newline
abbrev pub line : List ℕ → List ℕ
line text = text ++ 10 ∷ []

-- the lines of the type and the encoding
abbrev pub head_lines : DataType → Id → List ℕ
head_lines ty id = line (codes "type " ++ type_text ty) ++ line (codes "encoding " ++ id_text id)

-- the head, and a line for each value
abbrev pub output : DataType → Id → List Value → List ℕ
output ty id values = head_lines ty id ++ flat_map (λ v. line (row_text ty v)) values

-- why a row of a tree can't be read: out of memory, or a fault among its rows
abbrev pub IsUnread : Tree → VortexError → Type 0
IsUnread t e = (e ≡ OutOfMemory) ⊎ ((e ≡ Fault) × (¬ (HasNoFault (rows t))))

-- the text gains a line for each of the cells, each of which is a value
pub record AddsRows (ty : DataType) (cells : List Cell) (old new : List ℕ) : Type 0 where
  pub values : List Value
  pub own : cells ≡ map value values
  pub printed : new ≡ old ++ flat_map (λ v. line (row_text ty v)) values

-- the text shows the cells: each is a value, and has its line
pub record Shows (ty : DataType) (id : Id) (cells : List Cell) (text : List ℕ) : Type 0 where
  pub values : List Value
  pub own : cells ≡ map value values
  pub printed : text ≡ output ty id values
