-- A function applied to whole columns.
use Rattle.std.specs.Prelude.{◌≡◌, ◌⊎◌, ℕ, List, [], ◌∷◌, map, Bool, true, ◌&&◌, nat_lt, Some}
use Rattle.vx_value.specs.Types.{DataType}
use Rattle.vx_value.specs.Storage.{is_nested}
use Rattle.vx_value.specs.Typed.{Typed}
use Rattle.vx_value.specs.Cell.{Cell, value, fault}
use Rattle.vx_value.specs.declared.error.VortexError.{VortexError}
use Rattle.vx_value.specs.declared.error.VortexError.TheVariants.{OutOfMemory, Fault}
use Rattle.vx_fn.specs.Apply.{apply}
use Rattle.vx_fn.specs.ReturnTypes.{return_type}
use Rattle.vx_fn.specs.declared.function.ScalarFnRef.{ScalarFnRef}
use Rattle.vx_tree.specs.Tree.{Tree, function, filled_slots, dtype, len, datum, is_constant, is_canonical, constant_of, call_of}
use Rattle.vx_tree.specs.Well.{IsNode, shapes}
use Rattle.vx_tree.specs.Cells.{rows, row_at, slots_rows, HasNoFault, IsClean}
use Rattle.vx_tree.specs.Canonicals.{columnar_tree}
use Rattle.vx_tree.specs.Keeps.{KeepsExactly}
use Rattle.vx_tree.specs.declared.canonical.columnar.Columnar.{Columnar}
use Rattle.vx_column.specs.Computed.{IsResult}
use Rattle.vx_column.specs.Formed.{IsFormed}

-- f accepts the trees ts, each n rows long, and computes a column of them
abbrev pub IsCall : ScalarFnRef → List Tree → ℕ → Type 0
IsCall f ts n = (ty : DataType) × IsNode ty n (function f) (shapes (filled_slots ts))

abbrev pub all_constant : List Tree → Bool
all_constant [] = true
all_constant (t ∷ ts) = is_constant (datum t) && all_constant ts

-- there is a row, and every tree is a constant
abbrev pub gives_constant : List Tree → ℕ → Bool
gives_constant ts n = nat_lt 0 n && all_constant ts

-- the cells of the trees in row i
abbrev pub row_in : List Tree → ℕ → List Cell
row_in ts i = row_at (slots_rows (filled_slots ts)) i

-- the column is a constant of the scalar
abbrev pub Repeats : Columnar → Typed → Type 0
Repeats c s = columnar_tree c ≡ constant_of s (len (columnar_tree c))

-- u stands for the node exactly, has no fault, and is a constant if and only if there is a row and every tree is a constant; its validity has
-- one form, and its booleans are false under nulls
pub record IsApplied (f : ScalarFnRef) (ts : List Tree) (n : ℕ) (u : Tree) : Type 0 where
  pub typed : return_type f (map dtype ts) ≡ Some (dtype u)
  pub exactly : KeepsExactly (call_of f (dtype u) n ts) u
  pub clean : IsClean u
  pub constant_kept : is_constant (datum u) ≡ gives_constant ts n
  pub formed : IsFormed u

-- s is what f gives on row i
abbrev pub IsAppliedRow : ScalarFnRef → List Tree → ℕ → Typed → Type 0
IsAppliedRow f ts i s = (return_type f (map dtype ts) ≡ Some s.of_type) × (apply f (map dtype ts) s.of_type (row_in ts i) ≡ value s.value)

-- why it gives none: out of memory, or the row is a fault
abbrev pub IsUnappliedRow : ScalarFnRef → List Tree → ℕ → VortexError → Type 0
IsUnappliedRow f ts i e =
    (e ≡ OutOfMemory) ⊎ ((e ≡ Fault) × ((ty : DataType) → return_type f (map dtype ts) ≡ Some ty → apply f (map dtype ts) ty (row_in ts i) ≡ fault))

-- u is the canonical column of f applied to each of n rows; none is a fault if the type is nested
pub record IsAppliedEach (f : ScalarFnRef) (ts : List Tree) (n : ℕ) (u : Tree) : Type 0 where
  pub result : IsResult f (map dtype ts) (row_in ts) n u
  pub canonical : is_canonical (datum u) ≡ true
  pub told : is_nested (dtype u) ≡ true → HasNoFault (rows u)
  pub formed : IsFormed u

-- why f can't be applied: out of memory, or a fault in one of the node's rows
abbrev pub IsUnapplied : ScalarFnRef → List Tree → ℕ → VortexError → Type 0
IsUnapplied f ts n e =
    (e ≡ OutOfMemory) ⊎ ((e ≡ Fault) × ((ty : DataType) → return_type f (map dtype ts) ≡ Some ty → ¬ (HasNoFault (rows (call_of f ty n ts)))))
