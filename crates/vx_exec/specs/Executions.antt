-- What an execution to a target promises.
use Rattle.std.specs.Prelude.{◌≡◌, ◌⊎◌, ◌≤◌, ◌<◌, ℕ, Bool, true, Result, Err, IsOk, IfOk, IfErr, OnOk}
use Rattle.vx_value.specs.declared.error.VortexError.{VortexError}
use Rattle.vx_value.specs.declared.error.VortexError.TheVariants.{IterationLimit, Fault}
use Rattle.vx_tree.specs.Tree.{Tree}
use Rattle.vx_tree.specs.Firm.{KeepsFirmly}
use Rattle.vx_tree.specs.Cost.{cost}
use Rattle.vx_step.specs.Steps.{IsStopped}
use Rattle.vx_exec.specs.Budgets.{Budget}
use Rattle.vx_exec.specs.Moves.{IsExecuted, GoesOn, FaultsIn, read_cells}
use Rattle.std.specs.Prelude.{Some, None}
use Rattle.vx_tree.specs.Tree.{datum, is_columnar}
use Rattle.vx_tree.specs.Cells.{HasNoFault}
use Rattle.vx_column.specs.Grown.{GrownRows, with_column, column_refusal}

-- t is executed until its root passes `fits` or is canonical; `tree_in` is the tree of a result
pub record IsExecution {R : Type 0} (fits : Tree → Bool) (tree_in : R → Tree) (t : Tree) (old new : Budget) (result : Result R VortexError) : Type 0 where
  pub ok : IfOk result (λ r. KeepsFirmly t (tree_in r))
  pub executed : IfOk result (λ r. IsExecuted fits t new.turns (tree_in r))
  -- a tree whose root passes is the result, in one turn
  pub as_it_is : fits t ≡ true → IfOk result (λ r. tree_in r ≡ t)
  pub at_once : fits t ≡ true → 1 ≤ old.limit → IsOk result
  pub bound : OnOk result (new.turns ≤ cost t)
  pub within : OnOk result ((1 ≤ new.turns) × (new.turns ≤ old.limit))
  pub limit : (l : ℕ) → result ≡ Err (IterationLimit l) → (l ≡ old.limit) × (new.turns ≡ l) × (l < cost t) × GoesOn fits t l
  pub err : IfErr result (λ e. (e ≡ IterationLimit old.limit) ⊎ IsStopped t e)
  pub fault : result ≡ Err Fault → FaultsIn fits t new.turns
  pub told : new.turns ≤ old.limit
  pub kept : new.limit ≡ old.limit

-- a tree that is a column of the tree t, executed in n turns, has a cell without a value among those that are read
abbrev pub HasFaultIn : Tree → ℕ → Type 0
HasFaultIn t n = (u : Tree) × IsExecuted (λ x. is_columnar (datum x)) t n u × (¬ (HasNoFault (read_cells u)))

-- t is executed to a column, whose rows are appended to the builder b
pub record IsAppending (t : Tree) (b : GrownRows) (old new : Budget) (result : Result GrownRows VortexError) : Type 0 where
  -- the rows of the column that t is executed to, just t's if it is firm, stand behind the builder's; none of the cells that are read is a fault
  pub ok : IfOk result (λ c. (u : Tree) × IsExecuted (λ x. is_columnar (datum x)) t new.turns u × KeepsFirmly t u × HasNoFault (read_cells u)
      × (c ≡ with_column b u))
  -- a refusal comes before anything is executed
  pub valid : IfOk result (λ c. column_refusal b t ≡ None)
  pub refused : (e : VortexError) → column_refusal b t ≡ Some e → (result ≡ Err e) × (new.turns ≡ 0)
  pub bound : OnOk result (new.turns ≤ cost t)
  pub within : OnOk result ((1 ≤ new.turns) × (new.turns ≤ old.limit))
  pub limit : (l : ℕ) → result ≡ Err (IterationLimit l)
      → (l ≡ old.limit) × (new.turns ≡ l) × (l < cost t) × GoesOn (λ x. is_columnar (datum x)) t l
  pub err : IfErr result (λ e. (column_refusal b t ≡ Some e) ⊎ ((e ≡ IterationLimit old.limit) ⊎ IsStopped t e))
  pub fault : result ≡ Err Fault → FaultsIn (λ x. is_columnar (datum x)) t new.turns ⊎ HasFaultIn t new.turns
  pub told : new.turns ≤ old.limit
  pub kept : new.limit ≡ old.limit
