-- What a contract sees of an `ExecutionCtx`: the limit of turns, and the turns that the last call took.
use Rattle.std.specs.Prelude.{ℕ}
use Rattle.vx_exec.specs.declared.context.ExecutionCtx.{ExecutionCtx}

pub record Budget : Type 0 where
  pub limit : ℕ
  pub turns : ℕ

abbrev pub budget_of : {X : Type 0} {F : X → Type 0} → ExecutionCtx X F → Budget
budget_of c = record { limit = c.limit; turns = c.turns }
