use Rattle.vx_exec.specs.Budgets.{budget_of}
use Rattle.vx_exec.proofs.AppendingLemmas.{refused_at_once}
use Rattle.vx_exec.proofs.into_builder.execute_into_builder.Goals as goal

pub returns-in-Err-clause-appending : goal.returns-in-Err-clause-appending
returns-in-Err-clause-appending g c =
    refused_at_once c.args.array c.args.builder (budget_of c.args.ctx.now) (budget_of c.restart.new.self) c.in-Err.e c.in-Err.ensures c.restart.ensures.budget
