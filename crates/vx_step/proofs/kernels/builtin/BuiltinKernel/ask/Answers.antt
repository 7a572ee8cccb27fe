use Rattle.std.proofs.Common.{arith, ap}
use Rattle.vx_step.proofs.kernels.builtin.BuiltinKernel.ask.Goals as goal
use Rattle.vx_step.proofs.kernels.builtin.BuiltinKernel.ask.Goals.{in-Some, in_default}

pub returns-clause-spent_kept : goal.returns-clause-spent_kept
returns-clause-spent_kept c =
    elim c.match-answer.branch [
      | in-Some w ↦ let same = ap (λ s. s.spent.total) w.self-is in omega (arith, same, w.answered.ensures.kept)
      | in_default w ↦ let same = ap (λ s. s.spent.total) w.self-is in omega (arith, same)
    ]
