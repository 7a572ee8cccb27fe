use Rattle.std.proofs.Common.{◌≡◌, ℕ, ◌≤◌, Some, true, Result, Ok, Err, IfOk, IfErr, refl, subst, sym, arith}
use Rattle.vx_value.specs.declared.error.VortexError.{VortexError}
use Rattle.vx_value.specs.declared.error.VortexError.TheVariants as error
use Rattle.vx_tree.specs.Tree.{Tree}
use Rattle.vx_tree.specs.Weight.{weight}
use Rattle.vx_opt.specs.Answers.{IsDescended, Spending, IsStoppedBelow, IsNoLimit}
use Rattle.vx_opt.specs.Entries.{SpentNothing}
use Rattle.vx_opt.proofs.EntriesLemmas.{all_later_refl}
use Rattle.vx_main.specs.Commands.{reads_tree}
use Rattle.vx_main.specs.Runs.{Rules, IsSource, IsUnprepared}
use Rattle.vx_main.specs.declared.top.words.Command.{Command}
use Rattle.vx_main.specs.declared.top.words.Command.TheVariants.{Run, Optimize, Help, Version}
use Rattle.vx_main.proofs.top.answer.prepare.Goals as goal

-- a command that doesn't rewrite the tree executes it as it is
own_source : (c : Command) (r : Rules) (t : Tree) → reads_tree (Some c) ≡ true → ((limit : ℕ) → c ≡ Optimize limit → ⊥) → IsSource c r t t
own_source (Run limit) r t reads other = refl
own_source (Optimize limit) r t reads other = absurd (other limit refl)
own_source Help r t reads other = absurd (cc (reads))
own_source Version r t reads other = absurd (cc (reads))

-- one that does executes what the tree is optimized to, or says why there is nothing
module _ (t : Tree) (r : Rules) (c : Command) (limit : ℕ) (is : c ≡ Optimize limit) where
  optimized : (result : Result Tree VortexError) → IfOk result (λ u. Spending (IsDescended t u) r.before r.after) → IfOk result (IsSource c r t)
  optimized result h = subst (λ x. IfOk result (IsSource x r t)) (sym is) h

  unoptimized : (e : VortexError) → IsStoppedBelow t r.before r.after e → (weight t ≤ 100 → SpentNothing r.before r.after → IsNoLimit e)
      → IsUnprepared (Optimize limit) r t e
  unoptimized error.OutOfMemory stopped light = tt
  unoptimized (error.RewriteLimit at_root total) stopped light =
      (stopped, λ none. let heavy : ¬ (weight t ≤ 100) = λ h. light h none in omega arith)
  unoptimized (error.Refused kind p k j) stopped light = stopped
  unoptimized _ stopped light = absurd stopped

  not_optimized : (result : Result Tree VortexError) → IfErr result (IsStoppedBelow t r.before r.after)
      → (weight t ≤ 100 → SpentNothing r.before r.after → IfErr result IsNoLimit) → IfErr result (IsUnprepared c r t)
  not_optimized (Ok u) stopped light = tt
  not_optimized (Err e) stopped light = subst (λ x. IsUnprepared x r t e) (sym is) (unoptimized e stopped light)

pub returns-in-Optimize-clause-ok : goal.returns-in-Optimize-clause-ok
returns-in-Optimize-clause-ok g c =
    optimized c.args.array _ c.args.command c.in-Optimize.limit c.in-Optimize.is c.optimize_recursive.result c.optimize_recursive.ensures.descended

pub returns-in-Optimize-clause-err : goal.returns-in-Optimize-clause-err
returns-in-Optimize-clause-err g c =
    let by = c.optimize_recursive.ensures in
    not_optimized c.args.array _ c.args.command c.in-Optimize.limit c.in-Optimize.is c.optimize_recursive.result by.stopped by.never_if_light

pub returns-in_default-clause-ok : goal.returns-in_default-clause-ok
returns-in_default-clause-ok g c = own_source c.args.command _ c.args.array c.requires c.in_default.not-Optimize

pub returns-in_default-clause-later : goal.returns-in_default-clause-later
returns-in_default-clause-later g c = all_later_refl _
