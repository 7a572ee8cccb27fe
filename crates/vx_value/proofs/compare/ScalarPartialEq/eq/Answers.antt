use Rattle.std.proofs.Common.{◌≡◌, sym, subst, rules}
use Rattle.std.specs.Prelude.{◌↔◌, IsTrue}
use Rattle.vx_value.proofs.OrderLemmas.{same_scalar_is}
use Rattle.vx_value.proofs.compare.ScalarPartialEq.eq.Goals as goal

pub returns-then-eq-clause-value : goal.returns-then-eq-clause-value
returns-then-eq-clause-value c = search rules

pub returns-then-eq-clause-equal : goal.returns-then-eq-clause-equal
returns-then-eq-clause-equal c =
    let s = c.args.self.now in
    let t = c.args.other.now in
    subst (λ b. IsTrue b ↔ (s ≡ t)) (sym (returns-then-eq-clause-value c)) (same_scalar_is s t)
