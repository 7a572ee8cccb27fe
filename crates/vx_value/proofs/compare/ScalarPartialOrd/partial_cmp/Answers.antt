use Rattle.std.proofs.Common.{◌≡◌, sym, subst, Some}
use Rattle.std.specs.Prelude.{◌↔◌, IsSome}
use Rattle.std.specs.declared.cmp.Ordering.TheVariants.{Equal}
use Rattle.vx_value.proofs.OrderLemmas.{AreCompared, scalar_cmp_is_some, scalar_cmp_is_equal}
use Rattle.vx_value.proofs.compare.ScalarPartialOrd.partial_cmp.Goals as goal

pub returns-clause-compared : goal.returns-clause-compared
returns-clause-compared c =
    let s = c.args.self.now in
    let t = c.args.other.now in
    subst (λ o. IsSome o ↔ AreCompared s t) (sym c.scalar_order.ensures.value)
    (scalar_cmp_is_some s t c.scalar_order.ensures.left_typed c.scalar_order.ensures.right_typed)

pub returns-clause-equal : goal.returns-clause-equal
returns-clause-equal c =
    let s = c.args.self.now in
    let t = c.args.other.now in
    subst (λ o. (o ≡ Some Equal) ↔ (s ≡ t)) (sym c.scalar_order.ensures.value) (scalar_cmp_is_equal s t)
