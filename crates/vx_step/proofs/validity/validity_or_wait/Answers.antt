use Rattle.std.proofs.Common.{◌≡◌, true, ◌∙◌, subst, rules}
use Rattle.vx_tree.specs.Tree.{datum, is_columnar}
use Rattle.vx_tree.specs.Canonicals.{columnar_tree}
use Rattle.vx_column.specs.Arguments.{IsUnread}
use Rattle.vx_step.proofs.StepsLemmas.{unread_failed}
use Rattle.vx_step.proofs.validity.validity_or_wait.Goals as goal

pub returns-in-Ok-clause-err : goal.returns-in-Ok-clause-err
returns-in-Ok-clause-err c =
    let failed = c.in-Err-validity_canonical in
    let same : columnar_tree c.in-Ok.column ≡ c.args.child.now = c.in-Ok.ensures.ok ∙ c.in_ok-clone.ensures.cases in
    let whole : is_columnar (datum c.args.child.now) ≡ true = search rules in
    unread_failed c.args.child.now c.args.array.now failed.e c.requires whole (subst (λ x. IsUnread x failed.e) same failed.ensures.err)
