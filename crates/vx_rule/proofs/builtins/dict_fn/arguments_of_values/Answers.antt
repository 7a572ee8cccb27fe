use Rattle.std.proofs.Common.{arith, ◌≡◌, ◌∷◌, [], ◌+◌, ◌++◌, length, length-append, sym, subst, ap, ◌∙◌}
use Rattle.vx_rule.specs.Pushes.{IsConstantLike}
use Rattle.vx_rule.specs.DictFunctions.{AreFirstOfValues}
use Rattle.vx_rule.proofs.DictFunctionsLemmas.{all_at, values_more, values_here, values_other}
use Rattle.vx_rule.proofs.builtins.dict_fn.arguments_of_values.Goals as goal
use Rattle.vx_rule.proofs.builtins.dict_fn.arguments_of_values.Goals.{then-index-slot+in_ok-clone+in_ok-push, else-index-slot+then-is+in_ok-constant_like+in_ok-push-2}

pub present-argument-requires : goal.present-argument-requires
present-argument-requires c =
    let r = all_at c.args.arguments.now c.loop-index.index c.index-arguments-index.result c.requires c.loop-index-test.true in
    (r.0, c.index-arguments-index.is ∙ r.1)

pub returns-else-is-clause-ok : goal.returns-else-is-clause-ok
returns-else-is-clause-ok c =
    λ ds m a. values_other c.args.slot c.args.values.now c.args.arguments.now ds c.loop-index.index c.present-argument.result.now c.index-arguments-index.result
    (sym c.index-arguments-index.is ∙ c.present-argument.ensures) (sym c.if-is.ensures) c.if-index-slot.false c.loop-index-test.true m a

pub loop-index-preserved : goal.loop-index-preserved
loop-index-preserved c =
    let xs = c.args.arguments.now in
    let ys = c.loop-index.children.items in
    let i = c.args.slot in
    let v = c.args.values.now in
    elim c.if-index-slot.branch [
      | then-index-slot+in_ok-clone+in_ok-push w ↦
          let more = ap (λ l. l.items) w.children-is ∙ w.in_ok-push.ensures.items ∙ ap (λ t. ys ++ t ∷ []) w.in_ok-clone.ensures.cases in
          let at : length ys ≡ i = c.loop-index.invariant.1 ∙ w.if-index-slot.true in (
            subst (AreFirstOfValues i v xs) (sym more)
                (values_here i v xs ys c.requires c.loop-index.invariant.0 at (omega (arith, at, c.loop-index.invariant.1, c.loop-index-test.true))),
            omega (arith, ap length more ∙ length-append ys (v ∷ []), c.loop-index.invariant.1),
          )
      | else-index-slot+then-is+in_ok-constant_like+in_ok-push-2 w ↦
          let d = w.in_ok-constant_like.field-0 in
          let more = ap (λ l. l.items) w.children-is ∙ w.in_ok-push-2.ensures.items in (
            subst (AreFirstOfValues i v xs) (sym more)
                (values_more i v xs ys c.loop-index.index c.present-argument.result.now d c.index-arguments-index.result c.loop-index.invariant.0
                c.loop-index.invariant.1 c.loop-index-test.true (sym c.index-arguments-index.is ∙ c.present-argument.ensures) w.if-index-slot.false
                (subst (λ m. IsConstantLike c.present-argument.result.now m d) w.len.ensures w.in_ok-constant_like.ensures.ok)),
            omega (arith, ap length more ∙ length-append ys (d ∷ []), c.loop-index.invariant.1),
          )
    ]

pub returns-clause-ok : goal.returns-clause-ok
returns-clause-ok c =
    (omega (arith, c.loop-index.invariant.1, c.loop-index-test.false, c.loop-index.auto.index-end), c.loop-index.invariant.0)
