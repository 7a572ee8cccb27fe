use Rattle.std.proofs.Common.{◌≡◌, false, subst, sym, ap, ◌∙◌}
use Rattle.std.specs.Prelude.{MatchOption}
use Rattle.vx_tree.specs.Tree.{datum, is_constant}
use Rattle.vx_tree.specs.Canonicals.{columnar_tree}
use Rattle.vx_column.specs.Applied.{Repeats}
use Rattle.vx_column.proofs.AppliedLemmas.{not_all_repeat}
use Rattle.vx_column.proofs.ArgumentsLemmas.{zipped_more}
use Rattle.vx_column.proofs.functions.apply.constant.constants.Goals as goal

pub returns-in-None-clause-not_all : goal.returns-in-None-clause-not_all
returns-in-None-clause-not_all c =
    let column = c.column-item.result in
    let other : is_constant (datum (columnar_tree column)) ≡ false =
    subst (λ o. MatchOption o (is_constant (datum (columnar_tree column)) ≡ false) (Repeats column)) c.in-None.is c.in_ok-scalar.ensures in
    not_all_repeat c.args.len c.args.columns.now c.loop-column.column-index column c.loop-column-test.true
    (ap (λ x. is_constant (datum (columnar_tree x))) (sym c.column-item.is) ∙ other)

pub loop-column-preserved : goal.loop-column-preserved
loop-column-preserved c =
    let column = c.column-item.result in
    let one : Repeats column c.in-Some.scalar =
    subst (λ o. MatchOption o (is_constant (datum (columnar_tree column)) ≡ false) (Repeats column)) c.in-Some.is c.in_ok-scalar.ensures in
    rw c.in_ok-push-in-Some.ensures.items
    (zipped_more Repeats c.args.columns.now c.loop-column.scalars.items c.loop-column.column-index column c.in-Some.scalar c.loop-column-test.true
    c.column-item.is c.loop-column.invariant one)
