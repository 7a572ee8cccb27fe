use Rattle.std.proofs.Common.{◌≡◌, arith, Some, None, sym, ap, subst, ◌∙◌}
use Rattle.std.proofs.lemmas.Grind.{common_steps}
use Rattle.std.proofs.lemmas.List.Elements.{all_zip_more}
use Rattle.std.proofs.lemmas.Result.{IfOk-weaker}
use Rattle.vx_tree.specs.Tree.{len, datum}
use Rattle.vx_rule.specs.Tags.{is_open}
use Rattle.vx_tree.specs.Columns.{empty_of}
use Rattle.vx_rule.proofs.PushLemmas.{IsSlotPushed, is_part, whole_pushed, empty_pushed, column_pushed, constant_pushed, inner_pushed}
use Rattle.vx_rule.proofs.PushLemmas.{child_below, function_sized, function_pushed}
use Rattle.vx_rule.proofs.push.+push.Goals as goal

pub push-returns-then-range-len-clause-ok : goal.push-returns-then-range-len-clause-ok
push-returns-then-range-len-clause-ok t c =
    let a = c.args.range.start in
    let b = c.args.range.end in
    let x = c.args.array.now in
    let first : a ≡ 0 = grind (arith, common_steps) in
    let last : b ≡ len x = grind (arith, common_steps) in
    whole_pushed a b x c.well_formed_tree.ensures.formed c.requires.0 c.requires.1 c.in_ok-clone.field-0 first last c.in_ok-clone.ensures.cases

pub push-returns-then-range-clause-ok : goal.push-returns-then-range-clause-ok
push-returns-then-range-clause-ok t c =
    let a = c.args.range.start in
    let b = c.args.range.end in
    let none : a ≡ b = grind (arith, common_steps) in
    let some : a ≡ 0 → b ≡ len c.args.array.now → ⊥ = λ z w. grind (arith, common_steps) in
    IfOk-weaker c.empty_column.result _ _
    (λ u e. empty_pushed a b c.args.array.now c.well_formed_tree.ensures.formed c.requires.0 c.requires.1 u none some (e ∙ ap empty_of c.dtype.ensures.dtype))
    c.empty_column.ensures.ok

pub push-returns-in-Constant-clause-ok : goal.push-returns-in-Constant-clause-ok
push-returns-in-Constant-clause-ok t c =
    let part = is_part c.args.range.start c.args.range.end c.args.array.now c.requires (λ z w. grind (arith, common_steps)) c.if-range.false in
    IfOk-weaker c.constant_like.result _ _
    (constant_pushed c.args.range.start c.args.range.end c.args.array.now c.well_formed_tree.ensures.formed part) c.constant_like.ensures.ok

pub push-returns-in_default-clause-ok : goal.push-returns-in_default-clause-ok
push-returns-in_default-clause-ok t c =
    let part = is_part c.args.range.start c.args.range.end c.args.array.now c.requires (λ z w. grind (arith, common_steps)) c.if-range.false in
    IfOk-weaker c.column_slice.result _ _ (λ u h. column_pushed c.args.range.start c.args.range.end c.args.array.now u part.0 (sym c.is.ensures ∙ c.if-is.true) h)
    c.column_slice.ensures.ok

pub push-returns-in-Slice-clause-ok : goal.push-returns-in-Slice-clause-ok
push-returns-in-Slice-clause-ok t c =
    let part = is_part c.args.range.start c.args.range.end c.args.array.now c.requires (λ z w. grind (arith, common_steps)) c.if-range.false in
    IfOk-weaker c.push.result _ _
    (λ u h. inner_pushed c.args.range.start c.args.range.end c.args.array.now c.well_formed_tree.ensures.formed part c.in-Slice.from c.in-Slice.field-2
    c.in-Slice.child.now u c.in-Slice.ensures.0 h)
    c.push.ensures.ok

pub push_function-unreachable-requires : goal.push_function-unreachable-requires
push_function-unreachable-requires t c =
    let p = c.function_parts in
    child_below c.args.array.now p.result.0.now p.result.1.now p.ensures.shape p.ensures.node c.loop-slot.slot-index c.slot-item.result None
    c.loop-slot-test.true c.slot-item.is c.in_default.is

pub push_function-push-requires : goal.push_function-push-requires
push_function-push-requires t c =
    let p = c.function_parts in
    let below = child_below c.args.array.now p.result.0.now p.result.1.now p.ensures.shape p.ensures.node c.loop-slot.slot-index c.slot-item.result
    (Some c.in-Some.child) c.loop-slot-test.true c.slot-item.is c.in-Some.is in
    let d = c.decreases in
    let order = c.requires.part.0.some_rows in
    (omega (arith, below.1), (omega arith, omega (arith, below.0, c.requires.part.1)))

pub push_function-loop-slot-preserved : goal.push_function-loop-slot-preserved
push_function-loop-slot-preserved t c =
    let R = IsSlotPushed c.args.range.start c.args.range.end in
    let pushed = subst (λ s. R s (Some c.in-Ok.part)) (sym c.in-Some.is) c.in-Ok.ensures.ok in
    rw c.in_ok-push-in-Ok.ensures.items
    (all_zip_more R c.function_parts.result.1.now c.loop-slot.parts.items c.loop-slot.slot-index c.slot-item.result (Some c.in-Ok.part) c.loop-slot-test.true
    c.slot-item.is c.loop-slot.invariant pushed)

pub push_function-function_node-requires : goal.push_function-function_node-requires
push_function-function_node-requires t c =
    let p = c.function_parts in
    function_sized c.args.array.now p.result.0.now p.result.1.now p.ensures.shape p.ensures.node c.args.range.start c.args.range.end c.loop-slot.slot-index
    c.loop-slot.parts.items c.loop-slot-test.false c.loop-slot.invariant

pub push_function-returns-clause-ok : goal.push_function-returns-clause-ok
push_function-returns-clause-ok t c =
    let p = c.function_parts in
    IfOk-weaker c.function_node.result _ _
    (function_pushed c.args.array.now p.result.0.now p.result.1.now p.ensures.shape p.ensures.node c.args.range.start c.args.range.end c.loop-slot.slot-index
    c.loop-slot.parts.items c.loop-slot-test.false c.loop-slot.invariant p.ensures.well c.requires.part
    (sym (ap (λ y. is_open (datum y)) p.ensures.shape) ∙ c.requires.open))
    c.function_node.ensures.ok
