use Rattle.std.proofs.Common.{◌≡◌, ◌+◌, ◌∙◌, None, ap, sym, arith, rules}
use Rattle.serde_json.specs.View.{view, items_view}
use Rattle.vx_json.specs.Spelled.{tree_spelled, trees_spelled}
use Rattle.vx_json.proofs.SpelledLemmas.{get_less, list_less, item_less, trees_read}
use Rattle.vx_json.proofs.SpelledValuesLemmas.{read_one, read_none, read_all}
use Rattle.vx_json.proofs.tree.+tree_of.Goals as goal

pub trees_of-tree_of-requires : goal.trees_of-tree_of-requires
trees_of-tree_of-requires t c =
    let e = rw c.deref-value-items.ensures.value at c.value-item.is in
    let h = rw c.deref-value-items.ensures.value at c.loop-value-test.true in
    (let l = item_less c.args.list.now.items c.loop-value.value-index c.value-item.result h e in let d = c.decreases in omega arith, tt)

pub trees_of-returns-in_err-tree_of-clause-err : goal.trees_of-returns-in_err-tree_of-clause-err
trees_of-returns-in_err-tree_of-clause-err t c =
    let list = c.args.list.now.items in
    let value = c.value-item.result in
    let within = rw c.deref-value-items.ensures.value at c.loop-value-test.true in
    let item = rw c.deref-value-items.ensures.value at c.value-item.is in
    let none : tree_spelled (view value) ≡ None → trees_spelled (items_view list) ≡ None =
    λ e. trees_read (items_view list) ∙ read_none tree_spelled list c.loop-value.value-index _ c.loop-value.invariant.read value within item e in
    search (rules, none)

pub trees_of-loop-value-preserved : goal.trees_of-loop-value-preserved
trees_of-loop-value-preserved t c =
    let before = c.loop-value.invariant in
    let push = c.push_reserved.ensures in
    let within = rw c.deref-value-items.ensures.value at c.loop-value-test.true in
    let item = rw c.deref-value-items.ensures.value at c.value-item.is in
    record {
      counted = push.len ∙ ap (λ n. n + 1) before.counted;
      room = omega (arith, push.capacity, before.room);
      read = read_one tree_spelled c.args.list.now.items c.loop-value.value-index c.loop-value.trees.items before.read c.value-item.result _ _ within item
          c.in_ok-tree_of.ensures.ok push.items;
    }

pub trees_of-returns-clause-ok : goal.trees_of-returns-clause-ok
trees_of-returns-clause-ok t c =
    let list = c.args.list.now.items in
    let past = rw c.deref-value-items.ensures.value at c.loop-value-test.false in
    trees_read (items_view list) ∙ read_all tree_spelled list c.loop-value.value-index c.loop-value.trees.items c.loop-value.invariant.read past

pub children-trees_of-requires : goal.children-trees_of-requires
children-trees_of-requires t c = (
  let l = list_less c.text.result.now (view c.args.value.now) (items_view c.in-Some.list.now.items) c.in-Some.ensures in let d = c.decreases in
      omega arith,
  tt,
)

pub child-tree_of-requires : goal.child-tree_of-requires
child-tree_of-requires t c =
    (let l = get_less c.text.result.now (view c.args.value.now) (view c.in-Some.child.now) (sym c.in-Some.ensures) in let d = c.decreases in omega arith, tt)

pub nulls-tree_of-requires : goal.nulls-tree_of-requires
nulls-tree_of-requires t c =
    (let l = get_less c.text.result.now (view c.args.value.now) (view c.in-Some.spelled.now) (sym c.in-Some.ensures) in let d = c.decreases in omega arith, tt)
