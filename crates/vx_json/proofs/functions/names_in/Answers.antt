use Rattle.std.proofs.Common.{rules, ◌≡◌, None}
use Rattle.serde_json.specs.Find.{as_str}
use Rattle.serde_json.specs.View.{view, items_view}
use Rattle.vx_json.specs.SpelledValues.{all_read}
use Rattle.vx_json.proofs.SpelledValuesLemmas.{read_one, read_none, read_all}
use Rattle.vx_json.proofs.functions.names_in.Goals as goal

pub returns-in_err-name_in : goal.returns-in_err-name_in
returns-in_err-name_in c =
    let list = c.args.list.now.items in
    let value = c.value-item.result in
    let within = rw c.deref-value-items.ensures.value at c.loop-value-test.true in
    let item = rw c.deref-value-items.ensures.value at c.value-item.is in
    let none : as_str (view value) ≡ None → all_read as_str (items_view list) ≡ None =
    λ e. read_none as_str list c.loop-value.value-index _ c.loop-value.invariant value within item e in
    search (rules, none)

pub loop-value-preserved : goal.loop-value-preserved
loop-value-preserved c =
    let within = rw c.deref-value-items.ensures.value at c.loop-value-test.true in
    let item = rw c.deref-value-items.ensures.value at c.value-item.is in
    read_one as_str c.args.list.now.items c.loop-value.value-index c.loop-value.names.items c.loop-value.invariant c.value-item.result _ _ within item
    c.in_ok-name_in.ensures c.in_ok-push.ensures.items

pub returns : goal.returns
returns c =
    let past = rw c.deref-value-items.ensures.value at c.loop-value-test.false in
    read_all as_str c.args.list.now.items c.loop-value.value-index c.loop-value.names.items c.loop-value.invariant past
