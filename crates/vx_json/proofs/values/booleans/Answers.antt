use Rattle.std.proofs.Common.{sym, refl, inr, false}
use Rattle.serde_json.specs.Find.{as_bool}
use Rattle.serde_json.specs.View.{view}
use Rattle.vx_json.specs.ReadRows.{read_unless}
use Rattle.vx_json.proofs.ReadRowsLemmas.{none_yet, one_more, not_read, past_all}
use Rattle.vx_json.proofs.values.booleans.Goals as goal

pub loop-value-init : goal.loop-value-init
loop-value-init g c = none_yet _ _ _ _ _ _ c.in_ok-bits.ensures c.requires

pub returns-in_default : goal.returns-in_default
returns-in_default g c =
    let within = rw c.deref-value-items.ensures.value at c.loop-value-test.true in
    let item = rw c.deref-value-items.ensures.value at c.value-item.is in
    let none = sym {b = read_unless c.is_null_row-null.result false (as_bool (view c.value-item.result))} c.in_default.ensures in
    inr (refl, not_read _ _ _ _ _ _ _ c.loop-value.invariant c.value-item.result c.is_null_row-null.result within item c.is_null_row-null.ensures none)

pub loop-value-preserved : goal.loop-value-preserved
loop-value-preserved g c =
    let within = rw c.deref-value-items.ensures.value at c.loop-value-test.true in
    let item = rw c.deref-value-items.ensures.value at c.value-item.is in
    one_more _ _ _ _ _ _ _ c.loop-value.invariant c.value-item.result c.is_null_row-null.result _ _ _ within item c.is_null_row-null.ensures c.in-Some.ensures
    c.in_ok-push.ensures.ok c.in_ok-tell.ensures

pub returns : goal.returns
returns g c =
    let past = rw c.deref-value-items.ensures.value at c.loop-value-test.false in
    past_all _ _ _ _ _ _ _ c.loop-value.invariant past _ c.in_ok-finish.ensures
