use Rattle.std.proofs.Common.{◌+◌, ◌∙◌, ap, sym, refl, inr, map, pos, arith, rules}
use Rattle.std.proofs.lemmas.List.{map-append}
use Rattle.serde_json.specs.View.{view}
use Rattle.vx_json.specs.ReadRows.{read_unless}
use Rattle.vx_json.proofs.ReadRowsLemmas.{none_yet, one_more, not_read, past_all}
use Rattle.vx_json.proofs.numbers.numbers.Goals as goal

pub loop-value-init : goal.loop-value-init
loop-value-init g c = record {
  counted = search rules;
  room = search rules;
  read = none_yet _ _ _ _ _ _ (ap (map g.T.Number.value) c.in_ok-numbers.ensures.items) c.requires.untold;
}

pub returns-in_default-clause-rows : goal.returns-in_default-clause-rows
returns-in_default-clause-rows g c =
    let within = rw c.deref-value-items.ensures.value at c.loop-value-test.true in
    let item = rw c.deref-value-items.ensures.value at c.value-item.is in
    let spelled = g.R.NumberReader.spelled c.args.reader.now (view c.value-item.result) in
    let none = sym {b = read_unless c.is_null_row-null.result (pos 0) spelled} c.in_default.ensures in
    inr (refl, not_read _ _ _ _ _ _ _ c.loop-value.invariant.read c.value-item.result c.is_null_row-null.result within item c.is_null_row-null.ensures none)

pub loop-value-preserved : goal.loop-value-preserved
loop-value-preserved g c =
    let before = c.loop-value.invariant in
    let push = c.push_reserved.ensures in
    let within = rw c.deref-value-items.ensures.value at c.loop-value-test.true in
    let item = rw c.deref-value-items.ensures.value at c.value-item.is in
    let pushed = ap (map g.T.Number.value) push.items ∙ map-append g.T.Number.value c.loop-value.numbers.items _ in
    record {
      counted = push.len ∙ ap (λ n. n + 1) before.counted;
      room = omega (arith, push.capacity, before.room);
      read = one_more _ _ _ _ _ _ _ before.read c.value-item.result c.is_null_row-null.result _ _ _ within item c.is_null_row-null.ensures
          c.in-Some.ensures pushed c.in_ok-tell.ensures;
    }

pub returns-clause-rows : goal.returns-clause-rows
returns-clause-rows g c =
    let past = rw c.deref-value-items.ensures.value at c.loop-value-test.false in
    past_all _ _ _ _ _ _ _ c.loop-value.invariant.read past _ (ap (λ v. v.numbers) c.new.ensures ∙ ap (map g.T.Number.value) c.in_ok-from_vec.ensures)
