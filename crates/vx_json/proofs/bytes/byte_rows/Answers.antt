use Rattle.std.proofs.Common.{◌≡◌, ◌∙◌, [], None, ap, sym, rules}
use Rattle.serde_json.specs.View.{view, items_view}
use Rattle.vx_tree.specs.ColumnTypes.{are_bytes_of}
use Rattle.vx_json.specs.ReadRows.{read_unless}
use Rattle.vx_json.specs.SpelledValues.{bytes_spelled, or_null, all_read}
use Rattle.vx_json.proofs.ReadRowsLemmas.{none_yet, one_more, not_read, past_all}
use Rattle.vx_json.proofs.SpelledBytesLemmas.{typed_more}
use Rattle.vx_tree.specs.Views.{rows_of}
use Rattle.vx_tree.proofs.ViewsLemmas.{rows_packed, packed_again}
use Rattle.vx_json.proofs.bytes.byte_rows.Goals as goal

pub loop-value-init : goal.loop-value-init
loop-value-init g c = record { read = none_yet _ _ _ _ _ _ c.in_ok-rows.ensures.ok c.requires; typed = search rules }

pub returns-in_err-bytes_or_none-clause-rows : goal.returns-in_err-bytes_or_none-clause-rows
returns-in_err-bytes_or_none-clause-rows g c =
    let list = c.args.list.now.items in
    let spelled = bytes_spelled c.args.storage in
    let within = rw c.deref-value-items.ensures.value at c.loop-value-test.true in
    let item = rw c.deref-value-items.ensures.value at c.value-item.is in
    let none : read_unless c.is_null_row-null.result [] (spelled (view c.value-item.result)) ≡ None →
    all_read (or_null g.N.RowNulls.mode spelled) (items_view list) ≡ None =
    not_read _ _ _ _ _ _ _ c.loop-value.invariant.read c.value-item.result c.is_null_row-null.result within item c.is_null_row-null.ensures in
    search (rules, none)

pub loop-value-preserved : goal.loop-value-preserved
loop-value-preserved g c =
    let before = c.loop-value.invariant in
    let within = rw c.deref-value-items.ensures.value at c.loop-value-test.true in
    let item = rw c.deref-value-items.ensures.value at c.value-item.is in
    record {
      read = one_more _ _ _ _ _ _ _ before.read c.value-item.result c.is_null_row-null.result _ _ _ within item c.is_null_row-null.ensures
          (sym c.in_ok-bytes_or_none.ensures.ok) c.in_ok-push.ensures.ok c.in_ok-tell.ensures;
      typed = ap (are_bytes_of c.args.storage) c.in_ok-push.ensures.ok
          ∙ typed_more c.args.storage c.loop-value.rows _ before.typed c.in_ok-bytes_or_none.ensures.typed;
    }

pub returns-clause-rows : goal.returns-clause-rows
returns-clause-rows g c =
    let past = rw c.deref-value-items.ensures.value at c.loop-value-test.false in
    past_all _ _ _ _ _ _ _ c.loop-value.invariant.read past _ (ap rows_of c.in_ok-finish.ensures.ok ∙ rows_packed c.loop-value.rows)

pub returns-clause-packed : goal.returns-clause-packed
returns-clause-packed g c = (packed_again _ _ c.in_ok-finish.ensures.ok).0

pub returns-clause-typed : goal.returns-clause-typed
returns-clause-typed g c =
    ap (are_bytes_of c.args.storage) (ap rows_of c.in_ok-finish.ensures.ok ∙ rows_packed c.loop-value.rows) ∙ c.loop-value.invariant.typed
