use Rattle.std.proofs.Common.{false, rules}
use Rattle.serde_json.specs.Find.{as_bool}
use Rattle.serde_json.specs.View.{items_view}
use Rattle.vx_mask.proofs.MasksLemmas.{bits_in_mask_of}
use Rattle.vx_json.proofs.ReadRowsLemmas.{none_null, none_null_unread}
use Rattle.vx_json.proofs.nodes.filter.filter_mask.Goals as goal

pub returns-in_err-bits-clause-err : goal.returns-in_err-bits-clause-err
returns-in_err-bits-clause-err c =
    let none = none_null_unread as_bool (items_view c.in-Some.list.now.items) in
    search (rules, none)

pub returns-then-len-clause-err : goal.returns-then-len-clause-err
returns-then-len-clause-err c =
    let read = none_null false as_bool (items_view c.in-Some.list.now.items) c.in_ok-bits.bits _ c.in_ok-bits.ensures in
    search (rules, read)

pub returns-clause-ok : goal.returns-clause-ok
returns-clause-ok c =
    let read = none_null false as_bool (items_view c.in-Some.list.now.items) c.in_ok-bits.bits _ c.in_ok-bits.ensures in
    search (rules, bits_in_mask_of, read)
