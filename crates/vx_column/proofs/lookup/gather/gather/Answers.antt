use Rattle.std.proofs.lemmas.Result.{IfOk-weaker}
use Rattle.vx_tree.specs.Canonicals.{canonical_tree}
use Rattle.vx_column.proofs.GatheredLemmas.{nulls_gathered, bits_gathered, bytes_gathered}
use Rattle.vx_column.proofs.lookup.gather.gather.Goals as goal

pub returns-in-Nulls-clause-ok : goal.returns-in-Nulls-clause-ok
returns-in-Nulls-clause-ok c =
    IfOk-weaker c.stored_column.result _ _
    (λ u. nulls_gathered c.args.rows c.args.places.now c.args.valid.now c.args.len (canonical_tree u) c.in-Nulls.is) c.stored_column.ensures.ok

pub returns-in_ok-bits-in-Bits-clause-ok : goal.returns-in_ok-bits-in-Bits-clause-ok
returns-in_ok-bits-in-Bits-clause-ok c =
    let made = c.in_ok-bits-in-Bits in
    IfOk-weaker c.valid_bools.result _ _
    (λ u. bits_gathered c.args.rows c.in-Bits.bits made.bits c.args.places.now c.args.valid.now c.args.len (canonical_tree u) c.in-Bits.is made.ensures)
    c.valid_bools.ensures.ok

pub returns-in_ok-rows-in-Bytes-clause-ok : goal.returns-in_ok-rows-in-Bytes-clause-ok
returns-in_ok-rows-in-Bytes-clause-ok c =
    let made = c.in_ok-rows-in-Bytes in
    IfOk-weaker c.valid_bytes.result _ _
    (λ u. bytes_gathered c.args.rows c.in-Bytes.bytes made.rows c.args.places.now c.args.valid.now c.args.len (canonical_tree u) c.in-Bytes.is made.ensures.ok)
    c.valid_bytes.ensures.ok
