use Rattle.std.proofs.Common.{◌&&◌, sym, ap, ◌∙◌}
use Rattle.std.proofs.lemmas.Result.{IfOk-weaker}
use Rattle.vx_mask.specs.Operands.{bit_in}
use Rattle.vx_tree.specs.Canonicals.{canonical_tree}
use Rattle.vx_column.specs.ValidRows.{is_valid}
use Rattle.vx_column.proofs.SelectLemmas.{zip_same, zip_computed}
use Rattle.vx_column.proofs.ValidRowsLemmas.{bit_made}
use Rattle.vx_column.proofs.functions.select.select.zip.Goals as goal

pub select-requires-clause-same : goal.select-requires-clause-same
select-requires-clause-same c =
    zip_same c.args.len c.args.if_true.now c.args.if_false.now c.args.mask.now c.requires

pub select-requires-in-Bits-valid-clause-same : goal.select-requires-in-Bits-valid-clause-same
select-requires-in-Bits-valid-clause-same c =
    zip_same c.args.len c.args.if_true.now c.args.if_false.now c.args.mask.now c.requires

pub returns-in-All-clause-ok : goal.returns-in-All-clause-ok
returns-in-All-clause-ok c =
    let bits = c.in-Bits.bits in
    IfOk-weaker c.select.result _ _
    (λ u h. zip_computed c.args.len c.args.if_true.now c.args.if_false.now c.args.mask.now c.requires bits bits
    (canonical_tree u) c.in-Bits.is (λ i lt. ap (λ v. is_valid v i && bit_in bits i) (sym c.in-All.is)) h)
    c.select.ensures.ok

pub returns-in_ok-choice-in-Bits-valid-clause-ok : goal.returns-in_ok-choice-in-Bits-valid-clause-ok
returns-in_ok-choice-in-Bits-valid-clause-ok c =
    let bits = c.in-Bits.bits in
    IfOk-weaker c.select-in-Bits-valid.result _ _
    (λ u h. zip_computed c.args.len c.args.if_true.now c.args.if_false.now c.args.mask.now c.requires _ bits
    (canonical_tree u) c.in-Bits.is
    (λ i lt. bit_made _ c.in_ok-choice-in-Bits-valid.choice c.args.len i c.in_ok-choice-in-Bits-valid.ensures lt
    ∙ ap (λ v. is_valid v i && bit_in bits i) (sym c.in-Bits-valid.is)) h)
    c.select-in-Bits-valid.ensures.ok
