use Rattle.std.proofs.Common.{sym, subst}
use Rattle.std.proofs.lemmas.Result.{IfOk-weaker}
use Rattle.vx_mask.specs.Logic.{bit_row}
use Rattle.vx_tree.specs.Canonicals.{canonical_tree}
use Rattle.vx_tree.specs.Validities.{HasRows}
use Rattle.vx_column.proofs.MadeLemmas.{bools_made}
use Rattle.vx_column.proofs.ValidRowsLemmas.{counted}
use Rattle.vx_column.proofs.functions.kernel.valid.valid_bools.Goals as goal

pub bool_column-requires : goal.bool_column-requires
bool_column-requires c =
    subst (HasRows c.in_ok-validity.validity) (sym (counted _ c.in_ok-kept.kept c.args.len c.in_ok-kept.ensures)) c.in_ok-validity.ensures.ok.2

pub returns-clause-ok : goal.returns-clause-ok
returns-clause-ok c =
    let bits = c.args.bits in
    IfOk-weaker c.bool_column.result _ _
    (λ u new. bools_made c.args.valid.now c.args.len c.requires.valid c.in_ok-validity.validity c.in_ok-validity.ensures.ok
    c.in_ok-kept.kept (bit_row bits) (canonical_tree u) c.in_ok-kept.ensures new)
    c.bool_column.ensures.ok
