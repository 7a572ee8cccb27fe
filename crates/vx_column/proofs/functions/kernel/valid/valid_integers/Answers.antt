use Rattle.std.proofs.Common.{pos, get_or, sym, subst}
use Rattle.std.proofs.lemmas.Result.{IfOk-weaker}
use Rattle.vx_tree.specs.Natives.{values_of, ptype_of}
use Rattle.vx_tree.specs.Canonicals.{canonical_tree}
use Rattle.vx_tree.specs.Validities.{HasRows}
use Rattle.vx_column.proofs.MadeLemmas.{integers_made}
use Rattle.vx_column.proofs.ValidRowsLemmas.{by_rows}
use Rattle.vx_column.proofs.functions.kernel.valid.valid_integers.Goals as goal

pub primitive_column-requires : goal.primitive_column-requires
primitive_column-requires c = subst (HasRows c.in_ok-validity.validity) (sym c.requires.values) c.in_ok-validity.ensures.ok.2

pub returns-clause-ok : goal.returns-clause-ok
returns-clause-ok c =
    let zs = values_of c.args.values in
    IfOk-weaker c.primitive_column.result _ _
    (λ u new. integers_made c.args.valid.now c.args.len c.requires.valid c.in_ok-validity.validity c.in_ok-validity.ensures.ok (ptype_of c.args.values) zs
    (λ i. get_or zs i (pos 0)) (canonical_tree u) (by_rows zs (pos 0) c.args.len c.requires.values) new)
    c.primitive_column.ensures.ok
