use Rattle.std.proofs.Common.{◌∷◌, [], IfOk, sym, subst}
use Rattle.std.proofs.lemmas.Result.{IfOk-weaker}
use Rattle.vx_fn.specs.declared.function.ScalarFnRef.TheVariants.{Not}
use Rattle.vx_tree.specs.Canonicals.{canonical_tree}
use Rattle.vx_column.specs.Computed.{IsCanonicalResult}
use Rattle.vx_column.proofs.PassingLemmas.{negation_computed}
use Rattle.vx_column.proofs.functions.operator.boolean.negate.Goals as goal

pub returns-clause-ok : goal.returns-clause-ok
returns-clause-ok c =
    let a = c.args.input.now in
    let bs = c.in-Bits.bits in
    let r = c.negate_bits.result in
    subst (λ x. IfOk r (λ u. IsCanonicalResult Not (record { rows = x; valid = a.valid } ∷ []) c.args.len (canonical_tree u))) (sym c.in-Bits.is)
    (IfOk-weaker r _ _ (λ u h. negation_computed bs a.valid c.args.len (canonical_tree u) h) c.negate_bits.ensures.ok)
