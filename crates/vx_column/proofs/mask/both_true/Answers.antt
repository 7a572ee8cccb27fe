use Rattle.std.proofs.Common.{[], ◌∷◌, ap, length, ◌∙◌}
use Rattle.std.proofs.lemmas.List.FromFn.{length-map-range_with_len}
use Rattle.std.proofs.lemmas.Result.{IfOk-weaker}
use Rattle.vx_value.specs.Types.{bool}
use Rattle.vx_value.specs.declared.dtype.Nullability.TheVariants.{NonNullable}
use Rattle.vx_fn.specs.declared.function.Operator.TheVariants.{And}
use Rattle.vx_fn.specs.declared.function.ScalarFnRef.TheVariants.{Binary}
use Rattle.vx_tree.specs.Tree.{Tree, call_of}
use Rattle.vx_column.proofs.MaskedLemmas.{both_and, both_bits}
use Rattle.vx_column.proofs.mask.both_true.Goals as goal

pub validity-requires : goal.validity-requires
validity-requires c = ap length c.in_ok-bits.ensures ∙ length-map-range_with_len _ 0 c.args.len

pub returns-in-Some-Some-clause-both : goal.returns-in-Some-Some-clause-both
returns-in-Some-Some-clause-both c =
    let plain = c.in-Some-Some in
    IfOk-weaker c.validity.result _ _
    (λ v told. both_bits c.args.len c.args.first.now c.args.second plain.left.now plain.right.now c.in_ok-bits.bits v c.requires.first c.requires.second
    plain.ensures plain.ensures' c.in_ok-bits.ensures told)
    c.validity.ensures.ok

pub returns-clause-both : goal.returns-clause-both
returns-clause-both c =
    let n = c.args.len in
    let joined = λ (t : Tree). call_of (Binary And) (bool NonNullable) n (t ∷ c.args.second ∷ []) in
    both_and n c.args.first.now c.args.second c.in_ok-both.both c.requires.first c.requires.second
    (c.in_ok-both.ensures.ok ∙ ap joined c.in_ok-clone.ensures.cases)
