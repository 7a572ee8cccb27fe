use Rattle.std.proofs.Common.{◌≡◌, true, false, None, if◌then◌else◌, ap, sym, ◌∙◌}
use Rattle.std.specs.Prelude.{option_map}
use Rattle.vx_value.specs.Types.{DataType, nullability_of}
use Rattle.vx_value.specs.Nullabilities.{with_nullability, union, same_but_nullability}
use Rattle.vx_value.specs.View.{type_of}
use Rattle.vx_fn.specs.Binary.{operator_type}
use Rattle.vx_fn.specs.Meanings.{widened}
use Rattle.vx_fn.proofs.BinaryLemmas.{result_type}
use Rattle.vx_fn.proofs.functions.binary.binary_type.Goals as goal

pub returns-then-eq_ignore_nullability : goal.returns-then-eq_ignore_nullability
returns-then-eq_ignore_nullability c =
    let op = c.args.operator in
    let s : DataType = type_of c.args.lhs.now in
    let t : DataType = type_of c.args.rhs.now in
    let same : same_but_nullability s t ≡ true = sym c.eq_ignore_nullability.ensures.value ∙ c.if-eq_ignore_nullability.true in
    let joined : c.union.result ≡ union (nullability_of s) (nullability_of t) =
    c.union.ensures ∙ (λ i. union (c.nullability.ensures i) (c.nullability-then-eq_ignore_nullability.ensures i)) in
    c.operator_type.ensures ∙ ap (λ n. option_map (with_nullability n) (operator_type op s)) joined ∙ sym (result_type op s t same)

pub returns-else-eq_ignore_nullability : goal.returns-else-eq_ignore_nullability
returns-else-eq_ignore_nullability c =
    let op = c.args.operator in
    let s : DataType = type_of c.args.lhs.now in
    let t : DataType = type_of c.args.rhs.now in
    let other : same_but_nullability s t ≡ false = sym c.eq_ignore_nullability.ensures.value ∙ c.if-eq_ignore_nullability.false in
    sym (ap (λ b. widened s (widened t (if b then operator_type op s else None))) other)
