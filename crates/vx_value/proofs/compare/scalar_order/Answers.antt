use Rattle.std.proofs.Common.{◌≡◌, sym, ap, ◌∙◌, true, false, rules, Some, None}
use Rattle.std.specs.Prelude.{Bool, if◌then◌else◌}
use Rattle.std.specs.declared.cmp.Ordering.TheVariants.{Equal}
use Rattle.vx_value.specs.Types.{same_type}
use Rattle.vx_value.specs.Storage.{storage_of, has_parts, is_nested}
use Rattle.vx_value.specs.Order.{same_value, value_cmp}
use Rattle.vx_value.specs.IsOf.{is_of}
use Rattle.vx_value.specs.declared.dtype.Storage.TheVariants.{Nested}
use Rattle.vx_value.proofs.OrderLemmas.{apart, in_order, by_sameness, ordered_unless}
use Rattle.vx_value.proofs.compare.scalar_order.Goals as goal

pub returns-then-not-same-clause-value : goal.returns-then-not-same-clause-value
returns-then-not-same-clause-value c =
    let differ : same_type c.args.left.now.of_type c.args.right.now.of_type ≡ false = search rules in
    apart c.args.left.now c.args.right.now differ

pub returns-in-Nested-clause-value : goal.returns-in-Nested-clause-value
returns-in-Nested-clause-value c =
    let one : c.args.left.now.of_type ≡ c.args.right.now.of_type = search rules in
    let nested : storage_of c.args.left.now.of_type ≡ Nested = search rules in
    let same : same_value c.args.left.now.value c.args.right.now.value ≡ true = search rules in
    ap (λ b. if b then Some Equal else None) (sym same) ∙ by_sameness c.args.left.now c.args.right.now one (ap has_parts nested)

pub returns-in-Nested-2-clause-value : goal.returns-in-Nested-2-clause-value
returns-in-Nested-2-clause-value c =
    let one : c.args.left.now.of_type ≡ c.args.right.now.of_type = search rules in
    let nested : storage_of c.args.left.now.of_type ≡ Nested = search rules in
    let differ : same_value c.args.left.now.value c.args.right.now.value ≡ false = search rules in
    ap (λ b. if b then Some Equal else None) (sym differ) ∙ by_sameness c.args.left.now c.args.right.now one (ap has_parts nested)

pub returns-in_default : goal.returns-in_default
returns-in_default c =
    let one : c.args.left.now.of_type ≡ c.args.right.now.of_type = search rules in
    let left : is_of c.args.left.now.of_type c.args.left.now.value ≡ true = c.entry-value.ensures.typed in
    let right : is_of c.args.right.now.of_type c.args.right.now.value ≡ true = c.entry-in_default.ensures.typed in
    let ordered : is_nested c.args.left.now.of_type ≡ false = ordered_unless _ (λ e. c.in_default.not-Nested (c.storage.ensures ∙ ap storage_of c.dtype-dtype.ensures.dtype ∙ e)) in
    let made : value_cmp c.args.left.now.value c.args.right.now.value ≡ c.value_order.result = search rules in
    record {
      value = ap Some (sym made) ∙ in_order c.args.left.now c.args.right.now left right one ordered;
      left_typed = left;
      right_typed = right;
    }
