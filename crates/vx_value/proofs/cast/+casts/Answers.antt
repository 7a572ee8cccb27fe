use Rattle.std.proofs.Common.{arith, ◌≡◌, ◌≢◌, ◌⊎◌, inl, inr, ◌<◌, ◌≤◌, length, true, rules, refl, sym, ◌∙◌, ap, subst, Some}
use Rattle.std.proofs.lemmas.Result.{IfOk-weaker}
use Rattle.vx_value.specs.Types.{DataType}
use Rattle.vx_value.specs.Values.{height, values_height}
use Rattle.vx_value.specs.View.{type_of, fields_of, value_of, cell_of, values_of}
use Rattle.vx_value.specs.IsOf.{is_of}
use Rattle.vx_value.specs.Casts.{cast_each}
use Rattle.vx_value.proofs.TypedLemmas.{present_typed}
use Rattle.vx_value.proofs.ValuesLemmas.{item_lower}
use Rattle.vx_value.proofs.CastPartsLemmas.{all_first, all_rest, cast_all_step, cast_all_end}
use Rattle.vx_value.proofs.CastPartsLemmas.{are_first, are_rest, made_start, cast_each_differ, cast_each_step, cast_each_end}
use Rattle.vx_value.proofs.cast.+casts.Goals as goal
use Rattle.vx_value.proofs.cast.+casts.Goals.{cast_each-then-from-values-via-then-from-values}
use Rattle.vx_value.proofs.cast.+casts.Goals.{cast_each-then-from-values-via-else-from-values+then-to-values}

pub cast_value-other_cast-requires : goal.cast_value-other_cast-requires
cast_value-other_cast-requires t c =
    let v = c.in-Some.value in
    let typed : is_of (type_of c.args.from.now) (value_of v) ≡ true = search rules in
    (search rules, ap (λ u. is_of u (value_of v)) c.bare-source.ensures ∙ sym (present_typed (type_of c.args.from.now) v) ∙ typed)

pub cast_all-cast_value-requires : goal.cast_all-cast_value-requires
cast_all-cast_value-requires t c =
    let vs = c.args.values.now in
    let i = c.loop-value.value-index in
    let v = c.value-item.result in
    let lower : height (cell_of v) ≤ values_height (values_of vs) =
    subst (λ u. height (cell_of u) ≤ values_height (values_of vs)) (sym c.value-item.is) (item_lower vs i v c.loop-value-test.true) in (
      omega (arith, lower, c.decreases),
      all_first (type_of c.args.from.now) vs i v c.loop-value-test.true c.value-item.is c.loop-value.invariant.0,
    )

pub cast_all-loop-value-preserved : goal.cast_all-loop-value-preserved
cast_all-loop-value-preserved t c =
    let from : DataType = type_of c.args.from.now in
    let vs = c.args.values.now in
    let i = c.loop-value.value-index in
    let v = c.value-item.result in (
      all_rest from vs i v c.loop-value-test.true c.value-item.is c.loop-value.invariant.0,
      cast_all_step from (type_of c.args.to.now) vs c.loop-value.items.items c.push.new.self.items i v c.in_ok-cast_value.field-0 _
          c.loop-value-test.true c.value-item.is c.loop-value.invariant.1 c.in_ok-cast_value.ensures.ok c.in_ok-push.ensures.items,
    )

pub cast_all-returns-clause-ok : goal.cast_all-returns-clause-ok
cast_all-returns-clause-ok t c =
    IfOk-weaker c.new.result _ _ (λ vs h. cast_all_end (type_of c.args.from.now) (type_of c.args.to.now) c.args.values.now c.loop-value.items.items
    c.loop-value.value-index _ (search rules) c.loop-value.invariant.1 ∙ ap Some (sym h)) c.new.ensures.ok

pub cast_each-returns-then-from-values-clause-err : goal.cast_each-returns-then-from-values-clause-err
cast_each-returns-then-from-values-clause-err t c =
    let differ : (length c.args.from.now ≢ length c.args.values.now) ⊎ (length c.args.to.now ≢ length c.args.values.now) =
    elim c.then-from-values.branch [
      | cast_each-then-from-values-via-then-from-values w ↦ inl w.if-from-values.true
      | cast_each-then-from-values-via-else-from-values+then-to-values w ↦ inr w.if-to-values.true
    ] in
    inr (refl, cast_each_differ c.args.from.now c.args.to.now c.args.values.now differ)

pub cast_each-loop-i-init : goal.cast_each-loop-i-init
cast_each-loop-i-init t c =
    let whole = cast_each (fields_of c.args.from.now) (fields_of c.args.to.now) (values_of c.args.values.now) in
    (search rules, search rules, search rules, made_start c.in_ok-items.items.items whole c.in_ok-items.ensures.items)

pub cast_each-cast_value-requires : goal.cast_each-cast_value-requires
cast_each-cast_value-requires t c =
    let vs = c.args.values.now in
    let i = c.loop-i.i in
    let v = c.index-values-i.result in
    let lower : height (cell_of v) ≤ values_height (values_of vs) =
    subst (λ u. height (cell_of u) ≤ values_height (values_of vs)) (sym c.index-values-i.is) (item_lower vs i v c.loop-i-test.true) in (
      omega (arith, lower, c.decreases),
      are_first c.args.from.now vs i c.index-from-i.result v (search rules) c.loop-i-test.true c.index-values-i.is c.loop-i.invariant.2,
    )

pub cast_each-loop-i-preserved : goal.cast_each-loop-i-preserved
cast_each-loop-i-preserved t c =
    let fs = c.args.from.now in
    let vs = c.args.values.now in
    let i = c.loop-i.i in
    let f = c.index-from-i.result in
    let v = c.index-values-i.result in
    let below : i < length fs = search rules in (
      c.loop-i.invariant.0,
      c.loop-i.invariant.1,
      are_rest fs vs i f v below c.loop-i-test.true c.index-values-i.is c.loop-i.invariant.2,
      cast_each_step fs c.args.to.now vs c.loop-i.items.items c.push.new.self.items i f c.index-to-i.result v c.in_ok-cast_value.field-0 _
          below (search rules) c.loop-i-test.true c.index-values-i.is c.loop-i.invariant.3 c.in_ok-cast_value.ensures.ok c.in_ok-push.ensures.items,
    )

pub cast_each-returns-clause-ok : goal.cast_each-returns-clause-ok
cast_each-returns-clause-ok t c =
    IfOk-weaker c.new.result _ _ (λ vs h. cast_each_end c.args.from.now c.args.to.now c.args.values.now c.loop-i.items.items
    c.loop-i.i _ (search rules) (search rules) (search rules) c.loop-i.invariant.3 ∙ ap Some (sym h)) c.new.ensures.ok
