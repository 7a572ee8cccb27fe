use Rattle.std.proofs.Common.{◌≡◌, ◌∙◌, ap, sym, true, rules}
use Rattle.std.proofs.lemmas.Result.{IfOk-weaker}
use Rattle.vx_value.specs.Defaults.{zero_of}
use Rattle.vx_value.specs.IsOf.{is_of}
use Rattle.vx_value.specs.View.{type_of}
use Rattle.vx_value.proofs.DefaultsLemmas.{first_typed, sized_typed, zeros_step, zeros_end, typed_step}
use Rattle.vx_value.proofs.zero.+zeros.Goals as goal

pub first_zero-returns-clause-typed : goal.first_zero-returns-clause-typed
first_zero-returns-clause-typed t c =
    first_typed c.args.variants.now c.index-variants-0.result _ c.requires (search rules) c.in_ok-zero_of.ensures.typed

pub zero_of-returns-in_ok-elements-in-FixedSizeList-clause-typed :
    goal.zero_of-returns-in_ok-elements-in-FixedSizeList-clause-typed
zero_of-returns-in_ok-elements-in-FixedSizeList-clause-typed t c =
    let element : is_of c.in-FixedSizeList.element (zero_of c.in-FixedSizeList.element) ≡ true = search rules in
    ap (λ d. is_of (type_of d) (zero_of (type_of d))) c.in-FixedSizeList.is
    ∙ sized_typed c.in-FixedSizeList.element c.in-FixedSizeList.size c.in-FixedSizeList.field-2 element

pub zeros_of-loop-field-preserved : goal.zeros_of-loop-field-preserved
zeros_of-loop-field-preserved t c = (
  zeros_step c.args.fields.now c.loop-field.items.items c.push.new.self.items c.loop-field.field-index c.field-item.result c.in_ok-zero_of.field-0
      (search rules) (search rules) c.loop-field.invariant.0 c.in_ok-zero_of.ensures.ok c.in_ok-push.ensures.items,
  c.loop-field.invariant.1
      ∙ typed_step c.args.fields.now c.loop-field.field-index c.field-item.result (search rules) (search rules) c.in_ok-zero_of.ensures.typed,
)

pub zeros_of-returns-clause-ok : goal.zeros_of-returns-clause-ok
zeros_of-returns-clause-ok t c =
    IfOk-weaker c.new.result _ _
    (λ vs h. h ∙ zeros_end c.args.fields.now c.loop-field.items.items c.loop-field.field-index (search rules) c.loop-field.invariant.0) c.new.ensures.ok
