use Rattle.std.proofs.Common.{◌≡◌, Bool, rules, ◌&&◌, ap, ap₂, sym, ◌∙◌}
use Rattle.vx_value.specs.Values.{Value, null, boolean}
use Rattle.vx_value.specs.Cell.{Cell, value}
use Rattle.vx_value.specs.View.{value_of}
use Rattle.vx_value.specs.IsOf.{is_of}
use Rattle.vx_value.specs.Order.{value_cmp}
use Rattle.vx_fn.specs.Between.{is_below}
use Rattle.vx_fn.proofs.OrderLemmas.{ordered_unnested, by_order}
use Rattle.vx_fn.proofs.BetweenLemmas.{between_ordered}
use Rattle.vx_fn.proofs.MeaningsLemmas.{by_null, by_later, past_value}
use Rattle.vx_fn.proofs.functions.between.lies_between.Goals as goal
use Rattle.vx_fn.proofs.functions.between.lies_between.Goals.{in_default-2-via-in-Some+in-Some+in_default, in_default-2-via-in-Some+in_default}
use Rattle.vx_fn.proofs.functions.between.lies_between.Goals.{in_default-2-via-in_default, then-is_below, else-is_below}

-- so what is answered is null
answered : (c : Cell) (r : Value) → r ≡ null → c ≡ value null → c ≡ value r
answered c r e d = d ∙ ap value (sym e)

-- one of the three is null, so its type is nullable
pub null-requires : goal.null-requires
null-requires c = elim c.in_default-2.branch [
  | in_default-2-via-in-Some+in-Some+in_default w ↦ search rules
  | in_default-2-via-in-Some+in_default w ↦ search rules
  | in_default-2-via-in_default w ↦ search rules
]

pub returns-in_default-2-clause-value : goal.returns-in_default-2-clause-value
returns-in_default-2-clause-value c =
    let v = c.args.array.now.value in
    let l = c.args.lower.now.value in
    let u = c.args.upper.now.value in
    answered _ _ (search rules) (elim c.in_default-2.branch [
      | in_default-2-via-in-Some+in-Some+in_default w ↦ by_later v _ (by_later l _ (by_null u _ (search rules)))
      | in_default-2-via-in-Some+in_default w ↦ by_later v _ (by_null l _ (search rules))
      | in_default-2-via-in_default w ↦ by_null v _ (search rules)
    ])

pub returns-after-is_below-clause-value : goal.returns-after-is_below-clause-value
returns-after-is_below-clause-value c =
    let o = c.args.options in
    let there = c.in-Some-Some-Some in
    let v : Value = value_of there.value.now in
    let l : Value = value_of there.least.now in
    let u : Value = value_of there.greatest.now in
    let last : Bool = is_below o.upper_strict (value_cmp v u) in
    let s = c.args.array.now.of_type in
    let s' = c.args.lower.now.of_type in
    let s'' = c.args.upper.now.of_type in
    let ordered = between_ordered o s s' s'' c.requires in
    let of_array = ordered_unnested s v ordered.0 (ap (is_of s) there.ensures.value ∙ c.value.ensures.typed) in
    let of_lower = ordered_unnested s' l ordered.1 (ap (is_of s') there.ensures'.value ∙ c.value-2.ensures.typed) in
    let of_upper = ordered_unnested s'' u ordered.2 (ap (is_of s'') there.ensures''.value ∙ c.value-3.ensures.typed) in
    let first : is_below o.lower_strict (value_cmp l v) ≡ c.is_below.result =
    ap (is_below o.lower_strict) (sym (c.compare.ensures ∙ by_order l v of_lower of_array)) ∙ sym c.is_below.ensures in
    let held : is_below o.lower_strict (value_cmp l v) && last ≡ c.if-is_below.bool =
    elim c.if-is_below.branch [
      | then-is_below w ↦
          ap₂ ◌&&◌ (first ∙ w.if-is_below.true)
          (ap (is_below o.upper_strict) (sym (w.compare-then-is_below.ensures ∙ by_order v u of_array of_upper)))
          ∙ sym w.is_below-then-is_below.ensures ∙ sym w.bool-is
      | else-is_below w ↦ ap (λ b. b && last) (first ∙ w.if-is_below.false) ∙ sym w.if-is_below.false ∙ sym w.bool-is
    ] in
    rw (sym there.ensures.value) (rw (sym there.ensures'.value) (rw (sym there.ensures''.value)
    (past_value there.value.now _ ∙ past_value there.least.now _ ∙ past_value there.greatest.now _
    ∙ ap (λ b. value (boolean b)) held ∙ ap (λ s. value s.value) (sym c.bool.ensures))))
