use Rattle.std.proofs.Common.{◌≡◌, Some, ap, arith, ◌∙◌}
use Rattle.vx_tree.specs.Tree.{slice_of, len}
use Rattle.vx_rule.proofs.PushLemmas.{masked_range}
use Rattle.vx_rule.proofs.SlotsLemmas.{sliced_masked}
use Rattle.vx_rule.proofs.FitsLemmas.{fit_S5, raw_row}
use Rattle.vx_rule.proofs.encodings.masked.slice_of_masked.Goals as goal

pub new-requires : goal.new-requires
new-requires c =
    let inner = c.masked_parts.result.0.now in
    let child : c.in_ok-clone.field-0 ≡ inner = c.in_ok-clone.ensures.cases in
    let long : len c.args.child.now ≡ len inner = ap len c.masked_parts.ensures.shape in
    let same : len c.in_ok-clone.field-0 ≡ len inner = ap len child in
    (omega (arith, c.requires.part.0.some_rows), omega (arith, c.requires.part.1, long, same))

pub slice_validity-requires : goal.slice_validity-requires
slice_validity-requires c =
    let x = c.args.child.now in
    let v = c.masked_parts.result.1.now in
    masked_range c.args.range.start c.args.range.end x c.masked_parts.result.0.now v c.masked_parts.ensures.shape c.masked_parts.ensures.well
    c.requires.part

pub masked_node-requires : goal.masked_node-requires
masked_node-requires c =
    let a = c.args.range.start in
    let b = c.args.range.end in
    let inner = c.masked_parts.result.0.now in
    let child : c.in_ok-clone.field-0 ≡ inner = c.in_ok-clone.ensures.cases in
    let made : c.into_array.result ≡ slice_of a b inner = c.into_array.ensures ∙ c.in_ok-slice.ensures.ok ∙ ap (slice_of a b) child in
    sliced_masked c.args.child.now inner c.into_array.result c.masked_parts.result.1.now c.in_ok-validity.validity c.masked_parts.ensures.well
    c.masked_parts.ensures.shape a b made c.in_ok-validity.ensures.ok

pub returns : goal.returns
returns c =
    let a = c.args.range.start in
    let b = c.args.range.end in
    let x = c.args.child.now in
    let inner = c.masked_parts.result.0.now in
    let child : c.in_ok-clone.field-0 ≡ inner = c.in_ok-clone.ensures.cases in
    let made : c.into_array.result ≡ slice_of a b inner = c.into_array.ensures ∙ c.in_ok-slice.ensures.ok ∙ ap (slice_of a b) child in
    raw_row (Some 0) (slice_of a b x) c.in_ok-masked.masked c.raw.result c.raw.ensures
    (λ u os e g. fit_S5 a b x inner c.into_array.result u c.masked_parts.result.1.now c.in_ok-validity.validity os c.masked_parts.ensures.shape
    c.requires.part.0 made c.in_ok-validity.ensures.ok (e ∙ c.in_ok-masked.ensures.ok) g)
