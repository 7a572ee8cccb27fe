use Rattle.std.proofs.Common.{◌≡◌, Some, ◌∙◌}
use Rattle.vx_mask.specs.Masks.{bits_in}
use Rattle.vx_tree.specs.Tree.{filter_of}
use Rattle.vx_rule.proofs.SlotsLemmas.{told_len, chosen_masked}
use Rattle.vx_rule.proofs.FitsLemmas.{fit_F8, raw_row}
use Rattle.vx_rule.proofs.encodings.masked.filter_of_masked.Goals as goal

pub choose_validity-requires : goal.choose_validity-requires
choose_validity-requires c =
    let x = c.args.child.now in
    let v = c.masked_parts.result.1.now in
    told_len x c.masked_parts.result.0.now x v v c.masked_parts.ensures.well c.masked_parts.ensures.shape _ c.requires.long

pub masked_node-requires : goal.masked_node-requires
masked_node-requires c =
    let inner = c.masked_parts.result.0.now in
    let child : c.in_ok-clone.field-0 ≡ inner = c.in_ok-clone.ensures.cases in
    let mask : c.in_ok-clone-2.field-0 ≡ c.args.mask.now = c.in_ok-clone-2.ensures.cases in
    let made : c.into_array.result ≡ filter_of (bits_in c.args.mask.now) inner =
    c.into_array.ensures ∙ c.in_ok-filter.ensures.ok ∙ (λ i. filter_of (bits_in (mask i)) (child i)) in
    chosen_masked c.args.child.now inner c.into_array.result c.masked_parts.result.1.now c.in_ok-validity.validity c.masked_parts.ensures.well
    c.masked_parts.ensures.shape (bits_in c.args.mask.now) made c.in_ok-validity.ensures.ok

pub returns : goal.returns
returns c =
    let x = c.args.child.now in
    let bits = bits_in c.args.mask.now in
    let inner = c.masked_parts.result.0.now in
    let child : c.in_ok-clone.field-0 ≡ inner = c.in_ok-clone.ensures.cases in
    let mask : c.in_ok-clone-2.field-0 ≡ c.args.mask.now = c.in_ok-clone-2.ensures.cases in
    let made : c.into_array.result ≡ filter_of bits inner =
    c.into_array.ensures ∙ c.in_ok-filter.ensures.ok ∙ (λ i. filter_of (bits_in (mask i)) (child i)) in
    raw_row (Some 0) (filter_of bits x) c.in_ok-masked.masked c.raw.result c.raw.ensures
    (λ u os e g. fit_F8 bits x inner c.into_array.result u c.masked_parts.result.1.now c.in_ok-validity.validity os c.masked_parts.ensures.shape made
    c.in_ok-validity.ensures.ok (e ∙ c.in_ok-masked.ensures.ok) g)
