use Rattle.std.proofs.Common.{◌≡◌, Some, ◌∙◌}
use Rattle.vx_mask.specs.Masks.{bits_in}
use Rattle.vx_tree.specs.Tree.{filter_of}
use Rattle.vx_rule.proofs.FitsLemmas.{fit_F9, first_row}
use Rattle.vx_rule.proofs.encodings.dict.filter_of_dict.Goals as goal

pub returns : goal.returns
returns c =
    let x = c.args.child.now in
    let bits = bits_in c.args.mask.now in
    let p = c.dict_parts in
    let codes : c.in_ok-clone.field-0 ≡ p.result.0.now = c.in_ok-clone.ensures.cases in
    let mask : c.in_ok-clone-2.field-0 ≡ c.args.mask.now = c.in_ok-clone-2.ensures.cases in
    let made : c.into_array.result ≡ filter_of bits p.result.0.now =
    c.into_array.ensures ∙ c.in_ok-filter.ensures.ok ∙ (λ i. filter_of (bits_in (mask i)) (codes i)) in
    first_row (Some 0) (filter_of bits x) c.in_ok-dict.dict c.raw_first.result c.raw_first.ensures
    (λ u os e g. fit_F9 bits x p.result.0.now p.result.1.now c.into_array.result c.in_ok-clone-3.field-0 u os p.ensures.shape made
    c.in_ok-clone-3.ensures.cases (e ∙ c.in_ok-dict.ensures.ok) g)
