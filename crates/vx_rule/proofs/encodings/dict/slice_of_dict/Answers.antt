use Rattle.std.proofs.Common.{◌≡◌, Some, ap, ◌∙◌}
use Rattle.vx_tree.specs.Tree.{slice_of}
use Rattle.vx_rule.proofs.FitsLemmas.{fit_S6, first_row}
use Rattle.vx_rule.proofs.encodings.dict.slice_of_dict.Goals as goal

pub returns : goal.returns
returns c =
    let a = c.args.range.start in
    let b = c.args.range.end in
    let x = c.args.child.now in
    let p = c.dict_parts in
    let codes : c.in_ok-clone.field-0 ≡ p.result.0.now = c.in_ok-clone.ensures.cases in
    let made : c.into_array.result ≡ slice_of a b p.result.0.now = c.into_array.ensures ∙ c.in_ok-slice.ensures.ok ∙ ap (slice_of a b) codes in
    first_row (Some 0) (slice_of a b x) c.in_ok-dict.dict c.raw_first.result c.raw_first.ensures
    (λ u os e g. fit_S6 a b x p.result.0.now p.result.1.now c.into_array.result c.in_ok-clone-2.field-0 u os p.ensures.shape c.requires.part.0 made
    c.in_ok-clone-2.ensures.cases (e ∙ c.in_ok-dict.ensures.ok) g)
