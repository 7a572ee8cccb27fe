use Rattle.std.proofs.Common.{◌≡◌, Some, refl, ◌∙◌}
use Rattle.vx_tree.specs.Tree.{dict_of}
use Rattle.vx_rule.proofs.QuietLemmas.{masked_values_quiet}
use Rattle.vx_rule.proofs.SlotsLemmas.{taken_masked}
use Rattle.vx_rule.proofs.FitsLemmas.{fit_D2, raw_row}
use Rattle.vx_rule.proofs.encodings.masked.dict_of_masked.Goals as goal

pub returns-then-not-is_plain_column : goal.returns-then-not-is_plain_column
returns-then-not-is_plain_column c =
    masked_values_quiet c.args.parent.now c.args.codes.now c.args.values.now c.masked_parts.result.0.now c.masked_parts.result.1.now c.requires.dict
    c.masked_parts.ensures.shape (c.if-not-is_plain_column.ensures.no refl)

pub masked_node-requires : goal.masked_node-requires
masked_node-requires c =
    let p = c.masked_parts in
    let codes : c.in_ok-clone.field-0 ≡ c.args.codes.now = c.in_ok-clone.ensures.cases in
    let child : c.in_ok-clone-2.field-0 ≡ p.result.0.now = c.in_ok-clone-2.ensures.cases in
    let plain = c.if-not-is_plain_column.ensures.yes refl in
    taken_masked c.args.parent.now c.args.codes.now c.args.values.now c.well_formed_tree.ensures.formed c.requires.dict p.result.0.now p.result.1.now
    p.ensures.shape plain.0 c.in_ok-dict.dict c.in_ok-validity.validity (c.in_ok-dict.ensures.ok ∙ (λ i. dict_of (codes i) (child i)))
    c.in_ok-validity.ensures.ok

pub returns : goal.returns
returns c =
    let t = c.args.parent.now in
    let p = c.masked_parts in
    let codes : c.in_ok-clone.field-0 ≡ c.args.codes.now = c.in_ok-clone.ensures.cases in
    let child : c.in_ok-clone-2.field-0 ≡ p.result.0.now = c.in_ok-clone-2.ensures.cases in
    let plain = c.if-not-is_plain_column.ensures.yes refl in
    raw_row (Some 1) t c.in_ok-masked.masked c.raw.result c.raw.ensures
    (λ u os e g. fit_D2 t c.args.codes.now c.args.values.now p.result.0.now c.in_ok-dict.dict u p.result.1.now c.in_ok-validity.validity os c.requires.dict
    p.ensures.shape plain.0 plain.1 (c.in_ok-dict.ensures.ok ∙ (λ i. dict_of (codes i) (child i))) c.in_ok-validity.ensures.ok
    (e ∙ c.in_ok-masked.ensures.ok) g)
