use Rattle.std.proofs.Common.{◌-◌, true, false, ap, sym, ◌∙◌}
use Rattle.vx_mask.specs.Masks.{bits_in}
use Rattle.vx_mask.proofs.MasksLemmas.{mask_of_trues, slice_of_same}
use Rattle.vx_mask.proofs.mask.Mask.slice.Goals as goal

pub returns-in-AllTrue : goal.returns-in-AllTrue
returns-in-AllTrue c =
    let range = c.args.range in
    let same = ap bits_in c.in-AllTrue.is in
    sym (slice_of_same (bits_in c.args.self.now) true c.in-AllTrue.field-0 range.start range.end same c.requires.order c.requires.bounds
    ∙ mask_of_trues (range.end - range.start))

pub returns-in-AllFalse : goal.returns-in-AllFalse
returns-in-AllFalse c =
    let range = c.args.range in
    let same = ap bits_in c.in-AllFalse.is in
    c.none_of.ensures
    ∙ sym (slice_of_same (bits_in c.args.self.now) false c.in-AllFalse.field-0 range.start range.end same c.requires.order c.requires.bounds)
