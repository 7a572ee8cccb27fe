use Rattle.std.proofs.Common.{◌≡◌, ap, sym, ◌∙◌}
use Rattle.vx_mask.specs.Masks.{bits_in}
use Rattle.vx_tree.specs.Tree.{len}
use Rattle.vx_rule.proofs.CombinedLemmas.{combined_long}
use Rattle.vx_rule.proofs.encodings.filter.filter_of_filter.Goals as goal

pub combine-requires : goal.combine-requires
combine-requires c = c.requires.long ∙ ap len c.in-Filter.ensures.0

pub new-requires : goal.new-requires
new-requires c =
    let same : c.in_ok-clone.field-0 ≡ c.in-Filter.inner.now = c.in_ok-clone.ensures.cases in
    combined_long (bits_in c.in-Filter.outer.now) (bits_in c.args.mask.now) c.in_ok-both.both (len c.in_ok-clone.field-0) c.in_ok-both.ensures.ok
    (c.in-Filter.ensures.1 ∙ ap len (sym same))
