use Rattle.vx_mask.specs.Masks.{bits_in}
use Rattle.vx_rule.proofs.CombinedLemmas.{both_is}
use Rattle.vx_rule.proofs.encodings.filter.combine.Goals as goal

pub returns-clause-ok : goal.returns-clause-ok
returns-clause-ok c = both_is (bits_in c.args.outer.now) (bits_in c.args.inner.now) c.requires c.in_ok-both.field-0 c.in-Some.both c.in_ok-both.ensures
    c.in-Some.is
