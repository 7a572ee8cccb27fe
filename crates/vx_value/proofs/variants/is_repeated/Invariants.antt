use Rattle.std.proofs.Common.{◌≡◌, ◌||◌, drop, is_some}
use Rattle.vx_value.specs.View.{variants_of}
use Rattle.vx_value.specs.Nested.{tag_type, has_variant}
use Rattle.vx_value.proofs.variants.is_repeated.Given as goal

-- the variants to come decide
abbrev pub invariant-loop-other : goal.invariant-loop-other
invariant-loop-other l =
    (is_some (tag_type l.variant.tag (variants_of l.others)) || has_variant l.variant.name (variants_of l.others))
    ≡ (is_some (tag_type l.variant.tag (variants_of (drop l.other-index l.others)))
    || has_variant l.variant.name (variants_of (drop l.other-index l.others)))
