use Rattle.std.proofs.Common.{◌≡◌, drop}
use Rattle.vx_value.specs.View.{variants_of}
use Rattle.vx_value.specs.Nested.{tag_type}
use Rattle.vx_value.proofs.nested.UnionVariants.variant.Given as goal

-- the variants to come decide
abbrev pub invariant-loop-variant : goal.invariant-loop-variant
invariant-loop-variant l = tag_type l.tag l.self ≡ tag_type l.tag (variants_of (drop l.variant-index l.variant-items))
