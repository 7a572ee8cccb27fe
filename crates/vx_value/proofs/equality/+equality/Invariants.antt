use Rattle.std.proofs.Common.{◌≡◌, length, drop}
use Rattle.vx_value.specs.View.{fields_of, variants_of}
use Rattle.vx_value.specs.Types.{same_fields, same_variants}
use Rattle.vx_value.proofs.equality.+equality.Given as goal

-- the fields to come decide
abbrev pub invariant-same_fields-loop-i : goal.invariant-same_fields-loop-i
invariant-same_fields-loop-i l =
    (length l.left ≡ length l.right)
    × (same_fields (fields_of l.left) (fields_of l.right) ≡ same_fields (fields_of (drop l.i l.left)) (fields_of (drop l.i l.right)))

-- the variants to come decide
abbrev pub invariant-same_variants-loop-i : goal.invariant-same_variants-loop-i
invariant-same_variants-loop-i l =
    (length l.left ≡ length l.right)
    × (same_variants (variants_of l.left) (variants_of l.right) ≡ same_variants (variants_of (drop l.i l.left)) (variants_of (drop l.i l.right)))
