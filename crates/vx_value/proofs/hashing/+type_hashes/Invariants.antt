use Rattle.std.proofs.Common.{◌≡◌, fold, drop}
use Rattle.vx_value.specs.View.{fields_of, variants_of}
use Rattle.vx_value.specs.Writes.{fields_writes, variants_writes}
use Rattle.vx_value.proofs.hashing.+type_hashes.Given as goal

-- the fields to come are still to be written
abbrev pub invariant-hash_fields-loop-field : goal.invariant-hash_fields-loop-field
invariant-hash_fields-loop-field g l =
    fold g.H.Hasher.write l.state (fields_writes (fields_of (drop l.field-index l.fields)))
    ≡ fold g.H.Hasher.write l.initial.state (fields_writes (fields_of l.fields))

-- the variants to come are still to be written
abbrev pub invariant-hash_variants-loop-variant : goal.invariant-hash_variants-loop-variant
invariant-hash_variants-loop-variant g l =
    fold g.H.Hasher.write l.state (variants_writes (variants_of (drop l.variant-index l.variants)))
    ≡ fold g.H.Hasher.write l.initial.state (variants_writes (variants_of l.variants))
