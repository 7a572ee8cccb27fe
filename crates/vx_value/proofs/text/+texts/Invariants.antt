use Rattle.std.proofs.Common.{◌≡◌, ◌++◌, drop, false}
use Rattle.std.specs.Prelude.{string_bytes}
use Rattle.vx_value.specs.View.{fields_of, variants_of}
use Rattle.vx_value.specs.Text.{fields_text, variants_text}
use Rattle.vx_value.proofs.text.+texts.Given as goal

-- what is written and the fields to come
abbrev pub invariant-push_fields-loop-field : goal.invariant-push_fields-loop-field
invariant-push_fields-loop-field l =
    string_bytes l.text ++ fields_text l.later (fields_of (drop l.field-index l.fields))
    ≡ string_bytes l.initial.text ++ fields_text false (fields_of l.fields)

-- what is written and the variants to come
abbrev pub invariant-push_variants-loop-variant : goal.invariant-push_variants-loop-variant
invariant-push_variants-loop-variant l =
    string_bytes l.text ++ variants_text l.later (variants_of (drop l.variant-index l.variants))
    ≡ string_bytes l.initial.text ++ variants_text false (variants_of l.variants)
