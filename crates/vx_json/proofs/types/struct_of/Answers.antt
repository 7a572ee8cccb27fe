use Rattle.std.proofs.Common.{◌≡◌, ◌∙◌, ap, sym, Some, None, false}
use Rattle.std.specs.Prelude.{if◌then◌else◌}
use Rattle.vx_value.specs.Types as type
use Rattle.vx_value.specs.Nested.{are_fields}
use Rattle.vx_value.specs.View.{fields_of}
use Rattle.vx_json.proofs.SpelledTypesLemmas.{fields_same, true_unless}
use Rattle.vx_json.proofs.types.struct_of.Goals as goal

pub returns-in-Ok : goal.returns-in-Ok
returns-in-Ok c =
    let parts = c.args.fields.items in
    let refused : are_fields (fields_of parts) ≡ false → ⊥ = λ e. let e = c.in-Ok.ensures.refused.1 e in cc e in
    let m = c.args.nullability in
    ap (λ ps. if are_fields ps then Some (type.struct ps m) else None) (fields_same parts)
    ∙ ap (λ b. if b then Some (type.struct (fields_of parts) m) else None) (true_unless (are_fields (fields_of parts)) refused)
    ∙ ap (λ ps. Some (type.struct ps m)) (sym c.in-Ok.ensures.ok)
