use Rattle.std.proofs.Common.{◌≡◌, ◌∙◌, ap, sym, Some, None, false}
use Rattle.std.specs.Prelude.{if◌then◌else◌}
use Rattle.vx_value.specs.Types as type
use Rattle.vx_value.specs.Nested.{are_variants}
use Rattle.vx_value.specs.View.{variants_of}
use Rattle.vx_json.proofs.SpelledTypesLemmas.{variants_same, true_unless}
use Rattle.vx_json.proofs.types.union_of.Goals as goal

pub returns-in-Ok : goal.returns-in-Ok
returns-in-Ok c =
    let parts = c.args.variants.items in
    let refused : are_variants (variants_of parts) ≡ false → ⊥ = λ e. let e = c.in-Ok.ensures.refused.1 e in cc e in
    let m = c.args.nullability in
    ap (λ ps. if are_variants ps then Some (type.union ps m) else None) (variants_same parts)
    ∙ ap (λ b. if b then Some (type.union (variants_of parts) m) else None) (true_unless (are_variants (variants_of parts)) refused)
    ∙ ap (λ ps. Some (type.union ps m)) (sym c.in-Ok.ensures.ok)
