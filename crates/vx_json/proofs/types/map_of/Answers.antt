use Rattle.std.proofs.Common.{◌≡◌, ◌∙◌, ap, sym, Some, None, false}
use Rattle.std.specs.Prelude.{if◌then◌else◌}
use Rattle.vx_value.specs.Types as type
use Rattle.vx_value.specs.Nested.{is_map}
use Rattle.vx_value.specs.View.{type_of}
use Rattle.vx_json.proofs.SpelledTypesLemmas.{true_unless}
use Rattle.vx_json.proofs.types.map_of.Goals as goal

pub returns-in-Ok : goal.returns-in-Ok
returns-in-Ok c =
    let k = type_of c.args.key in
    let v = type_of c.args.value in
    let m = c.args.nullability in
    let refused : is_map k v ≡ false → ⊥ = λ e. let e = c.in-Ok.ensures.refused.1 e in cc e in
    ap (λ b. if b then Some (type.map k v m) else None) (true_unless (is_map k v) refused)
    ∙ ap (λ p. Some (type.map p.0 p.1 m)) (sym c.in-Ok.ensures.ok)
