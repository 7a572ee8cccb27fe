use Rattle.std.proofs.Common.{◌≡◌, inl, inr, false, refl, subst}
use Rattle.vx_value.specs.Errors.{IsOverflow}
use Rattle.vx_value.specs.IsOf.{is_of}
use Rattle.vx_value.specs.Nested.{bare}
use Rattle.vx_value.specs.View.{type_of, cell_of}
use Rattle.vx_value.specs.declared.error.VortexError.TheVariants.{Fault}
use Rattle.vx_fn.proofs.OrderLemmas.{unnested_fits}
use Rattle.vx_fn.proofs.functions.binary.fitted.Goals as goal

pub returns-in-Err-clause-fault : goal.returns-in-Err-clause-fault
returns-in-Err-clause-fault c =
    let t = type_of c.args.dtype in
    let v = cell_of c.args.value in
    elim c.in-Err.ensures.refused as (λ _. (Fault ≡ Fault) × (is_of t v ≡ false)) [
      | inl refused ↦ (refl, refused.1)
      | inr long ↦ absurd (subst (IsOverflow c.in-Err.field-0) (unnested_fits (bare t) v c.requires) long.1)
    ]
