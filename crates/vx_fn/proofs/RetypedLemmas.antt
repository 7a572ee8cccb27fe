-- Lists in a value of two types that are the same but for their nullability.
use Rattle.std.proofs.Common.{◌≡◌, true, ap, sym, ◌∙◌}
use Rattle.vx_value.specs.Types.{DataType}
use Rattle.vx_value.specs.Values.{Value}
use Rattle.vx_value.specs.Nullabilities.{same_but_nullability, same_but_nullability_Decides}
use Rattle.vx_value.specs.Fits.{list_overflow}
use Rattle.vx_value.specs.declared.dtype.Nullability.TheVariants.{NonNullable}
use Rattle.vx_value.proofs.NullabilitiesLemmas.{fits_either}

-- they fit both types, or neither
pub lists_alike : (s t : DataType) (v : Value) → same_but_nullability s t ≡ true → list_overflow s v ≡ list_overflow t v
lists_alike s t v e =
    sym (fits_either NonNullable s v) ∙ ap (λ u. list_overflow u v) ((same_but_nullability_Decides s t).0 e) ∙ fits_either NonNullable t v
