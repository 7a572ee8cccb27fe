-- The target of a cast, which isn't nested.
use Rattle.std.proofs.Common.{◌≡◌, ℕ, Bool, true, false, Option, Some, None, ap, ◌∙◌, refl}
use Rattle.std.proofs.Math.Bridge.{le_prop}
use Rattle.std.specs.Prelude.{option_map, option_and_then}
use Rattle.vx_value.specs.Types.{DataType}
use Rattle.vx_value.specs.Storage.{is_nested}
use Rattle.vx_value.specs.View.{type_of}
use Rattle.vx_value.specs.declared.dtype.DType.{DType}
use Rattle.vx_value.specs.declared.dtype.DType.TheVariants as dtype
use Rattle.vx_value.specs.Decimals.{IsDecimal}
use Rattle.vx_value.specs.declared.decimal.DecimalDType.{DecimalDType}
use Rattle.vx_json.specs.SpelledTypes.{is_decimal, is_decimal_Decides}
use Rattle.vx_json.specs.SpelledFunctions.{dtype_if, declared}

-- that a decimal type has its digits is shown in one way
one_decimal : (precision scale : ℕ) → IsProp (IsDecimal precision scale)
one_decimal precision scale = hlevel le_prop

-- so a decimal type is the one that its digits give
dtype_again : (d : DecimalDType) (b : Bool) (holds : b ≡ true → IsDecimal d.precision d.scale) → b ≡ true → dtype_if d.precision d.scale b holds ≡ Some d
dtype_again d true holds e =
    λ i. Some (record { precision = d.precision; scale = d.scale; is_decimal = one_decimal d.precision d.scale (holds refl) d.is_decimal i })
dtype_again d false holds e = absurd (cc)

declared_again : (t : DType) → is_nested (type_of t) ≡ false → declared (type_of t) ≡ Some t
declared_again dtype.Null h = refl
declared_again (dtype.Bool m) h = refl
declared_again (dtype.Primitive p m) h = refl
declared_again (dtype.Decimal d m) h =
    let decides = is_decimal_Decides d.precision d.scale in
    ap (option_map (λ (x : DecimalDType). dtype.Decimal x m)) (dtype_again d (is_decimal d.precision d.scale) decides.0 (decides.1 d.is_decimal))
declared_again (dtype.Utf8 m) h = refl
declared_again (dtype.Binary m) h = refl
declared_again _ h = absurd (cc)

-- a nested type isn't a target
pub declared_nested : (t : DType) → is_nested (type_of t) ≡ true → declared (type_of t) ≡ None
declared_nested dtype.Null h = absurd (cc)
declared_nested (dtype.Bool m) h = absurd (cc)
declared_nested (dtype.Primitive p m) h = absurd (cc)
declared_nested (dtype.Decimal d m) h = absurd (cc)
declared_nested (dtype.Utf8 m) h = absurd (cc)
declared_nested (dtype.Binary m) h = absurd (cc)
declared_nested _ h = refl

-- a type is the one that its text names
pub target_named : (t : DType) (o : Option DataType) → o ≡ Some (type_of t) → is_nested (type_of t) ≡ false → option_and_then declared o ≡ Some t
target_named t o named unnested = ap (option_and_then declared) named ∙ declared_again t unnested

pub no_target : (t : DType) (o : Option DataType) → o ≡ Some (type_of t) → is_nested (type_of t) ≡ true → option_and_then declared o ≡ None
no_target t o named nested = ap (option_and_then declared) named ∙ declared_nested t nested
