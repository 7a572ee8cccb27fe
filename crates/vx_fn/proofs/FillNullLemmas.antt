-- Where `fill_null` takes its arguments, and what the result's type then is.
use Rattle.std.proofs.Common.{◌≡◌, true, false, refl, Some}
use Rattle.std.specs.Prelude.{IsSome}
use Rattle.vx_value.specs.Types.{DataType}
use Rattle.vx_value.specs.Nullabilities.{same_but_nullability}
use Rattle.vx_value.specs.Values.{Value}
use Rattle.vx_value.specs.Cell.{value}
use Rattle.vx_value.specs.View.{value_of}
use Rattle.vx_value.specs.IsOf.{is_null}
use Rattle.vx_value.specs.declared.scalar.ScalarValue.{ScalarValue}
use Rattle.vx_value.specs.declared.scalar.ScalarValue.TheVariants as scalar
use Rattle.vx_fn.specs.FillNull.{fill_type, filled}
use Rattle.vx_fn.proofs.MeaningsLemmas.{passed}

pub fill_taken : (s t : DataType) → IsSome (fill_type s t) → same_but_nullability s t ≡ true
fill_taken s t h = (passed (same_but_nullability s t) t h).0

pub fill_typed : (s t : DataType) → IsSome (fill_type s t) → fill_type s t ≡ Some t
fill_typed s t h = (passed (same_but_nullability s t) t h).1

-- what a scalar holds isn't null, and stays
pub value_there : (x : ScalarValue) → is_null (value_of x) ≡ false
value_there (scalar.Bool b) = refl
value_there _ = refl

pub filled_there : (x : ScalarValue) (w : Value) → filled (value_of x) w ≡ value (value_of x)
filled_there (scalar.Bool b) w = refl
filled_there _ w = refl
