-- Where `zip` takes its arguments, and what the result's type then is.
use Rattle.std.proofs.Common.{◌≡◌, true, Some}
use Rattle.std.proofs.lemmas.Bool.{false≢true}
use Rattle.std.specs.Prelude.{IsSome}
use Rattle.vx_value.specs.Types as type
use Rattle.vx_value.specs.Types.{DataType, nullability_of}
use Rattle.vx_value.specs.Nullabilities.{with_nullability, union, same_but_nullability}
use Rattle.vx_fn.specs.Zip.{zip_type}
use Rattle.vx_fn.proofs.MeaningsLemmas.{passed}

pub zip_taken : (s t u : DataType) → IsSome (zip_type s t u)
    → (same_but_nullability s t ≡ true) × (zip_type s t u ≡ Some (with_nullability (union (nullability_of s) (nullability_of t)) s))
zip_taken s t (type.bool n) h = passed (same_but_nullability s t) (with_nullability (union (nullability_of s) (nullability_of t)) s) h
zip_taken s t _ h = absurd (false≢true h)
