-- Which arguments a cast accepts, and the type and the value of the result.
use Rattle.std.proofs.Common.{◌≡◌, true, Some, ap, sym, ◌∙◌}
use Rattle.std.specs.Prelude.{IsSome}
use Rattle.vx_value.specs.Types.{DataType}
use Rattle.vx_value.specs.Values.{Value}
use Rattle.vx_value.specs.Cell.{Cell}
use Rattle.vx_value.specs.Casts.{has_cast, cast_to}
use Rattle.vx_fn.specs.Cast.{cast_type}
use Rattle.vx_fn.proofs.MeaningsLemmas.{passed}

pub cast_taken : (t s : DataType) → IsSome (cast_type t s) → (has_cast s t ≡ true) × (cast_type t s ≡ Some t)
cast_taken t s h = passed (has_cast s t) t h

-- what a cast to the target gives is what a cast to the result's type gives
pub by_result : (s t : DataType) (v : Value) (found given : Cell) → s ≡ t → found ≡ cast_to t v → found ≡ given → cast_to s v ≡ given
by_result s t v found given types same is = ap (λ u. cast_to u v) types ∙ sym same ∙ is
