-- What 128 bits don't hold, no decimal type has.
use Rattle.std.proofs.Common.{◌≤◌, ℕ}
use Rattle.vx_value.specs.Casts.{sized}
use Rattle.vx_value.proofs.CastsLemmas.{past_digits}
use Rattle.vx_fn.specs.Arithmetic.{IsBounded}

-- it has too many digits
pub sized_bounded : (p s : ℕ) → p ≤ 38 → IsBounded (sized p s)
sized_bounded p s h z past = past_digits p s z h past
