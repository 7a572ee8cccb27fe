-- Conditions in order: the refusal of the first that fails.
use Rattle.std.specs.Prelude.{◌≡◌, Bool, true, false, Option, Some, None, Result, MatchResult}
use Rattle.vx_value.specs.declared.error.VortexError.{VortexError}

-- the first of two refusals
abbrev pub first_of_both : Option VortexError → Option VortexError → Option VortexError
first_of_both None later = later
first_of_both (Some e) later = Some e

-- the refusal if the test fails
abbrev pub unless : Bool → VortexError → Option VortexError
unless true e = None
unless false e = Some e

-- a check returns Ok if there is no refusal, else the refusal
abbrev pub Checks : {T : Type 0} → Result T VortexError → Option VortexError → Type 0
Checks r refused = MatchResult r (λ _. refused ≡ None) (λ e. refused ≡ Some e)
