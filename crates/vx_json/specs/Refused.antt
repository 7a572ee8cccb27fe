-- Why a value is refused.
use Rattle.std.specs.Prelude.{◌≡◌, ◌⊎◌, Option, Some, None, Result, MatchResult}
use Rattle.vx_value.specs.declared.error.VortexError.{VortexError}
use Rattle.vx_value.specs.declared.error.VortexError.TheVariants.{OutOfMemory, InvalidArgument}
use Rattle.vx_value.specs.declared.error.ArgKind.TheVariants.{BadValue}

-- out of memory, or a bad value and the fact holds
abbrev pub IsRefused : Type 0 → VortexError → Type 0
IsRefused fact e = (e ≡ OutOfMemory) ⊎ ((e ≡ InvalidArgument BadValue) × fact)

-- the result is what is spelled; if nothing is, the value is refused
abbrev pub IsRead : {A : Type 0} → Option A → Result A VortexError → Type 0
IsRead spelled result = MatchResult result (λ a. spelled ≡ Some a) (IsRefused (spelled ≡ None))

-- the same of a result that stands for what is spelled
abbrev pub IsReadAs : {A R : Type 0} → (R → A) → Option A → Result R VortexError → Type 0
IsReadAs stands spelled result = MatchResult result (λ r. spelled ≡ Some (stands r)) (IsRefused (spelled ≡ None))

-- the answer, if there is no refusal
abbrev pub unless_refused : {A : Type 0} → Option VortexError → A → Option A
unless_refused None answer = Some answer
unless_refused (Some e) answer = None
