-- Calls of functions over trees: what is given, and why nothing is.
use Rattle.std.specs.Prelude.{◌≡◌, ℕ, List, [], ◌∷◌, Some, None, ◌⊎◌, Result, MatchResult, IfOk}
use Rattle.vx_value.specs.Types.{DataType}
use Rattle.vx_value.specs.View.{type_of}
use Rattle.vx_value.specs.declared.dtype.DType.{DType}
use Rattle.vx_value.specs.declared.error.VortexError.{VortexError}
use Rattle.vx_value.specs.declared.error.VortexError.TheVariants.{OutOfMemory}
use Rattle.vx_fn.specs.declared.function.ScalarFnRef.{ScalarFnRef}
use Rattle.vx_fn.specs.declared.function.ScalarFnRef.TheVariants as fn_of
use Rattle.vx_tree.specs.Tree.{Tree, dtype, len, interleave_of, interleaved_refusal}
use Rattle.vx_tree.specs.Calls.{called, call_refusal}
use Rattle.vx_tree.specs.Keeps.{Keeps}
use Rattle.vx_opt.specs.Answers.{IsOptimized, IsLimited}
use Rattle.vx_opt.specs.Select.{GivesJust}

-- the call isn't refused, and t is its node
abbrev pub IsCall : ScalarFnRef → List Tree → ℕ → Tree → Type 0
IsCall f ts n t = (call_refusal f ts n ≡ None) × (called f ts n ≡ Some t)

-- why there is no node: out of memory, or the refusal of the call
abbrev pub IsNoCall : ScalarFnRef → List Tree → ℕ → VortexError → Type 0
IsNoCall f ts n e = (e ≡ OutOfMemory) ⊎ (call_refusal f ts n ≡ Some e)

-- the result is the node of the call
abbrev pub MakesCall : ScalarFnRef → List Tree → ℕ → Result Tree VortexError → Type 0
MakesCall f ts n r = MatchResult r (IsCall f ts n) (IsNoCall f ts n)

-- what optimizing the node of the call gives
abbrev pub IsCalled : ScalarFnRef → List Tree → ℕ → Tree → Type 0
IsCalled f ts n u = (t : Tree) × IsCall f ts n t × IsOptimized t u 0

-- why nothing is given: there is no node, or a limit in optimizing it
abbrev pub IsUncalled : ScalarFnRef → List Tree → ℕ → VortexError → Type 0
IsUncalled f ts n e = IsNoCall f ts n e ⊎ ((t : Tree) × IsCall f ts n t × IsLimited t 0 e)

-- the result is the node of the call, optimized
abbrev pub Calls : ScalarFnRef → List Tree → ℕ → Result Tree VortexError → Type 0
Calls f ts n r = MatchResult r (IsCalled f ts n) (IsUncalled f ts n)

-- what may stand for the node of the call
abbrev pub StandsForCall : ScalarFnRef → List Tree → ℕ → Tree → Type 0
StandsForCall f ts n u = (t : Tree) × IsCall f ts n t × Keeps t u

-- a cast: the tree itself if it has the type, and else the call, optimized
pub record CastsTo (target : DType) (t : Tree) (r : Result Tree VortexError) : Type 0 where
  pub keeps : IfOk r (StandsForCall (fn_of.Cast target) (t ∷ []) (len t))
  pub same : type_of target ≡ dtype t → GivesJust t r
  pub other : (type_of target ≡ dtype t → ⊥) → Calls (fn_of.Cast target) (t ∷ []) (len t) r

-- a cast to the type
abbrev pub Casts : DataType → Tree → Result Tree VortexError → Type 0
Casts ty t r = (target : DType) × (type_of target ≡ ty) × CastsTo target t r

-- the trees aren't refused, and t interleaves them
abbrev pub IsInterleaved : Tree → Tree → List Tree → Tree → Type 0
IsInterleaved arrays rows ts t = (interleaved_refusal arrays rows ts ≡ None) × (t ≡ interleave_of arrays rows ts)

-- the result interleaves them, or there is no memory, or they are refused
abbrev pub Interleaves : Tree → Tree → List Tree → Result Tree VortexError → Type 0
Interleaves arrays rows ts r =
    MatchResult r (IsInterleaved arrays rows ts) (λ e. (e ≡ OutOfMemory) ⊎ (interleaved_refusal arrays rows ts ≡ Some e))
