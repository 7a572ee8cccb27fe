-- The list of names that a function's arguments have.
use Rattle.std.specs.Prelude.{ℕ, List, map}
use Rattle.vx_fn.specs.declared.argument_names.ArgumentNames.{ArgumentNames}
use Rattle.vx_fn.specs.declared.argument_names.ArgumentNames.TheVariants.{Fixed, Own}

abbrev pub names_in : ArgumentNames → List (List ℕ)
names_in (Fixed names) = map (λ s. s.now) names.now
names_in (Own names) = names.now
