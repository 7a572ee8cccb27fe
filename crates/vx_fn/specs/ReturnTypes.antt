-- The type of a function's result, from the types of its arguments.
use Rattle.std.specs.Prelude.{List, Option}
use Rattle.vx_value.specs.Types.{DataType}
use Rattle.vx_fn.specs.Functions.{meaning}
use Rattle.vx_fn.specs.declared.function.ScalarFnRef.{ScalarFnRef}

-- None if the function doesn't accept these arguments
abbrev pub return_type : ScalarFnRef → List DataType → Option DataType
return_type f = (meaning f).types
