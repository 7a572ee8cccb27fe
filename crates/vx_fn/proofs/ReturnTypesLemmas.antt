-- How many arguments functions take.
use Rattle.std.proofs.Common.{◌≡◌, List, length, Some}
use Rattle.vx_value.specs.Types.{DataType}
use Rattle.vx_fn.specs.Functions.{meaning, arity}
use Rattle.vx_fn.specs.ReturnTypes.{return_type}
use Rattle.vx_fn.specs.declared.function.ScalarFnRef.{ScalarFnRef}

pub arity_of_row : (f : ScalarFnRef) (tys : List DataType) (ty : DataType) → return_type f tys ≡ Some ty → length tys ≡ arity f
arity_of_row f tys ty h = (meaning f).taken tys ty h
