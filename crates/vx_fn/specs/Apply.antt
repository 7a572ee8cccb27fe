-- The results of a function, row by row.
use Rattle.std.specs.Prelude.{List, [], ◌∷◌}
use Rattle.vx_value.specs.Types.{DataType}
use Rattle.vx_value.specs.Values.{Value}
use Rattle.vx_value.specs.Cell.{Cell, value, fault}
use Rattle.vx_fn.specs.Functions.{meaning}
use Rattle.vx_fn.specs.declared.function.ScalarFnRef.{ScalarFnRef}

-- the function of values of the types tys, with a result of type ty
abbrev pub value_of : ScalarFnRef → List DataType → DataType → List Value → Cell
value_of f = (meaning f).value

-- a fault in any argument is a fault
abbrev pub on_values : (List Value → Cell) → List Cell → Cell
on_values f [] = f []
on_values f (value v ∷ cs) = on_values (λ vs. f (v ∷ vs)) cs
on_values f (fault ∷ cs) = fault

-- the cell of a function's row, from the cells of its arguments, which have the types tys, with a result of type ty
abbrev pub apply : ScalarFnRef → List DataType → DataType → List Cell → Cell
apply f tys ty cs = on_values (value_of f tys ty) cs
