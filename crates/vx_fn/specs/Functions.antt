-- The functions: the meaning of each, its id, the number and the names of its arguments, and its code.
use Rattle.std.specs.Prelude.{ℕ, List, length}
use Rattle.std.specs.Coded.{Coded}
use denote.Enum.Declared.{row}
use Rattle.vx_value.specs.View.{type_of}
use Rattle.vx_value.specs.declared.id.Id.{Id}
use Rattle.vx_fn.specs.Meanings.{Meaning}
use Rattle.vx_fn.specs.declared.function.ScalarFnRef.{ScalarFnRef}
use Rattle.vx_fn.specs.declared.function.ScalarFnRef.TheVariants as function
use Rattle.vx_fn.specs.contracts.function.ScalarFnRef.{the_type as the_function}

-- the meaning: a line for each function
abbrev pub meaning : ScalarFnRef → Meaning
meaning (function.Binary op) = Rattle.vx_fn.specs.Binary.binary op
meaning (function.Between options) = Rattle.vx_fn.specs.Between.between options
meaning function.Not = Rattle.vx_fn.specs.Negation.negation
meaning function.Mask = Rattle.vx_fn.specs.Mask.mask
meaning function.Zip = Rattle.vx_fn.specs.Zip.zip
meaning function.FillNull = Rattle.vx_fn.specs.FillNull.fill_null
meaning function.IsNull = Rattle.vx_fn.specs.IsNull.null_test
meaning function.IsNotNull = Rattle.vx_fn.specs.IsNull.value_test
meaning (function.GetItem name) = Rattle.vx_fn.specs.GetItem.get_item name
meaning (function.Pack options) = Rattle.vx_fn.specs.Pack.pack options
meaning function.ListContains = Rattle.vx_fn.specs.ListContains.list_contains
meaning (function.PreparedSet scalar) = Rattle.vx_fn.specs.PreparedSet.prepared_set scalar
meaning (function.Cast target) = Rattle.vx_fn.specs.Cast.conversion (type_of target)

abbrev pub function_id : ScalarFnRef → Id
function_id f = (meaning f).id

abbrev pub argument_names : ScalarFnRef → List (List ℕ)
argument_names f = (meaning f).names

-- the number of arguments: each has a name
abbrev pub arity : ScalarFnRef → ℕ
arity f = length (argument_names f)

-- the code of a function: that of the enum as declared, whatever its variants hold
abbrev pub coded_function : Coded ScalarFnRef
coded_function = (row the_function).coded
