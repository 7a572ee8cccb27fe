-- The parts of the worked nodes: types, the contents of their slots, and why they are refused.
use Rattle.std.specs.Prelude.{ℕ, pos, [], ◌∷◌, true, Option, Some}
use Rattle.vx_value.specs.Types as type
use Rattle.vx_value.specs.Types.{DataType}
use Rattle.vx_value.specs.Values.{Value, integer}
use Rattle.vx_value.specs.Typed.{Typed}
use Rattle.vx_value.specs.declared.dtype.PType.TheVariants.{I8, I32, U8}
use Rattle.vx_value.specs.declared.dtype.Nullability.TheVariants.{NonNullable, Nullable}
use Rattle.vx_value.specs.declared.error.VortexError.{VortexError}
use Rattle.vx_value.specs.declared.error.VortexError.TheVariants.{InvalidArgument}
use Rattle.vx_value.specs.declared.error.ArgKind.{ArgKind}
use Rattle.vx_fn.specs.declared.function.Operator.TheVariants.{Add}
use Rattle.vx_fn.specs.declared.function.ScalarFnRef.{ScalarFnRef}
use Rattle.vx_fn.specs.declared.function.ScalarFnRef.TheVariants.{Binary}
use Rattle.vx_tree.specs.Tree.{Tree, Data, constant, slice, filter, primitive, constant_of}
use Rattle.vx_tree.specs.Well.{Shape, shape}

abbrev pub i32 : DataType
i32 = type.primitive I32 NonNullable

abbrev pub nullable : DataType
nullable = type.primitive I32 Nullable

abbrev pub i8 : DataType
i8 = type.primitive I8 NonNullable

abbrev pub u8 : DataType
u8 = type.primitive U8 NonNullable

abbrev pub bool : DataType
bool = type.bool NonNullable

abbrev pub text : DataType
text = type.utf8 NonNullable

abbrev pub binary : DataType
binary = type.binary NonNullable

-- decimals of five digits, two of them behind the point
abbrev pub hundredths : DataType
hundredths = type.decimal 5 2 NonNullable

-- decimals of p digits, one of them behind the point
abbrev pub decimal : ℕ → DataType
decimal p = type.decimal p 1 NonNullable

-- a value and its type
abbrev pub typed : DataType → Value → Typed
typed ty v = record { of_type = ty; value = v }

-- slots: with two rows, with three, and with three booleans
abbrev pub two : Option Shape
two = Some (shape i32 2)

abbrev pub three : Option Shape
three = Some (shape i32 3)

abbrev pub flags : Option Shape
flags = Some (shape bool 3)

abbrev pub add : ScalarFnRef
add = Binary Add

-- the data of the worked nodes
abbrev pub all_of_three : Data
all_of_three = filter (true ∷ true ∷ true ∷ [])

abbrev pub from_two_to_five : Data
from_two_to_five = slice 2 5

abbrev pub one_and_two : Data
one_and_two = primitive I32 (pos 1 ∷ pos 2 ∷ [])

abbrev pub seven : Data
seven = constant (typed i32 (integer (pos 7)))

-- an argument of a type and a length
abbrev pub argument : DataType → ℕ → Tree
argument ty n = constant_of (typed ty (integer (pos 0))) n

abbrev pub because : ArgKind → Option VortexError
because kind = Some (InvalidArgument kind)
