-- The integers that decimals are stored as: the numbers without their points.
use Rattle.std.specs.Prelude.{ℤ, List}
use Rattle.vx_value.specs.declared.decimal.DecimalType.{DecimalType}
use Rattle.vx_tree.specs.Numbers.{Numbers}

abbrev pub numbers_of : Numbers DecimalType → List ℤ
numbers_of v = v.numbers

abbrev pub decimal_type_of : Numbers DecimalType → DecimalType
decimal_type_of v = v.kind
