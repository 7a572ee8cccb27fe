-- The integers of a column, and their type.
use Rattle.std.specs.Prelude.{ℤ, List}
use Rattle.vx_value.specs.declared.dtype.PType.{PType}
use Rattle.vx_tree.specs.Numbers.{Numbers}

abbrev pub values_of : Numbers PType → List ℤ
values_of v = v.numbers

abbrev pub ptype_of : Numbers PType → PType
ptype_of v = v.kind
