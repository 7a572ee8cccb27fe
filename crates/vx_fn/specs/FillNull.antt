-- The first value, or the second if the first is null.
use Rattle.std.specs.Prelude.{if◌then◌else◌, Option, Some, None, codes}
use Rattle.vx_value.specs.Types.{DataType}
use Rattle.vx_value.specs.Nullabilities.{same_but_nullability}
use Rattle.vx_value.specs.Values.{Value, null}
use Rattle.vx_value.specs.Cell.{Cell, value}
use Rattle.vx_value.specs.declared.id.Id.TheVariants as id
use Rattle.vx_fn.specs.Meanings.{Meaning, taking_two, as_given}

abbrev pub fill_type : DataType → DataType → Option DataType
fill_type s t = if same_but_nullability s t then Some t else None

abbrev pub filled : Value → Value → Cell
filled null w = value w
filled v w = value v

abbrev pub fill_null : Meaning
fill_null = taking_two as_given as_given id.FillNull (codes "input") (codes "fill_value") fill_type (λ ty. filled)
