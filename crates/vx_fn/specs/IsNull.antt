-- Whether a value is null, or isn't.
use Rattle.std.specs.Prelude.{Option, Some, codes}
use Rattle.std.proofs.Math.Bool.{not}
use Rattle.vx_value.specs.Types.{DataType, bool}
use Rattle.vx_value.specs.Values.{boolean}
use Rattle.vx_value.specs.Cell.{value}
use Rattle.vx_value.specs.IsOf.{is_null}
use Rattle.vx_value.specs.declared.dtype.Nullability.TheVariants.{NonNullable}
use Rattle.vx_value.specs.declared.id.Id.TheVariants as id
use Rattle.vx_fn.specs.Meanings.{Meaning, taking_one, as_given}
use Rattle.vx_fn.specs.declared.functions.is_null.NullTest.{NullTest}
use Rattle.vx_fn.specs.declared.functions.is_null.NullTest.TheVariants as test

-- values of any type can be tested
abbrev pub test_type : DataType → Option DataType
test_type s = Some (bool NonNullable)

abbrev pub null_test : Meaning
null_test = taking_one as_given as_given id.IsNull (codes "input") test_type (λ ty v. value (boolean (is_null v)))

abbrev pub value_test : Meaning
value_test = taking_one as_given as_given id.IsNotNull (codes "input") test_type (λ ty v. value (boolean (not (is_null v))))

abbrev pub null_meaning : NullTest → Meaning
null_meaning test.IsNull = null_test
null_meaning test.IsNotNull = value_test
