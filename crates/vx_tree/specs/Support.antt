-- Types that have no columns.
use Rattle.std.specs.Prelude.{Option}
use Rattle.vx_value.specs.Types.{DataType}
use Rattle.vx_value.specs.Supported.{has_columns}
use Rattle.vx_value.specs.declared.error.VortexError.{VortexError}
use Rattle.vx_value.specs.declared.error.VortexError.TheVariants.{InvalidArgument}
use Rattle.vx_value.specs.declared.error.ArgKind.TheVariants.{BadType}
use Rattle.vx_tree.specs.Conditions.{unless}

-- BadType if the type has none
abbrev pub columns_refusal : DataType → Option VortexError
columns_refusal ty = unless (has_columns ty) (InvalidArgument BadType)
