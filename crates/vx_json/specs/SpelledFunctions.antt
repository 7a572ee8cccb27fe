-- The function that an object spells.
use Rattle.std.specs.Prelude.{◌≡◌, refl, ℕ, ◌+◌, List, [], ◌∷◌, Bool, true, false, Option, Some, None, option_map, option_and_then, codes, bytes_eq}
use Rattle.std.specs.Map.{lookup}
use Rattle.serde_json.specs.Data.{Data}
use Rattle.serde_json.specs.Find.{get, as_str}
use Rattle.vx_value.specs.Types as type
use Rattle.vx_value.specs.Types.{DataType}
use Rattle.vx_value.specs.Decimals.{IsDecimal}
use Rattle.vx_value.specs.declared.decimal.DecimalDType.{DecimalDType}
use Rattle.vx_value.specs.declared.dtype.DType.{DType}
use Rattle.vx_value.specs.declared.dtype.DType.TheVariants as dtype
use Rattle.vx_fn.specs.declared.function.Operator.{Operator}
use Rattle.vx_fn.specs.declared.function.Operator.TheVariants as operator
use Rattle.vx_fn.specs.declared.function.ScalarFnRef.{ScalarFnRef}
use Rattle.vx_fn.specs.declared.function.ScalarFnRef.TheVariants as function
use Rattle.vx_fn.specs.declared.functions.between.BetweenOptions.{BetweenOptions}
use Rattle.vx_fn.specs.declared.functions.between.StrictComparison.{StrictComparison}
use Rattle.vx_fn.specs.declared.functions.pack.PackOptions.{PackOptions}
use Rattle.vx_fn.specs.declared.functions.between.StrictComparison.TheVariants.{Strict, NonStrict}
use Rattle.vx_json.specs.Fields.{keyed, text_at, boolean_at, items_at}
use Rattle.vx_json.specs.SpelledTypes.{is_decimal, is_decimal_Decides, column_type_at, nullability_spelled, form_keys}
use Rattle.vx_json.specs.SpelledValues.{all_read}

-- a function without options: its object has exactly the keys `enc`, `fn` and `args`
abbrev pub without_options : ScalarFnRef → Data → Option ScalarFnRef
without_options f d = keyed 3 d (Some f)

-- `between` has two more keys, each true for `<` and false for `<=`
abbrev pub strictness : Bool → StrictComparison
strictness true = Strict
strictness false = NonStrict

abbrev pub strictness_at : List ℕ → Data → Option StrictComparison
strictness_at k d = option_map strictness (boolean_at k d)

abbrev pub between_options : Data → Option BetweenOptions
between_options d =
    option_and_then (λ lower. option_map (λ upper. record { lower_strict = lower; upper_strict = upper }) (strictness_at (codes "upper_strict") d))
    (strictness_at (codes "lower_strict") d)

abbrev pub between : Data → Option ScalarFnRef
between d = keyed 5 d (option_map function.Between (between_options d))

-- the program's decimal type of this precision and scale, if there is one
abbrev pub dtype_if : (precision scale : ℕ) (b : Bool) → (b ≡ true → IsDecimal precision scale) → Option DecimalDType
dtype_if precision scale true holds = Some (record { precision = precision; scale = scale; is_decimal = holds refl })
dtype_if precision scale false holds = None

abbrev pub decimal_dtype : ℕ → ℕ → Option DecimalDType
decimal_dtype precision scale = dtype_if precision scale (is_decimal precision scale) (is_decimal_Decides precision scale).0

-- the program's type for a type that isn't nested: a line for each kind
abbrev pub declared : DataType → Option DType
declared type.null = Some dtype.Null
declared (type.bool m) = Some (dtype.Bool m)
declared (type.primitive p m) = Some (dtype.Primitive p m)
declared (type.decimal p s m) = option_map (λ d. dtype.Decimal d m) (decimal_dtype p s)
declared (type.utf8 m) = Some (dtype.Utf8 m)
declared (type.binary m) = Some (dtype.Binary m)
declared _ = None

-- `cast` has its target under `type`
abbrev pub cast : Data → Option ScalarFnRef
cast d = keyed 4 d (option_map function.Cast (option_and_then declared (column_type_at d)))

-- `get_item` has the name of the field under `field`
abbrev pub get_item : Data → Option ScalarFnRef
get_item d = keyed 4 d (option_map function.GetItem (text_at (codes "field") d))

-- `pack` has the names of the fields under `names`, and may have `null`: true if its type is nullable
abbrev pub pack_options : Data → Option PackOptions
pack_options d =
    option_and_then (λ nullability. option_map (λ names. record { names = names; nullability = nullability })
    (option_and_then (all_read as_str) (items_at (codes "names") d))) (nullability_spelled (get (codes "null") d))

abbrev pub pack : Data → Option ScalarFnRef
pack d = keyed (3 + form_keys (get (codes "null") d)) d (option_map function.Pack (pack_options d))

-- the names of binary operators: a line for each
abbrev pub named_operators : List (List ℕ × Operator)
named_operators =
    (codes "add", operator.Add)
    ∷ (codes "sub", operator.Sub)
    ∷ (codes "mul", operator.Mul)
    ∷ (codes "div", operator.Div)
    ∷ (codes "eq", operator.Eq)
    ∷ (codes "not_eq", operator.NotEq)
    ∷ (codes "lt", operator.Lt)
    ∷ (codes "lte", operator.Lte)
    ∷ (codes "gt", operator.Gt)
    ∷ (codes "gte", operator.Gte)
    ∷ (codes "and", operator.And)
    ∷ (codes "or", operator.Or)
    ∷ []

abbrev pub operator_named : List ℕ → Option Operator
operator_named name = lookup (bytes_eq name) named_operators

-- the names of the other functions, and how an object of each spells it, with its options: a line for each function
abbrev pub named_functions : List (List ℕ × (Data → Option ScalarFnRef))
named_functions =
    (codes "between", between)
    ∷ (codes "not", without_options function.Not)
    ∷ (codes "mask", without_options function.Mask)
    ∷ (codes "zip", without_options function.Zip)
    ∷ (codes "fill_null", without_options function.FillNull)
    ∷ (codes "is_null", without_options function.IsNull)
    ∷ (codes "is_not_null", without_options function.IsNotNull)
    ∷ (codes "get_item", get_item)
    ∷ (codes "pack", pack)
    ∷ (codes "cast", cast)
    ∷ []

abbrev pub other_named : Data → List ℕ → Option ScalarFnRef
other_named d name = option_and_then (λ read. read d) (lookup (bytes_eq name) named_functions)

-- a binary operator has no options
abbrev pub function_by : Data → List ℕ → Option Operator → Option ScalarFnRef
function_by d name (Some o) = without_options (function.Binary o) d
function_by d name None = other_named d name

abbrev pub function_named : Data → List ℕ → Option ScalarFnRef
function_named d name = function_by d name (operator_named name)

-- the function that is named under `fn`, if the object has exactly its keys
abbrev pub function_at : Data → Option ScalarFnRef
function_at d = option_and_then (function_named d) (text_at (codes "fn") d)
