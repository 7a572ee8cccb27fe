-- A function applied to trees, and why the call is refused: the number of arguments, their lengths, their types, and the type of the result, in this order.
use Rattle.std.specs.Prelude.{ℕ, List, [], ◌∷◌, length, map, Bool, true, ◌==◌, ◌&&◌, Option, Some, None, option_map}
use Rattle.vx_value.specs.Types.{DataType}
use Rattle.vx_value.specs.declared.error.VortexError.{VortexError}
use Rattle.vx_value.specs.declared.error.VortexError.TheVariants.{InvalidArgument}
use Rattle.vx_value.specs.declared.error.ArgKind.TheVariants.{ChildLen, NoChildren, NoRow}
use Rattle.vx_fn.specs.ReturnTypes.{return_type}
use Rattle.vx_fn.specs.declared.function.ScalarFnRef.{ScalarFnRef}
use Rattle.vx_tree.specs.Tree.{Tree, dtype, len, call_of, arity_refusal}
use Rattle.vx_tree.specs.Conditions.{first_of_both, unless}
use Rattle.vx_tree.specs.Support.{columns_refusal}

-- each tree has n rows
abbrev pub all_of_len : ℕ → List Tree → Bool
all_of_len n [] = true
all_of_len n (t ∷ ts) = (len t == n) && all_of_len n ts

-- NoRow if the function takes no arguments of these types, BadType if its result has no columns
abbrev pub row_refusal : Option DataType → Option VortexError
row_refusal None = Some (InvalidArgument NoRow)
row_refusal (Some ty) = columns_refusal ty

-- why the function can't be applied to the trees with n rows, None if it can
abbrev pub call_refusal : ScalarFnRef → List Tree → ℕ → Option VortexError
call_refusal f ts n =
    first_of_both (arity_refusal f (length ts))
    (first_of_both (unless (all_of_len n ts) (InvalidArgument ChildLen)) (row_refusal (return_type f (map dtype ts))))

-- the same, with as many rows as the first argument has
abbrev pub inferred_refusal : ScalarFnRef → List Tree → Option VortexError
inferred_refusal f [] = Some (InvalidArgument NoChildren)
inferred_refusal f (t ∷ ts) = call_refusal f (t ∷ ts) (len t)

-- the call, None if the function takes no arguments of these types
abbrev pub called : ScalarFnRef → List Tree → ℕ → Option Tree
called f ts n = option_map (λ ty. call_of f ty n ts) (return_type f (map dtype ts))

-- the call with the first argument's length
abbrev pub inferred : ScalarFnRef → List Tree → Option Tree
inferred f [] = None
inferred f (t ∷ ts) = called f (t ∷ ts) (len t)
