-- Functions, applied to the rows of their children.
use Rattle.std.specs.Prelude.{slice_get, ◌≡◌, ℕ, List, [], ◌∷◌, length, map, Bool, true, false, ◌==◌, ◌&&◌, Option, Some, None}
use Rattle.std.specs.List.{range_with_len}
use Rattle.vx_value.specs.Types.{DataType, same_type}
use Rattle.vx_value.specs.Ids.{same_id}
use Rattle.vx_value.specs.declared.error.VortexError.{VortexError}
use Rattle.vx_value.specs.declared.error.VortexError.TheVariants.{InvalidArgument}
use Rattle.vx_value.specs.declared.error.ArgKind.TheVariants.{FnSlotMissing, Arity, ChildLen, NoRow, NodeType}
use Rattle.vx_value.specs.declared.id.Id.{Id}
use Rattle.vx_fn.specs.Functions.{arity, argument_names, function_id}
use Rattle.vx_fn.specs.ReturnTypes.{return_type}
use Rattle.vx_fn.specs.Apply.{apply}
use Rattle.vx_fn.specs.declared.function.ScalarFnRef.{ScalarFnRef}
use Rattle.vx_fn.specs.declared.function.ScalarFnRef.TheVariants as fn_of
use Rattle.vx_tree.specs.Tree.Nodes.{Tree, Data, node, filled_slots}
pub use Rattle.vx_tree.specs.Tree.Nodes.{function}
use Rattle.vx_tree.specs.Tree.ScalarFnValidity.{validity_in}
use Rattle.vx_tree.specs.Conditions.{first_of_both, unless}
use Rattle.vx_tree.specs.Shapes.{Shape, shape, types_in}
use Rattle.vx_tree.specs.SlotCells.{row_at}
use Rattle.vx_tree.specs.Charges.{all, put_back, none_reached, all_reached, added, squared}
use Rattle.vx_tree.specs.Meanings.{Meaning}
use Rattle.vx_tree.specs.declared.validity.Validity.TheVariants as validity

-- f applied to the rows of the trees, n of each
abbrev pub call_of : ScalarFnRef → DataType → ℕ → List Tree → Tree
call_of f ty n ts = node ty n (function f) (filled_slots ts)

abbrev pub is_function : Data → Bool
is_function (function f) = true
is_function _ = false

-- each slot holds a tree; whether each that does has n rows
abbrev pub all_present : List (Option Shape) → Bool
all_present [] = true
all_present (None ∷ ss) = false
all_present (Some s ∷ ss) = all_present ss

abbrev pub all_long : ℕ → List (Option Shape) → Bool
all_long n [] = true
all_long n (None ∷ ss) = all_long n ss
all_long n (Some (shape s m) ∷ ss) = (m == n) && all_long n ss

-- the function doesn't take k arguments
abbrev pub arity_refusal : ScalarFnRef → ℕ → Option VortexError
arity_refusal f k = unless (k == arity f) (InvalidArgument (Arity (arity f) k))

-- the function has no result type, or another one
abbrev pub result_refusal : DataType → Option DataType → Option VortexError
result_refusal ty None = Some (InvalidArgument NoRow)
result_refusal ty (Some s) = unless (same_type ty s) (InvalidArgument NodeType)

-- of a function node: its slots; its types, if its id is the function's; its lengths
abbrev pub slots_refusal : ScalarFnRef → List (Option Shape) → Option VortexError
slots_refusal f ss = first_of_both (unless (all_present ss) (InvalidArgument FnSlotMissing)) (arity_refusal f (length ss))

abbrev pub types_refusal : Id → DataType → ScalarFnRef → List (Option Shape) → Option VortexError
types_refusal i ty f ss =
    first_of_both (unless (same_id i (function_id f)) (InvalidArgument NodeType))
    (result_refusal ty (return_type f (types_in ss)))

abbrev pub lengths_refusal : ℕ → List (Option Shape) → Option VortexError
lengths_refusal n ss = unless (all_long n ss) (InvalidArgument ChildLen)

abbrev pub function_refusal : Id → DataType → ℕ → ScalarFnRef → List (Option Shape) → Option VortexError
function_refusal i ty n f ss =
    first_of_both (slots_refusal f ss) (first_of_both (types_refusal i ty f ss) (lengths_refusal n ss))

-- Slices and filters pass below the function, to its arguments. They don't below `get_item`: that passes below them, to the one field that is read.
abbrev pub lets_below : ScalarFnRef → Bool
lets_below (fn_of.GetItem name) = false
lets_below _ = true

-- how far a slice may have to be pushed below the function, less one, from the same numbers of its arguments
abbrev pub function_extra : ScalarFnRef → List ℕ → ℕ
function_extra (fn_of.GetItem name) = none_reached
function_extra _ = all_reached

-- the weight of the function's node, from those of its arguments
abbrev pub function_weight : ScalarFnRef → ℕ → List ℕ → ℕ
function_weight (fn_of.GetItem name) = squared 4
function_weight _ = added 4

abbrev pub function_meaning : ScalarFnRef → Meaning
function_meaning f = record {
  id = function_id f;
  name = λ ty. slice_get (argument_names f);
  IsNode = λ ty n ss. (tys : List DataType) × (ss ≡ map (λ s. Some (shape s n)) tys) × (return_type f tys ≡ Some ty);
  refusal = λ i ty n ss. function_refusal i ty n f ss;
  cells = λ ty n tys css. map (λ i. apply f tys ty (row_at css i)) (range_with_len 0 n);
  validity = λ ty n ss child. validity.Array (validity_in (node ty n (function f) ss));
  charge = record { own = 3; for_slot = put_back; left = 0; executed = all; extra = function_extra f; weight = function_weight f };
}
