-- The kernels that are built in: what each answers for t, one of whose slots was executed.
use Rattle.std.specs.Prelude.{◌≡◌, ℕ, pos, List, [], ◌∷◌, ◌+◌, ◌&&◌, map, length, Bool, true, false, Option, Some, None, Result, Ok, Err, IfOk}
use Rattle.std.proofs.Math.Bool.{not}
use Rattle.std.specs.List.{range_with_len}
use Rattle.vx_value.specs.Types as type
use Rattle.vx_value.specs.Types.{DataType, nullability_of, is_nullable}
use Rattle.vx_value.specs.Values.{integer}
use Rattle.vx_value.specs.Cell.{Cell, value}
use Rattle.vx_value.specs.Errors.{OnlyOutOfMemory}
use Rattle.vx_value.specs.declared.error.VortexError.{VortexError}
use Rattle.vx_value.specs.declared.dtype.PType.TheVariants.{U64}
use Rattle.vx_value.specs.declared.id.Id.TheVariants as id
use Rattle.vx_mask.specs.Places.{chosen}
use Rattle.vx_fn.specs.Binary.{is_logical}
use Rattle.vx_fn.specs.declared.function.Operator.{Operator}
use Rattle.vx_fn.specs.declared.function.ScalarFnRef.{ScalarFnRef}
use Rattle.vx_fn.specs.declared.function.ScalarFnRef.TheVariants as fn_of
use Rattle.vx_tree.specs.Tree as enc
use Rattle.vx_tree.specs.Tree.{Tree, Slots, node, no_slots, absent, slot, dtype, len, datum, is_bool, is_canonical, is_columnar, dict_of, filter_of, booleans}
use Rattle.vx_tree.specs.Cells.{rows, HasNoFault, IsClean}
use Rattle.vx_tree.specs.Lookups.{taken_cells}
use Rattle.vx_tree.specs.Keeps.{KeepsExactly}
use Rattle.vx_rule.specs.Counts.{capped, price}
use Rattle.vx_step.specs.declared.kernels.builtin.BuiltinKernelKind.{BuiltinKernelKind}
use Rattle.vx_step.specs.declared.kernels.builtin.BuiltinKernelKind.TheVariants.{DictOverFilter, BoolBinary}
use Rattle.vx_step.specs.declared.kernels.builtin.RegisteredBuiltinKernel.{RegisteredBuiltinKernel}

-- the kernels of a session with built-ins, in the order of registration
abbrev pub builtin_kernels : List RegisteredBuiltinKernel
builtin_kernels =
    record { parent = id.Dict; child = id.Filter; kind = DictOverFilter } ∷ record { parent = id.Binary; child = id.Bool; kind = BoolBinary } ∷ []

-- ---- a dictionary over a filter

-- the places, among all rows, of those that the bits choose
abbrev pub places : List Bool → List Cell
places bits = map (λ i. value (integer (pos i))) (chosen bits (range_with_len 0 (length bits)))

-- the places that the codes name: the code of a row among the chosen ones, as the code of the same row among all
abbrev pub placed : List Bool → List Cell → List Cell
placed bits codes = taken_cells codes (places bits)

-- v is the column of the places that the codes name, none of which is a fault
pub record IsPlaced (bits : List Bool) (codes v : Tree) : Type 0 where
  pub columnar : is_columnar (datum v) ≡ true
  pub typed : dtype v ≡ type.primitive U64 (nullability_of (dtype codes))
  pub counted : len v ≡ len codes
  pub shown : rows v ≡ placed bits (rows codes)
  pub clean : IsClean v
  pub settled : HasNoFault (placed bits (rows codes))

-- ---- And and Or of booleans

-- And or Or
abbrev pub is_logical_call : ScalarFnRef → Bool
is_logical_call (fn_of.Binary op) = is_logical op
is_logical_call _ = false

-- a column of booleans without a validity
abbrev pub is_plain : Tree → Bool
is_plain t = is_bool (datum t) && not (is_nullable (nullability_of (dtype t)))

-- the slot holds one
abbrev pub holds_plain : Option Tree → Bool
holds_plain None = false
holds_plain (Some t) = is_plain t

-- each slot holds one
abbrev pub are_plain : Slots → Bool
are_plain no_slots = true
are_plain (absent ss) = false
are_plain (slot t ss) = is_plain t && are_plain ss

-- ---- the answers: the kernel, the slot that was executed, the tree, and the answer

pub data KernelAnswer : BuiltinKernelKind → ℕ → Tree → Tree → Type 0 where
  -- codes of filtered rows are those of all rows, if each is null or names one
  dict_over_filter : (bits : List Bool) (codes c v : Tree) → is_columnar (datum codes) ≡ true → IsPlaced bits codes v
      → KernelAnswer DictOverFilter 1 (dict_of codes (filter_of bits c)) (dict_of v c)
  -- And and Or of two columns of booleans without validities are a canonical column
  bool_binary : (i n : ℕ) (ty : DataType) (op : Operator) (xs ys : List Bool) (u : Tree) → is_logical op ≡ true
      → KeepsExactly (node ty n (enc.function (fn_of.Binary op)) (slot (booleans xs) (slot (booleans ys) no_slots))) u → is_canonical (datum u) ≡ true
      → KernelAnswer BoolBinary i (node ty n (enc.function (fn_of.Binary op)) (slot (booleans xs) (slot (booleans ys) no_slots))) u

-- the answer of the kernel, or None if there is none
abbrev pub IsKernelAnswer : BuiltinKernelKind → ℕ → Tree → Option Tree → Type 0
IsKernelAnswer kind i t None = (u : Tree) → KernelAnswer kind i t u → ⊥
IsKernelAnswer kind i t (Some u) = KernelAnswer kind i t u

-- an answer stands for t exactly
abbrev pub StandsExactly : Tree → Option Tree → Type 0
StandsExactly t None = Unit {0}
StandsExactly t (Some u) = KeepsExactly t u

-- the answer of the kernel; it stands for t exactly, and the only error is out of memory
pub record KernelAnswers (kind : BuiltinKernelKind) (i : ℕ) (t : Tree) (result : Result (Option Tree) VortexError) : Type 0 where
  pub answer : IfOk result (IsKernelAnswer kind i t)
  pub stands : IfOk result (StandsExactly t)
  pub err : OnlyOutOfMemory result

-- what a kernel spent, after this result
abbrev pub kernel_spent_after : ℕ → Result (Option Tree) VortexError → ℕ
kernel_spent_after spent (Ok (Some u)) = capped (spent + price u)
kernel_spent_after spent (Ok None) = spent
kernel_spent_after spent (Err e) = spent
