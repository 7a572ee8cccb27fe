-- The rules that are built in: what each answers for the child in a slot of t. They are entries of a session, and no rows of the table.
use Rattle.std.specs.Prelude.{◌≡◌, ℕ, zero, suc, List, [], ◌∷◌, Option, Some, None, Bool, true, false, Result, IfOk}
use Rattle.vx_value.specs.Types as type
use Rattle.vx_value.specs.Types.{DataType, Fields}
use Rattle.vx_value.specs.View.{type_of}
use Rattle.vx_value.specs.Errors.{OnlyOutOfMemory}
use Rattle.vx_value.specs.declared.error.VortexError.{VortexError}
use Rattle.vx_value.specs.declared.id.Id.TheVariants as id
use Rattle.vx_value.specs.declared.dtype.DType.{DType}
use Rattle.vx_value.specs.declared.dtype.DType.TheVariants as dtype
use Rattle.vx_value.specs.declared.dtype.Nullability.{Nullability}
use Rattle.vx_fn.specs.Binary.{is_comparison}
use Rattle.vx_fn.specs.ReturnTypes.{return_type}
use Rattle.vx_fn.specs.declared.function.ScalarFnRef.{ScalarFnRef}
use Rattle.vx_fn.specs.declared.function.ScalarFnRef.TheVariants as fn_of
use Rattle.vx_tree.specs.Tree as enc
use Rattle.vx_tree.specs.Tree.{Tree, Slots, node, no_slots, absent, slot, len, dict_of, types_in}
use Rattle.vx_tree.specs.Slots.{present_from}
use Rattle.vx_tree.specs.Well.{shapes}
use Rattle.vx_tree.specs.declared.array.layout.Layout.TheVariants as layout
use Rattle.vx_rule.specs.Counts.{MayStand}
use Rattle.vx_rule.specs.Pushes.{IsConstantLike}
use Rattle.vx_rule.specs.declared.builtins.builtin.BuiltinKind.{BuiltinKind}
use Rattle.vx_rule.specs.declared.builtins.builtin.RegisteredBuiltin.{RegisteredBuiltin}
use Rattle.vx_rule.specs.declared.builtins.builtin.BuiltinKind.TheVariants.{StructCast, DictFn}
use Rattle.vx_rule.specs.declared.raw_node.RawNode.{RawNode}

-- the entries of a session with built-ins, in the order of registration
abbrev pub builtin_rules : List RegisteredBuiltin
builtin_rules =
    record { parent = id.Cast; child = id.Struct; kind = StructCast } ∷ record { parent = id.Not; child = id.Dict; kind = DictFn }
    ∷ record { parent = id.Binary; child = id.Dict; kind = DictFn } ∷ record { parent = id.Between; child = id.Dict; kind = DictFn } ∷ []

-- ---- a cast of a struct

-- d is the cast of the n rows of c to type t
abbrev pub IsCastTo : DataType → ℕ → Tree → Tree → Type 0
IsCastTo t n c d = (target : DType) × (type_of target ≡ t) × (d ≡ node t n (enc.function (fn_of.Cast target)) (slot c no_slots))

-- the slots of n structs, none of which is null: each field cast to its type in fs, and no validity behind them
abbrev pub AreCastTo : Fields → ℕ → Slots → Slots → Type 0
AreCastTo type.no_fields n (absent no_slots) (absent no_slots) = Unit {0}
AreCastTo (type.field name t fs) n (slot c cs) (slot d ds) = IsCastTo t n c d × AreCastTo fs n cs ds
AreCastTo fs n cs ds = ⊥

-- a cast to a struct type
abbrev pub is_struct_cast : ScalarFnRef → Bool
is_struct_cast (fn_of.Cast (dtype.Struct fs m)) = true
is_struct_cast _ = false

-- ---- a function of a dictionary

-- the functions that pass to the values of a dictionary: they fault for none of their arguments' values, since values that no code names
-- meet the function too, and null gives null
abbrev pub passes_dict : ScalarFnRef → Bool
passes_dict fn_of.Not = true
passes_dict (fn_of.Binary op) = is_comparison op
passes_dict (fn_of.Between options) = true
passes_dict _ = false

-- constants of n rows in place of constants
abbrev pub AreConstantsLike : ℕ → Slots → Slots → Type 0
AreConstantsLike n no_slots no_slots = Unit {0}
AreConstantsLike n (slot c cs) (slot d ds) = IsConstantLike c n d × AreConstantsLike n cs ds
AreConstantsLike n cs ds = ⊥

-- the values in place of their dictionary in slot i, and constants of as many rows in place of constants in all other slots
abbrev pub AreOfValues : ℕ → Tree → Tree → Slots → Slots → Type 0
AreOfValues zero codes values (slot c cs) (slot d ds) = (c ≡ dict_of codes values) × (d ≡ values) × AreConstantsLike (len values) cs ds
AreOfValues (suc i) codes values (slot c cs) (slot d ds) = IsConstantLike c (len values) d × AreOfValues i codes values cs ds
AreOfValues i codes values cs ds = ⊥

-- ---- the answers: the entry, the slot, the tree, the answer, and the answer's slots that are to be optimized

pub data Builtin : BuiltinKind → ℕ → Tree → Tree → List ℕ → Type 0 where
  -- a cast of a column of structs that aren't null is the column of the casts of their fields
  cast_of_structs : (ty sty : DataType) (n k : ℕ) (fs : Fields) (m : Nullability) (cs ds : Slots) → AreCastTo fs k cs ds
      → Builtin StructCast 0 (node ty n (enc.function (fn_of.Cast (dtype.Struct fs m))) (slot (node sty k (enc.composed layout.Struct) cs) no_slots))
      (node ty k (enc.composed layout.Struct) ds) (present_from 0 ds)
  -- a function of a dictionary and constants is the dictionary of the function of its values
  function_of_dict : (ty s : DataType) (n i : ℕ) (f : ScalarFnRef) (codes values : Tree) (cs ds : Slots)
      → passes_dict f ≡ true → AreOfValues i codes values cs ds → return_type f (types_in (shapes ds)) ≡ Some s
      → Builtin DictFn i (node ty n (enc.function f) cs) (dict_of codes (node s (len values) (enc.function f) ds)) (1 ∷ [])

-- the answer of the entry, or None if there is none
abbrev pub IsBuiltinAnswer : BuiltinKind → ℕ → Tree → Option RawNode → Type 0
IsBuiltinAnswer kind i t None = (u : Tree) (os : List ℕ) → Builtin kind i t u os → ⊥
IsBuiltinAnswer kind i t (Some r) = Builtin kind i t r.tree r.optimize.items

-- the same; an answer may stand for t, and the only error is out of memory
pub record BuiltinAnswers (kind : BuiltinKind) (i : ℕ) (t : Tree) (result : Result (Option RawNode) VortexError) : Type 0 where
  pub answer : IfOk result (IsBuiltinAnswer kind i t)
  pub stands : IfOk result (MayStand t)
  pub err : OnlyOutOfMemory result
