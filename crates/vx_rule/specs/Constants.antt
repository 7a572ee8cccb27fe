-- Functions of constants.
use Rattle.std.specs.Prelude.{◌≡◌, ℕ, List, [], ◌∷◌, map, Bool, true, false, Option, Some, None}
use Rattle.vx_value.specs.Types.{DataType}
use Rattle.vx_value.specs.Typed.{Typed}
use Rattle.vx_value.specs.Values.{Value}
use Rattle.vx_value.specs.Cell.{value, fault}
use Rattle.vx_fn.specs.Apply.{apply}
use Rattle.vx_fn.specs.declared.function.ScalarFnRef.{ScalarFnRef}
use Rattle.vx_fn.specs.declared.function.ScalarFnRef.TheVariants.{Between, Not, FillNull, Cast}
use Rattle.vx_tree.specs.Tree.{Tree, Data, Slots, constant, no_slots, absent, slot, datum}
use Rattle.vx_rule.specs.Rules.{constants}

-- the functions that are folded
abbrev pub folds : ScalarFnRef → Bool
folds (Between options) = true
folds Not = true
folds FillNull = true
folds (Cast target) = true
folds _ = false

-- the value of a constant, with its type
abbrev pub data_value : Data → Option Typed
data_value (constant v) = Some v
data_value _ = None

-- the value of the constant in a slot
abbrev pub slot_value : Option Tree → Option Typed
slot_value None = None
slot_value (Some t) = data_value (datum t)

-- a value in front of others, if all are there
abbrev pub with_value : Option Typed → Option (List Typed) → Option (List Typed)
with_value (Some v) (Some vs) = Some (v ∷ vs)
with_value _ _ = None

-- the values of the slots, if each holds a constant
abbrev pub constant_values : Slots → Option (List Typed)
constant_values no_slots = Some []
constant_values (absent ss) = None
constant_values (slot t ss) = with_value (data_value (datum t)) (constant_values ss)

-- the constant of the function's value on these slots, None if a slot holds no constant or the function has no value
abbrev pub IsFolded : ScalarFnRef → DataType → ℕ → Slots → Option Tree → Type 0
IsFolded f ty n ss None =
    (vs : List Typed) → constant_values ss ≡ Some vs → apply f (map (λ v. v.of_type) vs) ty (map (λ v. value v.value) vs) ≡ fault
IsFolded f ty n ss (Some u) =
    (vs : List Typed) × (w : Value) × (constant_values ss ≡ Some vs) × (apply f (map (λ v. v.of_type) vs) ty (map (λ v. value v.value) vs) ≡ value w)
    × (u ≡ constants ty w n)
