-- The meaning of a function, and the functions of none, one, two and three arguments.
use Rattle.std.specs.Prelude.{◌≡◌, Bool, true, false, ℕ, List, [], ◌∷◌, length, Option, Some, None, option_map}
use Rattle.vx_value.specs.Types.{DataType, nullability_of}
use Rattle.vx_value.specs.Nullabilities.{with_nullability, union}
use Rattle.vx_value.specs.Values.{Value, null}
use Rattle.vx_value.specs.Cell as cell
use Rattle.vx_value.specs.Cell.{Cell, fault}
use Rattle.vx_value.specs.declared.id.Id.{Id}
use Rattle.vx_value.specs.declared.id.Id.TheVariants as id
use Rattle.vx_fn.specs.Arity.{of_none, of_one, of_two, of_three}
use Rattle.vx_fn.specs.ArityLaws.{on_none, on_one, on_two, on_three}

-- what a function is: its id, the names of its arguments, its result's type from the arguments' types, and its value from the
-- arguments' types, that type, and the arguments' values; it accepts as many arguments as have names
pub record Meaning : Type 0 where
  pub id : Id
  pub names : List (List ℕ)
  pub types : List DataType → Option DataType
  pub value : List DataType → DataType → List Value → Cell
  pub taken : (tys : List DataType) (ty : DataType) → types tys ≡ Some ty → length tys ≡ length names

-- whether the result, or its type, is a clone of an argument's or of the function's own; no other function takes memory
abbrev pub clones : Id → Bool
clones id.Mask = true
clones id.Zip = true
clones id.FillNull = true
clones id.GetItem = true
clones id.Pack = true
clones id.PreparedSet = true
clones id.Cast = true
clones _ = false

-- ---- how an argument changes the result

-- the result is nullable if the argument is
abbrev pub widen : DataType → DataType → DataType
widen s t = with_nullability (union (nullability_of s) (nullability_of t)) t

abbrev pub widened : DataType → Option DataType → Option DataType
widened s answer = option_map (widen s) answer

-- a null argument makes the result null
abbrev pub null_through : Value → Cell → Cell
null_through null c = cell.value null
null_through _ c = c

-- the result is unchanged
abbrev pub as_given : {A B : Type 0} → A → B → B
as_given x answer = answer

-- ---- functions by their rules on types and on values, their id, the names of their arguments, their type and their value

abbrev pub taking_none : Id → Option DataType → Cell → Meaning
taking_none i type known = record {
  id = i;
  names = [];
  types = of_none None type;
  value = λ tys ty. of_none fault known;
  taken = on_none type;
}

abbrev pub taking_one : (DataType → Option DataType → Option DataType) → (Value → Cell → Cell) → Id → List ℕ →
    (DataType → Option DataType) → (DataType → Value → Cell) → Meaning
taking_one typed valued i x type value = record {
  id = i;
  names = x ∷ [];
  types = of_one typed None type;
  value = λ tys ty. of_one valued fault (value ty);
  taken = on_one typed type;
}

abbrev pub taking_two : (DataType → Option DataType → Option DataType) → (Value → Cell → Cell) → Id → List ℕ → List ℕ →
    (DataType → DataType → Option DataType) → (DataType → Value → Value → Cell) → Meaning
taking_two typed valued i x y type value = record {
  id = i;
  names = x ∷ y ∷ [];
  types = of_two typed None type;
  value = λ tys ty. of_two valued fault (value ty);
  taken = on_two typed type;
}

abbrev pub taking_three : (DataType → Option DataType → Option DataType) → (Value → Cell → Cell) → Id → List ℕ → List ℕ → List ℕ →
    (DataType → DataType → DataType → Option DataType) → (DataType → Value → Value → Value → Cell) → Meaning
taking_three typed valued i x y z type value = record {
  id = i;
  names = x ∷ y ∷ z ∷ [];
  types = of_three typed None type;
  value = λ tys ty. of_three valued fault (value ty);
  taken = on_three typed type;
}
