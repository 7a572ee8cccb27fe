-- The rows that a list spells: the value of each, and whether it isn't null.
use Rattle.std.specs.Prelude.{◌≡◌, List, [], ◌∷◌, ◌++◌, map, Bool, if◌then◌else◌, Option, Some, None, is_some, Result, MatchResult}
use Rattle.serde_json.specs.Data.{Data, Items}
use Rattle.vx_value.specs.declared.dtype.Nullability.{Nullability}
use Rattle.vx_value.specs.declared.dtype.Nullability.TheVariants.{NonNullable, Nullable}
use Rattle.vx_value.specs.declared.error.VortexError.{VortexError}
use Rattle.vx_tree.specs.Rows.{item_or}
use Rattle.vx_json.specs.Refused.{IsRefused}
use Rattle.vx_json.specs.SpelledValues.{or_null, all_read}

-- whether each row isn't null, if rows may be null
abbrev pub present_rows : {A : Type 0} → Nullability → List (Option A) → List Bool
present_rows NonNullable rows = []
present_rows Nullable rows = map is_some rows

-- the same for one more row
abbrev pub told_more : Nullability → List Bool → Bool → List Bool
told_more NonNullable valid there = valid
told_more Nullable valid there = valid ++ there ∷ []

-- `zero` for null, else what is read
abbrev pub read_unless : {A : Type 0} → Bool → A → Option A → Option A
read_unless null zero o = if null then Some zero else o

-- the list spells rows of these values, `zero` for null; `valid` says whether each isn't null, if rows may be null
pub record AreRead {A : Type 0} (m : Nullability) (zero : A) (read : Data → Option A) (ds : Items) (values : List A) (valid : List Bool) : Type 0 where
  pub rows : List (Option A)
  pub are_read : all_read (or_null m read) ds ≡ Some rows
  pub held : values ≡ map (item_or zero) rows
  pub are_told : valid ≡ present_rows m rows

-- the result has the values of the rows that the list spells; a list that spells no such rows is refused
abbrev pub RowsRead : {A R : Type 0} → Nullability → A → (Data → Option A) → Items → Result R VortexError → (R → List A) → List Bool → Type 0
RowsRead m zero read ds result values valid =
    MatchResult result (λ r. AreRead m zero read ds (values r) valid) (IsRefused (all_read (or_null m read) ds ≡ None))
