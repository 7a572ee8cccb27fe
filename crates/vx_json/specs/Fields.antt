-- The values under the keys of an object.
use Rattle.std.specs.Prelude.{ℕ, ◌+◌, ◌==◌, List, Bool, if◌then◌else◌, Option, None, option_and_then}
use Rattle.serde_json.specs.Data.{Data, object, Items, Members, no_members, member}
use Rattle.serde_json.specs.Find.{get, as_bool, as_number, as_str, as_array, as_u64}

-- the number of keys of an object, or 0 for another value
abbrev pub members_count : Members → ℕ
members_count no_members = 0
members_count (member k d ms) = members_count ms + 1

abbrev pub member_count : Data → ℕ
member_count (object ms) = members_count ms
member_count _ = 0

-- `answer` if the object has exactly n keys, else None
abbrev pub keyed : {A : Type 0} → ℕ → Data → Option A → Option A
keyed n d answer = if member_count d == n then answer else None

-- an unsigned whole number
abbrev pub whole_number : Data → Option ℕ
whole_number d = option_and_then as_u64 (as_number d)

-- the boolean, the text, the unsigned whole number and the list under the key k
abbrev pub boolean_at : List ℕ → Data → Option Bool
boolean_at k d = option_and_then as_bool (get k d)

abbrev pub text_at : List ℕ → Data → Option (List ℕ)
text_at k d = option_and_then as_str (get k d)

abbrev pub number_at : List ℕ → Data → Option ℕ
number_at k d = option_and_then whole_number (get k d)

abbrev pub items_at : List ℕ → Data → Option Items
items_at k d = option_and_then as_array (get k d)
