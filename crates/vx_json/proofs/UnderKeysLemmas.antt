-- What stands under a key of an object.
use Rattle.std.proofs.Common.{◌≡◌, Option, Some, None, option_and_then, refl}
use Rattle.std.specs.declared.cmp.Ordering.{Ordering}
use Rattle.std.specs.declared.cmp.Ordering.TheVariants.{Less, Equal, Greater}
use Rattle.std.specs.Ordering.{match_ordering}
use Rattle.serde_json.specs.Data.{Data, Items}
use Rattle.serde_json.specs.Find.{as_array}

-- what is spelled under a key, with one member more
pub under_by : {A : Type 0} (read : Data → Option A) (o : Ordering) (d : Data) (t : Option A) (found : Option Data) → t ≡ option_and_then read found
    → match_ordering o t (read d) t ≡ option_and_then read (match_ordering o found (Some d) found)
under_by read Less d t found p = p
under_by read Equal d t found p = refl
under_by read Greater d t found p = p

-- what a list spells, by its items
pub listed_by : {A : Type 0} (read : Data → Option A) (each : Items → Option A) → ((d : Data) → read d ≡ option_and_then each (as_array d)) → (found : Option Data)
    → option_and_then read found ≡ option_and_then each (option_and_then as_array found)
listed_by read each h None = refl
listed_by read each h (Some d) = h d
