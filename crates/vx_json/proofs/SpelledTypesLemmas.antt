-- The type that a text without the mark names, lists of another number of items, and the types that objects spell.
use Rattle.std.proofs.Common.{◌≡◌, ◌≢◌, ℕ, ◌-◌, List, ◌++◌, length, map, take, drop, [], ◌∷◌, Bool, true, false, Option, Some, None, option_and_then, refl, sym, ap, ◌∙◌}
use Rattle.std.proofs.lemmas.List.{take-append-drop}
use Rattle.std.proofs.lemmas.Slice.Eq.{bytes_eq-Decides}
use Rattle.std.specs.declared.cmp.Ordering.{Ordering}
use Rattle.std.specs.declared.cmp.Ordering.TheVariants.{Less, Equal, Greater}
use Rattle.std.specs.Ordering.{nat_cmp, match_ordering}
use Rattle.std.specs.Cmp.Lexicographic.{slice_cmp}
use Rattle.std.specs.Prelude.{bytes_eq, codes, is_some, if◌then◌else◌}
use Rattle.vx_value.specs.Types.{DataType, null, field, alternative}
use Rattle.vx_value.specs.View.{type_of, fields_of, variants_of}
use Rattle.vx_value.specs.declared.dtype.Nullability.TheVariants.{NonNullable, Nullable}
use Rattle.vx_value.specs.declared.nested.Field.{Field}
use Rattle.vx_value.specs.declared.nested.UnionVariant.{UnionVariant}
use Rattle.serde_json.specs.Data.{Data, array, object, Items, no_items, item, Members, no_members, member}
use Rattle.serde_json.specs.Find.{get, get_member, as_array, as_str}
use Rattle.serde_json.specs.View.{view, items_view}
use Rattle.serde_json.specs.declared.value.Value.{Value}
use Rattle.vx_value.specs.declared.dtype.Nullability.{Nullability}
use Rattle.vx_json.specs.SpelledTypes.{is_marked, unmarked, type_named, type_spelled, decimal_listed, tag_spelled}
use Rattle.vx_json.specs.SpelledTypes.{Parts, no_parts, both, first_of, parts_in, parts_under, type_in, named_in, tagged_in}
use Rattle.vx_json.specs.SpelledTypes.{pair_listed, named_listed, tagged_listed, fields_listed, variants_listed, object_type, object_type_spelled, map_type_spelled, listed_at}
use Rattle.vx_json.specs.SpelledTypes.{fields_named, variants_tagged, named_of, tagged_of}
use Rattle.vx_json.specs.SpelledValues.{all_read}

unmarked_no : (text : List ℕ) → ((front : List ℕ) → text ≢ front ++ codes "?") → is_marked text ≡ false
unmarked_no text h = by_test (is_marked text) refl
  where
    by_test : (b : Bool) → is_marked text ≡ b → b ≡ false
    by_test true e =
        let last : drop (length text - 1) text ≡ codes "?" = (bytes_eq-Decides (drop (length text - 1) text) (codes "?")).0 e in
        absurd (h (take (length text - 1) text) (sym (take-append-drop (length text - 1) text) ∙ ap (λ l. take (length text - 1) text ++ l) last))
    by_test false e = refl

pub unmarked_spelled : (text : List ℕ) → bytes_eq text (codes "null") ≡ false → ((front : List ℕ) → text ≢ front ++ codes "?") →
    type_spelled text ≡ type_named text NonNullable
unmarked_spelled text other h =
    ap (λ b. if b then Some null else (if is_marked text then type_named (unmarked text) Nullable else type_named text NonNullable)) other
    ∙ ap (λ b. if b then type_named (unmarked text) Nullable else type_named text NonNullable) (unmarked_no text h)

-- a list of another length isn't one of a precision and a scale
pub listed_none : (m : Nullability) (vs : List Value) → length vs ≢ 2 → decimal_listed m (items_view vs) ≡ None
listed_none m [] h = refl
listed_none m (v ∷ []) h = refl
listed_none m (v ∷ w ∷ []) h = absurd (h refl)
listed_none m (v ∷ w ∷ x ∷ vs) h = refl

-- nor one of two types, of a name and a type, or of a tag, a name and a type
without_second : {A B : Type 0} (o : Option A) → both {B = B} o None ≡ None
without_second None = refl
without_second (Some a) = refl

pub pair_none : (vs : List Value) → length vs ≢ 2 → pair_listed (items_view vs) ≡ None
pair_none [] h = refl
pair_none (v ∷ []) h = without_second (type_in (view v))
pair_none (v ∷ w ∷ []) h = absurd (h refl)
pair_none (v ∷ w ∷ x ∷ vs) h = without_second (type_in (view v))

pub named_none : (vs : List Value) → length vs ≢ 2 → named_listed (items_view vs) ≡ None
named_none [] h = refl
named_none (v ∷ []) h = without_second (as_str (view v))
named_none (v ∷ w ∷ []) h = absurd (h refl)
named_none (v ∷ w ∷ x ∷ vs) h = without_second (as_str (view v))

pub tagged_none : (vs : List Value) → length vs ≢ 3 → tagged_listed (items_view vs) ≡ None
tagged_none [] h = refl
tagged_none (v ∷ []) h = without_second (tag_spelled (view v))
tagged_none (v ∷ w ∷ []) h = ap (both (tag_spelled (view v))) (without_second (as_str (view w))) ∙ without_second (tag_spelled (view v))
tagged_none (v ∷ w ∷ x ∷ []) h = absurd (h refl)
tagged_none (v ∷ w ∷ x ∷ y ∷ vs) h = ap (both (tag_spelled (view v))) (without_second (as_str (view w))) ∙ without_second (tag_spelled (view v))

-- the named and the tagged types of a list are those that its items spell
pub fields_read : (ds : Items) → fields_listed ds ≡ all_read named_in ds
fields_read no_items = refl
fields_read (item d ds) = ap (first_of (named_in d)) (fields_read ds)

pub variants_read : (ds : Items) → variants_listed ds ≡ all_read tagged_in ds
variants_read no_items = refl
variants_read (item d ds) = ap (first_of (tagged_in d)) (variants_read ds)

-- the parts under a key are those that the value there spells
abbrev parts_found : Option Data → Parts
parts_found None = no_parts
parts_found (Some d) = parts_in d

found_by : (o : Ordering) (d : Data) (t : Parts) (found : Option Data) → t ≡ parts_found found
    → match_ordering o t (parts_in d) t ≡ parts_found (match_ordering o found (Some d) found)
found_by Less d t found p = p
found_by Equal d t found p = refl
found_by Greater d t found p = p

parts_under-get : (k : List ℕ) (ms : Members) → parts_under k ms ≡ parts_found (get_member k ms)
parts_under-get k no_members = refl
parts_under-get k (member l d ms) = found_by (slice_cmp nat_cmp k l) d (parts_under k ms) (get_member k ms) (parts_under-get k ms)

abbrev listed : {A : Type 0} → (Items → Option A) → Option Data → Option A
listed of_items found = option_and_then of_items (option_and_then as_array found)

-- and each part is what the reader looks for
found_parts : (found : Option Data) → parts_found found ≡ record {
  element = option_and_then type_in found;
  pair = listed pair_listed found;
  named = listed named_listed found;
  tagged = listed tagged_listed found;
  fields = listed fields_listed found;
  variants = listed variants_listed found;
}
found_parts None = refl
found_parts (Some (array ds)) = refl
found_parts (Some _) = refl

-- the type that a value spells: a text names it, and an object spells it by what stands under its keys
abbrev pub type_by : Option (List ℕ) → Data → Option DataType
type_by (Some text) d = type_spelled text
type_by None d = object_type_spelled d

pub spelled_type : (d : Data) → type_in d ≡ type_by (as_str d) d
spelled_type (object ms) = λ i. object_type (object ms) (λ k. (parts_under-get k ms ∙ found_parts (get_member k ms)) i)
spelled_type _ = refl

-- an object with a map's key, and none of those in front of it
pub map_form : (d : Data) → is_some (get (codes "decimal") d) ≡ false → is_some (get (codes "list") d) ≡ false → is_some (get (codes "fsl") d) ≡ false
    → is_some (get (codes "map") d) ≡ true → object_type_spelled d ≡ map_type_spelled d (listed_at pair_listed (codes "map") d)
map_form d a b c e = rw (a, b, c, e) refl

-- the fields of the program are those that are named, and its variants those that are tagged
pub fields_same : (fs : List Field) → fields_named (map named_of fs) ≡ fields_of fs
fields_same [] = refl
fields_same (f ∷ fs) = ap (field f.name (type_of f.dtype)) (fields_same fs)

pub variants_same : (vs : List UnionVariant) → variants_tagged (map tagged_of vs) ≡ variants_of vs
variants_same [] = refl
variants_same (v ∷ vs) = ap (alternative v.tag v.name (type_of v.dtype)) (variants_same vs)

-- a test that doesn't fail
pub true_unless : (b : Bool) → (b ≡ false → ⊥) → b ≡ true
true_unless true h = refl
true_unless false h = absurd (h refl)
