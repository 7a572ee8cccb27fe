-- Values that are read part by part.
use Rattle.std.proofs.Common.{◌≡◌, ◌≢◌, ◌⊎◌, ℕ, ◌+◌, ◌<◌, ◌≤◌, Bool, true, false, List, [], ◌∷◌, ◌++◌, length, map, drop, Option, Some, None, refl, sym, ap, ◌∙◌, inl, inr}
use Rattle.std.proofs.Math.ListN.{get_or}
use Rattle.std.proofs.lemmas.List.{drop_more, drop_all}
use Rattle.std.specs.Ordering.{nat_cmp}
use Rattle.std.specs.Cmp.Lexicographic.{slice_cmp}
use Rattle.std.specs.Prelude.{◌&&◌, if◌then◌else◌, is_some, is_none, option_map, option_and_then}
use Rattle.serde_json.specs.Data as json
use Rattle.serde_json.specs.Data.{Data, Items, no_items, item, Members, no_members, member}
use Rattle.serde_json.specs.Find.{get_member, as_array, as_object}
use Rattle.serde_json.specs.View.{view, items_view}
use Rattle.serde_json.specs.declared.value.Value.{Value as Json}
use Rattle.vx_value.specs.Types.{DataType, Variants}
use Rattle.vx_value.specs.Errors.{IsOverflow}
use Rattle.vx_value.specs.Fits.{list_overflow}
use Rattle.vx_value.specs.IsOf.{is_of}
use Rattle.vx_value.specs.Nested.{bare, tag_type}
use Rattle.vx_value.specs.Values.{Value, Values, tagged, no_values, item as value_item}
use Rattle.vx_value.specs.Typed.{Typed}
use Rattle.vx_value.specs.View.{type_of, fields_of, cell_of, values_of}
use Rattle.vx_value.specs.declared.error.ArgKind.TheVariants.{BadValue}
use Rattle.vx_value.specs.declared.error.VortexError.{VortexError}
use Rattle.vx_value.specs.declared.error.VortexError.TheVariants.{InvalidArgument}
use Rattle.vx_value.specs.declared.nested.Field.{Field}
use Rattle.vx_value.specs.declared.scalar.ScalarValue.{ScalarValue}
use Rattle.vx_value.proofs.ValuesLemmas.{prepend, prepend_one, prepend_none}
use Rattle.vx_json.specs.SpelledNodes.Constant.{scalar_of}
use Rattle.vx_json.specs.SpelledTypes.{tag_spelled}
use Rattle.vx_json.specs.SpelledValues.{plain_spelled, value_first, entry_with, tagged_with, object_spelled, fields_spelled, value_in, items_in, entry_in, entries_in, entry_listed, chosen_in, value_under, value_at, array_in, object_in, if_sound, typed_as, all_read}
use Rattle.vx_json.proofs.UnderKeysLemmas.{under_by}

-- ---- what a value spells, by its form

-- the value under a key is the one that is spelled there
value_under-get : (k : List ℕ) (t : DataType) (ms : Members) → value_under k t ms ≡ option_and_then (value_in t) (get_member k ms)
value_under-get k t no_members = refl
value_under-get k t (member l d ms) =
    under_by (value_in t) (slice_cmp nat_cmp k l) d (value_under k t ms) (get_member k ms) (value_under-get k t ms)

abbrev pub value_by : Option Items → Bool → DataType → Data → Option Value
value_by (Some ds) b t d = array_in t ds
value_by None true t d = object_in t d
value_by None false t d = plain_spelled t d

pub spelled_value : (t : DataType) (d : Data) → value_in t d ≡ value_by (as_array d) (is_some (as_object d)) (bare t) d
spelled_value t (json.array ds) = refl
spelled_value t (json.object ms) = λ i. object_spelled (bare t) (json.object ms) (λ k e. value_under-get k e ms i)
spelled_value t _ = refl

-- lists of another number of items are no entry, and no value of a union
without_value : (o : Option Value) → entry_with o None ≡ None
without_value None = refl
without_value (Some v) = refl

pub entry_none : (k v : DataType) (vs : List Json) → length vs ≢ 2 → entry_listed k v (items_view vs) ≡ None
entry_none k v [] h = refl
entry_none k v (x ∷ []) h = without_value (value_in k (view x))
entry_none k v (x ∷ y ∷ []) h = absurd (h refl)
entry_none k v (x ∷ y ∷ z ∷ vs) h = without_value (value_in k (view x))

none_of : (n : ℕ) (o : Option DataType) → option_map (tagged n) (option_and_then (λ t. None) o) ≡ None
none_of n None = refl
none_of n (Some t) = refl

none_with : (us : Variants) (tag : Option ℕ) → tagged_with us tag (λ t. None) ≡ None
none_with us None = refl
none_with us (Some n) = none_of n (tag_type n us)

pub chosen_none : (us : Variants) (vs : List Json) → length vs ≢ 2 → chosen_in us (items_view vs) ≡ None
chosen_none us [] h = refl
chosen_none us (x ∷ []) h = none_with us (tag_spelled (view x))
chosen_none us (x ∷ y ∷ []) h = absurd (h refl)
chosen_none us (x ∷ y ∷ z ∷ vs) h = none_with us (tag_spelled (view x))

-- ---- the values of a list

abbrev pub valued : List Value → Values
valued [] = no_values
valued (v ∷ vs) = value_item v (valued vs)

pub valued_of : (xs : List (Option ScalarValue)) → values_of xs ≡ valued (map cell_of xs)
valued_of [] = refl
valued_of (x ∷ xs) = ap (value_item (cell_of x)) (valued_of xs)

one_first : (o : Option Value) (rest : Option (List Value))
    → value_first o (option_map valued rest) ≡ option_map valued (option_and_then (λ a. option_map (λ l. a ∷ l) rest) o)
one_first None rest = refl
one_first (Some v) None = refl
one_first (Some v) (Some l) = refl

-- those that its items spell
pub items_read : (t : DataType) (ds : Items) → items_in t ds ≡ option_map valued (all_read (value_in t) ds)
items_read t no_items = refl
items_read t (item d ds) = ap (value_first (value_in t d)) (items_read t ds) ∙ one_first (value_in t d) (all_read (value_in t) ds)

pub entries_read : (k v : DataType) (ds : Items) → entries_in k v ds ≡ option_map valued (all_read (entry_in k v) ds)
entries_read k v no_items = refl
entries_read k v (item d ds) = ap (value_first (entry_in k v d)) (entries_read k v ds) ∙ one_first (entry_in k v d) (all_read (entry_in k v) ds)

-- ---- the values of fields

-- what the fields from a place on spell: the one there, and those behind it
spelled_at : (fs : List Field) (i : ℕ) (f : Field) (d : Data) → i < length fs → f ≡ get_or fs i f
    → fields_spelled (value_at d) (fields_of (drop i fs)) ≡ value_first (value_at d f.name (type_of f.dtype)) (fields_spelled (value_at d) (fields_of (drop (i + 1) fs)))
spelled_at fs i f d h is =
    ap (λ xs. fields_spelled (value_at d) (fields_of xs)) (drop_more fs i f h)
    ∙ ap (λ g. value_first (value_at d g.name (type_of g.dtype)) (fields_spelled (value_at d) (fields_of (drop (i + 1) fs)))) (sym is)

module _ (fs : List Field) (i : ℕ) (f : Field) (d : Data) (done : List (Option ScalarValue)) (h : i < length fs) (is : f ≡ get_or fs i f)
    (so_far : fields_spelled (value_at d) (fields_of fs) ≡ option_map (prepend done) (fields_spelled (value_at d) (fields_of (drop i fs)))) where
  behind : (o : Option Value) → value_at d f.name (type_of f.dtype) ≡ o →
      fields_spelled (value_at d) (fields_of fs) ≡ option_map (prepend done) (value_first o (fields_spelled (value_at d) (fields_of (drop (i + 1) fs))))
  behind o e =
      so_far ∙ ap (option_map (prepend done)) (spelled_at fs i f d h is)
      ∙ ap (λ x. option_map (prepend done) (value_first x (fields_spelled (value_at d) (fields_of (drop (i + 1) fs))))) e

  -- a field that is read goes behind those so far
  pub field_read : (v : Option ScalarValue) (now : List (Option ScalarValue)) → value_at d f.name (type_of f.dtype) ≡ Some (cell_of v) → now ≡ done ++ v ∷ [] →
      fields_spelled (value_at d) (fields_of fs) ≡ option_map (prepend now) (fields_spelled (value_at d) (fields_of (drop (i + 1) fs)))
  field_read v now e same =
      behind (Some (cell_of v)) e ∙ by_rest (fields_spelled (value_at d) (fields_of (drop (i + 1) fs)))
      ∙ ap (λ ss. option_map (prepend ss) (fields_spelled (value_at d) (fields_of (drop (i + 1) fs)))) (sym same)
    where
      by_rest : (o : Option Values) → option_map (prepend done) (option_map (value_item (cell_of v)) o) ≡ option_map (prepend (done ++ v ∷ [])) o
      by_rest None = refl
      by_rest (Some vs) = ap Some (sym (prepend_one done v vs))

  -- with one that isn't, none are
  pub field_unread : value_at d f.name (type_of f.dtype) ≡ None → fields_spelled (value_at d) (fields_of fs) ≡ None
  field_unread e = behind None e

-- past the last, the values are those that were read
pub fields_read : (fs : List Field) (i : ℕ) (d : Data) (done : List (Option ScalarValue)) → length fs ≤ i
    → fields_spelled (value_at d) (fields_of fs) ≡ option_map (prepend done) (fields_spelled (value_at d) (fields_of (drop i fs)))
    → fields_spelled (value_at d) (fields_of fs) ≡ Some (values_of done)
fields_read fs i d done h so_far =
    so_far ∙ ap (λ xs. option_map (prepend done) (fields_spelled (value_at d) (fields_of xs))) (drop_all i fs h) ∙ ap Some (prepend_none done)

-- ---- values that are of their types

pub sound : (t : DataType) (v : Value) → (is_of t v ≡ true) × (list_overflow t v ≡ None) → if_sound t v ≡ Some v
sound t v h = λ i. if h.0 i && is_none (h.1 i) then Some v else None

unfit : (t : DataType) (v : Value) (e : VortexError) (o : Option (ℕ × ℕ)) → IsOverflow e o → (if true && is_none o then Some v else None) ≡ None
unfit t v e None h = absurd h
unfit t v e (Some p) h = refl

pub unsound : (t : DataType) (v : Value) (e : VortexError)
    → ((e ≡ InvalidArgument BadValue) × (is_of t v ≡ false)) ⊎ ((is_of t v ≡ true) × IsOverflow e (list_overflow t v)) → if_sound t v ≡ None
unsound t v e (inl h) = ap (λ b. if b && is_none (list_overflow t v) then Some v else None) h.1
unsound t v e (inr h) = ap (λ b. if b && is_none (list_overflow t v) then Some v else None) h.0 ∙ unfit t v e (list_overflow t v) h.1

-- a scalar that is read, and one that isn't
pub scalar_read : (t : DataType) (d : Data) (v : Value) (s : Typed) → value_in t d ≡ Some v → if_sound t v ≡ Some v → s.of_type ≡ t → s.value ≡ v
    → scalar_of d t ≡ Some s
scalar_read t d v s read good typed is =
    ap (λ o. typed_as t (option_and_then (if_sound t) o)) read ∙ ap (typed_as t) good ∙ (λ i. Some (record { of_type = sym typed i; value = sym is i }))

pub scalar_unread : (t : DataType) (d : Data) (v : Value) → value_in t d ≡ Some v → if_sound t v ≡ None → scalar_of d t ≡ None
scalar_unread t d v read bad = ap (λ o. typed_as t (option_and_then (if_sound t) o)) read ∙ ap (typed_as t) bad
