-- Reading the rows of a list one by one.
use Rattle.std.proofs.Common.{◌≡◌, ℕ, ◌+◌, ◌<◌, ◌≤◌, List, [], ◌∷◌, ◌++◌, length, map, Bool, true, false, ◌&&◌, Option, Some, None, refl, sym, ap, ◌∙◌, slice_index_or}
use Rattle.std.proofs.lemmas.List.{map-append}
use Rattle.std.proofs.lemmas.Option.{same_Some}
use Rattle.std.specs.Prelude.{not, option_map, is_some, if◌then◌else◌}
use Rattle.serde_json.specs.declared.value.Value.{Value}
use Rattle.serde_json.specs.Data.{Data, Items}
use Rattle.serde_json.specs.View.{view, items_view}
use Rattle.vx_value.specs.Types.{is_nullable}
use Rattle.vx_value.specs.declared.dtype.Nullability.{Nullability}
use Rattle.vx_value.specs.declared.dtype.Nullability.TheVariants.{NonNullable, Nullable}
use Rattle.vx_tree.specs.Rows.{item_or}
use Rattle.vx_json.specs.ReadRows.{present_rows, told_more, read_unless, AreRead}
use Rattle.vx_json.specs.SpelledValues.{is_null, or_null, all_read}
use Rattle.vx_json.proofs.RowsLemmas.{items_there}
use Rattle.vx_json.proofs.SpelledValuesLemmas.{IsReadTo, read_one, read_none, read_all, mapped_read}

told_none : (A : Type 0) (m : Nullability) → present_rows {A = A} m [] ≡ []
told_none A NonNullable = refl
told_none A Nullable = refl

told_last : {A : Type 0} (m : Nullability) (rows : List (Option A)) (o : Option A) → present_rows m (rows ++ o ∷ []) ≡ told_more m (present_rows m rows) (is_some o)
told_last NonNullable rows o = refl
told_last Nullable rows o = map-append is_some rows (o ∷ [])

unread_yet : {A : Type 0} (o : Option (List A)) → o ≡ option_map (λ l. [] ++ l) o
unread_yet None = refl
unread_yet (Some l) = refl

-- the items in front of a place are read, and give rows of these values
pub record AreReadTo {A : Type 0} (m : Nullability) (zero : A) (read : Data → Option A) (vs : List Value) (i : ℕ) (values : List A)
    (valid : List Bool) : Type 0 where
  pub rows : List (Option A)
  pub so_far : IsReadTo (or_null m read) vs i rows
  pub held : values ≡ map (item_or zero) rows
  pub are_told : valid ≡ present_rows m rows

module _ {A : Type 0} (m : Nullability) (zero : A) (read : Data → Option A) (vs : List Value) where
  pub none_yet : (values : List A) (valid : List Bool) → values ≡ [] → valid ≡ [] → AreReadTo m zero read vs 0 values valid
  none_yet values valid h t =
      record { rows = []; so_far = unread_yet (all_read (or_null m read) (items_view vs)); held = h; are_told = t ∙ sym (told_none A m) }

  -- a row that is null, or whose value is read, goes behind those so far
  pub one_more : (i : ℕ) (values : List A) (valid : List Bool) → AreReadTo m zero read vs i values valid →
      (v : Value) (null : Bool) (a : A) (values' : List A) (valid' : List Bool) →
      i < length vs → v ≡ slice_index_or vs i v → null ≡ (is_nullable m && is_null (view v)) → Some a ≡ read_unless null zero (read (view v)) →
      values' ≡ values ++ a ∷ [] → valid' ≡ told_more m valid (not null) → AreReadTo m zero read vs (i + 1) values' valid'
  one_more i values valid h v null a values' valid' lt at = by_null null
    where
      more : (there : Bool) (o : Option A) → or_null m read (view v) ≡ Some o → there ≡ is_some o → a ≡ item_or zero o → values' ≡ values ++ a ∷ [] →
          valid' ≡ told_more m valid there → AreReadTo m zero read vs (i + 1) values' valid'
      more there o row some item same tells = record {
        rows = h.rows ++ o ∷ [];
        so_far = read_one (or_null m read) vs i h.rows h.so_far v o (h.rows ++ o ∷ []) lt at row refl;
        held = same ∙ (λ j. h.held j ++ item j ∷ []) ∙ sym (map-append (item_or zero) h.rows (o ∷ []));
        are_told = tells ∙ (λ j. told_more m (h.are_told j) (some j)) ∙ sym (told_last m h.rows o);
      }

      by_null : (null : Bool) → null ≡ (is_nullable m && is_null (view v)) → Some a ≡ read_unless null zero (read (view v)) →
          values' ≡ values ++ a ∷ [] → valid' ≡ told_more m valid (not null) → AreReadTo m zero read vs (i + 1) values' valid'
      by_null true is e same tells =
          more false None (ap (λ b. if b then Some None else option_map Some (read (view v))) (sym is)) refl (same_Some _ _ e) same tells
      by_null false is e same tells =
          more true (Some a) (ap (λ b. if b then Some None else option_map Some (read (view v))) (sym is) ∙ ap (option_map Some) (sym e)) refl refl same tells

  -- with one that isn't read, the list isn't
  pub not_read : (i : ℕ) (values : List A) (valid : List Bool) → AreReadTo m zero read vs i values valid → (v : Value) (null : Bool) →
      i < length vs → v ≡ slice_index_or vs i v → null ≡ (is_nullable m && is_null (view v)) → read_unless null zero (read (view v)) ≡ None →
      all_read (or_null m read) (items_view vs) ≡ None
  not_read i values valid h v null lt at = by_null null
    where
      by_null : (null : Bool) → null ≡ (is_nullable m && is_null (view v)) → read_unless null zero (read (view v)) ≡ None →
          all_read (or_null m read) (items_view vs) ≡ None
      by_null true is e = absurd (cc)
      by_null false is e =
          read_none (or_null m read) vs i h.rows h.so_far v lt at
          (ap (λ b. if b then Some None else option_map Some (read (view v))) (sym is) ∙ ap (option_map Some) e)

  -- past the last, they are the rows of the list
  pub past_all : (i : ℕ) (values : List A) (valid : List Bool) → AreReadTo m zero read vs i values valid → length vs ≤ i → (now : List A) → now ≡ values →
      AreRead m zero read (items_view vs) now valid
  past_all i values valid h past now same = record {
    rows = h.rows;
    are_read = read_all (or_null m read) vs i h.rows h.so_far past;
    held = same ∙ h.held;
    are_told = h.are_told;
  }

-- rows of which none may be null are the values
pub none_null : {A : Type 0} (zero : A) (read : Data → Option A) (ds : Items) (values : List A) (valid : List Bool) →
    AreRead NonNullable zero read ds values valid → all_read read ds ≡ Some values
none_null zero read ds values valid h = by_read (all_read read ds) (sym (mapped_read Some read ds) ∙ h.are_read)
  where
    by_read : (o : Option (List _)) → option_map (map Some) o ≡ Some h.rows → o ≡ Some values
    by_read None e = absurd (cc)
    by_read (Some xs) e = ap Some (sym (items_there zero xs) ∙ ap (map (item_or zero)) (same_Some _ _ e) ∙ sym h.held)

-- and as long as one isn't read, neither are the values
module _ {A : Type 0} (read : Data → Option A) (ds : Items) where
  pub none_null_unread : all_read (or_null NonNullable read) ds ≡ None → all_read read ds ≡ None
  none_null_unread h = by_read (all_read read ds) (sym (mapped_read Some read ds) ∙ h)
    where
      by_read : (o : Option (List A)) → option_map (map {B = Option A} Some) o ≡ None → o ≡ None
      by_read None e = refl
      by_read (Some xs) e = absurd (cc)
