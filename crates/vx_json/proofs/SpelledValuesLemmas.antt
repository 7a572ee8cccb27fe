-- Reading a list item by item.
use Rattle.std.proofs.Common.{◌≡◌, ℕ, suc, ◌+◌, ◌<◌, ◌≤◌, List, [], ◌∷◌, ◌++◌, length, map, drop, Bool, true, Option, Some, None, refl, sym, ap, ◌∙◌, append_assoc, append-nil, add-one, drop-cons, slice_index_or}
use Rattle.std.proofs.lemmas.Bool.{and_from}
use Rattle.std.proofs.lemmas.List.{drop_all}
use Rattle.std.proofs.lemmas.Option.{same_Some}
use Rattle.std.specs.List.{list_all}
use Rattle.std.specs.Prelude.{option_map, option_and_then}
use Rattle.serde_json.specs.declared.value.Value.{Value}
use Rattle.serde_json.specs.Data.{Data, Items, no_items, item}
use Rattle.serde_json.specs.View.{view, items_view}
use Rattle.vx_json.specs.SpelledValues.{all_read}

-- a list of which each item is read, and then mapped
pub mapped_read : {A B : Type 0} (f : A → B) (read : Data → Option A) (ds : Items)
    → all_read (λ d. option_map f (read d)) ds ≡ option_map (map f) (all_read read ds)
mapped_read f read no_items = refl
mapped_read f read (item d ds) = by_item (read d) (all_read (λ e. option_map f (read e)) ds) (all_read read ds) (mapped_read f read ds)
  where
    by_item : (o : Option _) (x : Option (List _)) (y : Option (List _)) → x ≡ option_map (map f) y →
        option_and_then (λ b. option_map (λ rest. b ∷ rest) x) (option_map f o) ≡ option_map (map f) (option_and_then (λ a. option_map (λ rest. a ∷ rest) y) o)
    by_item None x y e = refl
    by_item (Some a) x None e = ap (option_map (λ rest. f a ∷ rest)) e
    by_item (Some a) x (Some l) e = ap (option_map (λ rest. f a ∷ rest)) e

-- the items from a place on: the one there, and those behind it
items_from : (vs : List Value) (i : ℕ) (v : Value) → i < length vs → v ≡ slice_index_or vs i v
    → items_view (drop i vs) ≡ item (view v) (items_view (drop (i + 1) vs))
items_from vs i v h p =
    ap items_view (drop-cons vs i v h) ∙ ap (λ u. item (view u) (items_view (drop (suc i) vs))) (sym p)
    ∙ ap (λ k. item (view v) (items_view (drop k vs))) (sym (add-one i))

-- the items in front of a place are read, and give the list
abbrev pub IsReadTo : {A : Type 0} → (Data → Option A) → List Value → ℕ → List A → Type 0
IsReadTo read vs i done = all_read read (items_view vs) ≡ option_map (λ l. done ++ l) (all_read read (items_view (drop i vs)))

module _ {A : Type 0} (read : Data → Option A) (vs : List Value) (i : ℕ) (done : List A) (so_far : IsReadTo read vs i done) where
  one_behind : (v : Value) (o : Option A) → i < length vs → v ≡ slice_index_or vs i v → read (view v) ≡ o →
      all_read read (items_view vs) ≡ option_map (λ l. done ++ l) (option_and_then
      (λ a. option_map (λ rest. a ∷ rest) (all_read read (items_view (drop (i + 1) vs)))) o)
  one_behind v o h p e =
      so_far ∙ ap (λ ds. option_map (λ l. done ++ l) (all_read read ds)) (items_from vs i v h p)
      ∙ ap (λ x. option_map (λ l. done ++ l) (option_and_then (λ a. option_map (λ rest. a ∷ rest) (all_read read (items_view (drop (i + 1) vs)))) x)) e

  -- an item that is read goes behind those so far
  pub read_one : (v : Value) (a : A) (now : List A) → i < length vs → v ≡ slice_index_or vs i v → read (view v) ≡ Some a → now ≡ done ++ a ∷ []
      → IsReadTo read vs (i + 1) now
  read_one v a now h p e same =
      one_behind v (Some a) h p e ∙ by_rest (all_read read (items_view (drop (i + 1) vs)))
      ∙ ap (λ s. option_map (λ l. s ++ l) (all_read read (items_view (drop (i + 1) vs)))) (sym same)
    where
      by_rest : (o : Option (List A)) → option_map (λ l. done ++ l) (option_map (λ rest. a ∷ rest) o) ≡ option_map (λ l. (done ++ a ∷ []) ++ l) o
      by_rest None = refl
      by_rest (Some l) = ap Some (sym (append_assoc done (a ∷ []) l))

  -- with one that isn't, the list isn't
  pub read_none : (v : Value) → i < length vs → v ≡ slice_index_or vs i v → read (view v) ≡ None → all_read read (items_view vs) ≡ None
  read_none v h p e = one_behind v None h p e

  -- past the last, the list is what was read
  pub read_all : length vs ≤ i → all_read read (items_view vs) ≡ Some done
  read_all h = so_far ∙ ap (λ ws. option_map (λ l. done ++ l) (all_read read (items_view ws))) (drop_all i vs h) ∙ ap Some (append-nil done)

-- it gives as many as there are items
pub all_count : {A : Type 0} (read : Data → Option A) (vs : List Value) (xs : List A) → all_read read (items_view vs) ≡ Some xs → length xs ≡ length vs
all_count read [] xs h = ap length (sym (same_Some _ _ h))
all_count read (v ∷ vs) xs h = by_item (read (view v)) (all_read read (items_view vs)) (all_count read vs) h
  where
    by_item : (o : Option _) (rest : Option (List _)) → ((l : List _) → rest ≡ Some l → length l ≡ length vs) →
        option_and_then (λ a. option_map (λ l. a ∷ l) rest) o ≡ Some xs → length xs ≡ suc (length vs)
    by_item None rest more e = absurd (cc)
    by_item (Some a) None more e = absurd (cc)
    by_item (Some a) (Some l) more e = ap length (sym (same_Some _ _ e)) ∙ ap suc (more l refl)

-- what a list gives passes a test that each item passes
pub all_pass : {A : Type 0} (test : A → Bool) (read : Data → Option A) → ((d : Data) (a : A) → read d ≡ Some a → test a ≡ true) →
    (ds : Items) (xs : List A) → all_read read ds ≡ Some xs → list_all test xs ≡ true
all_pass test read each no_items xs h = ap (list_all test) (sym (same_Some _ _ h))
all_pass test read each (item d ds) xs h = by_item (all_pass test read each ds) (read d) (all_read read ds) refl refl h
  where
    by_item : ((l : List _) → all_read read ds ≡ Some l → list_all test l ≡ true) →
        (o : Option _) (rest : Option (List _)) → read d ≡ o → all_read read ds ≡ rest →
        option_and_then (λ a. option_map (λ l. a ∷ l) rest) o ≡ Some xs → list_all test xs ≡ true
    by_item rest_pass None rest one more e = absurd (cc)
    by_item rest_pass (Some a) None one more e = absurd (cc)
    by_item rest_pass (Some a) (Some l) one more e =
        ap (list_all test) (sym (same_Some _ _ e)) ∙ and_from (test a) (list_all test l) (each d a one) (rest_pass l more)
