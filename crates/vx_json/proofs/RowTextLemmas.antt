-- The text of a row of text, and of one of a nested type.
use Rattle.std.proofs.Common.{◌≡◌, ◌≢◌, ℕ, ◌+◌, ◌<◌, List, [], ◌∷◌, ◌++◌, length, drop, Bool, true, false, Option, Some, None, option_copied, refl, sym, ap, ◌∙◌, append_assoc, arith, lt-ltb, Bor}
use Rattle.std.proofs.Math.ListN.{get_or}
use Rattle.std.proofs.lemmas.List.{drop_more}
use Rattle.std.proofs.lemmas.Bool.{false≢true}
use Rattle.std.specs.Prelude.{◌||◌, ◌==◌, nat_lt}
use Rattle.std.specs.Cmp.{first_so, second_so}
use Rattle.std.specs.List.{list_any}
use Rattle.std.specs.Cmp.{unsigned_Decides}
use Rattle.json.specs.Print.{escape_letter, escape_byte, escape}
use Rattle.serde_json.specs.Data.{string}
use Rattle.serde_json.specs.Written.{comma_if, compact_text}
use Rattle.vx_value.specs.Types as type
use Rattle.vx_value.specs.Types.{DataType}
use Rattle.vx_value.specs.Values as value
use Rattle.vx_value.specs.Values.{Value}
use Rattle.vx_value.specs.IsOf.{is_of, all_of}
use Rattle.vx_value.specs.Nested.{bare, entry_type}
use Rattle.vx_value.specs.Storage.{is_nested}
use Rattle.vx_value.specs.View.{type_of, fields_of, cell_of, cell_seen, values_of}
use Rattle.vx_value.specs.declared.nested.Field.{Field}
use Rattle.vx_value.specs.declared.scalar.ScalarValue.{ScalarValue}
use Rattle.vx_json.specs.RowText.{has_escape, in_quotes, plain_text, field_text, items_text, entries_text, entry_text, fields_text, text_of, row_text}

none_first : (a b : Bool) → (a || b) ≡ false → a ≡ false
none_first false b h = refl
none_first true b h = absurd (cc)

none_second : (a b : Bool) → (a || b) ≡ false → b ≡ false
none_second false b h = h
none_second true b h = absurd (cc)

-- a byte that is no control character is none of these
no_control : (x k : ℕ) → nat_lt x 32 ≡ false → nat_lt k 32 ≡ true → (x == k) ≡ false
no_control x k h below = by_test (x == k) refl
  where
    by_test : (b : Bool) → (x == k) ≡ b → b ≡ false
    by_test false e = refl
    by_test true e =
        let same : x ≡ k = (unsigned_Decides x k).0 e in
        let no : false ≡ true = sym h ∙ ap (λ y. nat_lt y 32) same ∙ below in
        absurd (cc no)

-- what a byte without an escape isn't
not_escaped : (x : ℕ) → has_escape x ≡ false → (nat_lt x 32 ≡ false) × ((x == 34) ≡ false) × ((x == 92) ≡ false)
not_escaped x h =
    let either = none_first (nat_lt x 32 || (x == 34)) (x == 92) h in
    (none_first (nat_lt x 32) (x == 34) either, none_second (nat_lt x 32) (x == 34) either, none_second (nat_lt x 32 || (x == 34)) (x == 92) h)

no_letter : (x : ℕ) → has_escape x ≡ false → escape_letter x ≡ 0
no_letter x h =
    let n = not_escaped x h in
    rw (n.1, n.2, no_control x 8 n.0 refl, no_control x 12 n.0 refl, no_control x 10 n.0 refl, no_control x 13 n.0 refl, no_control x 9 n.0 refl) refl

kept_byte : (x : ℕ) → has_escape x ≡ false → escape_byte x ≡ x ∷ []
unfolding escape_byte
kept_byte x h = rw (no_letter x h, (not_escaped x h).0) refl

kept_bytes : (bs : List ℕ) → list_any has_escape bs ≡ false → escape bs ≡ bs
kept_bytes [] h = refl
kept_bytes (x ∷ bs) h =
    let first : has_escape x ≡ false = none_first (has_escape x) (list_any has_escape bs) h in
    let rest : list_any has_escape bs ≡ false = none_second (has_escape x) (list_any has_escape bs) h in
    (λ i. kept_byte x first i ++ kept_bytes bs rest i)

-- a text without an escape stands as it is between quotation marks
pub plain_quoted : (bs : List ℕ) → list_any has_escape bs ≡ false → in_quotes bs ≡ compact_text (string bs)
plain_quoted bs h = ap (λ l. 34 ∷ (l ++ 34 ∷ [])) (sym (kept_bytes bs h))

-- ---- rows of nested types

-- the text of a row of a type that isn't nested
pub plain_row : (t : DataType) (v : Value) → is_nested t ≡ false → row_text t v ≡ plain_text t v
plain_row type.null v h = refl
plain_row (type.bool n) v h = refl
plain_row (type.primitive p n) v h = refl
plain_row (type.decimal p s n) v h = refl
plain_row (type.utf8 n) v h = refl
plain_row (type.binary n) v h = refl
plain_row _ v h = absurd (false≢true (sym h))

-- null has one text
null_text : (t : DataType) → text_of t value.null ≡ plain_text t value.null
null_text type.null = refl
null_text _ = refl

pub null_row : (t : DataType) → row_text t value.null ≡ plain_text t value.null
null_row t = null_text (bare t)

-- an entry of a map has two parts, of the types of the keys and of the values
pub pair_typed : (k t : DataType) (a b : Option ScalarValue) → is_of (entry_type k t) (value.fields (values_of (a ∷ b ∷ []))) ≡ true
    → (is_of k (cell_of a) ≡ true) × (is_of t (cell_of b) ≡ true)
pair_typed k t a b h = (first_so _ _ h, first_so _ _ (second_so (is_of k (cell_of a)) _ h))

pub no_pair : (k t : DataType) (vs : List (Option ScalarValue)) → length vs ≢ 2 → is_of (entry_type k t) (value.fields (values_of vs)) ≡ true → ⊥
no_pair k t [] n h = false≢true h
no_pair k t (a ∷ []) n h = false≢true (second_so (is_of k (cell_of a)) false h)
no_pair k t (a ∷ b ∷ []) n h = n refl
no_pair k t (a ∷ b ∷ c ∷ vs) n h = false≢true (second_so (is_of t (cell_of b)) false (second_so (is_of k (cell_of a)) _ h))

-- what a borrowed value is
pub seen_copied : (o : Option (Bor ScalarValue)) → cell_seen o ≡ cell_of (option_copied o)
seen_copied None = refl
seen_copied (Some v) = refl

-- the text of a field ends with that of its value
text_last : (later : Bool) (name text : List ℕ) → field_text later name text ≡ field_text later name [] ++ text
text_last later name text =
    ap (λ l. comma_if later ++ l) (sym (append_assoc (compact_text (string name)) (58 ∷ []) text))
    ∙ sym (append_assoc (comma_if later) (compact_text (string name) ++ 58 ∷ []) text)

-- the fields from a place on: the one there, and those behind it
texts_at : (later : Bool) (fs : List Field) (vs : List (Option ScalarValue)) (i : ℕ) (f : Field) (v : Option ScalarValue) → i < length fs → i < length vs
    → fields_text later (fields_of (drop i fs)) (values_of (drop i vs))
    ≡ field_text later (get_or fs i f).name (row_text (type_of (get_or fs i f).dtype) (cell_of (get_or vs i v)))
    ++ fields_text true (fields_of (drop (i + 1) fs)) (values_of (drop (i + 1) vs))
texts_at later fs vs i f v p q =
    ap (λ xs. fields_text later (fields_of xs) (values_of (drop i vs))) (drop_more fs i f p)
    ∙ ap (λ ys. fields_text later (fields_of (get_or fs i f ∷ drop (i + 1) fs)) (values_of ys)) (drop_more vs i v q)

-- one more field is appended
pub texts_more : (later : Bool) (fs : List Field) (vs : List (Option ScalarValue)) (i : ℕ) (f : Field) (v : Option ScalarValue) (all text named longer : List ℕ)
    → i < length fs → i < length vs → f ≡ get_or fs i f → v ≡ get_or vs i v
    → all ≡ text ++ fields_text later (fields_of (drop i fs)) (values_of (drop i vs))
    → named ≡ text ++ field_text later f.name [] → longer ≡ named ++ row_text (type_of f.dtype) (cell_of v)
    → all ≡ longer ++ fields_text (nat_lt 0 (i + 1)) (fields_of (drop (i + 1) fs)) (values_of (drop (i + 1) vs))
texts_more later fs vs i f v all text named longer p q isf isv h n l =
    let rest = fields_text true (fields_of (drop (i + 1) fs)) (values_of (drop (i + 1) vs)) in
    let row = row_text (type_of f.dtype) (cell_of v) in
    let here : field_text later (get_or fs i f).name (row_text (type_of (get_or fs i f).dtype) (cell_of (get_or vs i v))) ≡ field_text later f.name [] ++ row =
    (λ j. field_text later (sym isf j).name (row_text (type_of (sym isf j).dtype) (cell_of (sym isv j)))) ∙ text_last later f.name row in
    let joined : longer ≡ text ++ (field_text later f.name [] ++ row) = l ∙ ap (λ t. t ++ row) n ∙ append_assoc text (field_text later f.name []) row in
    h ∙ ap (λ t. text ++ t) (texts_at later fs vs i f v p q ∙ ap (λ t. t ++ rest) here)
    ∙ sym (append_assoc text (field_text later f.name [] ++ row) rest) ∙ ap (λ t. t ++ rest) (sym joined)
    ∙ ap (λ b. longer ++ fields_text b (fields_of (drop (i + 1) fs)) (values_of (drop (i + 1) vs))) (sym (lt-ltb 0 (i + 1) (omega arith)))

-- ---- items of lists, and entries of maps

-- a row is appended behind what stands in front of it
joined : (all text front row rest named longer : List ℕ) → all ≡ text ++ (front ++ (row ++ rest)) → named ≡ text ++ front → longer ≡ named ++ row
    → all ≡ longer ++ rest
joined all text front row rest named longer h n l =
    h ∙ sym (append_assoc text front (row ++ rest)) ∙ ap (λ t. t ++ (row ++ rest)) (sym n) ∙ sym (append_assoc named row rest) ∙ ap (λ t. t ++ rest) (sym l)

module _ (later : Bool) (vs : List (Option ScalarValue)) (i : ℕ) (v : Option ScalarValue) (all text named longer : List ℕ) (p : i < length vs) (is : v ≡ get_or vs i v)
    (n : named ≡ text ++ comma_if later) where
  -- one more item is appended
  pub items_more : (t : DataType) → all ≡ text ++ items_text later t (values_of (drop i vs)) → longer ≡ named ++ row_text t (cell_of v)
      → all ≡ longer ++ items_text (nat_lt 0 (i + 1)) t (values_of (drop (i + 1) vs))
  items_more t h l =
      joined all text (comma_if later) (row_text t (cell_of v)) (items_text true t (values_of (drop (i + 1) vs))) named longer
      (h ∙ ap (λ ws. text ++ items_text later t (values_of ws)) (drop_more vs i v p)
      ∙ ap (λ w. text ++ (comma_if later ++ (row_text t (cell_of w) ++ items_text true t (values_of (drop (i + 1) vs))))) (sym is)) n l
      ∙ ap (λ b. longer ++ items_text b t (values_of (drop (i + 1) vs))) (sym (lt-ltb 0 (i + 1) (omega arith)))

  -- one more entry is
  pub entries_more : (k t : DataType) → all ≡ text ++ entries_text later k t (values_of (drop i vs)) → longer ≡ named ++ entry_text k t (cell_of v)
      → all ≡ longer ++ entries_text (nat_lt 0 (i + 1)) k t (values_of (drop (i + 1) vs))
  entries_more k t h l =
      joined all text (comma_if later) (entry_text k t (cell_of v)) (entries_text true k t (values_of (drop (i + 1) vs))) named longer
      (h ∙ ap (λ ws. text ++ entries_text later k t (values_of ws)) (drop_more vs i v p)
      ∙ ap (λ w. text ++ (comma_if later ++ (entry_text k t (cell_of w) ++ entries_text true k t (values_of (drop (i + 1) vs))))) (sym is)) n l
      ∙ ap (λ b. longer ++ entries_text b k t (values_of (drop (i + 1) vs))) (sym (lt-ltb 0 (i + 1) (omega arith)))

-- the value at a place is of the type of the items, and so are those after it
pub item_typed : (t : DataType) (vs : List (Option ScalarValue)) (i : ℕ) (v : Option ScalarValue) → i < length vs → all_of t (values_of (drop i vs)) ≡ true
    → (is_of t (cell_of (get_or vs i v)) ≡ true) × (all_of t (values_of (drop (i + 1) vs)) ≡ true)
item_typed t vs i v p h =
    let both = sym (ap (λ ws. all_of t (values_of ws)) (drop_more vs i v p)) ∙ h in (
      first_so (is_of t (cell_of (get_or vs i v))) (all_of t (values_of (drop (i + 1) vs))) both,
      second_so (is_of t (cell_of (get_or vs i v))) (all_of t (values_of (drop (i + 1) vs))) both,
    )
