-- The text of the rows so far.
use Rattle.std.proofs.Common.{◌≡◌, ℕ, ◌<◌, ◌≤◌, false, true, List, [], ◌∷◌, ◌++◌, length, zero, suc, subst, take, map, slice_get, Some, refl, sym, ◌∙◌, ap, append_assoc, arith, flat_map, inl, inr}
use Rattle.std.specs.Prelude.{codes, Bool}
use Rattle.std.proofs.lemmas.Grind.{common_steps, flat_map-append}
use Rattle.vx_value.specs.Types.{DataType}
use Rattle.vx_value.specs.Values.{Value, null}
use Rattle.vx_value.specs.Typed.{Typed}
use Rattle.vx_value.specs.Nullabilities.{with_nullability}
use Rattle.vx_value.specs.Storage.{has_parts, is_nested}
use Rattle.vx_value.specs.declared.dtype.Nullability.{Nullability}
use Rattle.vx_value.specs.declared.dtype.Storage.{Storage}
use Rattle.vx_value.specs.declared.dtype.Storage.TheVariants.{Text}
use Rattle.vx_value.specs.declared.error.VortexError.{VortexError}
use Rattle.vx_value.specs.declared.id.Id.{Id}
use Rattle.vx_value.specs.Cell.{Cell, value, fault}
use Rattle.vx_tree.specs.Cells.{rows}
use Rattle.vx_json.specs.RowText.{row_text}
use Rattle.vx_tree.specs.ColumnTypes.{bytes_type}
use Rattle.vx_tree.specs.Tree.{Tree, dtype, len}
use Rattle.vx_tree.specs.Canonicals.{columnar_tree}
use Rattle.vx_tree.specs.declared.canonical.columnar.Columnar.{Columnar}
use Rattle.vx_tree.proofs.CellsLemmas.{no_fault_at}
use Rattle.vx_column.specs.Arguments.{IsArgument, IsSized, AreStored, cell_at, value_at, type_of_rows, type_of_argument, IsUnread as IsNotRead}
use Rattle.vx_column.specs.Read.{IsUnreadRow}
use Rattle.vx_column.specs.ValidRows.{is_valid, nullability_in, null_unless}
use Rattle.vx_column.specs.declared.rows.argument.Argument.{Argument}
use Rattle.vx_column.specs.declared.rows.argument.ArgumentRows.{ArgumentRows}
use Rattle.vx_column.specs.declared.rows.argument.ArgumentRows.TheVariants as stored
use Rattle.std.proofs.lemmas.Option.{slice_get-get_or}
use Rattle.vx_json.specs.Output.{AddsRows, Shows, IsUnread, head_lines, line}
use Rattle.vx_json.specs.Lines.{unless_null, row_text_at, row_lines}
use Rattle.vx_json.proofs.RowTextLemmas.{plain_row}

-- the lines of the type and of the encoding, as they are appended
head_of : (h ty e id n : List ℕ) → (((h ++ ty) ++ 10 ∷ e) ++ id) ++ n ≡ ((h ++ ty) ++ 10 ∷ []) ++ ((e ++ id) ++ n)
head_of h ty e id n =
    append_assoc ((h ++ ty) ++ 10 ∷ e) id n ∙ append_assoc (h ++ ty) (10 ∷ e) (id ++ n)
    ∙ ap (λ l. (h ++ ty) ++ 10 ∷ l) (sym (append_assoc e id n)) ∙ sym (append_assoc (h ++ ty) (10 ∷ []) ((e ++ id) ++ n))

pub head_pushed : (ty id t i s₀ s₁ s₂ s₃ s₄ : List ℕ) → s₀ ≡ codes "type " → t ≡ ty → s₁ ≡ s₀ ++ t → s₂ ≡ s₁ ++ 10 ∷ codes "encoding "
    → i ≡ id → s₃ ≡ s₂ ++ i → s₄ ≡ s₃ ++ 10 ∷ [] → s₄ ≡ line (codes "type " ++ ty) ++ line (codes "encoding " ++ id)
head_pushed ty id t i s₀ s₁ s₂ s₃ s₄ h₀ h h₁ h₂ k h₃ h₄ =
    h₄ ∙ ap (λ l. l ++ 10 ∷ []) (h₃ ∙ (λ j. (h₂ ∙ ap (λ l. l ++ 10 ∷ codes "encoding ") (h₁ ∙ (λ j. h₀ j ++ h j))) j ++ k j))
    ∙ head_of (codes "type ") ty (codes "encoding ") id (10 ∷ [])

append_none : (xs : List ℕ) → xs ++ [] ≡ xs
append_none [] = refl
append_none (x ∷ xs) = ap (λ l. x ∷ l) (append_none xs)

-- before the first row nothing is added
pub adds_none : (ty : DataType) (text : List ℕ) → AddsRows ty [] text text
adds_none ty text = record { values = []; own = refl; printed = sym (append_none text) }

take_suc : (cs : List Cell) (i : ℕ) (c : Cell) → slice_get cs i ≡ Some c → take (suc i) cs ≡ take i cs ++ c ∷ []
take_suc [] i c e = absurd (cc)
take_suc (d ∷ cs) zero c e = ap (λ z. z ∷ []) (cc)
take_suc (d ∷ cs) (suc i) c e = ap (λ l. d ∷ l) (take_suc cs i c e)

map_more : (vs : List Value) (v : Value) → map value (vs ++ v ∷ []) ≡ map value vs ++ value v ∷ []
map_more [] v = refl
map_more (w ∷ vs) v = ap (λ cs. value w ∷ cs) (map_more vs v)

lines_more : (f : Value → List ℕ) (h : List ℕ) (vs : List Value) (v : Value) → (h ++ flat_map f vs) ++ f v ≡ h ++ flat_map f (vs ++ v ∷ [])
lines_more f h vs v = append_assoc h (flat_map f vs) (f v) ∙ ap (λ l. h ++ l)
    (ap (λ l. flat_map f vs ++ l) (sym (append_none (f v))) ∙ sym (flat_map-append f vs (v ∷ [])))

-- a further row has its line
pub adds_more : (ty : DataType) (cs : List Cell) (i : ℕ) (v : Value) (old text longer : List ℕ) → AddsRows ty (take i cs) old text
    → slice_get cs i ≡ Some (value v) → longer ≡ text ++ line (row_text ty v) → AddsRows ty (take (suc i) cs) old longer
adds_more ty cs i v old text longer s e j = record {
  values = s.values ++ v ∷ [];
  own = take_suc cs i (value v) e ∙ ap (λ l. l ++ value v ∷ []) s.own ∙ sym (map_more s.values v);
  printed = j ∙ ap (λ l. l ++ line (row_text ty v)) s.printed ∙ lines_more (λ w. line (row_text ty w)) old s.values v;
}

-- all rows are added
pub adds_all : (ty : DataType) (cs : List Cell) (i : ℕ) (old text : List ℕ) → AddsRows ty (take i cs) old text → length cs ≤ i → AddsRows ty cs old text
adds_all ty cs i old text s h = let e : take i cs ≡ cs = grind (arith, common_steps) in subst (λ l. AddsRows ty l old text) e s

-- behind the lines of the type and of the encoding they show the column
pub shows : (ty : DataType) (id : Id) (cs : List Cell) (text : List ℕ) → AddsRows ty cs (head_lines ty id) text → Shows ty id cs text
shows ty id cs text s = record { values = s.values; own = s.own; printed = s.printed }

-- rows that aren't read
pub column_unread : (t : Tree) (e : VortexError) → IsNotRead t e → IsUnread t e
column_unread t e (inl m) = inl m
column_unread t e (inr f) = inr (f.0, λ whole. no_fault_at (rows t) f.1 whole f.3)

-- the type of an argument isn't nested
bytes_unnested : (m : Nullability) (s : Storage) → is_nested (with_nullability m (bytes_type s)) ≡ false
bytes_unnested m Text = refl
bytes_unnested m _ = refl

stored_unnested : (m : Nullability) (r : ArgumentRows) (n : ℕ) → AreStored m r n → is_nested (type_of_rows m r) ≡ false
stored_unnested m stored.Nulls n h = refl
stored_unnested m (stored.Bits bs) n h = refl
stored_unnested m (stored.Integers zs) n h = ap has_parts h.0.3
stored_unnested m (stored.Decimals ds) n h = refl
stored_unnested m (stored.Bytes bs) n h = bytes_unnested m bs.storage

pub argument_unnested : (a : Argument) (n : ℕ) → IsSized n a → is_nested (type_of_argument a) ≡ false
argument_unnested a n h = stored_unnested (nullability_in a.valid) a.rows n h.0

-- each of its cells is a value, with its text
value_opened : (a : Argument) (i : ℕ) → is_nested (type_of_argument a) ≡ false
    → (v : Value) × (value v ≡ cell_at a i) × (row_text (type_of_argument a) v ≡ unless_null (is_valid a.valid i) (row_text_at a i))
value_opened a i plain = by_validity (is_valid a.valid i)
  where
    by_validity : (b : Bool)
        → (v : Value) × (value v ≡ null_unless b (value (value_at a.rows i))) × (row_text (type_of_argument a) v ≡ unless_null b (row_text_at a i))
    by_validity true = (value_at a.rows i, refl, plain_row (type_of_argument a) (value_at a.rows i) plain)
    by_validity false = (null, refl, plain_row (type_of_argument a) null plain)

-- so the text of a row that is read is that of its cell
pub scalar_text : (a : Argument) (i : ℕ) (s : Typed) → is_nested (type_of_argument a) ≡ false → value s.value ≡ cell_at a i → s.of_type ≡ type_of_argument a
    → row_text s.of_type s.value ≡ unless_null (is_valid a.valid i) (row_text_at a i)
scalar_text a i s plain read typed =
    let found = value_opened a i plain in
    let cells : value s.value ≡ value found.0 = read ∙ sym found.1 in
    let same : s.value ≡ found.0 = cc (cells) in
    (λ j. row_text (typed j) (same j)) ∙ found.2

-- the lines of the first n rows of an argument are added
adds_lines : (ty : DataType) (cs : List Cell) (a : Argument) (n : ℕ) (old : List ℕ) → ty ≡ type_of_argument a → is_nested (type_of_argument a) ≡ false
    → ((i : ℕ) → i < n → slice_get cs i ≡ Some (cell_at a i)) → AddsRows ty (take n cs) old (old ++ row_lines a n)
adds_lines ty cs a zero old e plain h = subst (AddsRows ty [] old) (sym (append_none old)) (adds_none ty old)
adds_lines ty cs a (suc n) old e plain h =
    let found = value_opened a n plain in
    let shown = sym (ap (λ y. row_text y found.0) e ∙ found.2) in
    let longer = sym (append_assoc old (row_lines a n) _) ∙ ap (λ t. (old ++ row_lines a n) ++ line t) shown in
    adds_more ty cs n found.0 old _ _ (adds_lines ty cs a n old e plain (λ i lt. h i (omega (arith, lt)))) (h n (omega arith) ∙ ap Some (sym found.1)) longer

-- those of all rows are those of the column
pub adds_column : (c : Columnar) (a : Argument) (n : ℕ) (old text : List ℕ) → IsArgument c a → length (rows (columnar_tree c)) ≡ len (columnar_tree c)
    → n ≡ len (columnar_tree c) → text ≡ old ++ row_lines a n → AddsRows (dtype (columnar_tree c)) (rows (columnar_tree c)) old text
adds_column c a n old text is counted end e =
    let t = columnar_tree c in
    let plain = argument_unnested a (len t) is.sized in
    let added = adds_lines (dtype t) (rows t) a n old is.typed plain
    (λ i lt. slice_get-get_or (rows t) i fault (omega (arith, counted, end, lt)) ∙ ap Some (is.shown i (omega (arith, end, lt)))) in
    subst (AddsRows (dtype t) (rows t) old) (sym e) (adds_all (dtype t) (rows t) n old (old ++ row_lines a n) added (omega (arith, counted, end)))

-- a row that isn't read
pub row_unread : (t : Tree) (i : ℕ) (e : VortexError) → IsUnreadRow t i e → IsUnread t e
row_unread t i e (inl m) = inl m
row_unread t i e (inr f) = inr (f.0, λ whole. no_fault_at (rows t) i whole f.1)
