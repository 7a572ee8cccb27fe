-- Rows of text and of bytes: what makes them values that are stored so.
use Rattle.std.proofs.Common.{◌≡◌, ◌<◌, ℕ, true, List, [], ◌∷◌, length, map, get_or, refl, ap, sym, subst, ◌∙◌}
use Rattle.std.specs.Prelude.{Some, slice_get, option_map}
use Rattle.std.specs.Cmp.{first_so}
use Rattle.std.specs.List.{list_all, range_with_len}
use Rattle.std.specs.Str.{is_utf8}
use Rattle.std.proofs.lemmas.Bool.{and_from}
use Rattle.std.proofs.lemmas.List.{length-map}
use Rattle.std.proofs.lemmas.List.FromFn.{length-map-range_with_len}
use Rattle.std.proofs.lemmas.Option.{slice_get-map}
use Rattle.std.proofs.lemmas.Simd.{map-map}
use Rattle.vx_value.specs.Values.{bytes}
use Rattle.vx_value.specs.Cell.{Cell, value}
use Rattle.vx_value.specs.declared.dtype.Storage.{Storage}
use Rattle.vx_value.specs.declared.dtype.Storage.TheVariants.{Text}
use Rattle.vx_tree.specs.ColumnTypes.{are_bytes_of}
use Rattle.vx_tree.specs.Views.{ViewedRows, rows_of}
use Rattle.vx_tree.specs.Views.{bytes_at as viewed_at}
use Rattle.vx_column.specs.Arguments.{bytes_at, HasBytes}
use Rattle.vx_column.specs.declared.rows.argument.BytesRows.{BytesRows}
use Rattle.vx_column.specs.declared.rows.argument.BytesRows.TheVariants as bytes_rows
use Rattle.vx_column.proofs.PassedLemmas.{all_passed, passed_at}

-- rows that are made one by one
pub rows_stored : (st : Storage) (f : ℕ → List ℕ) (rs : List (List ℕ)) (n : ℕ) → rs ≡ map f (range_with_len 0 n)
    → ((i : ℕ) → i < n → are_bytes_of st (f i ∷ []) ≡ true) → are_bytes_of st rs ≡ true
rows_stored Text f rs n made each = all_passed is_utf8 f rs n made (λ i lt. first_so (is_utf8 (f i)) _ (each i lt))
rows_stored _ f rs n made each = refl

pub text_at : (rs : List (List ℕ)) (i : ℕ) → list_all is_utf8 rs ≡ true → i < length rs → are_bytes_of Text (get_or rs i [] ∷ []) ≡ true
text_at rs i h lt = and_from (is_utf8 (get_or rs i [])) true (passed_at is_utf8 [] rs i h lt) refl

pub row_stored : (st : Storage) (r : BytesRows) (n i : ℕ) → HasBytes st r n → i < n → are_bytes_of st (bytes_at r i ∷ []) ≡ true
row_stored st (bytes_rows.Value bs) n i h lt = h
row_stored Text (bytes_rows.Rows rs) n i h lt = text_at (rows_of rs.now) i h.1 (subst (λ k. i < k) (sym (length-map rs.now.views (viewed_at rs.now.buffers) ∙ h.0)) lt)
row_stored _ (bytes_rows.Rows rs) n i h lt = refl

-- there are as many views as rows
pub views_counted : (rs : ViewedRows) (f : ℕ → List ℕ) (n : ℕ) → rows_of rs ≡ map f (range_with_len 0 n) → length rs.views ≡ n
views_counted rs f n are = sym (length-map rs.views (viewed_at rs.buffers)) ∙ ap length are ∙ length-map-range_with_len f 0 n

-- a row is the cell of its view
pub stored_row : (rs : ViewedRows) (i : ℕ) (r : List ℕ) → slice_get (rows_of rs) i ≡ Some r
    → slice_get (map (λ v. value (bytes (viewed_at rs.buffers v))) rs.views) i ≡ Some (value (bytes r))
stored_row rs i r is =
    let cell : List ℕ → Cell = λ x. value (bytes x) in
    ap (λ l. slice_get l i) (sym (map-map cell (viewed_at rs.buffers) rs.views)) ∙ slice_get-map cell (rows_of rs) i ∙ ap (option_map cell) is
