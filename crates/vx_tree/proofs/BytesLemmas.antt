-- Columns of text and bytes, by how their type's values are stored.
use Rattle.std.proofs.Common.{◌≡◌, ◌↔◌, ℕ, ◌-◌, List, take, drop, slice_range, Bool, true, false, ◌&&◌, IsTrue, Option, length, refl, sym, ap, subst, ◌∙◌, take-append-drop}
use Rattle.std.specs.List.{AllPass, list_all}
use Rattle.std.specs.Str.{is_utf8}
use Rattle.std.proofs.lemmas.List.Sums.{AllPass-from_list_all, list_all-from_AllPass}
use Rattle.std.proofs.lemmas.List.Folds.{list_all-append}
use Rattle.std.specs.Cmp.{first_so, second_so}
use Rattle.std.proofs.lemmas.Bool.{and_from}
use Rattle.vx_value.specs.Types.{DataType, nullability_of}
use Rattle.vx_value.specs.Nullabilities.{with_nullability}
use Rattle.vx_value.specs.Storage.{storage_of}
use Rattle.vx_value.specs.declared.dtype.Nullability.{Nullability}
use Rattle.vx_value.specs.declared.dtype.Storage.{Storage}
use Rattle.vx_value.specs.declared.dtype.Storage.TheVariants.{Text}
use Rattle.vx_value.specs.declared.id.Id.TheVariants.{VarBinView}
use Rattle.vx_tree.specs.ColumnTypes.{bytes_type, are_bytes_of, are_views_of}
use Rattle.vx_tree.specs.Columns.{canonical_id}
use Rattle.vx_tree.specs.Tree.{views}
use Rattle.vx_tree.specs.Views.{ViewedRows, rows_of, lies_in, all_lie_in, AllLieIn, viewed_range}
use Rattle.vx_tree.specs.Well.{Shape, IsFlat, IsNode}
use Rattle.vx_tree.proofs.ViewsLemmas.{rows_part, lie_tested}

-- its encoding, whatever the nullability
pub bytes_columns : (m : Nullability) (s : Storage) → canonical_id (with_nullability m (bytes_type s)) ≡ VarBinView
bytes_columns m Text = refl
bytes_columns m _ = refl

-- a type of text or bytes is told by how it is stored, and so are its rows
bytes_again : (s : Storage) (ty : DataType) (rs : ViewedRows) → ty ≡ with_nullability (nullability_of ty) (bytes_type s)
    → (bytes_type (storage_of ty) ≡ bytes_type s) × (are_views_of (storage_of ty) rs ≡ are_views_of s rs)
bytes_again Text ty rs h = (ap (λ t. bytes_type (storage_of t)) h, ap (λ t. are_views_of (storage_of t) rs) h)
bytes_again _ ty rs h = (ap (λ t. bytes_type (storage_of t)) h, ap (λ t. are_views_of (storage_of t) rs) h)

pub bytes_node : (s : Storage) (rs : ViewedRows) → are_views_of s rs ≡ true
    → (ty : DataType) (n : ℕ) (ss : List (Option Shape)) → IsFlat (bytes_type s) (length rs.views) ty n ss → IsNode ty n (views rs) ss
bytes_node s rs h ty n ss flat =
    let again = bytes_again s ty rs flat.1 in
    (subst (λ r. IsFlat r (length rs.views) ty n ss) (sym again.0) flat, again.1 ∙ h)

-- of views that lie in their buffers, the rows decide
pub views_told : (s : Storage) (rs : ViewedRows) → AllLieIn rs.buffers rs.views → are_bytes_of s (rows_of rs) ≡ are_views_of s rs
views_told s rs lie = ap (λ b. b && are_bytes_of s (rows_of rs)) (sym (lie_tested rs lie))

-- views that lie in their buffers, of rows of a type
pub views_known : (s : Storage) (rs : ViewedRows) → AllLieIn rs.buffers rs.views → are_bytes_of s (rows_of rs) ≡ true → are_views_of s rs ≡ true
views_known s rs lie h = and_from _ _ (lie_tested rs lie) h

module _ {A : Type 0} (test : A → Bool) where
  parts_pass : (k : ℕ) (xs : List A) → list_all test xs ≡ true → (list_all test (take k xs) ≡ true) × (list_all test (drop k xs) ≡ true)
  parts_pass k xs h =
      let both : (list_all test (take k xs) && list_all test (drop k xs)) ≡ true =
      sym (list_all-append test (take k xs) (drop k xs)) ∙ ap (list_all test) (take-append-drop k xs) ∙ h in
      (first_so _ _ both, second_so _ _ both)

  -- what each of a list's items passes, each of a range's does
  pub range_passes : (xs : List A) (a b : ℕ) → list_all test xs ≡ true → list_all test (slice_range xs a b) ≡ true
  range_passes xs a b h = (parts_pass (b - a) (drop a xs) (parts_pass a xs h).1).0

-- a range of rows of a type is of it too
pub bytes_part : (s : Storage) (xs ys : List (List ℕ)) (a b : ℕ) → are_bytes_of s xs ≡ true → ys ≡ slice_range xs a b → are_bytes_of s ys ≡ true
bytes_part Text xs ys a b h range = ap (list_all is_utf8) range ∙ range_passes is_utf8 xs a b h
bytes_part _ xs ys a b h range = refl

pub views_part : (s : Storage) (rs : ViewedRows) (a b : ℕ) → are_views_of s rs ≡ true → are_views_of s (viewed_range a b rs) ≡ true
views_part s rs a b h =
    let lie : all_lie_in rs ≡ true = first_so (all_lie_in rs) (are_bytes_of s (rows_of rs)) h in
    let typed : are_bytes_of s (rows_of rs) ≡ true = second_so (all_lie_in rs) (are_bytes_of s (rows_of rs)) h in
    and_from _ _ (range_passes (lies_in rs.buffers) rs.views a b lie) (bytes_part s (rows_of rs) (rows_of (viewed_range a b rs)) a b typed (rows_part rs a b))

-- the check of each row
pub all_text : (b : Bool) (rows : List (List ℕ)) → (IsTrue b ↔ AllPass is_utf8 rows) → b ≡ list_all is_utf8 rows
all_text true rows h = sym (list_all-from_AllPass is_utf8 rows (h.0 refl))
all_text false rows h = by_all (list_all is_utf8 rows) refl
  where
    by_all : (b : Bool) → list_all is_utf8 rows ≡ b → false ≡ b
    by_all true e = h.1 (AllPass-from_list_all is_utf8 rows e)
    by_all false e = refl
