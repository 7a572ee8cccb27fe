-- What the pairs of digits of a text decode to, and rows of text.
use Rattle.std.proofs.Common.{◌≡◌, ℕ, ◌/◌, List, [], ◌∷◌, ◌++◌, length, true, refl, ◌∙◌, arith}
use Rattle.std.specs.Str.{is_utf8}
use Rattle.std.specs.List.{list_all}
use Rattle.std.proofs.lemmas.Bool.{and_from}
use Rattle.std.proofs.lemmas.List.Folds.{list_all-append}
use Rattle.std.proofs.lemmas.Str.{IsUtf8-nil}
use Rattle.hex.specs.Hex.{decode_of, decode_sized}
use Rattle.vx_value.specs.declared.dtype.Storage.{Storage}
use Rattle.vx_value.specs.declared.dtype.Storage.TheVariants.{Text}
use Rattle.vx_value.proofs.BytesLemmas.{is_text}
use Rattle.vx_tree.specs.ColumnTypes.{are_bytes_of}

-- into as many bytes as there are pairs
pub halved : (digits : List ℕ) → decode_sized digits (length digits / 2) ≡ decode_of digits
halved digits = grind (arith)

-- no bytes are of either type
pub typed_none : (s : Storage) → are_bytes_of s ([] ∷ []) ≡ true
typed_none Text = and_from (is_utf8 []) true (is_text [] IsUtf8-nil) refl
typed_none _ = refl

-- with a further row they are still of their type
pub typed_more : (s : Storage) (rows : List (List ℕ)) (row : List ℕ) →
    are_bytes_of s rows ≡ true → are_bytes_of s (row ∷ []) ≡ true → are_bytes_of s (rows ++ row ∷ []) ≡ true
typed_more Text rows row h e = list_all-append is_utf8 rows (row ∷ []) ∙ and_from (list_all is_utf8 rows) (list_all is_utf8 (row ∷ [])) h e
typed_more _ rows row h e = refl
