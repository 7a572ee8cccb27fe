-- Rows of bytes that are cast to text.
use Rattle.std.proofs.Common.{◌≡◌, ◌<◌, ℕ, true, if◌then◌else◌, List, [], ◌∷◌, ◌++◌, map, get_or, refl, sym, ap, subst, ◌∙◌}
use Rattle.std.specs.Cmp.{first_so}
use Rattle.std.specs.List.{list_all, range_with_len}
use Rattle.std.specs.Str.{is_utf8}
use Rattle.std.proofs.lemmas.Bool.{and_from}
use Rattle.std.proofs.lemmas.List.Folds.{list_all-append}
use Rattle.std.proofs.lemmas.Str.{IsUtf8-nil}
use Rattle.vx_value.specs.Values.{bytes}
use Rattle.vx_value.specs.Cell.{value, fault}
use Rattle.vx_value.specs.Casts.{to_text}
use Rattle.vx_value.specs.declared.dtype.Storage.TheVariants.{Text}
use Rattle.vx_value.proofs.BytesLemmas.{is_text}
use Rattle.vx_tree.specs.ColumnTypes.{are_bytes_of}
use Rattle.vx_tree.specs.Tree.{Tree}
use Rattle.vx_column.specs.Arguments.{bytes_at, HasBytes}
use Rattle.vx_column.specs.declared.rows.argument.BytesRows.{BytesRows}
use Rattle.vx_column.specs.ValidRows.{is_valid}
use Rattle.vx_column.specs.declared.rows.valid.ValidRows.{ValidRows}
use Rattle.vx_column.proofs.ValidRowsLemmas.{counted, row_made}
use Rattle.vx_column.specs.Casts.{none_unless}
use Rattle.vx_column.specs.Computed.{IsColumnOfCells}
use Rattle.vx_column.proofs.MadeLemmas.{made_by}
use Rattle.vx_column.proofs.ViewsLemmas.{text_at, row_stored}

-- no bytes are text
pub none_text : is_utf8 [] ≡ true
none_text = is_text [] IsUtf8-nil

pub text_more : (rs : List (List ℕ)) (r : List ℕ) → are_bytes_of Text rs ≡ true → is_utf8 r ≡ true → are_bytes_of Text (rs ++ r ∷ []) ≡ true
text_more rs r h k = list_all-append is_utf8 rs (r ∷ []) ∙ and_from (list_all is_utf8 rs) _ h (and_from (is_utf8 r) true k refl)

text_cell : (bs : List ℕ) → are_bytes_of Text (bs ∷ []) ≡ true → value (bytes bs) ≡ to_text (bytes bs)
text_cell bs h = ap (λ b. if b then value (bytes bs) else fault) (sym (first_so (is_utf8 bs) _ h))

-- rows that are text
pub text_kept : (r : BytesRows) (valid : ValidRows) (n : ℕ) (u : Tree) → HasBytes Text r n → IsColumnOfCells valid (λ i. value (bytes (bytes_at r i))) n u
    → IsColumnOfCells valid (λ i. to_text (bytes (bytes_at r i))) n u
text_kept r valid n u are = made_by valid _ _ n u (λ i lt here. text_cell (bytes_at r i) (row_stored Text r n i are lt))

-- rows of which the valid ones are
pub text_made : (f : ℕ → List ℕ) (valid : ValidRows) (n : ℕ) (rs : List (List ℕ)) (u : Tree)
    → rs ≡ map (λ i. none_unless (is_valid valid i) (f i)) (range_with_len 0 n)
    → are_bytes_of Text rs ≡ true → IsColumnOfCells valid (λ i. value (bytes (get_or rs i []))) n u → IsColumnOfCells valid (λ i. to_text (bytes (f i))) n u
text_made f valid n rs u made are =
    let long = counted (λ i. none_unless (is_valid valid i) (f i)) rs n made in
    made_by valid _ _ n u
    (λ i lt here. text_cell (get_or rs i []) (text_at rs i are (subst (λ k. i < k) (sym long) lt))
    ∙ ap (λ bs. to_text (bytes bs)) (row_made [] (λ j. none_unless (is_valid valid j) (f j)) rs n i made lt ∙ ap (λ b. none_unless b (f i)) here))
