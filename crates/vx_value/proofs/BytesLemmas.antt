-- What the tests of bytes say: whether two lists are the same, and whether one is text.
use Rattle.std.specs.Prelude.{◌≡◌, ◌↔◌, IsTrue, ℕ, List, true, false}
use Rattle.std.specs.Cmp.Lexicographic.{bytes_decides, texts_ties}
use Rattle.std.specs.Ordering.{is_eq}
use Rattle.std.specs.Str.{IsUtf8, is_utf8, bytes_eq}
use Rattle.vx_value.specs.Bytes.{bytes_cmp}
use Rattle.std.proofs.lemmas.Bool.{false_from_ne_true}
use Rattle.std.proofs.lemmas.Str.{IsUtf8-from_is_utf8, is_utf8-from_IsUtf8}

-- equal exactly where the lists are the same
pub bytes_eq_is : (xs ys : List ℕ) → IsTrue (bytes_eq xs ys) ↔ (xs ≡ ys)
bytes_eq_is = bytes_decides

-- and where neither comes first
pub bytes_eq_by_cmp : (xs ys : List ℕ) → bytes_eq xs ys ≡ is_eq (bytes_cmp xs ys)
bytes_eq_by_cmp = texts_ties

pub is_text : (bs : List ℕ) → IsUtf8 bs → is_utf8 bs ≡ true
is_text = is_utf8-from_IsUtf8

pub is_no_text : (bs : List ℕ) → ¬ (IsUtf8 bs) → is_utf8 bs ≡ false
is_no_text bs not = false_from_ne_true (is_utf8 bs) (λ h. not (IsUtf8-from_is_utf8 bs h))
