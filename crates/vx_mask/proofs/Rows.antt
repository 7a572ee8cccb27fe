-- Rows that are written word by word.
use Rattle.std.specs.Prelude.{◌==◌}
use Rattle.std.proofs.Common.{◌≡◌, ◌<◌, ◌+◌, ◌*◌, ◌/◌, ◌%◌, ℕ, Bool, List, [], ◌∷◌, ◌++◌, length, arith, ◌∙◌, ap, inl, inr}
use Rattle.std.specs.Int.{bit_at}
use Rattle.std.proofs.lemmas.Bool.{cases_lt}
use Rattle.std.proofs.lemmas.List.{length_push}
use Rattle.vx_mask.specs.Bits.{bit_of}
use Rattle.vx_mask.proofs.BitsLemmas.{before, in_last}

-- the words hold what f gives, up to row n
abbrev pub HoldRows : List ℕ → (ℕ → Bool) → ℕ → Type 0
HoldRows words f n = (i : ℕ) → i < n → i < 64 * length words → bit_of words i ≡ f i

-- and still do with one more word
pub one_more : (words : List ℕ) (word k n : ℕ) (f : ℕ → Bool) → length words ≡ k → HoldRows words f n
    → ((i : ℕ) → i < 64 → 64 * k + i < n → (bit_at word i == 1) ≡ f (64 * k + i))
    → HoldRows (words ++ word ∷ []) f n
one_more words word k n f long held new i in_n in_words =
    elim (cases_lt (i / 64) (length words)) [
      | inl lt ↦ before words (word ∷ []) i lt ∙ held i in_n (omega arith)
      | inr ge ↦
          let all : length (words ++ word ∷ []) ≡ length words + 1 = length_push words word in
          let here : i / 64 ≡ length words = omega arith in
          let row : 64 * k + i % 64 ≡ i = omega arith in
          in_last words word i here ∙ new (i % 64) (omega arith) (omega arith) ∙ ap f row
    ]
