-- The digits that bytes are read from are those that they are written with.
use Rattle.std.proofs.Common.{◌≡◌, ◌≢◌, ℕ, zero, suc, ◌+◌, ◌*◌, ◌/◌, ◌%◌, ◌<◌, ◌==◌, Bool, true, false, ◌&&◌, ◌||◌, List, [], ◌∷◌, slice_index, Option, Some, None, Result, Ok, Err, refl, sym, ap, ◌∙◌, arith, inl, inr}
use Rattle.std.proofs.lemmas.Bool.{and_parts, or_parts, or_from, cases_lt, eqb-true}
use Rattle.std.specs.Char.{is_ascii_uppercase}
use Rattle.std.specs.List.{list_any}
use Rattle.std.specs.Prelude.{not, if◌then◌else◌}
use Rattle.std.specs.Result.{result_ok, result_unwrap_or}
use Rattle.hex.specs.Hex.{IsBytes, decode_of, decode_pairs, digit_or_error, encode_lower, encode_with, hex_digit_value, lower_digits, ◌>>=◌}
use Rattle.hex.specs.declared.error.FromHexError.{FromHexError}
use Rattle.hex.proofs.HexLemmas.{decode_of-even, decode_of-ok, decode_of-encode_lower}
use Rattle.vx_json.specs.SpelledValues.{hex_bytes}

-- a test of the first n numbers, which computes
abbrev all_pass : (ℕ → Bool) → ℕ → Bool
all_pass p zero = true
all_pass p (suc n) = p n && all_pass p n

passes : (p : ℕ → Bool) (n k : ℕ) → all_pass p n ≡ true → k < n → p k ≡ true
passes p zero k h lt = absurd (omega arith)
passes p (suc n) k h lt =
    let parts = and_parts (p n) (all_pass p n) h in
    elim (cases_lt k n) [
      | inl below ↦ passes p n k parts.1 below
      | inr top ↦
          let e : k ≡ n = omega arith in
          rw e parts.0
    ]

-- a digit that isn't a capital is the one in the table at its value
abbrev is_at : ℕ → Option ℕ → Bool
is_at c None = true
is_at c (Some v) = slice_index lower_digits v == c

abbrev is_written : ℕ → Bool
is_written c = is_ascii_uppercase c || is_at c (hex_digit_value c)

digit_below : (c v : ℕ) → hex_digit_value c ≡ Some v → c < 103
digit_below c v h = grind (arith)

value_small : (c v : ℕ) → hex_digit_value c ≡ Some v → v < 16
value_small c v h = grind (arith)

digit_back : (c v : ℕ) → hex_digit_value c ≡ Some v → is_ascii_uppercase c ≡ false → slice_index lower_digits v ≡ c
digit_back c v h small =
    let written : is_written c ≡ true = passes is_written 103 c refl (digit_below c v h) in
    let at : is_at c (Some v) ≡ true = ap (is_at c) (sym h) ∙ ap (λ b. b || is_at c (hex_digit_value c)) (sym small) ∙ written in
    eqb-true (slice_index lower_digits v) c at

-- so are pairs of them
pairs_back : (i : ℕ) (digits bytes : List ℕ) → decode_pairs i digits ≡ Ok bytes → list_any is_ascii_uppercase digits ≡ false → encode_lower bytes ≡ digits
unfolding decode_pairs encode_with
pairs_back i [] bytes h small =
    let same : [] ≡ bytes = ap (λ (r : Result (List ℕ) FromHexError). result_unwrap_or r []) h in
    ap encode_lower (sym same)
pairs_back i (a ∷ []) bytes h small = cc h
pairs_back i (a ∷ b ∷ rest) bytes h small =
    by_parts (λ tail is. pairs_back (i + 2) rest tail is second.1) (hex_digit_value a) (hex_digit_value b) (decode_pairs (i + 2) rest) refl refl refl h
  where
    first : (is_ascii_uppercase a ≡ false) × (list_any is_ascii_uppercase (b ∷ rest) ≡ false)
    first = or_parts (is_ascii_uppercase a) (list_any is_ascii_uppercase (b ∷ rest)) small

    second : (is_ascii_uppercase b ≡ false) × (list_any is_ascii_uppercase rest ≡ false)
    second = or_parts (is_ascii_uppercase b) (list_any is_ascii_uppercase rest) first.1

    by_parts : ((tail : List ℕ) → decode_pairs (i + 2) rest ≡ Ok tail → encode_lower tail ≡ rest) →
        (x y : Option ℕ) (r : Result (List ℕ) FromHexError) → hex_digit_value a ≡ x → hex_digit_value b ≡ y → decode_pairs (i + 2) rest ≡ r →
        ((digit_or_error a i x >>= λ high. digit_or_error b (i + 1) y >>= λ low. Ok (high * 16 + low)) >>= λ byte. r >>= λ tail. Ok (byte ∷ tail)) ≡ Ok bytes →
        encode_lower bytes ≡ a ∷ b ∷ rest
    by_parts back (Some high) (Some low) (Ok tail) ea eb er e =
        let same : (high * 16 + low) ∷ tail ≡ bytes = ap (λ (r : Result (List ℕ) FromHexError). result_unwrap_or r []) e in
        let above : (high * 16 + low) / 16 ≡ high = let l = value_small b low eb in omega (arith, l) in
        let below : (high * 16 + low) % 16 ≡ low = let l = value_small b low eb in omega (arith, l) in
        let one = ap (slice_index lower_digits) above ∙ digit_back a high ea first.0 in
        let two = ap (slice_index lower_digits) below ∙ digit_back b low eb second.0 in
        let left = back tail er in
        ap encode_lower (sym same) ∙ (λ j. one j ∷ two j ∷ left j)
    by_parts back None y r ea eb er e = cc e
    by_parts back (Some high) None r ea eb er e = cc e
    by_parts back (Some high) (Some low) (Err f) ea eb er e = cc e

-- bytes that are read are written with those digits
pub read_back : (digits bytes : List ℕ) → hex_bytes digits ≡ Some bytes → encode_lower bytes ≡ digits
read_back digits bytes h = by_test (list_any is_ascii_uppercase digits) (decode_of digits) refl refl h
  where
    by_test : (b : Bool) (r : Result (List ℕ) FromHexError) → list_any is_ascii_uppercase digits ≡ b → decode_of digits ≡ r →
        (if b then None else result_ok r) ≡ Some bytes → encode_lower bytes ≡ digits
    by_test true r small is e = absurd (cc)
    by_test false (Err f) small is e = absurd (cc)
    by_test false (Ok read) small is e =
        let same : read ≡ bytes = cc in
        let even = (decode_of-ok digits read is).0 in
        pairs_back 0 digits bytes (sym (decode_of-even digits even) ∙ is ∙ ap Ok same) small

-- there is no capital in the table
abbrev is_small : ℕ → Bool
is_small v = not (is_ascii_uppercase (slice_index lower_digits v))

small_at : (v : ℕ) → v < 16 → is_ascii_uppercase (slice_index lower_digits v) ≡ false
small_at v lt = by_test (is_ascii_uppercase (slice_index lower_digits v)) (passes is_small 16 v refl lt)
  where
    by_test : (b : Bool) → not b ≡ true → b ≡ false
    by_test true h = absurd (cc)
    by_test false h = refl

small_written : (bytes : List ℕ) → IsBytes bytes → list_any is_ascii_uppercase (encode_lower bytes) ≡ false
unfolding encode_with
small_written [] h = refl
small_written (b ∷ rest) h =
    let fits : b < 256 = h 0 in
    or_from _ _ (small_at (b / 16) (omega arith)) (or_from _ _ (small_at (b % 16) (omega arith)) (small_written rest (λ k. h (suc k))))

-- and bytes are read from the digits that they are written with
pub written_read : (bytes : List ℕ) → IsBytes bytes → hex_bytes (encode_lower bytes) ≡ Some bytes
written_read bytes h =
    ap (λ b. if b then None else result_ok (decode_of (encode_lower bytes))) (small_written bytes h) ∙ ap result_ok (decode_of-encode_lower bytes h)

pub unread : (digits : List ℕ) → hex_bytes digits ≡ None → (bytes : List ℕ) → IsBytes bytes → encode_lower bytes ≢ digits
unread digits none bytes h same = let e : Some bytes ≡ None = sym (written_read bytes h) ∙ ap hex_bytes same ∙ none in cc e
