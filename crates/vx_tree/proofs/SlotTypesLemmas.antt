-- Slots that each hold a tree of one type.
use Rattle.std.proofs.Common.{◌≡◌, ◌≢◌, ℕ, ◌+◌, ◌<◌, ◌≤◌, ◌^◌, List, [], ◌∷◌, ◌++◌, length, map, take, drop, get_or, nat_lt, Bool, true, false, Option, Some, None, refl, sym, ap, ◌∙◌, subst, arith}
use Rattle.std.specs.Prelude.{sum, option_map}
use Rattle.std.specs.Cmp.{unsigned_Decides}
use Rattle.std.proofs.lemmas.Bool.{lt-ltb, le-ltb, ltb-false}
use Rattle.std.proofs.lemmas.List.{drop_more, drop_all}
use Rattle.std.proofs.lemmas.List.Sums.{sum_by-cons}
use Rattle.vx_value.specs.Types.{DataType, same_type_Decides}
use Rattle.vx_value.specs.declared.error.VortexError.{VortexError}
use Rattle.vx_value.specs.declared.error.VortexError.TheVariants.{InvalidArgument, TooLong}
use Rattle.vx_value.specs.declared.error.ArgKind.TheVariants.{SlotMissing, SlotType}
use Rattle.vx_tree.specs.Tree.{Tree, slots_of, filled_slots, dtype, len, joined_refusal}
use Rattle.vx_tree.specs.Well.{Shape, shape, shape_of, shapes}
use Rattle.vx_tree.specs.Conditions.{first_of_both, unless}
use Rattle.vx_tree.specs.Refusals.{is_present}
use Rattle.vx_tree.specs.SlotTypes.{of_lengths, lengths_in, missing_refusal, type_refusal, has_type, rows_in}
use Rattle.vx_tree.proofs.ConditionsLemmas.{none_refused, first_none, second_none, unless_none, none_unless}

-- ---- those that pass

pub of_type_kept : (ty : DataType) (i k : ℕ) (ss : List (Option Shape)) → missing_refusal i ss ≡ None → type_refusal ty k ss ≡ None
    → ss ≡ of_lengths ty (lengths_in ss)
of_type_kept ty i k [] h e = refl
of_type_kept ty i k (None ∷ ss) h e = absurd (cc)
of_type_kept ty i k (Some (shape s m) ∷ ss) h e =
    let typed : s ≡ ty = (same_type_Decides s ty).0 (unless_none _ _ (first_none _ _ e)) in
    λ j. Some (shape (typed j) m) ∷ of_type_kept ty (i + 1) (k + 1) ss h (second_none _ _ e) j

pub none_missing : (ty : DataType) (i : ℕ) (ms : List ℕ) → missing_refusal i (of_lengths ty ms) ≡ None
none_missing ty i [] = refl
none_missing ty i (m ∷ ms) = none_missing ty (i + 1) ms

pub none_other : (ty : DataType) (k : ℕ) (ms : List ℕ) → type_refusal ty k (of_lengths ty ms) ≡ None
none_other ty k [] = refl
none_other ty k (m ∷ ms) = none_refused _ _ (none_unless _ _ ((same_type_Decides ty ty).1 refl)) (none_other ty (k + 1) ms)

pub lengths_back : (ty : DataType) (ms : List ℕ) → lengths_in (of_lengths ty ms) ≡ ms
lengths_back ty [] = refl
lengths_back ty (m ∷ ms) = ap (λ l. m ∷ l) (lengths_back ty ms)

pub none_missing_filled : (i : ℕ) (ts : List Tree) → missing_refusal i (shapes (filled_slots ts)) ≡ None
none_missing_filled i [] = refl
none_missing_filled i (t ∷ ts) = none_missing_filled (i + 1) ts

pub lengths_filled : (ts : List Tree) → lengths_in (shapes (filled_slots ts)) ≡ map len ts
lengths_filled [] = refl
lengths_filled (t ∷ ts) = ap (λ l. len t ∷ l) (lengths_filled ts)

pub filled_map : (ts : List Tree) → slots_of (map Some ts) ≡ filled_slots ts
filled_map [] = refl
filled_map (t ∷ ts) = λ i. Rattle.vx_tree.specs.Tree.slot t (filled_map ts i)

-- ---- one by one, as the code asks

missing_step : (k : ℕ) (s : Option Tree) (xs : List (Option Tree))
    → missing_refusal k (shapes (slots_of (s ∷ xs))) ≡ first_of_both (unless (is_present s) (InvalidArgument (SlotMissing k))) (missing_refusal (k + 1) (shapes (slots_of xs)))
missing_step k None xs = refl
missing_step k (Some t) xs = refl

pub missing_more : (xs : List (Option Tree)) (k : ℕ) (s : Option Tree) → k < length xs → s ≡ get_or xs k s
    → missing_refusal k (shapes (slots_of (drop k xs)))
    ≡ first_of_both (unless (is_present s) (InvalidArgument (SlotMissing k))) (missing_refusal (k + 1) (shapes (slots_of (drop (k + 1) xs))))
missing_more xs k s h e =
    ap (λ l. missing_refusal k (shapes (slots_of l))) (drop_more xs k s h ∙ ap (λ x. x ∷ drop (k + 1) xs) (sym e)) ∙ missing_step k s (drop (k + 1) xs)

type_step : (ty : DataType) (k : ℕ) (s : Option Tree) (xs : List (Option Tree))
    → type_refusal ty k (shapes (slots_of (s ∷ xs))) ≡ first_of_both (unless (has_type ty s) (InvalidArgument (SlotType k))) (type_refusal ty (k + 1) (shapes (slots_of xs)))
type_step ty k None xs = refl
type_step ty k (Some t) xs = refl

pub type_more : (ty : DataType) (xs : List (Option Tree)) (k : ℕ) (s : Option Tree) → k < length xs → s ≡ get_or xs k s
    → type_refusal ty k (shapes (slots_of (drop k xs)))
    ≡ first_of_both (unless (has_type ty s) (InvalidArgument (SlotType k))) (type_refusal ty (k + 1) (shapes (slots_of (drop (k + 1) xs))))
type_more ty xs k s h e =
    ap (λ l. type_refusal ty k (shapes (slots_of l))) (drop_more xs k s h ∙ ap (λ x. x ∷ drop (k + 1) xs) (sym e)) ∙ type_step ty k s (drop (k + 1) xs)

-- ---- lengths, added up

abbrev pub total_of : List (Option Tree) → ℕ
total_of xs = sum (lengths_in (shapes (slots_of xs)))

total_step : (s : Option Tree) (xs : List (Option Tree)) → total_of (s ∷ xs) ≡ rows_in s + total_of xs
total_step None xs = omega arith
total_step (Some t) xs = sum_by-cons (λ x. x) (len t) (lengths_in (shapes (slots_of xs)))

pub total_more : (xs : List (Option Tree)) (k : ℕ) (s : Option Tree) → k < length xs → s ≡ get_or xs k s
    → total_of (drop k xs) ≡ rows_in s + total_of (drop (k + 1) xs)
total_more xs k s h e = ap total_of (drop_more xs k s h ∙ ap (λ x. x ∷ drop (k + 1) xs) (sym e)) ∙ total_step s (drop (k + 1) xs)

-- why n rows and those of these slots are too many
abbrev pub too_many : ℕ → List (Option Tree) → Option VortexError
too_many n xs = joined_refusal n (lengths_in (shapes (slots_of xs)))

joined_step : (n : ℕ) (s : Option Tree) (xs : List (Option Tree)) → n < 2 ^ 64
    → too_many n (s ∷ xs) ≡ first_of_both (unless (nat_lt (n + rows_in s) (2 ^ 64)) (TooLong n (rows_in s))) (too_many (n + rows_in s) xs)
joined_step n None xs h =
    let same : n + 0 ≡ n = omega arith in
    let fits : nat_lt (n + 0) (2 ^ 64) ≡ true = lt-ltb (n + 0) (2 ^ 64) (omega (arith, h)) in
    ap (λ m. too_many m xs) (sym same) ∙ sym (ap (λ b. first_of_both (unless b (TooLong n 0)) (too_many (n + 0) xs)) fits)
joined_step n (Some t) xs h = refl

pub joined_more : (n : ℕ) (xs : List (Option Tree)) (k : ℕ) (s : Option Tree) → n < 2 ^ 64 → k < length xs → s ≡ get_or xs k s
    → too_many n (drop k xs)
    ≡ first_of_both (unless (nat_lt (n + rows_in s) (2 ^ 64)) (TooLong n (rows_in s))) (too_many (n + rows_in s) (drop (k + 1) xs))
joined_more n xs k s b h e = ap (too_many n) (drop_more xs k s h ∙ ap (λ x. x ∷ drop (k + 1) xs) (sym e)) ∙ joined_step n s (drop (k + 1) xs) b

pub fits_at : (n : ℕ) (xs : List (Option Tree)) (k : ℕ) (s : Option Tree) → n < 2 ^ 64 → k < length xs → s ≡ get_or xs k s → n + rows_in s < 2 ^ 64
    → too_many n (drop k xs) ≡ too_many (n + rows_in s) (drop (k + 1) xs)
fits_at n xs k s b h e fits =
    joined_more n xs k s b h e
    ∙ ap (λ t. first_of_both (unless t (TooLong n (rows_in s))) (too_many (n + rows_in s) (drop (k + 1) xs))) (lt-ltb (n + rows_in s) (2 ^ 64) fits)

pub full_at : (n : ℕ) (xs : List (Option Tree)) (k : ℕ) (s : Option Tree) → n < 2 ^ 64 → k < length xs → s ≡ get_or xs k s → 2 ^ 64 ≤ n + rows_in s
    → too_many n (drop k xs) ≡ Some (TooLong n (rows_in s))
full_at n xs k s b h e full =
    joined_more n xs k s b h e
    ∙ ap (λ t. first_of_both (unless t (TooLong n (rows_in s))) (too_many (n + rows_in s) (drop (k + 1) xs))) (le-ltb (n + rows_in s) (2 ^ 64) full)

pub none_too_many : (n : ℕ) (xs : List (Option Tree)) (k : ℕ) → length xs ≤ k → too_many n (drop k xs) ≡ None
none_too_many n xs k h = ap (too_many n) (drop_all k xs h)

pub no_total : (xs : List (Option Tree)) (k : ℕ) → length xs ≤ k → total_of (drop k xs) ≡ 0
no_total xs k h = ap total_of (drop_all k xs h)

pub joined_past : (n : ℕ) (ms : List ℕ) (e : VortexError) → joined_refusal n ms ≡ Some e → 2 ^ 64 ≤ n + sum ms
joined_past n [] e h = absurd (cc)
joined_past n (m ∷ ms) e h = by_test (nat_lt (n + m) (2 ^ 64)) refl (joined_past (n + m) ms e) h
  where
    by_test : (b : Bool) → nat_lt (n + m) (2 ^ 64) ≡ b → (joined_refusal (n + m) ms ≡ Some e → 2 ^ 64 ≤ n + m + sum ms)
        → first_of_both (unless b (TooLong n m)) (joined_refusal (n + m) ms) ≡ Some e → 2 ^ 64 ≤ n + sum (m ∷ ms)
    by_test true is later k = omega (arith, sum_by-cons (λ x. x) m ms, later k)
    by_test false is later k = omega (arith, sum_by-cons (λ x. x) m ms, ltb-false (n + m) (2 ^ 64) is)
