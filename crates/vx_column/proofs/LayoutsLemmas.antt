-- Rows that are made of the slots' rows: those of one column behind those of another.
use Rattle.std.proofs.Common.{◌≡◌, ℕ, zero, suc, ◌+◌, List, [], ◌∷◌, ◌++◌, length, drop, refl, ap, ◌∙◌, arith}
use Rattle.std.proofs.lemmas.List.{length-map}
use Rattle.vx_value.specs.Cell.{Cell}
use Rattle.vx_tree.specs.Layouts.{heads, tails, row_by_row}

-- each slot has n rows
abbrev pub AreLong : ℕ → List (List Cell) → Type 0
AreLong n [] = Unit {0}
AreLong n (cs ∷ css) = (length cs ≡ n) × AreLong n css

-- the rows of both, slot by slot
abbrev pub both : List (List Cell) → List (List Cell) → List (List Cell)
both [] dss = []
both (cs ∷ css) [] = []
both (cs ∷ css) (ds ∷ dss) = (cs ++ ds) ∷ both css dss

none_before : (css dss : List (List Cell)) → AreLong 0 css → length css ≡ length dss → both css dss ≡ dss
none_before [] [] h e = refl
none_before [] (ds ∷ dss) h e = absurd (omega arith)
none_before (cs ∷ css) [] h e = absurd (omega arith)
none_before ([] ∷ css) (ds ∷ dss) h e = ap (λ l. ds ∷ l) (none_before css dss h.1 (omega arith))
none_before ((c ∷ cs) ∷ css) (ds ∷ dss) h e = absurd (omega (arith, h.0))

both_heads : (n : ℕ) (css dss : List (List Cell)) → AreLong (suc n) css → length css ≡ length dss → heads (both css dss) ≡ heads css
both_heads n [] dss h e = refl
both_heads n (cs ∷ css) [] h e = absurd (omega arith)
both_heads n ([] ∷ css) (ds ∷ dss) h e = absurd (omega (arith, h.0))
both_heads n ((c ∷ cs) ∷ css) (ds ∷ dss) h e = ap (λ l. (c ∷ []) ∷ l) (both_heads n css dss h.1 (omega arith))

both_tails : (n : ℕ) (css dss : List (List Cell)) → AreLong (suc n) css → length css ≡ length dss → tails (both css dss) ≡ both (tails css) dss
both_tails n [] dss h e = refl
both_tails n (cs ∷ css) [] h e = absurd (omega arith)
both_tails n ([] ∷ css) (ds ∷ dss) h e = absurd (omega (arith, h.0))
both_tails n ((c ∷ cs) ∷ css) (ds ∷ dss) h e = ap (λ l. (cs ++ ds) ∷ l) (both_tails n css dss h.1 (omega arith))

tails_long : (n : ℕ) (css : List (List Cell)) → AreLong (suc n) css → AreLong n (tails css)
tails_long n [] h = tt
tails_long n ([] ∷ css) h = absurd (omega (arith, h.0))
tails_long n ((c ∷ cs) ∷ css) h = (omega (arith, h.0), tails_long n css h.1)

-- the rows are those that are made of the one's cells, and those of the other's
pub made_both : (made : List (List Cell) → Cell) (n k : ℕ) (css dss : List (List Cell)) → AreLong n css → length css ≡ length dss
    → row_by_row made (n + k) (both css dss) ≡ row_by_row made n css ++ row_by_row made k dss
made_both made zero k css dss h e =
    let same : 0 + k ≡ k = omega arith in
    λ i. row_by_row made (same i) (none_before css dss h e i)
made_both made (suc n) k css dss h e =
    let more : suc n + k ≡ suc (n + k) = omega arith in
    ap (λ m. row_by_row made m (both css dss)) more
    ∙ (λ i. made (both_heads n css dss h e i) ∷ row_by_row made (n + k) (both_tails n css dss h e i))
    ∙ ap (λ l. made (heads css) ∷ l) (made_both made n k (tails css) dss (tails_long n css h) (omega (arith, e, length-map css (drop 1))))
