-- Rows that are made of the slots' rows: how many they are, one of them, and ranges and choices of them.
use Rattle.std.proofs.Common.{◌≡◌, ℕ, zero, suc, ◌+◌, ◌-◌, ◌<◌, ◌≤◌, Bool, true, false, List, [], ◌∷◌, length, map, take, drop, Some, refl, sym, ap, ◌∙◌, arith}
use Rattle.std.specs.Prelude.{slice_get}
use Rattle.std.proofs.Math.Seq.{take-nil, drop-nil}
use Rattle.std.proofs.lemmas.List.{map-id}
use Rattle.vx_value.specs.Cell.{Cell}
use Rattle.vx_mask.specs.Places.{true_count, chosen}
use Rattle.vx_mask.proofs.PlacesLemmas.{chosen-nil}
use Rattle.vx_tree.specs.Layouts.{heads, tails, row_by_row}

pub made_counted : (made : List (List Cell) → Cell) (n : ℕ) (css : List (List Cell)) → length (row_by_row made n css) ≡ n
made_counted made zero css = refl
made_counted made (suc n) css = ap suc (made_counted made n (tails css))

-- ---- of a row

-- the cell of each slot in row i; none if the slot has no such row
abbrev pub cells_in : ℕ → List (List Cell) → List (List Cell)
cells_in i css = map (λ cs. take 1 (drop i cs)) css

later_cells : (i : ℕ) (css : List (List Cell)) → cells_in i (tails css) ≡ cells_in (suc i) css
later_cells i [] = refl
later_cells i ([] ∷ css) = λ j. take 1 (drop-nil i j) ∷ later_cells i css j
later_cells i ((c ∷ cs) ∷ css) = ap (λ l. take 1 (drop i cs) ∷ l) (later_cells i css)

pub made_row : (made : List (List Cell) → Cell) (n i : ℕ) (css : List (List Cell)) → i < n → slice_get (row_by_row made n css) i ≡ Some (made (cells_in i css))
made_row made zero i css h = absurd (omega arith)
made_row made (suc n) zero css h = refl
made_row made (suc n) (suc i) css h = made_row made n i (tails css) (omega arith) ∙ ap (λ x. Some (made x)) (later_cells i css)

pub cell_in : (cs : List Cell) (i : ℕ) (c : Cell) → slice_get cs i ≡ Some c → take 1 (drop i cs) ≡ c ∷ []
cell_in [] i c h = absurd (cc)
cell_in (d ∷ cs) zero c h = let same : d ≡ c = cc in λ j. same j ∷ []
cell_in (d ∷ cs) (suc i) c h = cell_in cs i c h

-- slot by slot
in_slots : (f g h : List Cell → List Cell) → ((cs : List Cell) → f (g cs) ≡ h cs) → (css : List (List Cell)) → map f (map g css) ≡ map h css
in_slots f g h e [] = refl
in_slots f g h e (cs ∷ css) = λ i. e cs i ∷ in_slots f g h e css i

-- ---- of a range

-- of the rows after the first, and the first row of several
drop_again : (k : ℕ) (cs : List Cell) → drop k (drop 1 cs) ≡ drop (suc k) cs
drop_again k [] = drop-nil k
drop_again k (c ∷ cs) = refl

take_again : (k : ℕ) (cs : List Cell) → take 1 (take (suc k) cs) ≡ take 1 cs
take_again k [] = refl
take_again k (c ∷ cs) = refl

drop_taken : (k : ℕ) (cs : List Cell) → drop 1 (take (suc k) cs) ≡ take k (drop 1 cs)
drop_taken k [] = sym (take-nil k)
drop_taken k (c ∷ cs) = refl

made_drop : (made : List (List Cell) → Cell) (a j n : ℕ) (css : List (List Cell)) → n ≡ a + j → drop a (row_by_row made n css) ≡ row_by_row made j (map (drop a) css)
made_drop made zero j n css e = let same : n ≡ j = omega (arith, e) in λ i. row_by_row made (same i) (sym (map-id css) i)
made_drop made (suc a) j zero css e = absurd (omega (arith, e))
made_drop made (suc a) j (suc n) css e =
    made_drop made a j n (tails css) (omega (arith, e)) ∙ ap (row_by_row made j) (in_slots (drop a) (drop 1) (drop (suc a)) (drop_again a) css)

made_take : (made : List (List Cell) → Cell) (k n : ℕ) (css : List (List Cell)) → k ≤ n → take k (row_by_row made n css) ≡ row_by_row made k css
made_take made zero n css h = refl
made_take made (suc k) zero css h = absurd (omega (arith, h))
made_take made (suc k) (suc n) css h = ap (λ l. made (heads css) ∷ l) (made_take made k n (tails css) (omega (arith, h)))

-- the slots' later rows don't count
made_taken : (made : List (List Cell) → Cell) (k : ℕ) (css : List (List Cell)) → row_by_row made k (map (take k) css) ≡ row_by_row made k css
made_taken made zero css = refl
made_taken made (suc k) css =
    let first : heads (map (take (suc k)) css) ≡ heads css = in_slots (take 1) (take (suc k)) (take 1) (take_again k) css in
    let others : tails (map (take (suc k)) css) ≡ map (take k) (tails css) =
    in_slots (drop 1) (take (suc k)) (λ cs. take k (drop 1 cs)) (drop_taken k) css ∙ sym (in_slots (take k) (drop 1) (λ cs. take k (drop 1 cs)) (λ cs. refl) css) in
    λ i. made (first i) ∷ (ap (row_by_row made k) others ∙ made_taken made k (tails css)) i

-- they are made of the slots' ranges
pub made_part : (made : List (List Cell) → Cell) (a b n : ℕ) (css : List (List Cell)) → a ≤ b → b ≤ n
    → take (b - a) (drop a (row_by_row made n css)) ≡ row_by_row made (b - a) (map (λ cs. take (b - a) (drop a cs)) css)
made_part made a b n css h k =
    let later = map (drop a) css in
    ap (take (b - a)) (made_drop made a (n - a) n css (omega (arith, h, k))) ∙ made_take made (b - a) (n - a) later (omega (arith, h, k))
    ∙ sym (made_taken made (b - a) later)
    ∙ ap (row_by_row made (b - a)) (in_slots (take (b - a)) (drop a) (λ cs. take (b - a) (drop a cs)) (λ cs. refl) css)

-- ---- of a choice

first_chosen : (bits : List Bool) (cs : List Cell) → take 1 (chosen (true ∷ bits) cs) ≡ take 1 cs
unfolding chosen
first_chosen bits [] = refl
first_chosen bits (c ∷ cs) = refl

others_chosen : (bits : List Bool) (cs : List Cell) → drop 1 (chosen (true ∷ bits) cs) ≡ chosen bits (drop 1 cs)
unfolding chosen
others_chosen bits [] = sym (chosen-nil bits)
others_chosen bits (c ∷ cs) = refl

first_left : (bits : List Bool) (cs : List Cell) → chosen bits (drop 1 cs) ≡ chosen (false ∷ bits) cs
unfolding chosen
first_left bits [] = chosen-nil bits
first_left bits (c ∷ cs) = refl

-- they are made of the slots' choices
pub made_choice : (made : List (List Cell) → Cell) (bits : List Bool) (css : List (List Cell))
    → chosen bits (row_by_row made (length bits) css) ≡ row_by_row made (true_count bits) (map (chosen bits) css)
unfolding chosen true_count
made_choice made [] css = refl
made_choice made (true ∷ bits) css =
    let first : heads (map (chosen (true ∷ bits)) css) ≡ heads css = in_slots (take 1) (chosen (true ∷ bits)) (take 1) (first_chosen bits) css in
    let others : tails (map (chosen (true ∷ bits)) css) ≡ map (chosen bits) (tails css) =
    in_slots (drop 1) (chosen (true ∷ bits)) (λ cs. chosen bits (drop 1 cs)) (others_chosen bits) css
    ∙ sym (in_slots (chosen bits) (drop 1) (λ cs. chosen bits (drop 1 cs)) (λ cs. refl) css) in
    λ i. made (sym first i) ∷ (made_choice made bits (tails css) ∙ sym (ap (row_by_row made (true_count bits)) others)) i
made_choice made (false ∷ bits) css =
    made_choice made bits (tails css)
    ∙ ap (row_by_row made (true_count bits)) (in_slots (chosen bits) (drop 1) (chosen (false ∷ bits)) (first_left bits) css)
