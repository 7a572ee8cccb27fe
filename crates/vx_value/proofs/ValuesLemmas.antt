-- Lists of values: their heights, and lists that are made item by item.
use Rattle.std.proofs.Common.{◌≡◌, ℕ, zero, suc, ◌+◌, ◌<◌, ◌≤◌, max, List, [], ◌∷◌, ◌++◌, length, refl, ap, ◌∙◌, arith, Option}
use Rattle.std.proofs.Math.ListN.{get_or}
use Rattle.vx_value.specs.Values.{Value, Values, no_values, item, height, values_height, repeated}
use Rattle.vx_value.specs.View.{cell_of, values_of}
use Rattle.vx_value.specs.declared.scalar.ScalarValue.{ScalarValue}

-- each of some values is at most as high as all of them
pub item_lower : (vs : List (Option ScalarValue)) (i : ℕ) (v : Option ScalarValue) → i < length vs → height (cell_of (get_or vs i v)) ≤ values_height (values_of vs)
item_lower [] i v h = absurd (omega (arith, h))
item_lower (w ∷ vs) zero v h = omega arith
item_lower (w ∷ vs) (suc i) v h = let below : i < length vs = omega (arith, h) in omega (arith, item_lower vs i v below)

-- ---- the values that are made, before those to come

abbrev pub prepend : List (Option ScalarValue) → Values → Values
prepend [] vs = vs
prepend (x ∷ xs) vs = item (cell_of x) (prepend xs vs)

pub prepend_one : (done : List (Option ScalarValue)) (x : Option ScalarValue) (vs : Values) → prepend (done ++ x ∷ []) vs ≡ prepend done (item (cell_of x) vs)
prepend_one [] x vs = refl
prepend_one (d ∷ done) x vs = ap (item (cell_of d)) (prepend_one done x vs)

pub prepend_none : (done : List (Option ScalarValue)) → prepend done no_values ≡ values_of done
prepend_none [] = refl
prepend_none (d ∷ done) = ap (item (cell_of d)) (prepend_none done)

-- ---- one value so many times

abbrev append : Values → Value → Values
append no_values w = item w no_values
append (item v vs) w = item v (append vs w)

made_last : (xs : List (Option ScalarValue)) (x : Option ScalarValue) → values_of (xs ++ x ∷ []) ≡ append (values_of xs) (cell_of x)
made_last [] x = refl
made_last (y ∷ xs) x = ap (item (cell_of y)) (made_last xs x)

repeated_last : (n : ℕ) (v : Value) → append (repeated n v) v ≡ repeated (suc n) v
repeated_last zero v = refl
repeated_last (suc n) v = ap (item v) (repeated_last n v)

pub repeated_more : (xs : List (Option ScalarValue)) (x : Option ScalarValue) (n : ℕ) (v : Value) → values_of xs ≡ repeated n v → cell_of x ≡ v
    → values_of (xs ++ x ∷ []) ≡ repeated (n + 1) v
repeated_more xs x n v h e =
    let next : suc n ≡ n + 1 = omega arith in
    made_last xs x ∙ (λ i. append (h i) (e i)) ∙ repeated_last n v ∙ ap (λ k. repeated k v) next
