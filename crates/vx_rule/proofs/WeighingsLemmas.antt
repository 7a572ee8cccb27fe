-- Weights as counts: sums and products that stay at the last value, and the weight of a node from those of its slots.
use Rattle.std.proofs.Common.{◌≡◌, ℕ, zero, suc, ◌+◌, ◌-◌, ◌*◌, ◌≤◌, ◌<◌, List, [], ◌∷◌, ◌++◌, length, take, get_or, Option, Some, None, refl, sym, ap, subst, ◌∙◌, arith, inl, inr, length-append}
use Rattle.std.specs.Prelude.{◌⊎◌}
use Rattle.std.proofs.Math.Nat.{mul-le-mul_left}
use Rattle.std.proofs.lemmas.List.{take_more}
use Rattle.vx_tree.specs.Tree.{Tree, Data, node, len, datum, slots, Slots, slots_of, height, slots_height}
use Rattle.vx_tree.specs.Charges.{total, excess, enlarged, product, scaled}
use Rattle.vx_tree.specs.Cost.{charge}
use Rattle.vx_tree.specs.Weight.{weight, slots_weights}
use Rattle.vx_tree.proofs.WeightLemmas.{AreHeavy, weight_low, slots_low}
use Rattle.vx_rule.specs.Counts.{last, capped}
use Rattle.vx_rule.specs.Weighings.{least, weighs, IsSummed, AreLeast}
use Rattle.vx_rule.specs.declared.weight.Weighing.{Weighing}
use Rattle.vx_rule.specs.declared.weight.Weighing.TheVariants.{Column, Added, Squared, Multiplied, Enlarged}
use Rattle.vx_rule.specs.declared.weight.SlotWeights.{SlotWeights}

-- ---- numbers as counts

cap_cases : (n : ℕ) → ((capped n ≡ n) × (n ≤ last)) ⊎ ((capped n ≡ last) × (last ≤ n))
cap_cases n = grind arith

capped_small : (n : ℕ) → n ≤ last → capped n ≡ n
capped_small n l = grind (arith, l)

capped_big : (n : ℕ) → last ≤ n → capped n ≡ last
capped_big n l = grind (arith, l)

-- a sum of counts is the count of the sum
capped_add : (m n : ℕ) → capped (capped m + capped n) ≡ capped (m + n)
capped_add m n = by_cases (cap_cases m) (cap_cases n)
  where
    by_cases : ((capped m ≡ m) × (m ≤ last)) ⊎ ((capped m ≡ last) × (last ≤ m)) → ((capped n ≡ n) × (n ≤ last)) ⊎ ((capped n ≡ last) × (last ≤ n))
        → capped (capped m + capped n) ≡ capped (m + n)
    by_cases (inl a) (inl b) = λ i. capped (a.0 i + b.0 i)
    by_cases (inr a) b = capped_big (capped m + capped n) (omega (arith, a.0)) ∙ sym (capped_big (m + n) (omega (arith, a.1)))
    by_cases a (inr b) = capped_big (capped m + capped n) (omega (arith, b.0)) ∙ sym (capped_big (m + n) (omega (arith, b.1)))

pub capped_add_first : (m n : ℕ) → capped (capped m + n) ≡ capped (m + n)
capped_add_first m n = by_cases (cap_cases m)
  where
    by_cases : ((capped m ≡ m) × (m ≤ last)) ⊎ ((capped m ≡ last) × (last ≤ m)) → capped (capped m + n) ≡ capped (m + n)
    by_cases (inl a) = λ i. capped (a.0 i + n)
    by_cases (inr a) = capped_big (capped m + n) (omega (arith, a.0)) ∙ sym (capped_big (m + n) (omega (arith, a.1)))

pub answered_total : (o w x y z : ℕ) → x ≡ capped w → y ≡ capped (o + x) → z ≡ capped (y + 1) → z ≡ capped (o + (1 + w))
answered_total o w x y z a b c =
    c ∙ ap (λ n. capped (n + 1)) (b ∙ ap (λ n. capped (o + n)) a) ∙ capped_add_first (o + capped w) 1 ∙ ap capped (order (capped w))
    ∙ capped_add_first w (o + 1) ∙ ap capped (back w)
  where
    order : (v : ℕ) → o + v + 1 ≡ v + (o + 1)
    order v = omega arith

    back : (v : ℕ) → v + (o + 1) ≡ o + (1 + v)
    back v = omega arith

-- so with a product
times_big : (m n : ℕ) → last ≤ m → 1 ≤ n → last ≤ m * n
times_big m n l k = omega (arith, l, mul-le-mul_left m k)

big_times : (m n : ℕ) → last ≤ n → 1 ≤ m → last ≤ m * n
big_times m n l k = omega (arith, l, mul-le-mul_left n k)

capped_one : (n : ℕ) → 1 ≤ n → 1 ≤ capped n
capped_one n l = grind (arith, l)

times_none : (m : ℕ) → m * 0 ≡ 0
times_none m = omega arith

none_times : (m : ℕ) → 0 * m ≡ 0
none_times m = omega arith

capped_none : capped 0 ≡ 0
capped_none = capped_small 0 (omega arith)

capped_times : (m n : ℕ) → capped (capped m * capped n) ≡ capped (m * n)
capped_times m zero = ap capped (ap (λ x. capped m * x) capped_none ∙ times_none (capped m) ∙ sym (times_none m))
capped_times zero (suc n) = ap capped (ap (λ x. x * capped (suc n)) capped_none ∙ none_times (capped (suc n)) ∙ sym (none_times (suc n)))
capped_times (suc m) (suc n) = by_cases (cap_cases (suc m)) (cap_cases (suc n))
  where
    by_cases : ((capped (suc m) ≡ suc m) × (suc m ≤ last)) ⊎ ((capped (suc m) ≡ last) × (last ≤ suc m))
        → ((capped (suc n) ≡ suc n) × (suc n ≤ last)) ⊎ ((capped (suc n) ≡ last) × (last ≤ suc n))
        → capped (capped (suc m) * capped (suc n)) ≡ capped (suc m * suc n)
    by_cases (inl a) (inl b) = λ i. capped (a.0 i * b.0 i)
    by_cases (inr a) b =
        capped_big (capped (suc m) * capped (suc n)) (times_big (capped (suc m)) (capped (suc n)) (omega (arith, a.0)) (capped_one (suc n) (omega arith)))
        ∙ sym (capped_big (suc m * suc n) (times_big (suc m) (suc n) a.1 (omega arith)))
    by_cases a (inr b) =
        capped_big (capped (suc m) * capped (suc n)) (big_times (capped (suc m)) (capped (suc n)) (omega (arith, b.0)) (capped_one (suc m) (omega arith)))
        ∙ sym (capped_big (suc m * suc n) (big_times (suc m) (suc n) b.1 (omega arith)))

-- ---- one weight more

excess_more : (ws : List ℕ) (w : ℕ) → excess (ws ++ w ∷ []) ≡ excess ws + (w - least)
excess_more [] w = omega arith
excess_more (v ∷ ws) w = omega (arith, excess_more ws w)

product_more : (ws : List ℕ) (w : ℕ) → product (ws ++ w ∷ []) ≡ product ws * w
product_more [] w = omega arith
product_more (v ∷ ws) w = ap (λ x. v * x) (product_more ws w) ∙ assoc v (product ws) w
  where
    assoc : (a b c : ℕ) → a * (b * c) ≡ a * b * c
    assoc a b c = grind arith

pub weight_back : (w : ℕ) → least ≤ w → capped (capped (w - least) + 3) ≡ capped w
weight_back w l = capped_add_first (w - least) 3 ∙ ap capped (omega (arith, l))

pub summed_more : (s t : SlotWeights) (ws : List ℕ) (w x : ℕ) → IsSummed s ws → least ≤ w → x ≡ capped (w - least) → t.count ≡ capped (s.count + 1)
    → t.excess ≡ capped (s.excess + x) → t.product ≡ capped (s.product * capped (x + 3)) → IsSummed t (ws ++ w ∷ [])
summed_more s t ws w x h l e c a m = record {
  counted = c ∙ ap (λ n. capped (n + 1)) h.counted ∙ capped_add_first (length ws) 1 ∙ ap capped (sym (length-append ws (w ∷ [])));
  above = a ∙ (λ i. capped (h.above i + e i)) ∙ capped_add (excess ws) (w - least) ∙ ap capped (sym (excess_more ws w));
  multiplied = m ∙ (λ i. capped (h.multiplied i * capped (e i + 3))) ∙ ap (λ y. capped (capped (product ws) * y)) (weight_back w l)
      ∙ capped_times (product ws) w ∙ ap capped (sym (product_more ws w));
}

-- ---- the slots' weights

pub are_least : (ws : List ℕ) → AreHeavy ws → AreLeast ws
are_least [] h = tt
are_least (w ∷ ws) h = (h.0, are_least ws h.1)

weights_end : (xs : List (Option Tree)) (t : Tree) → slots_weights (slots_of (xs ++ Some t ∷ [])) ≡ slots_weights (slots_of xs) ++ weight t ∷ []
weights_end [] t = refl
weights_end (None ∷ xs) t = weights_end xs t
weights_end (Some u ∷ xs) t = ap (λ l. weight u ∷ l) (weights_end xs t)

weights_same : (xs : List (Option Tree)) → slots_weights (slots_of (xs ++ None ∷ [])) ≡ slots_weights (slots_of xs)
weights_same [] = refl
weights_same (None ∷ xs) = weights_same xs
weights_same (Some u ∷ xs) = ap (λ l. weight u ∷ l) (weights_same xs)

module _ (xs : List (Option Tree)) (i : ℕ) (o : Option Tree) (l : i < length xs) (is : o ≡ get_or xs i o) where
  next : take (i + 1) xs ≡ take i xs ++ o ∷ []
  next = take_more xs i o l ∙ ap (λ x. take i xs ++ x ∷ []) (sym is)

  pub summed_none : (s : SlotWeights) → o ≡ None → IsSummed s (slots_weights (slots_of (take i xs))) → IsSummed s (slots_weights (slots_of (take (i + 1) xs)))
  summed_none s e h =
      subst (λ x. IsSummed s (slots_weights (slots_of x))) (sym next)
      (subst (λ x. IsSummed s (slots_weights (slots_of (take i xs ++ x ∷ [])))) (sym e)
      (subst (IsSummed s) (sym (weights_same (take i xs))) h))

  pub summed_some : (s : SlotWeights) (t : Tree) → o ≡ Some t → IsSummed s (slots_weights (slots_of (take i xs)) ++ weight t ∷ [])
      → IsSummed s (slots_weights (slots_of (take (i + 1) xs)))
  summed_some s t e h =
      subst (λ x. IsSummed s (slots_weights (slots_of x))) (sym next)
      (subst (λ x. IsSummed s (slots_weights (slots_of (take i xs ++ x ∷ [])))) (sym e)
      (subst (IsSummed s) (sym (weights_end (take i xs) t)) h))

pub slot_lower : (xs : List (Option Tree)) (i : ℕ) (d : Option Tree) (t : Tree) → i < length xs → get_or xs i d ≡ Some t → height t ≤ slots_height (slots_of xs)
slot_lower [] i d t l e = absurd (omega arith)
slot_lower (None ∷ xs) zero d t l e = absurd (cc)
slot_lower (None ∷ xs) (suc i) d t l e = slot_lower xs i d t (omega arith) e
slot_lower (Some u ∷ xs) zero d t l e = let same : u ≡ t = cc in omega (arith, ap height same)
slot_lower (Some u ∷ xs) (suc i) d t l e = omega (arith, slot_lower xs i d t (omega arith) e)

-- ---- the weight of a node

pub weighs_node : (t : Tree) (g : Weighing) (x n : ℕ) (d : Data) (ss : Slots) → n ≡ len t → d ≡ datum t → ss ≡ slots t
    → ((k : ℕ) (ws : List ℕ) → weighs g k ws ≡ (charge d).weight k ws) → x ≡ capped (weighs g n (slots_weights ss) - least) → x ≡ capped (weight t - least)
weighs_node (node ty n' d' ss') g x n d ss a b s read e =
    e ∙ ap (λ w. capped (w - least)) (read n (slots_weights ss) ∙ (λ i. (charge (b i)).weight (a i) (slots_weights (s i))))

-- of the slots of any tree
pub slots_least : (ss : Slots) → AreLeast (slots_weights ss)
slots_least ss = are_least (slots_weights ss) (slots_low ss)

pub weight_whole : (t : Tree) (x : ℕ) → x ≡ capped (weight t - least) → capped (x + 3) ≡ capped (weight t)
weight_whole t x e = ap (λ y. capped (y + 3)) e ∙ weight_back (weight t) (weight_low t)

pub slots_lower : (t : Tree) → 1 + slots_height (slots t) ≤ height t
slots_lower (node ty n d ss) = omega arith

-- of weights each of which is a tree's
total_is : (ws : List ℕ) → AreLeast ws → total ws ≡ length ws * 3 + excess ws
total_is [] h = omega arith
total_is (w ∷ ws) h = omega (arith, h.0, total_is ws h.1)

enlarged_is : (ws : List ℕ) → enlarged ws ≡ total ws + length ws * 2
enlarged_is [] = omega arith
enlarged_is (w ∷ ws) = omega (arith, enlarged_is ws)

capped_by : (n k : ℕ) → capped (capped n * k) ≡ capped (n * k)
capped_by n k = by_cases (cap_cases n)
  where
    by_cases : ((capped n ≡ n) × (n ≤ last)) ⊎ ((capped n ≡ last) × (last ≤ n)) → capped (capped n * k) ≡ capped (n * k)
    by_cases (inl a) = λ i. capped (a.0 i * k)
    by_cases (inr a) = big k
      where
        big : (k : ℕ) → capped (capped n * k) ≡ capped (n * k)
        big zero = ap capped (times_none (capped n) ∙ sym (times_none n))
        big (suc k) =
            capped_big (capped n * suc k) (times_big (capped n) (suc k) (omega (arith, a.0)) (omega arith))
            ∙ sym (capped_big (n * suc k) (times_big n (suc k) a.1 (omega arith)))

module _ (s : SlotWeights) (ws : List ℕ) (h : IsSummed s ws) (l : AreLeast ws) where
  pub summed_total : (x : ℕ) → x ≡ capped (capped (s.count * 3) + s.excess) → x ≡ capped (total ws)
  summed_total x e =
      e ∙ (λ i. capped (capped (h.counted i * 3) + h.above i)) ∙ ap (λ y. capped (y + capped (excess ws))) (capped_by (length ws) 3)
      ∙ capped_add (length ws * 3) (excess ws) ∙ ap capped (sym (total_is ws l))

  pub weighs_empty : s.excess ≡ capped (weighs Column 0 ws - least)
  weighs_empty = h.above ∙ ap capped (omega arith)

  module _ (x : ℕ) (t : x ≡ capped (total ws)) where
    pub weighs_column : (n : ℕ) → 0 < n → x ≡ capped (weighs Column n ws - least)
    weighs_column zero p = absurd (omega arith)
    weighs_column (suc n) p = t ∙ ap capped (omega arith)

    pub weighs_added : (n k y : ℕ) → y ≡ capped (x + k) → y ≡ capped (weighs (Added k) n ws - least)
    weighs_added n k y e = e ∙ ap (λ z. capped (z + k)) t ∙ capped_add_first (total ws) k ∙ ap capped (omega arith)

    pub weighs_squared : (n y : ℕ) → y ≡ capped (capped (x * x) + 1) → y ≡ capped (weighs Squared n ws - least)
    weighs_squared n y e =
        let m = total ws in
        e ∙ ap (λ z. capped (capped (z * z) + 1)) t ∙ ap (λ z. capped (z + 1)) (capped_times m m) ∙ capped_add_first (m * m) 1 ∙ ap capped (omega arith)

    pub weighs_enlarged : (n y : ℕ) → y ≡ capped (x + capped (s.count * 2)) → y ≡ capped (weighs Enlarged n ws - least)
    weighs_enlarged n y e =
        e ∙ (λ i. capped (t i + capped (h.counted i * 2))) ∙ ap (λ z. capped (capped (total ws) + z)) (capped_by (length ws) 2)
        ∙ capped_add (total ws) (length ws * 2) ∙ ap capped (omega (arith, enlarged_is ws))

  pub weighs_multiplied : (n y : ℕ) → y ≡ capped (s.product + 7) → y ≡ capped (weighs Multiplied n ws - least)
  weighs_multiplied n y e = e ∙ ap (λ z. capped (z + 7)) h.multiplied ∙ capped_add_first (product ws) 7 ∙ ap capped (omega arith)

  -- ---- several times the slots

  none_counted : s.count ≡ 0 → length ws ≡ 0
  none_counted e = by_cases (cap_cases (length ws))
    where
      by_cases : ((capped (length ws) ≡ length ws) × (length ws ≤ last)) ⊎ ((capped (length ws) ≡ last) × (last ≤ length ws)) → length ws ≡ 0
      by_cases (inl a) = sym a.0 ∙ sym h.counted ∙ e
      by_cases (inr a) = absurd (omega (arith, a.0, h.counted, e))

  pub scaled_none : (k x : ℕ) → s.count ≡ 0 → x ≡ 1 → x ≡ capped (scaled k 0 ws - least)
  scaled_none k x e o = o ∙ by_list ws (none_counted e)
    where
      by_list : (ws : List ℕ) → length ws ≡ 0 → 1 ≡ capped (scaled k 0 ws - least)
      by_list [] z = sym (capped_small 1 (omega arith))
      by_list (w ∷ ws) z = absurd (omega arith)

  -- one less than the count, several times
  others_counted : (k : ℕ) → 1 ≤ length ws → last ≤ k * (last - 1) → capped (k * (s.count - 1)) ≡ capped (k * (length ws - 1))
  others_counted k some p = ap (λ c. capped (k * (c - 1))) h.counted ∙ by_cases (cap_cases (length ws))
    where
      by_cases : ((capped (length ws) ≡ length ws) × (length ws ≤ last)) ⊎ ((capped (length ws) ≡ last) × (last ≤ length ws))
          → capped (k * (capped (length ws) - 1)) ≡ capped (k * (length ws - 1))
      by_cases (inl a) = ap (λ c. capped (k * (c - 1))) a.0
      by_cases (inr a) =
          let more : last - 1 ≤ length ws - 1 = omega (arith, a.1) in
          ap (λ c. capped (k * (c - 1))) a.0 ∙ capped_big (k * (last - 1)) p
          ∙ sym (capped_big (k * (length ws - 1)) (omega (arith, p, mul-le-mul_left k more)))

  some_counted : (s.count ≡ 0 → ⊥) → 1 ≤ length ws
  some_counted none = by_length (length ws) refl
    where
      by_length : (n : ℕ) → length ws ≡ n → 1 ≤ n
      by_length zero e = absurd (none (h.counted ∙ ap capped e))
      by_length (suc n) e = omega arith

  scaled_is : (f : ℕ) → 1 ≤ length ws → scaled f 0 ws ≡ f * total ws
  scaled_is f some = by_list ws some
    where
      by_list : (ws : List ℕ) → 1 ≤ length ws → scaled f 0 ws ≡ f * total ws
      by_list [] z = absurd (omega arith)
      by_list (w ∷ ws) z = grind arith

  above_is : (f : ℕ) → capped (f * s.excess) ≡ capped (f * excess ws)
  above_is f = ap (λ c. capped (f * c)) h.above ∙ ap capped (flip f (capped (excess ws))) ∙ capped_by (excess ws) f ∙ ap capped (flip (excess ws) f)
    where
      flip : (a b : ℕ) → a * b ≡ b * a
      flip a b = grind arith

  scaled_sum : (f k j x : ℕ) → (s.count ≡ 0 → ⊥) → last ≤ k * (last - 1) → x ≡ capped (capped (capped (f * s.excess) + capped (k * (s.count - 1))) + j)
      → f * excess ws + k * (length ws - 1) + j ≡ f * total ws - least → x ≡ capped (scaled f 0 ws - least)
  scaled_sum f k j x none p e same =
      let some = some_counted none in
      e ∙ (λ i. capped (capped (above_is f i + others_counted k some p i) + j))
      ∙ ap (λ z. capped (z + j)) (capped_add (f * excess ws) (k * (length ws - 1))) ∙ capped_add_first (f * excess ws + k * (length ws - 1)) j
      ∙ ap capped (same ∙ ap (λ z. z - least) (sym (scaled_is f some)))

  pub scaled_some : (f x : ℕ) → 2 ≤ f → f ≤ 3 → (s.count ≡ 0 → ⊥)
      → x ≡ capped (capped (capped (f * s.excess) + capped (3 * f * (s.count - 1))) + (3 * f - 3)) → x ≡ capped (scaled f 0 ws - least)
  scaled_some zero x a b none e = absurd (omega arith)
  scaled_some (suc zero) x a b none e = absurd (omega arith)
  scaled_some (suc (suc zero)) x a b none e = scaled_sum 2 6 3 x none (omega arith) e (omega (arith, total_is ws l, some_counted none))
  scaled_some (suc (suc (suc zero))) x a b none e = scaled_sum 3 9 6 x none (omega arith) e (omega (arith, total_is ws l, some_counted none))
  scaled_some (suc (suc (suc (suc f)))) x a b none e = absurd (omega arith)
