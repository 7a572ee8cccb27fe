-- Weight: what a charge has to be, the least weight, that it rises with each slot, and that it is above the bounds on turns.
use Rattle.std.proofs.Common.{◌≡◌, ℕ, zero, suc, ◌+◌, ◌*◌, ◌≤◌, ◌<◌, List, [], ◌∷◌, length, arith, ap, inl, inr}
use Rattle.std.specs.Prelude.{◌⊎◌, sum}
use Rattle.std.proofs.Math.Nat.{mul-le-mul_left}
use Rattle.std.proofs.lemmas.List.Sums.{sum_by-cons}
use Rattle.vx_fn.specs.declared.function.ScalarFnRef.{ScalarFnRef}
use Rattle.vx_fn.specs.declared.function.ScalarFnRef.TheVariants as fn_of
use Rattle.vx_tree.specs.Tree as enc
use Rattle.vx_tree.specs.Tree.{Tree, Data, Slots, node, no_slots, absent, slot}
use Rattle.vx_tree.specs.Slots.{HasSlot, HoldsAt, put, set_slot}
use Rattle.vx_tree.specs.Charges.{Charge, Executed, none, first, all, put_back, pushed_below, appended, none_reached, first_reached, all_reached}
use Rattle.vx_tree.specs.Charges.{total, excess, enlarged, product, column_weight, times, added, scaled, squared}
use Rattle.vx_tree.specs.Charges.{column_charge, product_charge, chunk_charge, interleaved_charge}
use Rattle.vx_tree.specs.Cost.{charge, after, cost, base_cost, slots_cost, slots_extra, reach}
use Rattle.vx_tree.specs.Weight.{weight, slots_weights}
use Rattle.vx_tree.proofs.CostLemmas.{unpaid}

-- ---- what a charge has to be

-- each is at least 3
abbrev pub AreHeavy : List ℕ → Type 0
AreHeavy [] = Unit {0}
AreHeavy (w ∷ ws) = (3 ≤ w) × AreHeavy ws

-- the first list is the second with one place less by k or more
abbrev pub IsLess : ℕ → List ℕ → List ℕ → Type 0
IsLess k [] ws = ⊥
IsLess k (v ∷ vs) [] = ⊥
IsLess k (v ∷ vs) (w ∷ ws) = ((k + v ≤ w) × (vs ≡ ws)) ⊎ ((v ≡ w) × IsLess k vs ws)

-- the weight is above the bounds on turns
abbrev pub IsBounded : Tree → Type 0
IsBounded t = (cost t < weight t) × (3 * reach t ≤ weight t)

abbrev pub AreBounded : Slots → Type 0
AreBounded no_slots = Unit {0}
AreBounded (absent ss) = AreBounded ss
AreBounded (slot t ss) = IsBounded t × AreBounded ss

-- it pays for the turns
pub record Pays (c : Charge) : Type 0 where
  pub positive : 0 < c.own
  -- a slot's turns are its own, one that puts it back, and those that are left then
  pub slot_paid : (k e : ℕ) → k + 1 + c.left ≤ c.for_slot k e
  -- the weight is at least 3 if those of the slots are, and falls as one of them does
  pub low : (n : ℕ) (ws : List ℕ) → AreHeavy ws → 3 ≤ c.weight n ws
  pub less : (k n : ℕ) (vs ws : List ℕ) → AreHeavy vs → IsLess k vs ws → k + c.weight n vs ≤ c.weight n ws
  -- it is above the bounds on turns if those of the slots are
  pub turns : (n : ℕ) (ss : Slots) → AreBounded ss → c.own + slots_cost c.for_slot c.executed ss < c.weight n (slots_weights ss)
  pub reached : (n : ℕ) (ss : Slots) → AreBounded ss → 3 * (1 + c.extra (slots_extra c.executed ss)) ≤ c.weight n (slots_weights ss)

-- ---- the slots' reach

-- a node reaches no further than its slots added up
abbrev pub IsWithin : (List ℕ → ℕ) → Type 0
IsWithin reached = (es : List ℕ) → reached es ≤ all_reached es

none_within : IsWithin none_reached
none_within es = omega arith

first_within : IsWithin first_reached
first_within [] = omega arith
first_within (e ∷ es) = omega arith

sum_within : IsWithin sum
sum_within [] = omega arith
sum_within (e ∷ es) = omega (arith, sum_by-cons (λ x. x) e es, sum_within es)

all_within : IsWithin all_reached
all_within es = omega arith

slots_reach : (e : Executed) (ss : Slots) → AreBounded ss → 3 * all_reached (slots_extra e ss) ≤ total (slots_weights ss)
slots_reach e no_slots h = omega arith
slots_reach e (absent ss) h = slots_reach (after e) ss h
slots_reach none (slot t ss) h = omega (arith, slots_reach none ss h.1)
slots_reach first (slot t ss) h = omega (arith, h.0.1, slots_reach none ss h.1)
slots_reach all (slot t ss) h = omega (arith, h.0.1, slots_reach all ss h.1)

-- ---- a column

less_total : (k : ℕ) (vs ws : List ℕ) → IsLess k vs ws → k + total vs ≤ total ws
less_total k [] ws h = absurd h
less_total k (v ∷ vs) [] h = absurd h
less_total k (v ∷ vs) (w ∷ ws) (inl h) = let e : total vs ≡ total ws = ap total h.1 in omega (arith, h.0)
less_total k (v ∷ vs) (w ∷ ws) (inr h) = omega (arith, h.0, less_total k vs ws h.1)

less_excess : (k : ℕ) (vs ws : List ℕ) → AreHeavy vs → IsLess k vs ws → k + excess vs ≤ excess ws
less_excess k [] ws g h = absurd h
less_excess k (v ∷ vs) [] g h = absurd h
less_excess k (v ∷ vs) (w ∷ ws) g (inl h) = let e : excess vs ≡ excess ws = ap excess h.1 in omega (arith, h.0, g.0)
less_excess k (v ∷ vs) (w ∷ ws) g (inr h) = omega (arith, h.0, less_excess k vs ws g.1 h.1)

column_low : (n : ℕ) (ws : List ℕ) → 3 ≤ column_weight n ws
column_low zero ws = omega arith
column_low (suc n) ws = omega arith

column_less : (k n : ℕ) (vs ws : List ℕ) → AreHeavy vs → IsLess k vs ws → k + column_weight n vs ≤ column_weight n ws
column_less k zero vs ws g h = omega (arith, less_excess k vs ws g h)
column_less k (suc n) vs ws g h = omega (arith, less_total k vs ws h)

column_pays : Pays column_charge
column_pays = record {
  positive = omega arith;
  slot_paid = λ k e. omega arith;
  low = λ n ws g. column_low n ws;
  less = column_less;
  turns = λ n ss h. omega (arith, unpaid put_back ss, column_low n (slots_weights ss));
  reached = λ n ss h. omega (arith, column_low n (slots_weights ss));
}

-- ---- a node that weighs k more than its slots

put_back_cost : (e : Executed) (ss : Slots) → AreBounded ss → slots_cost put_back e ss ≤ total (slots_weights ss)
put_back_cost e no_slots h = omega arith
put_back_cost e (absent ss) h = put_back_cost (after e) ss h
put_back_cost none (slot t ss) h = omega (arith, put_back_cost none ss h.1)
put_back_cost first (slot t ss) h = omega (arith, h.0.0, put_back_cost none ss h.1)
put_back_cost all (slot t ss) h = omega (arith, h.0.0, put_back_cost all ss h.1)

module _ (own k : ℕ) (e : Executed) (reached : List ℕ → ℕ) (some : 0 < own) (below : own < k) (low : 3 ≤ k) (within : IsWithin reached) where
  added_pays : Pays (record { own = own; for_slot = put_back; left = 0; executed = e; extra = reached; weight = added k })
  added_pays = record {
    positive = some;
    slot_paid = λ c e. omega arith;
    low = λ n ws g. omega (arith, low);
    less = λ j n vs ws g h. omega (arith, less_total j vs ws h);
    turns = λ n ss h. omega (arith, below, put_back_cost e ss h);
    reached = λ n ss h. omega (arith, low, within (slots_extra e ss), slots_reach e ss h);
  }

-- ---- a node that weighs k times as much as its slots

times_low : (k : ℕ) (ws : List ℕ) → 2 ≤ k → AreHeavy ws → 3 ≤ times k ws
times_low k [] h g = omega arith
times_low k (w ∷ ws) h g = omega (arith, g.0, mul-le-mul_left w h)

product_less : (k x y f : ℕ) → k + x ≤ y → 1 ≤ f → k + f * x ≤ f * y
product_less k x y f h p = omega (arith, mul-le-mul_left f h, mul-le-mul_left k p)

times_less : (k f : ℕ) (vs ws : List ℕ) → 1 ≤ f → IsLess k vs ws → k + times f vs ≤ times f ws
times_less k f [] ws p h = absurd h
times_less k f (v ∷ vs) [] p h = absurd h
times_less k f (v ∷ vs) (w ∷ ws) p h = omega (arith, product_less k (v + total vs) (w + total ws) f (less_total k (v ∷ vs) (w ∷ ws) h) p)

times_reach : (k e : ℕ) (ws : List ℕ) → 2 ≤ k → 3 * e ≤ total ws → AreHeavy ws → 3 * (1 + e) ≤ times k ws
times_reach k e [] p h g = omega arith
times_reach k e (w ∷ ws) p h g = omega (arith, g.0, mul-le-mul_left w p, mul-le-mul_left (total ws) p)

pushed_cost : (e : Executed) (ss : Slots) → AreBounded ss → slots_cost pushed_below e ss + 3 * length (slots_weights ss) ≤ 2 * total (slots_weights ss)
pushed_cost e no_slots h = omega arith
pushed_cost e (absent ss) h = pushed_cost (after e) ss h
pushed_cost none (slot t ss) h = omega (arith, h.0.1, pushed_cost none ss h.1)
pushed_cost first (slot t ss) h = omega (arith, h.0.0, h.0.1, pushed_cost none ss h.1)
pushed_cost all (slot t ss) h = omega (arith, h.0.0, h.0.1, pushed_cost all ss h.1)

times_cost : (k own c : ℕ) (ws : List ℕ) → 2 ≤ k → own ≤ k → own ≤ 3 → c + 3 * length ws ≤ 2 * total ws → AreHeavy ws → own + c < times k ws
times_cost k own c [] p q r h g = omega arith
times_cost zero own c (w ∷ ws) p q r h g = absurd (omega arith)
times_cost (suc zero) own c (w ∷ ws) p q r h g = absurd (omega arith)
times_cost (suc (suc j)) own c (w ∷ ws) p q r h g = let low : 1 ≤ w = omega (arith, g.0) in omega (arith, mul-le-mul_left j low)

-- a tree reaches itself at least
bounded_heavy : (ss : Slots) → AreBounded ss → AreHeavy (slots_weights ss)
bounded_heavy no_slots h = tt
bounded_heavy (absent ss) h = bounded_heavy ss h
bounded_heavy (slot t ss) h = (omega (arith, h.0.1), bounded_heavy ss h.1)

module _ (own k : ℕ) (e : Executed) (reached : List ℕ → ℕ) (some : 0 < own) (below : own ≤ k) (few : own ≤ 3) (twice : 2 ≤ k) (within : IsWithin reached) where
  scaled_pays : Pays (record { own = own; for_slot = pushed_below; left = 0; executed = e; extra = reached; weight = scaled k })
  scaled_pays = record {
    positive = some;
    slot_paid = λ c e. omega arith;
    low = λ n ws g. times_low k ws twice g;
    less = λ j n vs ws g h. times_less j k vs ws (omega (arith, twice)) h;
    turns = λ n ss h. times_cost k own _ (slots_weights ss) twice below few (pushed_cost e ss h) (bounded_heavy ss h);
    reached = λ n ss h.
        times_reach k _ (slots_weights ss) twice (omega (arith, within (slots_extra e ss), slots_reach e ss h)) (bounded_heavy ss h);
  }

-- ---- a node that weighs the product of its slots and 10

product_low : (ws : List ℕ) → AreHeavy ws → 1 ≤ product ws
product_low [] g = omega arith
product_low (w ∷ ws) g = let low : 1 ≤ w = omega (arith, g.0) in omega (arith, product_low ws g.1, mul-le-mul_left w (product_low ws g.1))

less_product : (k : ℕ) (vs ws : List ℕ) → AreHeavy vs → IsLess k vs ws → k + product vs ≤ product ws
less_product k [] ws g h = absurd h
less_product k (v ∷ vs) [] g h = absurd h
less_product k (v ∷ vs) (w ∷ ws) g (inl h) =
    let e : product vs ≡ product ws = ap product h.1 in
    let same : w * product vs ≡ w * product ws = ap (λ p. w * p) e in
    omega (arith, same, product_less k v w (product vs) h.0 (product_low vs g.1))
less_product k (v ∷ vs) (w ∷ ws) g (inr h) =
    let same : v * product ws ≡ w * product ws = ap (λ x. x * product ws) h.0 in
    omega (arith, same, product_less k (product vs) (product ws) v (less_product k vs ws g.1 h.1) (omega (arith, g.0)))

-- factors from 3 on add up to no more than their product
sum_product : (w p : ℕ) → 2 ≤ w → 2 ≤ p → w + p ≤ w * p
sum_product w zero g h = absurd (omega arith)
sum_product w (suc zero) g h = absurd (omega arith)
sum_product w (suc (suc q)) g h = omega (arith, mul-le-mul_left q g)

total_product : (ws : List ℕ) → AreHeavy ws → total ws ≤ product ws
total_product [] g = omega arith
total_product (w ∷ []) g = omega arith
total_product (w ∷ v ∷ ws) g =
    let rest = total_product (v ∷ ws) g.1 in
    omega (arith, rest, sum_product w (product (v ∷ ws)) (omega (arith, g.0)) (omega (arith, rest, g.1.0)))

pub product_pays : Pays product_charge
product_pays = record {
  positive = omega arith;
  slot_paid = λ k e. omega arith;
  low = λ n ws g. omega arith;
  less = λ k n vs ws g h. omega (arith, less_product k vs ws g h);
  turns = λ n ss h. omega (arith, put_back_cost all ss h, total_product (slots_weights ss) (bounded_heavy ss h));
  reached = λ n ss h.
      omega (arith, first_within (slots_extra all ss), slots_reach all ss h, total_product (slots_weights ss) (bounded_heavy ss h));
}

-- ---- a node that weighs k more than the square of its slots

square_high : (x : ℕ) → x ≤ x * x
square_high zero = omega arith
square_high (suc x) = omega arith

square_less : (k x y : ℕ) → k + x ≤ y → k + x * x ≤ y * y
square_less k x zero h = let none : x ≡ 0 = omega (arith, h) in let square : x * x ≡ 0 = ap (λ z. z * z) none in omega (arith, h, square)
square_less k x (suc y) h =
    let low : x ≤ suc y = omega (arith, h) in
    omega (arith, product_less k x (suc y) (suc y) h (omega arith), mul-le-mul_left x low)

pub squared_pays : Pays (record { own = 3; for_slot = put_back; left = 0; executed = all; extra = none_reached; weight = squared 4 })
squared_pays = record {
  positive = omega arith;
  slot_paid = λ c e. omega arith;
  low = λ n ws g. omega arith;
  less = λ k n vs ws g h. omega (arith, square_less k (total vs) (total ws) (less_total k vs ws h));
  turns = λ n ss h. omega (arith, put_back_cost all ss h, square_high (total (slots_weights ss)));
  reached = λ n ss h. omega arith;
}

-- ---- a node that weighs 3 more than its slots, each of them with 2 added

less_enlarged : (k : ℕ) (vs ws : List ℕ) → IsLess k vs ws → k + enlarged vs ≤ enlarged ws
less_enlarged k [] ws h = absurd h
less_enlarged k (v ∷ vs) [] h = absurd h
less_enlarged k (v ∷ vs) (w ∷ ws) (inl h) = let e : enlarged vs ≡ enlarged ws = ap enlarged h.1 in omega (arith, h.0)
less_enlarged k (v ∷ vs) (w ∷ ws) (inr h) = omega (arith, h.0, less_enlarged k vs ws h.1)

appended_cost : (ss : Slots) → AreBounded ss → slots_cost appended all ss ≤ enlarged (slots_weights ss)
appended_cost no_slots h = omega arith
appended_cost (absent ss) h = appended_cost ss h
appended_cost (slot t ss) h = omega (arith, h.0.0, appended_cost ss h.1)

pub chunk_pays : Pays chunk_charge
chunk_pays = record {
  positive = omega arith;
  slot_paid = λ k e. omega arith;
  low = λ n ws g. omega arith;
  less = λ k n vs ws g h. omega (arith, less_enlarged k vs ws h);
  turns = λ n ss h. omega (arith, appended_cost ss h);
  reached = λ n ss h. omega arith;
}

pub interleaved_pays : Pays interleaved_charge
interleaved_pays = added_pays 3 4 all none_reached (omega arith) (omega arith) (omega arith) none_within

-- ---- every encoding's charge pays: a line for each

function_pays : (f : ScalarFnRef) → Pays (charge (enc.function f))
function_pays (fn_of.GetItem name) = squared_pays
function_pays _ = added_pays 3 4 all all_reached (omega arith) (omega arith) (omega arith) all_within

pub pays : (d : Data) → Pays (charge d)
pays (enc.constant v) = added_pays 2 3 none none_reached (omega arith) (omega arith) (omega arith) none_within
pays (enc.slice a b) = scaled_pays 2 2 all sum (omega arith) (omega arith) (omega arith) (omega arith) sum_within
pays (enc.filter bits) = scaled_pays 3 3 all none_reached (omega arith) (omega arith) (omega arith) (omega arith) none_within
pays enc.masked = added_pays 3 8 first all_reached (omega arith) (omega arith) (omega arith) all_within
pays enc.is_valid = added_pays 2 4 all none_reached (omega arith) (omega arith) (omega arith) none_within
pays (enc.function f) = function_pays f
pays enc.dict = product_pays
pays enc.chunked = chunk_pays
pays enc.interleave = interleaved_pays
pays enc.nulls = column_pays
pays (enc.bool bs) = column_pays
pays (enc.primitive p zs) = column_pays
pays (enc.decimals w zs) = column_pays
pays (enc.views rs) = column_pays
pays (enc.composed l) = column_pays

-- ---- the turns of a node

pub base_positive : (d : Data) → 0 < base_cost d
base_positive d = (pays d).positive

pub cost_positive : (t : Tree) → 0 < cost t
cost_positive (node ty n d ss) = omega (arith, base_positive d)

-- ---- the least weight

mutual
  pub weight_low : (t : Tree) → 3 ≤ weight t
  weight_low (node ty n d ss) = (pays d).low n (slots_weights ss) (slots_low ss)

  pub slots_low : (ss : Slots) → AreHeavy (slots_weights ss)
  slots_low no_slots = tt
  slots_low (absent ss) = slots_low ss
  slots_low (slot t ss) = (weight_low t, slots_low ss)

-- ---- a slot that weighs less

set_less : (i k : ℕ) (c d : Tree) (ss : Slots) → HoldsAt i c ss → k + weight d ≤ weight c → IsLess k (slots_weights (set_slot i d ss)) (slots_weights ss)
set_less i k c d no_slots h l = absurd h
set_less zero k c d (absent ss) h l = absurd h
set_less zero k c d (slot t ss) h l = let e : weight t ≡ weight c = ap weight h in let m : k + weight d ≤ weight t = omega arith in inl
    (m, λ i. slots_weights ss)
set_less (suc i) k c d (absent ss) h l = set_less i k c d ss h l
set_less (suc i) k c d (slot t ss) h l = inr (λ i. weight t, set_less i k c d ss h l)

pub put_lighter : (i k : ℕ) (c d t : Tree) → HasSlot i c t → k + weight d ≤ weight c → k + weight (put i d t) ≤ weight t
put_lighter i k c d (node ty n e ss) h l = (pays e).less k n (slots_weights (set_slot i d ss)) (slots_weights ss) (slots_low (set_slot i d ss))
    (set_less i k c d ss h l)

-- ---- above the bounds on turns

mutual
  bounded : (t : Tree) → IsBounded t
  bounded (node ty n d ss) = let under = all_bounded ss in ((pays d).turns n ss under, (pays d).reached n ss under)

  all_bounded : (ss : Slots) → AreBounded ss
  all_bounded no_slots = tt
  all_bounded (absent ss) = all_bounded ss
  all_bounded (slot t ss) = (bounded t, all_bounded ss)

pub cost_weight : (t : Tree) → cost t < weight t
cost_weight t = (bounded t).0
