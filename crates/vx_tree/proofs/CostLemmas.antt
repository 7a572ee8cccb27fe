-- The bound on turns.
use Rattle.std.proofs.Common.{◌≡◌, ◌+◌, ℕ, true, false, [], ◌∷◌, arith, ap, refl, sym}
use Rattle.std.proofs.lemmas.Bool.{false≢true}
use Rattle.vx_tree.specs.Tree as enc
use Rattle.vx_tree.specs.Tree.{Tree, Data, Slots, node, no_slots, absent, slot, is_canonical, lets_below}
use Rattle.vx_tree.specs.Charges.{put_back, appended}
use Rattle.vx_tree.specs.Cost.{none, all, cost, slots_cost, all_reached, extra, slots_extra, slots_sum, reach}
use Rattle.vx_value.specs.Types.{DataType}
use Rattle.vx_fn.specs.declared.function.ScalarFnRef.{ScalarFnRef}
use Rattle.vx_fn.specs.declared.function.ScalarFnRef.TheVariants as fn_of

-- a function's bounds are sums over its slots
slots_paid : (ss : Slots) → slots_cost put_back all ss ≡ slots_sum (λ c. 1 + cost c) ss
slots_paid no_slots = omega arith
slots_paid (absent ss) = slots_paid ss
slots_paid (slot t ss) = omega (arith, slots_paid ss)

slots_reached : (ss : Slots) → all_reached (slots_extra all ss) ≡ slots_sum reach ss
slots_reached no_slots = omega arith
slots_reached (absent ss) = slots_reached ss
slots_reached (slot t ss) = omega (arith, slots_reached ss)

pub function_cost : (ty : DataType) (n : ℕ) (f : ScalarFnRef) (ss : Slots) → cost (node ty n (enc.function f) ss) ≡ 3 + slots_sum (λ c. 1 + cost c) ss
function_cost ty n f ss = omega (arith, slots_paid ss)

pub function_reach : (ty : DataType) (n : ℕ) (f : ScalarFnRef) (ss : Slots) → lets_below f ≡ true
    → reach (node ty n (enc.function f) ss) ≡ 1 + slots_sum reach ss
function_reach ty n (fn_of.GetItem name) ss h = absurd (false≢true h)
function_reach ty n _ ss h = omega (arith, slots_reached ss)

pub item_reach : (ty : DataType) (n : ℕ) (f : ScalarFnRef) (ss : Slots) → lets_below f ≡ false → reach (node ty n (enc.function f) ss) ≡ 1
item_reach ty n (fn_of.GetItem name) ss h = refl
item_reach ty n _ ss h = absurd (false≢true (sym h))

-- slots that aren't executed cost nothing, and reach nowhere
pub unpaid : (turns : ℕ → ℕ → ℕ) (ss : Slots) → slots_cost turns none ss ≡ 0
unpaid turns no_slots = refl
unpaid turns (absent ss) = unpaid turns ss
unpaid turns (slot t ss) = omega (arith, unpaid turns ss)

pub unreached : (ss : Slots) → slots_extra none ss ≡ []
unreached no_slots = refl
unreached (absent ss) = unreached ss
unreached (slot t ss) = unreached ss

-- a column costs one turn
pub column_cost : (ty : DataType) (n : ℕ) (d : Data) (ss : Slots) → is_canonical d ≡ true → cost (node ty n d ss) ≡ 1
column_cost ty n enc.nulls ss h = omega (arith, unpaid put_back ss)
column_cost ty n (enc.bool bs) ss h = omega (arith, unpaid put_back ss)
column_cost ty n (enc.primitive p zs) ss h = omega (arith, unpaid put_back ss)
column_cost ty n (enc.decimals w zs) ss h = omega (arith, unpaid put_back ss)
column_cost ty n (enc.views rs) ss h = omega (arith, unpaid put_back ss)
column_cost ty n (enc.composed l) ss h = omega (arith, unpaid put_back ss)
column_cost ty n _ ss h = absurd (cc)

pub column_reach : (ty : DataType) (n : ℕ) (d : Data) (ss : Slots) → is_canonical d ≡ true → reach (node ty n d ss) ≡ 1
column_reach ty n enc.nulls ss h = refl
column_reach ty n (enc.bool bs) ss h = refl
column_reach ty n (enc.primitive p zs) ss h = refl
column_reach ty n (enc.decimals w zs) ss h = refl
column_reach ty n (enc.views rs) ss h = refl
column_reach ty n (enc.composed l) ss h = refl
column_reach ty n _ ss h = absurd (cc)

-- of a masked node its child alone counts
pub masked_cost : (ty : DataType) (n : ℕ) (c : Tree) (ss : Slots) → cost (node ty n enc.masked (slot c ss)) ≡ cost c + 4
masked_cost ty n c ss = omega (arith, unpaid put_back ss)

pub masked_reach : (ty : DataType) (n : ℕ) (c : Tree) (ss : Slots) → reach (node ty n enc.masked (slot c ss)) ≡ 1 + reach c
masked_reach ty n c ss = omega (arith, ap (λ es. all_reached (extra c ∷ es)) (unreached ss))

-- of chunks each counts, with a turn that appends it
chunks_paid : (ss : Slots) → slots_cost appended all ss ≡ slots_sum (λ c. 2 + cost c) ss
chunks_paid no_slots = omega arith
chunks_paid (absent ss) = chunks_paid ss
chunks_paid (slot t ss) = omega (arith, chunks_paid ss)

pub chunked_cost : (ty : DataType) (n : ℕ) (ss : Slots) → cost (node ty n enc.chunked ss) ≡ 2 + slots_sum (λ c. 2 + cost c) ss
chunked_cost ty n ss = omega (arith, chunks_paid ss)

pub interleave_cost : (ty : DataType) (n : ℕ) (ss : Slots) → cost (node ty n enc.interleave ss) ≡ 3 + slots_sum (λ c. 1 + cost c) ss
interleave_cost ty n ss = omega (arith, slots_paid ss)
