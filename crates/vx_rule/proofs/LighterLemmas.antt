-- What each row does to the weight of its tree, and where it stands.
use Rattle.std.proofs.Common.{◌≡◌, ℕ, zero, suc, ◌+◌, ◌-◌, ◌*◌, ◌<◌, ◌≤◌, List, [], ◌∷◌, Option, Some, None, Bool, true, false, if◌then◌else◌, refl, sym, subst, ap, arith, zero-add}
use Rattle.std.specs.Str.{bytes_eq}
use Rattle.std.proofs.Math.Nat.{mul-le-mul_left}
use Rattle.vx_value.specs.Types as type
use Rattle.vx_value.specs.Types.{DataType, Fields, nullability_of}
use Rattle.vx_value.specs.Values.{Value, null, boolean}
use Rattle.vx_value.specs.declared.dtype.Nullability.{Nullability}
use Rattle.vx_value.specs.declared.dtype.Nullability.TheVariants.{NonNullable, Nullable}
use Rattle.vx_mask.specs.Places.{true_count}
use Rattle.vx_fn.specs.declared.function.ScalarFnRef.{ScalarFnRef}
use Rattle.vx_fn.specs.declared.function.ScalarFnRef.TheVariants as fn_of
use Rattle.vx_tree.specs.Tree as enc
use Rattle.vx_tree.specs.Tree.{Tree, Data, Slots, node, no_slots, absent, slot, slots_of, datum, constant_of, slice_of, filter_of, dict_of, is_canonical, last_tree, lets_below}
use Rattle.vx_tree.specs.Slots.{map_slots, present_from, present_in, count_slots, IsPresent, IsPresentAt}
use Rattle.vx_tree.specs.Parts.{part_of, part_by, choice_of, choice_by, column_range}
use Rattle.vx_tree.specs.Columns.{empty_of, empty_fields}
use Rattle.vx_tree.specs.Validities.{of_truth, of_data, validity_of}
use Rattle.vx_tree.specs.NodeValidities.{slot_tree, on_array, constant_validity, joined, data_validity, if_nullable, node_validity, first_validity}
use Rattle.vx_tree.specs.declared.array.layout.Layout.{Layout}
use Rattle.vx_tree.specs.declared.array.layout.Layout.TheVariants as layout
use Rattle.vx_tree.specs.declared.validity.Validity.{Validity}
use Rattle.vx_tree.specs.declared.validity.Validity.TheVariants as validity
use Rattle.vx_tree.specs.Weight.{weight, slots_weights, column_weight, total, excess}
use Rattle.vx_tree.proofs.WeightLemmas.{weight_low}
use Rattle.vx_rule.specs.Rules.{Row, ArePresent, validity_column, masked_by, named_by, taken_by, taken_of, with_absent, field_in, F1, F2, F3, F4, P1, C1, N1_null, N1_valid, S_whole, S_empty, S1, S2, S3, S4, S5, S6, F5, F6, F7, F8, F9, G1, G2, G3, G4, G4_masked, M1, D1, D2, K1, K2, K3, K4}
use Rattle.vx_rule.proofs.PicksLemmas.{only_slot}

-- ---- weights of what rows make

mutual
  no_rows_light : (ty : DataType) → weight (empty_of ty) ≡ 3
  no_rows_light (type.struct fs m) = omega (arith, fields_light fs)
  no_rows_light (type.extension id t) = omega (arith, no_rows_light t)
  no_rows_light type.null = refl
  no_rows_light _ = refl

  fields_light : (fs : Fields) → excess (slots_weights (empty_fields fs)) ≡ 0
  fields_light type.no_fields = refl
  fields_light (type.field name t fs) = omega (arith, no_rows_light t, fields_light fs)

part_light : (d : Data) (a b : ℕ) (t : Tree) → weight (part_by d a b t) ≤ 2 * weight t
part_light (enc.constant v) a b t = omega (arith, weight_low t)
part_light _ a b t = omega arith

choice_light : (d : Data) (bits : List Bool) (t : Tree) → weight (choice_by d bits t) ≤ 3 * weight t
choice_light (enc.constant v) bits t = omega (arith, weight_low t)
choice_light _ bits t = omega arith

slices_light : (a b : ℕ) (ss : Slots) → total (slots_weights (map_slots (slice_of a b) ss)) ≤ 2 * total (slots_weights ss)
slices_light a b no_slots = omega arith
slices_light a b (absent ss) = slices_light a b ss
slices_light a b (slot t ss) = omega (arith, slices_light a b ss)

parts_light : (a b : ℕ) (ss : Slots) → total (slots_weights (map_slots (part_of a b) ss)) ≤ 2 * total (slots_weights ss)
parts_light a b no_slots = omega arith
parts_light a b (absent ss) = parts_light a b ss
parts_light a b (slot t ss) = omega (arith, part_light (datum t) a b t, parts_light a b ss)

choices_light : (bits : List Bool) (ss : Slots) → total (slots_weights (map_slots (choice_of bits) ss)) ≤ 3 * total (slots_weights ss)
choices_light bits no_slots = omega arith
choices_light bits (absent ss) = choices_light bits ss
choices_light bits (slot t ss) = omega (arith, choice_light (datum t) bits t, choices_light bits ss)

told_light : (n : ℕ) (vs : Slots) → weight (validity_column n vs) ≤ 3 + total (slots_weights vs)
told_light n no_slots = omega arith
told_light n (absent vs) = omega arith
told_light n (slot t vs) = omega arith

-- a column weighs at most 3 and its slots, and just that if it has a row
excess_light : (ws : List ℕ) → excess ws ≤ total ws
excess_light [] = omega arith
excess_light (w ∷ ws) = omega (arith, excess_light ws)

column_light : (n : ℕ) (ws : List ℕ) → column_weight n ws ≤ 3 + total ws
column_light zero ws = omega (arith, excess_light ws)
column_light (suc n) ws = omega arith

column_heavy : (n : ℕ) (ws : List ℕ) → 0 < n → column_weight n ws ≡ 3 + total ws
column_heavy zero ws h = absurd (omega (arith, h))
column_heavy (suc n) ws h = refl

-- a range of a column weighs at most twice as much as its slots, and 3
range_light : (a b k : ℕ) (ty : DataType) (d : Data) (ss : Slots) → is_canonical d ≡ true
    → weight (column_range a b (node ty k d ss)) ≤ 3 + 2 * total (slots_weights ss)
range_light a b k ty (enc.nulls) ss h = omega (arith, column_light (b - a) (slots_weights (map_slots (part_of a b) ss)), parts_light a b ss)
range_light a b k ty (enc.bool bs) ss h = omega (arith, column_light (b - a) (slots_weights (map_slots (part_of a b) ss)), parts_light a b ss)
range_light a b k ty (enc.primitive p zs) ss h = omega (arith, column_light (b - a) (slots_weights (map_slots (part_of a b) ss)), parts_light a b ss)
range_light a b k ty (enc.decimals w zs) ss h = omega (arith, column_light (b - a) (slots_weights (map_slots (part_of a b) ss)), parts_light a b ss)
range_light a b k ty (enc.views rs) ss h = omega (arith, column_light (b - a) (slots_weights (map_slots (part_of a b) ss)), parts_light a b ss)
range_light a b k ty (enc.composed l) ss h = omega (arith, column_light (b - a) (slots_weights (map_slots (part_of a b) ss)), parts_light a b ss)
range_light a b k ty _ ss h = absurd (cc)

canonical_heavy : (k : ℕ) (ty : DataType) (d : Data) (ss : Slots) → is_canonical d ≡ true → 0 < k → weight (node ty k d ss) ≡ 3 + total (slots_weights ss)
canonical_heavy k ty (enc.nulls) ss h some = column_heavy k (slots_weights ss) some
canonical_heavy k ty (enc.bool bs) ss h some = column_heavy k (slots_weights ss) some
canonical_heavy k ty (enc.primitive p zs) ss h some = column_heavy k (slots_weights ss) some
canonical_heavy k ty (enc.decimals w zs) ss h some = column_heavy k (slots_weights ss) some
canonical_heavy k ty (enc.views rs) ss h some = column_heavy k (slots_weights ss) some
canonical_heavy k ty (enc.composed l) ss h some = column_heavy k (slots_weights ss) some
canonical_heavy k ty _ ss h some = absurd (cc)

-- ---- functions

-- below which slices and filters pass
function_heavy : (ty : DataType) (n : ℕ) (f : ScalarFnRef) (ss : Slots) → lets_below f ≡ true → weight (node ty n (enc.function f) ss) ≡ 4 + total (slots_weights ss)
function_heavy ty n (fn_of.GetItem name) ss l = absurd (cc (l))
function_heavy ty n _ ss l = refl

-- the field of a filter or a slice, and of a masked array, in squares
lifted_light : (k x : ℕ) → 2 ≤ k → k ≤ 3 → 3 ≤ x → k * (4 + x * x) < 4 + k * x * (k * x)
lifted_light zero x low high least = absurd (omega (arith, low))
lifted_light (suc zero) x low high least = absurd (omega (arith, low))
lifted_light (suc (suc zero)) x low high least = omega (arith, mul-le-mul_left x least, least)
lifted_light (suc (suc (suc zero))) x low high least = omega (arith, mul-le-mul_left x least, least)
lifted_light (suc (suc (suc (suc k)))) x low high least = absurd (omega (arith, high))

-- ---- columns of structs

absent_weights : (ss : Slots) → slots_weights (with_absent ss) ≡ slots_weights ss
absent_weights no_slots = refl
absent_weights (absent ss) = absent_weights ss
absent_weights (slot t ss) = ap (λ ws. weight t ∷ ws) (absent_weights ss)

-- a field, and the structs' validity
field_light : (name : List ℕ) (fs : Fields) (ss : Slots) (c : Tree) → field_in name fs ss ≡ Some c → weight c ≤ 3 + excess (slots_weights ss)
field_light name type.no_fields ss c e = absurd (cc)
field_light name (type.field other t fs) no_slots c e = absurd (cc)
field_light name (type.field other t fs) (absent ss) c e = absurd (cc)
field_light name (type.field other t fs) (slot u ss) c e = by_test (bytes_eq name other) (field_light name fs ss c) e
  where
    by_test : (b : Bool) → (field_in name fs ss ≡ Some c → weight c ≤ 3 + excess (slots_weights ss)) → (if b then Some u else field_in name fs ss) ≡ Some c
        → weight c ≤ 3 + excess (slots_weights (slot u ss))
    by_test true later e = let same : u ≡ c = cc in omega (arith, ap weight same)
    by_test false later e = omega (arith, later e)

last_light : (n : ℕ) (ss : Slots) → weight (validity_column n (slots_of (last_tree ss ∷ []))) ≤ 3 + excess (slots_weights ss)
last_light n no_slots = omega arith
last_light n (absent no_slots) = omega arith
last_light n (absent (absent ss)) = last_light n (absent ss)
last_light n (absent (slot t ss)) = last_light n (slot t ss)
last_light n (slot t no_slots) = omega arith
last_light n (slot t (absent ss)) = omega (arith, last_light n (absent ss))
last_light n (slot t (slot u ss)) = omega (arith, last_light n (slot u ss))

-- the square of a number from 3 on is three times the number or more
square_high : (x : ℕ) → 3 ≤ x → 3 * x ≤ x * x
square_high x low = omega (arith, mul-le-mul_left x low)

-- ---- dictionaries

-- what the codes take of a validity
taken_by_light : (d : Data) (codes t : Tree) → weight (taken_by d codes t) ≤ weight codes * weight t + 10
taken_by_light (enc.constant v) codes t = omega arith
taken_by_light _ codes t = omega arith

-- of a slot of its own
taken_light : (codes : Tree) (vs : Slots) → count_slots vs ≡ 1 → total (slots_weights (map_slots (taken_of codes) vs)) ≤ weight codes * total (slots_weights vs) + 10
taken_light codes vs one =
    let o = only_slot vs one in
    subst (λ ss. total (slots_weights (map_slots (taken_of codes) ss)) ≤ weight codes * total (slots_weights ss) + 10) (sym o.1) (by_slot o.0)
  where
    by_slot : (v : Option Tree) → total (slots_weights (map_slots (taken_of codes) (slots_of (v ∷ [])))) ≤ weight codes * total (slots_weights (slots_of (v ∷ []))) + 10
    by_slot None = omega arith
    by_slot (Some t) = omega (arith, taken_by_light (datum t) codes t)

-- the weight of a validity's array; 0 if it has none
abbrev array_weight : Validity → ℕ
array_weight (validity.Array u) = weight u
array_weight _ = 0

named_light : (ty : DataType) (n : ℕ) (x : Value) (w : Validity) → weight (named_by ty n x w) ≤ 11 + array_weight w
named_light ty n x validity.NonNullable = omega arith
named_light ty n x validity.AllValid = omega arith
named_light ty n x validity.AllInvalid = omega arith
named_light ty n x (validity.Array u) = by_value x
  where
    by_value : (x : Value) → weight (masked_by ty n x u) ≤ 11 + weight u
    by_value null = omega arith
    by_value _ = omega arith

-- ---- a tree's validity weighs less than three times as much as the tree

abbrev IsLight : ℕ → Validity → Type 0
IsLight w v = array_weight v + 2 ≤ 3 * w

read_light : (d : Data) (t : Tree) → array_weight (of_data d t) ≤ weight t
read_light (enc.constant v) t = by_value v.value
  where
    by_value : (x : Value) → array_weight (of_truth x t) ≤ weight t
    by_value (boolean true) = omega arith
    by_value (boolean false) = omega arith
    by_value _ = omega arith
read_light _ t = omega arith

-- the validity in the first slots
told_slot_light : (i : ℕ) (ss : Slots) → array_weight (validity_of Nullable (slot_tree i ss)) ≤ total (slots_weights ss)
told_slot_light i no_slots = omega arith
told_slot_light zero (absent ss) = omega arith
told_slot_light zero (slot t ss) = omega (arith, read_light (datum t) t)
told_slot_light (suc i) (absent ss) = told_slot_light i ss
told_slot_light (suc i) (slot t ss) = omega (arith, told_slot_light i ss)

sliced_light : (a b w : ℕ) (v : Validity) → IsLight w v → IsLight (2 * w) (on_array (slice_of a b) v)
sliced_light a b w (validity.Array u) h = omega (arith, h)
sliced_light a b w validity.NonNullable h = omega (arith, h)
sliced_light a b w validity.AllValid h = omega (arith, h)
sliced_light a b w validity.AllInvalid h = omega (arith, h)

filtered_light : (bits : List Bool) (w : ℕ) (v : Validity) → IsLight w v → IsLight (3 * w) (on_array (filter_of bits) v)
filtered_light bits w (validity.Array u) h = omega (arith, h)
filtered_light bits w validity.NonNullable h = omega (arith, h)
filtered_light bits w validity.AllValid h = omega (arith, h)
filtered_light bits w validity.AllInvalid h = omega (arith, h)

joined_light : (n : ℕ) (v w : Validity) → array_weight (joined n v w) ≤ 4 + array_weight v + array_weight w
joined_light n validity.AllInvalid w = omega arith
joined_light n (validity.Array t) validity.AllInvalid = omega arith
joined_light n (validity.Array t) (validity.Array u) = omega arith
joined_light n (validity.Array t) validity.NonNullable = omega arith
joined_light n (validity.Array t) validity.AllValid = omega arith
joined_light n validity.NonNullable validity.AllInvalid = omega arith
joined_light n validity.NonNullable (validity.Array u) = omega arith
joined_light n validity.NonNullable validity.NonNullable = omega arith
joined_light n validity.NonNullable validity.AllValid = omega arith
joined_light n validity.AllValid validity.AllInvalid = omega arith
joined_light n validity.AllValid (validity.Array u) = omega arith
joined_light n validity.AllValid validity.NonNullable = omega arith
joined_light n validity.AllValid validity.AllValid = omega arith

if_light : (m : Nullability) (w : ℕ) (v : Validity) → 3 ≤ w → IsLight w v → IsLight w (if_nullable m v)
if_light NonNullable w v l h = omega (arith, l)
if_light Nullable w v l h = h

-- of the first slot's tree, if there is one
abbrev FirstLight : Slots → Type 0
FirstLight (slot t ss) = IsLight (weight t) (node_validity t)
FirstLight _ = Unit {0}

slice_light : (ty : DataType) (n a b : ℕ) (ss : Slots) → FirstLight ss → IsLight (weight (node ty n (enc.slice a b) ss)) (on_array (slice_of a b) (first_validity ss))
slice_light ty n a b no_slots f = omega arith
slice_light ty n a b (absent ss) f = omega (arith, weight_low (node ty n (enc.slice a b) (absent ss)))
slice_light ty n a b (slot t ss) f = omega (arith, sliced_light a b (weight t) (node_validity t) f)

filter_light : (ty : DataType) (n : ℕ) (bits : List Bool) (ss : Slots) → FirstLight ss
    → IsLight (weight (node ty n (enc.filter bits) ss)) (on_array (filter_of bits) (first_validity ss))
filter_light ty n bits no_slots f = omega arith
filter_light ty n bits (absent ss) f = omega (arith, weight_low (node ty n (enc.filter bits) (absent ss)))
filter_light ty n bits (slot t ss) f = omega (arith, filtered_light bits (weight t) (node_validity t) f)

masked_light : (ty : DataType) (n : ℕ) (ss : Slots) → FirstLight ss
    → IsLight (weight (node ty n enc.masked ss)) (joined n (validity_of Nullable (slot_tree 1 ss)) (first_validity ss))
masked_light ty n no_slots f = omega arith
masked_light ty n (absent ss) f = omega (arith, told_slot_light 0 ss, joined_light n (validity_of Nullable (slot_tree 0 ss)) validity.NonNullable)
masked_light ty n (slot t ss) f = omega (arith, f, told_slot_light 0 ss, joined_light n (validity_of Nullable (slot_tree 0 ss)) (node_validity t))

column_told_light : (n : ℕ) (ss : Slots) → IsLight (column_weight n (slots_weights ss)) (validity_of Nullable (slot_tree 0 ss))
column_told_light zero no_slots = omega arith
column_told_light zero (absent ss) = omega arith
column_told_light zero (slot t ss) = omega (arith, read_light (datum t) t)
column_told_light (suc n) no_slots = omega arith
column_told_light (suc n) (absent ss) = omega arith
column_told_light (suc n) (slot t ss) = omega (arith, read_light (datum t) t)

-- of a column of structs
last_told_light : (ss : Slots) → array_weight (validity_of Nullable (last_tree ss)) ≤ 3 + excess (slots_weights ss)
last_told_light no_slots = omega arith
last_told_light (absent no_slots) = omega arith
last_told_light (absent (absent ss)) = last_told_light (absent ss)
last_told_light (absent (slot t ss)) = last_told_light (slot t ss)
last_told_light (slot t no_slots) = omega (arith, read_light (datum t) t)
last_told_light (slot t (absent ss)) = omega (arith, last_told_light (absent ss))
last_told_light (slot t (slot u ss)) = omega (arith, last_told_light (slot u ss))

column_excess : (n : ℕ) (ws : List ℕ) → 3 + excess ws ≤ column_weight n ws
column_excess zero ws = omega arith
column_excess (suc n) ws = omega (arith, excess_light ws)

-- of a column that has its first slot's
first_told_light : (n : ℕ) (ss : Slots) → FirstLight ss → IsLight (column_weight n (slots_weights ss)) (first_validity ss)
first_told_light n no_slots f = omega (arith, column_excess n [])
first_told_light n (absent ss) f = omega (arith, column_excess n (slots_weights ss))
first_told_light n (slot t ss) f = omega (arith, f, column_excess n (slots_weights (slot t ss)))

-- a line for each layout
composed_light : (ty : DataType) (n : ℕ) (l : Layout) (ss : Slots) → FirstLight ss
    → IsLight (weight (node ty n (enc.composed l) ss)) (data_validity ty n (enc.composed l) ss (first_validity ss))
composed_light ty n layout.Struct ss f = omega (arith, last_told_light ss, column_excess n (slots_weights ss))
composed_light ty n layout.Extension ss f = first_told_light n ss f

constant_light : (w : ℕ) (x : Value) → 3 ≤ w → IsLight w (constant_validity x)
constant_light w null l = omega (arith, l)
constant_light w _ l = omega (arith, l)

data_light : (ty : DataType) (n : ℕ) (d : Data) (ss : Slots) → FirstLight ss → IsLight (weight (node ty n d ss)) (data_validity ty n d ss (first_validity ss))
data_light ty n (enc.constant v) ss f = constant_light (weight (node ty n (enc.constant v) ss)) v.value (weight_low (node ty n (enc.constant v) ss))
data_light ty n (enc.slice a b) ss f = slice_light ty n a b ss f
data_light ty n (enc.filter bits) ss f = filter_light ty n bits ss f
data_light ty n enc.masked ss f = masked_light ty n ss f
data_light ty n enc.is_valid ss f = omega arith
data_light ty n (enc.function g) ss f = omega (arith, weight_low (node ty n (enc.function g) ss))
data_light ty n enc.dict ss f = omega (arith, weight_low (node ty n enc.dict ss))
data_light ty n enc.chunked ss f = omega (arith, weight_low (node ty n enc.chunked ss))
data_light ty n enc.interleave ss f = omega (arith, weight_low (node ty n enc.interleave ss))
data_light ty n enc.nulls ss f = omega (arith, weight_low (node ty n enc.nulls ss))
data_light ty n (enc.bool bs) ss f = column_told_light n ss
data_light ty n (enc.primitive p zs) ss f = column_told_light n ss
data_light ty n (enc.decimals w zs) ss f = column_told_light n ss
data_light ty n (enc.views rs) ss f = column_told_light n ss
data_light ty n (enc.composed l) ss f = composed_light ty n l ss f

mutual
  validity_light : (t : Tree) → IsLight (weight t) (node_validity t)
  validity_light (node ty n d ss) =
      if_light (nullability_of ty) (weight (node ty n d ss)) (data_validity ty n d ss (first_validity ss)) (weight_low (node ty n d ss))
      (data_light ty n d ss (first_light ss))

  first_light : (ss : Slots) → FirstLight ss
  first_light no_slots = tt
  first_light (absent ss) = tt
  first_light (slot t ss) = validity_light t

-- ---- each answer weighs less: a line for each row
pub row_lighter : (w : Option ℕ) (t u : Tree) (os : List ℕ) → Row w t u os → weight u < weight t
row_lighter w t u os (F1 ty n bits c e) = omega (arith, weight_low c)
row_lighter w t u os (F2 ty n bits c e z) = omega (arith, weight_low c, no_rows_light (enc.dtype c))
row_lighter w t u os (F3 ty n bits c a b e r) = omega (arith, weight_low c)
row_lighter w t u os (F4 ty sty n k bits ss apart some) = omega (
  arith,
  column_heavy k (slots_weights ss) some,
  column_light (true_count bits) (slots_weights (map_slots (choice_of bits) ss)),
  choices_light bits ss,
)
row_lighter w t u os (P1 ty n options ss) = omega (arith, ap (column_weight n) (absent_weights ss), column_light n (slots_weights ss))
row_lighter w t u os (C1 ty n target c e) = omega arith
row_lighter w t u os (N1_null ty n c e) = omega (arith, weight_low c)
row_lighter w t u os (N1_valid ty n c e) = omega (arith, weight_low c)
row_lighter w t u os (S_whole ty n a b c l z y) = omega (arith, weight_low c)
row_lighter w t u os (S_empty ty n a b c l z y) = omega (arith, weight_low c, no_rows_light (enc.dtype c))
row_lighter w t u os (S1 ty sty n a b k s r c p) = omega (arith, weight_low c)
row_lighter w t u os (S2 ty cty n a b k v p) = omega arith
row_lighter w t u os (S3 ty cty n a b k d ss h p) = omega (
  arith,
  range_light a b k cty d ss h,
  canonical_heavy k cty d ss h
      (omega (arith, p.some_rows, p.not_all)),
)
row_lighter w t u os (S4 ty fty n a b k f ss l p) =
    omega (arith, slices_light a b ss, function_heavy fty k f ss l, function_heavy fty (b - a) f (map_slots (slice_of a b) ss) l)
row_lighter w t u os (S5 ty mty n a b k c vs p) = omega (arith, parts_light a b vs)
row_lighter w t u os (S6 ty dty n a b k c vs p) = omega arith
row_lighter w t u os (F5 ty fty n k outer inner c) = omega (arith, weight_low c)
row_lighter w t u os (F6 ty cty n k bits v) = omega arith
row_lighter w t u os (F7 ty fty n k bits f ss l) =
    omega (arith, choices_light bits ss, function_heavy fty k f ss l, function_heavy fty (true_count bits) f (map_slots (choice_of bits) ss) l)
row_lighter w t u os (F8 ty mty n k bits c vs) = omega (arith, choices_light bits vs)
row_lighter w t u os (F9 ty dty n k bits c vs) = omega arith
row_lighter w t u os (G1 ty fty n k name bits c) = omega (arith, lifted_light 3 (weight c) (omega arith) (omega arith) (weight_low c))
row_lighter w t u os (G2 ty sty n k a b name c) = omega (arith, lifted_light 2 (weight c) (omega arith) (omega arith) (weight_low c))
row_lighter w t u os (G3 ty mty s n k name c vs e) = omega (arith, told_light n vs)
row_lighter w t u os (G4 ty n k name fs ss c e) =
    let whole = column_weight k (slots_weights ss) in
    omega (arith, field_light name fs ss c e, column_excess k (slots_weights ss), square_high whole (omega (arith, column_excess k (slots_weights ss))))
row_lighter w t u os (G4_masked ty n k name fs ss c e) =
    let whole = column_weight k (slots_weights ss) in
    omega (
      arith,
      field_light name fs ss c e,
      last_light n ss,
      column_excess k (slots_weights ss),
      square_high whole (omega (arith, column_excess k (slots_weights ss))),
    )
row_lighter w t u os (M1 ty mty n k c m vs) = omega (arith, told_light n vs)
row_lighter w t u os (D1 ty s n k c v) = omega (arith, weight_low c, named_light ty n v.value (node_validity c), validity_light c)
row_lighter w t u os (D2 ty mty n k codes c vs f g one) =
    omega (arith, weight_low codes, taken_light codes vs one)
row_lighter w t u os (K1 ty s n k target v x e) = omega arith
row_lighter w t u os (K2 ty s n k v x e) = omega arith
row_lighter w t u os (K3 ty s r q n i j k options x y z v e) = omega arith
row_lighter w t u os (K4 ty s r n j k x y v e) = omega arith

-- so none gives its own tree
pub row_moves : (w : Option ℕ) (t : Tree) (os : List ℕ) → Row w t t os → ⊥
row_moves w t os h = omega (arith, row_lighter w t t os h)

-- ---- the slots that are to be optimized hold trees

present_are : (k : ℕ) (ss : Slots) (t : Tree) → ((j : ℕ) → IsPresentAt j ss → IsPresent (k + j) t) → ArePresent (present_from k ss) t
present_are k no_slots t f = tt
present_are k (absent ss) t f = present_are (k + 1) ss t (λ j h. let e : k + suc j ≡ k + 1 + j = omega arith in subst (λ n. IsPresent n t) e (f (suc j) h))
present_are k (slot c ss) t f =
    let z : k + 0 ≡ k = omega arith in (
      subst (λ n. IsPresent n t) z (f 0 tt),
      present_are (k + 1) ss t (λ j h. let e : k + suc j ≡ k + 1 + j = omega arith in subst (λ n. IsPresent n t) e
          (f (suc j) h)),
    )

all_present : (t : Tree) → ArePresent (present_in t) t
all_present (node ty n d ss) = present_are 0 ss (node ty n d ss) (λ j h. rw zero-add h)

pub row_present : (w : Option ℕ) (t u : Tree) (os : List ℕ) → Row w t u os → ArePresent os u
row_present w t u os (F1 ty n bits c e) = tt
row_present w t u os (F2 ty n bits c e z) = tt
row_present w t u os (F3 ty n bits c a b e r) = tt
row_present w t u os (F4 ty sty n k bits ss apart some) = all_present u
row_present w t u os (P1 ty n options ss) = tt
row_present w t u os (C1 ty n target c e) = tt
row_present w t u os (N1_null ty n c e) = tt
row_present w t u os (N1_valid ty n c e) = tt
row_present w t u os (S_whole ty n a b c l z y) = tt
row_present w t u os (S_empty ty n a b c l z y) = tt
row_present w t u os (S1 ty sty n a b k s r c p) = tt
row_present w t u os (S2 ty cty n a b k v p) = tt
row_present w t u os (S3 ty cty n a b k d ss h p) = all_present u
row_present w t u os (S4 ty fty n a b k f ss l p) = all_present u
row_present w t u os (S5 ty mty n a b k c vs p) = all_present u
row_present w t u os (S6 ty dty n a b k c vs p) = (tt, tt)
row_present w t u os (F5 ty fty n k outer inner c) = tt
row_present w t u os (F6 ty cty n k bits v) = tt
row_present w t u os (F7 ty fty n k bits f ss l) = all_present u
row_present w t u os (F8 ty mty n k bits c vs) = all_present u
row_present w t u os (F9 ty dty n k bits c vs) = (tt, tt)
row_present w t u os (G1 ty fty n k name bits c) = (tt, tt)
row_present w t u os (G2 ty sty n k a b name c) = (tt, tt)
row_present w t u os (G3 ty mty s n k name c vs e) = (tt, tt)
row_present w t u os (G4 ty n k name fs ss c e) = tt
row_present w t u os (G4_masked ty n k name fs ss c e) = tt
row_present w t u os (M1 ty mty n k c m vs) = tt
row_present w t u os (D1 ty s n k c v) = tt
row_present w t u os (D2 ty mty n k codes c vs f g one) = all_present u
row_present w t u os (K1 ty s n k target v x e) = tt
row_present w t u os (K2 ty s n k v x e) = tt
row_present w t u os (K3 ty s r q n i j k options x y z v e) = tt
row_present w t u os (K4 ty s r n j k x y v e) = tt

-- ---- a row of a slot is one of a slot that holds a tree
pub row_asked : (i : ℕ) (t u : Tree) (os : List ℕ) → Row (Some i) t u os → IsPresent i t
row_asked i t u os (S_whole ty n a b c l z y) = tt
row_asked i t u os (S_empty ty n a b c l z y) = tt
row_asked i t u os (S1 ty sty n a b k s r c p) = tt
row_asked i t u os (S2 ty cty n a b k v p) = tt
row_asked i t u os (S3 ty cty n a b k d ss h p) = tt
row_asked i t u os (S4 ty fty n a b k f ss l p) = tt
row_asked i t u os (S5 ty mty n a b k c vs p) = tt
row_asked i t u os (S6 ty dty n a b k c vs p) = tt
row_asked i t u os (F5 ty fty n k outer inner c) = tt
row_asked i t u os (F6 ty cty n k bits v) = tt
row_asked i t u os (F7 ty fty n k bits f ss l) = tt
row_asked i t u os (F8 ty mty n k bits c vs) = tt
row_asked i t u os (F9 ty dty n k bits c vs) = tt
row_asked i t u os (G1 ty fty n k name bits c) = tt
row_asked i t u os (G2 ty sty n k a b name c) = tt
row_asked i t u os (G3 ty mty s n k name c vs e) = tt
row_asked i t u os (G4 ty n k name fs ss c e) = tt
row_asked i t u os (G4_masked ty n k name fs ss c e) = tt
row_asked i t u os (M1 ty mty n k c m vs) = tt
row_asked i t u os (D1 ty s n k c v) = tt
row_asked i t u os (D2 ty mty n k codes c vs f g one) = tt
row_asked i t u os (K1 ty s n k target v x e) = tt
row_asked i t u os (K2 ty s n k v x e) = tt
row_asked i t u os (K3 ty s r q n i' j k options x y z v e) = tt
row_asked i t u os (K4 ty s r n j k x y v e) = tt
