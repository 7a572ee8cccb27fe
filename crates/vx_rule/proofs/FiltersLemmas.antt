-- What the rows of filters keep: F1 to F3 and F5 to F9.
use Rattle.std.proofs.Common.{◌≡◌, ℕ, ◌-◌, ◌≤◌, Bool, true, List, length, map, drop, refl, sym, ap, subst, ◌∙◌, arith}
use Rattle.std.specs.List.{range_with_len}
use Rattle.std.specs.Cmp.{unsigned_Decides}
use Rattle.std.proofs.lemmas.List.{take_all, length-take-le, length-drop}
use Rattle.std.proofs.lemmas.List.FromFn.{length-range_with_len}
use Rattle.vx_value.specs.Types.{DataType}
use Rattle.vx_value.specs.Typed.{Typed}
use Rattle.vx_value.specs.Cell.{Cell, value}
use Rattle.vx_mask.specs.Masks.{is_all_true}
use Rattle.vx_mask.specs.Places.{true_count, chosen, combined, IsRun}
use Rattle.vx_mask.proofs.MasksLemmas.{all_true_is}
use Rattle.vx_mask.proofs.PlacesLemmas.{length-chosen, true_count-combined}
use Rattle.vx_mask.proofs.ChosenLemmas.{chosen-all, chosen-none, chosen_map, chosen-replicate, run_chosen, run_within}
use Rattle.vx_fn.specs.declared.function.ScalarFnRef.{ScalarFnRef}
use Rattle.vx_tree.specs.Tree as enc
use Rattle.vx_tree.specs.Tree.{Tree, Slots, node, no_slots, slot, dtype, len, constant_of, slice_of, filter_of}
use Rattle.vx_tree.specs.Slots.{map_slots}
use Rattle.vx_tree.specs.Parts.{choice_of}
use Rattle.vx_tree.specs.Columns.{empty_of}
use Rattle.vx_tree.specs.Cells.{rows, slots_rows, cells_at, HasNoFault, IsClean}
use Rattle.vx_tree.specs.Lookups.{taken}
use Rattle.vx_tree.specs.Keeps.{KeepsExactly}
use Rattle.vx_tree.specs.Well.{shape, shape_of, shapes, IsNode, IsWell}
use Rattle.vx_tree.proofs.CellsLemmas.{rows_counted}
use Rattle.vx_tree.proofs.ChoicesLemmas.{filter_twice}
use Rattle.vx_tree.proofs.KeepsLemmas.{exactly_refl}
use Rattle.vx_tree.proofs.KindsLemmas.{type_in, len_in}
use Rattle.vx_tree.proofs.TellsLemmas.{chosen_clean}
use Rattle.vx_tree.proofs.SlotsLemmas.{no_shapes}
use Rattle.vx_tree.proofs.ValiditiesLemmas.{whole}
use Rattle.vx_rule.proofs.PicksLemmas.{first_of, exactly_by, map_clean, function_picked, masked_picked}
use Rattle.vx_rule.proofs.RangesLemmas.{empty_known, copies_clean}

-- ---- what every row needs

pub filter_bounds : (ty : DataType) (n : ℕ) (bits : List Bool) (c : Tree) → IsNode ty n (enc.filter bits) (shapes (slot c no_slots))
    → (ty ≡ dtype c) × (n ≡ true_count bits) × (length bits ≡ len c)
filter_bounds ty n bits c h =
    let is : shape_of c ≡ shape ty (length bits) = first_of h.0 in
    (sym (ap type_in is), h.1, sym (ap len_in is))

-- a well-formed filter of c is `filter_of`
pub of_filter : (ty : DataType) (n : ℕ) (bits : List Bool) (c u : Tree) → IsWell (node ty n (enc.filter bits) (slot c no_slots))
    → (length bits ≡ len c → KeepsExactly (filter_of bits c) u) → KeepsExactly (node ty n (enc.filter bits) (slot c no_slots)) u
of_filter ty n bits c u w h =
    let s = filter_bounds ty n bits c w.0 in
    subst (λ t. KeepsExactly t u) (λ i. node (sym s.0 i) (sym s.1 i) (enc.filter bits) (slot c no_slots)) (h s.2)

-- a clean tree's chosen rows are clean, put off or not
pub filter_clean : (bits : List Bool) (t : Tree) → IsClean t → IsClean (filter_of bits t)
filter_clean bits t h = (chosen_clean bits (rows t) (whole t h), (h, tt))

choice_of_clean : (bits : List Bool) (t : Tree) → IsClean t → IsClean (choice_of bits t)
choice_of_clean bits (node ty n (enc.constant v) ss) c = copies_clean v (true_count bits)
choice_of_clean bits t c = filter_clean bits t c

-- ---- all rows, none, and consecutive ones

pub run_range : (bits : List Bool) (a b n : ℕ) → IsRun bits a b → length bits ≡ n → (a ≤ b) × (b ≤ n)
run_range bits a b n run counted = (omega (arith, run.0), omega (arith, run_within bits a b run, counted))

-- of c, which has as many rows as there are bits
module _ (bits : List Bool) (c : Tree) (counted_bits : length bits ≡ len c) (counted_rows : length (rows c) ≡ len c) where
  pub whole_exactly : is_all_true bits ≡ true → KeepsExactly (filter_of bits c) c
  whole_exactly all =
      let count : true_count bits ≡ length bits =
      (unsigned_Decides (true_count bits) (length bits)).0 (all_true_is bits (true_count bits) (length bits) refl refl ∙ all) in
      exactly_by (filter_of bits c) c refl (count ∙ counted_bits)
      (chosen-all bits (rows c) count ∙ take_all (length bits) (rows c) (omega (arith, counted_bits, counted_rows))) (λ d. d.1.0)

  pub nothing_exactly : true_count bits ≡ 0 → KeepsExactly (filter_of bits c) (empty_of (dtype c))
  nothing_exactly none =
      let known = empty_known (dtype c) in
      exactly_by (filter_of bits c) (empty_of (dtype c)) (sym known.0) (none ∙ sym known.1) (chosen-none bits (rows c) none ∙ sym known.2) (λ d. known.3)

  pub run_exactly : (a b : ℕ) → IsRun bits a b → KeepsExactly (filter_of bits c) (slice_of a b c)
  run_exactly a b run =
      let within : b ≤ length bits = run_within bits a b run in
      let shown : rows (filter_of bits c) ≡ rows (slice_of a b c) = run_chosen bits (rows c) a b run in
      let count : true_count bits ≡ b - a =
      sym (length-chosen bits (rows c) (omega (arith, counted_bits, counted_rows))) ∙ ap length shown
      ∙ length-take-le (b - a) (drop a (rows c)) (omega (arith, length-drop a (rows c), counted_bits, counted_rows, within)) in
      exactly_by (filter_of bits c) (slice_of a b c) refl count shown (λ d. (subst HasNoFault shown d.0, d.1))

-- of a well-formed filter of c
module _ (ty : DataType) (n : ℕ) (bits : List Bool) (c : Tree) (w : IsWell (node ty n (enc.filter bits) (slot c no_slots))) where
  pub F1_keeps : is_all_true bits ≡ true → KeepsExactly (node ty n (enc.filter bits) (slot c no_slots)) c
  F1_keeps all = of_filter ty n bits c c w (λ long. whole_exactly bits c long (rows_counted c w.1.0) all)

  pub F2_keeps : true_count bits ≡ 0 → KeepsExactly (node ty n (enc.filter bits) (slot c no_slots)) (empty_of (dtype c))
  F2_keeps none = of_filter ty n bits c (empty_of (dtype c)) w (λ long. nothing_exactly bits c long (rows_counted c w.1.0) none)

  pub F3_keeps : (a b : ℕ) → IsRun bits a b → KeepsExactly (node ty n (enc.filter bits) (slot c no_slots)) (slice_of a b c)
  F3_keeps a b run = of_filter ty n bits c (slice_of a b c) w (λ long. run_exactly bits c long (rows_counted c w.1.0) a b run)

-- ---- of a filter, and of a constant

pub F5_keeps : (ty fty : DataType) (n k : ℕ) (outer inner : List Bool) (c : Tree)
    → IsWell (node ty n (enc.filter inner) (slot (node fty k (enc.filter outer) (slot c no_slots)) no_slots))
    → KeepsExactly (node ty n (enc.filter inner) (slot (node fty k (enc.filter outer) (slot c no_slots)) no_slots)) (filter_of (combined outer inner) c)
F5_keeps ty fty n k outer inner c w =
    let child = node fty k (enc.filter outer) (slot c no_slots) in
    let u = filter_of (combined outer inner) c in
    let below = filter_bounds fty k outer c w.1.0.0 in
    of_filter ty n inner child u w (λ long.
    let shown : rows (filter_of inner child) ≡ rows u = filter_twice c outer inner in
    exactly_by (filter_of inner child) u below.0 (sym (true_count-combined outer inner (omega (arith, long, below.1)))) shown
    (λ d. (subst HasNoFault shown d.0, d.1.0.1)))

-- the rows of t at the true bits, put off or not
choice_kept : (bits : List Bool) (t : Tree) → IsWell t → length bits ≡ len t → KeepsExactly (filter_of bits t) (choice_of bits t)
choice_kept bits (node ty n (enc.constant v) ss) w h =
    subst (λ t. KeepsExactly (filter_of bits t) (constant_of v (true_count bits))) (λ i. node (sym w.0.0 i) n (enc.constant v) (sym (no_shapes ss w.0.2) i))
    (exactly_by (filter_of bits (constant_of v n)) (constant_of v (true_count bits)) refl refl (chosen-replicate bits n (value v.value) h)
    (λ d. copies_clean v (true_count bits)))
choice_kept bits t w h = exactly_refl (filter_of bits t)

pub F6_keeps : (ty cty : DataType) (n k : ℕ) (bits : List Bool) (v : Typed)
    → IsWell (node ty n (enc.filter bits) (slot (node cty k (enc.constant v) no_slots) no_slots))
    → KeepsExactly (node ty n (enc.filter bits) (slot (node cty k (enc.constant v) no_slots) no_slots)) (constant_of v (true_count bits))
F6_keeps ty cty n k bits v w =
    let child = node cty k (enc.constant v) no_slots in
    of_filter ty n bits child (constant_of v (true_count bits)) w (λ long. choice_kept bits child w.1.0 long)

-- ---- of a function, and of a masked array

pub choice_natural : (bits : List Bool) (f : ℕ → Cell) (is : List ℕ) → chosen bits (map f is) ≡ map f (chosen bits is)
choice_natural bits f is = chosen_map f bits is

pub choice_count : (bits : List Bool) (k : ℕ) → length bits ≡ k → length (chosen bits (range_with_len 0 k)) ≡ true_count bits
choice_count bits k long = length-chosen bits (range_with_len 0 k) (omega (arith, long, length-range_with_len 0 k))

pub F7_keeps : (ty fty : DataType) (n k : ℕ) (bits : List Bool) (f : ScalarFnRef) (ss : Slots)
    → IsWell (node ty n (enc.filter bits) (slot (node fty k (enc.function f) ss) no_slots))
    → KeepsExactly (node ty n (enc.filter bits) (slot (node fty k (enc.function f) ss) no_slots))
    (node fty (true_count bits) (enc.function f) (map_slots (choice_of bits) ss))
F7_keeps ty fty n k bits f ss w =
    let child = node fty k (enc.function f) ss in
    let u = node fty (true_count bits) (enc.function f) (map_slots (choice_of bits) ss) in
    of_filter ty n bits child u w (λ long.
    let shown : rows (filter_of bits child) ≡ rows u =
    function_picked (chosen bits) (chosen bits) (choice_natural bits) k (true_count bits) (choice_count bits k long) (choice_of bits)
    (λ t well counted. sym (choice_kept bits t well (long ∙ sym counted)).keeps.same_type)
    (λ t well counted. sym (choice_kept bits t well (long ∙ sym counted)).equal) f fty ss w.1.0 in
    exactly_by (filter_of bits child) u refl refl shown (λ d. (subst HasNoFault shown d.0, map_clean (choice_of bits) ss (choice_of_clean bits) d.1.0.1)))

pub F8_keeps : (ty mty : DataType) (n k : ℕ) (bits : List Bool) (c : Tree) (vs : Slots)
    → IsWell (node ty n (enc.filter bits) (slot (node mty k enc.masked (slot c vs)) no_slots))
    → KeepsExactly (node ty n (enc.filter bits) (slot (node mty k enc.masked (slot c vs)) no_slots))
    (node mty (true_count bits) enc.masked (slot (filter_of bits c) (map_slots (choice_of bits) vs)))
F8_keeps ty mty n k bits c vs w =
    let child = node mty k enc.masked (slot c vs) in
    let u = node mty (true_count bits) enc.masked (slot (filter_of bits c) (map_slots (choice_of bits) vs)) in
    of_filter ty n bits child u w (λ long.
    let shown : rows (filter_of bits child) ≡ rows u =
    masked_picked (chosen bits) (chosen bits) (choice_natural bits) k (true_count bits) (choice_count bits k long) (choice_of bits)
    (λ t well counted. sym (choice_kept bits t well (long ∙ sym counted)).keeps.same_type)
    (λ t well counted. sym (choice_kept bits t well (long ∙ sym counted)).equal) mty c (filter_of bits c) vs w.1.0 refl in
    exactly_by (filter_of bits child) u refl refl shown
    (λ d. (subst HasNoFault shown d.0, (filter_clean bits c d.1.0.1.0, map_clean (choice_of bits) vs (choice_of_clean bits) d.1.0.1.1))))

-- ---- of a dictionary

pub F9_keeps : (ty dty : DataType) (n k : ℕ) (bits : List Bool) (c : Tree) (vs : Slots)
    → IsWell (node ty n (enc.filter bits) (slot (node dty k enc.dict (slot c vs)) no_slots))
    → KeepsExactly (node ty n (enc.filter bits) (slot (node dty k enc.dict (slot c vs)) no_slots))
    (node dty (true_count bits) enc.dict (slot (filter_of bits c) vs))
F9_keeps ty dty n k bits c vs w =
    let child = node dty k enc.dict (slot c vs) in
    let u = node dty (true_count bits) enc.dict (slot (filter_of bits c) vs) in
    of_filter ty n bits child u w (λ long.
    let shown : rows (filter_of bits child) ≡ rows u = chosen_map (taken (cells_at (slots_rows vs) 0)) bits (rows c) in
    exactly_by (filter_of bits child) u refl refl shown (λ d. (subst HasNoFault shown d.0, (filter_clean bits c d.1.0.1.0, d.1.0.1.1))))
