-- Rows that are picked by their places, as a range and a filter pick them: of what a function gives, and of rows by a validity.
use Rattle.std.proofs.Common.{◌≡◌, ℕ, suc, ◌+◌, ◌<◌, List, [], ◌∷◌, length, map, get_or, Option, Some, None, refl, sym, ap, subst, ◌∙◌, arith}
use Rattle.std.specs.Prelude.{option_map}
use Rattle.std.specs.List.{range_with_len}
use Rattle.std.proofs.lemmas.List.{length-map, get_or-map}
use Rattle.vx_value.specs.Types as type
use Rattle.vx_value.specs.Types.{DataType}
use Rattle.vx_value.specs.Cell.{Cell, fault}
use Rattle.vx_value.specs.declared.dtype.Nullability.TheVariants.{NonNullable, Nullable}
use Rattle.vx_fn.specs.Apply.{apply}
use Rattle.vx_fn.specs.declared.function.ScalarFnRef.{ScalarFnRef}
use Rattle.vx_tree.specs.Tree as enc
use Rattle.vx_tree.specs.Tree.{Tree, Slots, node, no_slots, absent, slot, slots_of, dtype, len, types_in}
use Rattle.vx_tree.specs.Slots.{map_slots, count_slots}
use Rattle.vx_tree.specs.Cells.{rows, slots_rows, row_at, valid_cell, valid_cells, IsClean, AreClean, node_cells}
use Rattle.vx_tree.specs.Keeps.{KeepsExactly}
use Rattle.vx_tree.specs.Well.{Shape, shape, shape_of, shapes, IsValidity, IsNode, IsWell, AreWell}
use Rattle.vx_tree.proofs.CellsLemmas.{rows_counted}
use Rattle.vx_tree.proofs.KeepsLemmas.{rows_equal}
use Rattle.vx_tree.proofs.KindsLemmas.{len_in}

-- ---- a tree that stands exactly for another, by its parts

pub exactly_by : (t u : Tree) → dtype t ≡ dtype u → len t ≡ len u → rows t ≡ rows u → (IsClean t → IsClean u) → KeepsExactly t u
exactly_by t u typed counted shown clean = record {
  keeps = record { same_type = typed; same_len = counted; same_rows = rows_equal _ _ shown; still_clean = clean };
  equal = shown;
}

-- what is made of clean slots is clean
pub map_clean : (f : Tree → Tree) (ss : Slots) → ((t : Tree) → IsClean t → IsClean (f t)) → AreClean ss → AreClean (map_slots f ss)
map_clean f no_slots h c = tt
map_clean f (absent ss) h c = map_clean f ss h c
map_clean f (slot t ss) h c = (h t c.0, map_clean f ss h c.1)

-- ---- a single slot

pub only_slot : (ss : Slots) → count_slots ss ≡ 1 → (v : Option Tree) × (ss ≡ slots_of (v ∷ []))
only_slot no_slots one = absurd (omega (arith, one))
only_slot (absent no_slots) one = (None, refl)
only_slot (absent (absent ss)) one = absurd (omega (arith, one))
only_slot (absent (slot t ss)) one = absurd (omega (arith, one))
only_slot (slot t no_slots) one = (Some t, refl)
only_slot (slot t (absent ss)) one = absurd (omega (arith, one))
only_slot (slot t (slot u ss)) one = absurd (omega (arith, one))

pub slot_mapped : (f : Tree → Tree) (v : Option Tree) → slots_of (option_map f v ∷ []) ≡ map_slots f (slots_of (v ∷ []))
slot_mapped f None = refl
slot_mapped f (Some t) = refl

-- ---- rows, one by one

rows_from : (s : ℕ) (cs : List Cell) (f : ℕ → Cell) → ((i : ℕ) → i < length cs → f (s + i) ≡ get_or cs i fault) → map f (range_with_len s (length cs)) ≡ cs
rows_from s [] f h = refl
rows_from s (c ∷ cs) f h =
    let here : s ≡ s + 0 = omega arith in
    let first : f s ≡ c = ap f here ∙ h 0 (omega arith) in
    λ j. first j ∷ rows_from (s + 1) cs f (λ i lt. let e : s + 1 + i ≡ s + suc i = omega arith in ap f e ∙ h (suc i) (omega arith)) j

-- what f gives, row by row, are these rows
pub rows_are : (f : ℕ → Cell) (n : ℕ) (cs : List Cell) → length cs ≡ n → ((i : ℕ) → i < n → f i ≡ get_or cs i fault) → map f (range_with_len 0 n) ≡ cs
rows_are f n cs long h =
    subst (λ m. map f (range_with_len 0 m) ≡ cs) long
    (rows_from 0 cs f (λ i lt. let e : 0 + i ≡ i = omega arith in ap f e ∙ h i (omega (arith, long))))

-- ---- the slots of a function, and of a masked node

-- each slot has n rows
abbrev pub AllLong : ℕ → List (List Cell) → Type 0
AllLong n [] = Unit {0}
AllLong n (cs ∷ css) = (length cs ≡ n) × AllLong n css

pub slots_long : (n : ℕ) (tys : List DataType) (ss : Slots) → shapes ss ≡ map (λ s. Some (shape s n)) tys → AreWell ss → AllLong n (slots_rows ss)
slots_long n tys no_slots e w = tt
slots_long n [] (absent ss) e w = absurd (cc)
slots_long n (s ∷ tys) (absent ss) e w = absurd (cc)
slots_long n [] (slot t ss) e w = absurd (cc)
slots_long n (s ∷ tys) (slot t ss) e w =
    let first : shape_of t ≡ shape s n = cc in
    let others : shapes ss ≡ map (λ s. Some (shape s n)) tys = cc in
    (rows_counted t w.0 ∙ ap len_in first, slots_long n tys ss others w.1)

-- the validity of n rows, if the slots begin with one
abbrev pub IsSecond : ℕ → Slots → Type 0
IsSecond n (slot t ss) = shape_of t ≡ shape (type.bool NonNullable) n
IsSecond n _ = Unit {0}

second_by : (n : ℕ) (v : Option Shape) (vs : Slots) → shapes vs ≡ v ∷ [] → IsValidity Nullable n v → IsSecond n vs
second_by n v no_slots e h = tt
second_by n v (absent vs) e h = tt
second_by n v (slot t vs) e h = let is : v ≡ Some (shape_of t) = cc in subst (IsValidity Nullable n) is h

-- the first of two lists of shapes that are the same
pub first_of : {x y : Shape} {xs ys : List (Option Shape)} → Some x ∷ xs ≡ Some y ∷ ys → x ≡ y
first_of e = cc

pub masked_slots : (ty : DataType) (n : ℕ) (c : Tree) (vs : Slots) → IsNode ty n enc.masked (shapes (slot c vs)) → (len c ≡ n) × IsSecond n vs
masked_slots ty n c vs h =
    let first : shape_of c ≡ shape h.0 n = first_of (h.2) in
    let second : shapes vs ≡ h.1 ∷ [] = second_of (h.2) in
    (ap len_in first, second_by n h.1 vs second h.4)
  where
    second_of : {x y : Option Shape} {xs ys : List (Option Shape)} → x ∷ xs ≡ y ∷ ys → xs ≡ ys
    second_of e = cc

-- ---- picked rows: pick picks of k rows those at some places

valid_by : (f g : ℕ → Cell) (is : List ℕ) → valid_cells (map f is) (map g is) ≡ map (λ i. valid_cell (f i) (g i)) is
valid_by f g [] = refl
valid_by f g (i ∷ is) = ap (λ l. valid_cell (f i) (g i) ∷ l) (valid_by f g is)

module _ (places : List ℕ → List ℕ) (pick : List Cell → List Cell) (natural : (f : ℕ → Cell) (is : List ℕ) → pick (map f is) ≡ map f (places is)) (k n : ℕ)
    (count : length (places (range_with_len 0 k)) ≡ n) where
  abbrev place : ℕ → ℕ
  place i = get_or (places (range_with_len 0 k)) i 0

  by_place : (cs : List Cell) → length cs ≡ k → pick cs ≡ map (λ i. get_or cs i fault) (places (range_with_len 0 k))
  by_place cs long = ap pick (sym (rows_are (λ i. get_or cs i fault) k cs long (λ i lt. refl))) ∙ natural (λ i. get_or cs i fault) (range_with_len 0 k)

  at_place : (f : ℕ → Cell) (i : ℕ) → i < n → get_or (map f (places (range_with_len 0 k))) i fault ≡ f (place i)
  at_place f i lt = get_or-map f (places (range_with_len 0 k)) i 0 fault (omega (arith, count))

  row_picked : (css : List (List Cell)) (i : ℕ) → AllLong k css → i < n → row_at (map pick css) i ≡ row_at css (place i)
  row_picked [] i long lt = refl
  row_picked (cs ∷ css) i long lt =
      let first : get_or (pick cs) i fault ≡ get_or cs (place i) fault =
      ap (λ l. get_or l i fault) (by_place cs long.0) ∙ at_place (λ j. get_or cs j fault) i lt in
      λ j. first j ∷ row_picked css i long.1 lt j

  -- what a function gives
  calls_picked : (f : ScalarFnRef) (tys : List DataType) (ty : DataType) (css : List (List Cell)) → AllLong k css
      → pick (map (λ i. apply f tys ty (row_at css i)) (range_with_len 0 k)) ≡ map (λ i. apply f tys ty (row_at (map pick css) i)) (range_with_len 0 n)
  calls_picked f tys ty css long =
      let call = λ (i : ℕ). apply f tys ty (row_at css i) in
      let picked = map call (places (range_with_len 0 k)) in
      natural call (range_with_len 0 k)
      ∙ sym (rows_are (λ i. apply f tys ty (row_at (map pick css) i)) n picked (length-map (places (range_with_len 0 k)) call ∙ count)
      (λ i lt. ap (apply f tys ty) (row_picked css i long lt) ∙ sym (at_place call i lt)))

  -- rows by a validity that is as long
  valid_picked : (vs cs : List Cell) → length vs ≡ k → length cs ≡ k → pick (valid_cells vs cs) ≡ valid_cells (pick vs) (pick cs)
  valid_picked vs cs long longs =
      let f = λ (i : ℕ). get_or vs i fault in
      let g = λ (i : ℕ). get_or cs i fault in
      let all = range_with_len 0 k in
      let whole : valid_cells vs cs ≡ map (λ i. valid_cell (f i) (g i)) all =
      sym (λ j. valid_cells (rows_are f k vs long (λ i lt. refl) j) (rows_are g k cs longs (λ i lt. refl) j)) ∙ valid_by f g all in
      ap pick whole ∙ natural (λ i. valid_cell (f i) (g i)) all ∙ sym (valid_by f g (places all))
      ∙ sym (λ j. valid_cells (by_place vs long j) (by_place cs longs j))

  -- trees in slots, each replaced by one of the picked rows
  module _ (part : Tree → Tree) (typed : (t : Tree) → IsWell t → len t ≡ k → dtype (part t) ≡ dtype t)
      (shown : (t : Tree) → IsWell t → len t ≡ k → rows (part t) ≡ pick (rows t)) where
    slots_picked : (tys : List DataType) (ss : Slots) → shapes ss ≡ map (λ s. Some (shape s k)) tys → AreWell ss
        → slots_rows (map_slots part ss) ≡ map pick (slots_rows ss)
    slots_picked tys no_slots e w = refl
    slots_picked [] (absent ss) e w = absurd (cc)
    slots_picked (s ∷ tys) (absent ss) e w = absurd (cc)
    slots_picked [] (slot t ss) e w = absurd (cc)
    slots_picked (s ∷ tys) (slot t ss) e w =
        let first : shape_of t ≡ shape s k = cc in
        let others : shapes ss ≡ map (λ s. Some (shape s k)) tys = cc in
        λ j. shown t w.0 (ap len_in first) j ∷ slots_picked tys ss others w.1 j

    types_picked : (tys : List DataType) (ss : Slots) → shapes ss ≡ map (λ s. Some (shape s k)) tys → AreWell ss
        → types_in (shapes (map_slots part ss)) ≡ types_in (shapes ss)
    types_picked tys no_slots e w = refl
    types_picked [] (absent ss) e w = absurd (cc)
    types_picked (s ∷ tys) (absent ss) e w = absurd (cc)
    types_picked [] (slot t ss) e w = absurd (cc)
    types_picked (s ∷ tys) (slot t ss) e w =
        let first : shape_of t ≡ shape s k = cc in
        let others : shapes ss ≡ map (λ s. Some (shape s k)) tys = cc in
        λ j. typed t w.0 (ap len_in first) j ∷ types_picked tys ss others w.1 j

    -- a function of them gives the picked rows
    pub function_picked : (f : ScalarFnRef) (ty : DataType) (ss : Slots) → IsWell (node ty k (enc.function f) ss)
        → pick (rows (node ty k (enc.function f) ss)) ≡ rows (node ty n (enc.function f) (map_slots part ss))
    function_picked f ty ss w =
        calls_picked f (types_in (shapes ss)) ty (slots_rows ss) (slots_long k w.0.0 ss w.0.1 w.1)
        ∙ sym (λ j. node_cells ty n (enc.function f) (types_picked w.0.0 ss w.0.1 w.1 j) (slots_picked w.0.0 ss w.0.1 w.1 j))

    -- and so does a masked node of the picked rows of its child
    pub masked_picked : (ty : DataType) (c u : Tree) (vs : Slots) → IsWell (node ty k enc.masked (slot c vs)) → rows u ≡ pick (rows c)
        → pick (rows (node ty k enc.masked (slot c vs))) ≡ rows (node ty n enc.masked (slot u (map_slots part vs)))
    masked_picked ty c u vs w is =
        let here = masked_slots ty k c vs w.0 in
        by_slots vs w.1.1 here.1 (rows_counted c w.1.0 ∙ here.0)
      where
        by_slots : (vs : Slots) → AreWell vs → IsSecond k vs → length (rows c) ≡ k
            → pick (rows (node ty k enc.masked (slot c vs))) ≡ rows (node ty n enc.masked (slot u (map_slots part vs)))
        by_slots no_slots w h long = sym is
        by_slots (absent vs) w h long = sym is
        by_slots (slot t vs) w h long =
            valid_picked (rows t) (rows c) (rows_counted t w.0 ∙ ap len_in h) long
            ∙ sym (λ j. valid_cells (shown t w.0 (ap len_in h) j) (is j))
