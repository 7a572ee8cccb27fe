-- Where a slice that is pushed down stops: exactly where no row lets it pass.
use Rattle.std.proofs.Common.{◌≡◌, ℕ, ◌+◌, ◌-◌, ◌<◌, ◌≤◌, max, List, Some, Bool, true, false, refl, sym, ap, ◌∙◌, inl, inr, arith}
use Rattle.std.specs.Prelude.{◌==◌, if◌then◌else◌}
use Rattle.std.proofs.Math.Nat.{max-le, le-max_left, le-max_right}
use Rattle.std.proofs.lemmas.Bool.{cases_Bool, ne_eqb}
use Rattle.vx_value.specs.Types.{DataType}
use Rattle.vx_tree.specs.Tree as enc
use Rattle.vx_tree.specs.Tree.{Tree, Data, Slots, node, no_slots, absent, slot, height, slots_height, dtype, len, datum, constant_of, slice_of, is_canonical, is_columnar, lets_below}
use Rattle.vx_tree.specs.Slots.{map_slots}
use Rattle.vx_tree.specs.Parts.{part_of, part_by, column_range}
use Rattle.vx_tree.specs.Columns.{empty_of, data_range}
use Rattle.vx_rule.specs.Rules.{Row, IsQuiet, IsPart, S_whole, S_empty, S1, S2, S3, S4, S5, S6}
use Rattle.vx_rule.specs.Pushes.{ranged, pushed, pushed_slots}
use Rattle.vx_rule.proofs.PushLemmas.{empty_canonical}
use Rattle.vx_rule.proofs.PushedLemmas.{chosen_else, ranged_part, whole_is, empty_is, function_is, masked_is, dict_is, column_is}

-- ---- where no row fits

pub stops : (a b : ℕ) (t : Tree) → IsPart a b (len t) → IsQuiet (Some 0) (slice_of a b t) → pushed a b t ≡ slice_of a b t
stops a b (node ty n (enc.constant v) no_slots) part quiet = absurd (quiet _ _ (S2 ty ty (b - a) a b n v part))
stops a b (node ty n (enc.slice s e) (slot c no_slots)) part quiet = absurd (quiet _ _ (S1 ty ty (b - a) a b n s e c part))
stops a b (node ty n (enc.function f) ss) part quiet =
    let t = node ty n (enc.function f) ss in
    let u = node ty (b - a) (enc.function f) (pushed_slots a b ss) in
    elim (cases_Bool (lets_below f)) [
      | inl h ↦ absurd (quiet _ _ (S4 ty ty (b - a) a b n f ss h part))
      | inr h ↦ ranged_part a b t (if lets_below f then u else slice_of a b t) part ∙ chosen_else (lets_below f) u (slice_of a b t) h
    ]
stops a b (node ty n enc.masked (slot c vs)) part quiet = absurd (quiet _ _ (S5 ty ty (b - a) a b n c vs part))
stops a b (node ty n enc.dict (slot c vs)) part quiet = absurd (quiet _ _ (S6 ty ty (b - a) a b n c vs part))
stops a b (node ty n d ss) part quiet =
    let t = node ty n d ss in
    let cut = if is_canonical d then column_range a b t else slice_of a b t in
    elim (cases_Bool (is_canonical d)) [
      | inl h ↦ absurd (quiet _ _ (S3 ty ty (b - a) a b n d ss h part))
      | inr h ↦ ranged_part a b t cut part ∙ chosen_else (is_canonical d) (column_range a b t) (slice_of a b t) h
    ]

-- ---- what is made of a tree is no higher than a slice of it

slice_low : (a b : ℕ) (t : Tree) → height (slice_of a b t) ≤ height t + 1
slice_low a b t = omega (arith, max-le {a = height t} {b = 0} {k = height t} (omega arith) (omega arith))

slice_high : (a b : ℕ) (t : Tree) → height t < height (slice_of a b t)
slice_high a b t = omega (arith, le-max_left (height t) 0)

part_low : (d : Data) (a b : ℕ) (t : Tree) → height (part_by d a b t) ≤ height t + 1
part_low (enc.constant v) a b t = omega arith
part_low _ a b t = slice_low a b t

parts_low : (a b : ℕ) (ss : Slots) → slots_height (map_slots (part_of a b) ss) ≤ slots_height ss + 1
parts_low a b no_slots = omega arith
parts_low a b (absent ss) = parts_low a b ss
parts_low a b (slot t ss) =
    let first = le-max_left (height t) (slots_height ss) in
    let rest = le-max_right (height t) (slots_height ss) in
    max-le (omega (arith, part_low (datum t) a b t)) (omega (arith, parts_low a b ss))

-- without the tree that stands for no rows
either_low : (first second : Bool) (m : ℕ) (t u v : Tree) → second ≡ false → height t ≤ m → height v ≤ m
    → height (if first then t else (if second then u else v)) ≤ m
either_low true second m t u v e x z = x
either_low false true m t u v e x z = absurd (cc (e))
either_low false false m t u v e x z = z

chosen_low : (test : Bool) (m : ℕ) (t u : Tree) → height t ≤ m → height u ≤ m → height (if test then t else u) ≤ m
chosen_low true m t u x y = x
chosen_low false m t u x y = y

ranged_low : (a b : ℕ) (t u : Tree) → a < b → height u ≤ height t + 1 → height (ranged a b t u) ≤ height t + 1
ranged_low a b t u some low =
    either_low _ (a == b) (height t + 1) t (empty_of (dtype t)) u (ne_eqb a b (λ e. omega (arith, some))) (omega arith) low

cut_low : (test : Bool) (a b : ℕ) (ty : DataType) (n : ℕ) (d : Data) (ss : Slots)
    → height (if test then column_range a b (node ty n d ss) else slice_of a b (node ty n d ss)) ≤ height (node ty n d ss) + 1
cut_low true a b ty n d ss = omega (arith, parts_low a b ss)
cut_low false a b ty n d ss = slice_low a b (node ty n d ss)

mutual
  pushed_low : (a b : ℕ) (t : Tree) → a < b → height (pushed a b t) ≤ height t + 1
  pushed_low a b (node ty n (enc.constant v) no_slots) some = ranged_low a b (node ty n (enc.constant v) no_slots) (constant_of v (b - a)) some (omega arith)
  pushed_low a b (node ty n (enc.slice s e) (slot c no_slots)) some =
      let below = le-max_left (height c) 0 in
      let more : s + a < s + b = omega (arith, some) in
      ranged_low a b (node ty n (enc.slice s e) (slot c no_slots)) (pushed (s + a) (s + b) c) some (omega (arith, pushed_low (s + a) (s + b) c more))
  pushed_low a b (node ty n (enc.function f) ss) some =
      let t = node ty n (enc.function f) ss in
      let u = node ty (b - a) (enc.function f) (pushed_slots a b ss) in
      ranged_low a b t (if lets_below f then u else slice_of a b t) some
      (chosen_low (lets_below f) (height t + 1) u (slice_of a b t) (omega (arith, pushed_slots_low a b ss some)) (slice_low a b t))
  pushed_low a b (node ty n enc.masked (slot c vs)) some =
      let first = le-max_left (height c) (slots_height vs) in
      let rest = le-max_right (height c) (slots_height vs) in
      let under : max (height (pushed a b c)) (slots_height (map_slots (part_of a b) vs)) ≤ max (height c) (slots_height vs) + 1 =
      max-le (omega (arith, pushed_low a b c some)) (omega (arith, parts_low a b vs)) in
      ranged_low a b (node ty n enc.masked (slot c vs)) (node ty (b - a) enc.masked (slot (pushed a b c) (map_slots (part_of a b) vs))) some
      (omega (arith, under))
  pushed_low a b (node ty n enc.dict (slot c vs)) some =
      let first = le-max_left (height c) (slots_height vs) in
      let rest = le-max_right (height c) (slots_height vs) in
      let under : max (height (pushed a b c)) (slots_height vs) ≤ max (height c) (slots_height vs) + 1 =
      max-le (omega (arith, pushed_low a b c some)) (omega (arith, rest)) in
      ranged_low a b (node ty n enc.dict (slot c vs)) (node ty (b - a) enc.dict (slot (pushed a b c) vs)) some (omega (arith, under))
  pushed_low a b (node ty n d ss) some =
      ranged_low a b (node ty n d ss) (if is_canonical d then column_range a b (node ty n d ss) else slice_of a b (node ty n d ss)) some
      (cut_low (is_canonical d) a b ty n d ss)

  pushed_slots_low : (a b : ℕ) (ss : Slots) → a < b → slots_height (pushed_slots a b ss) ≤ slots_height ss + 1
  pushed_slots_low a b no_slots some = omega arith
  pushed_slots_low a b (absent ss) some = pushed_slots_low a b ss some
  pushed_slots_low a b (slot t ss) some =
      let first = le-max_left (height t) (slots_height ss) in
      let rest = le-max_right (height t) (slots_height ss) in
      max-le (omega (arith, pushed_low a b t some)) (omega (arith, pushed_slots_low a b ss some))

-- ---- where one fits

range_canonical : (a b : ℕ) (d : Data) → is_canonical (data_range a b d) ≡ is_canonical d
range_canonical a b (enc.bool bs) = refl
range_canonical a b (enc.primitive p zs) = refl
range_canonical a b (enc.decimals w zs) = refl
range_canonical a b (enc.views rs) = refl
range_canonical a b _ = refl

-- a column is no slice
column_passes : (a b : ℕ) (t u : Tree) → is_canonical (datum u) ≡ true → u ≡ slice_of a b t → ⊥
column_passes a b t u h e = absurd (cc (h, ap (λ x. is_canonical (datum x)) e))

row_passes : (ty : DataType) (n a b : ℕ) (t u : Tree) (os : List ℕ) → Row (Some 0) (node ty n (enc.slice a b) (slot t no_slots)) u os
    → pushed a b t ≡ slice_of a b t → ⊥
row_passes ty n a b t u os (S_whole _ _ _ _ _ l z w) e = omega (arith, slice_high a b t, ap height (sym (whole_is a b t z w) ∙ e))
row_passes ty n a b t u os (S_empty _ _ _ _ _ l z some) e =
    column_passes a b t (empty_of (dtype t)) (empty_canonical (dtype t))
    (sym (empty_is a b t z (λ first last. omega (arith, some))) ∙ e)
row_passes ty n a b t u os (S1 _ sty _ _ _ k s x c part) e =
    let child = node sty k (enc.slice s x) (slot c no_slots) in
    let same = ap height (sym (ranged_part a b child (pushed (s + a) (s + b) c) part) ∙ e) in
    omega (arith, slice_high a b child, le-max_left (height c) 0, pushed_low (s + a) (s + b) c (omega (arith, part.some_rows)), same)
row_passes ty n a b t u os (S2 _ cty _ _ _ k v part) e =
    let child = node cty k (enc.constant v) no_slots in
    absurd (cc (ap datum (sym (ranged_part a b child (constant_of v (b - a)) part) ∙ e)))
row_passes ty n a b t u os (S3 _ cty _ _ _ k d ss h part) e =
    let child = node cty k d ss in
    column_passes a b child (column_range a b child) (range_canonical a b d ∙ h) (sym (column_is a b child h part) ∙ e)
row_passes ty n a b t u os (S4 _ fty _ _ _ k f ss l part) e = absurd (cc (ap datum (sym (function_is a b fty k f ss l part) ∙ e)))
row_passes ty n a b t u os (S5 _ mty _ _ _ k c vs part) e = absurd (cc (ap datum (sym (masked_is a b mty k c vs part) ∙ e)))
row_passes ty n a b t u os (S6 _ dty _ _ _ k c vs part) e = absurd (cc (ap datum (sym (dict_is a b dty k c vs part) ∙ e)))

pub passes : (a b : ℕ) (t u : Tree) (os : List ℕ) → Row (Some 0) (slice_of a b t) u os → pushed a b t ≡ slice_of a b t → ⊥
passes a b t u os row = row_passes (dtype t) (b - a) a b t u os row

-- ---- a column gives the row's answer

row_column : (ty : DataType) (n a b : ℕ) (t u : Tree) (os : List ℕ) → is_columnar (datum t) ≡ true
    → Row (Some 0) (node ty n (enc.slice a b) (slot t no_slots)) u os → pushed a b t ≡ u
row_column ty n a b t u os h (S_whole _ _ _ _ _ l z w) = whole_is a b t z w
row_column ty n a b t u os h (S_empty _ _ _ _ _ l z some) = empty_is a b t z (λ first last. omega (arith, some))
row_column ty n a b t u os h (S1 _ sty _ _ _ k s x c part) = absurd (cc (h))
row_column ty n a b t u os h (S2 _ cty _ _ _ k v part) = ranged_part a b (node cty k (enc.constant v) no_slots) (constant_of v (b - a)) part
row_column ty n a b t u os h (S3 _ cty _ _ _ k d ss i part) = column_is a b (node cty k d ss) i part
row_column ty n a b t u os h (S4 _ fty _ _ _ k f ss l part) = absurd (cc (h))
row_column ty n a b t u os h (S5 _ mty _ _ _ k c vs part) = absurd (cc (h))
row_column ty n a b t u os h (S6 _ dty _ _ _ k c vs part) = absurd (cc (h))

pub column_as_row : (a b : ℕ) (t u : Tree) (os : List ℕ) → is_columnar (datum t) ≡ true → Row (Some 0) (slice_of a b t) u os → pushed a b t ≡ u
column_as_row a b t u os h row = row_column (dtype t) (b - a) a b t u os h row
