-- What the cells of a well-formed tree are: null only if its type is nullable, and else values of the kind that the type stores.
use Rattle.std.proofs.Common.{◌≡◌, ℕ, zero, suc, ℤ, pos, take, drop, List, [], ◌∷◌, length, map, get_or, Bool, true, false, Option, Some, None}
use Rattle.std.proofs.Common.{refl, sym, ap, subst, ◌∙◌, if◌then◌else◌}
use Rattle.std.specs.Prelude.{◌==◌, ◌&&◌, ◌++◌, is_some, option_map}
use Rattle.std.proofs.Math.Bool.{not}
use Rattle.std.specs.Cmp.{unsigned_Decides, first_so, second_so}
use Rattle.std.specs.Str.{bytes_eq}
use Rattle.std.specs.List.{All, AllByRecursion, AllZip, range_with_len}
use Rattle.std.proofs.lemmas.Bool.{false≢true}
use Rattle.std.proofs.lemmas.Option.{none-some}
use Rattle.std.proofs.lemmas.List.Elements.{All-nil, All-cons, All-head, All-tail, All-take, All-drop, All-replicate, All-map, All-weaker, All-append}
use Rattle.std.proofs.lemmas.List.Elements.{recursion_from_All}
use Rattle.vx_value.specs.Types as type
use Rattle.vx_value.specs.Types.{DataType, Fields, nullability_of, is_nullable}
use Rattle.vx_value.specs.Nullabilities.{with_nullability, union, same_but_nullability}
use Rattle.vx_value.specs.Values.{Value, null, boolean, integer, decimal, bytes, list, fields, tagged, variant}
use Rattle.vx_value.specs.Values.{Values, no_values, item, count}
use Rattle.vx_value.specs.Typed.{Typed}
use Rattle.vx_value.specs.IsOf.{is_of, is_stored, is_held, are_parts, all_of, are_of, in_range, is_null}
use Rattle.vx_value.specs.Nested.{bare, entry_type, tag_type, the_type, field_type, field_place, are_fields}
use Rattle.vx_value.specs.Storage.{storage_of}
use Rattle.vx_value.specs.Casts.{sized, cast_to}
use Rattle.vx_value.specs.Decimals.{has_digits}
use Rattle.vx_value.specs.Cell.{Cell, value, fault}
use Rattle.vx_value.specs.Parts.{boolean_in}
use Rattle.vx_value.specs.View.{type_of}
use Rattle.vx_value.specs.declared.dtype.Nullability.{Nullability}
use Rattle.vx_value.specs.declared.dtype.Nullability.TheVariants.{NonNullable, Nullable}
use Rattle.vx_value.specs.declared.dtype.Storage.{Storage}
use Rattle.vx_value.specs.declared.dtype.Storage.TheVariants.{Bits, Integers, Decimals, Text, Bytes, Nested}
use Rattle.vx_value.proofs.CastsLemmas.{cast_to_typed}
use Rattle.vx_value.proofs.NullabilitiesLemmas.{union_first, union_second, set_alike, alike_but_nullability, storage_kept, bare_kept}
use Rattle.vx_mask.specs.Places.{chosen}
use Rattle.vx_fn.specs.Apply.{apply, on_values, value_of}
use Rattle.vx_fn.specs.Arithmetic.{number, calculated_by}
use Rattle.vx_fn.specs.Arity.{of_none, of_one, of_two, of_three}
use Rattle.vx_fn.specs.Between.{between, between_type, lies_between}
use Rattle.vx_fn.specs.Binary.{binary, binary_type, logical_type, null_rule, is_logical, decided, operated}
use Rattle.vx_fn.specs.Cast.{cast_type}
use Rattle.vx_fn.specs.Comparisons.{is_ordered, ordered_type}
use Rattle.vx_fn.specs.FillNull.{fill_type, filled}
use Rattle.vx_fn.specs.GetItem.{get_item, item_type, item_of, value_at_place}
use Rattle.vx_fn.specs.IsNull.{test_type}
use Rattle.vx_fn.specs.ListContains.{contains_type, contains, contained, has}
use Rattle.vx_fn.specs.Logic.{kleene_and, kleene_or, truth}
use Rattle.vx_fn.specs.Mask.{mask_type, masked}
use Rattle.vx_fn.specs.Meanings.{widen, widened, null_through, as_given}
use Rattle.vx_fn.specs.Negation.{not_type, negated}
use Rattle.vx_fn.specs.Pack.{pack, fields_with, struct_of, in_order}
use Rattle.vx_fn.specs.PreparedSet.{set_type, list_type}
use Rattle.vx_fn.specs.ReturnTypes.{return_type}
use Rattle.vx_fn.specs.Zip.{zip_type, zipped}
use Rattle.vx_fn.specs.declared.function.Operator.{Operator}
use Rattle.vx_fn.specs.declared.function.Operator.TheVariants as operator
use Rattle.vx_fn.specs.declared.function.ScalarFnRef.{ScalarFnRef}
use Rattle.vx_fn.specs.declared.function.ScalarFnRef.TheVariants as function
use Rattle.vx_fn.specs.declared.functions.between.BetweenOptions.{BetweenOptions}
use Rattle.vx_fn.specs.declared.functions.pack.PackOptions.{PackOptions}
use Rattle.vx_fn.proofs.BinaryLemmas.{null_first, null_second}
use Rattle.vx_fn.proofs.LogicLemmas.{Knows, and_knows, or_knows}
use Rattle.vx_fn.proofs.MeaningsLemmas.{nullable_by_argument}
use Rattle.vx_tree.specs.ColumnTypes.{decimal_type, scale_of, bytes_type}
use Rattle.vx_tree.specs.Tree as enc
use Rattle.vx_tree.specs.Tree.{Tree, Data, Slots, node, no_slots, absent, slot, dtype, IsMasked, IsDict, types_in, laid_out}
use Rattle.vx_tree.specs.Tree.{fields_shapes, with_field, struct_row, extension_row}
use Rattle.vx_tree.specs.Layouts.{heads, tails, row_by_row}
use Rattle.vx_tree.specs.declared.array.layout.Layout.{Layout}
use Rattle.vx_tree.specs.declared.array.layout.Layout.TheVariants as layout
use Rattle.vx_tree.specs.Lookups.{taken, taken_cells, paired, paired_cells}
use Rattle.vx_tree.specs.SlotTypes.{of_lengths}
use Rattle.vx_tree.specs.Cells.{rows, slots_rows, node_cells, cells_at, chained, row_at, valid_cell, valid_cells, shown_cell}
use Rattle.vx_tree.specs.Views.{bytes_at}
use Rattle.vx_tree.specs.Well.{Shape, shape, shapes, IsValidity, IsFlat, IsNode, IsWell, AreWell}
use Rattle.vx_tree.proofs.RefusalsLemmas.{types_back}

-- of the kind that is stored, however large: a line for each storage. Of a nested type the parts decide.
abbrev is_kind : Bool → Value → Storage → Bool
is_kind parts (boolean b) Bits = true
is_kind parts (integer z) (Integers p) = true
is_kind parts (decimal z r) (Decimals p s) = r == s
is_kind parts (bytes bs) Text = true
is_kind parts (bytes bs) Bytes = true
is_kind parts _ Nested = parts
is_kind parts _ _ = false

-- null if the type is nullable, or a value of the type's kind, given whether the parts are
abbrev fits_by : DataType → Bool → Value → Bool
fits_by ty parts null = is_nullable (nullability_of ty)
fits_by ty parts v = is_kind (is_kind parts v (storage_of (bare ty))) v (storage_of ty)

abbrev mutual
  -- of a type that isn't an extension: a line for each nested type
  parts_fit : DataType → Value → Bool
  parts_fit (type.list t n) (list vs) = all_fit t vs
  parts_fit (type.fixed_size_list t k n) (list vs) = (count vs == k) && all_fit t vs
  parts_fit (type.map k t n) (list vs) = all_fit (entry_type k t) vs
  parts_fit (type.struct fs n) (fields vs) = each_fits fs vs
  parts_fit (type.union us n) (tagged tag v) =
      is_some (tag_type tag us) && fits_by (the_type (tag_type tag us)) (parts_fit (bare (the_type (tag_type tag us))) v) v
  parts_fit (type.variant n) (variant t v) = fits_by t (parts_fit (bare t) v) v
  parts_fit _ _ = false

  all_fit : DataType → Values → Bool
  all_fit t no_values = true
  all_fit t (item v vs) = fits_by t (parts_fit (bare t) v) v && all_fit t vs

  each_fits : Fields → Values → Bool
  each_fits type.no_fields no_values = true
  each_fits (type.field name t fs) (item v vs) = fits_by t (parts_fit (bare t) v) v && each_fits fs vs
  each_fits _ _ = false

abbrev fits : Value → DataType → Bool
fits v ty = fits_by ty (parts_fit (bare ty) v) v

-- a fault fits every type
abbrev pub CellFits : DataType → Cell → Type 0
CellFits ty (value v) = fits v ty ≡ true
CellFits ty fault = Unit {0}

abbrev pub AllFit : DataType → List Cell → Type 0
AllFit ty = AllByRecursion (CellFits ty)

pub fit_at : (ty : DataType) (cs : List Cell) (i : ℕ) → AllFit ty cs → CellFits ty (get_or cs i fault)
fit_at ty [] i h = tt
fit_at ty (c ∷ cs) zero h = h.0
fit_at ty (c ∷ cs) (suc i) h = fit_at ty cs i h.1

-- ---- a value of the type

both : {a b : Bool} → a ≡ true → b ≡ true → (a && b) ≡ true
both h k = λ i. h i && k i

stored_kind : (n : Nullability) (st : Storage) (p q : Bool) (v : Value) → is_null v ≡ false → (p ≡ true → q ≡ true) → is_stored n st p v ≡ true → is_kind q v st ≡ true
stored_kind n st p q null e k h = absurd (cc)
stored_kind n Bits p q (boolean b) e k h = refl
stored_kind n (Integers r) p q (integer z) e k h = refl
stored_kind n (Decimals r s) p q (decimal z x) e k h = first_so (x == s) (has_digits r z) h
stored_kind n Text p q (bytes bs) e k h = refl
stored_kind n Bytes p q (bytes bs) e k h = refl
stored_kind n Nested p q (boolean b) e k h = k h
stored_kind n Nested p q (integer z) e k h = k h
stored_kind n Nested p q (decimal z r) e k h = k h
stored_kind n Nested p q (bytes bs) e k h = k h
stored_kind n Nested p q (list vs) e k h = k h
stored_kind n Nested p q (fields vs) e k h = k h
stored_kind n Nested p q (tagged tag v) e k h = k h
stored_kind n Nested p q (variant t v) e k h = k h
stored_kind n _ p q _ e k h = absurd (cc)

held_fits : (ty : DataType) (p q : Bool) (v : Value) → (p ≡ true → q ≡ true) → is_held ty p v ≡ true → fits_by ty q v ≡ true
held_fits ty p q null k h = h
held_fits ty p q v k h =
    let n : Nullability = nullability_of ty in
    stored_kind n (storage_of ty) (is_stored n (storage_of (bare ty)) p v) (is_kind q v (storage_of (bare ty))) v refl
    (stored_kind n (storage_of (bare ty)) p q v refl k) h

mutual
  typed_parts : (ty : DataType) (v : Value) → are_parts ty v ≡ true → parts_fit ty v ≡ true
  typed_parts (type.list t n) (list vs) h = typed_all t vs h
  typed_parts (type.fixed_size_list t k n) (list vs) h = both (first_so (count vs == k) (all_of t vs) h) (typed_all t vs (second_so (count vs == k) (all_of t vs) h))
  typed_parts (type.map k t n) (list vs) h = typed_all (entry_type k t) vs h
  typed_parts (type.struct fs n) (fields vs) h = typed_each fs vs h
  typed_parts (type.union us n) (tagged tag v) h =
      let u : DataType = the_type (tag_type tag us) in
      both (first_so _ _ h) (held_fits u (are_parts (bare u) v) (parts_fit (bare u) v) v (typed_parts (bare u) v) (second_so _ _ h))
  typed_parts (type.variant n) (variant t v) h = held_fits t (are_parts (bare t) v) (parts_fit (bare t) v) v (typed_parts (bare t) v) h
  typed_parts _ _ h = absurd (cc)

  typed_all : (t : DataType) (vs : Values) → all_of t vs ≡ true → all_fit t vs ≡ true
  typed_all t no_values h = refl
  typed_all t (item v vs) h =
      both (held_fits t (are_parts (bare t) v) (parts_fit (bare t) v) v (typed_parts (bare t) v) (first_so _ _ h)) (typed_all t vs (second_so _ _ h))

  typed_each : (fs : Fields) (vs : Values) → are_of fs vs ≡ true → each_fits fs vs ≡ true
  typed_each type.no_fields no_values h = refl
  typed_each (type.field name t fs) (item v vs) h =
      both (held_fits t (are_parts (bare t) v) (parts_fit (bare t) v) v (typed_parts (bare t) v) (first_so _ _ h)) (typed_each fs vs (second_so _ _ h))
  typed_each _ _ h = absurd (cc)

typed_fits : (v : Value) (ty : DataType) → is_of ty v ≡ true → fits v ty ≡ true
typed_fits v ty h = held_fits ty (are_parts (bare ty) v) (parts_fit (bare ty) v) v (typed_parts (bare ty) v) h

-- ---- another nullability

set_nullable : (m : Nullability) (t : DataType) → is_nullable m ≡ true → is_nullable (nullability_of (with_nullability m t)) ≡ true
set_nullable m type.null h = refl
set_nullable m (type.extension id t) h = set_nullable m t h
set_nullable m _ h = h

parts_set : (m : Nullability) (t : DataType) (v : Value) → parts_fit (with_nullability m t) v ≡ parts_fit t v
parts_set m (type.list t n) (list vs) = refl
parts_set m (type.fixed_size_list t k n) (list vs) = refl
parts_set m (type.map k t n) (list vs) = refl
parts_set m (type.struct fs n) (fields vs) = refl
parts_set m (type.union us n) (tagged tag v) = refl
parts_set m (type.variant n) (variant t v) = refl
parts_set m _ _ = refl

-- the nullability decides of null alone
set_kind : (m : Nullability) (t : DataType) (v : Value) → is_null v ≡ false → fits v (with_nullability m t) ≡ fits v t
set_kind m t null h = absurd (cc)
set_kind m t v h =
    λ i. is_kind
    (is_kind ((ap (λ u. parts_fit u v) (bare_kept m t) ∙ parts_set m (bare t) v) i) v ((ap storage_of (bare_kept m t) ∙ storage_kept m (bare t)) i))
    v (storage_kept m t i)

alike_kind : (s t : DataType) (v : Value) → same_but_nullability s t ≡ true → is_null v ≡ false → fits v s ≡ fits v t
alike_kind s t v e h = ap (fits v) (alike_but_nullability s t e) ∙ set_kind (nullability_of s) t v h

same_storage : (s t : DataType) → same_but_nullability s t ≡ true → storage_of s ≡ storage_of t
same_storage s t h = ap storage_of (alike_but_nullability s t h) ∙ storage_kept (nullability_of s) t

-- which is nullable if it was
set_fits : (m : Nullability) (t : DataType) (c : Cell) → (is_nullable (nullability_of t) ≡ true → is_nullable m ≡ true) → CellFits t c
    → CellFits (with_nullability m t) c
set_fits m t (value null) n h = set_nullable m t (n h)
set_fits m t (value v) n h = set_kind m t v refl ∙ h
set_fits m t fault n h = tt

-- ---- what stands under a test or below an argument

if_fits : (b : Bool) (ty : DataType) (c d : Cell) → (b ≡ true → CellFits ty c) → CellFits ty d → CellFits ty (if b then c else d)
if_fits true ty c d h k = h refl
if_fits false ty c d h k = k

if_some : {X : Type 0} (b : Bool) (o : Option X) (x : X) → (if b then o else None) ≡ Some x → (b ≡ true) × (o ≡ Some x)
if_some true o x e = (refl, e)
if_some false o x e = absurd (none-some x e)

widened_some : (s : DataType) (o : Option DataType) (ty : DataType) → widened s o ≡ Some ty → (r : DataType) × (o ≡ Some r) × (widen s r ≡ ty)
widened_some s None ty e = absurd (none-some ty e)
widened_some s (Some r) ty e = (r, refl, cc)

-- the result of a null argument is null, and its type is nullable
passed_fits : (s ty : DataType) (v : Value) (c : Cell) → (is_nullable (nullability_of s) ≡ true → is_nullable (nullability_of ty) ≡ true) → fits v s ≡ true
    → CellFits ty c
    → CellFits ty (null_through v c)
passed_fits s ty null c n h k = n h
passed_fits s ty _ c n h k = k

through_fits : (s : DataType) (o : Option DataType) (ty : DataType) (v : Value) (c : Cell) → fits v s ≡ true → widened s o ≡ Some ty
    → ((r : DataType) → o ≡ Some r → CellFits r c) → CellFits ty (null_through v c)
through_fits s o ty v c h e k =
    let found = widened_some s o ty e in
    let m = nullability_of s in
    let n = nullability_of found.0 in
    passed_fits s ty v c (λ is. nullable_by_argument s o ty is e) h
    (subst (λ t. CellFits t c) found.2 (set_fits (union m n) found.0 c (λ is. ap is_nullable (union_second m n is)) (k found.0 found.1)))

-- ---- operators

calculated_fits : (op : Operator) (ty : DataType) (fit : ℤ → Cell) (x y : ℤ) → ((z : ℤ) → CellFits ty (fit z)) → CellFits ty (calculated_by op fit x y)
calculated_fits operator.Add ty fit x y h = h _
calculated_fits operator.Sub ty fit x y h = h _
calculated_fits operator.Mul ty fit x y h = h _
calculated_fits operator.Div ty fit x y h = if_fits _ ty fault _ (λ zero. tt) (h _)
calculated_fits _ ty fit x y h = tt

operated_fits : (op : Operator) (ty : DataType) (v w : Value) → ((m : Nullability) → ty ≡ type.bool m → CellFits (type.bool m) (decided op v w))
    → CellFits ty (operated op ty v w)
operated_fits op (type.bool m) v w h = h m refl
operated_fits op (type.primitive p m) (integer x) (integer y) h =
    calculated_fits op (type.primitive p m) (number p) x y (λ z. if_fits (in_range p z) (type.primitive p m) (value (integer z)) fault (λ fine. refl) tt)
operated_fits op (type.decimal p s m) (decimal x q) (decimal y r) h =
    let same : (s == s) ≡ true = (unsigned_Decides s s).1 refl in
    calculated_fits op (type.decimal p s m) (sized p s) x y (λ z. if_fits (has_digits p z) (type.decimal p s m) (value (decimal z s)) fault (λ fine. same) tt)
operated_fits op _ _ _ h = tt

-- logic takes booleans alone
logical_bits : (s t ty : DataType) → (binary operator.And).types (s ∷ t ∷ []) ≡ Some ty → (storage_of s ≡ Bits) × (storage_of t ≡ Bits)
logical_bits s t ty e =
    let first = widened_some s (widened t (binary_type operator.And s t)) ty e in
    let second = widened_some t (binary_type operator.And s t) first.0 first.1 in
    let found = if_some (same_but_nullability s t) (logical_type s) second.0 second.1 in
    let bits = by_type s second.0 found.1 in
    (bits, sym (same_storage s t found.0) ∙ bits)
  where
    by_type : (s r : DataType) → logical_type s ≡ Some r → storage_of s ≡ Bits
    by_type (type.bool m) r e = refl
    by_type _ r e = absurd (none-some r e)

truth_fits : (o : Option Bool) (m : Nullability) → is_nullable m ≡ true → fits (truth o) (type.bool m) ≡ true
truth_fits (Some b) m h = refl
truth_fits None m h = h

joined_fits : (join : Option Bool → Option Bool → Option Bool) → Knows join → (s t : DataType) (m : Nullability) (v w : Value)
    → fits v s ≡ true → fits w t ≡ true → (binary operator.And).types (s ∷ t ∷ []) ≡ Some (type.bool m)
    → fits (truth (join (boolean_in v) (boolean_in w))) (type.bool m) ≡ true
joined_fits join knows s t m null w h k e = truth_fits _ m (null_first operator.And s t (type.bool m) h e)
joined_fits join knows s t m (boolean p) null h k e = truth_fits _ m (null_second operator.And s t (type.bool m) k e)
joined_fits join knows s t m (boolean p) (boolean q) h k e = ap (λ o. fits (truth o) (type.bool m)) (knows p q).1
joined_fits join knows s t m (boolean p) w h k e =
    let no = ap (is_kind (is_kind (parts_fit (bare t) w) w (storage_of (bare t))) w) (sym (logical_bits s t (type.bool m) e).1) ∙ k in
    absurd (false≢true no)
joined_fits join knows s t m v w h k e =
    let no = ap (is_kind (is_kind (parts_fit (bare s) v) v (storage_of (bare s))) v) (sym (logical_bits s t (type.bool m) e).0) ∙ h in
    absurd (false≢true no)

binary_fits : (op : Operator) (s t ty : DataType) (v w : Value) → fits v s ≡ true → fits w t ≡ true → (binary op).types (s ∷ t ∷ []) ≡ Some ty
    → CellFits ty ((binary op).value (s ∷ t ∷ []) ty (v ∷ w ∷ []))
binary_fits operator.And s t ty v w h k e = operated_fits operator.And ty v w (λ m is. joined_fits kleene_and and_knows s t m v w h k (e ∙ ap Some is))
binary_fits operator.Or s t ty v w h k e = operated_fits operator.Or ty v w (λ m is. joined_fits kleene_or or_knows s t m v w h k (e ∙ ap Some is))
binary_fits op s t ty v w h k e =
    passed_fits s ty v _ (λ n. null_first op s t ty n e) h
    (passed_fits t ty w _ (λ n. null_second op s t ty n e) k (operated_fits op ty v w (λ m is. refl)))

-- ---- the other functions

-- a test gives a boolean
test_fits : (r : DataType) → Some (type.bool NonNullable) ≡ Some r → fits (boolean true) r ≡ true
test_fits r e = let is : type.bool NonNullable ≡ r = cc in ap (fits (boolean true)) (sym is)

order_fits : (s t u r : DataType) → between_type s t u ≡ Some r → fits (boolean true) r ≡ true
order_fits s t u r e =
    let found = if_some (same_but_nullability s t && same_but_nullability s u) (ordered_type s) r e in
    test_fits r (if_some (is_ordered s) (Some (type.bool NonNullable)) r found.1).1

between_fits : (options : BetweenOptions) (s t u ty : DataType) (v w x : Value) → fits v s ≡ true → fits w t ≡ true → fits x u ≡ true
    → (between options).types (s ∷ t ∷ u ∷ []) ≡ Some ty
    → CellFits ty ((between options).value (s ∷ t ∷ u ∷ []) ty (v ∷ w ∷ x ∷ []))
between_fits options s t u ty v w x h k l e =
    through_fits s (widened t (widened u (between_type s t u))) ty v _ h e
    (λ q first. through_fits t (widened u (between_type s t u)) q w _ k first
    (λ r second. through_fits u (between_type s t u) r x _ l second (order_fits s t u)))

not_fits : (s ty : DataType) (v : Value) → fits v s ≡ true → widened s (not_type s) ≡ Some ty → CellFits ty (null_through v (negated v))
not_fits s ty v h e = through_fits s (not_type s) ty v (negated v) h e (λ r found. by_type s v r found)
  where
    by_type : (s : DataType) (v : Value) (r : DataType) → not_type s ≡ Some r → CellFits r (negated v)
    by_type (type.bool m) (boolean b) r e = test_fits r e
    by_type (type.bool m) _ r e = tt
    by_type _ v r e = absurd (none-some r e)

mask_fits : (s t ty : DataType) (v w : Value) → fits v s ≡ true → fits w t ≡ true → mask_type s t ≡ Some ty → CellFits ty (masked v w)
mask_fits s (type.bool NonNullable) ty v w h k e = let is : with_nullability Nullable s ≡ ty = cc in subst (λ x. CellFits x (masked v w)) is (by_mask w)
  where
    by_mask : (w : Value) → CellFits (with_nullability Nullable s) (masked v w)
    by_mask (boolean true) = set_fits Nullable s (value v) (λ n. refl) h
    by_mask _ = set_nullable Nullable s refl
mask_fits s _ ty v w h k e = absurd (none-some ty e)

zip_fits : (s t u ty : DataType) (v w x : Value) → fits v s ≡ true → fits w t ≡ true → fits x u ≡ true → zip_type s t u ≡ Some ty → CellFits ty (zipped v w x)
zip_fits s t (type.bool m) ty v w x h k l e =
    let p = nullability_of s in
    let q = nullability_of t in
    let found = if_some (same_but_nullability s t) (Some (with_nullability (union p q) s)) ty e in
    let first : with_nullability (union p q) s ≡ ty = cc (found.1) in
    let second : with_nullability (union p q) t ≡ ty = sym (set_alike (union p q) s t found.0) ∙ first in
    by_mask x
    (subst (λ y. fits v y ≡ true) first (set_fits (union p q) s (value v) (λ is. ap is_nullable (union_first p q is)) h))
    (subst (λ y. fits w y ≡ true) second (set_fits (union p q) t (value w) (λ is. ap is_nullable (union_second p q is)) k))
  where
    by_mask : (x : Value) → fits v ty ≡ true → fits w ty ≡ true → CellFits ty (zipped v w x)
    by_mask (boolean true) h k = h
    by_mask _ h k = k
zip_fits s t _ ty v w x h k l e = absurd (none-some ty e)

fill_fits : (s t ty : DataType) (v w : Value) → fits v s ≡ true → fits w t ≡ true → fill_type s t ≡ Some ty → CellFits ty (filled v w)
fill_fits s t ty v w h k e =
    let found = if_some (same_but_nullability s t) (Some t) ty e in
    let is : t ≡ ty = cc (found.1) in
    subst (λ x. CellFits x (filled v w)) is (by_value v h found.0)
  where
    by_value : (v : Value) → fits v s ≡ true → same_but_nullability s t ≡ true → CellFits t (filled v w)
    by_value null h same = k
    by_value v h same = sym (alike_kind s t v same refl) ∙ h

-- what a cast gives is of its target
cast_fits : (ty : DataType) (v : Value) → CellFits ty (cast_to ty v)
cast_fits ty null = if_fits (is_nullable (nullability_of ty)) ty (value null) fault (λ n. n) tt
cast_fits ty v = by_cell v _ refl
  where
    by_cell : (v : Value) (c : Cell) → cast_to ty v ≡ c → CellFits ty c
    by_cell v (value w) h = typed_fits w ty (cast_to_typed ty v w h)
    by_cell v fault h = tt

-- ---- functions of nested values

-- a null among values that fit is of a nullable type
null_among : (t : DataType) (vs : Values) → all_fit t vs ≡ true → has null vs ≡ true → is_nullable (nullability_of t) ≡ true
null_among t no_values h e = absurd (cc)
null_among t (item null vs) h e = first_so _ _ h
null_among t (item v vs) h e = null_among t vs (second_so _ _ h) e

contained_fits : (t : DataType) (vs : Values) (w : Value) → all_fit t vs ≡ true → fits (truth (contained w vs)) (type.bool (nullability_of t)) ≡ true
contained_fits t vs w h = by_tests (has w vs) (has null vs) (null_among t vs h)
  where
    by_tests : (b c : Bool) → (c ≡ true → is_nullable (nullability_of t) ≡ true)
        → fits (truth (if b then Some true else (if c then None else Some false))) (type.bool (nullability_of t)) ≡ true
    by_tests true c n = refl
    by_tests false true n = n refl
    by_tests false false n = refl

contains_fits : (s t ty : DataType) (v w : Value) → fits v s ≡ true → fits w t ≡ true → widened s (widened t (contains_type s t)) ≡ Some ty
    → CellFits ty (null_through v (null_through w (contains v w)))
contains_fits s t ty v w h k e =
    through_fits s (widened t (contains_type s t)) ty v _ h e
    (λ q first. through_fits t (contains_type s t) q w _ k first (λ r second. by_list s v r second h))
  where
    by_list : (s : DataType) (v : Value) (r : DataType) → contains_type s t ≡ Some r → fits v s ≡ true → CellFits r (contains v w)
    by_list (type.list u n) (list vs) r e h =
        let found = if_some (same_but_nullability u t) (Some (type.bool (nullability_of u))) r e in
        let is : type.bool (nullability_of u) ≡ r = cc (found.1) in
        subst (λ x. CellFits x (contains (list vs) w)) is (contained_fits u vs w h)
    by_list (type.list u n) _ r e h = tt
    by_list _ v r e h = absurd (none-some r e)

-- the field of a name, by its place
place_fits : (name : List ℕ) (fs : Fields) (vs : Values) (r : DataType) → field_type name fs ≡ Some r → each_fits fs vs ≡ true
    → CellFits r (value_at_place (field_place name fs) vs)
place_fits name type.no_fields vs r e h = absurd (none-some r e)
place_fits name (type.field other t fs) no_values r e h = absurd (cc)
place_fits name (type.field other t fs) (item v vs) r e h = by_name (bytes_eq name other) e (λ found. place_fits name fs vs r found (second_so _ _ h))
  where
    later : (o : Option ℕ) → CellFits r (value_at_place o vs) → CellFits r (value_at_place (option_map suc o) (item v vs))
    later None k = k
    later (Some place) k = k

    by_name : (b : Bool) → (if b then Some t else field_type name fs) ≡ Some r
        → (field_type name fs ≡ Some r → CellFits r (value_at_place (field_place name fs) vs))
        → CellFits r (value_at_place (if b then Some 0 else option_map suc (field_place name fs)) (item v vs))
    by_name true e k = let is : t ≡ r = cc in subst (λ x. CellFits x (value v)) is (first_so _ _ h)
    by_name false e k = later (field_place name fs) (k e)

item_fits : (name : List ℕ) (s r : DataType) (v : Value) → item_type name s ≡ Some r → fits v s ≡ true → CellFits r (item_of name s v)
item_fits name (type.struct fs n) r (fields vs) e h = place_fits name fs vs r e h
item_fits name (type.struct fs n) r _ e h = tt
item_fits name _ r v e h = absurd (none-some r e)

-- a struct of values that fit
packed_fits : (names : List (List ℕ)) (tys : List DataType) (vs : List Value) → length tys ≡ length names → AllZip (λ s v. fits v s ≡ true) tys vs
    → each_fits (fields_with names tys) (in_order vs) ≡ true
packed_fits [] [] [] e h = refl
packed_fits [] [] (v ∷ vs) e h = absurd h
packed_fits [] (t ∷ tys) vs e h = absurd (cc)
packed_fits (name ∷ names) [] vs e h = absurd (cc)
packed_fits (name ∷ names) (t ∷ tys) [] e h = absurd h
packed_fits (name ∷ names) (t ∷ tys) (v ∷ vs) e h = let counted : length tys ≡ length names = cc in both h.0 (packed_fits names tys vs counted h.1)

-- ---- functions of lists of values

-- of values that fit the types a function gives one that fits its own
abbrev IsTyped : (List DataType → Option DataType) → (List DataType → DataType → List Value → Cell) → Type 0
IsTyped types f =
    (tys : List DataType) (ty : DataType) (vs : List Value) → types tys ≡ Some ty → AllZip (λ s v. fits v s ≡ true) tys vs → CellFits ty (f tys ty vs)

-- of one, two and three arguments
module _ (typed : DataType → Option DataType → Option DataType) (valued : Value → Cell → Cell) where
  one_fits : (type : DataType → Option DataType) (f : DataType → Value → Cell)
      → ((s ty : DataType) (v : Value) → fits v s ≡ true → typed s (type s) ≡ Some ty → CellFits ty (valued v (f ty v)))
      → IsTyped (of_one typed None type) (λ tys ty. of_one valued fault (f ty))
  one_fits type f k (s ∷ []) ty (v ∷ []) e h = k s ty v h.0 e
  one_fits type f k (s ∷ []) ty _ e h = tt
  one_fits type f k _ ty vs e h = absurd (none-some ty e)

  two_fit : (type : DataType → DataType → Option DataType) (f : DataType → Value → Value → Cell)
      → ((s t ty : DataType) (v w : Value) → fits v s ≡ true → fits w t ≡ true → typed s (typed t (type s t)) ≡ Some ty
      → CellFits ty (valued v (valued w (f ty v w))))
      → IsTyped (of_two typed None type) (λ tys ty. of_two valued fault (f ty))
  two_fit type f k (s ∷ t ∷ []) ty (v ∷ w ∷ []) e h = k s t ty v w h.0 h.1.0 e
  two_fit type f k (s ∷ t ∷ []) ty _ e h = tt
  two_fit type f k _ ty vs e h = absurd (none-some ty e)

  three_fit : (type : DataType → DataType → DataType → Option DataType) (f : DataType → Value → Value → Value → Cell)
      → ((s t u ty : DataType) (v w x : Value) → fits v s ≡ true → fits w t ≡ true → fits x u ≡ true → typed s (typed t (typed u (type s t u))) ≡ Some ty
      → CellFits ty (valued v (valued w (valued x (f ty v w x)))))
      → IsTyped (of_three typed None type) (λ tys ty. of_three valued fault (f ty))
  three_fit type f k (s ∷ t ∷ u ∷ []) ty (v ∷ w ∷ x ∷ []) e h = k s t u ty v w x h.0 h.1.0 h.1.1.0 e
  three_fit type f k (s ∷ t ∷ u ∷ []) ty _ e h = tt
  three_fit type f k _ ty vs e h = absurd (none-some ty e)

-- of none
none_fits : (type : Option DataType) (x : Cell) → ((ty : DataType) → type ≡ Some ty → CellFits ty x)
    → IsTyped (of_none None type) (λ tys ty. of_none fault x)
none_fits type x k [] ty [] e h = k ty e
none_fits type x k [] ty (v ∷ vs) e h = tt
none_fits type x k (t ∷ tys) ty vs e h = absurd (none-some ty e)

-- of a struct's field
get_fits : (name : List ℕ) → IsTyped (get_item name).types (get_item name).value
get_fits name (s ∷ []) ty (v ∷ []) e h = through_fits s (item_type name s) ty v (item_of name s v) h.0 e (λ r found. item_fits name s r v found h.0)
get_fits name (s ∷ []) ty _ e h = tt
get_fits name _ ty vs e h = absurd (none-some ty e)

pack_fits : (options : PackOptions) → IsTyped (pack options).types (pack options).value
pack_fits options tys ty vs e h =
    let fs : Fields = fields_with options.names tys in
    let counted = if_some (length tys == length options.names) (struct_of options.nullability fs) ty e in
    let made = if_some (are_fields fs) (Some (type.struct fs options.nullability)) ty counted.1 in
    let is : type.struct fs options.nullability ≡ ty = cc (made.1) in
    subst (λ x. CellFits x (value (fields (in_order vs)))) is
    (packed_fits options.names tys vs ((unsigned_Decides (length tys) (length options.names)).0 counted.0) h)

prepared_fits : (s : Typed) (ty : DataType) → set_type s ≡ Some ty → CellFits ty (value s.value)
prepared_fits s ty e =
    let found = if_some (is_of s.of_type s.value) (list_type s.of_type) ty e in
    subst (λ x. CellFits x (value s.value)) (same_list s.of_type found.1) (typed_fits s.value s.of_type found.0)
  where
    same_list : (u : DataType) → list_type u ≡ Some ty → u ≡ ty
    same_list (type.list t n) e = cc
    same_list _ e = absurd (none-some ty e)

-- a line for each function
values_fit : (f : ScalarFnRef) → IsTyped (return_type f) (value_of f)
values_fit (function.Binary op) = two_fit widened (null_rule (is_logical op)) (binary_type op) (operated op) (binary_fits op)
values_fit (function.Between options) = three_fit widened null_through between_type (λ ty. lies_between options) (between_fits options)
values_fit function.Not = one_fits widened null_through not_type (λ ty. negated) not_fits
values_fit function.Mask = two_fit as_given as_given mask_type (λ ty. masked) mask_fits
values_fit function.Zip = three_fit as_given as_given zip_type (λ ty. zipped) zip_fits
values_fit function.FillNull = two_fit as_given as_given fill_type (λ ty. filled) fill_fits
values_fit function.IsNull = one_fits as_given as_given test_type (λ ty v. value (boolean (is_null v))) (λ s ty v h. test_fits ty)
values_fit function.IsNotNull = one_fits as_given as_given test_type (λ ty v. value (boolean (not (is_null v)))) (λ s ty v h. test_fits ty)
values_fit (function.GetItem name) = get_fits name
values_fit (function.Pack options) = pack_fits options
values_fit function.ListContains = two_fit widened null_through contains_type (λ ty. contains) contains_fits
values_fit (function.PreparedSet scalar) = none_fits (set_type scalar) (value scalar.value) (prepared_fits scalar)
values_fit (function.Cast target) = one_fits as_given as_given (cast_type (type_of target)) cast_to (λ s ty v h e. cast_fits ty v)

-- of cells
cells_fit : (ty : DataType) (g : List Value → Cell) (tys : List DataType) (cs : List Cell) → AllZip CellFits tys cs
    → ((vs : List Value) → AllZip (λ s v. fits v s ≡ true) tys vs → CellFits ty (g vs)) → CellFits ty (on_values g cs)
cells_fit ty g [] [] h k = k [] tt
cells_fit ty g [] (c ∷ cs) h k = absurd h
cells_fit ty g (s ∷ tys) [] h k = absurd h
cells_fit ty g (s ∷ tys) (value v ∷ cs) h k = cells_fit ty (λ vs. g (v ∷ vs)) tys cs h.1 (λ vs fit. k (v ∷ vs) (h.0, fit))
cells_fit ty g (s ∷ tys) (fault ∷ cs) h k = tt

-- ---- the cells of a node

-- of a slot that holds a tree, cells that fit its type; of one that doesn't, none
abbrev SlotFits : List Cell → Option Shape → Type 0
SlotFits cs None = cs ≡ []
SlotFits cs (Some (shape ty n)) = All (CellFits ty) cs

first_fits : (css : List (List Cell)) (ty : DataType) (n : ℕ) (ss more : List (Option Shape)) → ss ≡ Some (shape ty n) ∷ more → AllZip SlotFits css ss
    → All (CellFits ty) (cells_at css 0)
first_fits [] ty n ss more e h = absurd (subst (AllZip SlotFits []) e h)
first_fits (cs ∷ css) ty n ss more e h = (subst (AllZip SlotFits (cs ∷ css)) e h).0

map_fits : {X : Type 0} (ty : DataType) (f : X → Cell) (xs : List X) → ((x : X) → CellFits ty (f x)) → All (CellFits ty) (map f xs)
map_fits ty f xs h = All-map (CellFits ty) f xs (λ k d lt. h (get_or xs k d))

chosen_fit : (ty : DataType) (bits : List Bool) (cs : List Cell) → All (CellFits ty) cs → All (CellFits ty) (chosen bits cs)
unfolding chosen
chosen_fit ty [] cs h = All-nil (CellFits ty)
chosen_fit ty (b ∷ bits) [] h = h
chosen_fit ty (true ∷ bits) (c ∷ cs) h =
    All-cons (CellFits ty) c (chosen bits cs) (All-head (CellFits ty) c cs h) (chosen_fit ty bits cs (All-tail (CellFits ty) c cs h))
chosen_fit ty (false ∷ bits) (c ∷ cs) h = chosen_fit ty bits cs (All-tail (CellFits ty) c cs h)

valid_cell_fits : (ty : DataType) (v c : Cell) → is_nullable (nullability_of ty) ≡ true → CellFits ty c → CellFits ty (valid_cell v c)
valid_cell_fits ty (value (boolean true)) c n h = h
valid_cell_fits ty (value (boolean false)) (value x) n h = n
valid_cell_fits ty _ _ n h = tt

valid_fit : (ty : DataType) (vs cs : List Cell) → is_nullable (nullability_of ty) ≡ true → All (CellFits ty) cs → All (CellFits ty) (valid_cells vs cs)
valid_fit ty [] cs n h = h
valid_fit ty (v ∷ vs) [] n h = h
valid_fit ty (v ∷ vs) (c ∷ cs) n h =
    All-cons (CellFits ty) (valid_cell v c) (valid_cells vs cs) (valid_cell_fits ty v c n (All-head (CellFits ty) c cs h))
    (valid_fit ty vs cs n (All-tail (CellFits ty) c cs h))

masked_fits : (ty : DataType) (n : ℕ) (css : List (List Cell)) (ss : List (Option Shape)) → IsMasked ty n ss → AllZip SlotFits css ss
    → All (CellFits ty) (valid_cells (cells_at css 1) (cells_at css 0))
masked_fits ty n css ss h k =
    let child = first_fits css h.0 n ss (h.1 ∷ []) h.2 k in
    let set = All-weaker (CellFits h.0) (CellFits (with_nullability Nullable h.0)) (λ c. set_fits Nullable h.0 c (λ m. refl)) (cells_at css 0) child in
    subst (λ x. All (CellFits x) (valid_cells (cells_at css 1) (cells_at css 0))) (sym h.3)
    (valid_fit (with_nullability Nullable h.0) (cells_at css 1) (cells_at css 0) (set_nullable Nullable h.0 refl) set)

shown_fits : (ty : DataType) (c : Cell) → ty ≡ type.bool NonNullable → CellFits ty (shown_cell c)
shown_fits ty (value null) e = ap (fits (boolean false)) e
shown_fits ty (value _) e = ap (fits (boolean true)) e
shown_fits ty fault e = tt

-- row i of slots that hold trees of the types
row_fits : (css : List (List Cell)) (tys : List DataType) (n i : ℕ) → AllZip SlotFits css (map (λ s. Some (shape s n)) tys) → AllZip CellFits tys (row_at css i)
row_fits [] [] n i h = tt
row_fits [] (s ∷ tys) n i h = absurd h
row_fits (cs ∷ css) [] n i h = absurd h
row_fits (cs ∷ css) (s ∷ tys) n i h = (fit_at s cs i (recursion_from_All (CellFits s) cs h.0), row_fits css tys n i h.1)

function_fits : (f : ScalarFnRef) (ty : DataType) (n : ℕ) (css : List (List Cell)) (ss : List (Option Shape)) (i : ℕ) → IsNode ty n (enc.function f) ss
    → AllZip SlotFits css ss
    → CellFits ty (apply f (types_in ss) ty (row_at css i))
function_fits f ty n css ss i h k =
    let types : h.0 ≡ types_in ss = sym (ap types_in h.1 ∙ types_back n h.0) in
    subst (λ tys. CellFits ty (apply f tys ty (row_at css i))) types
    (cells_fit ty (value_of f h.0 ty) h.0 (row_at css i) (row_fits css h.0 n i (subst (AllZip SlotFits css) h.1 k)) (λ vs fit. values_fit f h.0 ty vs h.2 fit))

-- the values of a column, by its validity
column_fits : {X : Type 0} (f : X → Cell) (xs : List X) (of_type : DataType) (k : ℕ) (ty : DataType) (n : ℕ) (css : List (List Cell)) (ss : List (Option Shape))
    → ((m : Nullability) (x : X) → CellFits (with_nullability m of_type) (f x)) → IsFlat of_type k ty n ss → AllZip SlotFits css ss
    → All (CellFits ty) (valid_cells (cells_at css 0) (map f xs))
column_fits f xs of_type k ty n css ss h flat fit =
    by_validity flat.0 css (nullability_of ty) refl flat.4 (subst (AllZip SlotFits css) flat.3 fit)
  where
    all : All (CellFits ty) (map f xs)
    all = map_fits ty f xs (λ x. subst (λ t. CellFits t (f x)) (sym flat.1) (h (nullability_of ty) x))

    by_validity : (v : Option Shape) (css : List (List Cell)) (m : Nullability) → nullability_of ty ≡ m → IsValidity m n v → AllZip SlotFits css (v ∷ [])
        → All (CellFits ty) (valid_cells (cells_at css 0) (map f xs))
    by_validity v [] m is valid fit = all
    by_validity None (vs ∷ css) m is valid fit = subst (λ l. All (CellFits ty) (valid_cells l (map f xs))) (sym fit.0) all
    by_validity (Some s) (vs ∷ css) NonNullable is valid fit = absurd valid
    by_validity (Some s) (vs ∷ css) Nullable is valid fit = valid_fit ty vs (map f xs) (ap is_nullable is) all

decimal_fits : (s : Storage) (m : Nullability) (z : ℤ) → fits (decimal z (scale_of s)) (with_nullability m (decimal_type s)) ≡ true
decimal_fits (Decimals p k) m z = (unsigned_Decides k k).1 refl
decimal_fits _ m z = refl

bytes_fit : (s : Storage) (m : Nullability) (bs : List ℕ) → fits (bytes bs) (with_nullability m (bytes_type s)) ≡ true
bytes_fit Text m bs = refl
bytes_fit _ m bs = refl

-- a value that a code names is null if the code is, so its type is nullable if the codes' is
taken_fits : (c s : DataType) (vs : List Cell) (k : Cell) → AllFit s vs → CellFits c k → CellFits (widen c s) (taken vs k)
taken_fits c s vs (value (integer (pos k))) h e =
    let m = nullability_of c in
    let n = nullability_of s in
    set_fits (union m n) s (get_or vs k fault) (λ is. ap is_nullable (union_second m n is)) (fit_at s vs k h)
taken_fits c s vs (value null) h e = set_nullable (union (nullability_of c) (nullability_of s)) s (ap is_nullable (union_first (nullability_of c) (nullability_of s) e))
taken_fits c s vs _ h e = tt

all_taken_fit : (c s : DataType) (vs ks : List Cell) → AllFit s vs → All (CellFits c) ks → All (CellFits (widen c s)) (taken_cells ks vs)
all_taken_fit c s vs [] h e = All-nil (CellFits (widen c s))
all_taken_fit c s vs (k ∷ ks) h e =
    All-cons (CellFits (widen c s)) (taken vs k) (taken_cells ks vs) (taken_fits c s vs k h (All-head (CellFits c) k ks e))
    (all_taken_fit c s vs ks h (All-tail (CellFits c) k ks e))

-- the cells of slot 1
next_fits : (css : List (List Cell)) (s ty : DataType) (m n : ℕ) (more : List (Option Shape)) → AllZip SlotFits css (Some (shape s m) ∷ Some (shape ty n) ∷ more)
    → All (CellFits ty) (cells_at css 1)
next_fits [] s ty m n more h = absurd h
next_fits (cs ∷ css) s ty m n more h = first_fits css ty n _ more refl h.1

dict_fits : (ty : DataType) (n : ℕ) (css : List (List Cell)) (ss : List (Option Shape)) → IsDict ty n ss → AllZip SlotFits css ss
    → All (CellFits ty) (taken_cells (cells_at css 0) (cells_at css 1))
dict_fits ty n css ss h k =
    let c = h.0 in
    let s = h.1 in
    let fit = subst (AllZip SlotFits css) h.3 k in
    let values = recursion_from_All (CellFits s) (cells_at css 1) (next_fits css c s n h.2 [] fit) in
    subst (λ x. All (CellFits x) (taken_cells (cells_at css 0) (cells_at css 1))) (sym h.5)
    (all_taken_fit c s (cells_at css 1) (cells_at css 0) values (first_fits css c n ss _ h.3 k))

-- the cells of slots of one type
chained_fit : (ty : DataType) (css : List (List Cell)) (ms : List ℕ) → AllZip SlotFits css (of_lengths ty ms) → All (CellFits ty) (chained css)
chained_fit ty [] [] h = All-nil (CellFits ty)
chained_fit ty [] (m ∷ ms) h = absurd h
chained_fit ty (cs ∷ css) [] h = absurd h
chained_fit ty (cs ∷ css) (m ∷ ms) h = All-append (CellFits ty) cs (chained css) h.0 (chained_fit ty css ms h.1)

at_fit : (ty : DataType) (css : List (List Cell)) (ms : List ℕ) (i : ℕ) → AllZip SlotFits css (of_lengths ty ms) → AllFit ty (cells_at css i)
at_fit ty [] [] i h = tt
at_fit ty [] (m ∷ ms) i h = absurd h
at_fit ty (cs ∷ css) [] i h = absurd h
at_fit ty (cs ∷ css) (m ∷ ms) zero h = recursion_from_All (CellFits ty) cs h.0
at_fit ty (cs ∷ css) (m ∷ ms) (suc i) h = at_fit ty css ms i h.1

paired_fits : (ty : DataType) (css : List (List Cell)) (ms : List ℕ) (i k : Cell) → AllZip SlotFits css (of_lengths ty ms) → CellFits ty (paired css i k)
paired_fits ty css ms (value (integer (pos i))) (value (integer (pos k))) h = fit_at ty (cells_at css i) k (at_fit ty css ms i h)
paired_fits ty css ms _ _ h = tt

all_paired_fit : (ty : DataType) (css : List (List Cell)) (ms : List ℕ) (is ks : List Cell) → AllZip SlotFits css (of_lengths ty ms)
    → All (CellFits ty) (paired_cells css is ks)
all_paired_fit ty css ms [] ks h = All-nil (CellFits ty)
all_paired_fit ty css ms (i ∷ is) [] h = All-nil (CellFits ty)
all_paired_fit ty css ms (i ∷ is) (k ∷ ks) h =
    All-cons (CellFits ty) (paired css i k) (paired_cells css is ks) (paired_fits ty css ms i k h) (all_paired_fit ty css ms is ks h)

-- the slots past the first two
third_fits : (css : List (List Cell)) (s r : Option Shape) (more : List (Option Shape)) → AllZip SlotFits css (s ∷ r ∷ more) → AllZip SlotFits (drop 2 css) more
third_fits [] s r more h = absurd h
third_fits (cs ∷ []) s r more h = absurd h.1
third_fits (cs ∷ ds ∷ css) s r more h = h.1.1

-- ---- rows that are made of the slots' rows

heads_fit : (css : List (List Cell)) (ss : List (Option Shape)) → AllZip SlotFits css ss → AllZip SlotFits (heads css) ss
heads_fit [] [] h = tt
heads_fit [] (s ∷ ss) h = absurd h
heads_fit (cs ∷ css) [] h = absurd h
heads_fit (cs ∷ css) (None ∷ ss) h = (ap (take 1) h.0, heads_fit css ss h.1)
heads_fit (cs ∷ css) (Some (shape ty n) ∷ ss) h = (All-take (CellFits ty) 1 cs h.0, heads_fit css ss h.1)

tails_fit : (css : List (List Cell)) (ss : List (Option Shape)) → AllZip SlotFits css ss → AllZip SlotFits (tails css) ss
tails_fit [] [] h = tt
tails_fit [] (s ∷ ss) h = absurd h
tails_fit (cs ∷ css) [] h = absurd h
tails_fit (cs ∷ css) (None ∷ ss) h = (ap (drop 1) h.0, tails_fit css ss h.1)
tails_fit (cs ∷ css) (Some (shape ty n) ∷ ss) h = (All-drop (CellFits ty) 1 cs h.0, tails_fit css ss h.1)

-- a row of slots like these is of the type
abbrev RowFits : DataType → List (Option Shape) → (List (List Cell) → Cell) → Type 0
RowFits ty ss made = (css : List (List Cell)) → AllZip SlotFits css ss → CellFits ty (made css)

made_fit : (ty : DataType) (ss : List (Option Shape)) (made : List (List Cell) → Cell) → RowFits ty ss made → (n : ℕ) (css : List (List Cell))
    → AllZip SlotFits css ss → All (CellFits ty) (row_by_row made n css)
made_fit ty ss made k zero css h = All-nil (CellFits ty)
made_fit ty ss made k (suc n) css h =
    All-cons (CellFits ty) (made (heads css)) (row_by_row made n (tails css)) (k (heads css) (heads_fit css ss h))
    (made_fit ty ss made k n (tails css) (tails_fit css ss h))

-- of fields and a validity
with_field_fits : (name : List ℕ) (t : DataType) (fs : Fields) (m : Nullability) (cs : List Cell) (x : Cell) → All (CellFits t) cs → CellFits (type.struct fs m) x
    → CellFits (type.struct (type.field name t fs) m) (with_field cs x)
with_field_fits name t fs m (value v ∷ []) (value (fields vs)) h k = both (All-head (CellFits t) (value v) [] h) k
with_field_fits name t fs m (value v ∷ []) (value null) h k = k
with_field_fits name t fs m _ _ h k = tt

without_fields_fit : (m : Nullability) (n : ℕ) (v : Option Shape) → IsValidity m n v → RowFits (type.struct type.no_fields m) (v ∷ []) struct_row
without_fields_fit m n v h [] k = absurd k
without_fields_fit m n v h ([] ∷ []) k = refl
without_fields_fit m n None h ((c ∷ cs) ∷ []) k = absurd (cc (k.0))
without_fields_fit NonNullable n (Some s) h ((c ∷ cs) ∷ []) k = absurd h
without_fields_fit Nullable n (Some s) h ((c ∷ cs) ∷ []) k = valid_cell_fits (type.struct type.no_fields Nullable) c _ refl refl
without_fields_fit m n v h (cs ∷ ds ∷ css) k = absurd k.1

struct_row_fits : (fs : Fields) (m : Nullability) (n : ℕ) (v : Option Shape) → IsValidity m n v
    → RowFits (type.struct fs m) (fields_shapes n fs ++ v ∷ []) struct_row
struct_row_fits type.no_fields m n v h css k = without_fields_fit m n v h css k
struct_row_fits (type.field name t fs) m n v h [] k = absurd k
struct_row_fits (type.field name t fs) m n v h (cs ∷ []) k = absurd (more fs k.1)
  where
    more : (fs : Fields) → AllZip SlotFits [] (fields_shapes n fs ++ v ∷ []) → ⊥
    more type.no_fields k = k
    more (type.field name t fs) k = k
struct_row_fits (type.field name t fs) m n v h (cs ∷ ds ∷ css) k = with_field_fits name t fs m cs _ k.0 (struct_row_fits fs m n v h (ds ∷ css) k.1)

-- of a storage: a value of its type is one of the extension
kind_within : (parts : Bool) (v : Value) (st : Storage) → is_kind (is_kind parts v st) v st ≡ true → is_kind parts v st ≡ true
kind_within parts null Nested h = h
kind_within parts (boolean b) Nested h = h
kind_within parts (integer z) Nested h = h
kind_within parts (decimal z r) Nested h = h
kind_within parts (bytes bs) Nested h = h
kind_within parts (list vs) Nested h = h
kind_within parts (fields vs) Nested h = h
kind_within parts (tagged tag v) Nested h = h
kind_within parts (variant t v) Nested h = h
kind_within parts _ _ h = h

kind_below : (parts : Bool) (v : Value) (t : DataType) → is_kind (is_kind parts v (storage_of (bare t))) v (storage_of t) ≡ true
    → is_kind parts v (storage_of (bare t)) ≡ true
kind_below parts v (type.extension id t) h = nested v h
  where
    nested : (v : Value) → is_kind (is_kind parts v (storage_of (bare t))) v Nested ≡ true → is_kind parts v (storage_of (bare t)) ≡ true
    nested null h = h
    nested _ h = h
kind_below parts v _ h = kind_within parts v _ h

extended_fits : (id : List ℕ) (t : DataType) (c : Cell) → CellFits t c → CellFits (type.extension id t) c
extended_fits id t (value null) h = h
extended_fits id t (value v) h = kind_below (parts_fit (bare t) v) v t h
extended_fits id t fault h = tt

extension_row_fits : (id : List ℕ) (t : DataType) (n : ℕ) → RowFits (type.extension id t) (Some (shape t n) ∷ []) extension_row
extension_row_fits id t n [] k = absurd k
extension_row_fits id t n ([] ∷ css) k = tt
extension_row_fits id t n ((c ∷ cs) ∷ css) k = extended_fits id t c (All-head (CellFits t) c cs k.0)

-- a line for each layout
layout_row_fits : (l : Layout) (ty : DataType) (n : ℕ) (ss : List (Option Shape)) → IsNode ty n (enc.composed l) ss → RowFits ty ss (laid_out l).row
layout_row_fits layout.Struct ty n ss h =
    subst (λ x. x) (λ i. RowFits (sym h.3 i) (sym h.4 i) struct_row) (struct_row_fits h.0 h.1 n h.2 h.5)
layout_row_fits layout.Extension ty n ss h =
    subst (λ x. x) (λ i. RowFits (sym h.2 i) (sym h.3 i) extension_row) (extension_row_fits h.0 h.1 n)

-- ---- a line for each encoding

node_fits : (ty : DataType) (n : ℕ) (d : Data) (css : List (List Cell)) (ss : List (Option Shape)) → IsNode ty n d ss → AllZip SlotFits css ss
    → All (CellFits ty) (node_cells ty n d (types_in ss) css)
node_fits ty n (enc.constant v) css ss h k = All-replicate (CellFits ty) n (value v.value) (typed_fits v.value ty h.1)
node_fits ty n (enc.slice a b) css ss h k = All-take (CellFits ty) _ _ (All-drop (CellFits ty) a _ (first_fits css ty h.0 ss [] h.1 k))
node_fits ty n (enc.filter bits) css ss h k = chosen_fit ty bits (cells_at css 0) (first_fits css ty (length bits) ss [] h.0 k)
node_fits ty n enc.masked css ss h k = masked_fits ty n css ss h k
node_fits ty n enc.is_valid css ss h k = map_fits ty shown_cell (cells_at css 0) (λ c. shown_fits ty c h.2)
node_fits ty n (enc.function f) css ss h k = map_fits ty (λ i. apply f (types_in ss) ty (row_at css i)) (range_with_len 0 n) (λ i. function_fits f ty n css ss i h k)
node_fits ty n enc.dict css ss h k = dict_fits ty n css ss h k
node_fits ty n enc.chunked css ss h k = chained_fit ty css h.0 (subst (AllZip SlotFits css) h.1 k)
node_fits ty n enc.interleave css ss h k =
    all_paired_fit ty (drop 2 css) (h.2 ∷ h.3) (cells_at css 0) (cells_at css 1) (third_fits css _ _ _ (subst (AllZip SlotFits css) h.4 k))
node_fits ty n enc.nulls css ss h k = All-replicate (CellFits ty) n (value null) (ap (λ t. is_nullable (nullability_of t)) h.0)
node_fits ty n (enc.bool bs) css ss h k = column_fits _ bs (type.bool NonNullable) (length bs) ty n css ss (λ m b. refl) h k
node_fits ty n (enc.primitive p zs) css ss h k = column_fits _ zs (type.primitive p NonNullable) (length zs) ty n css ss (λ m z. refl) h k
node_fits ty n (enc.decimals w zs) css ss h k = column_fits _ zs (decimal_type (storage_of ty)) (length zs) ty n css ss (decimal_fits (storage_of ty)) h.0 k
node_fits ty n (enc.views rs) css ss h k =
    column_fits _ rs.views (bytes_type (storage_of ty)) (length rs.views) ty n css ss (λ m v. bytes_fit (storage_of ty) m (bytes_at rs.buffers v)) h.0 k
node_fits ty n (enc.composed l) css ss h k = made_fit ty ss (laid_out l).row (layout_row_fits l ty n ss h) n css k

mutual
  tree_fits : (t : Tree) → IsWell t → All (CellFits (dtype t)) (rows t)
  tree_fits (node ty n d ss) w = node_fits ty n d (slots_rows ss) (shapes ss) w.0 (slots_fit ss w.1)

  slots_fit : (ss : Slots) → AreWell ss → AllZip SlotFits (slots_rows ss) (shapes ss)
  slots_fit no_slots w = tt
  slots_fit (absent ss) w = (refl, slots_fit ss w)
  slots_fit (slot t ss) w = (tree_fits t w.0, slots_fit ss w.1)

pub rows_fit : (t : Tree) → IsWell t → AllFit (dtype t) (rows t)
rows_fit t w = recursion_from_All (CellFits (dtype t)) (rows t) (tree_fits t w)
