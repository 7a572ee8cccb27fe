-- Each row of the table, up to equations.
use Rattle.std.proofs.Common.{◌≡◌, ℕ, ◌+◌, ◌-◌, ◌<◌, List, [], ◌∷◌, length, Option, Some, None, Result, Ok, Err, Bool, true, false, refl, sym, subst, ap, ◌∙◌, arith}
use Rattle.std.specs.Prelude.{option_map}
use Rattle.vx_value.specs.Types as type
use Rattle.vx_value.specs.Types.{DataType, Fields, nullability_of}
use Rattle.vx_value.specs.Typed.{Typed}
use Rattle.vx_value.specs.View.{type_of}
use Rattle.vx_value.specs.declared.dtype.DType.{DType}
use Rattle.vx_value.specs.declared.dtype.Nullability.TheVariants.{NonNullable, Nullable}
use Rattle.vx_value.specs.declared.error.VortexError.{VortexError}
use Rattle.vx_mask.specs.Masks.{is_all_true}
use Rattle.vx_mask.specs.Places.{true_count, combined, IsRun}
use Rattle.vx_fn.specs.declared.function.ScalarFnRef.{ScalarFnRef}
use Rattle.vx_fn.specs.declared.function.ScalarFnRef.TheVariants as fn_of
use Rattle.vx_fn.specs.declared.functions.pack.PackOptions.{PackOptions}
use Rattle.vx_tree.specs.Tree as enc
use Rattle.vx_tree.specs.Tree.{Tree, Slots, node, no_slots, slot, slots, slots_of, dtype, len, datum, constant_of, slice_of, filter_of, masked_of, dict_of, is_canonical, is_columnar, lets_below, last_tree}
use Rattle.vx_tree.specs.Slots.{map_slots, present_from, present_in, count_slots}
use Rattle.vx_tree.specs.Parts.{part_of, choice_of, column_range}
use Rattle.vx_tree.specs.Columns.{empty_of}
use Rattle.vx_tree.specs.Validities.{truths}
use Rattle.vx_tree.specs.NodeValidities.{both_of, node_validity}
use Rattle.vx_tree.specs.declared.array.layout.Layout.TheVariants as layout
use Rattle.vx_tree.specs.declared.validity.Validity.{Validity}
use Rattle.vx_rule.specs.declared.raw_node.RawNode.{RawNode}
use Rattle.vx_rule.specs.Answers.{Answers, IsRaw, IsRawFirst}
use Rattle.vx_rule.specs.Items.{IsItem}
use Rattle.vx_rule.specs.Pushes.{IsConstantLike}
use Rattle.vx_rule.specs.Rules.{Row, IsPart, IsApart, lets_slice, named_by, taken_of, validity_column, structs_at, with_absent, item_node, mask_node, field_in, F1, F2, F3, F4, P1, C1, N1_null, N1_valid, S_whole, S_empty, S1, S2, S3, S4, S5, S6, F5, F6, F7, F8, F9, G1, G2, G3, G4, G4_masked, M1, D1, D2}
use Rattle.vx_rule.proofs.PushLemmas.{masked_mapped}
use Rattle.vx_rule.specs.Calls.{null_test}

-- a row, up to equations
pub row_by : (w : Option ℕ) (t s u v : Tree) (os ps : List ℕ) → Row w t u os → t ≡ s → u ≡ v → os ≡ ps → Row w s v ps
row_by w t s u v os ps h e f g = subst (λ x. Row w x v ps) e (subst (λ x. Row w t x ps) f (subst (λ x. Row w t u x) g h))

-- the same for the same tree
row_for : (w : Option ℕ) (t u v : Tree) (os ps : List ℕ) → Row w t u os → v ≡ u → ps ≡ os → Row w t v ps
row_for w t u v os ps h f g = row_by w t t u v os ps h refl (sym f) (sym g)

-- an answer all of whose slots are to be optimized
pub raw_row : (w : Option ℕ) (t u : Tree) (r : Result (Option RawNode) VortexError) → IsRaw u r
    → ((x : Tree) (os : List ℕ) → x ≡ u → os ≡ present_from 0 (slots x) → Row w t x os) → Answers w t r
raw_row w t u (Ok None) h k = absurd h
raw_row w t u (Ok (Some x)) h k = k x.tree x.optimize.items h.0 (h.1 ∙ ap (λ y. present_from 0 (slots y)) (sym h.0))
raw_row w t u (Err e) h k = h

-- one whose first slot is
pub first_row : (w : Option ℕ) (t u : Tree) (r : Result (Option RawNode) VortexError) → IsRawFirst u r
    → ((x : Tree) (os : List ℕ) → x ≡ u → os ≡ 0 ∷ [] → Row w t x os) → Answers w t r
first_row w t u (Ok None) h k = absurd h
first_row w t u (Ok (Some x)) h k = k x.tree x.optimize.items h.0 h.1
first_row w t u (Err e) h k = h

-- ---- of a filter by its mask alone

pub fit_F1 : (bits : List Bool) (c u : Tree) (os : List ℕ) → is_all_true bits ≡ true → u ≡ c → os ≡ [] → Row None (filter_of bits c) u os
fit_F1 bits c u os e f g = row_for None (filter_of bits c) c u [] os (F1 (dtype c) (true_count bits) bits c e) f g

pub fit_F2 : (bits : List Bool) (c u : Tree) (os : List ℕ) → is_all_true bits ≡ false → true_count bits ≡ 0 → u ≡ empty_of (dtype c) → os ≡ []
    → Row None (filter_of bits c) u os
fit_F2 bits c u os e z f g = row_for None (filter_of bits c) (empty_of (dtype c)) u [] os (F2 (dtype c) (true_count bits) bits c e z) f g

pub fit_F3 : (bits : List Bool) (a b : ℕ) (c u : Tree) (os : List ℕ) → is_all_true bits ≡ false → IsRun bits a b → u ≡ slice_of a b c → os ≡ []
    → Row None (filter_of bits c) u os
fit_F3 bits a b c u os e r f g = row_for None (filter_of bits c) (slice_of a b c) u [] os (F3 (dtype c) (true_count bits) bits c a b e r) f g

-- the mask of n rows chooses some
some_rows : (bits : List Bool) (n : ℕ) → length bits ≡ n → (true_count bits ≡ 0 → ⊥) → 0 < n
unfolding true_count
some_rows [] n long some = absurd (some refl)
some_rows (b ∷ bits) n long some = omega (arith, long)

pub fit_F4 : (bits : List Bool) (ss cs : Slots) (x u : Tree) (os : List ℕ) → x ≡ node (dtype x) (len x) (enc.composed layout.Struct) ss → length bits ≡ len x
    → IsApart bits → cs ≡ map_slots (choice_of bits) ss → u ≡ node (dtype x) (true_count bits) (enc.composed layout.Struct) cs → os ≡ present_from 0 (slots u)
    → Row None (filter_of bits x) u os
fit_F4 bits ss cs x u os is long apart choices made g =
    let ty = dtype x in
    let whole = node ty (len x) (enc.composed layout.Struct) ss in
    let made = made ∙ ap (node ty (true_count bits) (enc.composed layout.Struct)) choices in
    row_by None (filter_of bits whole) (filter_of bits x) (structs_at bits ty ss) u (present_from 0 (map_slots (choice_of bits) ss)) os
    (F4 ty ty (true_count bits) (len x) bits ss apart (some_rows bits (len x) long apart.some))
    (ap (filter_of bits) (sym is)) (sym made) (sym (g ∙ ap (λ y. present_from 0 (slots y)) made))

-- ---- of a function by itself

pub fit_P1 : (ty : DataType) (n : ℕ) (options : PackOptions) (ss : Slots) (t u : Tree) (os : List ℕ) → t ≡ node ty n (enc.function (fn_of.Pack options)) ss
    → u ≡ node ty n (enc.composed layout.Struct) (with_absent ss) → os ≡ [] → Row None t u os
fit_P1 ty n options ss t u os e f g =
    row_by None (node ty n (enc.function (fn_of.Pack options)) ss) t (node ty n (enc.composed layout.Struct) (with_absent ss)) u [] os (P1 ty n options ss)
    (sym e) (sym f) (sym g)

pub fit_C1 : (ty : DataType) (n : ℕ) (target : DType) (t c u : Tree) (os : List ℕ) → t ≡ node ty n (enc.function (fn_of.Cast target)) (slot c no_slots)
    → dtype c ≡ type_of target → u ≡ c → os ≡ [] → Row None t u os
fit_C1 ty n target t c u os e d f g =
    row_by None (node ty n (enc.function (fn_of.Cast target)) (slot c no_slots)) t c u [] os (C1 ty n target c d) (sym e) (sym f) (sym g)

pub fit_N1 : (value : Bool) (ty : DataType) (n : ℕ) (t c u : Tree) (os : List ℕ) → t ≡ node ty n (enc.function (null_test value)) (slot c no_slots)
    → nullability_of (dtype c) ≡ NonNullable → u ≡ truths value n → os ≡ [] → Row None t u os
fit_N1 false ty n t c u os e d f g =
    row_by None (node ty n (enc.function fn_of.IsNull) (slot c no_slots)) t (truths false n) u [] os (N1_null ty n c d) (sym e) (sym f) (sym g)
fit_N1 true ty n t c u os e d f g =
    row_by None (node ty n (enc.function fn_of.IsNotNull) (slot c no_slots)) t (truths true n) u [] os (N1_valid ty n c d) (sym e) (sym f) (sym g)

-- ---- of a child for a slice

pub fit_S_whole : (a b : ℕ) (x u : Tree) (os : List ℕ) → lets_slice (datum x) ≡ true → a ≡ 0 → b ≡ len x → u ≡ x → os ≡ [] → Row (Some 0) (slice_of a b x) u os
fit_S_whole a b x u os l z y f g = row_for (Some 0) (slice_of a b x) x u [] os (S_whole (dtype x) (b - a) a b x l z y) f g

pub fit_S_empty : (a b : ℕ) (x u : Tree) (os : List ℕ) → lets_slice (datum x) ≡ true → a ≡ b → 0 < len x → u ≡ empty_of (dtype x) → os ≡ []
    → Row (Some 0) (slice_of a b x) u os
fit_S_empty a b x u os l z y f g = row_for (Some 0) (slice_of a b x) (empty_of (dtype x)) u [] os (S_empty (dtype x) (b - a) a b x l z y) f g

pub fit_S1 : (a b s t : ℕ) (x c u : Tree) (os : List ℕ) → x ≡ slice_of s t c → IsPart a b (len x) → u ≡ slice_of (s + a) (s + b) c → os ≡ []
    → Row (Some 0) (slice_of a b x) u os
fit_S1 a b s t x c u os e p f g =
    row_by (Some 0) (slice_of a b (slice_of s t c)) (slice_of a b x) (slice_of (s + a) (s + b) c) u [] os
    (S1 (dtype c) (dtype c) (b - a) a b (t - s) s t c (subst (λ y. IsPart a b (len y)) e p)) (ap (slice_of a b) (sym e)) (sym f) (sym g)

pub fit_S2 : (a b : ℕ) (x c u : Tree) (os : List ℕ) → IsConstantLike x (b - a) c → IsPart a b (len x) → u ≡ c → os ≡ [] → Row (Some 0) (slice_of a b x) u os
fit_S2 a b x c u os like p f g =
    let v = like.0 in
    row_by (Some 0) (slice_of a b (constant_of v (len x))) (slice_of a b x) (constant_of v (b - a)) u [] os
    (S2 v.of_type v.of_type (b - a) a b (len x) v p) (ap (slice_of a b) (sym like.1)) (sym (f ∙ like.2)) (sym g)

in_root : (t : Tree) → present_in t ≡ present_from 0 (slots t)
in_root (node ty n d ss) = refl

pub fit_S3 : (a b : ℕ) (x u : Tree) (os : List ℕ) → is_canonical (datum x) ≡ true → IsPart a b (len x) → u ≡ column_range a b x → os ≡ present_from 0 (slots u)
    → Row (Some 0) (slice_of a b x) u os
fit_S3 a b (node ty k d ss) u os h p f g =
    let x = node ty k d ss in
    row_for (Some 0) (slice_of a b x) (column_range a b x) u (present_in (column_range a b x)) os (S3 ty ty (b - a) a b k d ss h p) f
    (g ∙ ap (λ y. present_from 0 (slots y)) f)

pub fit_S4 : (a b k : ℕ) (ty : DataType) (f : ScalarFnRef) (ss us : Slots) (x u : Tree) (os : List ℕ) → lets_below f ≡ true → x ≡ node ty k (enc.function f) ss
    → IsPart a b (len x) → us ≡ map_slots (slice_of a b) ss → u ≡ node ty (b - a) (enc.function f) us → os ≡ present_from 0 (slots u) → Row (Some 0) (slice_of a b x) u os
fit_S4 a b k ty f ss us x u os l e p m made g =
    let made = made ∙ ap (node ty (b - a) (enc.function f)) m in
    row_by (Some 0) (slice_of a b (node ty k (enc.function f) ss)) (slice_of a b x) (node ty (b - a) (enc.function f) (map_slots (slice_of a b) ss)) u
    (present_from 0 (map_slots (slice_of a b) ss)) os (S4 ty ty (b - a) a b k f ss l (subst (λ y. IsPart a b (len y)) e p))
    (ap (slice_of a b) (sym e)) (sym made) (sym (g ∙ ap (λ y. present_from 0 (slots y)) made))

pub fit_S5 : (a b : ℕ) (x c s u : Tree) (v w : Option Tree) (os : List ℕ) → x ≡ masked_of c v → IsPart a b (len x) → s ≡ slice_of a b c
    → w ≡ option_map (part_of a b) v → u ≡ node (dtype x) (len s) enc.masked (slots_of (Some s ∷ w ∷ [])) → os ≡ present_from 0 (slots u)
    → Row (Some 0) (slice_of a b x) u os
fit_S5 a b x c s u v w os e p slices parts made g =
    let ty = dtype (masked_of c v) in
    let vs = slots_of (v ∷ []) in
    let validity_column = slot (slice_of a b c) (map_slots (part_of a b) vs) in
    let made : u ≡ node ty (b - a) enc.masked validity_column =
    made ∙ (λ i. node (dtype (e i)) (len (slices i)) enc.masked (slots_of (Some (slices i) ∷ parts i ∷ [])))
    ∙ ap (node ty (b - a) enc.masked) (masked_mapped (part_of a b) (slice_of a b c) v) in
    row_by (Some 0) (slice_of a b (masked_of c v)) (slice_of a b x) (node ty (b - a) enc.masked validity_column) u (present_from 0 validity_column) os
    (S5 ty ty (b - a) a b (len c) c vs (subst (λ y. IsPart a b (len y)) e p)) (ap (slice_of a b) (sym e)) (sym made)
    (sym (g ∙ ap (λ y. present_from 0 (slots y)) made))

pub fit_S6 : (a b : ℕ) (x c v s w u : Tree) (os : List ℕ) → x ≡ dict_of c v → IsPart a b (len x) → s ≡ slice_of a b c → w ≡ v → u ≡ dict_of s w → os ≡ 0 ∷ []
    → Row (Some 0) (slice_of a b x) u os
fit_S6 a b x c v s w u os e p slices same made g =
    let ty = dtype (dict_of c v) in
    let made : u ≡ node ty (b - a) enc.dict (slot (slice_of a b c) (slot v no_slots)) = made ∙ (λ i. dict_of (slices i) (same i)) in
    row_by (Some 0) (slice_of a b (dict_of c v)) (slice_of a b x) (node ty (b - a) enc.dict (slot (slice_of a b c) (slot v no_slots))) u (0 ∷ []) os
    (S6 ty ty (b - a) a b (len c) c (slot v no_slots) (subst (λ y. IsPart a b (len y)) e p)) (ap (slice_of a b) (sym e)) (sym made) (sym g)

-- ---- of a child for a filter

pub fit_F5 : (outer inner : List Bool) (x c u : Tree) (os : List ℕ) → x ≡ filter_of outer c → u ≡ filter_of (combined outer inner) c → os ≡ []
    → Row (Some 0) (filter_of inner x) u os
fit_F5 outer inner x c u os e f g =
    row_by (Some 0) (filter_of inner (filter_of outer c)) (filter_of inner x) (filter_of (combined outer inner) c) u [] os
    (F5 (dtype c) (dtype c) (true_count inner) (true_count outer) outer inner c) (ap (filter_of inner) (sym e)) (sym f) (sym g)

pub fit_F6 : (bits : List Bool) (x c u : Tree) (os : List ℕ) → IsConstantLike x (true_count bits) c → u ≡ c → os ≡ [] → Row (Some 0) (filter_of bits x) u os
fit_F6 bits x c u os like f g =
    let v = like.0 in
    row_by (Some 0) (filter_of bits (constant_of v (len x))) (filter_of bits x) (constant_of v (true_count bits)) u [] os
    (F6 v.of_type v.of_type (true_count bits) (len x) bits v) (ap (filter_of bits) (sym like.1)) (sym (f ∙ like.2)) (sym g)

pub fit_F7 : (k : ℕ) (bits : List Bool) (ty : DataType) (f : ScalarFnRef) (ss us : Slots) (x u : Tree) (os : List ℕ) → lets_below f ≡ true
    → x ≡ node ty k (enc.function f) ss → us ≡ map_slots (choice_of bits) ss → u ≡ node ty (true_count bits) (enc.function f) us → os ≡ present_from 0 (slots u)
    → Row (Some 0) (filter_of bits x) u os
fit_F7 k bits ty f ss us x u os l e m made g =
    let made = made ∙ ap (node ty (true_count bits) (enc.function f)) m in
    row_by (Some 0) (filter_of bits (node ty k (enc.function f) ss)) (filter_of bits x)
    (node ty (true_count bits) (enc.function f) (map_slots (choice_of bits) ss)) u
    (present_from 0 (map_slots (choice_of bits) ss)) os (F7 ty ty (true_count bits) k bits f ss l)
    (ap (filter_of bits) (sym e)) (sym made) (sym (g ∙ ap (λ y. present_from 0 (slots y)) made))

pub fit_F8 : (bits : List Bool) (x c s u : Tree) (v w : Option Tree) (os : List ℕ) → x ≡ masked_of c v → s ≡ filter_of bits c
    → w ≡ option_map (choice_of bits) v → u ≡ node (dtype x) (len s) enc.masked (slots_of (Some s ∷ w ∷ [])) → os ≡ present_from 0 (slots u)
    → Row (Some 0) (filter_of bits x) u os
fit_F8 bits x c s u v w os e filters parts made g =
    let ty = dtype (masked_of c v) in
    let vs = slots_of (v ∷ []) in
    let validity_column = slot (filter_of bits c) (map_slots (choice_of bits) vs) in
    let made : u ≡ node ty (true_count bits) enc.masked validity_column =
    made ∙ (λ i. node (dtype (e i)) (len (filters i)) enc.masked (slots_of (Some (filters i) ∷ parts i ∷ [])))
    ∙ ap (node ty (true_count bits) enc.masked) (masked_mapped (choice_of bits) (filter_of bits c) v) in
    row_by (Some 0) (filter_of bits (masked_of c v)) (filter_of bits x) (node ty (true_count bits) enc.masked validity_column) u (present_from 0 validity_column) os
    (F8 ty ty (true_count bits) (len c) bits c vs) (ap (filter_of bits) (sym e)) (sym made) (sym (g ∙ ap (λ y. present_from 0 (slots y)) made))

pub fit_F9 : (bits : List Bool) (x c v s w u : Tree) (os : List ℕ) → x ≡ dict_of c v → s ≡ filter_of bits c → w ≡ v → u ≡ dict_of s w → os ≡ 0 ∷ []
    → Row (Some 0) (filter_of bits x) u os
fit_F9 bits x c v s w u os e filters same made g =
    let ty = dtype (dict_of c v) in
    let made : u ≡ node ty (true_count bits) enc.dict (slot (filter_of bits c) (slot v no_slots)) = made ∙ (λ i. dict_of (filters i) (same i)) in
    row_by (Some 0) (filter_of bits (dict_of c v)) (filter_of bits x) (node ty (true_count bits) enc.dict (slot (filter_of bits c) (slot v no_slots))) u (0 ∷ []) os
    (F9 ty ty (true_count bits) (len c) bits c (slot v no_slots)) (ap (filter_of bits) (sym e)) (sym made) (sym g)

-- ---- of the values of a dictionary

pub fit_D1 : (t c y u : Tree) (v : Typed) (w : Validity) (os : List ℕ) → t ≡ dict_of c y → y ≡ constant_of v (len y) → w ≡ node_validity c
    → u ≡ named_by (dtype t) (len t) v.value w → os ≡ [] → Row (Some 1) t u os
fit_D1 t c y u v w os e like told made g =
    let whole : t ≡ dict_of c (constant_of v (len y)) = e ∙ ap (dict_of c) like in
    let ty = dtype (dict_of c (constant_of v (len y))) in
    row_by (Some 1) (dict_of c (constant_of v (len y))) t (named_by ty (len c) v.value (node_validity c)) u [] os (D1 ty v.of_type (len c) (len y) c v) (sym whole)
    (sym (made ∙ (λ i. named_by (dtype (whole i)) (len (whole i)) v.value (told i)))) (sym g)

pub fit_D2 : (t codes x c s u : Tree) (v w : Option Tree) (os : List ℕ) → t ≡ dict_of codes x → x ≡ masked_of c v → nullability_of (dtype codes) ≡ NonNullable
    → is_columnar (datum codes) ≡ true → s ≡ dict_of codes c → w ≡ option_map (taken_of codes) v
    → u ≡ node (dtype t) (len s) enc.masked (slots_of (Some s ∷ w ∷ [])) → os ≡ present_from 0 (slots u) → Row (Some 1) t u os
fit_D2 t codes x c s u v w os e is never column names takes made g =
    let whole : t ≡ dict_of codes (masked_of c v) = e ∙ ap (dict_of codes) is in
    let ty = dtype (dict_of codes (masked_of c v)) in
    let vs = slots_of (v ∷ []) in
    let parts = slot (dict_of codes c) (map_slots (taken_of codes) vs) in
    let made : u ≡ node ty (len codes) enc.masked parts =
    made ∙ (λ i. node (dtype (whole i)) (len (names i)) enc.masked (slots_of (Some (names i) ∷ takes i ∷ [])))
    ∙ ap (node ty (len codes) enc.masked) (masked_mapped (taken_of codes) (dict_of codes c) v) in
    row_by (Some 1) (dict_of codes (masked_of c v)) t (node ty (len codes) enc.masked parts) u (present_from 0 parts) os
    (D2 ty (dtype (masked_of c v)) (len codes) (len c) codes c vs never column (one_slot v)) (sym whole) (sym made)
    (sym (g ∙ ap (λ y. present_from 0 (slots y)) made))
  where
    one_slot : (v : Option Tree) → count_slots (slots_of (v ∷ [])) ≡ 1
    one_slot None = refl
    one_slot (Some z) = refl

-- ---- of a masked array for a mask

pub fit_M1 : (ty : DataType) (n : ℕ) (t x c m y both u : Tree) (v : Option Tree) (os : List ℕ)
    → t ≡ node ty n (enc.function fn_of.Mask) (slots_of (Some x ∷ Some m ∷ [])) → x ≡ masked_of c v → y ≡ validity_column n (slots_of (v ∷ [])) → both ≡ both_of n m y
    → u ≡ node ty n (enc.function fn_of.Mask) (slots_of (Some c ∷ Some both ∷ [])) → os ≡ [] → Row (Some 0) t u os
fit_M1 ty n t x c m y both u v os shape e tells joins made g =
    let vs = slots_of (v ∷ []) in
    row_by (Some 0) (node ty n (enc.function fn_of.Mask) (slot (masked_of c v) (slot m no_slots))) t
    (node ty n (enc.function fn_of.Mask) (slot c (slot (both_of n m (validity_column n vs)) no_slots))) u [] os
    (M1 ty (dtype (masked_of c v)) n (len c) c m vs) (sym (shape ∙ ap (λ z. node ty n (enc.function fn_of.Mask) (slot z (slot m no_slots))) e))
    (sym (made ∙ ap (λ z. node ty n (enc.function fn_of.Mask) (slot c (slot z no_slots))) (joins ∙ ap (both_of n m) tells))) (sym g)

-- ---- of a child for `get_item`

pub fit_G1 : (name : List ℕ) (bits : List Bool) (t x c y u : Tree) (os : List ℕ) → t ≡ item_node name (dtype t) (len t) x → x ≡ filter_of bits c
    → y ≡ item_node name (dtype t) (len c) c → u ≡ filter_of bits y → os ≡ 0 ∷ [] → Row (Some 0) t u os
fit_G1 name bits t x c y u os e is item made g =
    row_by (Some 0) (item_node name (dtype t) (len t) (filter_of bits c)) t (filter_of bits (item_node name (dtype t) (len c) c)) u (0 ∷ []) os
    (G1 (dtype t) (dtype c) (len t) (true_count bits) name bits c) (sym (e ∙ ap (item_node name (dtype t) (len t)) is))
    (sym (made ∙ ap (filter_of bits) item)) (sym g)

pub fit_G2 : (name : List ℕ) (a b : ℕ) (t x c y u : Tree) (os : List ℕ) → t ≡ item_node name (dtype t) (len t) x → x ≡ slice_of a b c
    → y ≡ item_node name (dtype t) (len c) c → u ≡ slice_of a b y → os ≡ 0 ∷ [] → Row (Some 0) t u os
fit_G2 name a b t x c y u os e is item made g =
    row_by (Some 0) (item_node name (dtype t) (len t) (slice_of a b c)) t (slice_of a b (item_node name (dtype t) (len c) c)) u (0 ∷ []) os
    (G2 (dtype t) (dtype c) (len t) (b - a) a b name c) (sym (e ∙ ap (item_node name (dtype t) (len t)) is))
    (sym (made ∙ ap (slice_of a b) item)) (sym g)

pub fit_G3 : (name : List ℕ) (t x c y told u : Tree) (v : Option Tree) (os : List ℕ) → t ≡ item_node name (dtype t) (len t) x → x ≡ masked_of c v
    → len c ≡ len t → IsItem name c y → told ≡ validity_column (len t) (slots_of (v ∷ [])) → u ≡ mask_node (dtype t) (len t) y told → os ≡ 0 ∷ []
    → Row (Some 0) t u os
fit_G3 name t x c y told u v os e is long item tells made g =
    let ty = dtype t in
    let n = len t in
    let vs = slots_of (v ∷ []) in
    let inner : y ≡ item_node name (dtype y) n c = item.1 ∙ ap (λ k. item_node name (dtype y) k c) long in
    row_by (Some 0) (item_node name ty n (masked_of c v)) t (mask_node ty n (item_node name (dtype y) n c) (validity_column n vs)) u (0 ∷ []) os
    (G3 ty (dtype (masked_of c v)) (dtype y) n (len c) name c vs item.0) (sym (e ∙ ap (item_node name ty n) is))
    (sym (made ∙ (λ i. mask_node ty n (inner i) (tells i)))) (sym g)

pub fit_G4 : (name : List ℕ) (fs : Fields) (ss : Slots) (t x c u : Tree) (os : List ℕ) → t ≡ item_node name (dtype t) (len t) x
    → x ≡ node (type.struct fs NonNullable) (len x) (enc.composed layout.Struct) ss → field_in name fs ss ≡ Some c → u ≡ c → os ≡ [] → Row (Some 0) t u os
fit_G4 name fs ss t x c u os e is found made g =
    row_by (Some 0) (item_node name (dtype t) (len t) (node (type.struct fs NonNullable) (len x) (enc.composed layout.Struct) ss)) t c u [] os
    (G4 (dtype t) (len t) (len x) name fs ss c found) (sym (e ∙ ap (item_node name (dtype t) (len t)) is)) (sym made) (sym g)

pub fit_G4_masked : (name : List ℕ) (fs : Fields) (ss : Slots) (t x c told u : Tree) (v : Option Tree) (os : List ℕ) → t ≡ item_node name (dtype t) (len t) x
    → x ≡ node (type.struct fs Nullable) (len x) (enc.composed layout.Struct) ss → field_in name fs ss ≡ Some c → v ≡ last_tree ss
    → told ≡ validity_column (len t) (slots_of (v ∷ [])) → u ≡ mask_node (dtype t) (len t) c told → os ≡ [] → Row (Some 0) t u os
fit_G4_masked name fs ss t x c told u v os e is found last tells made g =
    let ty = dtype t in
    let n = len t in
    row_by (Some 0) (item_node name ty n (node (type.struct fs Nullable) (len x) (enc.composed layout.Struct) ss)) t
    (mask_node ty n c (validity_column n (slots_of (last_tree ss ∷ [])))) u [] os
    (G4_masked ty n (len x) name fs ss c found) (sym (e ∙ ap (item_node name ty n) is))
    (sym (made ∙ ap (mask_node ty n c) (tells ∙ ap (λ w. validity_column n (slots_of (w ∷ []))) last))) (sym g)
