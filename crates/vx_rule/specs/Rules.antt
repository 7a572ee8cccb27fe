-- The table of rewrite rules, a constructor for each row. A row's name is the one that its users see.
use Rattle.std.specs.Prelude.{◌≡◌, ℕ, ◌+◌, ◌-◌, ◌<◌, ◌≤◌, List, [], ◌∷◌, Option, Some, None, Bool, true, false, ◌||◌, if◌then◌else◌}
use Rattle.std.specs.Str.{bytes_eq}
use Rattle.vx_value.specs.Types as type
use Rattle.vx_value.specs.Types.{DataType, Fields, nullability_of}
use Rattle.vx_value.specs.Typed.{Typed}
use Rattle.vx_value.specs.Cell.{value}
use Rattle.vx_value.specs.Values.{Value, null}
use Rattle.vx_value.specs.View.{type_of}
use Rattle.vx_value.specs.declared.dtype.DType.{DType}
use Rattle.vx_value.specs.declared.dtype.Nullability.TheVariants.{NonNullable, Nullable}
use Rattle.vx_mask.specs.Masks.{is_all_true}
use Rattle.vx_mask.specs.Places.{true_count, combined, IsRun}
use Rattle.vx_fn.specs.Apply.{apply}
use Rattle.vx_fn.specs.ReturnTypes.{return_type}
use Rattle.vx_fn.specs.declared.function.ScalarFnRef.{ScalarFnRef}
use Rattle.vx_fn.specs.declared.function.ScalarFnRef.TheVariants as fn_of
use Rattle.vx_fn.specs.declared.functions.between.BetweenOptions.{BetweenOptions}
use Rattle.vx_fn.specs.declared.functions.pack.PackOptions.{PackOptions}
use Rattle.vx_tree.specs.Tree as enc
use Rattle.vx_tree.specs.Tree.{Tree, Data, Slots, node, no_slots, absent, slot, dtype, len, slots_of, datum, constant_of, slice_of, filter_of, dict_of, is_slice, is_constant, is_masked, is_dict, is_canonical, is_columnar, lets_below, last_tree}
use Rattle.vx_tree.specs.Slots.{map_slots, present_from, present_in, count_slots, IsPresent}
use Rattle.vx_tree.specs.Parts.{part_of, choice_of, column_range}
use Rattle.vx_tree.specs.Columns.{empty_of}
use Rattle.vx_tree.specs.Validities.{truths}
use Rattle.vx_tree.specs.NodeValidities.{both_of, node_validity}
use Rattle.vx_tree.specs.declared.array.layout.Layout.TheVariants as layout
use Rattle.vx_tree.specs.declared.validity.Validity.{Validity}
use Rattle.vx_tree.specs.declared.validity.Validity.TheVariants as validity
use Rattle.vx_rule.specs.Tags.{applies}

-- a mask chooses some rows, but neither all nor consecutive ones
pub record IsApart (bits : List Bool) : Type 0 where
  pub some_left : is_all_true bits ≡ false
  pub some : true_count bits ≡ 0 → ⊥
  pub no_run : (a b : ℕ) → IsRun bits a b → ⊥

-- the encodings that a slice passes through
abbrev pub lets_slice : Data → Bool
lets_slice d = is_canonical d || is_slice d || is_constant d || is_masked d || is_dict d || applies lets_below d

-- a range with some but not all of k rows
pub record IsPart (a b k : ℕ) : Type 0 where
  pub some_rows : a < b
  pub not_all : b - a < k

-- such a range of the rows of t, in its bounds
abbrev pub IsPartOf : ℕ → ℕ → Tree → Type 0
IsPartOf a b t = IsPart a b (len t) × (b ≤ len t)

-- n rows of one value
abbrev pub constants : DataType → Value → ℕ → Tree
constants ty v n = constant_of (record { of_type = ty; value = v }) n

-- the validity in a masked array's second slot, as a column of n booleans: true if there is none
abbrev pub validity_column : ℕ → Slots → Tree
validity_column n (slot t ss) = t
validity_column n _ = truths true n

-- n rows of one value of a type, null where the tree is false
abbrev pub masked_by : DataType → ℕ → Value → Tree → Tree
masked_by ty n null u = constants ty null n
masked_by ty n x u = node ty n enc.masked (slot (constants ty x n) (slot u no_slots))

-- the rows of a dictionary whose values are all the same, by the validity of its codes
abbrev pub named_by : DataType → ℕ → Value → Validity → Tree
named_by ty n x validity.AllInvalid = constants ty null n
named_by ty n x (validity.Array u) = masked_by ty n x u
named_by ty n x _ = constants ty x n

abbrev pub taken_by : Data → Tree → Tree → Tree
taken_by (enc.constant v) codes t = constant_of v (len codes)
taken_by _ codes t = dict_of codes t

-- the rows of a validity's tree that the codes name: a constant stays a constant, and anything else becomes a dictionary
abbrev pub taken_of : Tree → Tree → Tree
taken_of codes t = taken_by (datum t) codes t

-- the structs in a column's slots at the true bits
abbrev pub structs_at : List Bool → DataType → Slots → Tree
structs_at bits ty ss = node ty (true_count bits) (enc.composed layout.Struct) (map_slots (choice_of bits) ss)

-- the slots, and an absent one behind them
abbrev pub with_absent : Slots → Slots
with_absent no_slots = absent no_slots
with_absent (absent ss) = absent (with_absent ss)
with_absent (slot t ss) = slot t (with_absent ss)

-- the field of this name in n rows of a tree, and n rows of a tree, null where the other is false
abbrev pub item_node : List ℕ → DataType → ℕ → Tree → Tree
item_node name ty n t = node ty n (enc.function (fn_of.GetItem name)) (slot t no_slots)

abbrev pub mask_node : DataType → ℕ → Tree → Tree → Tree
mask_node ty n t u = node ty n (enc.function fn_of.Mask) (slot t (slot u no_slots))

-- the tree in the slot of the field of this name
abbrev pub field_in : List ℕ → Fields → Slots → Option Tree
field_in name (type.field other t fs) (slot c ss) = if bytes_eq name other then Some c else field_in name fs ss
field_in name fs ss = None

-- Who answers (the node itself, or the child in a slot), the tree, the answer, and the answer's slots that are to be optimized.
pub data Row : Option ℕ → Tree → Tree → List ℕ → Type 0 where
  -- a filter that chooses all rows is its child, one that chooses none is the empty column, one of consecutive rows is a slice
  F1 : (ty : DataType) (n : ℕ) (bits : List Bool) (c : Tree) → is_all_true bits ≡ true → Row None (node ty n (enc.filter bits) (slot c no_slots)) c []
  F2 : (ty : DataType) (n : ℕ) (bits : List Bool) (c : Tree) → is_all_true bits ≡ false → true_count bits ≡ 0
      → Row None (node ty n (enc.filter bits) (slot c no_slots)) (empty_of (dtype c)) []
  F3 : (ty : DataType) (n : ℕ) (bits : List Bool) (c : Tree) (a b : ℕ) → is_all_true bits ≡ false → IsRun bits a b
      → Row None (node ty n (enc.filter bits) (slot c no_slots)) (slice_of a b c) []
  -- a filter of a column of structs is the column of filtered fields, which is asked after the rows above
  F4 : (ty sty : DataType) (n k : ℕ) (bits : List Bool) (ss : Slots) → IsApart bits → 0 < k
      → Row None (node ty n (enc.filter bits) (slot (node sty k (enc.composed layout.Struct) ss) no_slots)) (structs_at bits sty ss)
      (present_in (structs_at bits sty ss))
  -- a struct of the arguments is the column of structs
  P1 : (ty : DataType) (n : ℕ) (options : PackOptions) (ss : Slots)
      → Row None (node ty n (enc.function (fn_of.Pack options)) ss) (node ty n (enc.composed layout.Struct) (with_absent ss)) []
  -- a cast to the child's own type is the child
  C1 : (ty : DataType) (n : ℕ) (target : DType) (c : Tree) → dtype c ≡ type_of target
      → Row None (node ty n (enc.function (fn_of.Cast target)) (slot c no_slots)) c []
  -- a test for null of a non-nullable child is a constant
  N1_null : (ty : DataType) (n : ℕ) (c : Tree) → nullability_of (dtype c) ≡ NonNullable
      → Row None (node ty n (enc.function fn_of.IsNull) (slot c no_slots)) (truths false n) []
  N1_valid : (ty : DataType) (n : ℕ) (c : Tree) → nullability_of (dtype c) ≡ NonNullable
      → Row None (node ty n (enc.function fn_of.IsNotNull) (slot c no_slots)) (truths true n) []
  -- S1 to S6 start with these: a slice of all rows is the child, and a slice of no rows is the empty column
  S_whole : (ty : DataType) (n a b : ℕ) (c : Tree) → lets_slice (datum c) ≡ true → a ≡ 0 → b ≡ len c
      → Row (Some 0) (node ty n (enc.slice a b) (slot c no_slots)) c []
  S_empty : (ty : DataType) (n a b : ℕ) (c : Tree) → lets_slice (datum c) ≡ true → a ≡ b → 0 < len c
      → Row (Some 0) (node ty n (enc.slice a b) (slot c no_slots)) (empty_of (dtype c)) []
  -- a slice of a slice is one slice
  S1 : (ty sty : DataType) (n a b k s t : ℕ) (c : Tree) → IsPart a b k
      → Row (Some 0) (node ty n (enc.slice a b) (slot (node sty k (enc.slice s t) (slot c no_slots)) no_slots)) (slice_of (s + a) (s + b) c) []
  -- a slice of a constant is a shorter constant
  S2 : (ty cty : DataType) (n a b k : ℕ) (v : Typed) → IsPart a b k
      → Row (Some 0) (node ty n (enc.slice a b) (slot (node cty k (enc.constant v) no_slots) no_slots)) (constant_of v (b - a)) []
  -- a slice of a canonical column is the column of that range
  S3 : (ty cty : DataType) (n a b k : ℕ) (d : Data) (ss : Slots) → is_canonical d ≡ true → IsPart a b k
      → Row (Some 0) (node ty n (enc.slice a b) (slot (node cty k d ss) no_slots)) (column_range a b (node cty k d ss))
      (present_in (column_range a b (node cty k d ss)))
  -- a slice passes below a function, but not below `get_item`
  S4 : (ty fty : DataType) (n a b k : ℕ) (f : ScalarFnRef) (ss : Slots) → lets_below f ≡ true → IsPart a b k
      → Row (Some 0) (node ty n (enc.slice a b) (slot (node fty k (enc.function f) ss) no_slots))
      (node fty (b - a) (enc.function f) (map_slots (slice_of a b) ss)) (present_from 0 (map_slots (slice_of a b) ss))
  -- a slice passes below a masked array
  S5 : (ty mty : DataType) (n a b k : ℕ) (c : Tree) (vs : Slots) → IsPart a b k
      → Row (Some 0) (node ty n (enc.slice a b) (slot (node mty k enc.masked (slot c vs)) no_slots))
      (node mty (b - a) enc.masked (slot (slice_of a b c) (map_slots (part_of a b) vs))) (0 ∷ present_from 1 (map_slots (part_of a b) vs))
  -- a slice passes to the codes of a dictionary
  S6 : (ty dty : DataType) (n a b k : ℕ) (c : Tree) (vs : Slots) → IsPart a b k
      → Row (Some 0) (node ty n (enc.slice a b) (slot (node dty k enc.dict (slot c vs)) no_slots))
      (node dty (b - a) enc.dict (slot (slice_of a b c) vs)) (0 ∷ [])
  -- a filter of a filter is one filter
  F5 : (ty fty : DataType) (n k : ℕ) (outer inner : List Bool) (c : Tree)
      → Row (Some 0) (node ty n (enc.filter inner) (slot (node fty k (enc.filter outer) (slot c no_slots)) no_slots)) (filter_of (combined outer inner) c) []
  -- a filter of a constant is a shorter constant
  F6 : (ty cty : DataType) (n k : ℕ) (bits : List Bool) (v : Typed)
      → Row (Some 0) (node ty n (enc.filter bits) (slot (node cty k (enc.constant v) no_slots) no_slots)) (constant_of v (true_count bits)) []
  -- a filter passes below a function, but not below `get_item`
  F7 : (ty fty : DataType) (n k : ℕ) (bits : List Bool) (f : ScalarFnRef) (ss : Slots) → lets_below f ≡ true
      → Row (Some 0) (node ty n (enc.filter bits) (slot (node fty k (enc.function f) ss) no_slots))
      (node fty (true_count bits) (enc.function f) (map_slots (choice_of bits) ss)) (present_from 0 (map_slots (choice_of bits) ss))
  -- a filter passes below a masked array
  F8 : (ty mty : DataType) (n k : ℕ) (bits : List Bool) (c : Tree) (vs : Slots)
      → Row (Some 0) (node ty n (enc.filter bits) (slot (node mty k enc.masked (slot c vs)) no_slots))
      (node mty (true_count bits) enc.masked (slot (filter_of bits c) (map_slots (choice_of bits) vs))) (0 ∷ present_from 1 (map_slots (choice_of bits) vs))
  -- a filter passes to the codes of a dictionary
  F9 : (ty dty : DataType) (n k : ℕ) (bits : List Bool) (c : Tree) (vs : Slots)
      → Row (Some 0) (node ty n (enc.filter bits) (slot (node dty k enc.dict (slot c vs)) no_slots))
      (node dty (true_count bits) enc.dict (slot (filter_of bits c) vs)) (0 ∷ [])
  -- the field of a filter or a slice is the filter or the slice of the field
  G1 : (ty fty : DataType) (n k : ℕ) (name : List ℕ) (bits : List Bool) (c : Tree)
      → Row (Some 0) (item_node name ty n (node fty k (enc.filter bits) (slot c no_slots))) (filter_of bits (item_node name ty (len c) c)) (0 ∷ [])
  G2 : (ty sty : DataType) (n k a b : ℕ) (name : List ℕ) (c : Tree)
      → Row (Some 0) (item_node name ty n (node sty k (enc.slice a b) (slot c no_slots))) (slice_of a b (item_node name ty (len c) c)) (0 ∷ [])
  -- the field of a masked array is the mask of the field
  G3 : (ty mty s : DataType) (n k : ℕ) (name : List ℕ) (c : Tree) (vs : Slots) → return_type (fn_of.GetItem name) (dtype c ∷ []) ≡ Some s
      → Row (Some 0) (item_node name ty n (node mty k enc.masked (slot c vs))) (mask_node ty n (item_node name s n c) (validity_column n vs)) (0 ∷ [])
  -- the field of a column of structs is its column, masked by the structs' validity if they are nullable
  G4 : (ty : DataType) (n k : ℕ) (name : List ℕ) (fs : Fields) (ss : Slots) (c : Tree) → field_in name fs ss ≡ Some c
      → Row (Some 0) (item_node name ty n (node (type.struct fs NonNullable) k (enc.composed layout.Struct) ss)) c []
  G4_masked : (ty : DataType) (n k : ℕ) (name : List ℕ) (fs : Fields) (ss : Slots) (c : Tree) → field_in name fs ss ≡ Some c
      → Row (Some 0) (item_node name ty n (node (type.struct fs Nullable) k (enc.composed layout.Struct) ss))
      (mask_node ty n c (validity_column n (slots_of (last_tree ss ∷ [])))) []
  -- a mask of a masked array masks its child by both
  M1 : (ty mty : DataType) (n k : ℕ) (c m : Tree) (vs : Slots)
      → Row (Some 0) (node ty n (enc.function fn_of.Mask) (slot (node mty k enc.masked (slot c vs)) (slot m no_slots)))
      (node ty n (enc.function fn_of.Mask) (slot c (slot (both_of n m (validity_column n vs)) no_slots))) []
  -- a dictionary of one value is a constant, null where the codes are
  D1 : (ty s : DataType) (n k : ℕ) (c : Tree) (v : Typed)
      → Row (Some 1) (node ty n enc.dict (slot c (slot (node s k (enc.constant v) no_slots) no_slots))) (named_by ty n v.value (node_validity c)) []
  -- a dictionary of a masked array, by codes that are never null, is the masked dictionary
  D2 : (ty mty : DataType) (n k : ℕ) (codes c : Tree) (vs : Slots) → nullability_of (dtype codes) ≡ NonNullable → is_columnar (datum codes) ≡ true
      → count_slots vs ≡ 1
      → Row (Some 1) (node ty n enc.dict (slot codes (slot (node mty k enc.masked (slot c vs)) no_slots)))
      (node ty n enc.masked (slot (dict_of codes c) (map_slots (taken_of codes) vs))) (0 ∷ present_from 1 (map_slots (taken_of codes) vs))
  -- a cast, negation, `between` or `fill_null` of constants is a constant, if it has a value
  K1 : (ty s : DataType) (n k : ℕ) (target : DType) (v : Typed) (w : Value) → apply (fn_of.Cast target) (v.of_type ∷ []) ty (value v.value ∷ []) ≡ value w
      → Row (Some 0) (node ty n (enc.function (fn_of.Cast target)) (slot (node s k (enc.constant v) no_slots) no_slots)) (constants ty w n) []
  K2 : (ty s : DataType) (n k : ℕ) (v : Typed) (w : Value) → apply fn_of.Not (v.of_type ∷ []) ty (value v.value ∷ []) ≡ value w
      → Row (Some 0) (node ty n (enc.function fn_of.Not) (slot (node s k (enc.constant v) no_slots) no_slots)) (constants ty w n) []
  K3 : (ty s t u : DataType) (n i j k : ℕ) (options : BetweenOptions) (x y z : Typed) (w : Value)
      → apply (fn_of.Between options) (x.of_type ∷ y.of_type ∷ z.of_type ∷ []) ty (value x.value ∷ value y.value ∷ value z.value ∷ []) ≡ value w
      → Row (Some 0) (node ty n (enc.function (fn_of.Between options))
      (slot (node s i (enc.constant x) no_slots) (slot (node t j (enc.constant y) no_slots) (slot (node u k (enc.constant z) no_slots) no_slots))))
      (constants ty w n) []
  K4 : (ty s t : DataType) (n j k : ℕ) (x y : Typed) (w : Value)
      → apply fn_of.FillNull (x.of_type ∷ y.of_type ∷ []) ty (value x.value ∷ value y.value ∷ []) ≡ value w
      → Row (Some 0) (node ty n (enc.function fn_of.FillNull) (slot (node s j (enc.constant x) no_slots) (slot (node t k (enc.constant y) no_slots) no_slots)))
      (constants ty w n) []

-- some row of the table rewrites t to u; the answer's slots in os are to be optimized
abbrev pub Rewrites : Tree → Tree → List ℕ → Type 0
Rewrites t u os = (w : Option ℕ) × Row w t u os

-- no row fits the node itself, or the child in that slot
abbrev pub IsQuiet : Option ℕ → Tree → Type 0
IsQuiet w t = (u : Tree) (os : List ℕ) → Row w t u os → ⊥

-- no row fits at all
abbrev pub IsSettled : Tree → Type 0
IsSettled t = (w : Option ℕ) → IsQuiet w t

-- the slots that are to be optimized hold trees
abbrev pub ArePresent : List ℕ → Tree → Type 0
ArePresent [] t = Unit {0}
ArePresent (i ∷ os) t = IsPresent i t × ArePresent os t
