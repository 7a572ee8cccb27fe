-- Children whose encoding has no row for a parent.
use Rattle.std.proofs.Common.{◌≡◌, ℕ, zero, suc, List, [], ◌∷◌, Some, None, Bool, true, false, refl, sym, subst, ap, ◌∙◌, arith}
use Rattle.std.specs.Prelude.{◌||◌, ◌&&◌}
use Rattle.vx_fn.specs.declared.function.ScalarFnRef.{ScalarFnRef}
use Rattle.vx_fn.specs.declared.function.ScalarFnRef.TheVariants as fn_of
use Rattle.vx_value.specs.Types as type
use Rattle.vx_value.specs.Typed.{Typed}
use Rattle.vx_value.specs.declared.dtype.Nullability.TheVariants.{NonNullable, Nullable}
use Rattle.vx_tree.specs.declared.array.layout.Layout.{Layout}
use Rattle.vx_tree.specs.declared.array.layout.Layout.TheVariants as layout
use Rattle.vx_tree.specs.Tree as enc
use Rattle.vx_tree.specs.Tree.{Tree, Data, Slots, node, no_slots, slot, dtype, len, datum, slice_of, filter_of, is_filter, is_constant, is_function, is_masked, is_dict, is_slice, is_canonical, is_struct, lets_below}
use Rattle.vx_tree.specs.Slots.{HasSlot}
use Rattle.vx_rule.specs.Tags.{is_open, is_get_item, is_pack, is_mask, is_cast, is_not, is_between, is_fill_null, applies}
use Rattle.vx_rule.specs.Calls.{is_null_test, IsCallOf}
use Rattle.vx_rule.specs.Constants.{folds}
use Rattle.vx_rule.specs.Rules.{IsQuiet, lets_slice, S_whole, S_empty, S1, S2, S3, S4, S5, S6, F5, F6, F7, F8, F9, G1, G2, G3, G4, G4_masked, M1, D1, D2, K1, K2, K3, K4}
use Rattle.vx_rule.specs.SliceLaws.{column_lets}
use Rattle.vx_rule.proofs.QuietLemmas.{lets_filter, slot_asked, row_slot, has_own, function_own_quiet}

-- the encodings above which `get_item` passes below
abbrev pub lets_item : Data → Bool
lets_item d = is_filter d || is_slice d || is_masked d || is_struct d

-- whether a parent with the one node data has a row of a child in its first slot with the other
abbrev pub has_row : Data → Data → Bool
has_row (enc.slice a b) d = lets_slice d
has_row (enc.filter bits) d = lets_filter d
has_row (enc.function f) d = (is_masked d && is_mask f) || (is_constant d && folds f) || (lets_item d && is_get_item f)
has_row _ d = false

-- the same of the second slot
abbrev pub has_second_row : Data → Data → Bool
has_second_row enc.dict d = is_constant d || is_masked d
has_second_row _ d = false

-- the same of the parent and the child in its first slot
none_of : (x c : Tree) (p : Data) → x ≡ c → has_row p (datum c) ≡ false → has_row p (datum x) ≡ false
none_of x c p e h = subst (λ y. has_row p (datum y) ≡ false) (sym e) h

first_quiet : (c t : Tree) → HasSlot 0 c t → has_row (datum t) (datum c) ≡ false → IsQuiet (Some 0) t
first_quiet c t e h u os (S_whole ty n a b x l z y) = absurd (cc (none_of x c (enc.slice a b) e h, l))
first_quiet c t e h u os (S_empty ty n a b x l z y) = absurd (cc (none_of x c (enc.slice a b) e h, l))
first_quiet c t e h u os (S1 ty sty n a b k s r x p) = absurd (cc (none_of (node sty k (enc.slice s r) (slot x no_slots)) c (enc.slice a b) e h))
first_quiet c t e h u os (S2 ty cty n a b k v p) = absurd (cc (none_of (node cty k (enc.constant v) no_slots) c (enc.slice a b) e h))
first_quiet c t e h u os (S3 ty cty n a b k d ss i p) = absurd (cc (column_lets d i, none_of (node cty k d ss) c (enc.slice a b) e h))
first_quiet c t e h u os (S4 ty fty n a b k f ss l p) = absurd (cc (none_of (node fty k (enc.function f) ss) c (enc.slice a b) e h, l))
first_quiet c t e h u os (S5 ty mty n a b k x vs p) = absurd (cc (none_of (node mty k enc.masked (slot x vs)) c (enc.slice a b) e h))
first_quiet c t e h u os (S6 ty dty n a b k x vs p) = absurd (cc (none_of (node dty k enc.dict (slot x vs)) c (enc.slice a b) e h))
first_quiet c t e h u os (F5 ty fty n k outer inner x) = absurd (cc (none_of (node fty k (enc.filter outer) (slot x no_slots)) c (enc.filter inner) e h))
first_quiet c t e h u os (F6 ty cty n k bits v) = absurd (cc (none_of (node cty k (enc.constant v) no_slots) c (enc.filter bits) e h))
first_quiet c t e h u os (F7 ty fty n k bits f ss l) = absurd (cc (none_of (node fty k (enc.function f) ss) c (enc.filter bits) e h, l))
first_quiet c t e h u os (F8 ty mty n k bits x vs) = absurd (cc (none_of (node mty k enc.masked (slot x vs)) c (enc.filter bits) e h))
first_quiet c t e h u os (F9 ty dty n k bits x vs) = absurd (cc (none_of (node dty k enc.dict (slot x vs)) c (enc.filter bits) e h))
first_quiet c t e h u os (G1 ty fty n k name bits x) = absurd (cc (none_of (node fty k (enc.filter bits) (slot x no_slots)) c
    (enc.function (fn_of.GetItem name)) e h))
first_quiet c t e h u os (G2 ty sty n k a b name x) = absurd (cc (none_of (node sty k (enc.slice a b) (slot x no_slots)) c
    (enc.function (fn_of.GetItem name)) e h))
first_quiet c t e h u os (G3 ty mty s n k name x vs g) = absurd (cc (none_of (node mty k enc.masked (slot x vs)) c (enc.function (fn_of.GetItem name)) e h))
first_quiet c t e h u os (G4 ty n k name fs ss x g) = absurd (cc (none_of (node (type.struct fs NonNullable) k (enc.composed layout.Struct) ss) c
    (enc.function (fn_of.GetItem name)) e h))
first_quiet c t e h u os (G4_masked ty n k name fs ss x g) = absurd (cc (none_of (node (type.struct fs Nullable) k (enc.composed layout.Struct) ss) c
    (enc.function (fn_of.GetItem name)) e h))
first_quiet c t e h u os (M1 ty mty n k x m vs) = absurd (cc (none_of (node mty k enc.masked (slot x vs)) c (enc.function fn_of.Mask) e h))
first_quiet c t e h u os (K1 ty s n k target v w g) = absurd (cc (none_of (node s k (enc.constant v) no_slots) c (enc.function (fn_of.Cast target)) e h))
first_quiet c t e h u os (K2 ty s n k v w g) = absurd (cc (none_of (node s k (enc.constant v) no_slots) c (enc.function fn_of.Not) e h))
first_quiet c t e h u os (K3 ty s r q n i j k options x y z w g) = absurd (cc (none_of (node s i (enc.constant x) no_slots) c
    (enc.function (fn_of.Between options)) e h))
first_quiet c t e h u os (K4 ty s r n j k x y w g) = absurd (cc (none_of (node s j (enc.constant x) no_slots) c (enc.function fn_of.FillNull) e h))

second_none : (x c : Tree) (p : Data) → x ≡ c → has_second_row p (datum c) ≡ false → has_second_row p (datum x) ≡ false
second_none x c p e h = subst (λ y. has_second_row p (datum y) ≡ false) (sym e) h

second_quiet : (c t : Tree) → HasSlot 1 c t → has_second_row (datum t) (datum c) ≡ false → IsQuiet (Some 1) t
second_quiet c t e h u os (D1 ty s n k x v) = absurd (cc (second_none (node s k (enc.constant v) no_slots) c enc.dict e h))
second_quiet c t e h u os (D2 ty mty n k codes x vs f g one) = absurd (cc (second_none (node mty k enc.masked (slot x vs)) c enc.dict e h))

-- no row is one of the third slot
third_quiet : (i : ℕ) (d : Data) → suc (suc i) ≡ slot_asked d → ⊥
third_quiet i enc.dict e = absurd (omega (arith, e))
third_quiet i _ e = absurd (omega (arith, e))

child_quiet : (i : ℕ) (c t : Tree) → HasSlot i c t → has_row (datum t) (datum c) ≡ false → has_second_row (datum t) (datum c) ≡ false → IsQuiet (Some i) t
child_quiet zero c t e h k = first_quiet c t e h
child_quiet (suc zero) c t e h k = second_quiet c t e k
child_quiet (suc (suc i)) c t e h k = λ u os row. third_quiet i (datum t) (row_slot (suc (suc i)) t u os row)

-- a slice or a filter of what doesn't let it through
pub slice_stopped : (a b : ℕ) (c : Tree) → lets_slice (datum c) ≡ false → IsQuiet (Some 0) (slice_of a b c)
slice_stopped a b c h = first_quiet c (slice_of a b c) refl h

pub filter_stopped : (bits : List Bool) (c : Tree) → lets_filter (datum c) ≡ false → IsQuiet (Some 0) (filter_of bits c)
filter_stopped bits c h = first_quiet c (filter_of bits c) refl h

pub filter_shut : (bits : List Bool) (f : ScalarFnRef) (c : Tree) → enc.function f ≡ datum c → is_open (datum c) ≡ false → IsQuiet (Some 0) (filter_of bits c)
filter_shut bits f c e h =
    let shut : lets_below f ≡ false = ap is_open e ∙ h in
    filter_stopped bits c (ap lets_filter (sym e) ∙ shut)

-- for a child with such node data
quiet_by : (i : ℕ) (d : Data) (c t : Tree) → d ≡ datum c → HasSlot i c t → has_row (datum t) d ≡ false → has_second_row (datum t) d ≡ false → IsQuiet (Some i) t
quiet_by i d c t e held h k =
    child_quiet i c t held (subst (λ x. has_row (datum t) x ≡ false) e h) (subst (λ x. has_second_row (datum t) x ≡ false) e k)

-- ---- by encoding: of which parents no row is

-- the values of a dictionary have one if they are a constant or a masked array
no_second : (p d : Data) → is_constant d ≡ false → is_masked d ≡ false → has_second_row p d ≡ false
no_second enc.dict d k m = λ i. k i || m i
no_second _ d k m = refl

other_second : (p d : Data) → is_dict p ≡ false → has_second_row p d ≡ false
other_second enc.dict d h = absurd (cc (h))
other_second _ d h = refl

slice_rows : (a b : ℕ) (p : Data) → applies is_get_item p ≡ false → is_slice p ≡ false → has_row p (enc.slice a b) ≡ false
slice_rows a b (enc.slice s t) g h = absurd (cc (h))
slice_rows a b (enc.function f) g h = g
slice_rows a b _ g h = refl

pub slice_quiet : (i a b : ℕ) (c t : Tree) → enc.slice a b ≡ datum c → HasSlot i c t → applies is_get_item (datum t) ≡ false → is_slice (datum t) ≡ false
    → IsQuiet (Some i) t
slice_quiet i a b c t e held g h = quiet_by i (enc.slice a b) c t e held (slice_rows a b (datum t) g h) (no_second (datum t) (enc.slice a b) refl refl)

filter_rows : (bits : List Bool) (p : Data) → is_filter p ≡ false → applies is_get_item p ≡ false → has_row p (enc.filter bits) ≡ false
filter_rows bits (enc.filter outer) h g = absurd (cc (h))
filter_rows bits (enc.function f) h g = g
filter_rows bits _ h g = refl

pub filter_quiet : (i : ℕ) (bits : List Bool) (c t : Tree) → enc.filter bits ≡ datum c → HasSlot i c t → is_filter (datum t) ≡ false
    → applies is_get_item (datum t) ≡ false → IsQuiet (Some i) t
filter_quiet i bits c t e held h g = quiet_by i (enc.filter bits) c t e held (filter_rows bits (datum t) h g) (no_second (datum t) (enc.filter bits) refl refl)

-- an encoding that no parent has a row of
no_rows : (p d : Data) → lets_slice d ≡ false → lets_filter d ≡ false → lets_item d ≡ false → is_masked d ≡ false → is_constant d ≡ false → has_row p d ≡ false
no_rows (enc.slice a b) d s f l m k = s
no_rows (enc.filter bits) d s f l m k = f
no_rows (enc.function g) d s f l m k = λ i. (m i && is_mask g) || (k i && folds g) || (l i && is_get_item g)
no_rows _ d s f l m k = refl

pub quiet : (i : ℕ) (d : Data) (c t : Tree) → d ≡ datum c → HasSlot i c t → lets_slice d ≡ false → lets_filter d ≡ false → lets_item d ≡ false
    → is_masked d ≡ false → is_constant d ≡ false
    → IsQuiet (Some i) t
quiet i d c t e held s f l m k = quiet_by i d c t e held (no_rows (datum t) d s f l m k) (no_second (datum t) d k m)

function_rows : (f : ScalarFnRef) (p : Data) → is_slice p ≡ false → is_filter p ≡ false → has_row p (enc.function f) ≡ false
function_rows f (enc.slice a b) s h = absurd (cc (s))
function_rows f (enc.filter bits) s h = absurd (cc (h))
function_rows f _ s h = refl

pub function_quiet : (i : ℕ) (f : ScalarFnRef) (c t : Tree) → enc.function f ≡ datum c → HasSlot i c t → is_slice (datum t) ≡ false
    → is_filter (datum t) ≡ false → IsQuiet (Some i) t
function_quiet i f c t e held s h = quiet_by i (enc.function f) c t e held (function_rows f (datum t) s h) (no_second (datum t) (enc.function f) refl refl)

dict_rows : (p : Data) → is_slice p ≡ false → is_filter p ≡ false → has_row p enc.dict ≡ false
dict_rows (enc.slice a b) s h = absurd (cc (s))
dict_rows (enc.filter bits) s h = absurd (cc (h))
dict_rows _ s h = refl

pub dict_quiet : (i : ℕ) (c t : Tree) → enc.dict ≡ datum c → HasSlot i c t → is_slice (datum t) ≡ false → is_filter (datum t) ≡ false → IsQuiet (Some i) t
dict_quiet i c t e held s h = quiet_by i enc.dict c t e held (dict_rows (datum t) s h) (no_second (datum t) enc.dict refl refl)

masked_rows : (p : Data) → is_slice p ≡ false → is_filter p ≡ false → applies is_get_item p ≡ false → applies is_mask p ≡ false → has_row p enc.masked ≡ false
masked_rows (enc.slice a b) s h g m = absurd (cc (s))
masked_rows (enc.filter bits) s h g m = absurd (cc (h))
masked_rows (enc.function f) s h g m = λ i. m i || false || g i
masked_rows _ s h g m = refl

pub masked_quiet : (i : ℕ) (c t : Tree) → enc.masked ≡ datum c → HasSlot i c t → is_slice (datum t) ≡ false → is_filter (datum t) ≡ false
    → applies is_get_item (datum t) ≡ false → applies is_mask (datum t) ≡ false → is_dict (datum t) ≡ false
    → IsQuiet (Some i) t
masked_quiet i c t e held s h g m k = quiet_by i enc.masked c t e held (masked_rows (datum t) s h g m) (other_second (datum t) enc.masked k)

unfolded : (f : ScalarFnRef) → is_between f ≡ false → is_cast f ≡ false → is_fill_null f ≡ false → is_not f ≡ false → folds f ≡ false
unfolded (fn_of.Between options) b c n k = absurd (cc (b))
unfolded (fn_of.Cast target) b c n k = absurd (cc (c))
unfolded fn_of.FillNull b c n k = absurd (cc (n))
unfolded fn_of.Not b c n k = absurd (cc (k))
unfolded _ b c n k = refl

constant_rows : (v : Typed) (p : Data) → applies is_between p ≡ false → applies is_cast p ≡ false → applies is_fill_null p ≡ false → is_filter p ≡ false
    → applies is_not p ≡ false → is_slice p ≡ false → has_row p (enc.constant v) ≡ false
constant_rows v (enc.slice a t) b c n h k s = absurd (cc (s))
constant_rows v (enc.filter bits) b c n h k s = absurd (cc (h))
constant_rows v (enc.function f) b c n h k s = λ i. unfolded f b c n k i || false
constant_rows v _ b c n h k s = refl

pub constant_quiet : (i : ℕ) (v : Typed) (x t : Tree) → enc.constant v ≡ datum x → HasSlot i x t → applies is_between (datum t) ≡ false
    → applies is_cast (datum t) ≡ false
    → applies is_fill_null (datum t) ≡ false → is_filter (datum t) ≡ false → applies is_not (datum t) ≡ false → is_slice (datum t) ≡ false
    → is_dict (datum t) ≡ false → IsQuiet (Some i) t
constant_quiet i v x t e held b c n h k s m =
    quiet_by i (enc.constant v) x t e held (constant_rows v (datum t) b c n h k s) (other_second (datum t) (enc.constant v) m)

-- a column that is no column of structs has a row of a slice alone
plain_rows : (p d : Data) → lets_filter d ≡ false → lets_item d ≡ false → is_masked d ≡ false → is_constant d ≡ false → is_slice p ≡ false → has_row p d ≡ false
plain_rows (enc.slice a b) d f l m k s = absurd (cc (s))
plain_rows (enc.filter bits) d f l m k s = f
plain_rows (enc.function g) d f l m k s = λ i. (m i && is_mask g) || (k i && folds g) || (l i && is_get_item g)
plain_rows _ d f l m k s = refl

struct_rows : (p : Data) → is_slice p ≡ false → applies is_get_item p ≡ false → has_row p (enc.composed layout.Struct) ≡ false
struct_rows (enc.slice a b) s g = absurd (cc (s))
struct_rows (enc.function f) s g = g
struct_rows _ s g = refl

composed_rows : (l : Layout) (p : Data) → is_slice p ≡ false → applies is_get_item p ≡ false → has_row p (enc.composed l) ≡ false
composed_rows layout.Struct p s g = struct_rows p s g
composed_rows layout.Extension p s g = plain_rows p (enc.composed layout.Extension) refl refl refl refl s

column_rows : (p d : Data) → is_canonical d ≡ true → is_slice p ≡ false → applies is_get_item p ≡ false → has_row p d ≡ false
column_rows p enc.nulls k s g = plain_rows p enc.nulls refl refl refl refl s
column_rows p (enc.bool bs) k s g = plain_rows p (enc.bool bs) refl refl refl refl s
column_rows p (enc.primitive q zs) k s g = plain_rows p (enc.primitive q zs) refl refl refl refl s
column_rows p (enc.decimals w zs) k s g = plain_rows p (enc.decimals w zs) refl refl refl refl s
column_rows p (enc.views rs) k s g = plain_rows p (enc.views rs) refl refl refl refl s
column_rows p (enc.composed l) k s g = composed_rows l p s g
column_rows p _ k s g = absurd (cc (k))

column_second : (p d : Data) → is_canonical d ≡ true → has_second_row p d ≡ false
column_second p enc.nulls k = no_second p enc.nulls refl refl
column_second p (enc.bool bs) k = no_second p (enc.bool bs) refl refl
column_second p (enc.primitive q zs) k = no_second p (enc.primitive q zs) refl refl
column_second p (enc.decimals w zs) k = no_second p (enc.decimals w zs) refl refl
column_second p (enc.views rs) k = no_second p (enc.views rs) refl refl
column_second p (enc.composed l) k = no_second p (enc.composed l) refl refl
column_second p _ k = absurd (cc (k))

pub column_quiet : (i : ℕ) (c t : Tree) → is_canonical (datum c) ≡ true → HasSlot i c t → applies is_get_item (datum t) ≡ false → is_slice (datum t) ≡ false
    → IsQuiet (Some i) t
column_quiet i c t k held g s = child_quiet i c t held (column_rows (datum t) (datum c) k s g) (column_second (datum t) (datum c) k)

-- `get_item` of another column than one of structs
other_rows : (d : Data) → is_canonical d ≡ true → is_struct d ≡ false → lets_item d ≡ false
other_rows (enc.composed layout.Struct) k h = absurd (cc (h))
other_rows enc.nulls k h = refl
other_rows (enc.bool bs) k h = refl
other_rows (enc.primitive q zs) k h = refl
other_rows (enc.decimals w zs) k h = refl
other_rows (enc.views rs) k h = refl
other_rows (enc.composed layout.Extension) k h = refl
other_rows _ k h = absurd (cc (k))

plain_column : (d : Data) → is_canonical d ≡ true → (is_masked d ≡ false) × (is_constant d ≡ false)
plain_column enc.masked k = absurd (cc (k))
plain_column (enc.constant v) k = absurd (cc (k))
plain_column _ k = (refl, refl)

pub item_quiet : (name : List ℕ) (t c : Tree) → IsCallOf (fn_of.GetItem name) (c ∷ []) t → is_canonical (datum c) ≡ true → is_struct (datum c) ≡ false
    → IsQuiet (Some 0) t
item_quiet name t c call k h =
    let f = fn_of.GetItem name in
    let d = datum c in
    let plain = plain_column d k in
    let whole = node (dtype t) (len t) (enc.function f) (slot c no_slots) in
    subst (IsQuiet (Some 0)) (sym call.0)
    (first_quiet c whole refl (λ i. (plain.0 i && is_mask f) || (plain.1 i && folds f) || (other_rows d k h i && is_get_item f)))

-- ---- the rules of a function itself

by_test : (b : Bool) (P : Type 0) → (b ≡ true → P) → (b ≡ false → P) → P
by_test true P h k = h refl
by_test false P h k = k refl

no_own : (f : ScalarFnRef) → is_cast f ≡ false → is_null_test f ≡ false → is_pack f ≡ false → has_own f ≡ false
no_own (fn_of.Cast target) h k l = absurd (cc (h))
no_own fn_of.IsNull h k l = absurd (cc (k))
no_own fn_of.IsNotNull h k l = absurd (cc (k))
no_own (fn_of.Pack options) h k l = absurd (cc (l))
no_own _ h k l = refl

own_quiet_by : (f : ScalarFnRef) (t : Tree) → enc.function f ≡ datum t → has_own f ≡ false → IsQuiet None t
own_quiet_by f (node ty n d ss) e k = subst (λ x. IsQuiet None (node ty n x ss)) e (function_own_quiet ty n f ss k)

pub function_rules : (f : ScalarFnRef) (t : Tree) → enc.function f ≡ datum t → (applies is_cast (datum t) ≡ true → IsQuiet None t)
    → (applies is_null_test (datum t) ≡ true → IsQuiet None t) → (applies is_pack (datum t) ≡ true → IsQuiet None t) → IsQuiet None t
function_rules f t e a b c =
    by_test (is_cast f) (IsQuiet None t) (λ h. a (subst (λ d. applies is_cast d ≡ true) e h))
    (λ h. by_test (is_null_test f) (IsQuiet None t) (λ k. b (subst (λ d. applies is_null_test d ≡ true) e k))
    (λ k. by_test (is_pack f) (IsQuiet None t) (λ l. c (subst (λ d. applies is_pack d ≡ true) e l)) (λ l. own_quiet_by f t e (no_own f h k l))))
