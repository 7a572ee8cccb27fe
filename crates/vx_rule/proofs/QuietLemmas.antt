-- Where no row fits.
use Rattle.std.proofs.Common.{◌≡◌, ℕ, List, Option, Some, None, Bool, true, false, refl, sym, subst, ap, ◌∙◌}
use Rattle.std.specs.Prelude.{◌||◌}
use Rattle.vx_value.specs.Types.{DataType, nullability_of}
use Rattle.vx_value.specs.View.{type_of}
use Rattle.vx_value.specs.declared.dtype.DType.{DType}
use Rattle.vx_value.specs.declared.dtype.Nullability.TheVariants.{NonNullable}
use Rattle.vx_fn.specs.declared.function.ScalarFnRef.{ScalarFnRef}
use Rattle.vx_fn.specs.declared.function.ScalarFnRef.TheVariants as fn_of
use Rattle.vx_tree.specs.Tree as enc
use Rattle.vx_tree.specs.Tree.{Tree, Data, Slots, node, no_slots, slot, dtype, datum, slice_of, filter_of, dict_of, masked_of, is_filter, is_constant, is_function, is_masked, is_dict, is_slice, is_columnar, is_struct, lets_below}
use Rattle.vx_rule.specs.Calls.{null_test}
use Rattle.vx_rule.specs.Tags.{applies}
use Rattle.vx_rule.specs.Rules.{Row, IsQuiet, IsApart, F1, F2, F3, F4, P1, C1, N1_null, N1_valid, S_whole, S_empty, S1, S2, S3, S4, S5, S6, F5, F6, F7, F8, F9, G1, G2, G3, G4, G4_masked, M1, D1, D2, K1, K2, K3, K4}

-- ---- the node itself

pub filter_quiet : (bits : List Bool) (c : Tree) → IsApart bits → is_struct (datum c) ≡ false → IsQuiet None (filter_of bits c)
filter_quiet bits c apart other u os (F1 ty n m x e) = absurd (cc (apart.some_left, e))
filter_quiet bits c apart other u os (F2 ty n m x e z) = apart.some z
filter_quiet bits c apart other u os (F3 ty n m x a b e r) = apart.no_run a b r
filter_quiet bits c apart other u os (F4 ty sty n k m ss h l) = absurd (cc (other))

-- the functions that have a row of their own
abbrev pub has_own : ScalarFnRef → Bool
has_own (fn_of.Cast target) = true
has_own fn_of.IsNull = true
has_own fn_of.IsNotNull = true
has_own (fn_of.Pack options) = true
has_own _ = false

pub function_own_quiet : (ty : DataType) (n : ℕ) (f : ScalarFnRef) (ss : Slots) → has_own f ≡ false → IsQuiet None (node ty n (enc.function f) ss)
function_own_quiet ty n f ss h u os (C1 ty' n' target c e) = absurd (cc (h))
function_own_quiet ty n f ss h u os (N1_null ty' n' c e) = absurd (cc (h))
function_own_quiet ty n f ss h u os (N1_valid ty' n' c e) = absurd (cc (h))
function_own_quiet ty n f ss h u os (P1 ty' n' options ts) = absurd (cc (h))

cast_by : (ty : DataType) (n : ℕ) (target : DType) (c : Tree) → (dtype c ≡ type_of target → ⊥)
    → IsQuiet None (node ty n (enc.function (fn_of.Cast target)) (slot c no_slots))
cast_by ty n target c other u os (C1 ty' n' target' c' e) = other e

pub cast_quiet : (ty : DataType) (n : ℕ) (target : DType) (t c : Tree) → t ≡ node ty n (enc.function (fn_of.Cast target)) (slot c no_slots)
    → (dtype c ≡ type_of target → ⊥) → IsQuiet None t
cast_quiet ty n target t c is other = subst (IsQuiet None) (sym is) (cast_by ty n target c other)

null_test_by : (value : Bool) (ty : DataType) (n : ℕ) (c : Tree) → (nullability_of (dtype c) ≡ NonNullable → ⊥)
    → IsQuiet None (node ty n (enc.function (null_test value)) (slot c no_slots))
null_test_by false ty n c other u os (N1_null ty' n' c' e) = other e
null_test_by true ty n c other u os (N1_valid ty' n' c' e) = other e

pub null_test_quiet : (value : Bool) (ty : DataType) (n : ℕ) (t c : Tree) → t ≡ node ty n (enc.function (null_test value)) (slot c no_slots)
    → (nullability_of (dtype c) ≡ NonNullable → ⊥) → IsQuiet None t
null_test_quiet value ty n t c is other = subst (IsQuiet None) (sym is) (null_test_by value ty n c other)

-- the encodings that have a row of their own
pub own_quiet : (t : Tree) → is_filter (datum t) ≡ false → is_function (datum t) ≡ false → IsQuiet None t
own_quiet t f g u os (F1 ty n m x e) = absurd (cc (f))
own_quiet t f g u os (F2 ty n m x e z) = absurd (cc (f))
own_quiet t f g u os (F3 ty n m x a b e r) = absurd (cc (f))
own_quiet t f g u os (F4 ty sty n k m ss h l) = absurd (cc (f))
own_quiet t f g u os (P1 ty n options ss) = absurd (cc (g))
own_quiet t f g u os (C1 ty n target c e) = absurd (cc (g))
own_quiet t f g u os (N1_null ty n c e) = absurd (cc (g))
own_quiet t f g u os (N1_valid ty n c e) = absurd (cc (g))

-- ---- the child in a slot

-- the encodings that a filter passes through
abbrev pub lets_filter : Data → Bool
lets_filter d = is_filter d || is_constant d || is_masked d || is_dict d || applies lets_below d

-- the slot whose child has rows: of a dictionary that of its values, and else the first
abbrev pub slot_asked : Data → ℕ
slot_asked enc.dict = 1
slot_asked _ = 0

pub row_slot : (i : ℕ) (t u : Tree) (os : List ℕ) → Row (Some i) t u os → i ≡ slot_asked (datum t)
row_slot i t u os (S_whole ty n a b c l z y) = refl
row_slot i t u os (S_empty ty n a b c l z y) = refl
row_slot i t u os (S1 ty sty n a b k s' r c p) = refl
row_slot i t u os (S2 ty cty n a b k v p) = refl
row_slot i t u os (S3 ty cty n a b k d ss e p) = refl
row_slot i t u os (S4 ty fty n a b k f' ss l p) = refl
row_slot i t u os (S5 ty mty n a b k c vs p) = refl
row_slot i t u os (S6 ty dty n a b k c vs p) = refl
row_slot i t u os (F5 ty fty n k outer inner c) = refl
row_slot i t u os (F6 ty cty n k bits v) = refl
row_slot i t u os (F7 ty fty n k bits f' ss l) = refl
row_slot i t u os (F8 ty mty n k bits c vs) = refl
row_slot i t u os (F9 ty dty n k bits c vs) = refl
row_slot i t u os (G1 ty fty n k name bits c) = refl
row_slot i t u os (G2 ty sty n k a b name c) = refl
row_slot i t u os (G3 ty mty s' n k name c vs e) = refl
row_slot i t u os (G4 ty n k name fs ss c e) = refl
row_slot i t u os (G4_masked ty n k name fs ss c e) = refl
row_slot i t u os (M1 ty mty n k c m vs) = refl
row_slot i t u os (D1 ty s' n k c v) = refl
row_slot i t u os (D2 ty mty n k codes c vs f g h) = refl
row_slot i t u os (K1 ty s' n k target v x e) = refl
row_slot i t u os (K2 ty s' n k v x e) = refl
row_slot i t u os (K3 ty s' r q n i' j k options x y z v e) = refl
row_slot i t u os (K4 ty s' r n j k x y v e) = refl

-- so none is one of a later slot of a function
pub later_quiet : (i : ℕ) (p : ScalarFnRef → Bool) (t : Tree) → applies p (datum t) ≡ true → (i ≡ 0 → ⊥) → IsQuiet (Some i) t
later_quiet i p t f h u os row = h (row_slot i t u os row ∙ of_function (datum t) f)
  where
    of_function : (d : Data) → applies p d ≡ true → slot_asked d ≡ 0
    of_function (enc.function g) f = refl
    of_function _ f = absurd (cc (f))

-- nor of another slot of a dictionary than that of its values
pub codes_quiet : (i : ℕ) (t : Tree) → is_dict (datum t) ≡ true → (i ≡ 1 → ⊥) → IsQuiet (Some i) t
codes_quiet i t f h u os row = h (row_slot i t u os row ∙ of_dict (datum t) f)
  where
    of_dict : (d : Data) → is_dict d ≡ true → slot_asked d ≡ 1
    of_dict enc.dict f = refl
    of_dict _ f = absurd (cc (f))

-- ---- the values of a dictionary

-- a masked array has a row if the codes are a column without nulls
masked_values_by : (codes c : Tree) (v : Option Tree) → (nullability_of (dtype codes) ≡ NonNullable → is_columnar (datum codes) ≡ false)
    → IsQuiet (Some 1) (dict_of codes (masked_of c v))
masked_values_by codes c v h u os (D2 ty mty n k codes' c' vs f g one) = absurd (cc (h f, g))

pub masked_values_quiet : (t codes x c : Tree) (v : Option Tree) → t ≡ dict_of codes x → x ≡ masked_of c v
    → (nullability_of (dtype codes) ≡ NonNullable → is_columnar (datum codes) ≡ false) → IsQuiet (Some 1) t
masked_values_quiet t codes x c v is inner h =
    subst (IsQuiet (Some 1)) (sym (is ∙ ap (dict_of codes) inner)) (masked_values_by codes c v h)
