-- What the rows of functions keep: of constants, K1 to K4, and tests for null, N1.
use Rattle.std.proofs.Common.{◌≡◌, ℕ, zero, suc, ◌+◌, ◌<◌, Bool, true, false, List, [], ◌∷◌, length, map, replicate}
use Rattle.std.proofs.Common.{get_or, Some, refl, sym, ap, subst, ◌∙◌, arith}
use Rattle.std.specs.List.{range_with_len}
use Rattle.std.proofs.lemmas.List.{length-replicate, get_or-replicate}
use Rattle.vx_value.specs.Types as type
use Rattle.vx_value.specs.Types.{DataType, nullability_of, is_nullable}
use Rattle.vx_value.specs.Typed.{Typed}
use Rattle.vx_value.specs.Values.{Value, null, boolean}
use Rattle.vx_value.specs.Cell.{Cell, value, fault}
use Rattle.vx_value.specs.declared.dtype.DType.{DType}
use Rattle.vx_value.specs.declared.dtype.Nullability.TheVariants.{NonNullable}
use Rattle.vx_fn.specs.Apply.{apply}
use Rattle.vx_fn.specs.ReturnTypes.{return_type}
use Rattle.vx_fn.specs.declared.function.ScalarFnRef.{ScalarFnRef}
use Rattle.vx_fn.specs.declared.function.ScalarFnRef.TheVariants as fn_of
use Rattle.vx_fn.specs.declared.functions.between.BetweenOptions.{BetweenOptions}
use Rattle.vx_tree.specs.Tree as enc
use Rattle.vx_tree.specs.Tree.{Tree, Slots, node, no_slots, slot, dtype, len, types_in}
use Rattle.vx_tree.specs.Cells.{rows, slots_rows, row_at, HasNoFault}
use Rattle.vx_tree.specs.Keeps.{CellKeeps, RowsKeep, Keeps, KeepsExactly}
use Rattle.vx_tree.specs.Validities.{truths}
use Rattle.vx_tree.specs.Well.{shape, shapes, IsWell}
use Rattle.vx_tree.proofs.KeepsLemmas.{exactly_of_rows}
use Rattle.vx_tree.proofs.TypedLemmas.{CellFits, fit_at, rows_fit}
use Rattle.vx_rule.specs.Rules.{constants}
use Rattle.vx_rule.proofs.PicksLemmas.{rows_are, slots_long}

-- ---- of constants

-- a function that gives one value in every row is a constant
folded : (f : ScalarFnRef) (ty : DataType) (n : ℕ) (ss : Slots) (w : Value) → ((i : ℕ) → i < n → apply f (types_in (shapes ss)) ty (row_at (slots_rows ss) i) ≡ value w)
    → KeepsExactly (node ty n (enc.function f) ss) (constants ty w n)
folded f ty n ss w h =
    let copies : map (λ i. apply f (types_in (shapes ss)) ty (row_at (slots_rows ss) i)) (range_with_len 0 n) ≡ replicate n (value w) =
    rows_are (λ i. apply f (types_in (shapes ss)) ty (row_at (slots_rows ss) i)) n (replicate n (value w)) (length-replicate n (value w))
    (λ i lt. h i lt ∙ sym (get_or-replicate n i (value w) fault lt)) in
    exactly_of_rows ty n (enc.function f) (enc.constant (record { of_type = ty; value = w })) ss no_slots copies (λ d. tt)

-- row i of a constant of n rows
copied : (k n : ℕ) (v : Value) (i : ℕ) → length (replicate k (value v)) ≡ n → i < n → get_or (replicate k (value v)) i fault ≡ value v
copied k n v i long lt = get_or-replicate k i (value v) fault (omega (arith, long, length-replicate k (value v)))

-- of one
one_folded : (f : ScalarFnRef) (ty s : DataType) (n k : ℕ) (v : Typed) (w : Value)
    → IsWell (node ty n (enc.function f) (slot (node s k (enc.constant v) no_slots) no_slots)) → apply f (v.of_type ∷ []) ty (value v.value ∷ []) ≡ value w
    → KeepsExactly (node ty n (enc.function f) (slot (node s k (enc.constant v) no_slots) no_slots)) (constants ty w n)
one_folded f ty s n k v w well e =
    let ss = slot (node s k (enc.constant v) no_slots) no_slots in
    let long = slots_long n well.0.0 ss well.0.1 well.1 in
    folded f ty n ss w (λ i lt. (λ p. apply f (well.1.0.0.0 p ∷ []) ty (copied k n v.value i long.0 lt p ∷ [])) ∙ e)

pub K1_keeps : (ty s : DataType) (n k : ℕ) (target : DType) (v : Typed) (w : Value)
    → IsWell (node ty n (enc.function (fn_of.Cast target)) (slot (node s k (enc.constant v) no_slots) no_slots))
    → apply (fn_of.Cast target) (v.of_type ∷ []) ty (value v.value ∷ []) ≡ value w
    → KeepsExactly (node ty n (enc.function (fn_of.Cast target)) (slot (node s k (enc.constant v) no_slots) no_slots)) (constants ty w n)
K1_keeps ty s n k target v w well e = one_folded (fn_of.Cast target) ty s n k v w well e

pub K2_keeps : (ty s : DataType) (n k : ℕ) (v : Typed) (w : Value)
    → IsWell (node ty n (enc.function fn_of.Not) (slot (node s k (enc.constant v) no_slots) no_slots)) → apply fn_of.Not (v.of_type ∷ []) ty (value v.value ∷ []) ≡ value w
    → KeepsExactly (node ty n (enc.function fn_of.Not) (slot (node s k (enc.constant v) no_slots) no_slots)) (constants ty w n)
K2_keeps ty s n k v w well e = one_folded fn_of.Not ty s n k v w well e

pub K3_keeps : (ty s t u : DataType) (n i j k : ℕ) (options : BetweenOptions) (x y z : Typed) (w : Value)
    → IsWell (node ty n (enc.function (fn_of.Between options))
    (slot (node s i (enc.constant x) no_slots) (slot (node t j (enc.constant y) no_slots) (slot (node u k (enc.constant z) no_slots) no_slots))))
    → apply (fn_of.Between options) (x.of_type ∷ y.of_type ∷ z.of_type ∷ []) ty (value x.value ∷ value y.value ∷ value z.value ∷ []) ≡ value w
    → KeepsExactly (node ty n (enc.function (fn_of.Between options))
    (slot (node s i (enc.constant x) no_slots) (slot (node t j (enc.constant y) no_slots) (slot (node u k (enc.constant z) no_slots) no_slots))))
    (constants ty w n)
K3_keeps ty s t u n i j k options x y z w well e =
    let f = fn_of.Between options in
    let ss = slot (node s i (enc.constant x) no_slots) (slot (node t j (enc.constant y) no_slots) (slot (node u k (enc.constant z) no_slots) no_slots)) in
    let long = slots_long n well.0.0 ss well.0.1 well.1 in
    folded f ty n ss w (λ r lt.
    (λ p. apply f (types_in (shapes ss)) ty (copied i n x.value r long.0 lt p ∷ copied j n y.value r long.1.0 lt p ∷ copied k n z.value r long.1.1.0 lt p ∷ [])) ∙ e)

pub K4_keeps : (ty s t : DataType) (n j k : ℕ) (x y : Typed) (w : Value)
    → IsWell (node ty n (enc.function fn_of.FillNull) (slot (node s j (enc.constant x) no_slots) (slot (node t k (enc.constant y) no_slots) no_slots)))
    → apply fn_of.FillNull (x.of_type ∷ y.of_type ∷ []) ty (value x.value ∷ value y.value ∷ []) ≡ value w
    → KeepsExactly (node ty n (enc.function fn_of.FillNull) (slot (node s j (enc.constant x) no_slots) (slot (node t k (enc.constant y) no_slots) no_slots)))
    (constants ty w n)
K4_keeps ty s t n j k x y w well e =
    let ss = slot (node s j (enc.constant x) no_slots) (slot (node t k (enc.constant y) no_slots) no_slots) in
    let long = slots_long n well.0.0 ss well.0.1 well.1 in
    folded fn_of.FillNull ty n ss w (λ r lt.
    (λ p. apply fn_of.FillNull (types_in (shapes ss)) ty (copied j n x.value r long.0 lt p ∷ copied k n y.value r long.1.0 lt p ∷ [])) ∙ e)

-- ---- of one tree

-- the one argument's type and length
pub one_argument : (n : ℕ) (tys : List DataType) (c : Tree) → shapes (slot c no_slots) ≡ map (λ s. Some (shape s n)) tys → tys ≡ dtype c ∷ []
one_argument n [] c e = absurd (cc)
one_argument n (s ∷ []) c e = let is : shape (dtype c) (len c) ≡ shape s n = cc in let same : dtype c ≡ s = cc in ap (λ x. x ∷ []) (sym same)
one_argument n (s ∷ r ∷ tys) c e = absurd (cc)

-- ---- tests for null

kept_from : (s n : ℕ) (f : ℕ → Cell) (d : Cell) → ((i : ℕ) → CellKeeps (f i) d) → RowsKeep (map f (range_with_len s n)) (replicate n d)
kept_from s zero f d h = tt
kept_from s (suc n) f d h = (h s, kept_from (s + 1) n f d h)

all_fine : (b : Bool) (n : ℕ) → HasNoFault (replicate n (value (boolean b)))
all_fine b zero = tt
all_fine b (suc n) = all_fine b n

-- a function of one argument whose result is a boolean, which is b in each row that has a value
tested : (f : ScalarFnRef) (b : Bool) (ty : DataType) (n : ℕ) (c : Tree) → IsWell (node ty n (enc.function f) (slot c no_slots))
    → return_type f (dtype c ∷ []) ≡ Some (type.bool NonNullable) → ((x : Cell) → CellFits (dtype c) x → CellKeeps (apply f (dtype c ∷ []) ty (x ∷ [])) (value (boolean b)))
    → Keeps (node ty n (enc.function f) (slot c no_slots)) (truths b n)
tested f b ty n c w typed h =
    let given : return_type f (dtype c ∷ []) ≡ Some ty = subst (λ tys. return_type f tys ≡ Some ty) (one_argument n w.0.0 c w.0.1) w.0.2 in
    let same : ty ≡ type.bool NonNullable = cc in
    record {
      same_type = same;
      same_len = refl;
      same_rows =
          kept_from 0 n (λ i. apply f (dtype c ∷ []) ty (get_or (rows c) i fault ∷ [])) (value (boolean b))
          (λ i. h (get_or (rows c) i fault) (fit_at (dtype c) (rows c) i (rows_fit c w.1.0)));
      still_clean = λ d. (all_fine b n, tt);
    }

null_test : (ty s : DataType) → nullability_of s ≡ NonNullable → (x : Cell) → CellFits s x → CellKeeps (apply fn_of.IsNull (s ∷ []) ty (x ∷ [])) (value (boolean false))
null_test ty s e (value null) h = let no : is_nullable (nullability_of s) ≡ false = ap is_nullable e in absurd (cc (no, h))
null_test ty s e (value _) h = refl
null_test ty s e fault h = tt

value_test : (ty s : DataType) → nullability_of s ≡ NonNullable → (x : Cell) → CellFits s x
    → CellKeeps (apply fn_of.IsNotNull (s ∷ []) ty (x ∷ [])) (value (boolean true))
value_test ty s e (value null) h = let no : is_nullable (nullability_of s) ≡ false = ap is_nullable e in absurd (cc (no, h))
value_test ty s e (value _) h = refl
value_test ty s e fault h = tt

pub N1_null_keeps : (ty : DataType) (n : ℕ) (c : Tree) → IsWell (node ty n (enc.function fn_of.IsNull) (slot c no_slots))
    → nullability_of (dtype c) ≡ NonNullable
    → Keeps (node ty n (enc.function fn_of.IsNull) (slot c no_slots)) (truths false n)
N1_null_keeps ty n c w e = tested fn_of.IsNull false ty n c w refl (null_test ty (dtype c) e)

pub N1_valid_keeps : (ty : DataType) (n : ℕ) (c : Tree) → IsWell (node ty n (enc.function fn_of.IsNotNull) (slot c no_slots))
    → nullability_of (dtype c) ≡ NonNullable
    → Keeps (node ty n (enc.function fn_of.IsNotNull) (slot c no_slots)) (truths true n)
N1_valid_keeps ty n c w e = tested fn_of.IsNotNull true ty n c w refl (value_test ty (dtype c) e)
