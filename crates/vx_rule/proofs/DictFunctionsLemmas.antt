-- Functions of a dictionary and constants.
use Rattle.std.proofs.Common.{◌≡◌, ℕ, zero, suc, ◌+◌, ◌<◌, ◌≤◌, List, [], ◌∷◌, ◌++◌, length, map, get_or, Bool, true, false, Option, Some, None, Result, Ok, Err, pos, replicate, ◌&&◌, if◌then◌else◌, ◌⊎◌, inl, inr, refl, sym, ap, subst, ◌∙◌, arith}
use Rattle.std.proofs.lemmas.Bool.{false≢true}
use Rattle.std.specs.Prelude.{option_map}
use Rattle.std.specs.Cmp.{unsigned_Decides}
use Rattle.std.specs.List.{range_with_len}
use Rattle.std.proofs.lemmas.List.{length-map, length-replicate, get_or-replicate}
use Rattle.std.proofs.lemmas.List.FromFn.{get_or-map-range_with_len, length-map-range_with_len}
use Rattle.vx_value.specs.Types as type
use Rattle.vx_value.specs.Types.{DataType, nullability_of, same_type}
use Rattle.vx_value.specs.Nullabilities.{with_nullability, union, same_but_nullability}
use Rattle.vx_value.specs.Values.{Value, null, boolean, integer}
use Rattle.vx_value.specs.Cell.{Cell, value, fault}
use Rattle.vx_value.specs.declared.dtype.Nullability.{Nullability}
use Rattle.vx_value.specs.declared.dtype.Nullability.TheVariants.{NonNullable, Nullable}
use Rattle.vx_value.proofs.NullabilitiesLemmas.{set_alike, same_but_set}
use Rattle.vx_fn.specs.Apply.{apply, on_values, value_of}
use Rattle.vx_fn.specs.Binary.{is_comparison, is_logical, null_rule, operated}
use Rattle.vx_fn.specs.Comparisons.{is_ordered}
use Rattle.vx_fn.specs.Functions.{meaning, arity}
use Rattle.vx_fn.specs.Meanings.{widen, widened, null_through}
use Rattle.vx_fn.specs.declared.function.Operator.{Operator}
use Rattle.vx_fn.specs.declared.function.Operator.TheVariants as operator
use Rattle.vx_fn.specs.declared.function.ScalarFnRef.TheVariants as fn_of
use Rattle.vx_fn.proofs.MeaningsLemmas.{widened_nullability, by_later}
use Rattle.vx_fn.specs.declared.function.ScalarFnRef.{ScalarFnRef}
use Rattle.vx_fn.specs.ReturnTypes.{return_type}
use Rattle.vx_tree.specs.Tree as enc
use Rattle.vx_tree.specs.Tree.{Tree, Slots, node, no_slots, absent, slot, slots_of, filled_slots, dtype, len, datum, dict_of, is_dict, is_constant, types_in, all_long, call_of}
use Rattle.vx_tree.specs.Calls.{all_of_len, row_refusal, call_refusal, called}
use Rattle.vx_tree.proofs.CallsLemmas.{filled_types, filled_long}
use Rattle.vx_tree.proofs.ConditionsLemmas.{none_refused, none_unless}
use Rattle.vx_tree.specs.Slots.{HasSlot, HoldsAt}
use Rattle.vx_tree.specs.Lookups.{taken, taken_cells}
use Rattle.vx_tree.specs.Cells.{rows, slots_rows, row_at, HasNoFault, IsClean, AreClean}
use Rattle.vx_tree.specs.Keeps.{Keeps}
use Rattle.vx_tree.specs.Well.{shape, shapes, IsNode, IsWell, AreWell}
use Rattle.vx_tree.proofs.CellsLemmas.{rows_counted}
use Rattle.vx_tree.proofs.TypedLemmas.{CellFits, fit_at, rows_fit}
use Rattle.vx_rule.proofs.PicksLemmas.{AllLong, slots_long, rows_are, exactly_by}
use Rattle.vx_rule.proofs.RangesLemmas.{copies_clean}
use Rattle.vx_rule.specs.Rules.{ArePresent}
use Rattle.vx_rule.specs.declared.raw_node.RawNode.{RawNode}
use Rattle.vx_rule.specs.Tags.{applies}
use Rattle.vx_rule.specs.Pushes.{IsConstantLike}
use Rattle.vx_rule.specs.Builtins.{passes_dict, AreConstantsLike, AreOfValues, Builtin, function_of_dict, BuiltinAnswers}
use Rattle.vx_rule.specs.DictFunctions.{AreAll, AreFirstLike, AreFirstOfValues, IsListOfValues}
use Rattle.vx_rule.specs.declared.builtins.builtin.BuiltinKind.TheVariants.{DictFn}

-- ---- no answer

none_given : (i : ℕ) (t : Tree) → ((u : Tree) (os : List ℕ) → Builtin DictFn i t u os → ⊥) → BuiltinAnswers DictFn i t (Ok None)
none_given i t h = record { answer = h; stands = tt; err = tt }

no_function : (i : ℕ) (t : Tree) (u : Tree) (os : List ℕ) → applies passes_dict (datum t) ≡ false → Builtin DictFn i t u os → ⊥
no_function i t u os e (function_of_dict ty s n j f codes values cs ds h a r) = false≢true (sym e ∙ h)

of_dict : (i : ℕ) (codes values c : Tree) (cs ds : Slots) → AreOfValues i codes values cs ds → HoldsAt i c cs → is_dict (datum c) ≡ true
of_dict zero codes values c no_slots ds a h = absurd a
of_dict zero codes values c (absent cs) ds a h = absurd a
of_dict zero codes values c (slot x cs) no_slots a h = absurd a
of_dict zero codes values c (slot x cs) (absent ds) a h = absurd a
of_dict zero codes values c (slot x cs) (slot d ds) a h = ap (λ y. is_dict (datum y)) (sym h ∙ a.0)
of_dict (suc i) codes values c no_slots ds a h = absurd a
of_dict (suc i) codes values c (absent cs) ds a h = absurd a
of_dict (suc i) codes values c (slot x cs) no_slots a h = absurd a
of_dict (suc i) codes values c (slot x cs) (absent ds) a h = absurd a
of_dict (suc i) codes values c (slot x cs) (slot d ds) a h = of_dict i codes values c cs ds a.1 h

no_dictionary : (i : ℕ) (t c : Tree) (u : Tree) (os : List ℕ) → HasSlot i c t → is_dict (datum c) ≡ false → Builtin DictFn i t u os → ⊥
no_dictionary i t c u os w e (function_of_dict ty s n j f codes values cs ds h a r) = false≢true (sym e ∙ of_dict i codes values c cs ds a w)

pub functions_other : (i : ℕ) (t : Tree) → applies passes_dict (datum t) ≡ false → BuiltinAnswers DictFn i t (Ok None)
functions_other i t e = none_given i t (λ u os. no_function i t u os e)

pub functions_no_dict : (i : ℕ) (t c : Tree) → HasSlot i c t → is_dict (datum c) ≡ false → BuiltinAnswers DictFn i t (Ok None)
functions_no_dict i t c w e = none_given i t (λ u os. no_dictionary i t c u os w e)

pub ruleset functions_quiet = (functions_other, functions_no_dict)

-- ---- the arguments, one after another

pub all_at : (xs : List (Option Tree)) (i : ℕ) (e : Option Tree) → AreAll xs → i < length xs → (c : Tree) × (get_or xs i e ≡ Some c)
all_at [] i e h l = absurd (omega (arith, l))
all_at (None ∷ xs) i e h l = absurd h
all_at (Some x ∷ xs) zero e h l = (x, refl)
all_at (Some x ∷ xs) (suc i) e h l = all_at xs i e h (omega (arith, l))

-- one constant more
like_more : (n : ℕ) (xs : List (Option Tree)) (ys : List Tree) (k : ℕ) (c d : Tree) (e : Option Tree) → AreFirstLike n xs ys → length ys ≡ k → k < length xs
    → get_or xs k e ≡ Some c → IsConstantLike c n d → AreFirstLike n xs (ys ++ d ∷ [])
like_more n [] ys k c d e a m l g s = absurd (omega (arith, l))
like_more n (x ∷ xs) [] (suc k) c d e a m l g s = absurd (omega (arith, m))
like_more n (None ∷ xs) [] zero c d e a m l g s = absurd (cc (g))
like_more n (Some x ∷ xs) [] zero c d e a m l g s = let same : x ≡ c = cc (g) in (subst (λ y. IsConstantLike y n d) (sym same) s, tt)
like_more n (x ∷ xs) (y ∷ ys) zero c d e a m l g s = absurd (omega (arith, m))
like_more n (None ∷ xs) (y ∷ ys) (suc k) c d e a m l g s = absurd a
like_more n (Some x ∷ xs) (y ∷ ys) (suc k) c d e a m l g s = (a.0, like_more n xs ys k c d e a.1 (omega (arith, m)) (omega (arith, l)) g s)

pub values_more : (i : ℕ) (v : Tree) (xs : List (Option Tree)) (ys : List Tree) (k : ℕ) (c d : Tree) (e : Option Tree) → AreFirstOfValues i v xs ys → length ys ≡ k
    → k < length xs → get_or xs k e ≡ Some c → (k ≡ i → ⊥) → IsConstantLike c (len v) d → AreFirstOfValues i v xs (ys ++ d ∷ [])
values_more i v [] ys k c d e a m l g o s = absurd (omega (arith, l))
values_more i v (x ∷ xs) [] (suc k) c d e a m l g o s = absurd (omega (arith, m))
values_more zero v (x ∷ xs) [] zero c d e a m l g o s = absurd (o refl)
values_more (suc i) v (None ∷ xs) [] zero c d e a m l g o s = absurd (cc (g))
values_more (suc i) v (Some x ∷ xs) [] zero c d e a m l g o s = let same : x ≡ c = cc (g) in (subst (λ y. IsConstantLike y (len v) d) (sym same) s, tt)
values_more i v (x ∷ xs) (y ∷ ys) zero c d e a m l g o s = absurd (omega (arith, m))
values_more zero v (None ∷ xs) (y ∷ ys) (suc k) c d e a m l g o s = absurd a
values_more zero v (Some x ∷ xs) (y ∷ ys) (suc k) c d e a m l g o s = (a.0, like_more (len v) xs ys k c d e a.1 (omega (arith, m)) (omega (arith, l)) g s)
values_more (suc i) v (None ∷ xs) (y ∷ ys) (suc k) c d e a m l g o s = absurd a
values_more (suc i) v (Some x ∷ xs) (y ∷ ys) (suc k) c d e a m l g o s =
    (a.0, values_more i v xs ys k c d e a.1 (omega (arith, m)) (omega (arith, l)) g (λ h. o (ap suc h)) s)

-- the values
pub values_here : (i : ℕ) (v : Tree) (xs : List (Option Tree)) (ys : List Tree) → AreAll xs → AreFirstOfValues i v xs ys → length ys ≡ i → i < length xs
    → AreFirstOfValues i v xs (ys ++ v ∷ [])
values_here i v [] ys w a m l = absurd (omega (arith, l))
values_here i v (None ∷ xs) ys w a m l = absurd w
values_here zero v (Some x ∷ xs) [] w a m l = (refl, tt)
values_here zero v (Some x ∷ xs) (y ∷ ys) w a m l = absurd (omega (arith, m))
values_here (suc i) v (Some x ∷ xs) [] w a m l = absurd (omega (arith, m))
values_here (suc i) v (Some x ∷ xs) (y ∷ ys) w a m l = (a.0, values_here i v xs ys w a.1 (omega (arith, m)) (omega (arith, l)))

-- another argument
no_like : (c d : Tree) (n : ℕ) → is_constant (datum c) ≡ false → IsConstantLike c n d → ⊥
no_like c d n e h = false≢true (sym e ∙ ap (λ y. is_constant (datum y)) h.1)

like_other : (n : ℕ) (xs : List (Option Tree)) (ds : List Tree) (k : ℕ) (c : Tree) (e : Option Tree) → get_or xs k e ≡ Some c → is_constant (datum c) ≡ false
    → k < length xs → length ds ≡ length xs → AreFirstLike n xs ds → ⊥
like_other n [] ds k c e g f l m a = absurd (omega (arith, l))
like_other n (x ∷ xs) [] k c e g f l m a = absurd (omega (arith, m))
like_other n (None ∷ xs) (d ∷ ds) k c e g f l m a = absurd a
like_other n (Some x ∷ xs) (d ∷ ds) zero c e g f l m a =
    let same : x ≡ c = cc (g) in no_like c d n f (subst (λ y. IsConstantLike y n d) same a.0)
like_other n (Some x ∷ xs) (d ∷ ds) (suc k) c e g f l m a = like_other n xs ds k c e g f (omega (arith, l)) (omega (arith, m)) a.1

pub values_other : (i : ℕ) (v : Tree) (xs : List (Option Tree)) (ds : List Tree) (k : ℕ) (c : Tree) (e : Option Tree) → get_or xs k e ≡ Some c
    → is_constant (datum c) ≡ false → (k ≡ i → ⊥) → k < length xs → length ds ≡ length xs → AreFirstOfValues i v xs ds → ⊥
values_other i v [] ds k c e g f o l m a = absurd (omega (arith, l))
values_other i v (x ∷ xs) [] k c e g f o l m a = absurd (omega (arith, m))
values_other zero v (None ∷ xs) (d ∷ ds) k c e g f o l m a = absurd a
values_other (suc i) v (None ∷ xs) (d ∷ ds) k c e g f o l m a = absurd a
values_other zero v (Some x ∷ xs) (d ∷ ds) zero c e g f o l m a = absurd (o refl)
values_other zero v (Some x ∷ xs) (d ∷ ds) (suc k) c e g f o l m a = like_other (len v) xs ds k c e g f (omega (arith, l)) (omega (arith, m)) a.1
values_other (suc i) v (Some x ∷ xs) (d ∷ ds) zero c e g f o l m a =
    let same : x ≡ c = cc (g) in no_like c d (len v) f (subst (λ y. IsConstantLike y (len v) d) same a.0)
values_other (suc i) v (Some x ∷ xs) (d ∷ ds) (suc k) c e g f o l m a =
    values_other i v xs ds k c e g f (λ h. o (ap suc h)) (omega (arith, l)) (omega (arith, m)) a.1

-- ---- the type of the result

-- the types, each of which widens the result's
abbrev widened_by : List DataType → Option DataType → Option DataType
widened_by [] o = o
widened_by (s ∷ ss) o = widened s (widened_by ss o)

-- nullable if one of them is
abbrev union_by : List DataType → Nullability
union_by [] = NonNullable
union_by (s ∷ ss) = union (nullability_of s) (union_by ss)

-- the types, one of them widened
abbrev widen_at : ℕ → DataType → List DataType → List DataType
widen_at i c [] = []
widen_at zero c (s ∷ ss) = widen c s ∷ ss
widen_at (suc i) c (s ∷ ss) = s ∷ widen_at i c ss

abbrev truth_if : Bool → Option DataType
truth_if b = if b then Some (type.bool NonNullable) else None

abbrev is_truth : DataType → Bool
is_truth (type.bool n) = true
is_truth _ = false

-- whether a comparison takes this type
abbrev takes_type : Operator → DataType → Bool
takes_type operator.Eq s = true
takes_type operator.NotEq s = true
takes_type op s = is_ordered s

-- whether the function takes these types
abbrev takes : ScalarFnRef → List DataType → Bool
takes fn_of.Not (s ∷ []) = is_truth s
takes (fn_of.Binary op) (s ∷ t ∷ []) = same_but_nullability s t && takes_type op s
takes (fn_of.Between options) (s ∷ t ∷ u ∷ []) = (same_but_nullability s t && same_but_nullability s u) && is_ordered s
takes _ _ = false

associated : (a b d : Nullability) → union (union a b) d ≡ union a (union b d)
associated NonNullable b d = refl
associated Nullable b d = refl

exchanged : (a b d : Nullability) → union a (union b d) ≡ union b (union a d)
exchanged NonNullable NonNullable d = refl
exchanged NonNullable Nullable d = refl
exchanged Nullable NonNullable d = refl
exchanged Nullable Nullable d = refl

union_widened : (i : ℕ) (c : DataType) (ss : List DataType) → i < length ss → union_by (widen_at i c ss) ≡ union (nullability_of c) (union_by ss)
union_widened i c [] l = absurd (omega (arith, l))
union_widened zero c (s ∷ ss) l = ap (λ m. union m (union_by ss)) (widened_nullability c s) ∙ associated (nullability_of c) (nullability_of s) (union_by ss)
union_widened (suc i) c (s ∷ ss) l =
    ap (union (nullability_of s)) (union_widened i c ss (omega (arith, l))) ∙ exchanged (nullability_of s) (nullability_of c) (union_by ss)

truth_widened : (ss : List DataType) → widened_by ss (Some (type.bool NonNullable)) ≡ Some (type.bool (union_by ss))
truth_widened [] = refl
truth_widened (s ∷ ss) = ap (widened s) (truth_widened ss)

none_widened : (ss : List DataType) → widened_by ss None ≡ None
none_widened [] = refl
none_widened (s ∷ ss) = ap (widened s) (none_widened ss)

truth_tested : (a b : Bool) → (if a then truth_if b else None) ≡ truth_if (a && b)
truth_tested true b = refl
truth_tested false b = refl

-- the type is that of a truth value, widened by the arguments
result_is : (f : ScalarFnRef) (tys : List DataType) → passes_dict f ≡ true → length tys ≡ arity f → return_type f tys ≡ widened_by tys (truth_if (takes f tys))
result_is fn_of.Not (type.bool n ∷ []) h l = refl
result_is fn_of.Not (s ∷ []) h l = by_type s
  where
    by_type : (s : DataType) → return_type fn_of.Not (s ∷ []) ≡ widened_by (s ∷ []) (truth_if (takes fn_of.Not (s ∷ [])))
    by_type (type.bool n) = refl
    by_type _ = refl
result_is fn_of.Not [] h l = absurd (omega (arith, l))
result_is fn_of.Not (s ∷ t ∷ tys) h l = absurd (omega (arith, l))
result_is (fn_of.Binary op) [] h l = absurd (omega (arith, l))
result_is (fn_of.Binary op) (s ∷ []) h l = absurd (omega (arith, l))
result_is (fn_of.Binary op) (s ∷ t ∷ u ∷ tys) h l = absurd (omega (arith, l))
result_is (fn_of.Binary operator.Eq) (s ∷ t ∷ []) h l = ap (λ o. widened s (widened t o)) (truth_tested (same_but_nullability s t) true)
result_is (fn_of.Binary operator.NotEq) (s ∷ t ∷ []) h l = ap (λ o. widened s (widened t o)) (truth_tested (same_but_nullability s t) true)
result_is (fn_of.Binary operator.Gt) (s ∷ t ∷ []) h l = ap (λ o. widened s (widened t o)) (truth_tested (same_but_nullability s t) (is_ordered s))
result_is (fn_of.Binary operator.Gte) (s ∷ t ∷ []) h l = ap (λ o. widened s (widened t o)) (truth_tested (same_but_nullability s t) (is_ordered s))
result_is (fn_of.Binary operator.Lt) (s ∷ t ∷ []) h l = ap (λ o. widened s (widened t o)) (truth_tested (same_but_nullability s t) (is_ordered s))
result_is (fn_of.Binary operator.Lte) (s ∷ t ∷ []) h l = ap (λ o. widened s (widened t o)) (truth_tested (same_but_nullability s t) (is_ordered s))
result_is (fn_of.Binary _) (s ∷ t ∷ []) h l = absurd (false≢true h)
result_is (fn_of.Between options) [] h l = absurd (omega (arith, l))
result_is (fn_of.Between options) (s ∷ []) h l = absurd (omega (arith, l))
result_is (fn_of.Between options) (s ∷ t ∷ []) h l = absurd (omega (arith, l))
result_is (fn_of.Between options) (s ∷ t ∷ u ∷ v ∷ tys) h l = absurd (omega (arith, l))
result_is (fn_of.Between options) (s ∷ t ∷ u ∷ []) h l =
    ap (λ o. widened s (widened t (widened u o))) (truth_tested (same_but_nullability s t && same_but_nullability s u) (is_ordered s))
result_is _ tys h l = absurd (false≢true h)

bare_widened : (c s : DataType) → with_nullability NonNullable (widen c s) ≡ with_nullability NonNullable s
bare_widened c s = set_alike NonNullable (widen c s) s (same_but_set (union (nullability_of c) (nullability_of s)) (widen c s) s refl)

first_alike : (c s t : DataType) → same_but_nullability (widen c s) t ≡ same_but_nullability s t
first_alike c s t = ap (λ x. same_type x (with_nullability NonNullable t)) (bare_widened c s)

second_alike : (c s t : DataType) → same_but_nullability s (widen c t) ≡ same_but_nullability s t
second_alike c s t = ap (same_type (with_nullability NonNullable s)) (bare_widened c t)

ordered_set : (m : Nullability) (s : DataType) → is_ordered (with_nullability m s) ≡ is_ordered s
ordered_set m (type.bool n) = refl
ordered_set m (type.primitive p n) = refl
ordered_set m (type.decimal p k n) = refl
ordered_set m (type.utf8 n) = refl
ordered_set m (type.binary n) = refl
ordered_set m _ = refl

truth_set : (m : Nullability) (s : DataType) → is_truth (with_nullability m s) ≡ is_truth s
truth_set m (type.bool n) = refl
truth_set m _ = refl

type_set : (op : Operator) (m : Nullability) (s : DataType) → takes_type op (with_nullability m s) ≡ takes_type op s
type_set operator.Eq m s = refl
type_set operator.NotEq m s = refl
type_set _ m s = ordered_set m s

takes_widened : (f : ScalarFnRef) (i : ℕ) (c : DataType) (tys : List DataType) → passes_dict f ≡ true → length tys ≡ arity f → i < length tys
    → takes f (widen_at i c tys) ≡ takes f tys
takes_widened fn_of.Not i c [] h l k = absurd (omega (arith, l))
takes_widened fn_of.Not i c (s ∷ t ∷ tys) h l k = absurd (omega (arith, l))
takes_widened fn_of.Not zero c (s ∷ []) h l k = truth_set (union (nullability_of c) (nullability_of s)) s
takes_widened fn_of.Not (suc i) c (s ∷ []) h l k = absurd (omega (arith, k))
takes_widened (fn_of.Binary op) i c [] h l k = absurd (omega (arith, l))
takes_widened (fn_of.Binary op) i c (s ∷ []) h l k = absurd (omega (arith, l))
takes_widened (fn_of.Binary op) i c (s ∷ t ∷ u ∷ tys) h l k = absurd (omega (arith, l))
takes_widened (fn_of.Binary op) zero c (s ∷ t ∷ []) h l k =
    λ j. first_alike c s t j && type_set op (union (nullability_of c) (nullability_of s)) s j
takes_widened (fn_of.Binary op) (suc zero) c (s ∷ t ∷ []) h l k = ap (λ b. b && takes_type op s) (second_alike c s t)
takes_widened (fn_of.Binary op) (suc (suc i)) c (s ∷ t ∷ []) h l k = absurd (omega (arith, k))
takes_widened (fn_of.Between options) i c [] h l k = absurd (omega (arith, l))
takes_widened (fn_of.Between options) i c (s ∷ []) h l k = absurd (omega (arith, l))
takes_widened (fn_of.Between options) i c (s ∷ t ∷ []) h l k = absurd (omega (arith, l))
takes_widened (fn_of.Between options) i c (s ∷ t ∷ u ∷ v ∷ tys) h l k = absurd (omega (arith, l))
takes_widened (fn_of.Between options) zero c (s ∷ t ∷ u ∷ []) h l k =
    λ j. (first_alike c s t j && first_alike c s u j) && ordered_set (union (nullability_of c) (nullability_of s)) s j
takes_widened (fn_of.Between options) (suc zero) c (s ∷ t ∷ u ∷ []) h l k =
    ap (λ b. (b && same_but_nullability s u) && is_ordered s) (second_alike c s t)
takes_widened (fn_of.Between options) (suc (suc zero)) c (s ∷ t ∷ u ∷ []) h l k =
    ap (λ b. (same_but_nullability s t && b) && is_ordered s) (second_alike c s u)
takes_widened (fn_of.Between options) (suc (suc (suc i))) c (s ∷ t ∷ u ∷ []) h l k = absurd (omega (arith, k))
takes_widened _ i c tys h l k = absurd (false≢true h)

long_widened : (i : ℕ) (c : DataType) (tys : List DataType) → length (widen_at i c tys) ≡ length tys
long_widened i c [] = refl
long_widened zero c (s ∷ tys) = refl
long_widened (suc i) c (s ∷ tys) = ap suc (long_widened i c tys)

-- with one argument widened, the result is widened by the same
pub result_of_values : (f : ScalarFnRef) (i : ℕ) (c ty : DataType) (tys : List DataType) → passes_dict f ≡ true → i < length tys
    → return_type f (widen_at i c tys) ≡ Some ty
    → (return_type f tys ≡ Some (type.bool (union_by tys))) × (ty ≡ widen c (type.bool (union_by tys))) × (takes f tys ≡ true)
result_of_values f i c ty tys h l e = by_test (takes f tys) refl
  where
    long : length (widen_at i c tys) ≡ arity f
    long = (meaning f).taken (widen_at i c tys) ty e

    before : Some ty ≡ widened_by (widen_at i c tys) (truth_if (takes f tys))
    before = sym e ∙ result_is f (widen_at i c tys) h long ∙ ap (λ b. widened_by (widen_at i c tys) (truth_if b)) (takes_widened f i c tys h (sym (long_widened i c tys) ∙ long) l)

    after : return_type f tys ≡ widened_by tys (truth_if (takes f tys))
    after = result_is f tys h (sym (long_widened i c tys) ∙ long)

    by_test : (b : Bool) → takes f tys ≡ b
        → (return_type f tys ≡ Some (type.bool (union_by tys))) × (ty ≡ widen c (type.bool (union_by tys))) × (takes f tys ≡ true)
    by_test false t =
        let no : Some ty ≡ None = before ∙ ap (λ b. widened_by (widen_at i c tys) (truth_if b)) t ∙ none_widened (widen_at i c tys) in absurd (cc (no))
    by_test true t =
        let is : Some ty ≡ Some (type.bool (union_by (widen_at i c tys))) =
        before ∙ ap (λ b. widened_by (widen_at i c tys) (truth_if b)) t ∙ truth_widened (widen_at i c tys) in
        let same : ty ≡ type.bool (union_by (widen_at i c tys)) = cc (is) in (
          after ∙ ap (λ b. widened_by tys (truth_if b)) t ∙ truth_widened tys,
          same ∙ ap type.bool (union_widened i c tys l),
          t,
        )

-- ---- the cells of a row

abbrev IsValue : Cell → Type 0
IsValue (value v) = Unit {0}
IsValue fault = ⊥

abbrev AreValues : List Cell → Type 0
AreValues [] = Unit {0}
AreValues (c ∷ cs) = IsValue c × AreValues cs

-- x among values, in place i
abbrev IsAt : ℕ → Cell → List Cell → Type 0
IsAt i x [] = ⊥
IsAt zero x (c ∷ cs) = (c ≡ x) × AreValues cs
IsAt (suc i) x (c ∷ cs) = IsValue c × IsAt i x cs

-- a fault makes the result one
fault_through : (h : List Value → Cell) (i : ℕ) (cs : List Cell) → IsAt i fault cs → on_values h cs ≡ fault
fault_through h i [] a = absurd a
fault_through h zero (value v ∷ cs) a = absurd (cc (a.0))
fault_through h zero (fault ∷ cs) a = refl
fault_through h (suc i) (value v ∷ cs) a = fault_through (λ vs. h (v ∷ vs)) i cs a.1
fault_through h (suc i) (fault ∷ cs) a = refl

-- the values of a result that is a truth value don't depend on its nullability, nor on the arguments' types
by_any_types : (f : ScalarFnRef) (ss ts : List DataType) (m n : Nullability) (cs : List Cell) → passes_dict f ≡ true
    → apply f ss (type.bool m) cs ≡ apply f ts (type.bool n) cs
by_any_types fn_of.Not ss ts m n cs h = refl
by_any_types (fn_of.Binary op) ss ts m n cs h = refl
by_any_types (fn_of.Between options) ss ts m n cs h = refl
by_any_types _ ss ts m n cs h = absurd (false≢true h)

not_logical : (op : Operator) → is_comparison op ≡ true → is_logical op ≡ false
not_logical operator.Eq h = refl
not_logical operator.NotEq h = refl
not_logical operator.Gt h = refl
not_logical operator.Gte h = refl
not_logical operator.Lt h = refl
not_logical operator.Lte h = refl
not_logical _ h = absurd (false≢true h)

-- a null makes the result null
null_given : (f : ScalarFnRef) (tys : List DataType) (ty : DataType) (i : ℕ) (cs : List Cell) → passes_dict f ≡ true → length cs ≡ arity f
    → IsAt i (value null) cs → apply f tys ty cs ≡ value null
null_given fn_of.Not tys ty i [] h l a = absurd a
null_given fn_of.Not tys ty i (c ∷ d ∷ cs) h l a = absurd (omega (arith, l))
null_given fn_of.Not tys ty zero (c ∷ []) h l a = ap (λ x. apply fn_of.Not tys ty (x ∷ [])) a.0
null_given fn_of.Not tys ty (suc i) (c ∷ []) h l a = absurd a.1
null_given (fn_of.Binary op) tys ty i [] h l a = absurd a
null_given (fn_of.Binary op) tys ty i (c ∷ []) h l a = absurd (omega (arith, l))
null_given (fn_of.Binary op) tys ty i (c ∷ d ∷ e ∷ cs) h l a = absurd (omega (arith, l))
null_given (fn_of.Binary op) tys ty zero (c ∷ fault ∷ []) h l a = absurd a.1.0
null_given (fn_of.Binary op) tys ty zero (c ∷ value w ∷ []) h l a =
    ap (λ x. apply (fn_of.Binary op) tys ty (x ∷ value w ∷ [])) a.0
    ∙ ap (λ b. null_rule b null (null_rule b w (operated op ty null w))) (not_logical op h)
null_given (fn_of.Binary op) tys ty (suc i) (fault ∷ d ∷ []) h l a = absurd a.0
null_given (fn_of.Binary op) tys ty (suc zero) (value v ∷ d ∷ []) h l a =
    ap (λ x. apply (fn_of.Binary op) tys ty (value v ∷ x ∷ [])) a.1.0
    ∙ ap (λ b. null_rule b v (null_rule b null (operated op ty v null))) (not_logical op h) ∙ by_later v (value null) refl
null_given (fn_of.Binary op) tys ty (suc (suc i)) (value v ∷ d ∷ []) h l a = absurd a.1.1
null_given (fn_of.Between options) tys ty i [] h l a = absurd a
null_given (fn_of.Between options) tys ty i (c ∷ []) h l a = absurd (omega (arith, l))
null_given (fn_of.Between options) tys ty i (c ∷ d ∷ []) h l a = absurd (omega (arith, l))
null_given (fn_of.Between options) tys ty i (c ∷ d ∷ e ∷ g ∷ cs) h l a = absurd (omega (arith, l))
null_given (fn_of.Between options) tys ty zero (c ∷ fault ∷ e ∷ []) h l a = absurd a.1.0
null_given (fn_of.Between options) tys ty zero (c ∷ value v ∷ fault ∷ []) h l a = absurd a.1.1.0
null_given (fn_of.Between options) tys ty zero (c ∷ value v ∷ value w ∷ []) h l a =
    ap (λ x. apply (fn_of.Between options) tys ty (x ∷ value v ∷ value w ∷ [])) a.0
null_given (fn_of.Between options) tys ty (suc i) (fault ∷ d ∷ e ∷ []) h l a = absurd a.0
null_given (fn_of.Between options) tys ty (suc zero) (value v ∷ d ∷ fault ∷ []) h l a = absurd a.1.1.0
null_given (fn_of.Between options) tys ty (suc zero) (value v ∷ d ∷ value w ∷ []) h l a =
    ap (λ x. apply (fn_of.Between options) tys ty (value v ∷ x ∷ value w ∷ [])) a.1.0 ∙ by_later v (value null) refl
null_given (fn_of.Between options) tys ty (suc (suc i)) (value v ∷ fault ∷ e ∷ []) h l a = absurd a.1.0
null_given (fn_of.Between options) tys ty (suc (suc zero)) (value v ∷ value w ∷ e ∷ []) h l a =
    ap (λ x. apply (fn_of.Between options) tys ty (value v ∷ value w ∷ x ∷ [])) a.1.1.0 ∙ by_later v (null_through w (value null)) (by_later w (value null) refl)
null_given (fn_of.Between options) tys ty (suc (suc (suc i))) (value v ∷ value w ∷ e ∷ []) h l a = absurd a.1.1.1
null_given _ tys ty i cs h l a = absurd (false≢true h)

-- a null makes no fault
past_null : (v : Value) (c : Cell) → IsValue c → IsValue (null_through v c)
past_null null c h = tt
past_null _ c h = h

-- values make no fault; what is negated fits a truth value's type
value_given : (f : ScalarFnRef) (ss tys : List DataType) (m : Nullability) (cs : List Cell) → passes_dict f ≡ true → length cs ≡ arity f → AreValues cs
    → takes f tys ≡ true → ((s : DataType) (x : Cell) → tys ≡ s ∷ [] → cs ≡ x ∷ [] → CellFits s x) → IsValue (apply f ss (type.bool m) cs)
value_given fn_of.Not ss tys m [] h l a t fits = absurd (omega (arith, l))
value_given fn_of.Not ss tys m (c ∷ d ∷ cs) h l a t fits = absurd (omega (arith, l))
value_given fn_of.Not ss tys m (fault ∷ []) h l a t fits = absurd a.0
value_given fn_of.Not ss [] m (value v ∷ []) h l a t fits = absurd (false≢true t)
value_given fn_of.Not ss (s ∷ r ∷ tys) m (value v ∷ []) h l a t fits = absurd (false≢true t)
value_given fn_of.Not ss (s ∷ []) m (value v ∷ []) h l a t fits = by_value s v t (fits s (value v) refl refl)
  where
    by_value : (s : DataType) (v : Value) → is_truth s ≡ true → CellFits s (value v) → IsValue (apply fn_of.Not ss (type.bool m) (value v ∷ []))
    by_value s null t k = tt
    by_value s (boolean b) t k = tt
    by_value (type.bool n) _ t k = absurd (false≢true k)
    by_value _ v t k = absurd (false≢true t)
value_given (fn_of.Binary op) ss tys m [] h l a t fits = absurd (omega (arith, l))
value_given (fn_of.Binary op) ss tys m (c ∷ []) h l a t fits = absurd (omega (arith, l))
value_given (fn_of.Binary op) ss tys m (c ∷ d ∷ e ∷ cs) h l a t fits = absurd (omega (arith, l))
value_given (fn_of.Binary op) ss tys m (fault ∷ d ∷ []) h l a t fits = absurd a.0
value_given (fn_of.Binary op) ss tys m (value v ∷ fault ∷ []) h l a t fits = absurd a.1.0
value_given (fn_of.Binary op) ss tys m (value v ∷ value w ∷ []) h l a t fits =
    subst (λ b. IsValue (null_rule b v (null_rule b w (operated op (type.bool m) v w)))) (sym (not_logical op h))
    (past_null v (null_through w (operated op (type.bool m) v w)) (past_null w (operated op (type.bool m) v w) (compares op h)))
  where
    compares : (op : Operator) → is_comparison op ≡ true → IsValue (operated op (type.bool m) v w)
    compares operator.Eq h = tt
    compares operator.NotEq h = tt
    compares operator.Gt h = tt
    compares operator.Gte h = tt
    compares operator.Lt h = tt
    compares operator.Lte h = tt
    compares _ h = absurd (false≢true h)
value_given (fn_of.Between options) ss tys m [] h l a t fits = absurd (omega (arith, l))
value_given (fn_of.Between options) ss tys m (c ∷ []) h l a t fits = absurd (omega (arith, l))
value_given (fn_of.Between options) ss tys m (c ∷ d ∷ []) h l a t fits = absurd (omega (arith, l))
value_given (fn_of.Between options) ss tys m (c ∷ d ∷ e ∷ g ∷ cs) h l a t fits = absurd (omega (arith, l))
value_given (fn_of.Between options) ss tys m (fault ∷ d ∷ e ∷ []) h l a t fits = absurd a.0
value_given (fn_of.Between options) ss tys m (value v ∷ fault ∷ e ∷ []) h l a t fits = absurd a.1.0
value_given (fn_of.Between options) ss tys m (value v ∷ value w ∷ fault ∷ []) h l a t fits = absurd a.1.1.0
value_given (fn_of.Between options) ss tys m (value v ∷ value w ∷ value x ∷ []) h l a t fits =
    past_null v _ (past_null w _ (past_null x _ tt))
value_given _ ss tys m cs h l a t fits = absurd (false≢true h)

-- ---- the slots

one_type : (c d : Tree) (m : ℕ) → IsConstantLike c m d → dtype c ≡ dtype d
one_type c d m h = ap dtype h.1 ∙ sym (ap dtype h.2)

constants_types : (m : ℕ) (cs ds : Slots) → AreConstantsLike m cs ds → types_in (shapes cs) ≡ types_in (shapes ds)
constants_types m no_slots no_slots a = refl
constants_types m no_slots (absent ds) a = absurd a
constants_types m no_slots (slot d ds) a = absurd a
constants_types m (absent cs) ds a = absurd a
constants_types m (slot c cs) no_slots a = absurd a
constants_types m (slot c cs) (absent ds) a = absurd a
constants_types m (slot c cs) (slot d ds) a = λ j. one_type c d m a.0 j ∷ constants_types m cs ds a.1 j

constants_shapes : (m : ℕ) (cs ds : Slots) → AreConstantsLike m cs ds → shapes ds ≡ map (λ s. Some (shape s m)) (types_in (shapes ds))
constants_shapes m no_slots no_slots a = refl
constants_shapes m no_slots (absent ds) a = absurd a
constants_shapes m no_slots (slot d ds) a = absurd a
constants_shapes m (absent cs) ds a = absurd a
constants_shapes m (slot c cs) no_slots a = absurd a
constants_shapes m (slot c cs) (absent ds) a = absurd a
constants_shapes m (slot c cs) (slot d ds) a = let long : len d ≡ m = ap len a.0.2 in λ j. Some (shape (dtype d) (long j)) ∷ constants_shapes m cs ds a.1 j

constants_counted : (m : ℕ) (cs ds : Slots) → AreConstantsLike m cs ds → (j : ℕ) → length (row_at (slots_rows cs) j) ≡ length (types_in (shapes cs))
constants_counted m no_slots ds a j = refl
constants_counted m (absent cs) ds a j = absurd a
constants_counted m (slot c cs) no_slots a j = absurd a
constants_counted m (slot c cs) (absent ds) a j = absurd a
constants_counted m (slot c cs) (slot d ds) a j = ap suc (constants_counted m cs ds a.1 j)

copy_before : (c d : Tree) (m n j : ℕ) (h : IsConstantLike c m d) → length (rows c) ≡ n → j < n → get_or (rows c) j fault ≡ value h.0.value
copy_before c d m n j h long l =
    let counted : length (rows c) ≡ len c = ap (λ t. length (rows t)) h.1 ∙ length-replicate (len c) (value h.0.value) in
    ap (λ t. get_or (rows t) j fault) h.1 ∙ get_or-replicate (len c) j (value h.0.value) fault (omega (arith, long, counted, l))

copy_after : (c d : Tree) (m k : ℕ) (h : IsConstantLike c m d) → k < m → get_or (rows d) k fault ≡ value h.0.value
copy_after c d m k h l = ap (λ t. get_or (rows t) k fault) h.2 ∙ get_or-replicate m k (value h.0.value) fault l

constants_rows : (m n j k : ℕ) (cs ds : Slots) → AreConstantsLike m cs ds → AllLong n (slots_rows cs) → j < n → k < m
    → row_at (slots_rows cs) j ≡ row_at (slots_rows ds) k
constants_rows m n j k no_slots no_slots a long l lt = refl
constants_rows m n j k no_slots (absent ds) a long l lt = absurd a
constants_rows m n j k no_slots (slot d ds) a long l lt = absurd a
constants_rows m n j k (absent cs) ds a long l lt = absurd a
constants_rows m n j k (slot c cs) no_slots a long l lt = absurd a
constants_rows m n j k (slot c cs) (absent ds) a long l lt = absurd a
constants_rows m n j k (slot c cs) (slot d ds) a long l lt =
    λ x. (copy_before c d m n j a.0 long.0 l ∙ sym (copy_after c d m k a.0 lt)) x ∷ constants_rows m n j k cs ds a.1 long.1 l lt x

is_value : (c : Cell) (v : Value) → c ≡ value v → IsValue c
is_value c v e = subst IsValue (sym e) tt

constants_before : (m n j : ℕ) (cs ds : Slots) → AreConstantsLike m cs ds → AllLong n (slots_rows cs) → j < n → AreValues (row_at (slots_rows cs) j)
constants_before m n j no_slots ds a long l = tt
constants_before m n j (absent cs) ds a long l = absurd a
constants_before m n j (slot c cs) no_slots a long l = absurd a
constants_before m n j (slot c cs) (absent ds) a long l = absurd a
constants_before m n j (slot c cs) (slot d ds) a long l =
    (is_value _ _ (copy_before c d m n j a.0 long.0 l), constants_before m n j cs ds a.1 long.1 l)

constants_after : (m k : ℕ) (cs ds : Slots) → AreConstantsLike m cs ds → k < m → AreValues (row_at (slots_rows ds) k)
constants_after m k cs no_slots a l = tt
constants_after m k no_slots (absent ds) a l = absurd a
constants_after m k (absent cs) (absent ds) a l = absurd a
constants_after m k (slot c cs) (absent ds) a l = absurd a
constants_after m k no_slots (slot d ds) a l = absurd a
constants_after m k (absent cs) (slot d ds) a l = absurd a
constants_after m k (slot c cs) (slot d ds) a l = (is_value _ _ (copy_after c d m k a.0 l), constants_after m k cs ds a.1 l)

constants_clean : (m : ℕ) (cs ds : Slots) → AreConstantsLike m cs ds → AreClean ds
constants_clean m cs no_slots a = tt
constants_clean m no_slots (absent ds) a = absurd a
constants_clean m (absent cs) (absent ds) a = absurd a
constants_clean m (slot c cs) (absent ds) a = absurd a
constants_clean m no_slots (slot d ds) a = absurd a
constants_clean m (absent cs) (slot d ds) a = absurd a
constants_clean m (slot c cs) (slot d ds) a = (subst IsClean (sym a.0.2) (copies_clean a.0.0 m), constants_clean m cs ds a.1)

at_values : (i : ℕ) (x : Cell) (cs : List Cell) → IsAt i x cs → IsValue x → AreValues cs
at_values i x [] a v = tt
at_values zero x (c ∷ cs) a v = (subst IsValue (sym a.0) v, a.1)
at_values (suc i) x (c ∷ cs) a v = (a.0, at_values i x cs a.1 v)

module _ (codes values : Tree) where
  abbrev dict : Tree
  dict = dict_of codes values

  abbrev m : ℕ
  m = len values

  -- of what is proved about all slots, that of the dictionary's; the others hold constants
  record AreSlots (i : ℕ) (cs ds : Slots) : Type 0 where
    types : types_in (shapes cs) ≡ widen_at i (dtype codes) (types_in (shapes ds))
    within : i < length (types_in (shapes ds))
    shaped : shapes ds ≡ map (λ s. Some (shape s m)) (types_in (shapes ds))
    counted : (j : ℕ) → length (row_at (slots_rows cs) j) ≡ length (types_in (shapes cs))
    same : (n j k : ℕ) → AllLong n (slots_rows cs) → j < n → k < m → get_or (rows dict) j fault ≡ get_or (rows values) k fault
        → row_at (slots_rows cs) j ≡ row_at (slots_rows ds) k
    before : (n j : ℕ) → AllLong n (slots_rows cs) → j < n → IsAt i (get_or (rows dict) j fault) (row_at (slots_rows cs) j)
    after : (k : ℕ) → k < m → IsAt i (get_or (rows values) k fault) (row_at (slots_rows ds) k)
    clean : AreClean cs → AreClean ds × IsClean codes × IsClean values
    well : AreWell cs → IsWell dict
    long : (n : ℕ) → AllLong n (slots_rows cs) → length (rows dict) ≡ n
    fits : (k : ℕ) → IsWell values → (s : DataType) (x : Cell) → types_in (shapes ds) ≡ s ∷ [] → row_at (slots_rows ds) k ≡ x ∷ [] → CellFits s x

  are_slots : (i : ℕ) (cs ds : Slots) → AreOfValues i codes values cs ds → AreSlots i cs ds
  are_slots zero no_slots ds a = absurd a
  are_slots zero (absent cs) ds a = absurd a
  are_slots zero (slot c cs) no_slots a = absurd a
  are_slots zero (slot c cs) (absent ds) a = absurd a
  are_slots zero (slot c cs) (slot d ds) a = record {
    types = λ j. (ap dtype a.0 ∙ ap (λ v. widen (dtype codes) (dtype v)) (sym a.1)) j ∷ constants_types m cs ds a.2 j;
    within = omega arith;
    shaped = let counted : len d ≡ m = ap len a.1 in λ j. Some (shape (dtype d) (counted j)) ∷ constants_shapes m cs ds a.2 j;
    counted = λ j. ap suc (constants_counted m cs ds a.2 j);
    same = λ n j k long l lt e x.
        (ap (λ t. get_or (rows t) j fault) a.0 ∙ e ∙ ap (λ t. get_or (rows t) k fault) (sym a.1)) x ∷ constants_rows m n j k cs ds a.2 long.1 l lt x;
    before = λ n j long l. (ap (λ t. get_or (rows t) j fault) a.0, constants_before m n j cs ds a.2 long.1 l);
    after = λ k l. (ap (λ t. get_or (rows t) k fault) a.1, constants_after m k cs ds a.2 l);
    clean = λ h. let d : IsClean dict = subst IsClean a.0 h.0 in ((subst IsClean (sym a.1) d.1.1.0, constants_clean m cs ds a.2), d.1.0, d.1.1.0);
    well = λ w. subst IsWell a.0 w.0;
    long = λ n h. ap (λ t. length (rows t)) (sym a.0) ∙ h.0;
    fits = λ k w s x e g.
        let typed : dtype d ≡ s = cc (e) in
        let shown : get_or (rows d) k fault ≡ x = cc (g) in
        subst (λ y. CellFits s y) shown (subst (λ t. CellFits t (get_or (rows d) k fault)) typed
        (fit_at (dtype d) (rows d) k (rows_fit d (subst IsWell (sym a.1) w))));
  }
  are_slots (suc i) no_slots ds a = absurd a
  are_slots (suc i) (absent cs) ds a = absurd a
  are_slots (suc i) (slot c cs) no_slots a = absurd a
  are_slots (suc i) (slot c cs) (absent ds) a = absurd a
  are_slots (suc i) (slot c cs) (slot d ds) a =
      let r = are_slots i cs ds a.1 in record {
        types = λ j. one_type c d m a.0 j ∷ r.types j;
        within = omega (arith, r.within);
        shaped = let counted : len d ≡ m = ap len a.0.2 in λ j. Some (shape (dtype d) (counted j)) ∷ r.shaped j;
        counted = λ j. ap suc (r.counted j);
        same = λ n j k long l lt e x. (copy_before c d m n j a.0 long.0 l ∙ sym (copy_after c d m k a.0 lt)) x ∷ r.same n j k long.1 l lt e x;
        before = λ n j long l. (is_value _ _ (copy_before c d m n j a.0 long.0 l), r.before n j long.1 l);
        after = λ k l. (is_value _ _ (copy_after c d m k a.0 l), r.after k l);
        clean = λ h. let s = r.clean h.1 in ((subst IsClean (sym a.0.2) (copies_clean a.0.0 m), s.0), s.1, s.2);
        well = λ w. r.well w.1;
        long = λ n h. r.long n h.1;
        fits = λ k w s x e g. let none : types_in (shapes ds) ≡ [] = cc (e) in absurd (omega (arith, r.within, ap length none));
      }

-- ---- the rows

types_of : (n : ℕ) (tys : List DataType) → types_in (map (λ s. Some (shape s n)) tys) ≡ tys
types_of n [] = refl
types_of n (s ∷ tys) = ap (λ l. s ∷ l) (types_of n tys)

taken_at : (vs cs : List Cell) (j : ℕ) → get_or (taken_cells cs vs) j fault ≡ taken vs (get_or cs j fault)
taken_at vs [] j = refl
taken_at vs (c ∷ cs) zero = refl
taken_at vs (c ∷ cs) (suc j) = taken_at vs cs j

-- place k is in both lists or in neither
both_at : (vs ws : List Cell) (k : ℕ) → length vs ≡ length ws → (k < length vs) ⊎ ((get_or vs k fault ≡ fault) × (get_or ws k fault ≡ fault))
both_at [] [] k e = inr (refl, refl)
both_at [] (w ∷ ws) k e = absurd (omega (arith, e))
both_at (v ∷ vs) [] k e = absurd (omega (arith, e))
both_at (v ∷ vs) (w ∷ ws) zero e = inl (omega arith)
both_at (v ∷ vs) (w ∷ ws) (suc k) e = elim (both_at vs ws k (omega (arith, e))) [ inl p ↦ inl (omega (arith, p)) | inr p ↦ inr p ]

value_at : (cs : List Cell) (k : ℕ) → HasNoFault cs → k < length cs → IsValue (get_or cs k fault)
value_at [] k h l = absurd (omega (arith, l))
value_at (fault ∷ cs) k h l = absurd h
value_at (value v ∷ cs) zero h l = tt
value_at (value v ∷ cs) (suc k) h l = value_at cs k h (omega (arith, l))

all_values : (g : ℕ → Cell) (s n : ℕ) → ((k : ℕ) → s ≤ k → k < s + n → IsValue (g k)) → HasNoFault (map g (range_with_len s n))
all_values g s zero h = tt
all_values g s (suc n) h =
    with_first (g s) (map g (range_with_len (s + 1) n)) (h s (omega arith) (omega arith)) (all_values g (s + 1) n (λ k p q. h k (omega (arith, p)) (omega (arith, q))))
  where
    with_first : (c : Cell) (cs : List Cell) → IsValue c → HasNoFault cs → HasNoFault (c ∷ cs)
    with_first (value v) cs k r = r
    with_first fault cs k r = absurd k

own_rows : (t : Tree) → IsClean t → HasNoFault (rows t)
own_rows (node ty n d ss) c = c.0

row_counted : (n : ℕ) (ss : Slots) (tys : List DataType) (k : ℕ) → shapes ss ≡ map (λ s. Some (shape s n)) tys → length (row_at (slots_rows ss) k) ≡ length tys
row_counted n no_slots [] k e = refl
row_counted n no_slots (s ∷ tys) k e = absurd (cc (e))
row_counted n (absent ss) [] k e = absurd (cc (e))
row_counted n (absent ss) (s ∷ tys) k e = absurd (cc (e))
row_counted n (slot t ss) [] k e = absurd (cc (e))
row_counted n (slot t ss) (s ∷ tys) k e =
    let rest : shapes ss ≡ map (λ s. Some (shape s n)) tys = cc (e) in ap suc (row_counted n ss tys k rest)

module _ (ty : DataType) (n i : ℕ) (f : ScalarFnRef) (codes values : Tree) (cs ds : Slots) (h : passes_dict f ≡ true)
    (a : AreOfValues i codes values cs ds) (w : IsWell (node ty n (enc.function f) cs)) where
  abbrev ss : List DataType
  ss = types_in (shapes ds)

  abbrev result : DataType
  result = type.bool (union_by ss)

  abbrev whole : Tree
  whole = node ty n (enc.function f) cs

  abbrev call : Tree
  call = node result (len values) (enc.function f) ds

  abbrev answer : Tree
  answer = dict_of codes call

  all : AreSlots codes values i cs ds
  all = are_slots codes values i cs ds a

  given : return_type f (types_in (shapes cs)) ≡ Some ty
  given = ap (λ l. return_type f (types_in l)) w.0.1 ∙ ap (return_type f) (types_of n w.0.0) ∙ w.0.2

  pub typed : (return_type f ss ≡ Some result) × (ty ≡ widen (dtype codes) result) × (takes f ss ≡ true)
  typed = result_of_values f i (dtype codes) ty ss h all.within (ap (return_type f) (sym all.types) ∙ given)

  pub call_shaped : shapes ds ≡ map (λ s. Some (shape s (len values))) ss
  call_shaped = all.shaped

  long : AllLong n (slots_rows cs)
  long = slots_long n w.0.0 cs w.0.1 w.1

  well : IsWell (dict_of codes values)
  well = all.well w.1

  coded : length (rows codes) ≡ n
  coded = sym (length-map (rows codes) (taken (rows values))) ∙ all.long n long

  sized : n ≡ len codes
  sized = sym coded ∙ rows_counted codes well.1.0

  abbrev at : ℕ → Cell
  at k = apply f ss result (row_at (slots_rows ds) k)

  at_is : (k : ℕ) → k < len values → get_or (rows call) k fault ≡ at k
  at_is k l = get_or-map-range_with_len at 0 (len values) k k fault l (omega arith)

  abbrev given_at : ℕ → Cell
  given_at j = apply f (types_in (shapes cs)) ty (row_at (slots_rows cs) j)

  taken_is : (j : ℕ) (x : Cell) → get_or (rows codes) j fault ≡ x → get_or (rows (dict_of codes values)) j fault ≡ taken (rows values) x
  taken_is j x e = taken_at (rows values) (rows codes) j ∙ ap (taken (rows values)) e

  at_fault : (j : ℕ) → j < n → get_or (rows (dict_of codes values)) j fault ≡ fault → given_at j ≡ fault
  at_fault j l e =
      fault_through (value_of f (types_in (shapes cs)) ty) i (row_at (slots_rows cs) j)
      (subst (λ x. IsAt i x (row_at (slots_rows cs) j)) e (all.before n j long l))

  by_code : (j : ℕ) (x : Cell) → j < n → get_or (rows codes) j fault ≡ x → given_at j ≡ taken (rows call) x
  by_code j fault l e = at_fault j l (taken_is j fault e)
  by_code j (value null) l e =
      null_given f (types_in (shapes cs)) ty i (row_at (slots_rows cs) j) h (all.counted j ∙ (meaning f).taken (types_in (shapes cs)) ty given)
      (subst (λ x. IsAt i x (row_at (slots_rows cs) j)) (taken_is j (value null) e) (all.before n j long l))
  by_code j (value (integer (pos k))) l e =
      elim (both_at (rows values) (rows call) k (rows_counted values well.1.1.0 ∙ sym (length-map-range_with_len at 0 (len values)))) [
        | inl p ↦ let lt : k < len values = omega (arith, p, rows_counted values well.1.1.0) in
            ap (λ t. apply f (types_in (shapes cs)) t (row_at (slots_rows cs) j)) typed.1
            ∙ by_any_types f (types_in (shapes cs)) ss (union (nullability_of (dtype codes)) (union_by ss)) (union_by ss) (row_at (slots_rows cs) j) h
            ∙ ap (apply f ss result) (all.same n j k long l lt (taken_is j (value (integer (pos k))) e)) ∙ sym (at_is k lt)
        | inr p ↦ at_fault j l (taken_is j (value (integer (pos k))) e ∙ p.0) ∙ sym p.1
      ]
  by_code j (value _) l e = at_fault j l (taken_is j _ e)

  same_rows : rows whole ≡ rows answer
  same_rows =
      rows_are given_at n (rows answer) (length-map (rows codes) (taken (rows call)) ∙ coded)
      (λ j l. by_code j (get_or (rows codes) j fault) l refl ∙ sym (taken_at (rows call) (rows codes) j))

  values_fine : IsClean values → HasNoFault (rows values)
  values_fine = own_rows values

  here : (k : ℕ) → k < len values → HasNoFault (rows values) → IsValue (at k)
  here k l fine =
      value_given f ss ss (union_by ss) (row_at (slots_rows ds) k) h (row_counted (len values) ds ss k all.shaped ∙ (meaning f).taken ss result typed.0)
      (at_values i (get_or (rows values) k fault) (row_at (slots_rows ds) k) (all.after k l)
      (value_at (rows values) k fine (omega (arith, l, rows_counted values well.1.1.0)))) typed.2 (all.fits k well.1.1.0)

  still_clean : IsClean whole → IsClean answer
  still_clean c =
      let parts = all.clean c.1 in
      let own : HasNoFault (rows call) = all_values at 0 (len values) (λ k p q. here k (omega (arith, q)) (values_fine parts.2)) in
      (subst HasNoFault same_rows c.0, (parts.1, ((own, parts.0), tt)))

  pub function_keeps : Keeps whole answer
  function_keeps = (exactly_by whole answer typed.1 sized same_rows still_clean).keeps

-- ---- the answer, by its parts

-- each argument is there
pub all_there : (n : ℕ) (tys : List DataType) (xs : List (Option Tree)) → shapes (slots_of xs) ≡ map (λ s. Some (shape s n)) tys → AreAll xs
all_there n tys [] e = tt
all_there n [] (None ∷ xs) e = absurd (cc (e))
all_there n (s ∷ tys) (None ∷ xs) e = absurd (cc (e))
all_there n [] (Some x ∷ xs) e = absurd (cc (e))
all_there n (s ∷ tys) (Some x ∷ xs) e = let rest : shapes (slots_of xs) ≡ map (λ s. Some (shape s n)) tys = cc (e) in all_there n tys xs rest

likes_from : (m : ℕ) (xs : List (Option Tree)) (ds : List Tree) → length ds ≡ length xs → AreFirstLike m xs ds
    → AreConstantsLike m (slots_of xs) (filled_slots ds)
likes_from m [] [] l a = tt
likes_from m [] (d ∷ ds) l a = absurd (omega (arith, l))
likes_from m (x ∷ xs) [] l a = absurd (omega (arith, l))
likes_from m (None ∷ xs) (d ∷ ds) l a = absurd a
likes_from m (Some x ∷ xs) (d ∷ ds) l a = (a.0, likes_from m xs ds (omega (arith, l)) a.1)

values_from : (i : ℕ) (codes values c : Tree) (xs : List (Option Tree)) (ds : List Tree) → c ≡ dict_of codes values → HoldsAt i c (slots_of xs)
    → length ds ≡ length xs → AreFirstOfValues i values xs ds → AreOfValues i codes values (slots_of xs) (filled_slots ds)
values_from i codes values c [] ds e h l a = absurd h
values_from i codes values c (x ∷ xs) [] e h l a = absurd (omega (arith, l))
values_from zero codes values c (None ∷ xs) (d ∷ ds) e h l a = absurd a
values_from zero codes values c (Some x ∷ xs) (d ∷ ds) e h l a = (h ∙ e, a.0, likes_from (len values) xs ds (omega (arith, l)) a.1)
values_from (suc i) codes values c (None ∷ xs) (d ∷ ds) e h l a = absurd a
values_from (suc i) codes values c (Some x ∷ xs) (d ∷ ds) e h l a = (a.0, values_from i codes values c xs ds e h (omega (arith, l)) a.1)

likes_to : (m : ℕ) (xs : List (Option Tree)) (ds : Slots) → AreConstantsLike m (slots_of xs) ds → (l : List Tree) × ((length l ≡ length xs) × AreFirstLike m xs l)
likes_to m [] ds a = ([], (refl, tt))
likes_to m (None ∷ xs) ds a = absurd a
likes_to m (Some x ∷ xs) no_slots a = absurd a
likes_to m (Some x ∷ xs) (absent ds) a = absurd a
likes_to m (Some x ∷ xs) (slot d ds) a = let r = likes_to m xs ds a.1 in (d ∷ r.0, (ap suc r.1.0, (a.0, r.1.1)))

values_to : (i : ℕ) (codes values : Tree) (xs : List (Option Tree)) (ds : Slots) → AreOfValues i codes values (slots_of xs) ds
    → (l : List Tree) × ((length l ≡ length xs) × AreFirstOfValues i values xs l)
values_to zero codes values [] ds a = absurd a
values_to zero codes values (None ∷ xs) ds a = absurd a
values_to zero codes values (Some x ∷ xs) no_slots a = absurd a
values_to zero codes values (Some x ∷ xs) (absent ds) a = absurd a
values_to zero codes values (Some x ∷ xs) (slot d ds) a = let r = likes_to (len values) xs ds a.2 in (d ∷ r.0, (ap suc r.1.0, (a.1, r.1.1)))
values_to (suc i) codes values [] ds a = absurd a
values_to (suc i) codes values (None ∷ xs) ds a = absurd a
values_to (suc i) codes values (Some x ∷ xs) no_slots a = absurd a
values_to (suc i) codes values (Some x ∷ xs) (absent ds) a = absurd a
values_to (suc i) codes values (Some x ∷ xs) (slot d ds) a = let r = values_to i codes values xs ds a.1 in (d ∷ r.0, (ap suc r.1.0, (a.0, r.1.1)))

held_is : (i : ℕ) (codes values c : Tree) (cs ds : Slots) → AreOfValues i codes values cs ds → HoldsAt i c cs → c ≡ dict_of codes values
held_is zero codes values c no_slots ds a h = absurd a
held_is zero codes values c (absent cs) ds a h = absurd a
held_is zero codes values c (slot x cs) no_slots a h = absurd a
held_is zero codes values c (slot x cs) (absent ds) a h = absurd a
held_is zero codes values c (slot x cs) (slot d ds) a h = sym h ∙ a.0
held_is (suc i) codes values c no_slots ds a h = absurd a
held_is (suc i) codes values c (absent cs) ds a h = absurd a
held_is (suc i) codes values c (slot x cs) no_slots a h = absurd a
held_is (suc i) codes values c (slot x cs) (absent ds) a h = absurd a
held_is (suc i) codes values c (slot x cs) (slot d ds) a h = held_is i codes values c cs ds a.1 h

long_of : (m : ℕ) (tys : List DataType) → all_long m (map (λ s. Some (shape s m)) tys) ≡ true
long_of m [] = refl
long_of m (s ∷ tys) = ap (λ b. b && all_long m (map (λ s. Some (shape s m)) tys)) ((unsigned_Decides m m).1 refl) ∙ long_of m tys

-- p applies f to xs, and holds c, the dictionary, in slot i
module _ (i : ℕ) (c p codes values : Tree) (f : ScalarFnRef) (xs : List (Option Tree)) (is : p ≡ node (dtype p) (len p) (enc.function f) (slots_of xs))
    (well : IsWell p) (held : HasSlot i c p) (passes : applies passes_dict (datum p) ≡ true) (dictionary : c ≡ dict_of codes values) where
  h : passes_dict f ≡ true
  h = ap (λ t. applies passes_dict (datum t)) (sym is) ∙ passes

  there : HoldsAt i c (slots_of xs)
  there = subst (HasSlot i c) is held

  w : IsWell (node (dtype p) (len p) (enc.function f) (slots_of xs))
  w = subst IsWell is well

  by_row : (k : ℕ) (x u : Tree) (os : List ℕ) → x ≡ node (dtype p) (len p) (enc.function f) (slots_of xs) → HoldsAt k c (slots_of xs)
      → ((ds : List Tree) → length ds ≡ length xs → AreFirstOfValues k values xs ds → ⊥) → Builtin DictFn k x u os → ⊥
  by_row k x u os e at none (function_of_dict ty s n j g codes' values' cs ds q a r) =
      let same : slots_of xs ≡ cs = cc (e) in
      let here : AreOfValues k codes' values' (slots_of xs) ds = subst (λ ss. AreOfValues k codes' values' ss ds) (sym same) a in
      let dict : dict_of codes values ≡ dict_of codes' values' = sym dictionary ∙ held_is k codes' values' c (slots_of xs) ds here at in
      let one : values ≡ values' = cc (dict) in
      let l = values_to k codes' values' xs ds here in
      none l.0 l.1.0 (subst (λ v. AreFirstOfValues k v xs l.0) (sym one) l.1.1)

  pub functions_none : ((ds : List Tree) → length ds ≡ length xs → AreFirstOfValues i values xs ds → ⊥) → BuiltinAnswers DictFn i p (Ok None)
  functions_none none = none_given i p (λ u os b. by_row i p u os is there none b)

  module _ (ts : List Tree) (count : length ts ≡ length xs) (first : AreFirstOfValues i values xs ts) where
    a : AreOfValues i codes values (slots_of xs) (filled_slots ts)
    a = values_from i codes values c xs ts dictionary there count first

    abbrev r : DataType
    r = type.bool (union_by (types_in (shapes (filled_slots ts))))

    known : return_type f (map dtype ts) ≡ Some r
    known = ap (return_type f) (sym (filled_types ts)) ∙ (typed (dtype p) (len p) i f codes values (slots_of xs) (filled_slots ts) h a w).0

    counted : length ts ≡ arity f
    counted = sym (length-map ts dtype) ∙ (meaning f).taken (map dtype ts) r known

    all_sized : all_of_len (len values) ts ≡ true
    all_sized =
        sym (filled_long (len values) ts)
        ∙ ap (all_long (len values)) (call_shaped (dtype p) (len p) i f codes values (slots_of xs) (filled_slots ts) h a w)
        ∙ long_of (len values) (types_in (shapes (filled_slots ts)))

    pub functions_unrefused : call_refusal f ts (len values) ≡ None
    functions_unrefused =
        none_refused _ _ (none_unless _ _ ((unsigned_Decides (length ts) (arity f)).1 counted))
        (none_refused _ _ (none_unless _ _ all_sized) (ap row_refusal known))

    pub functions_answer : (call : Tree) (raw : RawNode) → called f ts (len values) ≡ Some call → raw.tree ≡ dict_of codes call
        → raw.optimize.items ≡ 1 ∷ [] → BuiltinAnswers DictFn i p (Ok (Some raw))
    functions_answer call raw made tree marked =
        let made_is : Some (node r (len values) (enc.function f) (filled_slots ts)) ≡ Some call =
        ap (option_map (λ ty. call_of f ty (len values) ts)) (sym known) ∙ made in
        let call_is : node r (len values) (enc.function f) (filled_slots ts) ≡ call = cc (made_is) in
        let u = dict_of codes (node r (len values) (enc.function f) (filled_slots ts)) in
        let shown : raw.tree ≡ u = tree ∙ ap (dict_of codes) (sym call_is) in
        let row : Builtin DictFn i (node (dtype p) (len p) (enc.function f) (slots_of xs)) u (1 ∷ []) =
        function_of_dict (dtype p) r (len p) i f codes values (slots_of xs) (filled_slots ts) h a
        (typed (dtype p) (len p) i f codes values (slots_of xs) (filled_slots ts) h a w).0 in
        record {
          answer =
              subst (λ y. Builtin DictFn i p y raw.optimize.items) (sym shown) (subst (Builtin DictFn i p u) (sym marked)
              (subst (λ y. Builtin DictFn i y u (1 ∷ [])) (sym is) row));
          stands = (
            subst (Keeps p) (sym shown) (subst (λ y. Keeps y u) (sym is)
                (function_keeps (dtype p) (len p) i f codes values (slots_of xs) (filled_slots ts) h a w)),
            subst (λ y. ArePresent raw.optimize.items y) (sym shown) (subst (λ l. ArePresent l u) (sym marked) (tt, tt)),
          );
          err = tt;
        }
