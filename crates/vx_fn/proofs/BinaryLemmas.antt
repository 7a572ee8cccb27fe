-- The types of operators' results.
use Rattle.std.proofs.Common.{◌≡◌, Bool, true, false, if◌then◌else◌, refl, ap, sym, ◌∙◌}
use Rattle.std.proofs.lemmas.Bool.{false≢true}
use Rattle.std.proofs.lemmas.Option.{none-some, same_Some}
use Rattle.std.specs.Prelude.{List, [], ◌∷◌, ℤ, Option, Some, None, option_map, IfSome}
use Rattle.vx_value.specs.Types as type
use Rattle.vx_value.specs.Types.{DataType, nullability_of, is_nullable}
use Rattle.vx_value.specs.Nullabilities.{with_nullability, union, same_but_nullability}
use Rattle.vx_value.specs.Values as value
use Rattle.vx_value.specs.Values.{Value, null}
use Rattle.vx_value.specs.Cell as cell
use Rattle.vx_value.specs.Cell.{Cell}
use Rattle.vx_value.specs.Casts.{sized}
use Rattle.vx_value.specs.IsOf.{is_of}
use Rattle.vx_value.specs.Parts.{boolean_in}
use Rattle.vx_value.specs.View.{value_of}
use Rattle.vx_value.specs.declared.scalar.ScalarValue.{ScalarValue}
use Rattle.vx_value.specs.declared.dtype.Nullability.{Nullability}
use Rattle.vx_value.specs.declared.dtype.Nullability.TheVariants.{NonNullable}
use Rattle.vx_fn.specs.Meanings.{widened, null_through}
use Rattle.vx_fn.specs.Apply.{apply}
use Rattle.vx_fn.specs.Binary.{is_logical, logical_type, operator_type, binary_type, decided, operated, null_rule, binary}
use Rattle.vx_fn.specs.Comparisons.{is_ordered, ordered_type}
use Rattle.vx_fn.specs.Arithmetic.{summed_type, multiplied_type, number, calculated_by}
use Rattle.vx_fn.specs.Logic.{kleene_and, kleene_or, truth}
use Rattle.vx_fn.specs.declared.function.Operator.{Operator}
use Rattle.vx_fn.specs.declared.function.Operator.TheVariants as operator
use Rattle.vx_fn.specs.declared.function.ScalarFnRef.TheVariants as function
use Rattle.vx_fn.proofs.MeaningsLemmas.{widened_twice, nullable_by_argument, nullable_by_second, union_with_plain, past_value}
use Rattle.vx_fn.proofs.LogicLemmas.{Knows, joined_typed, and_knows, or_knows, and_commutes, or_commutes, truth_back}

-- two arguments of one type
pub of_one_type : (op : Operator) (s t : DataType) → same_but_nullability s t ≡ true → binary_type op s t ≡ operator_type op s
of_one_type op s t e = ap (λ b. if b then operator_type op s else None) e

-- no operator makes its result nullable: a line for each
abbrev IsPlain : Option DataType → Type 0
IsPlain o = IfSome o (λ r. nullability_of r ≡ NonNullable)

plain_ordered : (s : DataType) → IsPlain (ordered_type s)
plain_ordered s = by_test (is_ordered s)
  where
    by_test : (b : Bool) → IsPlain (if b then Some (type.bool NonNullable) else None)
    by_test true = refl
    by_test false = tt

plain_summed : (s : DataType) → IsPlain (summed_type s)
plain_summed (type.primitive p n) = refl
plain_summed (type.decimal p k n) = refl
plain_summed _ = tt

plain_multiplied : (s : DataType) → IsPlain (multiplied_type s)
plain_multiplied (type.primitive p n) = refl
plain_multiplied _ = tt

plain_logical : (s : DataType) → IsPlain (logical_type s)
plain_logical (type.bool n) = refl
plain_logical _ = tt

plain_result : (op : Operator) (s : DataType) → IsPlain (operator_type op s)
plain_result operator.Eq s = refl
plain_result operator.NotEq s = refl
plain_result operator.Gt s = plain_ordered s
plain_result operator.Gte s = plain_ordered s
plain_result operator.Lt s = plain_ordered s
plain_result operator.Lte s = plain_ordered s
plain_result operator.Add s = plain_summed s
plain_result operator.Sub s = plain_summed s
plain_result operator.Mul s = plain_multiplied s
plain_result operator.Div s = plain_multiplied s
plain_result operator.And s = plain_logical s
plain_result operator.Or s = plain_logical s

-- so it is nullable exactly if an argument is
plain_widened : (s t : DataType) (o : Option DataType) → IsPlain o
    → widened s (widened t o) ≡ option_map (with_nullability (union (nullability_of s) (nullability_of t))) o
plain_widened s t None plain = refl
plain_widened s t (Some r) plain = ap Some (widened_twice s t r plain)

pub result_type : (op : Operator) (s t : DataType) → same_but_nullability s t ≡ true
    → (binary op).types (s ∷ t ∷ []) ≡ option_map (with_nullability (union (nullability_of s) (nullability_of t))) (operator_type op s)
result_type op s t e = ap (λ o. widened s (widened t o)) (of_one_type op s t e) ∙ plain_widened s t (operator_type op s) (plain_result op s)

-- and has null if one of them is null
pub null_first : (op : Operator) (s t ty : DataType) → is_of s null ≡ true → (binary op).types (s ∷ t ∷ []) ≡ Some ty → is_of ty null ≡ true
null_first op s t ty h e = nullable_by_argument s (widened t (binary_type op s t)) ty h e

pub null_second : (op : Operator) (s t ty : DataType) → is_of t null ≡ true → (binary op).types (s ∷ t ∷ []) ≡ Some ty → is_of ty null ≡ true
null_second op s t ty h e = nullable_by_second s t (binary_type op s t) ty h e

-- where no argument is null, the result is the operator's
pub of_values : (op : Operator) (tys : List DataType) (ty : DataType) (x y : ScalarValue) → is_logical op ≡ false
    → (binary op).value tys ty (value_of x ∷ value_of y ∷ []) ≡ operated op ty (value_of x) (value_of y)
of_values op tys ty x y l =
    let o = operated op ty (value_of x) (value_of y) in
    ap (λ b. null_rule b (value_of x) (null_rule b (value_of y) o)) l ∙ past_value x (null_through (value_of y) o) ∙ past_value y o

-- ---- logic

-- its arguments and its result are booleans
record AreTruths (s t ty : DataType) : Type 0 where
  first : Nullability
  second : Nullability
  first_is : s ≡ type.bool first
  second_is : t ≡ type.bool second
  result_is : type.bool (union first second) ≡ ty

logical_truths : (b : Bool) (s t ty : DataType) → b ≡ same_but_nullability s t → widened s (widened t (if b then logical_type s else None)) ≡ Some ty
    → AreTruths s t ty
logical_truths false s t ty same e = absurd (none-some ty e)
logical_truths true (type.bool m) (type.bool n) ty same e =
    let plain : type.bool (union m n) ≡ type.bool (union m (union n NonNullable)) =
    ap (λ k. type.bool (union m k)) (sym (union_with_plain n NonNullable refl)) in
    record { first = m; second = n; first_is = refl; second_is = refl; result_is = plain ∙ same_Some _ ty e }
logical_truths true (type.bool m) _ ty same e = absurd (false≢true (sym same))
logical_truths true _ t ty same e = absurd (none-some ty e)

truths : (op : Operator) (s t ty : DataType) → is_logical op ≡ true → (binary op).types (s ∷ t ∷ []) ≡ Some ty → AreTruths s t ty
truths operator.And s t ty h e = logical_truths (same_but_nullability s t) s t ty refl e
truths operator.Or s t ty h e = logical_truths (same_but_nullability s t) s t ty refl e
truths _ s t ty h e = absurd (false≢true h)

-- so the result's type has the joined value
typed_join : (join : Option Bool → Option Bool → Option Bool) → Knows join → (s t ty : DataType) (v w : Value) → is_of s v ≡ true → is_of t w ≡ true
    → AreTruths s t ty
    → is_of ty (truth (join (boolean_in v) (boolean_in w))) ≡ true
typed_join join knows s t ty v w h k found =
    ap (λ u. is_of u (truth (join (boolean_in v) (boolean_in w)))) (sym found.result_is)
    ∙ joined_typed join found.first found.second v w knows (ap (λ u. is_of u v) (sym found.first_is) ∙ h) (ap (λ u. is_of u w) (sym found.second_is) ∙ k)

pub logical_result : (op : Operator) (s t ty : DataType) (v w : Value) (o : Option Bool) → is_logical op ≡ true → is_of s v ≡ true → is_of t w ≡ true
    → (op ≡ operator.And → o ≡ kleene_and (boolean_in v) (boolean_in w))
    → (op ≡ operator.Or → o ≡ kleene_or (boolean_in v) (boolean_in w))
    → (binary op).types (s ∷ t ∷ []) ≡ Some ty
    → (is_of ty (truth o) ≡ true) × ((binary op).value (s ∷ t ∷ []) ty (v ∷ w ∷ []) ≡ cell.value (truth o))
logical_result operator.And s t ty v w o l h k and or e =
    let found = truths operator.And s t ty refl e in (
      ap (λ a. is_of ty (truth a)) (and refl) ∙ typed_join kleene_and and_knows s t ty v w h k found,
      ap (λ u. operated operator.And u v w) (sym found.result_is) ∙ ap (λ a. cell.value (truth a)) (sym (and refl)),
    )
logical_result operator.Or s t ty v w o l h k and or e =
    let found = truths operator.Or s t ty refl e in (
      ap (λ a. is_of ty (truth a)) (or refl) ∙ typed_join kleene_or or_knows s t ty v w h k found,
      ap (λ u. operated operator.Or u v w) (sym found.result_is) ∙ ap (λ a. cell.value (truth a)) (sym (or refl)),
    )
logical_result _ s t ty v w o l h k and or e = absurd (false≢true l)

-- ---- the logical operators commute, whatever the values and the type

decided_commutes : (op : Operator) (v w : Value) → is_logical op ≡ true → decided op v w ≡ decided op w v
decided_commutes operator.And v w l = ap (λ o. cell.value (truth o)) (and_commutes (boolean_in v) (boolean_in w))
decided_commutes operator.Or v w l = ap (λ o. cell.value (truth o)) (or_commutes (boolean_in v) (boolean_in w))
decided_commutes _ v w l = absurd (false≢true l)

no_number : (op : Operator) (fit : ℤ → Cell) (x y : ℤ) → is_logical op ≡ true → calculated_by op fit x y ≡ cell.fault
no_number operator.And fit x y l = refl
no_number operator.Or fit x y l = refl
no_number _ fit x y l = absurd (false≢true l)

operated_commutes : (op : Operator) (ty : DataType) (v w : Value) → is_logical op ≡ true → operated op ty v w ≡ operated op ty w v
operated_commutes op (type.bool n) v w l = decided_commutes op v w l
operated_commutes op (type.primitive p n) (value.integer x) (value.integer y) l = no_number op (number p) x y l ∙ sym (no_number op (number p) y x l)
operated_commutes op (type.primitive p n) (value.integer x) _ l = refl
operated_commutes op (type.primitive p n) _ (value.integer y) l = refl
operated_commutes op (type.primitive p n) _ _ l = refl
operated_commutes op (type.decimal p s n) (value.decimal x q) (value.decimal y r) l =
    no_number op (sized p s) x y l ∙ sym (no_number op (sized p s) y x l)
operated_commutes op (type.decimal p s n) (value.decimal x q) _ l = refl
operated_commutes op (type.decimal p s n) _ (value.decimal y r) l = refl
operated_commutes op (type.decimal p s n) _ _ l = refl
operated_commutes op _ v w l = refl

pub and_applied : (tys : List DataType) (ty : DataType) (c d : Cell)
    → apply (function.Binary operator.And) tys ty (c ∷ d ∷ []) ≡ apply (function.Binary operator.And) tys ty (d ∷ c ∷ [])
and_applied tys ty (cell.value v) (cell.value w) = operated_commutes operator.And ty v w refl
and_applied tys ty (cell.value v) cell.fault = refl
and_applied tys ty cell.fault (cell.value w) = refl
and_applied tys ty cell.fault cell.fault = refl

pub or_applied : (tys : List DataType) (ty : DataType) (c d : Cell)
    → apply (function.Binary operator.Or) tys ty (c ∷ d ∷ []) ≡ apply (function.Binary operator.Or) tys ty (d ∷ c ∷ [])
or_applied tys ty (cell.value v) (cell.value w) = operated_commutes operator.Or ty v w refl
or_applied tys ty (cell.value v) cell.fault = refl
or_applied tys ty cell.fault (cell.value w) = refl
or_applied tys ty cell.fault cell.fault = refl

-- and join truth values

pub and_is : (tys : List DataType) (n : Nullability) (p q : Option Bool)
    → apply (function.Binary operator.And) tys (type.bool n) (cell.value (truth p) ∷ cell.value (truth q) ∷ []) ≡ cell.value (truth (kleene_and p q))
and_is tys n p q i = cell.value (truth (kleene_and (truth_back p i) (truth_back q i)))

pub or_is : (tys : List DataType) (n : Nullability) (p q : Option Bool)
    → apply (function.Binary operator.Or) tys (type.bool n) (cell.value (truth p) ∷ cell.value (truth q) ∷ []) ≡ cell.value (truth (kleene_or p q))
or_is tys n p q i = cell.value (truth (kleene_or (truth_back p i) (truth_back q i)))
