-- What a cast gives: of the target type, the same for the type itself, and by the target alone; what 128 bits hold of the numbers in it.
use Rattle.std.proofs.Common.{◌≡◌, ◌≤◌, ◌<◌, ◌^◌, ℕ, suc, ◌+◌, ◌-◌, nat_le, Bool, true, false, ◌&&◌, ◌||◌, ◌==◌, refl, ap, sym, ◌∙◌, subst}
use Rattle.std.proofs.Common.{if◌then◌else◌, not, is_some, Option, Some, None, inl, inr}
use Rattle.std.proofs.Common.{ℤ, pos, negsuc, ◌*ℤ◌, ◌<ℤ◌, nat_abs, of_z, to_z, FitsSigned, arith, ltb-true}
use Rattle.std.specs.Prelude.{int_div, int_rem, neg_ℤ}
use Rattle.std.specs.Int.{w128}
use Rattle.std.specs.Ordering.{int_eq}
use Rattle.std.specs.Cmp.{unsigned_Decides, first_so, second_so}
use Rattle.std.specs.Cmp.Derive.{both_true}
use Rattle.std.specs.Str.{bytes_eq}
use Rattle.std.proofs.Math.Nat.{mul-one, sub_self, le_refl}
use Rattle.std.proofs.lemmas.Int.{quot_fits, fits_signed_from_abs, to_z-of_z}
use Rattle.std.proofs.lemmas.Bool.{false_from_ne_true, false≢true, or_cases, or_left, or_right, le-leb}
use Rattle.vx_value.specs.Types as type
use Rattle.vx_value.specs.Types.{DataType, Fields, nullability_of, is_nullable}
use Rattle.vx_value.specs.Nested.{bare}
use Rattle.vx_value.specs.Values as value
use Rattle.vx_value.specs.Values.{Value, Values, count}
use Rattle.vx_value.specs.Cell as cell
use Rattle.vx_value.specs.Cell.{Cell}
use Rattle.vx_value.specs.IsOf.{is_of, is_null, all_of, are_of}
use Rattle.vx_value.specs.Fits.{fits, overflow, or_else, parts_overflow, each_overflow, named_overflow, list_overflow, ListsFit}
use Rattle.vx_value.specs.Nullabilities.{with_nullability, same_but_nullability, same_but_nullability_Decides}
use Rattle.vx_value.specs.Casts.{to_integer, sized, power, lengthened, shortened, rescaled, to_decimal, to_bool, to_text, to_bytes}
use Rattle.vx_value.specs.Casts.{joined, list_cell, fields_cell, fitting, null_into, has_other_row, have_rows, has_cast}
use Rattle.vx_value.specs.Casts.{cast_by, other_cast, cast_all, cast_each, cast_value, into_by, into, all_into, each_into, cast_to}
use Rattle.vx_value.specs.Decimals.{has_digits}
use Rattle.vx_value.specs.declared.dtype.PType.{PType}
use Rattle.vx_value.specs.declared.dtype.Nullability.{Nullability}
use Rattle.vx_value.specs.declared.dtype.Nullability.TheVariants.{NonNullable}
use Rattle.vx_value.proofs.NullabilitiesLemmas.{is_of_either, fits_either, bare_once, bare_kept}
use Rattle.vx_value.proofs.TypedLemmas.{bare_typed}
use Rattle.vx_value.proofs.CastPartsLemmas.{tested, list_made, fields_made, joined_made}
use Rattle.vx_value.proofs.DecimalsLemmas.{ten_to}

-- a fault is no value
no_value : {A : Type 0} {w : Value} → cell.fault ≡ cell.value w → A
no_value e = absurd (cc)

stays : (v w : Value) → cell.value v ≡ cell.value w → v ≡ w
stays v w e = cc

-- a value that a test gives
kept_typed : (t : DataType) (v w : Value) → (if is_of t v then cell.value v else cell.fault) ≡ cell.value w → is_of t w ≡ true
kept_typed t v w e =
    let found = tested (is_of t v) (cell.value v) w e in
    ap (is_of t) (sym (stays v w found.1)) ∙ found.0

-- ---- types that aren't extensions

-- types that are the same up to nullability are stored as such types
bare_alike : (s t : DataType) → same_but_nullability s t ≡ true → same_but_nullability (bare s) (bare t) ≡ true
bare_alike s t e =
    (same_but_nullability_Decides (bare s) (bare t)).1
    (sym (bare_kept NonNullable s) ∙ ap bare ((same_but_nullability_Decides s t).0 e) ∙ bare_kept NonNullable t)

null_bare : (t : DataType) → is_of t value.null ≡ is_of (bare t) value.null
null_bare (type.extension id t) = null_bare t
null_bare type.null = refl
null_bare _ = refl

-- a value is of a type exactly if it is of what that is stored as
same_bare : (t : DataType) (v : Value) → is_of t v ≡ is_of (bare t) v
same_bare t value.null = null_bare t
same_bare t v = bare_typed t v refl

-- its lists fit alike
fits_bare : (t : DataType) (v : Value) → list_overflow (bare t) v ≡ list_overflow t v
fits_bare t v = ap (λ u. parts_overflow u v) (bare_once t)

abbrev is_bare : DataType → Bool
is_bare (type.extension id t) = false
is_bare _ = true

bare_is_bare : (t : DataType) → is_bare (bare t) ≡ true
bare_is_bare (type.extension id t) = bare_is_bare t
bare_is_bare type.null = refl
bare_is_bare _ = refl

-- ---- types that are the same up to nullability

-- such a type has the same values but for null
pub same_typed : (s t : DataType) (v : Value) → same_but_nullability s t ≡ true → is_null v ≡ false → is_of s v ≡ true → is_of t v ≡ true
same_typed s t v e there h =
    sym (is_of_either NonNullable t v there)
    ∙ ap (λ u. is_of u v) (sym ((same_but_nullability_Decides s t).0 e))
    ∙ is_of_either NonNullable s v there
    ∙ h

-- and the lists in a value fit alike
pub same_fits : (s t : DataType) (v : Value) → same_but_nullability s t ≡ true → ListsFit s v → ListsFit t v
same_fits s t v e h =
    sym (fits_either NonNullable t v) ∙ ap (λ u. list_overflow u v) (sym ((same_but_nullability_Decides s t).0 e)) ∙ fits_either NonNullable s v ∙ h

same_self : (t : DataType) → same_but_nullability t t ≡ true
same_self t = (same_but_nullability_Decides t t).1 refl

-- so it is where the types that they are stored as are the same up to nullability
alike_typed : (s t : DataType) (v : Value) → same_but_nullability (bare s) (bare t) ≡ true → is_null v ≡ false → is_of s v ≡ true → is_of t v ≡ true
alike_typed s t v e there h = same_bare t v ∙ same_typed (bare s) (bare t) v e there (sym (same_bare s v) ∙ h)

alike_fits : (s t : DataType) (v : Value) → same_but_nullability (bare s) (bare t) ≡ true → ListsFit s v → ListsFit t v
alike_fits s t v e h = sym (fits_bare t v) ∙ same_fits (bare s) (bare t) v e (fits_bare s v ∙ h)

-- ---- a result is of the target type: a line for each kind of result

integer_typed : (p : PType) (n : Nullability) (v w : Value) → to_integer p v ≡ cell.value w → is_of (type.primitive p n) w ≡ true
integer_typed p n (value.integer z) w e = kept_typed (type.primitive p n) (value.integer z) w e
integer_typed p n _ w e = no_value e

sized_typed : (p s : ℕ) (n : Nullability) (z : ℤ) (w : Value) → sized p s z ≡ cell.value w → is_of (type.decimal p s n) w ≡ true
sized_typed p s n z w e =
    let found = tested (has_digits p z) (cell.value (value.decimal z s)) w e in
    ap (is_of (type.decimal p s n)) (sym (stays (value.decimal z s) w found.1)) ∙ both_true ((unsigned_Decides s s).1 refl) found.0

shortened_typed : (p s : ℕ) (n : Nullability) (z : ℤ) (k : ℕ) (w : Value) → shortened p s z k ≡ cell.value w → is_of (type.decimal p s n) w ≡ true
shortened_typed p s n z k w e = by_test (int_eq (int_rem z (power k)) (pos 0)) e
  where
    by_test : (b : Bool) → (if b then sized p s (int_div z (power k)) else cell.fault) ≡ cell.value w → is_of (type.decimal p s n) w ≡ true
    by_test true e = sized_typed p s n (int_div z (power k)) w e
    by_test false e = no_value e

rescaled_typed : (p s : ℕ) (n : Nullability) (z : ℤ) (r : ℕ) (w : Value) → rescaled p s z r ≡ cell.value w → is_of (type.decimal p s n) w ≡ true
rescaled_typed p s n z r w e = by_test (nat_le r s) e
  where
    by_test : (b : Bool) → (if b then lengthened p s z (s - r) else shortened p s z (r - s)) ≡ cell.value w → is_of (type.decimal p s n) w ≡ true
    by_test true e = sized_typed p s n (z *ℤ power (s - r)) w e
    by_test false e = shortened_typed p s n z (r - s) w e

decimal_typed : (p s : ℕ) (n : Nullability) (v w : Value) → to_decimal p s v ≡ cell.value w → is_of (type.decimal p s n) w ≡ true
decimal_typed p s n (value.integer z) w e = rescaled_typed p s n z 0 w e
decimal_typed p s n (value.decimal z r) w e = rescaled_typed p s n z r w e
decimal_typed p s n _ w e = no_value e

bool_typed : (n : Nullability) (v w : Value) → to_bool v ≡ cell.value w → is_of (type.bool n) w ≡ true
bool_typed n (value.boolean b) w e = ap (is_of (type.bool n)) (sym (stays (value.boolean b) w e))
bool_typed n _ w e = no_value e

text_typed : (n : Nullability) (v w : Value) → to_text v ≡ cell.value w → is_of (type.utf8 n) w ≡ true
text_typed n (value.bytes bs) w e = kept_typed (type.utf8 n) (value.bytes bs) w e
text_typed n _ w e = no_value e

bytes_typed : (n : Nullability) (v w : Value) → to_bytes v ≡ cell.value w → is_of (type.binary n) w ≡ true
bytes_typed n (value.bytes bs) w e = ap (is_of (type.binary n)) (sym (stays (value.bytes bs) w e))
bytes_typed n _ w e = no_value e

-- null, of a nullable type
null_typed : (t : DataType) (w : Value) → null_into t ≡ cell.value w → is_of t w ≡ true
null_typed t w e =
    let found = tested (is_nullable (nullability_of t)) (cell.value value.null) w e in
    ap (is_of t) (sym (stays value.null w found.1)) ∙ found.0

some_values : (vs ws : Values) → Some vs ≡ Some ws → vs ≡ ws
some_values vs ws e = cc

no_values_made : {A : Type 0} {ws : Values} → None ≡ Some ws → A
no_values_made e = absurd (cc)

into_by_typed : (t : DataType) (v w : Value) (other : Cell) → (other ≡ cell.value w → is_of (bare t) w ≡ true)
    → into_by t v other ≡ cell.value w → is_of t w ≡ true
into_by_typed t value.null w other given e = null_typed t w e
into_by_typed t v w other given e = same_bare t w ∙ given e

all_into_count : (t : DataType) (vs ws : Values) → all_into t vs ≡ Some ws → count ws ≡ count vs
all_into_count t value.no_values ws e = ap count (sym (some_values value.no_values ws e))
all_into_count t (value.item v vs) ws e =
    let new = joined_made (cast_to t v) (all_into t vs) ws e in
    ap count (sym new.4) ∙ ap (λ n. n + 1) (all_into_count t vs new.1 new.3)

-- what a cast to a type gives is of the type: a line for each
mutual
  pub into_typed : (t : DataType) (v w : Value) → into t v ≡ cell.value w → is_of t w ≡ true
  into_typed (type.bool n) v w e = bool_typed n v w e
  into_typed (type.primitive p n) v w e = integer_typed p n v w e
  into_typed (type.decimal p s n) v w e = decimal_typed p s n v w e
  into_typed (type.utf8 n) v w e = text_typed n v w e
  into_typed (type.binary n) v w e = bytes_typed n v w e
  into_typed (type.list t n) (value.list vs) w e =
      let found = tested (fits t (count vs)) (list_cell (all_into t vs)) w e in
      let new = list_made (all_into t vs) w found.1 in
      ap (is_of (type.list t n)) (sym new.2) ∙ all_into_typed t vs new.0 new.1
  into_typed (type.fixed_size_list t k n) (value.list vs) w e =
      let found = tested (count vs == k) (list_cell (all_into t vs)) w e in
      let new = list_made (all_into t vs) w found.1 in
      ap (is_of (type.fixed_size_list t k n)) (sym new.2)
      ∙ both_true (ap (λ m. m == k) (all_into_count t vs new.0 new.1) ∙ found.0) (all_into_typed t vs new.0 new.1)
  into_typed (type.map k t n) (value.list vs) w e = kept_typed (type.map k t n) (value.list vs) w e
  into_typed (type.struct fs n) (value.fields vs) w e =
      let new = fields_made (each_into fs vs) w e in
      ap (is_of (type.struct fs n)) (sym new.2) ∙ each_into_typed fs vs new.0 new.1
  into_typed (type.union us n) (value.tagged tag v) w e = kept_typed (type.union us n) (value.tagged tag v) w e
  into_typed (type.variant n) (value.variant u v) w e = kept_typed (type.variant n) (value.variant u v) w e
  into_typed _ _ w e = no_value e

  all_into_typed : (t : DataType) (vs ws : Values) → all_into t vs ≡ Some ws → all_of t ws ≡ true
  all_into_typed t value.no_values ws e = ap (all_of t) (sym (some_values value.no_values ws e))
  all_into_typed t (value.item v vs) ws e =
      let new = joined_made (cast_to t v) (all_into t vs) ws e in
      ap (all_of t) (sym new.4)
      ∙ both_true (into_by_typed t v new.0 (into (bare t) v) (into_typed (bare t) v new.0) new.2) (all_into_typed t vs new.1 new.3)

  each_into_typed : (fs : Fields) (vs ws : Values) → each_into fs vs ≡ Some ws → are_of fs ws ≡ true
  each_into_typed type.no_fields value.no_values ws e = ap (are_of type.no_fields) (sym (some_values value.no_values ws e))
  each_into_typed (type.field name t fs) (value.item v vs) ws e =
      let new = joined_made (cast_to t v) (each_into fs vs) ws e in
      ap (are_of (type.field name t fs)) (sym new.4)
      ∙ both_true (into_by_typed t v new.0 (into (bare t) v) (into_typed (bare t) v new.0) new.2) (each_into_typed fs vs new.1 new.3)
  each_into_typed _ _ ws e = no_values_made e

-- ---- so is what a cast between two types gives

pub cast_to_typed : (t : DataType) (v w : Value) → cast_to t v ≡ cell.value w → is_of t w ≡ true
cast_to_typed t v w e = into_by_typed t v w (into (bare t) v) (into_typed (bare t) v w) e

-- what a cast gives has a property that null has if it is of the target type, a value of the same type, and what the other rows give
test_either : (b : Bool) (v w : Value) (other : Cell) (P : Value → Type 0) → (b ≡ true → P v) → (other ≡ cell.value w → P w)
    → (if b then cell.value v else other) ≡ cell.value w → P w
test_either true v w other P same given e = subst P (stays v w e) (same refl)
test_either false v w other P same given e = given e

by_either : (s t : DataType) (v w : Value) (other : Cell) (P : Value → Type 0)
    → (null_into t ≡ cell.value w → P w)
    → (is_null v ≡ false → same_but_nullability (bare s) (bare t) ≡ true → P v)
    → (other ≡ cell.value w → P w)
    → cast_by s t v other ≡ cell.value w
    → P w
by_either s t value.null w other P none same given e = none e
by_either s t v w other P none same given e = test_either (same_but_nullability (bare s) (bare t)) v w other P (same refl) given e

by_typed : (s t : DataType) (v w : Value) (other : Cell) → is_of s v ≡ true → (other ≡ cell.value w → is_of (bare t) w ≡ true)
    → cast_by s t v other ≡ cell.value w → is_of t w ≡ true
by_typed s t v w other h given =
    by_either s t v w other (λ u. is_of t u ≡ true) (null_typed t w) (λ there same. alike_typed s t v same there h) (λ e. same_bare t w ∙ given e)

all_count : (s t : DataType) (vs ws : Values) → cast_all s t vs ≡ Some ws → count ws ≡ count vs
all_count s t value.no_values ws e = ap count (sym (some_values value.no_values ws e))
all_count s t (value.item v vs) ws e =
    let new = joined_made (cast_value s t v) (cast_all s t vs) ws e in
    ap count (sym new.4) ∙ ap (λ n. n + 1) (all_count s t vs new.1 new.3)

mutual
  other_typed : (s t : DataType) (v w : Value) → is_of s v ≡ true → other_cast s t v ≡ cell.value w → is_of t w ≡ true
  other_typed (type.primitive p m) (type.primitive q n) v w h e = integer_typed q n v w e
  other_typed (type.primitive p m) (type.decimal q s n) v w h e = decimal_typed q s n v w e
  other_typed (type.decimal p r m) (type.decimal q s n) v w h e = decimal_typed q s n v w e
  other_typed (type.utf8 m) (type.binary n) v w h e = bytes_typed n v w e
  other_typed (type.binary m) (type.utf8 n) v w h e = text_typed n v w e
  other_typed (type.list s m) (type.list t n) (value.list vs) w h e =
      let found = tested (fits t (count vs)) (list_cell (cast_all s t vs)) w e in
      let new = list_made (cast_all s t vs) w found.1 in
      ap (is_of (type.list t n)) (sym new.2) ∙ all_typed s t vs new.0 h new.1
  other_typed (type.fixed_size_list s j m) (type.fixed_size_list t k n) (value.list vs) w h e =
      let found = tested (count vs == k) (list_cell (cast_all s t vs)) w e in
      let new = list_made (cast_all s t vs) w found.1 in
      ap (is_of (type.fixed_size_list t k n)) (sym new.2)
      ∙ both_true (ap (λ m. m == k) (all_count s t vs new.0 new.1) ∙ found.0)
      (all_typed s t vs new.0 (second_so (count vs == j) (all_of s vs) h) new.1)
  other_typed (type.struct fs m) (type.struct gs n) (value.fields vs) w h e =
      let new = fields_made (cast_each fs gs vs) w e in
      ap (is_of (type.struct gs n)) (sym new.2) ∙ each_typed fs gs vs new.0 h new.1
  other_typed _ _ _ w h e = no_value e

  all_typed : (s t : DataType) (vs ws : Values) → all_of s vs ≡ true → cast_all s t vs ≡ Some ws → all_of t ws ≡ true
  all_typed s t value.no_values ws h e = ap (all_of t) (sym (some_values value.no_values ws e))
  all_typed s t (value.item v vs) ws h e =
      let new = joined_made (cast_value s t v) (cast_all s t vs) ws e in
      let here : is_of s v ≡ true = first_so (is_of s v) (all_of s vs) h in
      ap (all_of t) (sym new.4)
      ∙ both_true (by_typed s t v new.0 (other_cast (bare s) (bare t) v) here
      (other_typed (bare s) (bare t) v new.0 (sym (same_bare s v) ∙ here)) new.2)
      (all_typed s t vs new.1 (second_so (is_of s v) (all_of s vs) h) new.3)

  each_typed : (fs gs : Fields) (vs ws : Values) → are_of fs vs ≡ true → cast_each fs gs vs ≡ Some ws → are_of gs ws ≡ true
  each_typed type.no_fields type.no_fields value.no_values ws h e = ap (are_of type.no_fields) (sym (some_values value.no_values ws e))
  each_typed (type.field i s fs) (type.field j t gs) (value.item v vs) ws h e =
      let new = joined_made (cast_value s t v) (cast_each fs gs vs) ws e in
      let here : is_of s v ≡ true = first_so (is_of s v) (are_of fs vs) h in
      ap (are_of (type.field j t gs)) (sym new.4)
      ∙ both_true (by_typed s t v new.0 (other_cast (bare s) (bare t) v) here
      (other_typed (bare s) (bare t) v new.0 (sym (same_bare s v) ∙ here)) new.2)
      (each_typed fs gs vs new.1 (second_so (is_of s v) (are_of fs vs) h) new.3)
  each_typed _ _ _ ws h e = no_values_made e

pub cast_typed : (s t : DataType) (v w : Value) → is_of s v ≡ true → cast_value s t v ≡ cell.value w → is_of t w ≡ true
cast_typed s t v w h = by_typed s t v w (other_cast (bare s) (bare t) v) h (other_typed (bare s) (bare t) v w (sym (same_bare s v) ∙ h))

-- ---- the lists in it fit

first_none : {A : Type 0} (o p : Option A) → or_else o p ≡ None → o ≡ None
first_none None p h = refl
first_none (Some x) p h = h

second_none : {A : Type 0} (o p : Option A) → or_else o p ≡ None → p ≡ None
second_none None p h = h
second_none (Some x) p h = absurd (cc)

both_none : {A : Type 0} (o p : Option A) → o ≡ None → p ≡ None → or_else o p ≡ None
both_none o p a b = ap (λ x. or_else x p) a ∙ b

none_found : {A : Type 0} (o : Option A) → not (is_some o) ≡ true → o ≡ None
none_found None h = refl
none_found (Some x) h = absurd (false≢true h)

none_over : (t : DataType) → parts_overflow t value.null ≡ None
none_over type.null = refl
none_over _ = refl

null_fits : (t : DataType) (w : Value) → null_into t ≡ cell.value w → ListsFit t w
null_fits t w e =
    let found = tested (is_nullable (nullability_of t)) (cell.value value.null) w e in
    ap (list_overflow t) (sym (stays value.null w found.1)) ∙ none_over (bare t)

by_fits : (s t : DataType) (v w : Value) (other : Cell) → ListsFit s v → (other ≡ cell.value w → ListsFit t w)
    → cast_by s t v other ≡ cell.value w → ListsFit t w
by_fits s t v w other h given = by_either s t v w other (ListsFit t) (null_fits t w) (λ there same. alike_fits s t v same h) given

mutual
  other_fits : (s t : DataType) (v w : Value) → parts_overflow s v ≡ None → other_cast s t v ≡ cell.value w → parts_overflow t w ≡ None
  other_fits (type.primitive p m) (type.primitive q n) v w h e = refl
  other_fits (type.primitive p m) (type.decimal q s n) v w h e = refl
  other_fits (type.decimal p r m) (type.decimal q s n) v w h e = refl
  other_fits (type.utf8 m) (type.binary n) v w h e = refl
  other_fits (type.binary m) (type.utf8 n) v w h e = refl
  other_fits (type.list s m) (type.list t n) (value.list vs) w h e =
      let found = tested (fits t (count vs)) (list_cell (cast_all s t vs)) w e in
      let new = list_made (cast_all s t vs) w found.1 in
      ap (parts_overflow (type.list t n)) (sym new.2)
      ∙ both_none (overflow t (count new.0)) (each_overflow t new.0)
      (ap (overflow t) (all_count s t vs new.0 new.1) ∙ none_found (overflow t (count vs)) found.0)
      (all_fits s t vs new.0 (second_none (overflow s (count vs)) (each_overflow s vs) h) new.1)
  other_fits (type.fixed_size_list s j m) (type.fixed_size_list t k n) (value.list vs) w h e =
      let found = tested (count vs == k) (list_cell (cast_all s t vs)) w e in
      let new = list_made (cast_all s t vs) w found.1 in
      ap (parts_overflow (type.fixed_size_list t k n)) (sym new.2) ∙ all_fits s t vs new.0 h new.1
  other_fits (type.struct fs m) (type.struct gs n) (value.fields vs) w h e =
      let new = fields_made (cast_each fs gs vs) w e in
      ap (parts_overflow (type.struct gs n)) (sym new.2) ∙ each_fits fs gs vs new.0 h new.1
  other_fits _ _ _ w h e = no_value e

  all_fits : (s t : DataType) (vs ws : Values) → each_overflow s vs ≡ None → cast_all s t vs ≡ Some ws → each_overflow t ws ≡ None
  all_fits s t value.no_values ws h e = ap (each_overflow t) (sym (some_values value.no_values ws e))
  all_fits s t (value.item v vs) ws h e =
      let new = joined_made (cast_value s t v) (cast_all s t vs) ws e in
      let here : ListsFit s v = first_none (list_overflow s v) (each_overflow s vs) h in
      ap (each_overflow t) (sym new.4)
      ∙ both_none (list_overflow t new.0) (each_overflow t new.1)
      (by_fits s t v new.0 (other_cast (bare s) (bare t) v) here (other_fits (bare s) (bare t) v new.0 here) new.2)
      (all_fits s t vs new.1 (second_none (list_overflow s v) (each_overflow s vs) h) new.3)

  each_fits : (fs gs : Fields) (vs ws : Values) → named_overflow fs vs ≡ None → cast_each fs gs vs ≡ Some ws → named_overflow gs ws ≡ None
  each_fits type.no_fields type.no_fields value.no_values ws h e = refl
  each_fits (type.field i s fs) (type.field j t gs) (value.item v vs) ws h e =
      let new = joined_made (cast_value s t v) (cast_each fs gs vs) ws e in
      let here : ListsFit s v = first_none (list_overflow s v) (named_overflow fs vs) h in
      ap (named_overflow (type.field j t gs)) (sym new.4)
      ∙ both_none (list_overflow t new.0) (named_overflow gs new.1)
      (by_fits s t v new.0 (other_cast (bare s) (bare t) v) here (other_fits (bare s) (bare t) v new.0 here) new.2)
      (each_fits fs gs vs new.1 (second_none (list_overflow s v) (named_overflow fs vs) h) new.3)
  each_fits _ _ _ ws h e = no_values_made e

pub cast_fits : (s t : DataType) (v w : Value) → ListsFit s v → cast_value s t v ≡ cell.value w → ListsFit t w
cast_fits s t v w h = by_fits s t v w (other_cast (bare s) (bare t) v) h (other_fits (bare s) (bare t) v w h)

-- ---- to the type itself

pub cast_to_self : (t : DataType) → has_cast t t ≡ true
cast_to_self t = or_left (same_but_nullability t t) (has_other_row t (bare t)) (same_self t)

pub cast_unchanged : (t : DataType) (v : Value) → is_of t v ≡ true → cast_value t t v ≡ cell.value v
cast_unchanged t value.null h = ap (λ b. if b then cell.value value.null else cell.fault) h
cast_unchanged t v h = ap (λ b. if b then cell.value v else other_cast (bare t) (bare t) v) (same_self (bare t))

-- ---- by the target alone

-- a number of so many digits, written with no further digit
kept_scale : (p s : ℕ) (z : ℤ) → has_digits p z ≡ true → rescaled p s z s ≡ cell.value (value.decimal z s)
kept_scale p s z h =
    ap (λ b. if b then lengthened p s z (s - s) else shortened p s z (s - s)) (le-leb s s (le_refl s))
    ∙ ap (lengthened p s z) (sub_self s)
    ∙ ap (sized p s) (times_one z)
    ∙ ap (λ b. if b then cell.value (value.decimal z s) else cell.fault) h
  where
    times_one : (z : ℤ) → z *ℤ power 0 ≡ z
    times_one (pos n) = ap pos (mul-one n)
    times_one (negsuc n) = ap (λ m. neg_ℤ (pos m)) (mul-one (suc n))

kept_decimal : (p s : ℕ) (z : ℤ) (r : ℕ) → ((r == s) && has_digits p z) ≡ true → rescaled p s z r ≡ cell.value (value.decimal z r)
kept_decimal p s z r h =
    let same : r ≡ s = (unsigned_Decides r s).0 (first_so (r == s) (has_digits p z) h) in
    subst (λ x. rescaled p x z r ≡ cell.value (value.decimal z r)) same (kept_scale p r z (second_so (r == s) (has_digits p z) h))

kept_by : (t : DataType) (v : Value) (other : Cell) → is_of t v ≡ true → (is_null v ≡ false → other ≡ cell.value v) → into_by t v other ≡ cell.value v
kept_by t value.null other h given = ap (λ b. if b then cell.value value.null else cell.fault) h
kept_by t v other h given = given refl

-- a value that is of the target type stays: a line for each type
mutual
  kept_parts : (t : DataType) (v : Value) → is_bare t ≡ true → is_null v ≡ false → is_of t v ≡ true → parts_overflow t v ≡ None
      → into t v ≡ cell.value v
  kept_parts (type.extension id t) v b there h f = absurd (false≢true b)
  kept_parts t value.null b there h f = absurd (false≢true (sym there))
  kept_parts (type.bool n) (value.boolean x) b there h f = refl
  kept_parts (type.primitive p n) (value.integer z) b there h f = ap (λ x. if x then cell.value (value.integer z) else cell.fault) h
  kept_parts (type.decimal p s n) (value.decimal z r) b there h f = kept_decimal p s z r h
  kept_parts (type.utf8 n) (value.bytes bs) b there h f = ap (λ x. if x then cell.value (value.bytes bs) else cell.fault) h
  kept_parts (type.binary n) (value.bytes bs) b there h f = refl
  kept_parts (type.list t n) (value.list vs) b there h f =
      ap (λ o. fitting t (count vs) (list_cell o)) (kept_all t vs h (second_none (overflow t (count vs)) (each_overflow t vs) f))
      ∙ ap (λ o. if not (is_some o) then cell.value (value.list vs) else cell.fault) (first_none (overflow t (count vs)) (each_overflow t vs) f)
  kept_parts (type.fixed_size_list t k n) (value.list vs) b there h f =
      ap (λ o. if count vs == k then list_cell o else cell.fault) (kept_all t vs (second_so (count vs == k) (all_of t vs) h) f)
      ∙ ap (λ x. if x then cell.value (value.list vs) else cell.fault) (first_so (count vs == k) (all_of t vs) h)
  kept_parts (type.map k t n) (value.list vs) b there h f = ap (λ x. if x then cell.value (value.list vs) else cell.fault) h
  kept_parts (type.struct fs n) (value.fields vs) b there h f = ap fields_cell (kept_each fs vs h f)
  kept_parts (type.union us n) (value.tagged tag v) b there h f = ap (λ x. if x then cell.value (value.tagged tag v) else cell.fault) h
  kept_parts (type.variant n) (value.variant t v) b there h f = ap (λ x. if x then cell.value (value.variant t v) else cell.fault) h
  kept_parts _ _ b there h f = absurd (false≢true h)

  kept_all : (t : DataType) (vs : Values) → all_of t vs ≡ true → each_overflow t vs ≡ None → all_into t vs ≡ Some vs
  kept_all t value.no_values h f = refl
  kept_all t (value.item v vs) h f =
      let here : is_of t v ≡ true = first_so (is_of t v) (all_of t vs) h in
      let fit : ListsFit t v = first_none (list_overflow t v) (each_overflow t vs) f in
      ap (λ c. joined c (all_into t vs)) (kept_by t v (into (bare t) v) here
      (λ there. kept_parts (bare t) v (bare_is_bare t) there (sym (same_bare t v) ∙ here) fit))
      ∙ ap (joined (cell.value v)) (kept_all t vs (second_so (is_of t v) (all_of t vs) h) (second_none (list_overflow t v) (each_overflow t vs) f))

  kept_each : (fs : Fields) (vs : Values) → are_of fs vs ≡ true → named_overflow fs vs ≡ None → each_into fs vs ≡ Some vs
  kept_each type.no_fields value.no_values h f = refl
  kept_each (type.field name t fs) (value.item v vs) h f =
      let here : is_of t v ≡ true = first_so (is_of t v) (are_of fs vs) h in
      let fit : ListsFit t v = first_none (list_overflow t v) (named_overflow fs vs) f in
      let fit_rest : named_overflow fs vs ≡ None = second_none (list_overflow t v) (named_overflow fs vs) f in
      ap (λ c. joined c (each_into fs vs)) (kept_by t v (into (bare t) v) here
      (λ there. kept_parts (bare t) v (bare_is_bare t) there (sym (same_bare t v) ∙ here) fit))
      ∙ ap (joined (cell.value v)) (kept_each fs vs (second_so (is_of t v) (are_of fs vs) h) fit_rest)
  kept_each _ _ h f = absurd (false≢true h)

kept_value : (t : DataType) (v : Value) → is_null v ≡ false → is_of t v ≡ true → ListsFit t v → into (bare t) v ≡ cell.value v
kept_value t v there h f = kept_parts (bare t) v (bare_is_bare t) there (sym (same_bare t v) ∙ h) f

-- a cast from an extension is one from what it is stored as
row_bare : (s t : DataType) → has_other_row s (bare t) ≡ true → (same_but_nullability (bare s) (bare t) || has_other_row (bare s) (bare t)) ≡ true
row_bare (type.extension id s) t h = elim (or_cases (same_but_nullability s (bare t)) (has_other_row s (bare t)) h) [
  | inl same ↦ or_left (same_but_nullability (bare s) (bare t)) (has_other_row (bare s) (bare t))
      (subst (λ u. same_but_nullability (bare s) u ≡ true) (bare_once t) (bare_alike s (bare t) same))
  | inr other ↦ row_bare s t other
]
row_bare type.null t h = or_right (same_but_nullability type.null (bare t)) (has_other_row type.null (bare t)) h
row_bare s t h = or_right (same_but_nullability s (bare t)) (has_other_row s (bare t)) h

cast_bare : (s t : DataType) → has_cast s t ≡ true → (same_but_nullability (bare s) (bare t) || has_other_row (bare s) (bare t)) ≡ true
cast_bare s t h = elim (or_cases (same_but_nullability s t) (has_other_row s (bare t)) h) [
  | inl same ↦ or_left (same_but_nullability (bare s) (bare t)) (has_other_row (bare s) (bare t)) (bare_alike s t same)
  | inr other ↦ row_bare s t other
]

test_by_target : (b : Bool) (s t : DataType) (v : Value) (other : Cell) → b ≡ same_but_nullability (bare s) (bare t) → is_null v ≡ false
    → is_of s v ≡ true → ListsFit s v → (b || has_other_row (bare s) (bare t)) ≡ true
    → (has_other_row (bare s) (bare t) ≡ true → other ≡ into (bare t) v)
    → (if b then cell.value v else other) ≡ into (bare t) v
test_by_target true s t v other same there h f row given =
    sym (kept_value t v there (alike_typed s t v (sym same) there h) (alike_fits s t v (sym same) f))
test_by_target false s t v other same there h f row given = given row

by_target : (s t : DataType) (v : Value) (other : Cell) → is_of s v ≡ true → ListsFit s v → has_cast s t ≡ true
    → (is_null v ≡ false → has_other_row (bare s) (bare t) ≡ true → other ≡ into (bare t) v)
    → cast_by s t v other ≡ cast_to t v
by_target s t value.null other h f row given = refl
by_target s t v other h f row given =
    test_by_target (same_but_nullability (bare s) (bare t)) s t v other refl refl h f (cast_bare s t row) (given refl)

mutual
  other_by_target : (s t : DataType) (v : Value) → is_bare s ≡ true → is_null v ≡ false → is_of s v ≡ true → parts_overflow s v ≡ None
      → has_other_row s t ≡ true → other_cast s t v ≡ into t v
  other_by_target (type.extension id s) t v b there h f row = absurd (false≢true b)
  other_by_target type.null t value.null b there h f row = absurd (false≢true (sym there))
  other_by_target type.null t _ b there h f row = absurd (false≢true h)
  other_by_target (type.primitive p m) (type.primitive q n) v b there h f row = refl
  other_by_target (type.primitive p m) (type.decimal q s n) v b there h f row = refl
  other_by_target (type.decimal p r m) (type.decimal q s n) v b there h f row = refl
  other_by_target (type.utf8 m) (type.binary n) v b there h f row = refl
  other_by_target (type.binary m) (type.utf8 n) v b there h f row = refl
  other_by_target (type.list s m) (type.list t n) (value.list vs) b there h f row =
      ap (λ o. fitting t (count vs) (list_cell o)) (all_by_target s t vs h (second_none (overflow s (count vs)) (each_overflow s vs) f) row)
  other_by_target (type.list s m) (type.list t n) value.null b there h f row = absurd (false≢true (sym there))
  other_by_target (type.list s m) (type.list t n) _ b there h f row = absurd (false≢true h)
  other_by_target (type.fixed_size_list s j m) (type.fixed_size_list t k n) (value.list vs) b there h f row =
      ap (λ o. if count vs == k then list_cell o else cell.fault)
      (all_by_target s t vs (second_so (count vs == j) (all_of s vs) h) f (second_so (j == k) (has_cast s t) row))
  other_by_target (type.fixed_size_list s j m) (type.fixed_size_list t k n) value.null b there h f row = absurd (false≢true (sym there))
  other_by_target (type.fixed_size_list s j m) (type.fixed_size_list t k n) _ b there h f row = absurd (false≢true h)
  other_by_target (type.struct fs m) (type.struct gs n) (value.fields vs) b there h f row = ap fields_cell (each_by_target fs gs vs h f row)
  other_by_target (type.struct fs m) (type.struct gs n) value.null b there h f row = absurd (false≢true (sym there))
  other_by_target (type.struct fs m) (type.struct gs n) _ b there h f row = absurd (false≢true h)
  other_by_target _ _ v b there h f row = absurd (false≢true row)

  all_by_target : (s t : DataType) (vs : Values) → all_of s vs ≡ true → each_overflow s vs ≡ None → has_cast s t ≡ true
      → cast_all s t vs ≡ all_into t vs
  all_by_target s t value.no_values h f row = refl
  all_by_target s t (value.item v vs) h f row =
      let here : is_of s v ≡ true = first_so (is_of s v) (all_of s vs) h in
      let fit : ListsFit s v = first_none (list_overflow s v) (each_overflow s vs) f in
      let fit_rest : each_overflow s vs ≡ None = second_none (list_overflow s v) (each_overflow s vs) f in
      ap (λ c. joined c (cast_all s t vs)) (by_target s t v (other_cast (bare s) (bare t) v) here fit row
      (λ there other. other_by_target (bare s) (bare t) v (bare_is_bare s) there (sym (same_bare s v) ∙ here) fit other))
      ∙ ap (joined (cast_to t v)) (all_by_target s t vs (second_so (is_of s v) (all_of s vs) h) fit_rest row)

  each_by_target : (fs gs : Fields) (vs : Values) → are_of fs vs ≡ true → named_overflow fs vs ≡ None → have_rows fs gs ≡ true
      → cast_each fs gs vs ≡ each_into gs vs
  each_by_target type.no_fields type.no_fields value.no_values h f row = refl
  each_by_target (type.field i s fs) (type.field j t gs) (value.item v vs) h f row =
      let here : is_of s v ≡ true = first_so (is_of s v) (are_of fs vs) h in
      let fit : ListsFit s v = first_none (list_overflow s v) (named_overflow fs vs) f in
      let both : (bytes_eq i j && has_cast s t) ≡ true = first_so (bytes_eq i j && has_cast s t) (have_rows fs gs) row in
      let first : has_cast s t ≡ true = second_so (bytes_eq i j) (has_cast s t) both in
      let others : have_rows fs gs ≡ true = second_so (bytes_eq i j && has_cast s t) (have_rows fs gs) row in
      let fit_rest : named_overflow fs vs ≡ None = second_none (list_overflow s v) (named_overflow fs vs) f in
      ap (λ c. joined c (cast_each fs gs vs)) (by_target s t v (other_cast (bare s) (bare t) v) here fit first
      (λ there other. other_by_target (bare s) (bare t) v (bare_is_bare s) there (sym (same_bare s v) ∙ here) fit other))
      ∙ ap (joined (cast_to t v)) (each_by_target fs gs vs (second_so (is_of s v) (are_of fs vs) h) fit_rest others)
  each_by_target type.no_fields _ (value.item v vs) h f row = absurd (false≢true h)
  each_by_target (type.field i s fs) _ value.no_values h f row = absurd (false≢true h)
  each_by_target _ _ _ h f row = absurd (false≢true row)

pub cast_by_target : (s t : DataType) (v : Value) → is_of s v ≡ true → ListsFit s v → has_cast s t ≡ true → cast_value s t v ≡ cast_to t v
cast_by_target s t v h f row =
    by_target s t v (other_cast (bare s) (bare t) v) h f row
    (λ there other. other_by_target (bare s) (bare t) v (bare_is_bare s) there (sym (same_bare s v) ∙ h) f other)

-- ---- numbers of so many digits beside those that 128 bits hold

-- 128 bits hold each power of ten of at most 38 zeros
pub power_fits : (k : ℕ) → k ≤ 38 → FitsSigned w128 (power k)
power_fits k h = let most : 10 ^ k ≤ 10 ^ 38 = ten_to h in record { sfits = omega arith }

-- they hold each number of at most 38 digits
digits_fit : (p : ℕ) (z : ℤ) → p ≤ 38 → has_digits p z ≡ true → FitsSigned w128 z
digits_fit p z h e =
    let most : 10 ^ p ≤ 10 ^ 38 = ten_to h in
    let below : nat_abs z < 10 ^ p = ltb-true (nat_abs z) (10 ^ p) e in
    fits_signed_from_abs w128 z (omega arith)

no_digits : (p : ℕ) (z : ℤ) → p ≤ 38 → ¬ FitsSigned w128 z → has_digits p z ≡ false
no_digits p z h past = false_from_ne_true (has_digits p z) (λ e. past (digits_fit p z h e))

-- a number that 128 bits don't hold is of no decimal type
pub past_digits : (p s : ℕ) (z : ℤ) → p ≤ 38 → ¬ FitsSigned w128 z → sized p s z ≡ cell.fault
past_digits p s z h past = ap (λ b. if b then cell.value (value.decimal z s) else cell.fault) (no_digits p z h past)

-- dividing by a power of ten is safe
pub power_divides : (z d : ℤ) (k : ℕ) → FitsSigned w128 z → FitsSigned w128 (power k) → d ≡ power k
    → (0 < of_z w128 d) × FitsSigned w128 (int_div (to_z w128 (of_z w128 z)) (to_z w128 (of_z w128 d)))
power_divides z d k f g e =
    let least : 0 ≤ k = omega arith in
    let one : 10 ^ 0 ≤ 10 ^ k = ten_to least in
    let above : pos 0 <ℤ power k = grind arith in
    let fits : FitsSigned w128 (int_div z (power k)) = quot_fits w128 z (power k) f above in
    let some : 0 < of_z w128 (power k) = omega arith in
    let same : FitsSigned w128 (int_div (to_z w128 (of_z w128 z)) (to_z w128 (of_z w128 (power k)))) =
    simp (to_z-of_z w128 z f, to_z-of_z w128 (power k) g) fits in
    subst (λ x. (0 < of_z w128 x) × FitsSigned w128 (int_div (to_z w128 (of_z w128 z)) (to_z w128 (of_z w128 x)))) (sym e) (some, same)
