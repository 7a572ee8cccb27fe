-- The laws of equality and of the order of scalars.
use Rattle.std.specs.Prelude.{◌≡◌, ℕ, ℤ, Bool, true, false, Option, Some, None, not, ◌&&◌, if◌then◌else◌, option_map, refl}
use Rattle.std.specs.Bool.{Decides}
use Rattle.std.specs.Cmp.{IsEquivalence, IsTotalOrder, IsPartialOrder, decided, first_so, second_so, signed_Decides, unsigned_Decides}
use Rattle.std.specs.Cmp.{bool_cmp_total, int_cmp_total, nat_cmp_total, unsigned_ties, on_total, then_total, on_po, then_po, partial_order_from_total, tied_itself}
use Rattle.std.specs.Cmp.Lexicographic.{options_total, nat_list_cmp_total, bytes_decides, texts_ties}
use Rattle.std.specs.Option.{option_cmp}
use Rattle.std.specs.declared.cmp.Ordering.{Ordering}
use Rattle.std.specs.declared.cmp.Ordering.TheVariants.{Less, Equal, Greater}
use Rattle.std.specs.Ordering.{bool_cmp, int_cmp, nat_cmp, is_eq, ordering_reverse, ordering_then, on, then_cmp, partial_ordering_then}
use Rattle.std.proofs.Common.{ap, sym, ◌∙◌, subst}
use Rattle.vx_value.specs.Types.{DataType, same_type, same_type_Decides}
use Rattle.vx_value.specs.Values as value
use Rattle.vx_value.specs.Values.{Value, Values}
use Rattle.vx_value.specs.Typed.{Typed}
use Rattle.vx_value.specs.Bytes.{bytes_cmp}
use Rattle.vx_value.specs.Parts.{boolean_in, integer_in, decimal_in, bytes_in}
use Rattle.vx_value.specs.Order.{decimal_cmp, value_kind, value_cmp, same_value, same_values, same_scalar, scalar_cmp}
use Rattle.vx_value.specs.Order.{is_unnested, is_compared, ordered_part, other_part}
use Rattle.vx_value.specs.Storage.{is_nested}
use Rattle.std.proofs.lemmas.Bool.Decides.{same_from_decides}

-- ---- values: by their parts, those of the last kind first. A value without the part comes before those that have it.

decimal_cmp_total : IsTotalOrder decimal_cmp
decimal_cmp_total = then_total (on_total (λ (d : ℤ × ℕ). d.0) int_cmp_total) (on_total (λ (d : ℤ × ℕ). d.1) nat_cmp_total)

abbrev by_parts : Value → Value → Ordering
by_parts =
    then_cmp (on bytes_in (option_cmp bytes_cmp)) (
    then_cmp (on decimal_in (option_cmp decimal_cmp)) (
    then_cmp (on integer_in (option_cmp int_cmp)) (
    on boolean_in (option_cmp bool_cmp))))

by_parts_total : IsTotalOrder by_parts
by_parts_total =
    then_total (on_total bytes_in (options_total nat_list_cmp_total)) (
    then_total (on_total decimal_in (options_total decimal_cmp_total)) (
    then_total (on_total integer_in (options_total int_cmp_total)) (
    on_total boolean_in (options_total bool_cmp_total))))

-- an order of two parts finds no difference only if neither part does
both_equal : (o p : Ordering) → is_eq (ordering_then o p) ≡ true → (is_eq o ≡ true) × (is_eq p ≡ true)
both_equal Equal p h = (refl, h)
both_equal Less p h = absurd (cc)
both_equal Greater p h = absurd (cc)

then_equal : (o : Ordering) → ordering_then o Equal ≡ o
then_equal Less = refl
then_equal Equal = refl
then_equal Greater = refl

-- null has none of the parts, and nor have nested values
none_ranks : (w : Value) → by_parts value.null w ≡ nat_cmp 0 (value_kind w)
none_ranks (value.boolean b) = refl
none_ranks _ = refl

value_cmp_ranks : (v w : Value) → by_parts v w ≡ value_cmp v w
value_cmp_ranks (value.boolean a) (value.boolean b) = refl
value_cmp_ranks (value.integer y) (value.integer z) = then_equal (int_cmp y z)
value_cmp_ranks (value.decimal y r) (value.decimal z s) = then_equal (decimal_cmp (y, r) (z, s))
value_cmp_ranks (value.bytes bs) (value.bytes cs) = then_equal (bytes_cmp bs cs)
value_cmp_ranks value.null w = none_ranks w
value_cmp_ranks (value.list vs) w = none_ranks w
value_cmp_ranks (value.fields vs) w = none_ranks w
value_cmp_ranks (value.tagged tag v) w = none_ranks w
value_cmp_ranks (value.variant t v) w = none_ranks w
value_cmp_ranks _ _ = refl

pub value_cmp_total : IsTotalOrder value_cmp
value_cmp_total = subst IsTotalOrder (λ i v w. value_cmp_ranks v w i) by_parts_total

-- ---- sameness

numbers_alike : (y z : ℤ) (r s : ℕ) → is_eq (decimal_cmp (y, r) (z, s)) ≡ true → (y ≡ z) × (r ≡ s)
numbers_alike y z r s h =
    let found = both_equal (int_cmp y z) (nat_cmp r s) h in
    ((signed_Decides y z).0 found.0, (unsigned_Decides r s).0 (unsigned_ties r s ∙ found.1))

-- what comes neither before nor after is the same, of values that are ordered
unnested_alike : (v w : Value) → is_unnested v ≡ true → is_unnested w ≡ true → is_eq (value_cmp v w) ≡ true → v ≡ w
unnested_alike value.null value.null p q h = refl
unnested_alike (value.boolean false) (value.boolean false) p q h = refl
unnested_alike (value.boolean true) (value.boolean true) p q h = refl
unnested_alike (value.integer y) (value.integer z) p q h = ap value.integer ((signed_Decides y z).0 h)
unnested_alike (value.decimal y r) (value.decimal z s) p q h =
    let found = numbers_alike y z r s h in
    λ i. value.decimal (found.0 i) (found.1 i)
unnested_alike (value.bytes bs) (value.bytes cs) p q h = ap value.bytes ((bytes_decides bs cs).0 (texts_ties bs cs ∙ h))
unnested_alike _ _ p q h = absurd (cc)

-- a line for each kind of value
mutual
  value_alike : (v w : Value) → same_value v w ≡ true → v ≡ w
  value_alike value.null value.null h = refl
  value_alike (value.boolean a) (value.boolean b) h = unnested_alike (value.boolean a) (value.boolean b) refl refl h
  value_alike (value.integer y) (value.integer z) h = ap value.integer ((signed_Decides y z).0 h)
  value_alike (value.decimal y r) (value.decimal z s) h =
      let found = numbers_alike y z r s h in
      λ i. value.decimal (found.0 i) (found.1 i)
  value_alike (value.bytes bs) (value.bytes cs) h = ap value.bytes ((bytes_decides bs cs).0 (texts_ties bs cs ∙ h))
  value_alike (value.list vs) (value.list ws) h = ap value.list (values_alike vs ws h)
  value_alike (value.fields vs) (value.fields ws) h = ap value.fields (values_alike vs ws h)
  value_alike (value.tagged j v) (value.tagged k w) h =
      let tags : j ≡ k = (unsigned_Decides j k).0 (first_so _ _ h) in
      let values : v ≡ w = value_alike v w (second_so _ _ h) in
      λ i. value.tagged (tags i) (values i)
  value_alike (value.variant s v) (value.variant t w) h =
      let types : s ≡ t = (same_type_Decides s t).0 (first_so _ _ h) in
      let values : v ≡ w = value_alike v w (second_so _ _ h) in
      λ i. value.variant (types i) (values i)
  value_alike _ _ h = absurd (cc)

  values_alike : (vs ws : Values) → same_values vs ws ≡ true → vs ≡ ws
  values_alike value.no_values value.no_values h = refl
  values_alike (value.item v vs) (value.item w ws) h =
      let first : v ≡ w = value_alike v w (first_so _ _ h) in
      let rest : vs ≡ ws = values_alike vs ws (second_so _ _ h) in
      λ i. value.item (first i) (rest i)
  values_alike _ _ h = absurd (cc)

both : {a b : Bool} → a ≡ true → b ≡ true → (a && b) ≡ true
both h k = λ i. h i && k i

mutual
  value_self : (v : Value) → same_value v v ≡ true
  value_self value.null = refl
  value_self (value.list vs) = values_self vs
  value_self (value.fields vs) = values_self vs
  value_self (value.tagged tag v) = both ((unsigned_Decides tag tag).1 refl) (value_self v)
  value_self (value.variant t v) = both ((same_type_Decides t t).1 refl) (value_self v)
  value_self (value.boolean b) = ap is_eq (tied_itself value_cmp_total (value.boolean b))
  value_self (value.integer z) = ap is_eq (tied_itself value_cmp_total (value.integer z))
  value_self (value.decimal z s) = ap is_eq (tied_itself value_cmp_total (value.decimal z s))
  value_self (value.bytes bs) = ap is_eq (tied_itself value_cmp_total (value.bytes bs))

  values_self : (vs : Values) → same_values vs vs ≡ true
  values_self value.no_values = refl
  values_self (value.item v vs) = both (value_self v) (values_self vs)

pub same_value_Decides : (v w : Value) → Decides (same_value v w) (v ≡ w)
same_value_Decides v w = (value_alike v w, λ e. ap (same_value v) (sym e) ∙ value_self v)

-- ---- scalars: by type, and then by value

pub same_scalar_Decides : (s t : Typed) → Decides (same_scalar s t) (s ≡ t)
same_scalar_Decides s t =
    let types = same_type_Decides s.of_type t.of_type in
    let values = same_value_Decides s.value t.value in (
      λ h i. record { of_type = types.0 (first_so _ _ h) i; value = values.0 (second_so _ _ h) i },
      λ e i. types.1 (ap (λ u. u.of_type) e) i && values.1 (ap (λ u. u.value) e) i,
    )

-- values that are equal or don't compare
abbrev level : {K : Type 0} → (K → K → Bool) → K → K → Option Ordering
level E x y = if E x y then Some Equal else None

level_flips : (b : Bool) → (if b then Some Equal else None) ≡ option_map ordering_reverse (if b then Some Equal else None)
level_flips true = refl
level_flips false = refl

never_less : {A : Type 0} (b : Bool) → (if b then Some Equal else None) ≡ Some Less → A
never_less true h = absurd (cc)
never_less false h = absurd (cc)

level_Decides : (b : Bool) → Decides b ((if b then Some Equal else None) ≡ Some Equal)
level_Decides true = (λ h. refl, λ h. refl)
level_Decides false = (λ h. absurd (cc), λ h. absurd (cc))

level_order : {K : Type 0} {E : K → K → Bool} → IsEquivalence E → IsPartialOrder E (level E)
level_order {K} {E} o = record {
  antisymm = λ x y. ap (λ b. if b then Some Equal else None) (o.symm x y) ∙ level_flips (E y x);
  trans = λ x y z h k. never_less (E x y) h;
  matches_eq = λ x y. level_Decides (E x y);
  congr = λ x y z e. ap (λ b. if b then Some Equal else None) (o.congr x y z e);
}

chosen : (b : Bool) (o : Ordering) → partial_ordering_then (if b then Some Equal else None) (Some o) ≡ (if b then Some o else None)
chosen true o = refl
chosen false o = refl

-- ---- the order of scalars: by type and the part that isn't ordered, as far as they are the same, and then by the ordered part

abbrev other_key : Typed → DataType × Value
other_key s = (s.of_type, other_part s)

abbrev same_key : DataType × Value → DataType × Value → Bool
same_key p q = same_type p.0 q.0 && same_value p.1 q.1

same_key_Decides : (p q : DataType × Value) → Decides (same_key p q) (p ≡ q)
same_key_Decides p q =
    let types = same_type_Decides p.0 q.0 in
    let values = same_value_Decides p.1 q.1 in (
      λ h i. (types.0 (first_so _ _ h) i, values.0 (second_so _ _ h) i),
      λ e i. types.1 (ap (λ u. u.0) e) i && values.1 (ap (λ u. u.1) e) i,
    )

-- the parts make the whole value
whole_alike : (b c : Bool) (v w : Value) → (if b then value.null else v) ≡ (if c then value.null else w) → (if b then v else value.null) ≡ (if c then w else value.null)
    → v ≡ w
whole_alike true true v w o p = p
whole_alike false false v w o p = o
whole_alike true false v w o p = p ∙ o
whole_alike false true v w o p = o ∙ p

ordered_unnested : (b : Bool) (v : Value) → is_unnested (if b && is_unnested v then v else value.null) ≡ true
ordered_unnested false v = refl
ordered_unnested true v = by_value v
  where
    by_value : (v : Value) → is_unnested (if is_unnested v then v else value.null) ≡ true
    by_value value.null = refl
    by_value _ = refl

pub parts_Decide : (s t : Typed)
    → Decides (same_key (other_key s) (other_key t) && is_eq (value_cmp (ordered_part s) (ordered_part t))) (s ≡ t)
parts_Decide s t =
    let keys = same_key_Decides (other_key s) (other_key t) in (
      λ h.
          let key = keys.0 (first_so _ _ h) in
          let ordered = unnested_alike (ordered_part s) (ordered_part t)
          (ordered_unnested (not (is_nested s.of_type)) s.value) (ordered_unnested (not (is_nested t.of_type)) t.value) (second_so _ _ h) in
          let values : s.value ≡ t.value = whole_alike (is_compared s) (is_compared t) s.value t.value (ap (λ u. u.1) key) ordered in
          λ i. record { of_type = (key i).0; value = values i },
      λ e. ap (λ u. same_key (other_key s) (other_key u) && is_eq (value_cmp (ordered_part s) (ordered_part u))) (sym e)
          ∙ both (keys_self (other_key s)) (ap is_eq (tied_itself value_cmp_total (ordered_part s))),
    )
  where
    keys_self : (p : DataType × Value) → same_key p p ≡ true
    keys_self p = (same_key_Decides p p).1 refl

pub scalar_cmp_order : IsPartialOrder same_scalar scalar_cmp
scalar_cmp_order =
    let others = on_po other_key (level_order (decided same_key same_key_Decides)) in
    let ordered = on_po ordered_part (partial_order_from_total value_cmp_total) in
    let equal : (s t : Typed) → (same_key (other_key s) (other_key t) && is_eq (value_cmp (ordered_part s) (ordered_part t))) ≡ same_scalar s t =
    λ s t. same_from_decides _ _ (parts_Decide s t) (same_scalar_Decides s t) in
    let order : (s t : Typed)
    → partial_ordering_then (level same_key (other_key s) (other_key t)) (Some (value_cmp (ordered_part s) (ordered_part t))) ≡ scalar_cmp s t =
    λ s t. chosen (same_key (other_key s) (other_key t)) (value_cmp (ordered_part s) (ordered_part t)) in
    subst (λ E. IsPartialOrder E scalar_cmp) (λ i s t. equal s t i) (subst (IsPartialOrder _) (λ i s t. order s t i) (then_po others ordered))
