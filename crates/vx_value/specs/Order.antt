-- When two values with their types are the same, and which comes first.
use Rattle.std.specs.Prelude.{ℕ, ℤ, Bool, true, false, not, Option, Some, None, ◌&&◌, ◌==◌, if◌then◌else◌}
use Rattle.std.specs.declared.cmp.Ordering.{Ordering}
use Rattle.std.specs.Ordering.{bool_cmp, int_cmp, nat_cmp, is_eq, ordering_then}
use Rattle.vx_value.specs.Bytes.{bytes_cmp}
use Rattle.vx_value.specs.Types.{same_type}
use Rattle.vx_value.specs.Values as value
use Rattle.vx_value.specs.Values.{Value, Values}
use Rattle.vx_value.specs.Storage.{is_nested}
use Rattle.vx_value.specs.Typed.{Typed}

-- ---- sameness, part by part

-- decimals by size, and then by scale, which is the same in all of one type
abbrev pub decimal_cmp : ℤ × ℕ → ℤ × ℕ → Ordering
decimal_cmp d e = ordering_then (int_cmp d.0 e.0) (nat_cmp d.1 e.1)

-- a line for each kind of value
abbrev mutual
  pub same_value : Value → Value → Bool
  same_value value.null value.null = true
  same_value (value.boolean a) (value.boolean b) = is_eq (bool_cmp a b)
  same_value (value.integer y) (value.integer z) = is_eq (int_cmp y z)
  same_value (value.decimal y r) (value.decimal z s) = is_eq (decimal_cmp (y, r) (z, s))
  same_value (value.bytes bs) (value.bytes cs) = is_eq (bytes_cmp bs cs)
  same_value (value.list vs) (value.list ws) = same_values vs ws
  same_value (value.fields vs) (value.fields ws) = same_values vs ws
  same_value (value.tagged j v) (value.tagged k w) = (j == k) && same_value v w
  same_value (value.variant s v) (value.variant t w) = same_type s t && same_value v w
  same_value _ _ = false

  pub same_values : Values → Values → Bool
  same_values value.no_values value.no_values = true
  same_values (value.item v vs) (value.item w ws) = same_value v w && same_values vs ws
  same_values _ _ = false

-- of one type and one value
abbrev pub same_scalar : Typed → Typed → Bool
same_scalar s t = same_type s.of_type t.of_type && same_value s.value t.value

-- ---- the order of the values of types that functions order

-- no value but those of lists, structs, unions and type variant is nested
abbrev pub is_unnested : Value → Bool
is_unnested (value.list vs) = false
is_unnested (value.fields vs) = false
is_unnested (value.tagged tag v) = false
is_unnested (value.variant t v) = false
is_unnested _ = true

-- null comes first; nested values aren't ordered
abbrev pub value_kind : Value → ℕ
value_kind (value.boolean b) = 1
value_kind (value.integer z) = 2
value_kind (value.decimal z s) = 3
value_kind (value.bytes bs) = 4
value_kind _ = 0

-- null, then false, then true; numbers by size, bytes in order; no type has values of two kinds but null
abbrev pub value_cmp : Value → Value → Ordering
value_cmp (value.boolean a) (value.boolean b) = bool_cmp a b
value_cmp (value.integer y) (value.integer z) = int_cmp y z
value_cmp (value.decimal y r) (value.decimal z s) = decimal_cmp (y, r) (z, s)
value_cmp (value.bytes bs) (value.bytes cs) = bytes_cmp bs cs
value_cmp v w = nat_cmp (value_kind v) (value_kind w)

-- whether a scalar is compared by its order, and not by sameness alone
abbrev pub is_compared : Typed → Bool
is_compared s = not (is_nested s.of_type) && is_unnested s.value

abbrev pub ordered_part : Typed → Value
ordered_part s = if is_compared s then s.value else value.null

abbrev pub other_part : Typed → Value
other_part s = if is_compared s then value.null else s.value

-- only scalars of one type compare: by their order, or if they are the same
abbrev pub scalar_cmp : Typed → Typed → Option Ordering
scalar_cmp s t =
    if same_type s.of_type t.of_type && same_value (other_part s) (other_part t) then Some (value_cmp (ordered_part s) (ordered_part t)) else None
