-- What a value is, without pointers: null, or a value of some type.
use Rattle.std.specs.Prelude.{◌≡◌, Bool, ℕ, zero, suc, ℤ, ◌+◌, max, List, [], ◌∷◌, refl}
use Rattle.std.specs.Coded.{Coded}
use base.Stored.{Gv, gnil, gnum, gcons}
use Rattle.vx_value.specs.Codes.{coded_back, pick, first, rest, number_in, bytes_code, bytes_in_code, bytes_back}
use Rattle.vx_value.specs.Codes.{boolean_code, boolean_in_code, boolean_back, integer_code, integer_in_code, integer_back}
use Rattle.vx_value.specs.Types.{DataType, type_code, type_in, type_back, height as type_height}

mutual
  pub data Value : Type 0 where
    null : Value
    boolean : Bool → Value
    integer : ℤ → Value
    -- the number without its point, and its scale
    decimal : ℤ → ℕ → Value
    bytes : List ℕ → Value
    -- the elements of a list, or the entries of a map
    list : Values → Value
    -- the fields of a struct, or the key and the value of an entry
    fields : Values → Value
    -- of a union: the tag and the value
    tagged : ℕ → Value → Value
    -- of type variant: the type and the value
    variant : DataType → Value → Value

  pub data Values : Type 0 where
    no_values : Values
    item : Value → Values → Values

abbrev pub count : Values → ℕ
count no_values = 0
count (item v vs) = count vs + 1

-- the value so many times
abbrev pub repeated : ℕ → Value → Values
repeated zero v = no_values
repeated (suc n) v = item v (repeated n v)

-- ---- how deep a value nests

abbrev mutual
  pub height : Value → ℕ
  height (list vs) = values_height vs + 1
  height (fields vs) = values_height vs + 1
  height (tagged tag v) = height v + 1
  height (variant t v) = type_height t + height v + 1
  height _ = 0

  pub values_height : Values → ℕ
  values_height no_values = 0
  values_height (item v vs) = max (height v) (values_height vs)

-- ---- the code of a value: a line for each constructor in the code, in its undoing and in the proof

-- the number of the constructor, the code of its values, and that of the rest
abbrev pub value_made : ℕ → Gv → Gv → Gv
value_made k v x = gcons (gnum k) (gcons v x)

abbrev mutual
  pub value_code : Value → Gv
  value_code null = value_made 0 gnil gnil
  value_code (boolean b) = value_made 1 gnil (boolean_code b)
  value_code (integer z) = value_made 2 gnil (integer_code z)
  value_code (decimal z s) = value_made 3 gnil (gcons (integer_code z) (gnum s))
  value_code (bytes bs) = value_made 4 gnil (bytes_code bs)
  value_code (list vs) = value_made 5 (values_code vs) gnil
  value_code (fields vs) = value_made 6 (values_code vs) gnil
  value_code (tagged tag v) = value_made 7 (value_code v) (gnum tag)
  value_code (variant t v) = value_made 8 (value_code v) (type_code t)

  pub values_code : Values → Gv
  values_code no_values = gnil
  values_code (item v vs) = gcons (value_code v) (values_code vs)

abbrev mutual
  pub value_in : Gv → Value
  value_in (gcons k (gcons v x)) = pick (number_in k) null (
      null
      ∷ boolean (boolean_in_code x)
      ∷ integer (integer_in_code x)
      ∷ decimal (integer_in_code (first x)) (number_in (rest x))
      ∷ bytes (bytes_in_code x)
      ∷ list (values_in v)
      ∷ fields (values_in v)
      ∷ tagged (number_in x) (value_in v)
      ∷ variant (type_in x) (value_in v)
      ∷ [])
  value_in _ = null

  pub values_in : Gv → Values
  values_in (gcons v vs) = item (value_in v) (values_in vs)
  values_in _ = no_values

mutual
  pub value_back : (v : Value) → value_in (value_code v) ≡ v
  value_back null = refl
  value_back (boolean b) = λ i. boolean (boolean_back b i)
  value_back (integer z) = λ i. integer (integer_back z i)
  value_back (decimal z s) = λ i. decimal (integer_back z i) s
  value_back (bytes bs) = λ i. bytes (bytes_back bs i)
  value_back (list vs) = λ i. list (values_back vs i)
  value_back (fields vs) = λ i. fields (values_back vs i)
  value_back (tagged tag v) = λ i. tagged tag (value_back v i)
  value_back (variant t v) = λ i. variant (type_back t i) (value_back v i)

  pub values_back : (vs : Values) → values_in (values_code vs) ≡ vs
  values_back no_values = refl
  values_back (item v vs) = λ i. item (value_back v i) (values_back vs i)

abbrev pub coded_value : Coded Value
coded_value = coded_back value_code value_in value_back

abbrev pub coded_values : Coded Values
coded_values = coded_back values_code values_in values_back
