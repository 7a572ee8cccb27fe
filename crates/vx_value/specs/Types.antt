-- What a type is, without pointers.
use Rattle.std.specs.Prelude.{◌≡◌, ℕ, ◌+◌, max, List, [], ◌∷◌, Bool, true, false, refl}
use Rattle.std.specs.Coded.{Coded, coded_ℕ}
use Rattle.std.specs.Bool.{Decides}
use denote.Enum.Bare.{sameb, same_true, true_same, tag_one}
use denote.Enum.Declared.{tag_of}
use base.Stored.{Gv, gnil, gnum, gcons}
use Rattle.vx_value.specs.Codes.{coded_back, pick, first, rest, number_in, bytes_code, bytes_in_code, bytes_back, same_code, same_code_Decides}
use Rattle.vx_value.specs.declared.dtype.Nullability.{Nullability}
use Rattle.vx_value.specs.declared.dtype.Nullability.TheVariants.{NonNullable, Nullable}
use Rattle.vx_value.specs.declared.dtype.PType.{PType}
use Rattle.vx_value.specs.declared.dtype.PType.TheVariants as ptype
use Rattle.vx_value.specs.contracts.dtype.Nullability.{the_type as the_nullability}
use Rattle.vx_value.specs.contracts.dtype.PType.{the_type as the_ptype}

mutual
  pub data DataType : Type 0 where
    null : DataType
    bool : Nullability → DataType
    primitive : PType → Nullability → DataType
    -- the precision and the scale
    decimal : ℕ → ℕ → Nullability → DataType
    utf8 : Nullability → DataType
    binary : Nullability → DataType
    -- the type of the elements
    list : DataType → Nullability → DataType
    -- the type of the elements, and how many each row has
    fixed_size_list : DataType → ℕ → Nullability → DataType
    -- the types of the keys and of the values
    map : DataType → DataType → Nullability → DataType
    struct : Fields → Nullability → DataType
    union : Variants → Nullability → DataType
    variant : Nullability → DataType
    -- the id and the type of the storage
    extension : List ℕ → DataType → DataType

  -- the fields of a struct: the name and the type of each
  pub data Fields : Type 0 where
    no_fields : Fields
    field : List ℕ → DataType → Fields → Fields

  -- the variants of a union: the tag, the name and the type of each
  pub data Variants : Type 0 where
    no_variants : Variants
    alternative : ℕ → List ℕ → DataType → Variants → Variants

-- an extension has the nullability of its storage
abbrev pub nullability_of : DataType → Nullability
nullability_of null = Nullable
nullability_of (bool n) = n
nullability_of (primitive p n) = n
nullability_of (decimal p s n) = n
nullability_of (utf8 n) = n
nullability_of (binary n) = n
nullability_of (list t n) = n
nullability_of (fixed_size_list t k n) = n
nullability_of (map k v n) = n
nullability_of (struct fs n) = n
nullability_of (union vs n) = n
nullability_of (variant n) = n
nullability_of (extension id t) = nullability_of t

abbrev pub is_nullable : Nullability → Bool
is_nullable NonNullable = false
is_nullable Nullable = true

-- ---- how deep a type nests

abbrev mutual
  pub height : DataType → ℕ
  height (list t n) = height t + 1
  height (fixed_size_list t k n) = height t + 1
  height (map k v n) = max (height k) (max (height v) 0) + 3
  height (struct fs n) = fields_height fs + 1
  height (union vs n) = variants_height vs + 1
  height (extension id t) = height t + 2
  height _ = 0

  pub fields_height : Fields → ℕ
  fields_height no_fields = 0
  fields_height (field name t fs) = max (height t) (fields_height fs)

  pub variants_height : Variants → ℕ
  variants_height no_variants = 0
  variants_height (alternative tag name t vs) = max (height t) (variants_height vs)

-- ---- each enum as the numbers of its variants, whatever these are

abbrev pub nullability_number : Nullability → ℕ
nullability_number = tag_of the_nullability

abbrev pub ptype_number : PType → ℕ
ptype_number = tag_of the_ptype

abbrev pub coded_nullability : Coded Nullability
coded_nullability =
    record { code = λ n. coded_ℕ.code (tag_of the_nullability n); inj = λ m n e. tag_one the_nullability tt m n (coded_ℕ.inj _ _ e) }

abbrev pub coded_ptype : Coded PType
coded_ptype = record { code = λ p. coded_ℕ.code (tag_of the_ptype p); inj = λ p q e. tag_one the_ptype tt p q (coded_ℕ.inj _ _ e) }

-- ---- the code of a type: a line for each constructor in the code, in its undoing and in the proof

abbrev pub nullability_code : Nullability → Gv
nullability_code NonNullable = gnum 0
nullability_code Nullable = gnum 1

abbrev pub nullability_in : Gv → Nullability
nullability_in c = pick (number_in c) Nullable (NonNullable ∷ Nullable ∷ [])

pub nullability_back : (n : Nullability) → nullability_in (nullability_code n) ≡ n
nullability_back NonNullable = refl
nullability_back Nullable = refl

abbrev pub ptype_code : PType → Gv
ptype_code ptype.U8 = gnum 0
ptype_code ptype.U16 = gnum 1
ptype_code ptype.U32 = gnum 2
ptype_code ptype.U64 = gnum 3
ptype_code ptype.I8 = gnum 4
ptype_code ptype.I16 = gnum 5
ptype_code ptype.I32 = gnum 6
ptype_code ptype.I64 = gnum 7

abbrev pub ptype_in : Gv → PType
ptype_in c =
    pick (number_in c) ptype.I64 (ptype.U8 ∷ ptype.U16 ∷ ptype.U32 ∷ ptype.U64 ∷ ptype.I8 ∷ ptype.I16 ∷ ptype.I32 ∷ ptype.I64 ∷ [])

pub ptype_back : (p : PType) → ptype_in (ptype_code p) ≡ p
ptype_back ptype.U8 = refl
ptype_back ptype.U16 = refl
ptype_back ptype.U32 = refl
ptype_back ptype.U64 = refl
ptype_back ptype.I8 = refl
ptype_back ptype.I16 = refl
ptype_back ptype.I32 = refl
ptype_back ptype.I64 = refl

-- the number of the constructor, the codes of two types, fields or variants, and that of the rest
abbrev pub type_made : ℕ → Gv → Gv → Gv → Gv
type_made k s t x = gcons (gnum k) (gcons (gcons s t) x)

abbrev mutual
  pub type_code : DataType → Gv
  type_code null = type_made 0 gnil gnil gnil
  type_code (bool n) = type_made 1 gnil gnil (nullability_code n)
  type_code (primitive p n) = type_made 2 gnil gnil (gcons (ptype_code p) (nullability_code n))
  type_code (decimal p s n) = type_made 3 gnil gnil (gcons (gnum p) (gcons (gnum s) (nullability_code n)))
  type_code (utf8 n) = type_made 4 gnil gnil (nullability_code n)
  type_code (binary n) = type_made 5 gnil gnil (nullability_code n)
  type_code (list t n) = type_made 6 (type_code t) gnil (nullability_code n)
  type_code (fixed_size_list t k n) = type_made 7 (type_code t) gnil (gcons (gnum k) (nullability_code n))
  type_code (map k v n) = type_made 8 (type_code k) (type_code v) (nullability_code n)
  type_code (struct fs n) = type_made 9 (fields_code fs) gnil (nullability_code n)
  type_code (union vs n) = type_made 10 (variants_code vs) gnil (nullability_code n)
  type_code (variant n) = type_made 11 gnil gnil (nullability_code n)
  type_code (extension id t) = type_made 12 (type_code t) gnil (bytes_code id)

  pub fields_code : Fields → Gv
  fields_code no_fields = gnil
  fields_code (field name t fs) = gcons (bytes_code name) (gcons (type_code t) (fields_code fs))

  pub variants_code : Variants → Gv
  variants_code no_variants = gnil
  variants_code (alternative tag name t vs) = gcons (gnum tag) (gcons (bytes_code name) (gcons (type_code t) (variants_code vs)))

abbrev mutual
  pub type_in : Gv → DataType
  type_in (gcons k (gcons (gcons s t) x)) = pick (number_in k) null (
      null
      ∷ bool (nullability_in x)
      ∷ primitive (ptype_in (first x)) (nullability_in (rest x))
      ∷ decimal (number_in (first x)) (number_in (first (rest x))) (nullability_in (rest (rest x)))
      ∷ utf8 (nullability_in x)
      ∷ binary (nullability_in x)
      ∷ list (type_in s) (nullability_in x)
      ∷ fixed_size_list (type_in s) (number_in (first x)) (nullability_in (rest x))
      ∷ map (type_in s) (type_in t) (nullability_in x)
      ∷ struct (fields_in s) (nullability_in x)
      ∷ union (variants_in s) (nullability_in x)
      ∷ variant (nullability_in x)
      ∷ extension (bytes_in_code x) (type_in s)
      ∷ [])
  type_in _ = null

  pub fields_in : Gv → Fields
  fields_in (gcons name (gcons t fs)) = field (bytes_in_code name) (type_in t) (fields_in fs)
  fields_in _ = no_fields

  pub variants_in : Gv → Variants
  variants_in (gcons tag (gcons name (gcons t vs))) = alternative (number_in tag) (bytes_in_code name) (type_in t) (variants_in vs)
  variants_in _ = no_variants

mutual
  pub type_back : (t : DataType) → type_in (type_code t) ≡ t
  type_back null = refl
  type_back (bool n) = λ i. bool (nullability_back n i)
  type_back (primitive p n) = λ i. primitive (ptype_back p i) (nullability_back n i)
  type_back (decimal p s n) = λ i. decimal p s (nullability_back n i)
  type_back (utf8 n) = λ i. utf8 (nullability_back n i)
  type_back (binary n) = λ i. binary (nullability_back n i)
  type_back (list t n) = λ i. list (type_back t i) (nullability_back n i)
  type_back (fixed_size_list t k n) = λ i. fixed_size_list (type_back t i) k (nullability_back n i)
  type_back (map k v n) = λ i. map (type_back k i) (type_back v i) (nullability_back n i)
  type_back (struct fs n) = λ i. struct (fields_back fs i) (nullability_back n i)
  type_back (union vs n) = λ i. union (variants_back vs i) (nullability_back n i)
  type_back (variant n) = λ i. variant (nullability_back n i)
  type_back (extension id t) = λ i. extension (bytes_back id i) (type_back t i)

  pub fields_back : (fs : Fields) → fields_in (fields_code fs) ≡ fs
  fields_back no_fields = refl
  fields_back (field name t fs) = λ i. field (bytes_back name i) (type_back t i) (fields_back fs i)

  pub variants_back : (vs : Variants) → variants_in (variants_code vs) ≡ vs
  variants_back no_variants = refl
  variants_back (alternative tag name t vs) = λ i. alternative tag (bytes_back name i) (type_back t i) (variants_back vs i)

abbrev pub coded_type : Coded DataType
coded_type = coded_back type_code type_in type_back

abbrev pub coded_fields : Coded Fields
coded_fields = coded_back fields_code fields_in fields_back

abbrev pub coded_variants : Coded Variants
coded_variants = coded_back variants_code variants_in variants_back

-- ---- whether two types are the same

abbrev pub same_ptype : PType → PType → Bool
same_ptype = sameb the_ptype

abbrev pub same_nullability : Nullability → Nullability → Bool
same_nullability = sameb the_nullability

abbrev pub same_type : DataType → DataType → Bool
same_type s t = same_code (type_code s) (type_code t)

abbrev pub same_fields : Fields → Fields → Bool
same_fields fs gs = same_code (fields_code fs) (fields_code gs)

abbrev pub same_variants : Variants → Variants → Bool
same_variants vs ws = same_code (variants_code vs) (variants_code ws)

pub same_ptype_Decides : (p q : PType) → Decides (same_ptype p q) (p ≡ q)
same_ptype_Decides p q = (same_true the_ptype tt p q, true_same the_ptype p q)

pub same_nullability_Decides : (m n : Nullability) → Decides (same_nullability m n) (m ≡ n)
same_nullability_Decides m n = (same_true the_nullability tt m n, true_same the_nullability m n)

pub same_type_Decides : (s t : DataType) → Decides (same_type s t) (s ≡ t)
same_type_Decides = same_code_Decides coded_type

pub same_fields_Decides : (fs gs : Fields) → Decides (same_fields fs gs) (fs ≡ gs)
same_fields_Decides = same_code_Decides coded_fields

pub same_variants_Decides : (vs ws : Variants) → Decides (same_variants vs ws) (vs ≡ ws)
same_variants_Decides = same_code_Decides coded_variants
