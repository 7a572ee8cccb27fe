-- What an array is: a tree of nodes. Each has a type, a length in rows, data of its encoding, and slots.
use Rattle.std.specs.Prelude.{◌≡◌, ℕ, ℤ, ◌+◌, List, [], ◌∷◌, max, Option, Some, None, Bool, refl}
use Rattle.std.specs.Coded.{Coded, coded_ℕ, coded_ℤ, coded_bool, coded_list, coded×}
use Rattle.std.proofs.Common.{ap, inl, inr}
use denote.Enum.Bare.{tag_one}
use denote.Enum.Declared.{tag_of}
use base.Stored.{Gv, gnil, gnum, gcons, coded_unit}
use Rattle.vx_value.specs.Codes.{Part, part, ◌or◌, no_part, coded_by}
use Rattle.vx_value.specs.Types.{DataType, coded_type, coded_ptype}
use Rattle.vx_value.specs.Typed.{Typed, coded_typed}
use Rattle.vx_value.specs.Decimals.{coded_width}
use Rattle.vx_value.specs.declared.decimal.DecimalType.{DecimalType}
use Rattle.vx_value.specs.declared.dtype.PType.{PType}
use Rattle.vx_fn.specs.Functions.{coded_function}
use Rattle.vx_fn.specs.declared.function.ScalarFnRef.{ScalarFnRef}
use Rattle.vx_tree.specs.Views.{ViewedRows, coded_viewed}
use Rattle.vx_tree.specs.declared.array.layout.Layout.{Layout}
use Rattle.vx_tree.specs.contracts.array.layout.Layout.{the_type as the_layout}

-- the data of a node: its buffers as lists, and its numbers
pub data Data : Type 0 where
  constant : Typed → Data
  slice : ℕ → ℕ → Data
  filter : List Bool → Data
  masked : Data
  is_valid : Data
  function : ScalarFnRef → Data
  dict : Data
  chunked : Data
  interleave : Data
  nulls : Data
  bool : List Bool → Data
  primitive : PType → List ℤ → Data
  -- decimals of the column's type, without their points, as integers of this width
  decimals : DecimalType → List ℤ → Data
  -- rows of text or bytes, as views into data buffers
  views : ViewedRows → Data
  -- rows of a nested type, made of the rows of the slots
  composed : Layout → Data

mutual
  pub data Tree : Type 0 where
    node : DataType → ℕ → Data → Slots → Tree

  -- a slot that is left out, or taken out, is absent
  pub data Slots : Type 0 where
    no_slots : Slots
    absent : Slots → Slots
    slot : Tree → Slots → Slots

abbrev pub slots_of : List (Option Tree) → Slots
slots_of [] = no_slots
slots_of (None ∷ ss) = absent (slots_of ss)
slots_of (Some t ∷ ss) = slot t (slots_of ss)

-- slots that each hold a tree
abbrev pub filled_slots : List Tree → Slots
filled_slots [] = no_slots
filled_slots (t ∷ ts) = slot t (filled_slots ts)

abbrev mutual
  pub height : Tree → ℕ
  height (node ty n d ss) = slots_height ss + 1

  pub slots_height : Slots → ℕ
  slots_height no_slots = 0
  slots_height (absent ss) = slots_height ss
  slots_height (slot t ss) = max (height t) (slots_height ss)

-- the parts of a tree's root
abbrev pub dtype : Tree → DataType
dtype (node ty n d ss) = ty

abbrev pub len : Tree → ℕ
len (node ty n d ss) = n

abbrev pub datum : Tree → Data
datum (node ty n d ss) = d

abbrev pub slots : Tree → Slots
slots (node ty n d ss) = ss

-- a column: its data, and its validity, absent if no row may be null
abbrev pub column : DataType → ℕ → Data → Option Tree → Tree
column ty n d validity = node ty n d (slots_of (validity ∷ []))

-- ---- the code of a tree: for node data, a line per encoding in each of two tables

abbrev pub coded_layout : Coded Layout
coded_layout =
    record { code = λ l. coded_ℕ.code (tag_of the_layout l); inj = λ k l e. tag_one the_layout tt k l (coded_ℕ.inj _ _ e) }

abbrev pub data_parts : Part Data
data_parts =
    part coded_typed constant
    or part (coded× coded_ℕ coded_ℕ) (λ p. slice p.0 p.1)
    or part coded_function function
    or part (coded_list coded_bool) bool
    or part (coded× coded_ptype (coded_list coded_ℤ)) (λ p. primitive p.0 p.1)
    or part (coded_list coded_bool) filter
    or part coded_unit (λ u. masked)
    or part coded_unit (λ u. is_valid)
    or part coded_viewed views
    or part (coded× coded_width (coded_list coded_ℤ)) (λ p. decimals p.0 p.1)
    or part coded_unit (λ u. nulls)
    or part coded_unit (λ u. dict)
    or part coded_unit (λ u. chunked)
    or part coded_unit (λ u. interleave)
    or part coded_layout composed
    or no_part

abbrev pub data_split : Data → data_parts.holds
data_split (constant v) = inl v
data_split (slice a b) = inr (inl (a, b))
data_split (function f) = inr (inr (inl f))
data_split (bool bs) = inr (inr (inr (inl bs)))
data_split (primitive p zs) = inr (inr (inr (inr (inl (p, zs)))))
data_split (filter bits) = inr (inr (inr (inr (inr (inl bits)))))
data_split masked = inr (inr (inr (inr (inr (inr (inl tt))))))
data_split is_valid = inr (inr (inr (inr (inr (inr (inr (inl tt)))))))
data_split (views rs) = inr (inr (inr (inr (inr (inr (inr (inr (inl rs))))))))
data_split (decimals w zs) = inr (inr (inr (inr (inr (inr (inr (inr (inr (inl (w, zs))))))))))
data_split nulls = inr (inr (inr (inr (inr (inr (inr (inr (inr (inr (inl tt))))))))))
data_split dict = inr (inr (inr (inr (inr (inr (inr (inr (inr (inr (inr (inl tt)))))))))))
data_split chunked = inr (inr (inr (inr (inr (inr (inr (inr (inr (inr (inr (inr (inl tt))))))))))))
data_split interleave = inr (inr (inr (inr (inr (inr (inr (inr (inr (inr (inr (inr (inr (inl tt)))))))))))))
data_split (composed l) = inr (inr (inr (inr (inr (inr (inr (inr (inr (inr (inr (inr (inr (inr (inl l))))))))))))))

pub data_back : (d : Data) → data_parts.make (data_split d) ≡ d
data_back (constant v) = refl
data_back _ = refl

abbrev pub coded_data : Coded Data
coded_data = coded_by data_parts data_split data_back

abbrev head : Gv → Gv
head gnil = gnil
head (gnum n) = gnil
head (gcons a b) = a

abbrev tail : Gv → Gv
tail gnil = gnil
tail (gnum n) = gnil
tail (gcons a b) = b

abbrev mutual
  pub tree_code : Tree → Gv
  tree_code (node ty n d ss) = gcons (coded_type.code ty) (gcons (gnum n) (gcons (coded_data.code d) (slots_code ss)))

  pub slots_code : Slots → Gv
  slots_code no_slots = gnil
  slots_code (absent ss) = gcons (gnum 0) (slots_code ss)
  slots_code (slot t ss) = gcons (gcons (gnum 0) (tree_code t)) (slots_code ss)

mutual
  pub tree_inj : (x y : Tree) → tree_code x ≡ tree_code y → x ≡ y
  tree_inj (node s n d ss) (node t m e ts) p =
      let typed = coded_type.inj s t (ap head p) in
      let counted = coded_ℕ.inj n m (ap (λ g. head (tail g)) p) in
      let same = coded_data.inj d e (ap (λ g. head (tail (tail g))) p) in
      let under = slots_inj ss ts (ap (λ g. tail (tail (tail g))) p) in
      λ i. node (typed i) (counted i) (same i) (under i)

  pub slots_inj : (x y : Slots) → slots_code x ≡ slots_code y → x ≡ y
  slots_inj no_slots no_slots p = refl
  slots_inj no_slots (absent ts) p = absurd (cc)
  slots_inj no_slots (slot t ts) p = absurd (cc)
  slots_inj (absent ss) no_slots p = absurd (cc)
  slots_inj (absent ss) (absent ts) p = ap absent (slots_inj ss ts (ap tail p))
  slots_inj (absent ss) (slot t ts) p = absurd (cc)
  slots_inj (slot s ss) no_slots p = absurd (cc)
  slots_inj (slot s ss) (absent ts) p = absurd (cc)
  slots_inj (slot s ss) (slot t ts) p = λ i. slot (tree_inj s t (ap (λ g. tail (head g)) p) i) (slots_inj ss ts (ap tail p) i)

abbrev pub coded_tree : Coded Tree
coded_tree = record { code = tree_code; inj = tree_inj }
