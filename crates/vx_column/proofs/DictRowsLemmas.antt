-- Rows of a dictionary.
use Rattle.std.proofs.Common.{◌≡◌, ℕ, ◌≤◌, ℤ, pos, negsuc, List, [], ◌∷◌, length, true, Some, None, refl, sym, ap, subst, ◌∙◌, arith}
use Rattle.std.proofs.lemmas.Bool.{false≢true}
use Rattle.std.specs.Prelude.{slice_get}
use Rattle.std.specs.Option.{option_map}
use Rattle.std.proofs.lemmas.List.{get_or_past}
use Rattle.std.proofs.lemmas.Option.{slice_get-map, get_or_from_slice_get}
use Rattle.vx_value.specs.Typed.{Typed}
use Rattle.vx_value.specs.Types.{DataType, primitive, nullability_of}
use Rattle.vx_value.specs.Nullabilities.{union}
use Rattle.vx_value.specs.IsOf.{is_of}
use Rattle.vx_value.specs.declared.dtype.Nullability.TheVariants.{NonNullable, Nullable}
use Rattle.vx_value.specs.Values.{Value, null, integer}
use Rattle.vx_value.specs.Cell.{Cell, value, fault}
use Rattle.vx_value.specs.Parts.{integer_in}
use Rattle.vx_fn.specs.Meanings.{widen}
use Rattle.vx_tree.specs.Tree.{Tree, dtype, len, dict_of}
use Rattle.vx_tree.specs.Lookups.{taken}
use Rattle.vx_tree.specs.SlotTypes.{is_integer}
use Rattle.vx_tree.specs.Well.{shape, IsNodeOf}
use Rattle.vx_fn.proofs.MeaningsLemmas.{widened_nullability}
use Rattle.vx_tree.specs.Cells.{rows}
use Rattle.vx_column.specs.Read.{IsRow}

-- the integer that a value is
pub integer_is : (v : Value) (z : ℤ) → integer_in v ≡ Some z → v ≡ integer z
integer_is (integer y) z h = let same : y ≡ z = cc in ap integer same
integer_is _ z h = absurd (cc)

-- a code that is no integer is null, and its type nullable
null_code : (ty : DataType) (v : Value) → is_integer ty ≡ true → None ≡ integer_in v → is_of ty v ≡ true → (v ≡ null) × (nullability_of ty ≡ Nullable)
null_code (primitive p Nullable) null i e h = (refl, refl)
null_code (primitive p NonNullable) null i e h = absurd (false≢true h)
null_code (primitive p m) (integer z) i e h = absurd (cc)
null_code (primitive p m) _ i e h = absurd (false≢true h)
null_code _ v i e h = absurd (false≢true i)

codes_typed : (c v : Tree) → IsNodeOf (dict_of c v) → is_integer (dtype c) ≡ true
codes_typed c v well =
    let slots : Some (shape (dtype c) (len c)) ∷ Some (shape (dtype v) (len v)) ∷ [] ≡ Some (shape well.0 (len c)) ∷ Some (shape well.1 well.2) ∷ [] = well.3 in
    let same : dtype c ≡ well.0 = cc (slots) in
    ap is_integer same ∙ well.4

-- n cells, and an integer that names none of them
names_none : (cs : List Cell) (n : ℕ) (z : ℤ) → length cs ≡ n → ((k : ℕ) → z ≡ pos k → n ≤ k) → taken cs (value (integer z)) ≡ fault
names_none cs n (pos k) e h = get_or_past cs k fault (omega (arith, e, h k refl))
names_none cs n (negsuc k) e h = refl

module _ (t c v : Tree) (i : ℕ) (shown : t ≡ dict_of c v) where
  cell_is : (code : Cell) → slice_get (rows c) i ≡ Some code → slice_get (rows t) i ≡ Some (taken (rows v) code)
  cell_is code h = ap (λ u. slice_get (rows u) i) shown ∙ slice_get-map (taken (rows v)) (rows c) i ∙ ap (option_map (taken (rows v))) h

  -- once the code is read
  module _ (s : Typed) (read : IsRow c i s) where
    code_is : (w : Value) → s.value ≡ w → slice_get (rows t) i ≡ Some (taken (rows v) (value w))
    code_is w e = cell_is (value s.value) read.0 ∙ ap (λ x. Some (taken (rows v) (value x))) e

    -- it names no value
    pub dict_unnamed : (z : ℤ) → integer_in s.value ≡ Some z → length (rows v) ≡ len v → ((k : ℕ) → z ≡ pos k → len v ≤ k) → slice_get (rows t) i ≡ Some fault
    dict_unnamed z named counted h = code_is (integer z) (integer_is s.value z named) ∙ ap Some (names_none (rows v) (len v) z counted h)

    -- it names value k
    module _ (k : ℕ) (named : integer_in s.value ≡ Some (pos k)) where
      named_is : (x : Cell) → slice_get (rows v) k ≡ Some x → slice_get (rows t) i ≡ Some x
      named_is x h = code_is (integer (pos k)) (integer_is s.value (pos k) named) ∙ ap Some (get_or_from_slice_get (rows v) k x fault h)

      pub dict_row : (r q : Typed) → IsRow v k r → q.value ≡ r.value → q.of_type ≡ widen (dtype c) r.of_type → IsRow t i q
      dict_row r q h valued typed = (
        named_is (value r.value) h.0 ∙ ap (λ x. Some (value x)) (sym valued),
        typed ∙ ap (widen (dtype c)) h.1 ∙ sym (ap dtype shown),
      )

      pub dict_value_fault : slice_get (rows v) k ≡ Some fault → slice_get (rows t) i ≡ Some fault
      dict_value_fault h = named_is fault h

    -- it is null
    module _ (well : IsNodeOf t) (none : None ≡ integer_in s.value) (typed : is_of s.of_type s.value ≡ true) where
      null_there : (s.value ≡ null) × (nullability_of (dtype c) ≡ Nullable)
      null_there =
          null_code (dtype c) s.value (codes_typed c v (subst IsNodeOf shown well)) none (ap (λ ty. is_of ty s.value) (sym read.1) ∙ typed)

      pub dict_nullable : nullability_of (dtype t) ≡ Nullable
      dict_nullable =
          ap (λ u. nullability_of (dtype u)) shown ∙ widened_nullability (dtype c) (dtype v)
          ∙ ap (λ m. union m (nullability_of (dtype v))) null_there.1

      pub dict_null : (q : Typed) → q ≡ record { of_type = dtype t; value = null } → IsRow t i q
      dict_null q e = (code_is null null_there.0 ∙ ap (λ y. Some (value (Typed.value y))) (sym e), ap (λ y. Typed.of_type y) e)
