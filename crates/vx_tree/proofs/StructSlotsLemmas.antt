-- The slots of structs, by those of their fields and the one behind them.
use Rattle.std.proofs.Common.{◌≡◌, ℕ, zero, suc, ◌+◌, List, [], ◌∷◌, ◌++◌, length, Bool, true, false, Option, Some, None, refl, sym, ap, ◌∙◌, subst, arith}
use Rattle.std.specs.Prelude.{◌==◌, option_map}
use Rattle.std.specs.Cmp.{unsigned_Decides}
use Rattle.std.proofs.lemmas.List.{length-append}
use Rattle.std.proofs.lemmas.Bool.{false≢true}
use Rattle.vx_value.specs.Types.{Fields}
use Rattle.vx_value.specs.Types as type
use Rattle.vx_value.specs.Nested.{fields_count}
use Rattle.vx_value.specs.View.{fields_of}
use Rattle.vx_value.specs.declared.dtype.Nullability.{Nullability}
use Rattle.vx_value.specs.declared.error.VortexError.TheVariants.{InvalidArgument}
use Rattle.vx_value.specs.declared.error.ArgKind.TheVariants.{SlotCount}
use Rattle.vx_value.specs.declared.nested.Field.{Field}
use Rattle.vx_value.proofs.NestedLemmas.{fields_length}
use Rattle.vx_tree.specs.Tree.{Tree, slots_of, after_fields, fields_refusal, struct_slots_refusal}
use Rattle.vx_tree.specs.Conditions.{first_of_both, unless}
use Rattle.vx_tree.specs.Well.{shape_of, shapes}

shapes_counted : (xs : List (Option Tree)) → length (shapes (slots_of xs)) ≡ length xs
shapes_counted [] = refl
shapes_counted (None ∷ xs) = omega (arith, shapes_counted xs)
shapes_counted (Some t ∷ xs) = omega (arith, shapes_counted xs)

-- the shape behind those of as many slots as there are fields
pub behind : (fs : Fields) (xs : List (Option Tree)) (v : Option Tree) → length xs ≡ fields_count fs
    → after_fields fs (shapes (slots_of (xs ++ v ∷ []))) ≡ option_map shape_of v
behind type.no_fields [] None h = refl
behind type.no_fields [] (Some t) h = refl
behind type.no_fields (x ∷ xs) v h = absurd (omega arith)
behind (type.field name t fs) [] v h = absurd (omega arith)
behind (type.field name t fs) (None ∷ xs) v h = behind fs xs v (omega arith)
behind (type.field name t fs) (Some x ∷ xs) v h = behind fs xs v (omega arith)

-- without slots the validity's is missing
no_slots_refused : (fs : Fields) (m : Nullability) (n : ℕ) → struct_slots_refusal fs m n [] ≡ Some (InvalidArgument SlotCount)
no_slots_refused fs m n = by (0 == fields_count fs + 1) refl
  where
    by : (b : Bool) → (0 == fields_count fs + 1) ≡ b → first_of_both (unless b (InvalidArgument SlotCount)) (fields_refusal fs m n [] (after_fields fs [])) ≡ Some (InvalidArgument SlotCount)
    by true h = let e : 0 ≡ fields_count fs + 1 = (unsigned_Decides 0 (fields_count fs + 1)).0 h in absurd (omega arith)
    by false h = refl

pub no_slots_by_slots : (fs : List Field) (m : Nullability) (n : ℕ) (xs : List (Option Tree)) → xs ≡ []
    → struct_slots_refusal (fields_of fs) m n (shapes (slots_of xs)) ≡ Some (InvalidArgument SlotCount)
no_slots_by_slots fs m n xs e = ap (λ ys. struct_slots_refusal (fields_of fs) m n (shapes (slots_of ys))) e ∙ no_slots_refused (fields_of fs) m n

module _ (fs : List Field) (m : Nullability) (n : ℕ) (rest : List (Option Tree)) (v : Option Tree) where
  counted : length (shapes (slots_of (rest ++ v ∷ []))) ≡ length rest + 1
  counted = shapes_counted (rest ++ v ∷ []) ∙ length-append rest (v ∷ [])

  split : struct_slots_refusal (fields_of fs) m n (shapes (slots_of (rest ++ v ∷ [])))
      ≡ first_of_both (unless (length rest == length fs) (InvalidArgument SlotCount))
      (fields_refusal (fields_of fs) m n (shapes (slots_of (rest ++ v ∷ []))) (option_map shape_of v))
  split = by (length rest == length fs) refl (length (shapes (slots_of (rest ++ v ∷ []))) == fields_count (fields_of fs) + 1) refl
    where
      by : (b : Bool) → (length rest == length fs) ≡ b → (d : Bool) → (length (shapes (slots_of (rest ++ v ∷ []))) == fields_count (fields_of fs) + 1) ≡ d
          → first_of_both (unless d (InvalidArgument SlotCount)) (fields_refusal (fields_of fs) m n (shapes (slots_of (rest ++ v ∷ []))) (after_fields (fields_of fs) (shapes (slots_of (rest ++ v ∷ [])))))
          ≡ first_of_both (unless b (InvalidArgument SlotCount)) (fields_refusal (fields_of fs) m n (shapes (slots_of (rest ++ v ∷ []))) (option_map shape_of v))
      by true h true k =
          let same : length rest ≡ length fs = (unsigned_Decides _ _).0 h in
          ap (fields_refusal (fields_of fs) m n (shapes (slots_of (rest ++ v ∷ [])))) (behind (fields_of fs) rest v (same ∙ sym (fields_length fs)))
      by true h false k =
          let same : length rest ≡ length fs = (unsigned_Decides _ _).0 h in
          absurd (false≢true (sym k ∙ (unsigned_Decides _ _).1 (omega (arith, counted, same, fields_length fs))))
      by false h true k =
          let same : length (shapes (slots_of (rest ++ v ∷ []))) ≡ fields_count (fields_of fs) + 1 = (unsigned_Decides _ _).0 k in
          absurd (false≢true (sym h ∙ (unsigned_Decides _ _).1 (omega (arith, counted, same, fields_length fs))))
      by false h false k = refl

pub split_by_slots : (fs : List Field) (m : Nullability) (n : ℕ) (xs rest : List (Option Tree)) (v : Option Tree) → xs ≡ rest ++ v ∷ []
    → struct_slots_refusal (fields_of fs) m n (shapes (slots_of xs))
    ≡ first_of_both (unless (length rest == length fs) (InvalidArgument SlotCount))
    (fields_refusal (fields_of fs) m n (shapes (slots_of xs)) (option_map shape_of v))
split_by_slots fs m n xs rest v e =
    ap (λ ys. struct_slots_refusal (fields_of fs) m n (shapes (slots_of ys))) e ∙ split fs m n rest v
    ∙ ap (λ ys. first_of_both (unless (length rest == length fs) (InvalidArgument SlotCount)) (fields_refusal (fields_of fs) m n (shapes (slots_of ys)) (option_map shape_of v))) (sym e)

pub ruleset by_slots = (no_slots_by_slots, split_by_slots)
