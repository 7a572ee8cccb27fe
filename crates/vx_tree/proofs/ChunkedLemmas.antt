-- Chunked arrays: their parts, and what their constructor makes.
use Rattle.std.proofs.Common.{◌≡◌, ℕ, ◌<◌, ◌^◌, List, [], ◌∷◌, length, map, Bool, true, false, arith, Option, Some, None, refl, sym, ap, subst, ◌∙◌}
use Rattle.std.specs.Prelude.{sum, ◌==◌}
use Rattle.vx_value.specs.declared.error.VortexError.{VortexError}
use Rattle.std.specs.Cmp.{unsigned_Decides}
use Rattle.vx_value.specs.Types.{DataType}
use Rattle.vx_tree.specs.Tree as enc
use Rattle.vx_tree.specs.Tree.{Tree, node, slots_of, filled_slots, len, chunked_of, chunks_refusal, chunked_refusal, joined_refusal}
use Rattle.vx_tree.specs.Well.{Shape, shapes, IsNode}
use Rattle.vx_tree.specs.SlotTypes.{of_lengths, lengths_in, missing_refusal, type_refusal}
use Rattle.vx_tree.proofs.ConditionsLemmas.{none_refused, first_none, second_none, unless_none, none_unless}
use Rattle.vx_tree.proofs.SlotTypesLemmas.{of_type_kept, none_missing, none_other, lengths_back, none_missing_filled, lengths_filled, joined_past}

pub kept : (ty : DataType) (n : ℕ) (ss : List (Option Shape)) → chunked_refusal ty n ss ≡ None → IsNode ty n enc.chunked ss
kept ty n ss h =
    let later = second_none (missing_refusal 0 ss) _ h in
    let counted : n ≡ sum (lengths_in ss) = (unsigned_Decides n (sum (lengths_in ss))).0 (unless_none _ _ (second_none (type_refusal ty 0 ss) _ later)) in
    (lengths_in ss, of_type_kept ty 0 0 ss (first_none (missing_refusal 0 ss) _ h) (first_none (type_refusal ty 0 ss) _ later), counted)

pub taken : (ty : DataType) (n : ℕ) (ss : List (Option Shape)) → IsNode ty n enc.chunked ss → chunked_refusal ty n ss ≡ None
taken ty n ss h =
    let counted : n ≡ sum (lengths_in (of_lengths ty h.0)) = h.2 ∙ ap sum (sym (lengths_back ty h.0)) in
    let e : chunked_refusal ty n (of_lengths ty h.0) ≡ None =
    none_refused _ _ (none_missing ty 0 h.0) (none_refused _ _ (none_other ty 0 h.0) (none_unless _ _ ((unsigned_Decides n _).1 counted))) in
    subst (λ l. chunked_refusal ty n l ≡ None) (sym h.1) e

-- rows past usize::MAX are of no length
pub not_total : (n : ℕ) (ms : List ℕ) (e : VortexError) → n < 2 ^ 64 → joined_refusal 0 ms ≡ Some e → false ≡ (n == sum ms)
not_total n ms e h k = by_test (n == sum ms) refl
  where
    by_test : (b : Bool) → (n == sum ms) ≡ b → false ≡ b
    by_test true is = absurd (omega (arith, h, joined_past 0 ms e k, (unsigned_Decides n (sum ms)).0 is))
    by_test false is = refl

-- ---- the slots of these chunks, in which no type is refused
module _ (ty : DataType) (n : ℕ) (ts : List Tree) (xs : List (Option Tree)) (filled : slots_of xs ≡ filled_slots ts) where
  pub chunks_made : n ≡ sum (lengths_in (shapes (slots_of xs))) → node ty n enc.chunked (slots_of xs) ≡ chunked_of ty ts
  chunks_made counted =
      let total : n ≡ sum (map len ts) = counted ∙ ap (λ x. sum (lengths_in (shapes x))) filled ∙ ap sum (lengths_filled ts) in
      λ i. node ty (total i) enc.chunked (filled i)

  pub chunks_are_node : type_refusal ty 0 (shapes (slots_of xs)) ≡ None → n ≡ sum (lengths_in (shapes (slots_of xs))) → IsNode ty n enc.chunked (shapes (slots_of xs))
  chunks_are_node typed counted =
      let present : missing_refusal 0 (shapes (slots_of xs)) ≡ None = ap (λ x. missing_refusal 0 (shapes x)) filled ∙ none_missing_filled 0 ts in
      (lengths_in (shapes (slots_of xs)), of_type_kept ty 0 0 (shapes (slots_of xs)) present typed, counted)

  pub chunks_types : type_refusal ty 0 (shapes (slots_of xs)) ≡ type_refusal ty 0 (shapes (filled_slots ts))
  chunks_types = ap (λ x. type_refusal ty 0 (shapes x)) filled

  pub chunks_joined : joined_refusal 0 (lengths_in (shapes (slots_of xs))) ≡ joined_refusal 0 (map len ts)
  chunks_joined = ap (λ x. joined_refusal 0 (lengths_in (shapes x))) filled ∙ ap (joined_refusal 0) (lengths_filled ts)

-- what the constructor needs
pub ruleset chunks = (chunks_made, chunks_are_node, chunks_types, chunks_joined)
