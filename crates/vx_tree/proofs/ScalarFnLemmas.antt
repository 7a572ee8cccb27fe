-- The node of a function: its parts, and which of its rows are null.
use Rattle.std.proofs.Common.{◌≡◌, ℕ, List, [], ◌∷◌, length, map, Bool, true, false, Option, Some, None, refl, sym, ap, subst, ◌∙◌}
use Rattle.std.proofs.lemmas.List.{length-map}
use Rattle.std.specs.Cmp.{unsigned_Decides}
use Rattle.std.specs.Prelude.{◌==◌}
use Rattle.vx_value.specs.Types.{DataType, nullability_of, is_nullable, same_type_Decides}
use Rattle.vx_value.specs.Values.{null}
use Rattle.vx_value.specs.Cell.{Cell, value, fault}
use Rattle.vx_value.specs.declared.dtype.Nullability.{Nullability}
use Rattle.vx_value.specs.declared.dtype.Nullability.TheVariants.{NonNullable, Nullable}
use Rattle.vx_value.specs.declared.error.VortexError.TheVariants.{InvalidArgument}
use Rattle.vx_value.specs.declared.error.ArgKind.TheVariants.{FnSlotMissing, NodeType}
use Rattle.vx_value.specs.declared.id.Id.{Id}
use Rattle.vx_value.specs.Ids.{same_id, same_id_Decides}
use Rattle.vx_fn.specs.declared.function.ScalarFnRef.{ScalarFnRef}
use Rattle.vx_fn.specs.Functions.{arity, function_id}
use Rattle.vx_fn.specs.ReturnTypes.{return_type}
use Rattle.vx_fn.proofs.ReturnTypesLemmas.{arity_of_row}
use Rattle.vx_tree.specs.Tree as enc
use Rattle.vx_tree.specs.Tree.{Tree, Data, Slots, node, dtype, datum, dict_of, validity_in, function_refusal, slots_refusal, types_refusal, lengths_refusal}
use Rattle.vx_tree.specs.Tree.{result_refusal}
use Rattle.vx_tree.specs.Tree.{arity_refusal}
use Rattle.vx_tree.specs.Tree.{all_present}
use Rattle.vx_tree.specs.Tree.{types_in}
use Rattle.vx_tree.specs.Well.{shape, IsNode, IsWell, Shape}
use Rattle.vx_tree.specs.Cells.{rows, shown_cell, HasNoFault}
use Rattle.vx_tree.specs.NodeValidities.{if_nullable, data_validity, first_validity, node_validity}
use Rattle.vx_tree.specs.declared.validity.Validity.TheVariants as validity
use Rattle.vx_tree.specs.Conditions.{unless, first_of_both}
use Rattle.vx_tree.proofs.KeepsLemmas.{rows_refl}
use Rattle.vx_tree.proofs.ConditionsLemmas.{none_refused, first_none, second_none, unless_none, none_unless}
use Rattle.vx_tree.proofs.RefusalsLemmas.{shapes_of_types, present_types, long_types, types_back, result_none}
use Rattle.vx_tree.proofs.TellsLemmas.{Tells}
use Rattle.vx_tree.proofs.ValiditiesLemmas.{whole}

-- ---- its parts, which aren't refused if they meet its conditions, and else are

pub kept : (i : Id) (ty : DataType) (n : ℕ) (f : ScalarFnRef) (ss : List (Option Shape)) →
    function_refusal i ty n f ss ≡ None → IsNode ty n (enc.function f) ss
kept i ty n f ss h =
    let later : first_of_both (types_refusal i ty f ss) (lengths_refusal n ss) ≡ None = second_none (slots_refusal f ss) _ h in
    let slots : slots_refusal f ss ≡ None = first_none (slots_refusal f ss) (first_of_both (types_refusal i ty f ss) (lengths_refusal n ss)) h in
    let types : types_refusal i ty f ss ≡ None = first_none (types_refusal i ty f ss) (lengths_refusal n ss) later in
    let lengths : lengths_refusal n ss ≡ None = second_none (types_refusal i ty f ss) (lengths_refusal n ss) later in
    let present : unless (all_present ss) (InvalidArgument FnSlotMissing) ≡ None = first_none _ (arity_refusal f (length ss)) slots in
    let typed = second_none (unless (same_id i (function_id f)) (InvalidArgument NodeType)) (result_refusal ty (return_type f (types_in ss))) types in
    let result = result_none ty (return_type f (types_in ss)) typed in
    (types_in ss, shapes_of_types n ss (unless_none _ _ present) (unless_none _ _ lengths), result)

pub taken : (ty : DataType) (n : ℕ) (f : ScalarFnRef) (ss : List (Option Shape)) →
    IsNode ty n (enc.function f) ss → function_refusal (function_id f) ty n f ss ≡ None
taken ty n f ss h =
    let tys = h.0 in
    let made = map (λ s. Some (shape s n)) tys in
    let counted : length made ≡ arity f = length-map tys (λ s. Some (shape s n)) ∙ arity_of_row f tys ty h.2 in
    let count : (length made == arity f) ≡ true = (unsigned_Decides (length made) (arity f)).1 counted in
    let typed : return_type f (types_in made) ≡ Some ty = ap (return_type f) (types_back n tys) ∙ h.2 in
    let result : result_refusal ty (return_type f (types_in made)) ≡ None =
    ap (result_refusal ty) typed ∙ none_unless _ _ ((same_type_Decides ty ty).1 refl) in
    let slots : slots_refusal f made ≡ None = none_refused _ _ (none_unless _ _ (present_types n tys)) (none_unless _ _ count) in
    let named : unless (same_id (function_id f) (function_id f)) (InvalidArgument NodeType) ≡ None =
    none_unless _ _ ((same_id_Decides (function_id f) (function_id f)).1 refl) in
    let types : types_refusal (function_id f) ty f made ≡ None = none_refused _ _ named result in
    let lengths : lengths_refusal n made ≡ None = none_unless _ _ (long_types n tys) in
    let e : function_refusal (function_id f) ty n f made ≡ None =
    none_refused (slots_refusal f made) _ slots (none_refused (types_refusal (function_id f) ty f made) _ types lengths) in
    subst (λ l. function_refusal (function_id f) ty n f l ≡ None) (sym h.1) e

-- ---- which of its rows are null

pub tested_tells : (t : Tree) → IsWell t → nullability_of (dtype t) ≡ Nullable → Tells t (validity.Array (validity_in t))
tested_tells t w e =
    record {
      nullable = sym e;
      sized = (((dtype t, refl, refl), (w, tt)), refl, refl);
      told = rows_refl (map shown_cell (rows t));
      clean = λ c. (shown_clean (rows t) (whole t c), (c, tt));
    }
  where
    shown_clean : (cs : List Cell) → HasNoFault cs → HasNoFault (map shown_cell cs)
    shown_clean [] h = tt
    shown_clean (value null ∷ cs) h = shown_clean cs h
    shown_clean (value _ ∷ cs) h = shown_clean cs h
    shown_clean (fault ∷ cs) h = absurd h

-- the encodings whose validity is a test of themselves
abbrev tests_itself : Data → Bool
tests_itself (enc.function f) = true
tests_itself enc.dict = true
tests_itself enc.chunked = true
tests_itself enc.interleave = true
tests_itself _ = false

tested_node : (ty : DataType) (n : ℕ) (d : Data) (ss : Slots) (m : Nullability) → tests_itself d ≡ true → is_nullable m ≡ true
    → if_nullable m (data_validity ty n d ss (first_validity ss)) ≡ validity.Array (validity_in (node ty n d ss))
tested_node ty n d ss NonNullable h e = absurd (cc)
tested_node ty n (enc.function f) ss Nullable h e = refl
tested_node ty n enc.dict ss Nullable h e = refl
tested_node ty n enc.chunked ss Nullable h e = refl
tested_node ty n enc.interleave ss Nullable h e = refl
tested_node ty n _ ss Nullable h e = absurd (cc)

tested_told : (t : Tree) → tests_itself (datum t) ≡ true → is_nullable (nullability_of (dtype t)) ≡ true → node_validity t ≡ validity.Array (validity_in t)
tested_told (node ty n d ss) h e = tested_node ty n d ss (nullability_of ty) h e

pub function_told : (t : Tree) (ty : DataType) (n : ℕ) (f : ScalarFnRef) (ss : Slots) → t ≡ node ty n (enc.function f) ss
    → is_nullable (nullability_of (dtype t)) ≡ true → node_validity t ≡ validity.Array (validity_in t)
function_told t ty n f ss is e = tested_told t (ap (λ x. tests_itself (datum x)) is) e

pub dict_told : (t c v : Tree) → t ≡ dict_of c v → is_nullable (nullability_of (dtype t)) ≡ true → node_validity t ≡ validity.Array (validity_in t)
dict_told t c v is e = tested_told t (ap (λ x. tests_itself (datum x)) is) e

pub chunked_told : (t : Tree) (ty : DataType) (n : ℕ) (ss : Slots) → t ≡ node ty n enc.chunked ss → is_nullable (nullability_of (dtype t)) ≡ true
    → node_validity t ≡ validity.Array (validity_in t)
chunked_told t ty n ss is e = tested_told t (ap (λ x. tests_itself (datum x)) is) e

pub interleave_told : (t : Tree) (ty : DataType) (n : ℕ) (ss : Slots) → t ≡ node ty n enc.interleave ss → is_nullable (nullability_of (dtype t)) ≡ true
    → node_validity t ≡ validity.Array (validity_in t)
interleave_told t ty n ss is e = tested_told t (ap (λ x. tests_itself (datum x)) is) e

-- a node whose validity is a test of itself
pub ruleset told_by_test = (function_told, dict_told, chunked_told, interleave_told)
