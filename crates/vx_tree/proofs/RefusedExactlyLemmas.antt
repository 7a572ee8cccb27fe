-- The parts of a node are refused exactly if they break its conditions.
use Rattle.std.proofs.Common.{◌≡◌, ℕ, List, [], ◌∷◌, length, Bool, true, Option, None, refl, sym, subst}
use Rattle.std.specs.Cmp.{unsigned_Decides}
use Rattle.vx_value.specs.Types.{DataType, null, bool, primitive, nullability_of, same_type_Decides}
use Rattle.vx_value.specs.Nullabilities.{with_nullability}
use Rattle.vx_value.specs.Typed.{Typed}
use Rattle.vx_value.specs.declared.dtype.Nullability.TheVariants.{NonNullable}
use Rattle.vx_value.specs.Storage.{storage_of}
use Rattle.vx_value.specs.declared.id.Id.{Id}
use Rattle.vx_value.proofs.NullabilitiesLemmas.{alike_but_nullability, same_but_set}
use Rattle.vx_tree.specs.ColumnTypes.{bytes_type, decimal_type, are_decimals_of, are_views_of}
use Rattle.vx_tree.specs.Tree as enc
use Rattle.vx_tree.specs.Tree.{Data, column, id_of, constant_refusal, nulls_refusal, laid_out}
use Rattle.vx_tree.specs.Well.{IsFlat, IsNode, Shape}
use Rattle.vx_tree.specs.Refusals.{tested_refusal, refusal, column_refusal}
use Rattle.vx_tree.specs.declared.array.layout.Layout.{Layout}
use Rattle.vx_tree.specs.declared.array.layout.Layout.TheVariants as layout
use Rattle.vx_tree.proofs.ConditionsLemmas.{none_refused, first_none, second_none, unless_none, none_unless}
use Rattle.vx_tree.proofs.RefusalsLemmas.{validity_kept, validity_taken}

column_kept : (ty : DataType) (n : ℕ) (of_type : DataType) (k : ℕ) (ss : List (Option Shape)) → column_refusal ty n of_type k ss ≡ None
    → IsFlat of_type k ty n ss
column_kept ty n of_type k [] h = absurd (cc)
column_kept ty n of_type k (s ∷ []) h =
    let later = second_none _ _ h in
    let lengths = second_none _ _ later in
    let typed : ty ≡ with_nullability (nullability_of ty) of_type = alike_but_nullability ty of_type (unless_none _ _ (first_none _ _ h)) in
    let counted : n ≡ k = (unsigned_Decides n k).0 (unless_none _ _ (first_none _ _ lengths)) in
    (s, typed, counted, refl, validity_kept 0 (nullability_of ty) n s (first_none _ _ later) (second_none _ _ lengths))
column_kept ty n of_type k (s ∷ r ∷ ss) h = absurd (cc)

column_taken : (ty : DataType) (n : ℕ) (of_type : DataType) (k : ℕ) (ss : List (Option Shape)) → IsFlat of_type k ty n ss
    → column_refusal ty n of_type k ss ≡ None
column_taken ty n of_type k ss h =
    let typed = none_unless _ _ (same_but_set (nullability_of ty) ty of_type h.1) in
    let counted = none_unless _ _ ((unsigned_Decides n k).1 h.2) in
    let valid = validity_taken 0 (nullability_of ty) n h.0 h.4 in
    let e : column_refusal ty n of_type k (h.0 ∷ []) ≡ None = none_refused _ _ typed (none_refused _ _ valid.0 (none_refused _ _ counted valid.1)) in
    subst (λ l. column_refusal ty n of_type k l ≡ None) (sym h.3) e

-- a column whose values pass a test
tested_decided : (ty : DataType) (n : ℕ) (of_type : DataType) (k : ℕ) (pass : Bool) (ss : List (Option Shape)) →
    ((i : Id) → tested_refusal ty n of_type k pass ss ≡ None → IsFlat of_type k ty n ss × (pass ≡ true))
    × (IsFlat of_type k ty n ss × (pass ≡ true) → tested_refusal ty n of_type k pass ss ≡ None)
tested_decided ty n of_type k pass ss = (
  λ i h. (column_kept ty n of_type k ss (first_none _ _ h), unless_none _ _ (second_none _ _ h)),
  λ h. none_refused _ _ (column_taken ty n of_type k ss h.0) (none_unless _ _ h.1),
)

constant_kept : (ty : DataType) (n : ℕ) (v : Typed) (ss : List (Option Shape)) →
    constant_refusal ty v ss ≡ None → IsNode ty n (enc.constant v) ss
constant_kept ty n v [] h =
    let later = second_none _ _ h in
    let typed : ty ≡ v.of_type = (same_type_Decides ty v.of_type).0 (unless_none _ _ (first_none _ _ h)) in
    (typed, unless_none _ _ later, refl)
constant_kept ty n v (s ∷ ss) h = absurd (cc)

constant_taken : (ty : DataType) (n : ℕ) (v : Typed) (ss : List (Option Shape)) →
    IsNode ty n (enc.constant v) ss → constant_refusal ty v ss ≡ None
constant_taken ty n v ss h =
    let typed = none_unless _ _ ((same_type_Decides ty v.of_type).1 h.0) in
    let e : constant_refusal ty v [] ≡ None = none_refused _ _ typed (none_unless _ _ h.1) in
    subst (λ l. constant_refusal ty v l ≡ None) (sym h.2) e

nulls_kept : (ty : DataType) (n : ℕ) (ss : List (Option Shape)) → nulls_refusal ty ss ≡ None → IsNode ty n enc.nulls ss
nulls_kept ty n [] h = ((same_type_Decides ty null).0 (unless_none _ _ h), refl)
nulls_kept ty n (s ∷ ss) h = absurd (cc)

nulls_taken : (ty : DataType) (n : ℕ) (ss : List (Option Shape)) → IsNode ty n enc.nulls ss → nulls_refusal ty ss ≡ None
nulls_taken ty n ss h =
    let e : nulls_refusal ty [] ≡ None = none_unless _ _ ((same_type_Decides ty null).1 h.0) in
    subst (λ l. nulls_refusal ty l ≡ None) (sym h.1) e

-- a line for each layout
layout_kept : (l : Layout) (ty : DataType) (n : ℕ) (ss : List (Option Shape)) → (laid_out l).refusal ty n ss ≡ None → IsNode ty n (enc.composed l) ss
layout_kept layout.Struct = Rattle.vx_tree.proofs.StructLemmas.kept
layout_kept layout.Extension = Rattle.vx_tree.proofs.ExtensionLemmas.kept

layout_taken : (l : Layout) (ty : DataType) (n : ℕ) (ss : List (Option Shape)) → IsNode ty n (enc.composed l) ss → (laid_out l).refusal ty n ss ≡ None
layout_taken layout.Struct = Rattle.vx_tree.proofs.StructLemmas.taken
layout_taken layout.Extension = Rattle.vx_tree.proofs.ExtensionLemmas.taken

-- parts that aren't refused meet the conditions, and those that meet them aren't refused under their own id: a line for each encoding
decided : (ty : DataType) (n : ℕ) (d : Data) (ss : List (Option Shape)) →
    ((i : Id) → refusal i ty n d ss ≡ None → IsNode ty n d ss) × (IsNode ty n d ss → refusal (id_of d) ty n d ss ≡ None)
decided ty n (enc.constant v) ss = (λ i. constant_kept ty n v ss, constant_taken ty n v ss)
decided ty n (enc.slice a b) ss = (λ i. Rattle.vx_tree.proofs.SliceLemmas.kept ty n a b ss, Rattle.vx_tree.proofs.SliceLemmas.taken ty n a b ss)
decided ty n (enc.filter bits) ss = (λ i. Rattle.vx_tree.proofs.FilterLemmas.kept ty n bits ss, Rattle.vx_tree.proofs.FilterLemmas.taken ty n bits ss)
decided ty n enc.masked ss = (λ i. Rattle.vx_tree.proofs.MaskedLemmas.kept ty n ss, Rattle.vx_tree.proofs.MaskedLemmas.taken ty n ss)
decided ty n enc.is_valid ss = (λ i. Rattle.vx_tree.proofs.ScalarFnValidityLemmas.kept ty n ss, Rattle.vx_tree.proofs.ScalarFnValidityLemmas.taken ty n ss)
decided ty n (enc.function f) ss = (λ i. Rattle.vx_tree.proofs.ScalarFnLemmas.kept i ty n f ss, Rattle.vx_tree.proofs.ScalarFnLemmas.taken ty n f ss)
decided ty n enc.dict ss = (λ i. Rattle.vx_tree.proofs.DictLemmas.kept ty n ss, Rattle.vx_tree.proofs.DictLemmas.taken ty n ss)
decided ty n enc.chunked ss = (λ i. Rattle.vx_tree.proofs.ChunkedLemmas.kept ty n ss, Rattle.vx_tree.proofs.ChunkedLemmas.taken ty n ss)
decided ty n enc.interleave ss = (λ i. Rattle.vx_tree.proofs.InterleaveLemmas.kept ty n ss, Rattle.vx_tree.proofs.InterleaveLemmas.taken ty n ss)
decided ty n enc.nulls ss = (λ i. nulls_kept ty n ss, nulls_taken ty n ss)
decided ty n (enc.bool bs) ss = (λ i. column_kept ty n (bool NonNullable) _ ss, column_taken ty n (bool NonNullable) _ ss)
decided ty n (enc.primitive p zs) ss = (λ i. column_kept ty n (primitive p NonNullable) _ ss, column_taken ty n (primitive p NonNullable) _ ss)
decided ty n (enc.decimals w zs) ss = tested_decided ty n (decimal_type (storage_of ty)) (length zs) (are_decimals_of (storage_of ty) w zs) ss
decided ty n (enc.views rs) ss = tested_decided ty n (bytes_type (storage_of ty)) (length rs.views) (are_views_of (storage_of ty) rs) ss
decided ty n (enc.composed l) ss = (λ i. layout_kept l ty n ss, layout_taken l ty n ss)

pub node_unless_refused : (i : Id) (ty : DataType) (n : ℕ) (d : Data) (ss : List (Option Shape)) →
    refusal i ty n d ss ≡ None → IsNode ty n d ss
node_unless_refused i ty n d ss = (decided ty n d ss).0 i

pub refused_unless_node : (ty : DataType) (n : ℕ) (d : Data) (ss : List (Option Shape)) → IsNode ty n d ss → refusal (id_of d) ty n d ss ≡ None
refused_unless_node ty n d ss = (decided ty n d ss).1
