-- Equality of types and of their parts, from that of their codes.
use Rattle.std.proofs.Common.{◌≡◌, ◌≢◌, ℕ, suc, ◌+◌, ◌<◌, Bool, true, false, ◌&&◌, ◌==◌, List, [], ◌∷◌, length, drop}
use Rattle.std.proofs.Common.{refl, sym, ◌∙◌, ap}
use Rattle.std.specs.Prelude.{◌↔◌, IsTrue}
use Rattle.std.proofs.Math.ListN.{get_or}
use Rattle.std.proofs.lemmas.List.{drop_more}
use Rattle.std.proofs.lemmas.Bool.Decides.{same_from_decides}
use Rattle.std.specs.Str.{bytes_eq}
use Rattle.vx_value.specs.Codes.{same_code, same_code_Decides, coded_back, bytes_code}
use Rattle.vx_value.specs.Types.{DataType, same_type, same_type_Decides, same_fields, same_variants}
use Rattle.vx_value.specs.Types.{same_nullability, same_nullability_Decides, same_ptype, same_ptype_Decides}
use Rattle.vx_value.specs.Types.{nullability_code, nullability_in, nullability_back, ptype_code, ptype_in, ptype_back}
use Rattle.vx_value.specs.Nested.{entry_type}
use Rattle.vx_value.specs.Sames.{same_variant}
use Rattle.vx_value.specs.View.{type_of, fields_of, variants_of}
use Rattle.vx_value.specs.declared.dtype.Nullability.{Nullability}
use Rattle.vx_value.specs.declared.dtype.PType.{PType}
use Rattle.vx_value.specs.declared.nested.Field.{Field}
use Rattle.vx_value.specs.declared.nested.UnionVariant.{UnionVariant}

pub types_equal : (s t : DataType) → IsTrue (same_type s t) ↔ (s ≡ t)
types_equal = same_type_Decides

-- ---- of the smaller parts

pub nullabilities_same : (m n : Nullability) → same_nullability m n ≡ same_code (nullability_code m) (nullability_code n)
nullabilities_same m n =
    same_from_decides _ _ (same_nullability_Decides m n) (same_code_Decides (coded_back nullability_code nullability_in nullability_back) m n)

pub ptypes_same : (p q : PType) → same_ptype p q ≡ same_code (ptype_code p) (ptype_code q)
ptypes_same p q = same_from_decides _ _ (same_ptype_Decides p q) (same_code_Decides (coded_back ptype_code ptype_in ptype_back) p q)

pub texts_same : (xs ys : List ℕ) → bytes_eq xs ys ≡ same_code (bytes_code xs) (bytes_code ys)
texts_same [] [] = refl
texts_same [] (y ∷ ys) = refl
texts_same (x ∷ xs) [] = refl
texts_same (x ∷ xs) (y ∷ ys) = ap (λ b. (x == y) && b) (texts_same xs ys)

pub and_true : (b : Bool) → (b && true) ≡ b
and_true true = refl
and_true false = refl

and_false : (b : Bool) → false ≡ (b && false)
and_false true = refl
and_false false = refl

tidied : (a b : Bool) → (((a && (b && true)) && true) && true) ≡ (a && b)
tidied true true = refl
tidied true false = refl
tidied false b = refl

-- of two maps, by the types of their entries
pub entries_same : (k v j w : DataType) → same_type (entry_type k v) (entry_type j w) ≡ (same_type k j && same_type v w)
entries_same k v j w = tidied (same_type k j) (same_type v w)

-- ---- of lists of parts

pub fields_differ : (fs gs : List Field) → length fs ≢ length gs → false ≡ same_fields (fields_of fs) (fields_of gs)
fields_differ [] [] n = absurd (n refl)
fields_differ [] (g ∷ gs) n = refl
fields_differ (f ∷ fs) [] n = refl
fields_differ (f ∷ fs) (g ∷ gs) n =
    let e : false ≡ same_fields (fields_of fs) (fields_of gs) = fields_differ fs gs (λ e. n (ap suc e)) in
    let names : Bool = same_code (bytes_code f.name) (bytes_code g.name) in
    let types : Bool = same_type (type_of f.dtype) (type_of g.dtype) in
    and_false names ∙ ap (λ b. names && b) (and_false types ∙ ap (λ b. types && b) e)

pub fields_at : (fs gs : List Field) (i : ℕ) (f g : Field) → i < length fs → i < length gs
    → same_fields (fields_of (drop i fs)) (fields_of (drop i gs))
    ≡ (same_code (bytes_code (get_or fs i f).name) (bytes_code (get_or gs i g).name)
    && (same_type (type_of (get_or fs i f).dtype) (type_of (get_or gs i g).dtype)
    && same_fields (fields_of (drop (i + 1) fs)) (fields_of (drop (i + 1) gs))))
fields_at fs gs i f g p q =
    ap (λ xs. same_fields (fields_of xs) (fields_of (drop i gs))) (drop_more fs i f p)
    ∙ ap (λ ys. same_fields (fields_of (get_or fs i f ∷ drop (i + 1) fs)) (fields_of ys)) (drop_more gs i g q)

-- `&&` groups to the right
regrouped : (a b c d : Bool) → (a && (b && (c && d))) ≡ ((a && (b && c)) && d)
regrouped true true true d = refl
regrouped true true false d = refl
regrouped true false c d = refl
regrouped false b c d = refl

pub variants_differ : (vs ws : List UnionVariant) → length vs ≢ length ws → false ≡ same_variants (variants_of vs) (variants_of ws)
variants_differ [] [] n = absurd (n refl)
variants_differ [] (w ∷ ws) n = refl
variants_differ (v ∷ vs) [] n = refl
variants_differ (v ∷ vs) (w ∷ ws) n =
    and_false (same_variant v w)
    ∙ ap (λ b. same_variant v w && b) (variants_differ vs ws (λ e. n (ap suc e)))
    ∙ sym (regrouped (v.tag == w.tag) (same_code (bytes_code v.name) (bytes_code w.name)) (same_type (type_of v.dtype) (type_of w.dtype))
    (same_variants (variants_of vs) (variants_of ws)))

-- two variants at a place decide together with those after them
pub variants_at : (vs ws : List UnionVariant) (i : ℕ) (v w : UnionVariant) (b : Bool) → i < length vs → i < length ws
    → v ≡ get_or vs i v → w ≡ get_or ws i w → b ≡ same_variant v w
    → same_variants (variants_of (drop i vs)) (variants_of (drop i ws))
    ≡ (b && same_variants (variants_of (drop (i + 1) vs)) (variants_of (drop (i + 1) ws)))
variants_at vs ws i v w b p q left right e =
    ap (λ xs. same_variants (variants_of xs) (variants_of (drop i ws)))
    (drop_more vs i v p ∙ ap (λ x. x ∷ drop (i + 1) vs) (sym left))
    ∙ ap (λ ys. same_variants (variants_of (v ∷ drop (i + 1) vs)) (variants_of ys))
    (drop_more ws i w q ∙ ap (λ x. x ∷ drop (i + 1) ws) (sym right))
    ∙ regrouped (v.tag == w.tag) (same_code (bytes_code v.name) (bytes_code w.name)) (same_type (type_of v.dtype) (type_of w.dtype))
    (same_variants (variants_of (drop (i + 1) vs)) (variants_of (drop (i + 1) ws)))
    ∙ ap (λ a. a && same_variants (variants_of (drop (i + 1) vs)) (variants_of (drop (i + 1) ws))) (sym e)
