-- Functions of constants: the rows K1 to K4.
use Rattle.std.proofs.Common.{◌≡◌, ℕ, zero, suc, ◌<◌, List, [], ◌∷◌, ◌++◌, length, map, get_or, Option, Some, None, true, refl, sym, subst, ap, ◌∙◌, arith}
use Rattle.vx_value.specs.Types.{DataType}
use Rattle.vx_value.specs.Typed.{Typed}
use Rattle.vx_value.specs.Cell.{value, fault}
use Rattle.vx_fn.specs.Apply.{apply}
use Rattle.vx_fn.specs.Functions.{meaning, arity}
use Rattle.vx_fn.specs.ReturnTypes.{return_type}
use Rattle.vx_fn.specs.declared.function.ScalarFnRef.{ScalarFnRef}
use Rattle.vx_fn.specs.declared.function.ScalarFnRef.TheVariants as fn_of
use Rattle.vx_tree.specs.Tree as enc
use Rattle.vx_tree.specs.Tree.{Tree, Data, Slots, node, no_slots, absent, slot, slots_of, dtype, datum, constant_of}
use Rattle.vx_tree.specs.Well.{shape, shapes, IsNode, IsWell, AreWell}
use Rattle.vx_tree.proofs.SlotsLemmas.{no_shapes}
use Rattle.vx_rule.specs.Rules.{Row, IsQuiet, constants, G1, G2, G3, G4, G4_masked, M1, K1, K2, K3, K4}
use Rattle.vx_rule.specs.Constants.{folds, data_value, slot_value, with_value, constant_values, IsFolded}
use Rattle.vx_rule.proofs.FitsLemmas.{row_by}

-- ---- slots that hold constants

value_is : (d : Data) (o : Option (List Typed)) (vs : List Typed) → with_value (data_value d) o ≡ Some vs
    → (v : Typed) × (ws : List Typed) × (d ≡ enc.constant v) × (o ≡ Some ws) × (vs ≡ v ∷ ws)
value_is (enc.constant v) (Some ws) vs e = let h : v ∷ ws ≡ vs = cc in (v, ws, refl, refl, sym h)
value_is (enc.constant v) None vs e = absurd (cc)
value_is _ o vs e = absurd (cc)

-- a constant has no slots
constant_tree : (t : Tree) (v : Typed) → IsWell t → datum t ≡ enc.constant v → (s : DataType) × (k : ℕ) × (t ≡ node s k (enc.constant v) no_slots)
constant_tree (node ty n (enc.constant u) ss) v w e = (ty, n, λ i. node ty n (e i) (no_shapes ss w.0.2 i))
constant_tree (node ty n _ ss) v w e = absurd (cc)

-- the first slot holds one, and the others too
first_constant : (t : Tree) (ss : Slots) (vs : List Typed) → IsWell t → constant_values (slot t ss) ≡ Some vs
    → (s : DataType) × (k : ℕ) × (v : Typed) × (ws : List Typed) × (t ≡ node s k (enc.constant v) no_slots) × (constant_values ss ≡ Some ws) × (vs ≡ v ∷ ws)
first_constant t ss vs w e =
    let found = value_is (datum t) (constant_values ss) vs e in
    let tree = constant_tree t found.0 w found.2 in
    (tree.0, tree.1, found.0, found.1, tree.2, found.3, found.4)

abbrev one : DataType → ℕ → Typed → Slots → Slots
one s k v ss = slot (node s k (enc.constant v) no_slots) ss

ending : (ss : Slots) (vs : List Typed) → length (shapes ss) ≡ 0 → constant_values ss ≡ Some vs → (ss ≡ no_slots) × (vs ≡ [])
ending no_slots vs c e = (refl, cc)
ending (absent ss) vs c e = absurd (omega (arith, c))
ending (slot t ss) vs c e = absurd (omega (arith, c))

one_constant : (ss : Slots) (vs : List Typed) → AreWell ss → length (shapes ss) ≡ 1 → constant_values ss ≡ Some vs
    → (s : DataType) × (k : ℕ) × (v : Typed) × (ss ≡ one s k v no_slots) × (vs ≡ v ∷ [])
one_constant no_slots vs w c e = absurd (omega (arith, c))
one_constant (absent ss) vs w c e = absurd (cc)
one_constant (slot t ss) vs w c e =
    let h = first_constant t ss vs w.0 e in
    let r = ending ss h.3 (omega (arith, c)) h.5 in
    (h.0, h.1, h.2, λ i. slot (h.4 i) (r.0 i), h.6 ∙ ap (λ ws. h.2 ∷ ws) r.1)

two_constants : (ss : Slots) (vs : List Typed) → AreWell ss → length (shapes ss) ≡ 2 → constant_values ss ≡ Some vs
    → (s : DataType) × (j : ℕ) × (x : Typed) × (t : DataType) × (k : ℕ) × (y : Typed) × (ss ≡ one s j x (one t k y no_slots)) × (vs ≡ x ∷ y ∷ [])
two_constants no_slots vs w c e = absurd (omega (arith, c))
two_constants (absent ss) vs w c e = absurd (cc)
two_constants (slot t ss) vs w c e =
    let h = first_constant t ss vs w.0 e in
    let r = one_constant ss h.3 w.1 (omega (arith, c)) h.5 in
    (h.0, h.1, h.2, r.0, r.1, r.2, λ i. slot (h.4 i) (r.3 i), h.6 ∙ ap (λ ws. h.2 ∷ ws) r.4)

three_constants : (ss : Slots) (vs : List Typed) → AreWell ss → length (shapes ss) ≡ 3 → constant_values ss ≡ Some vs
    → (s : DataType) × (i : ℕ) × (x : Typed) × (t : DataType) × (j : ℕ) × (y : Typed) × (u : DataType) × (k : ℕ) × (z : Typed)
    × (ss ≡ one s i x (one t j y (one u k z no_slots))) × (vs ≡ x ∷ y ∷ z ∷ [])
three_constants no_slots vs w c e = absurd (omega (arith, c))
three_constants (absent ss) vs w c e = absurd (cc)
three_constants (slot t ss) vs w c e =
    let h = first_constant t ss vs w.0 e in
    let r = two_constants ss h.3 w.1 (omega (arith, c)) h.5 in
    (h.0, h.1, h.2, r.0, r.1, r.2, r.3, r.4, r.5, λ i. slot (h.4 i) (r.6 i), h.6 ∙ ap (λ ws. h.2 ∷ ws) r.7)

-- one slot more
pub values_more : (xs : List (Option Tree)) (s : Option Tree) (vs : List Typed) (v : Typed) → constant_values (slots_of xs) ≡ Some vs → slot_value s ≡ Some v
    → constant_values (slots_of (xs ++ s ∷ [])) ≡ Some (vs ++ v ∷ [])
values_more [] None vs v e h = absurd (cc (h))
values_more [] (Some t) vs v e h = let none : [] ≡ vs = cc (e) in ap (λ o. with_value o (Some [])) h ∙ ap (λ us. Some (us ++ v ∷ [])) none
values_more (None ∷ xs) s vs v e h = absurd (cc (e))
values_more (Some t ∷ xs) s vs v e h =
    let r = value_is (datum t) (constant_values (slots_of xs)) vs e in
    ap (λ o. with_value (data_value (datum t)) o) (values_more xs s r.1 v r.3 h) ∙ ap (λ d. with_value (data_value d) (Some (r.1 ++ v ∷ []))) r.2
    ∙ ap (λ us. Some (us ++ v ∷ [])) (sym r.4)

lost : (o : Option Typed) → with_value o None ≡ None
lost None = refl
lost (Some v) = refl

-- one that holds none
pub values_none : (xs : List (Option Tree)) (i : ℕ) (d : Option Tree) → i < length xs → slot_value (get_or xs i d) ≡ None → constant_values (slots_of xs) ≡ None
values_none [] i d k h = absurd (omega (arith, k))
values_none (None ∷ xs) i d k h = refl
values_none (Some t ∷ xs) zero d k h = ap (λ o. with_value o (constant_values (slots_of xs))) h
values_none (Some t ∷ xs) (suc i) d k h = ap (λ o. with_value (data_value (datum t)) o) (values_none xs i d (omega (arith, k)) h) ∙ lost (data_value (datum t))

-- ---- their types

-- a well-formed constant has its value's type
constant_type : (t : Tree) (v : Typed) → IsWell t → datum t ≡ enc.constant v → dtype t ≡ v.of_type
constant_type (node ty n (enc.constant u) ss) v w e = let same : u ≡ v = cc (e) in w.0.0 ∙ ap (λ x. x.of_type) same
constant_type (node ty n _ ss) v w e = absurd (cc (e))

types_are : (n : ℕ) (ss : Slots) (tys : List DataType) (vs : List Typed) → AreWell ss → shapes ss ≡ map (λ s. Some (shape s n)) tys
    → constant_values ss ≡ Some vs
    → map (λ v. v.of_type) vs ≡ tys
types_are n no_slots [] vs w s e = let none : [] ≡ vs = cc (e) in ap (map (λ v. v.of_type)) (sym none)
types_are n no_slots (ty ∷ tys) vs w s e = absurd (cc (s))
types_are n (absent ss) tys vs w s e = absurd (cc (e))
types_are n (slot t ss) [] vs w s e = absurd (cc (s))
types_are n (slot t ss) (ty ∷ tys) vs w s e =
    let found = value_is (datum t) (constant_values ss) vs e in
    let typed : dtype t ≡ ty = cc (s) in
    let rest : shapes ss ≡ map (λ s. Some (shape s n)) tys = cc (s) in
    let first = sym (constant_type t found.0 w.0 found.2) ∙ typed in
    ap (map (λ v. v.of_type)) found.4 ∙ (λ i. first i ∷ types_are n ss tys found.1 w.1 rest found.3 i)

-- ---- the value of a function on them: t is its node over ss, and vs are the values in ss
module _ (ty : DataType) (n : ℕ) (f : ScalarFnRef) (ss : Slots) (t : Tree) (vs : List Typed) (well : IsWell t) (is : t ≡ node ty n (enc.function f) ss)
    (ok : IsNode ty n (enc.function f) (shapes ss)) (e : constant_values ss ≡ Some vs) where
  pub folded_type : return_type f (map (λ v. v.of_type) vs) ≡ Some ty
  folded_type =
      let w : IsWell (node ty n (enc.function f) ss) = subst IsWell is well in
      ap (return_type f) (types_are n ss ok.0 vs w.1 ok.1 e) ∙ ok.2

  pub folded_same : (x : Typed) → return_type f (map (λ v. v.of_type) vs) ≡ Some x.of_type → x.of_type ≡ ty
  folded_same x typed = cc (typed, folded_type)

  pub folded_value : (x : Typed) (u : Tree) → return_type f (map (λ v. v.of_type) vs) ≡ Some x.of_type
      → apply f (map (λ v. v.of_type) vs) x.of_type (map (λ v. value v.value) vs) ≡ value x.value → u ≡ constant_of x n → IsFolded f ty n ss (Some u)
  folded_value x u typed h made =
      let same : x.of_type ≡ ty = folded_same x typed in
      (vs, x.value, e, subst (λ s. apply f (map (λ v. v.of_type) vs) s (map (λ v. value v.value) vs) ≡ value x.value) same h, made ∙ ap (λ s. constants s x.value n) same)

  pub folded_none : ((s : DataType) → return_type f (map (λ v. v.of_type) vs) ≡ Some s → apply f (map (λ v. v.of_type) vs) s (map (λ v. value v.value) vs) ≡ fault)
      → IsFolded f ty n ss None
  folded_none all ws h =
      let same : vs ≡ ws = cc (e, h) in
      subst (λ us. apply f (map (λ v. v.of_type) us) ty (map (λ v. value v.value) us) ≡ fault) same (all ty folded_type)

-- ---- the rows

shaped : (n : ℕ) (tys : List DataType) → length (map (λ s. Some (shape s n)) tys) ≡ length tys
shaped n [] = refl
shaped n (ty ∷ tys) = ap suc (shaped n tys)

-- a function's node has as many slots as it takes arguments
pub counted : (ty : DataType) (n : ℕ) (f : ScalarFnRef) (ss : Slots) → IsNode ty n (enc.function f) (shapes ss) → length (shapes ss) ≡ arity f
counted ty n f ss w = ap length w.1 ∙ shaped n w.0 ∙ (meaning f).taken w.0 ty w.2

row_at : (ty : DataType) (n : ℕ) (f : ScalarFnRef) (ss ts : Slots) (u v : Tree) (os : List ℕ) → Row (Some 0) (node ty n (enc.function f) ts) u [] → ss ≡ ts
    → v ≡ u → os ≡ []
    → Row (Some 0) (node ty n (enc.function f) ss) v os
row_at ty n f ss ts u v os h e same none =
    row_by (Some 0) (node ty n (enc.function f) ts) (node ty n (enc.function f) ss) u v [] os h (ap (node ty n (enc.function f)) (sym e)) (sym same) (sym none)

fit_constants : (ty : DataType) (n : ℕ) (f : ScalarFnRef) (ss : Slots) (u x : Tree) (os : List ℕ) → AreWell ss → length (shapes ss) ≡ arity f → folds f ≡ true
    → IsFolded f ty n ss (Some x) → u ≡ x → os ≡ [] → Row (Some 0) (node ty n (enc.function f) ss) u os
fit_constants ty n (fn_of.Cast target) ss u x os w c h g e none =
    let r = one_constant ss g.0 w c g.2 in
    let f = fn_of.Cast target in
    row_at ty n f ss (one r.0 r.1 r.2 no_slots) (constants ty g.1 n) u os
    (K1 ty r.0 n r.1 target r.2 g.1 (sym (ap (λ vs. apply f (map (λ v. v.of_type) vs) ty (map (λ v. value v.value) vs)) r.4) ∙ g.3)) r.3 (e ∙ g.4) none
fit_constants ty n fn_of.Not ss u x os w c h g e none =
    let r = one_constant ss g.0 w c g.2 in
    row_at ty n fn_of.Not ss (one r.0 r.1 r.2 no_slots) (constants ty g.1 n) u os
    (K2 ty r.0 n r.1 r.2 g.1 (sym (ap (λ vs. apply fn_of.Not (map (λ v. v.of_type) vs) ty (map (λ v. value v.value) vs)) r.4) ∙ g.3)) r.3 (e ∙ g.4) none
fit_constants ty n (fn_of.Between options) ss u x os w c h g e none =
    let r = three_constants ss g.0 w c g.2 in
    let f = fn_of.Between options in
    row_at ty n f ss (one r.0 r.1 r.2 (one r.3 r.4 r.5 (one r.6 r.7 r.8 no_slots))) (constants ty g.1 n) u os
    (K3 ty r.0 r.3 r.6 n r.1 r.4 r.7 options r.2 r.5 r.8 g.1 (sym (ap (λ vs. apply f (map (λ v. v.of_type) vs) ty (map (λ v. value v.value) vs)) r.10) ∙ g.3)) r.9 (e ∙ g.4) none
fit_constants ty n fn_of.FillNull ss u x os w c h g e none =
    let r = two_constants ss g.0 w c g.2 in
    row_at ty n fn_of.FillNull ss (one r.0 r.1 r.2 (one r.3 r.4 r.5 no_slots)) (constants ty g.1 n) u os
    (K4 ty r.0 r.3 n r.1 r.4 r.2 r.5 g.1 (sym (ap (λ vs. apply fn_of.FillNull (map (λ v. v.of_type) vs) ty (map (λ v. value v.value) vs)) r.7) ∙ g.3)) r.6 (e ∙ g.4) none
fit_constants ty n _ ss u x os w c h g e none = absurd (cc (h))

pub fit_folded : (ty : DataType) (n : ℕ) (f : ScalarFnRef) (ss : Slots) (t u x : Tree) (os : List ℕ) → IsWell t → t ≡ node ty n (enc.function f) ss
    → IsNode ty n (enc.function f) (shapes ss) → folds f ≡ true → IsFolded f ty n ss (Some x) → u ≡ x → os ≡ [] → Row (Some 0) t u os
fit_folded ty n f ss t u x os w is ok h g e none =
    let well : IsWell (node ty n (enc.function f) ss) = subst IsWell is w in
    subst (λ y. Row (Some 0) y u os) (sym is) (fit_constants ty n f ss u x os well.1 (counted ty n f ss ok) h g e none)

folded_by : (ty : DataType) (n : ℕ) (f : ScalarFnRef) (ss : Slots) → folds f ≡ true → IsFolded f ty n ss None → IsQuiet (Some 0) (node ty n (enc.function f) ss)
folded_by ty n f ss h none u os (G1 ty' fty n' k name bits c) = absurd (cc (h))
folded_by ty n f ss h none u os (G2 ty' sty n' k a b name c) = absurd (cc (h))
folded_by ty n f ss h none u os (G3 ty' mty s n' k name c vs e) = absurd (cc (h))
folded_by ty n f ss h none u os (G4 ty' n' k name fs ts c e) = absurd (cc (h))
folded_by ty n f ss h none u os (G4_masked ty' n' k name fs ts c e) = absurd (cc (h))
folded_by ty n f ss h none u os (M1 ty' mty n' k c m vs) = absurd (cc (h))
folded_by ty n f ss h none u os (K1 ty' s n' k target v w e) = absurd (cc (none (v ∷ []) refl, e))
folded_by ty n f ss h none u os (K2 ty' s n' k v w e) = absurd (cc (none (v ∷ []) refl, e))
folded_by ty n f ss h none u os (K3 ty' s t r n' i j k options x y z w e) = absurd (cc (none (x ∷ y ∷ z ∷ []) refl, e))
folded_by ty n f ss h none u os (K4 ty' s t n' j k x y w e) = absurd (cc (none (x ∷ y ∷ []) refl, e))

pub folded_quiet : (ty : DataType) (n : ℕ) (f : ScalarFnRef) (ss : Slots) (t : Tree) → t ≡ node ty n (enc.function f) ss → folds f ≡ true
    → IsFolded f ty n ss None
    → IsQuiet (Some 0) t
folded_quiet ty n f ss t is h none = subst (IsQuiet (Some 0)) (sym is) (folded_by ty n f ss h none)
