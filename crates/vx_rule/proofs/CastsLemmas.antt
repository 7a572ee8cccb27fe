-- What a cast to the child's own type keeps: C1.
use Rattle.std.proofs.Common.{◌≡◌, ℕ, suc, ◌+◌, ◌-◌, ℤ, pos, negsuc, ◌*ℤ◌, Bool, true, false, List, [], ◌∷◌, length, map, get_or, Option, Some, None}
use Rattle.std.proofs.Common.{refl, sym, ap, subst, ◌∙◌, if◌then◌else◌, arith}
use Rattle.std.specs.Prelude.{neg_ℤ, ◌==◌}
use Rattle.std.specs.List.{range_with_len}
use Rattle.std.specs.Cmp.{unsigned_Decides, second_so, first_so}
use Rattle.std.specs.Str.{is_utf8}
use Rattle.std.proofs.Math.Nat.{mul-one, sub_self, le_refl}
use Rattle.std.proofs.lemmas.Bool.{le-leb}
use Rattle.vx_value.specs.Types as type
use Rattle.vx_value.specs.Types.{DataType, Fields, nullability_of, is_nullable}
use Rattle.vx_value.specs.Nested.{bare}
use Rattle.vx_value.specs.Fits.{fits}
use Rattle.vx_value.specs.Values.{Value, null, boolean, integer, decimal, bytes, list, fields}
use Rattle.vx_value.specs.Values.{Values, no_values, item, count}
use Rattle.vx_value.specs.Cell.{Cell, value, fault}
use Rattle.vx_value.specs.Casts.{sized, power, lengthened, shortened, rescaled, joined, list_cell, fields_cell, has_cast, into, all_into, each_into, cast_to}
use Rattle.vx_value.specs.Decimals.{has_digits}
use Rattle.vx_value.specs.IsOf.{in_range, are_parts, is_null}
use Rattle.vx_value.specs.View.{type_of}
use Rattle.vx_value.specs.declared.dtype.DType.{DType}
use Rattle.vx_value.specs.declared.dtype.Nullability.TheVariants.{NonNullable}
use Rattle.vx_value.proofs.CastsLemmas.{cast_to_self}
use Rattle.vx_fn.specs.Apply.{apply}
use Rattle.vx_fn.specs.ReturnTypes.{return_type}
use Rattle.vx_fn.specs.declared.function.ScalarFnRef.TheVariants as fn_of
use Rattle.vx_tree.specs.Tree as enc
use Rattle.vx_tree.specs.Tree.{Tree, node, no_slots, slot, dtype}
use Rattle.vx_tree.specs.Cells.{rows}
use Rattle.vx_tree.specs.Keeps.{CellKeeps, RowsKeep, Keeps}
use Rattle.vx_tree.specs.Well.{IsWell}
use Rattle.vx_tree.proofs.CellsLemmas.{rows_counted}
use Rattle.vx_tree.proofs.TypedLemmas.{CellFits, AllFit, rows_fit}
use Rattle.vx_rule.proofs.FunctionsLemmas.{one_argument}
use Rattle.vx_rule.proofs.PicksLemmas.{slots_long}

-- ---- one cell

if_kept : (b : Bool) (v : Value) → CellKeeps (if b then value v else fault) (value v)
if_kept true v = refl
if_kept false v = tt

-- a number with as many digits behind the point as before
same_scale : (p s : ℕ) (z : ℤ) → rescaled p s z s ≡ sized p s z
same_scale p s z =
    ap (λ b. if b then lengthened p s z (s - s) else shortened p s z (s - s)) (le-leb s s (le_refl s)) ∙ ap (lengthened p s z) (sub_self s)
    ∙ ap (sized p s) (times_one z)
  where
    times_one : (z : ℤ) → z *ℤ power 0 ≡ z
    times_one (pos n) = ap pos (mul-one n)
    times_one (negsuc n) = ap (λ m. neg_ℤ (pos m)) (mul-one (suc n))

decimal_kept : (p s : ℕ) (z : ℤ) (r : ℕ) → r ≡ s → CellKeeps (rescaled p s z r) (value (decimal z r))
decimal_kept p s z r e =
    subst (λ x. CellKeeps (rescaled p x z r) (value (decimal z r))) e
    (subst (λ c. CellKeeps c (value (decimal z r))) (sym (same_scale p r z)) (if_kept (has_digits p z) (decimal z r)))

-- an extension's values are those of what it is stored as
stored_fits : (id : List ℕ) (ty : DataType) (v : Value) → is_null v ≡ false → CellFits (type.extension id ty) (value v) → CellFits ty (value v)
stored_fits id ty null e h = absurd (cc (e))
stored_fits id type.null _ e h = h
stored_fits id _ _ e h = h

-- the values that a cast gives, if it gives some, are the same
abbrev AreKept : Option Values → Values → Type 0
AreKept None vs = Unit {0}
AreKept (Some ws) vs = vs ≡ ws

joined_kept : (c : Cell) (o : Option Values) (v : Value) (vs : Values) → CellKeeps c (value v) → AreKept o vs → AreKept (joined c o) (item v vs)
joined_kept fault o v vs h k = tt
joined_kept (value w) None v vs h k = tt
joined_kept (value w) (Some ws) v vs h k = let same : v ≡ w = cc (h) in λ i. item (same i) (k i)

list_kept : (o : Option Values) (vs : Values) → AreKept o vs → CellKeeps (list_cell o) (value (list vs))
list_kept None vs h = tt
list_kept (Some ws) vs h = ap (λ us. value (list us)) h

fields_kept : (o : Option Values) (vs : Values) → AreKept o vs → CellKeeps (fields_cell o) (value (fields vs))
fields_kept None vs h = tt
fields_kept (Some ws) vs h = ap (λ us. value (fields us)) h

kept_if : (b : Bool) (c d : Cell) → CellKeeps c d → CellKeeps (if b then c else fault) d
kept_if true c d h = h
kept_if false c d h = tt

null_kept : (ty : DataType) (v : Value) → (is_null v ≡ false → CellKeeps (into (bare ty) v) (value v)) → CellKeeps (cast_to ty v) (value v)
null_kept ty null h = if_kept (is_nullable (nullability_of ty)) null
null_kept ty v h = h refl

-- the value that a cast to the type gives, if it gives one: a line for each type
mutual
  into_kept : (ty : DataType) (v : Value) → is_null v ≡ false → CellFits ty (value v) → CellKeeps (into (bare ty) v) (value v)
  into_kept ty null e h = absurd (cc (e))
  into_kept (type.extension id ty) v e h = into_kept ty v e (stored_fits id ty v e h)
  into_kept (type.bool n) (boolean b) e h = refl
  into_kept (type.primitive p n) (integer z) e h = if_kept (in_range p z) (integer z)
  into_kept (type.decimal p s n) (decimal z r) e h = decimal_kept p s z r ((unsigned_Decides r s).0 h)
  into_kept (type.decimal p s n) _ e h = absurd (cc (h))
  into_kept (type.utf8 n) (bytes bs) e h = if_kept (is_utf8 bs) (bytes bs)
  into_kept (type.binary n) (bytes bs) e h = refl
  into_kept (type.list t n) (list vs) e h =
      kept_if (fits t (count vs)) (list_cell (all_into t vs)) (value (list vs)) (list_kept (all_into t vs) vs (all_kept t vs h))
  into_kept (type.fixed_size_list t k n) (list vs) e h =
      kept_if (count vs == k) (list_cell (all_into t vs)) (value (list vs)) (list_kept (all_into t vs) vs (all_kept t vs (second_so _ _ h)))
  into_kept (type.map k t n) v e h = if_kept (are_parts (type.map k t n) v) v
  into_kept (type.struct fs n) (fields vs) e h = fields_kept (each_into fs vs) vs (each_kept fs vs h)
  into_kept (type.union us n) v e h = if_kept (are_parts (type.union us n) v) v
  into_kept (type.variant n) v e h = if_kept (are_parts (type.variant n) v) v
  into_kept _ _ e h = tt

  all_kept : (ty : DataType) (vs : Values) → CellFits (type.list ty NonNullable) (value (list vs)) → AreKept (all_into ty vs) vs
  all_kept ty no_values h = refl
  all_kept ty (item v vs) h =
      joined_kept (cast_to ty v) (all_into ty vs) v vs (null_kept ty v (λ e. into_kept ty v e (first_so _ _ h))) (all_kept ty vs (second_so _ _ h))

  each_kept : (fs : Fields) (vs : Values) → CellFits (type.struct fs NonNullable) (value (fields vs)) → AreKept (each_into fs vs) vs
  each_kept type.no_fields no_values h = refl
  each_kept (type.field name ty fs) (item v vs) h =
      joined_kept (cast_to ty v) (each_into fs vs) v vs (null_kept ty v (λ e. into_kept ty v e (first_so _ _ h))) (each_kept fs vs (second_so _ _ h))
  each_kept _ _ h = tt

value_kept : (ty : DataType) (v : Value) → CellFits ty (value v) → CellKeeps (cast_to ty v) (value v)
value_kept ty v h = null_kept ty v (λ e. into_kept ty v e h)

-- ---- rows

cells_kept : (f : Cell → Cell) (ty : DataType) → ((c : Cell) → CellFits ty c → CellKeeps (f c) c) → (s : ℕ) (cs : List Cell) (at : ℕ → Cell) → AllFit ty cs
    → ((i : ℕ) → at (s + i) ≡ get_or cs i fault) → RowsKeep (map (λ i. f (at i)) (range_with_len s (length cs))) cs
cells_kept f ty h s [] at k e = tt
cells_kept f ty h s (c ∷ cs) at k e =
    let here : at s ≡ c = ap at (omega arith) ∙ e 0 in
    let later : (i : ℕ) → at (s + 1 + i) ≡ get_or cs i fault = λ i. ap at (omega arith) ∙ e (suc i) in
    (subst (λ x. CellKeeps (f x) c) (sym here) (h c k.0), cells_kept f ty h (s + 1) cs at k.1 later)

pub C1_keeps : (ty : DataType) (n : ℕ) (target : DType) (c : Tree) → IsWell (node ty n (enc.function (fn_of.Cast target)) (slot c no_slots))
    → dtype c ≡ type_of target
    → Keeps (node ty n (enc.function (fn_of.Cast target)) (slot c no_slots)) c
C1_keeps ty n target c w e =
    let t = type_of target in
    let given : return_type (fn_of.Cast target) (dtype c ∷ []) ≡ Some ty =
    subst (λ tys. return_type (fn_of.Cast target) tys ≡ Some ty) (one_argument n w.0.0 c w.0.1) w.0.2 in
    let has : has_cast (dtype c) t ≡ true = subst (λ s. has_cast s t ≡ true) (sym e) (cast_to_self t) in
    let made : Some t ≡ Some ty = sym (ap (λ b. if b then Some t else None) has) ∙ given in
    let typed : t ≡ ty = cc in
    let same : ty ≡ dtype c = sym typed ∙ sym e in
    let long : length (rows c) ≡ n = (slots_long n w.0.0 (slot c no_slots) w.0.1 w.1).0 in
    let at = λ (i : ℕ). get_or (rows c) i fault in
    let call = λ (x : Cell). apply (fn_of.Cast target) (dtype c ∷ []) ty (x ∷ []) in
    let fit : AllFit ty (rows c) = subst (λ s. AllFit s (rows c)) (sym same) (rows_fit c w.1.0) in
    let kept = cells_kept call ty (cell_kept ty) 0 (rows c) at fit (λ i. ap at (omega arith)) in
    record {
      same_type = same;
      same_len = sym long ∙ rows_counted c w.1.0;
      same_rows = subst (λ m. RowsKeep (map (λ i. call (at i)) (range_with_len 0 m)) (rows c)) long kept;
      still_clean = λ d. d.1.0;
    }
  where
    cell_kept : (ty : DataType) (x : Cell) → CellFits ty x → CellKeeps (apply (fn_of.Cast target) (dtype c ∷ []) ty (x ∷ [])) x
    cell_kept ty (value v) h = value_kept ty v h
    cell_kept ty fault h = tt
