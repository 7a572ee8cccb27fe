-- Casts of nested values, by their parts.
use Rattle.std.proofs.Common.{◌≡◌, ◌≢◌, ℕ, suc, ◌+◌, ◌<◌, ◌≤◌, Bool, true, false, ◌&&◌, List, [], ◌∷◌, length, drop, ◌++◌, refl, sym, ◌∙◌, ap}
use Rattle.std.proofs.Common.{if◌then◌else◌, Option, Some, None, option_map, ◌⊎◌, inl, inr}
use Rattle.std.proofs.Math.ListN.{get_or}
use Rattle.std.proofs.lemmas.List.{drop_more, drop_all}
use Rattle.std.specs.Str.{bytes_eq}
use Rattle.std.specs.Cmp.{first_so, second_so}
use Rattle.vx_value.specs.Types as type
use Rattle.vx_value.specs.Types.{DataType}
use Rattle.vx_value.specs.Values as value
use Rattle.vx_value.specs.Values.{Value, Values}
use Rattle.vx_value.specs.Cell as cell
use Rattle.vx_value.specs.Cell.{Cell}
use Rattle.vx_value.specs.View.{type_of, fields_of, cell_of, values_of}
use Rattle.vx_value.specs.IsOf.{is_of, all_of, are_of}
use Rattle.vx_value.specs.Casts.{has_cast, have_rows, joined, list_cell, fields_cell, cast_value, cast_all, cast_each}
use Rattle.vx_value.proofs.TypedLemmas.{are_at}
use Rattle.vx_value.proofs.ValuesLemmas.{prepend, prepend_one, prepend_none}
use Rattle.vx_value.specs.declared.nested.Field.{Field}
use Rattle.vx_value.specs.declared.scalar.ScalarValue.{ScalarValue}

-- ---- which casts there are, by the fields

-- whether the first fields have one name, and there is a cast
abbrev row : Field → Field → Bool
row f g = bytes_eq f.name g.name && has_cast (type_of f.dtype) (type_of g.dtype)

and_false : (b : Bool) → false ≡ (b && false)
and_false true = refl
and_false false = refl

pub rows_differ : (fs gs : List Field) → length fs ≢ length gs → false ≡ have_rows (fields_of fs) (fields_of gs)
rows_differ [] [] n = absurd (n refl)
rows_differ [] (g ∷ gs) n = refl
rows_differ (f ∷ fs) [] n = refl
rows_differ (f ∷ fs) (g ∷ gs) n = and_false (row f g) ∙ ap (λ b. row f g && b) (rows_differ fs gs (λ e. n (ap suc e)))

pub rows_at : (fs gs : List Field) (i : ℕ) (f g : Field) → i < length fs → i < length gs
    → have_rows (fields_of (drop i fs)) (fields_of (drop i gs))
    ≡ ((bytes_eq (get_or fs i f).name (get_or gs i g).name && has_cast (type_of (get_or fs i f).dtype) (type_of (get_or gs i g).dtype))
    && have_rows (fields_of (drop (i + 1) fs)) (fields_of (drop (i + 1) gs)))
rows_at fs gs i f g p q =
    ap (λ xs. have_rows (fields_of xs) (fields_of (drop i gs))) (drop_more fs i f p)
    ∙ ap (λ ys. have_rows (fields_of (get_or fs i f ∷ drop (i + 1) fs)) (fields_of ys)) (drop_more gs i g q)

-- ---- what parts a result has

-- a result that a test gives
pub tested : (b : Bool) (c : Cell) (w : Value) → (if b then c else cell.fault) ≡ cell.value w → (b ≡ true) × (c ≡ cell.value w)
tested true c w e = (refl, e)
tested false c w e = absurd (cc)

pub list_made : (o : Option Values) (w : Value) → list_cell o ≡ cell.value w → (ws : Values) × (o ≡ Some ws) × (value.list ws ≡ w)
list_made None w e = absurd (cc)
list_made (Some ws) w e = (ws, refl, cc)

pub fields_made : (o : Option Values) (w : Value) → fields_cell o ≡ cell.value w → (ws : Values) × (o ≡ Some ws) × (value.fields ws ≡ w)
fields_made None w e = absurd (cc)
fields_made (Some ws) w e = (ws, refl, cc)

pub joined_made : (c : Cell) (o : Option Values) (ws : Values) → joined c o ≡ Some ws
    → (w : Value) × (us : Values) × (c ≡ cell.value w) × (o ≡ Some us) × (value.item w us ≡ ws)
joined_made cell.fault o ws e = absurd (cc)
joined_made (cell.value w) None ws e = absurd (cc)
joined_made (cell.value w) (Some us) ws e = (w, us, refl, refl, cc)

-- ---- the values that are made, and those to come

-- all of them, if those to come can be made
abbrev pub made : List (Option ScalarValue) → Option Values → Option Values
made done rest = option_map (prepend done) rest

made_more : (done : List (Option ScalarValue)) (x : Option ScalarValue) (rest : Option Values)
    → made done (joined (cell.value (cell_of x)) rest) ≡ made (done ++ x ∷ []) rest
made_more done x None = refl
made_more done x (Some vs) = ap Some (sym (prepend_one done x vs))

made_all : (done : List (Option ScalarValue)) → made done (Some value.no_values) ≡ Some (values_of done)
made_all done = ap Some (prepend_none done)

joined_none : (c : Cell) → joined c None ≡ None
joined_none cell.fault = refl
joined_none (cell.value v) = refl

-- before the first turn of a loop over the values
pub made_start : (done : List (Option ScalarValue)) (whole : Option Values) → done ≡ [] → whole ≡ made done whole
made_start done whole e = unchanged whole ∙ ap (λ xs. made xs whole) (sym e)
  where
    unchanged : (o : Option Values) → o ≡ made [] o
    unchanged None = refl
    unchanged (Some vs) = refl

-- a turn
made_step : (done more : List (Option ScalarValue)) (x : Option ScalarValue) (whole rest : Option Values) (c : Cell)
    → whole ≡ made done (joined c rest) → c ≡ cell.value (cell_of x) → more ≡ done ++ x ∷ [] → whole ≡ made more rest
made_step done more x whole rest c before given pushed =
    before ∙ ap (λ o. made done (joined o rest)) given ∙ made_more done x rest ∙ ap (λ xs. made xs rest) (sym pushed)

-- ---- the elements of a list

all_at : (t : DataType) (vs : List (Option ScalarValue)) (i : ℕ) (v : Option ScalarValue) → i < length vs → v ≡ get_or vs i v
    → all_of t (values_of (drop i vs)) ≡ (is_of t (cell_of v) && all_of t (values_of (drop (i + 1) vs)))
all_at t vs i v p here =
    ap (λ ws. all_of t (values_of ws)) (drop_more vs i v p) ∙ ap (λ w. is_of t (cell_of w) && all_of t (values_of (drop (i + 1) vs))) (sym here)

pub all_first : (t : DataType) (vs : List (Option ScalarValue)) (i : ℕ) (v : Option ScalarValue) → i < length vs → v ≡ get_or vs i v
    → all_of t (values_of (drop i vs)) ≡ true → is_of t (cell_of v) ≡ true
all_first t vs i v p here h = first_so (is_of t (cell_of v)) (all_of t (values_of (drop (i + 1) vs))) (sym (all_at t vs i v p here) ∙ h)

pub all_rest : (t : DataType) (vs : List (Option ScalarValue)) (i : ℕ) (v : Option ScalarValue) → i < length vs → v ≡ get_or vs i v
    → all_of t (values_of (drop i vs)) ≡ true → all_of t (values_of (drop (i + 1) vs)) ≡ true
all_rest t vs i v p here h = second_so (is_of t (cell_of v)) (all_of t (values_of (drop (i + 1) vs))) (sym (all_at t vs i v p here) ∙ h)

pub cast_all_at : (s t : DataType) (vs : List (Option ScalarValue)) (i : ℕ) (d : Option ScalarValue) → i < length vs
    → cast_all s t (values_of (drop i vs)) ≡ joined (cast_value s t (cell_of (get_or vs i d))) (cast_all s t (values_of (drop (i + 1) vs)))
cast_all_at s t vs i d p = ap (λ ws. cast_all s t (values_of ws)) (drop_more vs i d p)

pub cast_all_step : (s t : DataType) (vs done more : List (Option ScalarValue)) (i : ℕ) (v x : Option ScalarValue) (whole : Option Values)
    → i < length vs
    → v ≡ get_or vs i v
    → whole ≡ made done (cast_all s t (values_of (drop i vs)))
    → cast_value s t (cell_of v) ≡ cell.value (cell_of x)
    → more ≡ done ++ x ∷ []
    → whole ≡ made more (cast_all s t (values_of (drop (i + 1) vs)))
cast_all_step s t vs done more i v x whole p here before given pushed =
    let rest : Option Values = cast_all s t (values_of (drop (i + 1) vs)) in
    made_step done more x whole rest (cast_value s t (cell_of (get_or vs i v))) (before ∙ ap (made done) (cast_all_at s t vs i v p))
    (ap (λ w. cast_value s t (cell_of w)) (sym here) ∙ given) pushed

pub cast_all_end : (s t : DataType) (vs done : List (Option ScalarValue)) (i : ℕ) (whole : Option Values)
    → length vs ≤ i
    → whole ≡ made done (cast_all s t (values_of (drop i vs)))
    → whole ≡ Some (values_of done)
cast_all_end s t vs done i whole p before = before ∙ ap (λ ws. made done (cast_all s t (values_of ws))) (drop_all i vs p) ∙ made_all done

-- ---- the fields of a struct

pub are_first : (fs : List Field) (vs : List (Option ScalarValue)) (i : ℕ) (f : Field) (v : Option ScalarValue) → i < length fs → i < length vs
    → v ≡ get_or vs i v → are_of (fields_of (drop i fs)) (values_of (drop i vs)) ≡ true → is_of (type_of (get_or fs i f).dtype) (cell_of v) ≡ true
are_first fs vs i f v p q here h =
    let first : Bool = is_of (type_of (get_or fs i f).dtype) (cell_of v) in
    first_so first (are_of (fields_of (drop (i + 1) fs)) (values_of (drop (i + 1) vs))) (sym (are_at fs vs i f v first p q here refl) ∙ h)

pub are_rest : (fs : List Field) (vs : List (Option ScalarValue)) (i : ℕ) (f : Field) (v : Option ScalarValue) → i < length fs → i < length vs
    → v ≡ get_or vs i v → are_of (fields_of (drop i fs)) (values_of (drop i vs)) ≡ true
    → are_of (fields_of (drop (i + 1) fs)) (values_of (drop (i + 1) vs)) ≡ true
are_rest fs vs i f v p q here h =
    let first : Bool = is_of (type_of (get_or fs i f).dtype) (cell_of v) in
    second_so first (are_of (fields_of (drop (i + 1) fs)) (values_of (drop (i + 1) vs))) (sym (are_at fs vs i f v first p q here refl) ∙ h)

pub cast_each_at : (fs gs : List Field) (vs : List (Option ScalarValue)) (i : ℕ) (f g : Field) (d : Option ScalarValue)
    → i < length fs → i < length gs → i < length vs
    → cast_each (fields_of (drop i fs)) (fields_of (drop i gs)) (values_of (drop i vs))
    ≡ joined (cast_value (type_of (get_or fs i f).dtype) (type_of (get_or gs i g).dtype) (cell_of (get_or vs i d)))
    (cast_each (fields_of (drop (i + 1) fs)) (fields_of (drop (i + 1) gs)) (values_of (drop (i + 1) vs)))
cast_each_at fs gs vs i f g d p q r =
    ap (λ xs. cast_each (fields_of xs) (fields_of (drop i gs)) (values_of (drop i vs))) (drop_more fs i f p)
    ∙ ap (λ ys. cast_each (fields_of (get_or fs i f ∷ drop (i + 1) fs)) (fields_of ys) (values_of (drop i vs))) (drop_more gs i g q)
    ∙ ap (λ zs. cast_each (fields_of (get_or fs i f ∷ drop (i + 1) fs)) (fields_of (get_or gs i g ∷ drop (i + 1) gs)) (values_of zs))
    (drop_more vs i d r)

-- lists of different lengths have no cast
pub cast_each_differ : (fs gs : List Field) (vs : List (Option ScalarValue)) → (length fs ≢ length vs) ⊎ (length gs ≢ length vs)
    → cast_each (fields_of fs) (fields_of gs) (values_of vs) ≡ None
cast_each_differ [] [] [] (inl n) = absurd (n refl)
cast_each_differ [] [] [] (inr n) = absurd (n refl)
cast_each_differ [] [] (v ∷ vs) n = refl
cast_each_differ [] (g ∷ gs) vs n = refl
cast_each_differ (f ∷ fs) [] vs n = refl
cast_each_differ (f ∷ fs) (g ∷ gs) [] n = refl
cast_each_differ (f ∷ fs) (g ∷ gs) (v ∷ vs) n =
    let fewer : (length fs ≢ length vs) ⊎ (length gs ≢ length vs) = fewer_differ n in
    ap (joined (cast_value (type_of f.dtype) (type_of g.dtype) (cell_of v))) (cast_each_differ fs gs vs fewer) ∙ joined_none _
  where
    fewer_differ : {i j k : ℕ} → (suc i ≢ suc k) ⊎ (suc j ≢ suc k) → (i ≢ k) ⊎ (j ≢ k)
    fewer_differ (inl n) = inl (λ e. n (ap suc e))
    fewer_differ (inr n) = inr (λ e. n (ap suc e))

pub cast_each_step : (fs gs : List Field) (vs done more : List (Option ScalarValue)) (i : ℕ) (f g : Field) (v x : Option ScalarValue)
    (whole : Option Values)
    → i < length fs → i < length gs → i < length vs
    → v ≡ get_or vs i v
    → whole ≡ made done (cast_each (fields_of (drop i fs)) (fields_of (drop i gs)) (values_of (drop i vs)))
    → cast_value (type_of (get_or fs i f).dtype) (type_of (get_or gs i g).dtype) (cell_of v) ≡ cell.value (cell_of x)
    → more ≡ done ++ x ∷ []
    → whole ≡ made more (cast_each (fields_of (drop (i + 1) fs)) (fields_of (drop (i + 1) gs)) (values_of (drop (i + 1) vs)))
cast_each_step fs gs vs done more i f g v x whole p q r here before given pushed =
    let rest : Option Values = cast_each (fields_of (drop (i + 1) fs)) (fields_of (drop (i + 1) gs)) (values_of (drop (i + 1) vs)) in
    let one : Option ScalarValue → Cell = λ w. cast_value (type_of (get_or fs i f).dtype) (type_of (get_or gs i g).dtype) (cell_of w) in
    made_step done more x whole rest (one (get_or vs i v)) (before ∙ ap (made done) (cast_each_at fs gs vs i f g v p q r)) (ap one (sym here) ∙ given)
    pushed

pub cast_each_end : (fs gs : List Field) (vs done : List (Option ScalarValue)) (i : ℕ) (whole : Option Values)
    → length fs ≤ i → length gs ≤ i → length vs ≤ i
    → whole ≡ made done (cast_each (fields_of (drop i fs)) (fields_of (drop i gs)) (values_of (drop i vs)))
    → whole ≡ Some (values_of done)
cast_each_end fs gs vs done i whole p q r before =
    before
    ∙ ap (λ xs. made done (cast_each (fields_of xs) (fields_of (drop i gs)) (values_of (drop i vs)))) (drop_all i fs p)
    ∙ ap (λ ys. made done (cast_each type.no_fields (fields_of ys) (values_of (drop i vs)))) (drop_all i gs q)
    ∙ ap (λ zs. made done (cast_each type.no_fields type.no_fields (values_of zs))) (drop_all i vs r)
    ∙ made_all done
