-- Functions of arguments that aren't nested: which have no result, or a nested one.
use Rattle.std.proofs.Common.{◌≡◌, ℕ, Bool, true, false, List, [], ◌∷◌, length, Some, None, refl, sym, ap, subst, ◌∙◌, if◌then◌else◌}
use Rattle.std.specs.Prelude.{◌==◌}
use Rattle.std.proofs.lemmas.Bool.{false≢true}
use Rattle.std.proofs.lemmas.Option.{none-some}
use Rattle.vx_value.specs.Types as type
use Rattle.vx_value.specs.Types.{DataType}
use Rattle.vx_value.specs.Storage.{is_nested}
use Rattle.vx_value.specs.IsOf.{is_of}
use Rattle.vx_value.specs.Nested.{are_fields}
use Rattle.vx_value.specs.View.{type_of}
use Rattle.vx_value.specs.declared.dtype.Storage.{Storage}
use Rattle.vx_value.specs.declared.dtype.Storage.TheVariants.{Text}
use Rattle.vx_value.specs.declared.dtype.DType.{DType}
use Rattle.vx_value.specs.declared.dtype.Nullability.{Nullability}
use Rattle.vx_value.proofs.NullabilitiesLemmas.{nested_kept}
use Rattle.std.proofs.lemmas.List.{length-map}
use Rattle.vx_fn.specs.Functions.{meaning, arity}
use Rattle.vx_fn.specs.GetItem.{item_type}
use Rattle.vx_fn.specs.ListContains.{contains_type}
use Rattle.vx_fn.specs.Meanings.{widened}
use Rattle.vx_fn.specs.Pack.{fields_with, struct_of}
use Rattle.vx_fn.specs.PreparedSet.{list_type}
use Rattle.vx_fn.specs.ReturnTypes.{return_type}
use Rattle.vx_fn.specs.declared.function.Operator.{Operator}
use Rattle.vx_fn.specs.declared.function.ScalarFnRef.{ScalarFnRef}
use Rattle.vx_fn.specs.declared.function.ScalarFnRef.TheVariants as function
use Rattle.vx_fn.specs.declared.functions.between.BetweenOptions.{BetweenOptions}
use Rattle.vx_tree.specs.ColumnTypes.{bytes_type}
use Rattle.vx_column.specs.Arguments.{plain_type, types_of, type_of_argument, IsSized}
use Rattle.vx_column.specs.Computed.{Takes}
use Rattle.vx_column.specs.ValidRows.{nullability_in}
use Rattle.vx_column.specs.declared.rows.argument.Argument.{Argument}
use Rattle.vx_column.specs.declared.rows.argument.ArgumentRows.{ArgumentRows}
use Rattle.vx_column.specs.declared.rows.argument.ArgumentRows.TheVariants as stored
use Rattle.vx_column.proofs.KernelArgumentsLemmas.{argument_type, rows_unnested}
use Rattle.vx_column.proofs.CastsLemmas.{target_unnested}

-- ---- no argument is nested

argument_unnested : (n : ℕ) (a : Argument) → IsSized n a → is_nested (type_of_argument a) ≡ false
argument_unnested n a sized =
    let m = nullability_in a.valid in
    ap is_nested (argument_type n a sized) ∙ nested_kept m (plain_type a.rows) ∙ rows_unnested a.rows

-- a function takes as many arguments as it has
pub taken_count : (f : ScalarFnRef) (args : List Argument) (n : ℕ) → Takes f args n → length args ≡ arity f
taken_count f args n takes = sym (length-map args type_of_argument) ∙ (meaning f).taken (types_of args) takes.types.0 takes.types.1

-- ---- functions that have no result on them

item_none : (name : List ℕ) (t : DataType) → is_nested t ≡ false → item_type name t ≡ None
item_none name (type.struct fs m) h = absurd (cc)
item_none name _ h = refl

contains_none : (t u : DataType) → is_nested t ≡ false → contains_type t u ≡ None
contains_none (type.list t m) u h = absurd (cc)
contains_none _ u h = refl

-- ---- functions whose result is nested

set_nested : (b : Bool) (t ty : DataType) → (if b then list_type t else None) ≡ Some ty → is_nested ty ≡ false → ⊥
set_nested false t ty e h = none-some ty e
set_nested true (type.list t m) ty e h = let same : type.list t m ≡ ty = cc (e) in false≢true (sym h ∙ ap is_nested (sym same))
set_nested true _ ty e h = none-some ty e

struct_nested : (b : Bool) (m : Nullability) (fs : type.Fields) (ty : DataType) → (if b then struct_of m fs else None) ≡ Some ty → is_nested ty ≡ false → ⊥
struct_nested false m fs ty e h = none-some ty e
struct_nested true m fs ty e h = by_fields (are_fields fs) e
  where
    by_fields : (c : Bool) → (if c then Some (type.struct fs m) else None) ≡ Some ty → ⊥
    by_fields false e = none-some ty e
    by_fields true e = let same : type.struct fs m ≡ ty = cc (e) in false≢true (sym h ∙ ap is_nested (sym same))

-- ---- so only the other functions are applied to columns

-- no result of f on the arguments is nested
abbrev pub IsUnnested : ScalarFnRef → List Argument → Type 0
IsUnnested f args = (ty : DataType) → return_type f (types_of args) ≡ Some ty → is_nested ty ≡ false

pub other_function : (f : ScalarFnRef) (args : List Argument) (n : ℕ) → Takes f args n → IsUnnested f args → ((op : Operator) → f ≡ function.Binary op → ⊥)
    → ((o : BetweenOptions) → f ≡ function.Between o → ⊥) → (f ≡ function.Not → ⊥) → (f ≡ function.Mask → ⊥) → (f ≡ function.Zip → ⊥)
    → (f ≡ function.FillNull → ⊥) → (f ≡ function.IsNull → ⊥) → (f ≡ function.IsNotNull → ⊥) → ((t : DType) → f ≡ function.Cast t → ⊥) → ⊥
other_function (function.Binary op) args n takes plain a b c d e g h i j = a op refl
other_function (function.Between o) args n takes plain a b c d e g h i j = b o refl
other_function function.Not args n takes plain a b c d e g h i j = c refl
other_function function.Mask args n takes plain a b c d e g h i j = d refl
other_function function.Zip args n takes plain a b c d e g h i j = e refl
other_function function.FillNull args n takes plain a b c d e g h i j = g refl
other_function function.IsNull args n takes plain a b c d e g h i j = h refl
other_function function.IsNotNull args n takes plain a b c d e g h i j = i refl
other_function (function.Cast t) args n takes plain a b c d e g h i j = j t refl
other_function (function.GetItem name) [] n takes plain a b c d e g h i j = none-some takes.types.0 takes.types.1
other_function (function.GetItem name) (x ∷ []) n takes plain a b c d e g h i j =
    let t = type_of_argument x in
    none-some takes.types.0 (ap (widened t) (sym (item_none name t (argument_unnested n x takes.sized.0))) ∙ takes.types.1)
other_function (function.GetItem name) (x ∷ y ∷ args) n takes plain a b c d e g h i j = none-some takes.types.0 takes.types.1
other_function (function.Pack o) args n takes plain a b c d e g h i j =
    struct_nested (length (types_of args) == length o.names) o.nullability (fields_with o.names (types_of args)) takes.types.0 takes.types.1
    (plain takes.types.0 takes.types.1)
other_function function.ListContains [] n takes plain a b c d e g h i j = none-some takes.types.0 takes.types.1
other_function function.ListContains (x ∷ []) n takes plain a b c d e g h i j = none-some takes.types.0 takes.types.1
other_function function.ListContains (x ∷ y ∷ []) n takes plain a b c d e g h i j =
    let t = type_of_argument x in
    let u = type_of_argument y in
    none-some takes.types.0
    (ap (λ o. widened t (widened u o)) (sym (contains_none t u (argument_unnested n x takes.sized.0))) ∙ takes.types.1)
other_function function.ListContains (x ∷ y ∷ z ∷ args) n takes plain a b c d e g h i j = none-some takes.types.0 takes.types.1
other_function (function.PreparedSet s) [] n takes plain a b c d e g h i j =
    set_nested (is_of s.of_type s.value) s.of_type takes.types.0 takes.types.1 (plain takes.types.0 takes.types.1)
other_function (function.PreparedSet s) (x ∷ args) n takes plain a b c d e g h i j = none-some takes.types.0 takes.types.1

cast_plain : (target : DType) (args : List Argument) (n : ℕ) → Takes (function.Cast target) args n → IsUnnested (function.Cast target) args
    → is_nested (type_of target) ≡ false
cast_plain target [] n takes plain = absurd (none-some takes.types.0 takes.types.1)
cast_plain target (x ∷ []) n takes plain = target_unnested n x target takes plain
cast_plain target (x ∷ y ∷ args) n takes plain = absurd (none-some takes.types.0 takes.types.1)

-- nor is the target of a cast
pub target_plain : (f : ScalarFnRef) (args : List Argument) (n : ℕ) (target : DType) → f ≡ function.Cast target → Takes f args n → IsUnnested f args
    → is_nested (type_of target) ≡ false
target_plain f args n target is takes plain =
    cast_plain target args n (subst (λ g. Takes g args n) is takes) (subst (λ g. IsUnnested g args) is plain)
