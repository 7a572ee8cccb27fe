-- Columns of rows: those of rows that are all there, and those by values and a validity. `d` stands under a null.
use Rattle.std.proofs.Common.{◌≡◌, List, [], ◌∷◌, length, map, true, false, Option, Some, None, refl, ap}
use Rattle.std.proofs.lemmas.List.{length-map}
use Rattle.std.specs.Prelude.{is_some, if◌then◌else◌}
use Rattle.vx_value.specs.Types.{DataType}
use Rattle.vx_mask.specs.Masks.{is_all_true, is_all_false}
use Rattle.vx_tree.specs.Tree.{Tree, Data, column, booleans}
use Rattle.vx_tree.specs.Rows.{item_or}
use Rattle.vx_tree.specs.Validities.{child_by, truths}

-- of rows that are all there
pub items_there : {A : Type 0} (d : A) (xs : List A) → map (item_or d) (map Some xs) ≡ xs
items_there d [] = refl
items_there d (x ∷ xs) = ap (λ l. x ∷ l) (items_there d xs)

all_there : {A : Type 0} (xs : List A) → is_all_true (map is_some (map Some xs)) ≡ true
all_there [] = refl
all_there (x ∷ xs) = all_there xs

no_child : {A : Type 0} (xs : List A) → child_by (map is_some (map Some xs)) ≡ None
no_child xs =
    let bits = map is_some (map Some xs) in
    ap (λ b. if b then None else (if is_all_false bits then Some (truths false (length bits)) else Some (booleans bits))) (all_there xs)

abbrev pub column_of : {A : Type 0} → A → DataType → (List A → Data) → List (Option A) → Tree
column_of d ty of_items rows = column ty (length rows) (of_items (map (item_or d) rows)) (child_by (map is_some rows))

pub column_there : {A : Type 0} (d : A) (ty : DataType) (of_items : List A → Data) (xs : List A) →
    column_of d ty of_items (map Some xs) ≡ column ty (length xs) (of_items xs) None
column_there d ty of_items xs = λ i. column ty (length-map xs Some i) (of_items (items_there d xs i)) (no_child xs i)
