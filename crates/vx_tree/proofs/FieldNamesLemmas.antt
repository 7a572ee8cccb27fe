-- The names of the slots of structs.
use Rattle.std.proofs.Common.{◌≡◌, ℕ, zero, suc, ◌+◌, ◌<◌, ◌≤◌, List, [], ◌∷◌, length, Option, Some, None, refl, ap, sym, ◌∙◌, arith, get_or, Bool, true, false, lt-ltb, ltb-true}
use Rattle.std.specs.Prelude.{slice_get, codes}
use Rattle.std.proofs.lemmas.Option.{slice_get_past}
use Rattle.vx_value.specs.View.{fields_of}
use Rattle.vx_value.specs.declared.nested.Field.{Field}
use Rattle.vx_tree.specs.Tree.{struct_names, field_slot_name}

-- the slot behind those of the fields is the validity's
pub last_name : (fs : List Field) → slice_get (struct_names (fields_of fs)) (length fs) ≡ Some (codes "validity")
last_name [] = refl
last_name (f ∷ fs) = last_name fs

pub field_name : (fs : List Field) (i : ℕ) (f : Field) → i < length fs → f ≡ get_or fs i f
    → slice_get (struct_names (fields_of fs)) i ≡ Some (field_slot_name f.name)
field_name [] i f h is = absurd (omega arith)
field_name (g ∷ fs) zero f h is = ap (λ x. Some (field_slot_name (Field.name x))) (sym is)
field_name (g ∷ fs) (suc i) f h is = field_name fs i f (omega arith) is

names_counted : (fs : List Field) → length (struct_names (fields_of fs)) ≡ length fs + 1
names_counted [] = refl
names_counted (f ∷ fs) = omega (arith, names_counted fs)

-- there is none past it
pub no_name : (fs : List Field) (i : ℕ) → length fs ≤ i → (i ≡ length fs → ⊥) → slice_get (struct_names (fields_of fs)) i ≡ None
no_name fs i h n = slice_get_past _ i (omega (arith, names_counted fs, h, n))
