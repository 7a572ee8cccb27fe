-- Functions of exactly none, one, two or three arguments, on a list of them.
use Rattle.std.specs.Prelude.{List, [], ◌∷◌}

abbrev pub of_none : {A B : Type 0} → B → B → List A → B
of_none other x [] = x
of_none other x _ = other

-- `rule` adjusts the result for an argument, as for a null one. `other` is the result for another number of arguments.
abbrev pub of_one : {A B : Type 0} → (A → B → B) → B → (A → B) → List A → B
of_one rule other f (x ∷ []) = rule x (f x)
of_one rule other f _ = other

abbrev pub of_two : {A B : Type 0} → (A → B → B) → B → (A → A → B) → List A → B
of_two rule other f (x ∷ y ∷ []) = rule x (rule y (f x y))
of_two rule other f _ = other

abbrev pub of_three : {A B : Type 0} → (A → B → B) → B → (A → A → A → B) → List A → B
of_three rule other f (x ∷ y ∷ z ∷ []) = rule x (rule y (rule z (f x y z)))
of_three rule other f _ = other
