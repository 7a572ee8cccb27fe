-- Functions of a fixed number of arguments accept only that number.
use Rattle.std.proofs.Common.{◌≡◌, List, [], ◌∷◌, length, Option, Some, None, refl}
use Rattle.vx_fn.specs.Arity.{of_none, of_one, of_two, of_three}

pub on_none : {A B : Type 0} (x : Option B) (xs : List A) (y : B) → of_none None x xs ≡ Some y → length xs ≡ 0
on_none x [] y e = refl
on_none x _ y e = absurd (cc)

module _ {A B : Type 0} (rule : A → Option B → Option B) where
  pub on_one : (f : A → Option B) (xs : List A) (y : B) → of_one rule None f xs ≡ Some y → length xs ≡ 1
  on_one f (x ∷ []) y e = refl
  on_one f _ y e = absurd (cc)

  pub on_two : (f : A → A → Option B) (xs : List A) (y : B) → of_two rule None f xs ≡ Some y → length xs ≡ 2
  on_two f (x ∷ x' ∷ []) y e = refl
  on_two f _ y e = absurd (cc)

  pub on_three : (f : A → A → A → Option B) (xs : List A) (y : B) → of_three rule None f xs ≡ Some y → length xs ≡ 3
  on_three f (x ∷ x' ∷ x'' ∷ []) y e = refl
  on_three f _ y e = absurd (cc)
