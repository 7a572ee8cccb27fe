-- The codes of types given by constructors, and whether two values are the same, by their codes.
use Rattle.std.specs.Prelude.{◌≡◌, ℕ, zero, suc, ℤ, pos, negsuc, List, [], ◌∷◌, Bool, true, false, ◌&&◌, ◌==◌, ◌⊎◌, refl}
use Rattle.std.specs.Bool.{Decides}
use Rattle.std.specs.Cmp.{unsigned_Decides, first_so, second_so}
use Rattle.std.specs.Coded.{Coded, code_by, coded⊎, prop_coded}
use Rattle.std.proofs.Common.{ap, sym, ◌∙◌, inl, inr}
use base.Stored.{Gv, gnil, gnum, gcons}

-- ---- a type by its constructors, one after the other

infixr 30 ◌or◌
-- some of A's constructors: what they hold, its code, and the value that they make of it
pub record Part (A : Type 0) : Type 1 where
  pub holds : Type 0
  pub coded : Coded holds
  pub make : holds → A

-- one constructor
abbrev pub part : {A T : Type 0} → Coded T → (T → A) → Part A
part {T = T} c make = record { holds = T; coded = c; make = make }

-- the constructors of two parts
abbrev pub either : {A S T : Type 0} → (S → A) → (T → A) → S ⊎ T → A
either f g (inl x) = f x
either f g (inr y) = g y

abbrev pub ◌or◌ : {A : Type 0} → Part A → Part A → Part A
p or q = record { holds = p.holds ⊎ q.holds; coded = coded⊎ p.coded q.coded; make = either p.make q.make }

-- no constructor: the end of each table
abbrev pub no_part : {A : Type 0} → Part A
no_part = record { holds = ⊥; coded = prop_coded (λ x y. absurd x); make = λ x. absurd x }

-- the code of a type whose values the constructors make
abbrev pub coded_by : {A : Type 0} (p : Part A) (split : A → p.holds) → ((x : A) → p.make (split x) ≡ x) → Coded A
coded_by p split back = code_by p.holds p.coded split p.make back

-- ---- parts of the codes of recursive types, and their undoing

-- the code of a type by a code that can be undone
abbrev pub coded_back : {A : Type 0} (code : A → Gv) (undo : Gv → A) → ((x : A) → undo (code x) ≡ x) → Coded A
coded_back code undo back = record { code = code; inj = λ x y e. sym (back x) ∙ ap undo e ∙ back y }

-- the item of this number, from 0; the first argument if there are fewer
abbrev pub pick : {A : Type 0} → ℕ → A → List A → A
pick n x [] = x
pick zero x (y ∷ ys) = y
pick (suc n) x (y ∷ ys) = pick n x ys

abbrev pub first : Gv → Gv
first (gcons a b) = a
first c = c

abbrev pub rest : Gv → Gv
rest (gcons a b) = b
rest c = c

abbrev pub number_in : Gv → ℕ
number_in (gnum n) = n
number_in _ = 0

abbrev pub bytes_code : List ℕ → Gv
bytes_code [] = gnil
bytes_code (b ∷ bs) = gcons (gnum b) (bytes_code bs)

abbrev pub bytes_in_code : Gv → List ℕ
bytes_in_code (gcons b bs) = number_in b ∷ bytes_in_code bs
bytes_in_code _ = []

pub bytes_back : (bs : List ℕ) → bytes_in_code (bytes_code bs) ≡ bs
bytes_back [] = refl
bytes_back (b ∷ bs) = ap (λ cs. b ∷ cs) (bytes_back bs)

abbrev pub boolean_code : Bool → Gv
boolean_code false = gnum 0
boolean_code true = gnum 1

abbrev pub boolean_in_code : Gv → Bool
boolean_in_code c = pick (number_in c) false (false ∷ true ∷ [])

pub boolean_back : (b : Bool) → boolean_in_code (boolean_code b) ≡ b
boolean_back false = refl
boolean_back true = refl

abbrev pub integer_code : ℤ → Gv
integer_code (pos n) = gcons gnil (gnum n)
integer_code (negsuc n) = gnum n

abbrev pub integer_in_code : Gv → ℤ
integer_in_code (gcons sign n) = pos (number_in n)
integer_in_code n = negsuc (number_in n)

pub integer_back : (z : ℤ) → integer_in_code (integer_code z) ≡ z
integer_back (pos n) = refl
integer_back (negsuc n) = refl

-- ---- sameness

abbrev pub same_code : Gv → Gv → Bool
same_code gnil gnil = true
same_code (gnum m) (gnum n) = m == n
same_code (gcons a b) (gcons c d) = same_code a c && same_code b d
same_code _ _ = false

same_code_true : (a b : Gv) → same_code a b ≡ true → a ≡ b
same_code_true gnil gnil h = refl
same_code_true (gnum m) (gnum n) h = ap gnum ((unsigned_Decides m n).0 h)
same_code_true (gcons a b) (gcons c d) h =
    let heads : a ≡ c = same_code_true a c (first_so _ _ h) in
    let tails : b ≡ d = same_code_true b d (second_so _ _ h) in
    λ i. gcons (heads i) (tails i)
same_code_true _ _ h = absurd (cc)

same_code_self : (a : Gv) → same_code a a ≡ true
same_code_self gnil = refl
same_code_self (gnum m) = (unsigned_Decides m m).1 refl
same_code_self (gcons a b) = ap (λ x. x && same_code b b) (same_code_self a) ∙ same_code_self b

-- values of a type that has codes are the same exactly if their codes are
pub same_code_Decides : {A : Type 0} (c : Coded A) (x y : A) → Decides (same_code (c.code x) (c.code y)) (x ≡ y)
same_code_Decides c x y =
    (λ h. c.inj x y (same_code_true (c.code x) (c.code y) h), λ e. ap (λ z. same_code (c.code x) (c.code z)) (sym e) ∙ same_code_self (c.code x))
