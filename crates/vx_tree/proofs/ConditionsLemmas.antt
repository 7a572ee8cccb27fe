-- Refusals in turn: the first of several, and that there is none.
use Rattle.std.proofs.Common.{◌≡◌, ◌≢◌, Bool, true, false, Option, Some, None, refl, ◌∙◌, ap}
use Rattle.vx_value.specs.declared.error.VortexError.{VortexError}
use Rattle.vx_tree.specs.Conditions.{first_of_both, unless}

pub first_refused : (x y : Option VortexError) (e : VortexError) → x ≡ Some e → first_of_both x y ≡ Some e
first_refused x y e h = ap (λ z. first_of_both z y) h

pub later_refused : (x y : Option VortexError) (e : VortexError) → x ≡ None → y ≡ Some e → first_of_both x y ≡ Some e
later_refused x y e h k = ap (λ z. first_of_both z y) h ∙ k

pub none_refused : (x y : Option VortexError) → x ≡ None → y ≡ None → first_of_both x y ≡ None
none_refused x y h k = ap (λ z. first_of_both z y) h ∙ k

-- refusals in turn
pub ruleset in_turn = (first_refused, later_refused, none_refused)

pub first_none : (x y : Option VortexError) → first_of_both x y ≡ None → x ≡ None
first_none None y h = refl
first_none (Some e) y h = absurd (cc)

pub second_none : (x y : Option VortexError) → first_of_both x y ≡ None → y ≡ None
second_none None y h = h
second_none (Some e) y h = absurd (cc)

pub unless_none : (b : Bool) (e : VortexError) → unless b e ≡ None → b ≡ true
unless_none true e h = refl
unless_none false e h = absurd (cc)

pub none_unless : (b : Bool) (e : VortexError) → b ≡ true → unless b e ≡ None
none_unless b e h = ap (λ x. unless x e) h

pub some_unless : (b : Bool) (e : VortexError) → b ≢ true → unless b e ≡ Some e
some_unless true e h = absurd (h refl)
some_unless false e h = refl
