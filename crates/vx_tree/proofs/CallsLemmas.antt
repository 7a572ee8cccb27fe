-- A call of a function: its node, and why there is none.
use Rattle.std.proofs.Common.{◌≡◌, ℕ, List, [], ◌∷◌, ◌++◌, length, map, true, false, ◌&&◌, Option, Some, None, refl, sym, ◌∙◌, ap}
use Rattle.std.specs.Prelude.{◌==◌, not, option_map}
use Rattle.vx_value.specs.Types.{DataType}
use Rattle.vx_value.specs.Storage.{is_nested}
use Rattle.vx_value.specs.declared.error.VortexError.{VortexError}
use Rattle.vx_value.specs.declared.error.VortexError.TheVariants.{InvalidArgument}
use Rattle.vx_value.specs.declared.error.ArgKind.TheVariants.{ChildLen, NoRow, BadType}
use Rattle.vx_fn.specs.ReturnTypes.{return_type}
use Rattle.vx_fn.specs.declared.function.ScalarFnRef.{ScalarFnRef}
use Rattle.vx_tree.specs.Tree.{Tree, Slots, node, function, no_slots, absent, slot, filled_slots, slots_of, dtype, len, call_of, lengths_refusal}
use Rattle.vx_tree.specs.Tree.{arity_refusal}
use Rattle.vx_tree.specs.Tree.{all_present}
use Rattle.vx_tree.specs.Tree.{all_long}
use Rattle.vx_tree.specs.Tree.{types_in}
use Rattle.vx_tree.specs.Well.{shape, shapes, IsNode}
use Rattle.vx_tree.specs.Conditions.{unless}
use Rattle.vx_tree.specs.Calls.{all_of_len, row_refusal, call_refusal, called}
use Rattle.vx_tree.proofs.ConditionsLemmas.{first_refused, later_refused, none_refused, unless_none}
use Rattle.vx_tree.proofs.RefusalsLemmas.{shapes_of_types}

-- ---- trees in slots, and by themselves

abbrev slots_with : Tree → Slots → Slots
slots_with t no_slots = slot t no_slots
slots_with t (absent ss) = absent (slots_with t ss)
slots_with t (slot u ss) = slot u (slots_with t ss)

slots_end : (xs : List (Option Tree)) (t : Tree) → slots_of (xs ++ Some t ∷ []) ≡ slots_with t (slots_of xs)
slots_end [] t = refl
slots_end (None ∷ xs) t = ap absent (slots_end xs t)
slots_end (Some u ∷ xs) t = ap (slot u) (slots_end xs t)

filled_end : (ts : List Tree) (t : Tree) → filled_slots (ts ++ t ∷ []) ≡ slots_with t (filled_slots ts)
filled_end [] t = refl
filled_end (u ∷ ts) t = ap (slot u) (filled_end ts t)

pub filled_more : (ts : List Tree) (t : Tree) (xs : List (Option Tree)) →
    slots_of xs ≡ filled_slots ts → slots_of (xs ++ Some t ∷ []) ≡ filled_slots (ts ++ t ∷ [])
filled_more ts t xs h = slots_end xs t ∙ ap (slots_with t) h ∙ sym (filled_end ts t)

pub filled_types : (ts : List Tree) → types_in (shapes (filled_slots ts)) ≡ map dtype ts
filled_types [] = refl
filled_types (t ∷ ts) = ap (λ us. dtype t ∷ us) (filled_types ts)

pub filled_long : (n : ℕ) (ts : List Tree) → all_long n (shapes (filled_slots ts)) ≡ all_of_len n ts
filled_long n [] = refl
filled_long n (t ∷ ts) = ap (λ b. (len t == n) && b) (filled_long n ts)

pub filled_present : (ts : List Tree) → all_present (shapes (filled_slots ts)) ≡ true
filled_present [] = refl
filled_present (t ∷ ts) = filled_present ts

-- ---- what is refused of a call, and the node of one that isn't

pub call_count_refused : (f : ScalarFnRef) (ts : List Tree) (n : ℕ) (e : VortexError) →
    arity_refusal f (length ts) ≡ Some e → call_refusal f ts n ≡ Some e
call_count_refused f ts n e h = first_refused (arity_refusal f (length ts)) _ e h

-- ss are the slots of the trees
module _ (f : ScalarFnRef) (ts : List Tree) (n : ℕ) (ss : Slots) (filled : ss ≡ filled_slots ts) where
  long_are : all_long n (shapes ss) ≡ all_of_len n ts
  long_are = ap (λ x. all_long n (shapes x)) filled ∙ filled_long n ts

  lengths_are : lengths_refusal n (shapes ss) ≡ unless (all_of_len n ts) (InvalidArgument ChildLen)
  lengths_are = ap (λ b. unless b (InvalidArgument ChildLen)) long_are

  pub call_lengths_refused : (e : VortexError) →
      arity_refusal f (length ts) ≡ None → lengths_refusal n (shapes ss) ≡ Some e → call_refusal f ts n ≡ Some e
  call_lengths_refused e count long =
      later_refused (arity_refusal f (length ts)) _ e count
      (first_refused (unless (all_of_len n ts) (InvalidArgument ChildLen)) _ e (sym lengths_are ∙ long))

  -- and tys their types
  module _ (tys : List DataType) (typed : tys ≡ types_in (shapes ss)) where
    row_is : return_type f tys ≡ return_type f (map dtype ts)
    row_is = ap (return_type f) (typed ∙ ap (λ x. types_in (shapes x)) filled ∙ filled_types ts)

    pub call_row_refused : (e : VortexError) → arity_refusal f (length ts) ≡ None → lengths_refusal n (shapes ss) ≡ None →
        row_refusal (return_type f tys) ≡ Some e → call_refusal f ts n ≡ Some e
    call_row_refused e count long row =
        later_refused (arity_refusal f (length ts)) _ _ count
        (later_refused (unless (all_of_len n ts) (InvalidArgument ChildLen)) _ _ (sym lengths_are ∙ long) (ap row_refusal (sym row_is) ∙ row))

    pub call_taken : arity_refusal f (length ts) ≡ None → lengths_refusal n (shapes ss) ≡ None →
        row_refusal (return_type f tys) ≡ None → call_refusal f ts n ≡ None
    call_taken count long row =
        none_refused (arity_refusal f (length ts)) _ count
        (none_refused (unless (all_of_len n ts) (InvalidArgument ChildLen)) _ (sym lengths_are ∙ long) (ap row_refusal (sym row_is) ∙ row))

    pub call_made : (ty : DataType) → return_type f tys ≡ Some ty → called f ts n ≡ Some (node ty n (function f) ss)
    call_made ty row =
        ap (option_map (λ t. call_of f t n ts)) (sym row_is ∙ row) ∙ ap (λ x. Some (node ty n (function f) x)) (sym filled)

    pub call_is_node : (ty : DataType) → lengths_refusal n (shapes ss) ≡ None → return_type f tys ≡ Some ty → IsNode ty n (function f) (shapes ss)
    call_is_node ty long row =
        let present : all_present (shapes ss) ≡ true = ap (λ x. all_present (shapes x)) filled ∙ filled_present ts in
        let same = shapes_of_types n (shapes ss) present (unless_none _ _ long) ∙ ap (map (λ s. Some (shape s n))) (sym typed) in
        (tys, same, row)

-- what a call's constructor needs
pub ruleset calls = (call_count_refused, call_lengths_refused, call_row_refused, call_taken, call_made, call_is_node)
