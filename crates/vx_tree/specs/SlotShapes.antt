-- What a slot keeps when its tree is replaced: presence, type and length.
use Rattle.std.specs.Prelude.{ℕ, ◌+◌, List, ◌∷◌, Bool, true, false, ◌==◌, Option, Some, None}
use Rattle.vx_value.specs.Types.{same_type}
use Rattle.vx_value.specs.declared.error.VortexError.{VortexError}
use Rattle.vx_value.specs.declared.error.VortexError.TheVariants.{InvalidArgument}
use Rattle.vx_value.specs.declared.error.ArgKind.{ArgKind}
use Rattle.vx_value.specs.declared.error.ArgKind.TheVariants.{SlotMissing, SlotType, SlotLen}
use Rattle.vx_tree.specs.Conditions.{first_of_both, unless}
use Rattle.vx_tree.specs.Shapes.{Shape, shape}
use Rattle.vx_tree.specs.declared.replace.Kept.{Kept}
use Rattle.vx_tree.specs.declared.replace.Kept.TheVariants.{Presence, Dtype, Len}

-- two slots both hold a tree, or neither does
abbrev pub same_presence : Option Shape → Option Shape → Bool
same_presence None None = true
same_presence (Some s) (Some r) = true
same_presence s r = false

-- two trees have the same type, and the same length
abbrev pub same_dtype : Option Shape → Option Shape → Bool
same_dtype (Some (shape s m)) (Some (shape r n)) = same_type s r
same_dtype s r = true

abbrev pub same_len : Option Shape → Option Shape → Bool
same_len (Some (shape s m)) (Some (shape r n)) = m == n
same_len s r = true

-- the slot keeps k
abbrev pub is_kept : Kept → Option Shape → Option Shape → Bool
is_kept Presence s r = same_presence s r
is_kept Dtype s r = same_dtype s r
is_kept Len s r = same_len s r

-- the error if slot i doesn't
abbrev pub wrong_in : Kept → ℕ → ArgKind
wrong_in Presence i = SlotMissing i
wrong_in Dtype i = SlotType i
wrong_in Len i = SlotLen i

-- the refusal of slot i
abbrev pub kept_refusal : Kept → ℕ → Option Shape → Option Shape → Option VortexError
kept_refusal k i s r = unless (is_kept k s r) (InvalidArgument (wrong_in k i))

abbrev pub slot_refusal : ℕ → Option Shape → Option Shape → Option VortexError
slot_refusal i s r = first_of_both (kept_refusal Presence i s r) (first_of_both (kept_refusal Dtype i s r) (kept_refusal Len i s r))

-- the refusal of the first slot that doesn't keep k; the slots are numbered from i
abbrev pub first_refusal : Kept → ℕ → List (Option Shape) → List (Option Shape) → Option VortexError
first_refusal k i (s ∷ ss) (r ∷ rs) = first_of_both (kept_refusal k i s r) (first_refusal k (i + 1) ss rs)
first_refusal k i ss rs = None
