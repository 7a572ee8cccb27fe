-- Logic in which null is the unknown truth value.
use Rattle.std.specs.Prelude.{Bool, true, false, Option, Some, None}
use Rattle.std.proofs.Math.Bool.{not}
use Rattle.vx_value.specs.Values.{Value, null, boolean}
use Rattle.vx_value.specs.Cell.{Cell, value}
use Rattle.vx_value.specs.Parts.{boolean_in}

-- false if a side is, else unknown if a side is
abbrev pub kleene_and : Option Bool → Option Bool → Option Bool
kleene_and (Some false) q = Some false
kleene_and (Some true) q = q
kleene_and None (Some false) = Some false
kleene_and None q = None

-- true if a side is, else unknown if a side is
abbrev pub kleene_or : Option Bool → Option Bool → Option Bool
kleene_or (Some true) q = Some true
kleene_or (Some false) q = q
kleene_or None (Some true) = Some true
kleene_or None q = None

-- the other truth value; an unknown one stays unknown
abbrev pub not_truth : Option Bool → Option Bool
not_truth (Some b) = Some (not b)
not_truth None = None

-- the truth value as a value; an unknown one is null
abbrev pub truth : Option Bool → Value
truth (Some b) = boolean b
truth None = null

abbrev pub both : Value → Value → Cell
both v w = value (truth (kleene_and (boolean_in v) (boolean_in w)))

abbrev pub either : Value → Value → Cell
either v w = value (truth (kleene_or (boolean_in v) (boolean_in w)))
