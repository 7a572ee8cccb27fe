-- The code and the text of each status, and whether it may come before there is an input or a tree.
use Rattle.std.specs.Prelude.{ℕ, List, codes, Bool, true, false}
use Rattle.vx_value.specs.declared.error.VortexError.{VortexError}
use Rattle.vx_value.specs.declared.error.VortexError.TheVariants.{OutOfMemory, Fault, IterationLimit, RewriteLimit, Refused, ForbiddenEncoding, TooLong, OutOfBounds, InvalidArgument}
use Rattle.vx_main.specs.declared.top.status.Status.{Status}
use Rattle.vx_main.specs.declared.top.status.Status.TheVariants.{Done, Usage, BadInput, TurnLimit, Forbidden, Memory, ReadFault, WriteFault, TooLarge}
use Rattle.vx_main.specs.declared.top.status.Status.TheVariants as status

abbrev pub code_of : Status → ℕ
code_of Done = 0
code_of Usage = 2
code_of BadInput = 3
code_of status.Fault = 4
code_of (TurnLimit limit turns) = 5
code_of (status.RewriteLimit at_root total) = 6
code_of (status.Refused kind parent child place) = 7
code_of (Forbidden id) = 8
code_of Memory = 9
code_of ReadFault = 10
code_of WriteFault = 11
code_of (TooLarge bytes) = 12

abbrev pub text_of : Status → List ℕ
text_of Done = codes ""
text_of Usage = codes "usage"
text_of BadInput = codes "bad input"
text_of status.Fault = codes "fault"
text_of (TurnLimit limit turns) = codes "turn limit"
text_of (status.RewriteLimit at_root total) = codes "rewrite limit"
text_of (status.Refused kind parent child place) = codes "refused"
text_of (Forbidden id) = codes "forbidden encoding"
text_of Memory = codes "out of memory"
text_of ReadFault = codes "read fault"
text_of WriteFault = codes "write fault"
text_of (TooLarge bytes) = codes "input too large"

-- whether a run with this status may have ended without its whole input
abbrev pub has_no_input : Status → Bool
has_no_input Done = false
has_no_input Usage = false
has_no_input BadInput = false
has_no_input status.Fault = false
has_no_input (TurnLimit limit turns) = false
has_no_input (status.RewriteLimit at_root total) = false
has_no_input (status.Refused kind parent child place) = false
has_no_input (Forbidden id) = false
has_no_input Memory = true
has_no_input ReadFault = true
has_no_input WriteFault = false
has_no_input (TooLarge bytes) = true

-- whether a run with this status may have ended without a tree
abbrev pub has_no_tree : Status → Bool
has_no_tree Done = false
has_no_tree Usage = false
has_no_tree BadInput = true
has_no_tree status.Fault = false
has_no_tree (TurnLimit limit turns) = false
has_no_tree (status.RewriteLimit at_root total) = false
has_no_tree (status.Refused kind parent child place) = false
has_no_tree (Forbidden id) = false
has_no_tree Memory = true
has_no_tree ReadFault = true
has_no_tree WriteFault = false
has_no_tree (TooLarge bytes) = true

-- the status for an error of the crates below
abbrev pub status_of : VortexError → Status
status_of OutOfMemory = Memory
status_of Fault = status.Fault
status_of (IterationLimit limit) = TurnLimit limit limit
status_of (RewriteLimit at_root total) = status.RewriteLimit at_root total
status_of (Refused kind parent child place) = status.Refused kind parent child place
status_of (ForbiddenEncoding id) = Forbidden id
status_of (TooLong len factor) = BadInput
status_of (OutOfBounds start stop len) = BadInput
status_of (InvalidArgument kind) = BadInput
