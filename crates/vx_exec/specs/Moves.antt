-- One move of the executor, and an execution by moves.
use Rattle.std.specs.Prelude.{◌≡◌, ◌⊎◌, ℕ, zero, suc, ◌+◌, ◌<◌, List, [], ◌∷◌, ◌++◌, Bool, true, false, ◌||◌, Option, Some, None}
use Rattle.vx_tree.specs.Tree.{Tree, dtype, len, datum, is_canonical}
use Rattle.vx_tree.specs.Cells.{IsClean, HasNoFault}
use Rattle.vx_tree.specs.Firm.{KeepsFirmly}
use Rattle.vx_tree.specs.Slots.{put, IsHole}
use Rattle.vx_value.specs.Cell.{Cell}
use Rattle.vx_column.specs.Expanded.{expansion}
use Rattle.vx_column.specs.Grown.{GrownRows, IsGrown, grown, none_of, with_column, cells_read}
use Rattle.vx_step.specs.Turns.{meets, target_of}
use Rattle.vx_step.specs.Contents.{IsWithout, IsAppend, IsUsedUp}
use Rattle.vx_step.specs.Steps.{HasNoShortcut, Awaits, IsDone, IsDue}
use Rattle.vx_value.specs.declared.error.VortexError.{VortexError}
use Rattle.vx_value.specs.declared.error.VortexError.TheVariants.{OutOfMemory, Fault}
use Rattle.vx_tree.specs.Well.{IsNodeOf, IsWell}
use Rattle.vx_exec.specs.Frames.{active, Fits, filled, AreFrames, frames_top, node_in, builder_in, focus_on, focus_tree, focus_top, IsFocus}
use Rattle.vx_exec.specs.declared.turn.Frame.{Frame}
use Rattle.vx_exec.specs.declared.turn.Focus.{Focus}
use Rattle.vx_exec.specs.declared.turn.Focus.TheVariants.{Whole, Partial}
use Rattle.vx_exec.specs.declared.turn.Turn.{Turn}
use Rattle.vx_exec.specs.declared.turn.Turn.TheVariants.{Go, Return}

-- whether t has the form that the last frame awaits, or passes the root's test if there is no frame
abbrev pub is_awaited : (Tree → Bool) → List Frame → Tree → Bool
is_awaited fits [] t = fits t
is_awaited fits (f ∷ []) t = meets f.target t
is_awaited fits (f ∷ g ∷ fs) t = is_awaited fits (g ∷ fs) t

-- whether the node t has reached its target: a canonical node always has
abbrev pub is_reached : (Tree → Bool) → List Frame → Tree → Bool
is_reached fits fs t = is_canonical (datum t) || is_awaited fits fs t

-- the same of the current node: one with a builder under way never has
abbrev pub is_over : (Tree → Bool) → List Frame → Focus → Bool
is_over fits fs (Whole t) = is_reached fits fs t
is_over fits fs (Partial t b) = false

-- the current node t, which has reached its target, goes back into its slot, and its parent's builder is taken up again
pub record IsPop (fits : Tree → Bool) (fs : List Frame) (c : Focus) (gs : List Frame) (d : Focus) : Type 0 where
  pub frame : Frame
  pub reached : is_over fits fs c ≡ true
  pub popped : fs ≡ gs ++ frame ∷ []
  pub resumed : d ≡ focus_on frame.builder (put frame.slot (node_in c) frame.parent)

-- the current node is suspended with its builder, and the tree in its first slot that isn't ready becomes the current node
pub record IsPush (fits : Tree → Bool) (fs : List Frame) (c : Focus) (gs : List Frame) (d : Focus) : Type 0 where
  pub frame : Frame
  pub going : is_over fits fs c ≡ false
  pub pushed : gs ≡ fs ++ frame ∷ []
  pub taken : put frame.slot (node_in d) frame.parent ≡ node_in c
  pub entered : builder_in d ≡ None
  pub builder : frame.builder ≡ builder_in c
  pub hole : IsHole frame.slot frame.parent
  pub direct : HasNoShortcut (node_in c)
  pub awaited : Awaits frame.slot (node_in c)
  pub target : frame.target ≡ target_of (node_in c)

-- the current node takes a step that needs no slot to be executed first
pub record IsStepped (fits : Tree → Bool) (fs : List Frame) (c : Focus) (gs : List Frame) (d : Focus) : Type 0 where
  pub going : is_over fits fs c ≡ false
  pub same : gs ≡ fs
  pub before : builder_in c ≡ None
  pub after : builder_in d ≡ None
  pub done : IsDone (node_in c) (node_in d)

-- the rows of a builder, or none of this type
abbrev pub begun : Option GrownRows → Tree → GrownRows
begun None t = none_of (dtype t)
begun (Some b) t = b

-- the rows of the current node's first slot that is left, a column, are appended to its builder, a new one if it has none
pub record IsAppended (fits : Tree → Bool) (fs : List Frame) (c : Focus) (gs : List Frame) (d : Focus) : Type 0 where
  pub slot : ℕ
  pub child : Tree
  pub going : is_over fits fs c ≡ false
  pub same : gs ≡ fs
  pub next : IsAppend slot (node_in c)
  pub taken : IsWithout slot child (node_in d) (node_in c)
  pub grown : builder_in d ≡ Some (with_column (begun (builder_in c) (node_in c)) child)

-- the current node is used up, and the column of its builder takes its place
pub record IsFinished (fits : Tree → Bool) (fs : List Frame) (c : Focus) (gs : List Frame) (d : Focus) : Type 0 where
  pub content : GrownRows
  pub going : is_over fits fs c ≡ false
  pub same : gs ≡ fs
  pub builder : builder_in c ≡ Some content
  pub used : IsUsedUp (node_in c)
  pub finished : d ≡ Whole (grown content)

-- ---- the parts of a step

-- the node t, with the builder b if one is under way, is to take a step
pub record IsGoing (fits : Tree → Bool) (fs : List Frame) (b : Option GrownRows) (t : Tree) : Type 0 where
  pub frames : AreFrames fs (active b t)
  pub formed : Fits b t
  pub going : is_over fits fs (focus_on b t) ≡ false

-- the cells of a column that are read when it is appended to a builder of its type
abbrev pub read_cells : Tree → List Cell
read_cells c = cells_read (dtype c) (expansion c)

-- d is t without slot i, whose column is appended to the builder; none of the cells that are read is a fault
abbrev pub IsAppendedTo : ℕ → Option GrownRows → Tree → Focus → Type 0
IsAppendedTo i b t d =
    (c : Tree) × (p : Tree) × IsWithout i c p t × (d ≡ Partial p (with_column (begun b t) c)) × HasNoFault (read_cells c) × IsWell c × IsGrown (with_column (begun b t) c)

-- why it isn't: out of memory, or one of those cells is a fault
abbrev pub IsNotAppended : ℕ → Tree → VortexError → Type 0
IsNotAppended i t e = (e ≡ OutOfMemory) ⊎ ((e ≡ Fault) × (c : Tree) × (p : Tree) × IsWithout i c p t × (¬ (HasNoFault (read_cells c))) × (¬ (IsClean c)))

-- why a column that a builder takes isn't appended: out of memory, or one of the cells that are read is a fault
abbrev pub IsUnread : Tree → VortexError → Type 0
IsUnread c e = (e ≡ OutOfMemory) ⊎ ((e ≡ Fault) × (¬ (HasNoFault (read_cells c))) × (¬ (IsClean c)))

-- a step that is over: the node, or the column of its builder
abbrev pub ended : Option GrownRows → Tree → Focus
ended None t = Whole t
ended (Some b) t = Whole (grown b)

-- without a builder, the node has all of its slots
abbrev pub MayEnd : Option GrownRows → Tree → Type 0
MayEnd None t = IsNodeOf t
MayEnd (Some b) t = Unit {0}

-- one move leads from the node c under the frames fs to the node d under the frames gs
abbrev pub IsOneMove : (Tree → Bool) → List Frame → Focus → List Frame → Focus → Type 0
IsOneMove fits fs c gs d =
    IsPop fits fs c gs d ⊎ IsPush fits fs c gs d ⊎ IsStepped fits fs c gs d ⊎ IsAppended fits fs c gs d ⊎ IsFinished fits fs c gs d

-- one move, which keeps the rows of the whole tree and leaves fewer turns
pub record IsMove (fits : Tree → Bool) (fs : List Frame) (c : Focus) (gs : List Frame) (d : Focus) : Type 0 where
  pub one : IsOneMove fits fs c gs d
  pub kept : KeepsFirmly (filled fs (focus_tree c)) (filled gs (focus_tree d))
  pub frames : AreFrames gs (focus_tree d)
  pub focus : IsFocus d
  pub falls : frames_top gs + focus_top d < frames_top fs + focus_top c

-- a turn makes one move, or returns the root once it has reached its target
abbrev pub IsTurned : (Tree → Bool) → List Frame → Focus → List Frame → Turn → Type 0
IsTurned fits fs c gs (Go d) = IsMove fits fs c gs d
IsTurned fits fs c gs (Return u) = (fs ≡ []) × (c ≡ Whole u) × (is_reached fits [] u ≡ true)

-- n moves lead from the tree t to the node c under the frames gs
unfoldable pub Reaches : (Tree → Bool) → Tree → ℕ → List Frame → Focus → Type 0
Reaches fits t zero gs c = (gs ≡ []) × (c ≡ Whole t)
Reaches fits t (suc n) gs c = (fs : List Frame) × (b : Focus) × Reaches fits t n fs b × IsOneMove fits fs b gs c

-- the execution of t goes on for n moves
abbrev pub GoesOn : (Tree → Bool) → Tree → ℕ → Type 0
GoesOn fits t n = (fs : List Frame) × (c : Focus) × Reaches fits t n fs c

-- the execution of t takes n turns: each but the last is one move, and the last returns u
unfoldable pub IsExecuted : (Tree → Bool) → Tree → ℕ → Tree → Type 0
IsExecuted fits t zero u = ⊥
IsExecuted fits t (suc n) u = Reaches fits t n [] (Whole u) × (is_reached fits [] u ≡ true)

-- slot i of t comes next, and a cell that is read of the column in it has no value
abbrev pub IsUnappendable : Tree → Type 0
IsUnappendable t = (i : ℕ) × (c : Tree) × (p : Tree) × IsAppend i t × IsWithout i c p t × (¬ (HasNoFault (read_cells c)))

-- the current node hasn't reached its target, and a fault stops it: its step is due and one of its nodes has a fault, or the column whose rows come next does
abbrev pub IsFaulty : (Tree → Bool) → List Frame → Focus → Type 0
IsFaulty fits fs c = (is_over fits fs c ≡ false) × ((IsDue (node_in c) × (¬ (IsClean (node_in c)))) ⊎ IsUnappendable (node_in c))

-- the execution of t fails in turn n at such a node: each turn before is one move
unfoldable pub FaultsIn : (Tree → Bool) → Tree → ℕ → Type 0
FaultsIn fits t zero = ⊥
FaultsIn fits t (suc n) = (fs : List Frame) × (c : Focus) × Reaches fits t n fs c × IsFaulty fits fs c
