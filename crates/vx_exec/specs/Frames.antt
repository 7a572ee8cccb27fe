-- The stack of suspended parents, the outermost first, and the current node. Where a builder is under way, its rows stand in front of the slots that are left.
use Rattle.std.specs.Prelude.{◌≡◌, ℕ, ◌+◌, List, [], ◌∷◌, Option, Some, None}
use Rattle.vx_tree.specs.Tree.{Tree, dtype}
use Rattle.vx_tree.specs.Well.{IsNodeOf}
use Rattle.vx_tree.specs.Slots.{put, IsHole}
use Rattle.vx_column.specs.Grown.{GrownRows, grown, IsGrown}
use Rattle.vx_step.specs.Contents.{with_content, IsPart}
use Rattle.vx_step.specs.Turns.{target_of, node_potential, parent_potential}
use Rattle.vx_exec.specs.declared.turn.Frame.{Frame}
use Rattle.vx_exec.specs.declared.turn.Focus.{Focus}
use Rattle.vx_exec.specs.declared.turn.Focus.TheVariants.{Whole, Partial}

-- a node with its builder's rows in front, if it has one
abbrev pub active : Option GrownRows → Tree → Tree
active None t = t
active (Some b) t = with_content (grown b) t

-- a parent with t in its slot
abbrev pub wrapped : Frame → Tree → Tree
wrapped f t = active f.builder (put f.slot t f.parent)

-- the whole tree: each parent with its slot filled
abbrev pub filled : List Frame → Tree → Tree
filled [] t = t
filled (f ∷ fs) t = wrapped f (filled fs t)

-- without a builder t has all of its slots; the rows of one and the slots that are left have t's type and together its length
abbrev pub Fits : Option GrownRows → Tree → Type 0
Fits None t = IsNodeOf t
Fits (Some b) t = IsGrown b × (b.of_type ≡ dtype t) × IsPart (grown b) t

-- t fits the open slot of the frame
pub record IsFrame (f : Frame) (t : Tree) : Type 0 where
  pub hole : IsHole f.slot f.parent
  pub fits : Fits f.builder (put f.slot t f.parent)
  pub target : f.target ≡ target_of f.parent

abbrev pub AreFrames : List Frame → Tree → Type 0
AreFrames [] t = Unit {0}
AreFrames (f ∷ fs) t = IsFrame f (filled fs t) × AreFrames fs t

-- the turns left at the suspended parents
abbrev pub frames_top : List Frame → ℕ
frames_top [] = 0
frames_top (f ∷ fs) = parent_potential f.parent + frames_top fs

-- ---- the current node

abbrev pub node_in : Focus → Tree
node_in (Whole t) = t
node_in (Partial t b) = t

abbrev pub builder_in : Focus → Option GrownRows
builder_in (Whole t) = None
builder_in (Partial t b) = Some b

-- the current node with its builder
abbrev pub focus_on : Option GrownRows → Tree → Focus
focus_on None t = Whole t
focus_on (Some b) t = Partial t b

abbrev pub focus_tree : Focus → Tree
focus_tree c = active (builder_in c) (node_in c)

abbrev pub IsFocus : Focus → Type 0
IsFocus c = Fits (builder_in c) (node_in c)

-- the turns left at it
abbrev pub focus_top : Focus → ℕ
focus_top c = node_potential (node_in c)
