-- What a run must write, and why it has no answer.
use Rattle.std.specs.Prelude.{◌≡◌, ℕ, ◌≤◌, ◌<◌, List, length, Bool, true, Option, Some, None, IfSome}
use Rattle.std.specs.Io.KnownBytes.{Appends}
use Rattle.vx_tree.specs.Tree.{Tree, dtype, datum, id_of, is_columnar}
use Rattle.vx_tree.specs.Cells.{rows, IsClean}
use Rattle.vx_tree.specs.Cost.{cost}
use Rattle.vx_tree.specs.Weight.{weight}
use Rattle.vx_tree.specs.Keeps.{RowsKeep}
use Rattle.vx_tree.specs.Firm.{IsFirm}
use Rattle.vx_rule.specs.declared.handed_in.DynReduceParentRule as rule
use Rattle.vx_opt.specs.Entries.{Entry, entries_of, SpentNothing, IsRefusal}
use Rattle.vx_opt.specs.Answers.{IsDescended, MeetsLimitBelow, Spending}
use Rattle.vx_main.specs.Commands.{limit_of}
use Rattle.vx_value.specs.declared.id.Id.{Id}
use Rattle.vx_value.specs.declared.error.SessionKind.{SessionKind}
use Rattle.vx_value.specs.declared.error.VortexError.{VortexError}
use Rattle.vx_value.specs.declared.error.VortexError.TheVariants as error
use Rattle.vx_json.specs.Spelled.{Spells, SpellsNone}
use Rattle.vx_exec.specs.Moves.{IsExecuted, GoesOn}
use Rattle.vx_exec.specs.declared.session.VortexSession.{VortexSession}
use Rattle.vx_main.specs.Limits.{input_limit}
use Rattle.vx_tree.specs.Columns.{IsLawful}
use Rattle.vx_json.specs.Output.{Shows}
use Rattle.vx_main.specs.Streams.{AppendsPrefix}
use Rattle.vx_main.specs.declared.top.words.Command.{Command}
use Rattle.vx_main.specs.declared.top.words.Command.TheVariants.{Run, Optimize, Help, Version}
use Rattle.vx_main.specs.declared.top.words.TheConstants.{HELP, VERSION}
use Rattle.vx_main.specs.declared.top.status.Status.{Status}
use Rattle.vx_main.specs.declared.top.status.Status.TheVariants.{BadInput, Fault, TurnLimit, RewriteLimit, Refused, Memory}

-- whether a tree is a column, the target of a run
abbrev pub is_column : Tree → Bool
is_column t = is_columnar (datum t)

-- the session's rules before the run, and after it
pub record Rules : Type 0 where
  pub before : List Entry
  pub after : List Entry

abbrev pub rules_of : {X : Type 0} {F : X → Type 0} → ((v : X) → rule.Ghosts (F v)) → VortexSession X F → VortexSession X F → Rules
rules_of counts old new = record { before = entries_of counts old.kernels.rules; after = entries_of counts new.kernels.rules }

-- the tree that a command executes in the place of t: t itself, or what it is optimized to, each slot after its root, by the table's rows and by
-- the session's rules
abbrev pub IsSource : Command → Rules → Tree → Tree → Type 0
IsSource (Run limit) r t u = u ≡ t
IsSource (Optimize limit) r t u = Spending (IsDescended t u) r.before r.after
IsSource _ r t u = ⊥

-- the command rewrites t so, and comes to a rewrite at a limit: it is number at_root at its root, and number total in all
abbrev pub IsStuck : Command → Rules → Tree → ℕ → ℕ → Type 0
IsStuck (Optimize limit) r t at_root total = Spending (λ spent. MeetsLimitBelow t spent at_root total) r.before r.after
IsStuck _ r t at_root total = ⊥

-- the command asks a rule of the session that refuses, at place k of the list for these ids
abbrev pub IsRefused : Command → Rules → SessionKind → Id → Id → ℕ → Type 0
IsRefused (Optimize limit) r kind parent child k = IsRefusal kind parent child k r.before r.after
IsRefused _ r kind parent child k = ⊥

-- why the command has no source for t: out of memory, a refusal, or a limit, which a tree of weight 100 or less doesn't reach unless rules of
-- the session answer
abbrev pub IsUnprepared : Command → Rules → Tree → VortexError → Type 0
IsUnprepared c r t error.OutOfMemory = Unit {0}
IsUnprepared c r t (error.RewriteLimit at_root total) = IsStuck c r t at_root total × (SpentNothing r.before r.after → 100 < weight t)
IsUnprepared c r t (error.Refused kind parent child k) = IsRefused c r kind parent child k
IsUnprepared c r t _ = ⊥

-- the bytes spell a tree; the command's source is executed to a column within its turns; the text has the tree's type, the column's encoding, which is lawful,
-- and the column's rows, which are the tree's wherever the tree has a value, and just the source's if that is firm
pub record Answers (c : Command) (r : Rules) (bytes : List ℕ) (text : List ℕ) : Type 0 where
  pub tree : Tree
  pub spelled : Spells bytes tree
  pub source : Tree
  pub from : IsSource c r tree source
  pub rows_kept : RowsKeep (rows tree) (rows source)
  pub column : Tree
  pub turns : ℕ
  pub executed : IsExecuted is_column source turns column
  pub within : (1 ≤ turns) × (turns ≤ limit_of c)
  pub as_it_is : is_column source ≡ true → column ≡ source
  pub column_kept : RowsKeep (rows source) (rows column)
  pub exact : IsFirm source → rows source ≡ rows column
  pub lawful : IsLawful (id_of (datum column)) (dtype tree) (rows column)
  pub shown : Shows (dtype tree) (id_of (datum column)) (rows column) text

-- the text that a command must write for the input, if the input is known
abbrev pub Owes : Command → Rules → Option (List ℕ) → List ℕ → Type 0
Owes Help r input text = text ≡ HELP.now
Owes Version r input text = text ≡ VERSION.now
Owes c r input text = IfSome input (λ bytes. Answers c r bytes text)

-- the text that the command must write was appended to the sink
abbrev pub Writes : Command → Rules → Option (List ℕ) → Option (List ℕ) → Option (List ℕ) → Type 0
Writes c r input old new = (text : List ℕ) × Owes c r input text × Appends old new text

-- a prefix of that text was appended
abbrev pub WritesPrefix : Command → Rules → Option (List ℕ) → Option (List ℕ) → Option (List ℕ) → Type 0
WritesPrefix c r input old new = (text : List ℕ) × Owes c r input text × AppendsPrefix old new text

-- the bytes spell a tree whose source costs more than the command's turns, and isn't executed within them
pub record IsCostly (c : Command) (r : Rules) (bytes : List ℕ) : Type 0 where
  pub tree : Tree
  pub spelled : Spells bytes tree
  pub source : Tree
  pub from : IsSource c r tree source
  pub above : limit_of c < cost source
  pub going_on : GoesOn is_column source (limit_of c)

-- the bytes spell a tree that reaches a limit of rewrites; a tree of weight 100 or less reaches none unless rules of the session answer
pub record MeetsRewriteLimit (c : Command) (r : Rules) (bytes : List ℕ) (at_root total : ℕ) : Type 0 where
  pub tree : Tree
  pub spelled : Spells bytes tree
  pub stuck : IsStuck c r tree at_root total
  pub heavy : SpentNothing r.before r.after → 100 < weight tree

-- the bytes spell a tree, and a rule of the session refused
pub record MeetsRefusal (c : Command) (r : Rules) (bytes : List ℕ) (kind : SessionKind) (parent child : Id) (k : ℕ) : Type 0 where
  pub tree : Tree
  pub spelled : Spells bytes tree
  pub refused : IsRefused c r kind parent child k

-- the bytes spell a tree that has a fault in one of its nodes
pub record IsFaulty (bytes : List ℕ) : Type 0 where
  pub tree : Tree
  pub spelled : Spells bytes tree
  pub unclean : ¬ (IsClean tree)

-- why an input that was read has no answer, by status: a line for each that is possible
abbrev pub HasNoAnswer : Command → Rules → List ℕ → Status → Type 0
HasNoAnswer c r bytes Memory = Unit {0}
HasNoAnswer c r bytes BadInput = SpellsNone bytes
HasNoAnswer c r bytes Fault = IsFaulty bytes
HasNoAnswer c r bytes (TurnLimit n turns) = (n ≡ limit_of c) × (turns ≡ limit_of c) × IsCostly c r bytes
HasNoAnswer c r bytes (RewriteLimit at_root total) = MeetsRewriteLimit c r bytes at_root total
HasNoAnswer c r bytes (Refused kind parent child k) = MeetsRefusal c r bytes kind parent child k
HasNoAnswer c r bytes _ = ⊥

-- what a command needs of its input and of the session: the input isn't too large, and spells a tree without faults, whose source costs at most
-- the command's turns; no limit of rewrites is met, and no rule refuses
abbrev pub Suffices : Command → Rules → Option (List ℕ) → Type 0
Suffices Help r input = Unit {0}
Suffices Version r input = Unit {0}
Suffices c r None = ⊥
Suffices c r (Some bytes) =
    (length bytes ≤ input_limit) × (t : Tree) × Spells bytes t × IsClean t × ((u : Tree) → IsSource c r t u → cost u ≤ limit_of c)
    × ((at_root total : ℕ) → IsStuck c r t at_root total → ⊥)
    × ((kind : SessionKind) (parent child : Id) (k : ℕ) → IsRefused c r kind parent child k → ⊥)
