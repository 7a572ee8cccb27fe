-- The command in the words.
use Rattle.std.specs.Prelude.{ℕ, ◌+◌, ◌-◌, ◌*◌, ◌^◌, ◌==◌, ◌&&◌, nat_le, nat_lt, List, [], ◌∷◌, Bool, true, false, if◌then◌else◌, codes, bytes_eq, map, String, string_bytes, Option, Some, None}
use Rattle.std.specs.declared.alloc.Global.{Global}
use Rattle.vx_exec.specs.Limits.{default_turns}
use Rattle.vx_main.specs.declared.top.words.Command.{Command}
use Rattle.vx_main.specs.declared.top.words.Command.TheVariants.{Run, Optimize, Help, Version}

abbrev pub texts : List (String Global) → List (List ℕ)
texts words = map string_bytes words

-- the number n followed by the digits of cs, if it is below 2^64
abbrev pub read_on : ℕ → List ℕ → Option ℕ
read_on n [] = Some n
read_on n (c ∷ cs) = if nat_le 48 c && nat_le c 57 && nat_lt (n * 10 + (c - 48)) (2 ^ 64) then read_on (n * 10 + (c - 48)) cs else None

-- a decimal number below 2^64, without a leading zero
abbrev pub number_of : List ℕ → Option ℕ
number_of [] = None
number_of (c ∷ []) = read_on 0 (c ∷ [])
number_of (c ∷ d ∷ cs) = if c == 48 then None else read_on 0 (c ∷ d ∷ cs)

-- a command of one word
abbrev pub word_command : List ℕ → Option Command
word_command w =
    if bytes_eq w (codes "run") then Some (Run default_turns) else
    (if bytes_eq w (codes "optimize") then Some (Optimize default_turns) else
    (if bytes_eq w (codes "--help") then Some Help else (if bytes_eq w (codes "--version") then Some Version else None)))

-- a command of a word and a number
abbrev pub limited_command : List ℕ → ℕ → Option Command
limited_command w limit =
    if bytes_eq w (codes "run") then Some (Run limit) else (if bytes_eq w (codes "optimize") then Some (Optimize limit) else None)

abbrev pub with_number : List ℕ → Option ℕ → Option Command
with_number w None = None
with_number w (Some limit) = limited_command w limit

abbrev pub numbered_command : List ℕ → List ℕ → Option Command
numbered_command w n = with_number w (number_of n)

abbrev pub command_of : List (List ℕ) → Option Command
command_of [] = None
command_of (w ∷ []) = word_command w
command_of (w ∷ n ∷ []) = numbered_command w n
command_of (w ∷ n ∷ v ∷ ws) = None

-- whether the command reads the input
abbrev pub reads_tree : Option Command → Bool
reads_tree None = false
reads_tree (Some (Run limit)) = true
reads_tree (Some (Optimize limit)) = true
reads_tree (Some Help) = false
reads_tree (Some Version) = false

-- whether the command asks the session's rules
abbrev pub asks_rules : Option Command → Bool
asks_rules (Some (Optimize limit)) = true
asks_rules _ = false

-- the turns that the command allows
abbrev pub limit_of : Command → ℕ
limit_of (Run limit) = limit
limit_of (Optimize limit) = limit
limit_of _ = 0
