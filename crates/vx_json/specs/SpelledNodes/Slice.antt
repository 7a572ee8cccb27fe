-- The slice that an object spells.
use Rattle.std.specs.Prelude.{ℕ, ◌&&◌, nat_le, if◌then◌else◌, Option, Some, None, option_and_then, codes}
use Rattle.serde_json.specs.Data.{Data}
use Rattle.vx_tree.specs.Tree.{Tree, slice_of, len}
use Rattle.vx_json.specs.Fields.{keyed, number_at}

-- `{"enc":"slice","start":a,"stop":b,"child":{..}}`: rows `a..b` of the child
abbrev pub slice_within : Tree → ℕ → ℕ → Option Tree
slice_within t a b = if nat_le a b && nat_le b (len t) then Some (slice_of a b t) else None

abbrev pub slice_spelled : Data → Tree → Option Tree
slice_spelled d t =
    keyed 4 d (option_and_then (λ a. option_and_then (slice_within t a) (number_at (codes "stop") d)) (number_at (codes "start") d))
