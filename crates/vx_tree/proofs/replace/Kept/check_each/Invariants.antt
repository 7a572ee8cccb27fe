use Rattle.std.proofs.Common.{◌≡◌, drop}
use Rattle.vx_tree.specs.Tree.{slots_of}
use Rattle.vx_tree.specs.Well.{shapes}
use Rattle.vx_tree.specs.Replacements.{first_refusal}
use Rattle.vx_tree.proofs.replace.Kept.check_each.Given as goal

abbrev pub invariant-loop-slot : goal.invariant-loop-slot
invariant-loop-slot l =
    first_refusal l.self 0 (shapes (slots_of l.old)) (shapes (slots_of l.new))
    ≡ first_refusal l.self l.slot (shapes (slots_of (drop l.slot l.old))) (shapes (slots_of (drop l.slot l.new)))
