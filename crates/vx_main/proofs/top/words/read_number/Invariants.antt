use Rattle.std.proofs.Common.{◌≡◌, drop}
use Rattle.vx_main.specs.Commands.{read_on}
use Rattle.vx_main.proofs.top.words.read_number.Given as goal

-- what the bytes so far have been read to, and the rest
abbrev pub invariant-loop-byte : goal.invariant-loop-byte
invariant-loop-byte l = read_on 0 l.text ≡ read_on l.number (drop l.byte-index l.text)
