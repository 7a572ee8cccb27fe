use Rattle.std.proofs.Common.{◌≡◌, ◌<◌, ◌≤◌, ◌++◌, ◌+◌, length, drop, take, ◌∙◌, arith, length-append, length-drop, length-take}
use Rattle.std.proofs.lemmas.Grind.{common_steps}
use Rattle.std.proofs.lemmas.List.{drop_all}
use Rattle.vx_main.proofs.StreamsLemmas.{piece_read}
use Rattle.vx_main.proofs.streams.mem.MemSourceSource.read.Goals as goal

pub returns-clause-bytes : goal.returns-clause-bytes
returns-clause-bytes c =
    let moved : c.copy_from_slice.new.self ≡ take c.min-count.result (drop c.self.inside.at c.self.inside.bytes.items) = grind (arith, common_steps) in
    let within : c.self.inside.at + c.min-count.result ≤ length c.self.inside.bytes.items = omega arith in
    let told : c.args.self.now.bytes ≡ drop c.self.inside.at c.self.inside.bytes.items = cc in
    let all : 0 < length (c.copy_from_slice.new.self ++ drop c.min-count.result c.args.room.now) → c.min-count.result ≡ 0
    → length c.self.inside.bytes.items ≤ c.self.inside.at + c.min-count.result = λ some none.
    let room = simp (length-append, length-drop) at some in
    let least = simp (length-take, length-drop) at c.min.ensures in
    omega arith in (
      told ∙ piece_read c.self.inside.bytes.items c.args.room.now c.copy_from_slice.new.self c.self.inside.at c.min-count.result within moved,
      λ none some. drop_all (c.self.inside.at + c.min-count.result) c.self.inside.bytes.items (all some none),
    )
