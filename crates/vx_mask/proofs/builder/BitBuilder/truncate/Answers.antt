use Rattle.std.proofs.Common.{arith, ap, refl, ◌≡◌, ◌≤◌, ◌+◌, ◌*◌, ◌/◌, ◌∷◌, [], ◌++◌, length, take, drop, suc, ◌<◌}
use Rattle.std.proofs.lemmas.List.{length-take}
use Rattle.vx_mask.specs.Bits.{bits_of}
use Rattle.vx_mask.proofs.Pushes.{at_word, cut}
use Rattle.vx_mask.proofs.builder.BitBuilder.truncate.Goals as goal
use Rattle.vx_mask.proofs.builder.BitBuilder.truncate.Goals.{then-full-len, else-full-len}

pub returns : goal.returns
returns c =
    let ws = c.self.inside.words.items in
    let n = 64 * length ws + c.self.inside.fill in
    let within : c.args.len ≤ n = omega (arith, c.requires, ap length c.self.view_is, length-take n (bits_of (ws ++ c.self.inside.last ∷ []))) in
    elim c.if-full-len.branch [
      | then-full-len w ↦
          let here : c.args.len / 64 < length ws = omega (arith, w.if-full-len.true, c.len.ensures, c.self.inside.words.ok.0) in
          let kept : length (take (c.args.len / 64) ws) ≡ c.args.len / 64 = omega (arith, length-take (c.args.len / 64) ws) in
          rw (w.self-inside-is, w.truncate.ensures.items, ← c.self.view_is)
          (cut ws (take (c.args.len / 64) ws) (drop (suc (c.args.len / 64)) ws ++ c.self.inside.last ∷ []) w.index.result.now c.self.inside.last
          c.self.inside.fill
          c.args.len (at_word ws (c.args.len / 64) w.index.result.now c.self.inside.last here w.index.ensures) kept within)
      | else-full-len w ↦
          let whole : length ws ≡ c.args.len / 64 = omega (arith, w.if-full-len.false, c.len.ensures, c.self.inside.words.ok.0, c.self.invariant.0) in
          rw (w.self-inside-is, ← c.self.view_is) (cut ws ws [] c.self.inside.last c.self.inside.last c.self.inside.fill c.args.len refl whole within)
    ]
