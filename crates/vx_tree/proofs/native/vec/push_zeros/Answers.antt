use Rattle.std.proofs.Common.{ap, refl, ◌∙◌, ◌++◌, map, replicate, pos}
use Rattle.std.proofs.lemmas.List.{map-append}
use Rattle.vx_mask.proofs.Lists.{lengthened}
use Rattle.vx_tree.proofs.NativesLemmas.{copies_read}
use Rattle.vx_tree.proofs.native.vec.push_zeros.Goals as goal

pub returns-clause-ok : goal.returns-clause-ok
returns-clause-ok g c =
    let f = g.T.Number.value in
    let old = c.args.values.now.items in
    let kept = c.reserve.new.self in
    let more = lengthened c.resize.new.self.items kept.items _ c.len.result c.args.count _ c.in_ok-resize.ensures.items kept.ok.0 c.len.ensures in
    let zero = ap f c.zero.ensures ∙ g.met.T.Zero.zero_law g.met.T.Integral.exact_law in
    rw (more, c.reserve.ensures.items, map-append f old (replicate c.args.count c.zero.result))
    (ap (λ l. map f old ++ l) (copies_read f _ c.zero.result c.args.count (pos 0) refl zero))
