use Rattle.std.proofs.Common.{ap, refl, ◌∙◌, ◌++◌, map, replicate}
use Rattle.std.proofs.lemmas.List.{map-append}
use Rattle.vx_mask.proofs.Lists.{lengthened}
use Rattle.vx_tree.proofs.NativesLemmas.{copies_read, is_wide}
use Rattle.vx_tree.proofs.native.vec.push_copies.Goals as goal

pub returns-clause-ok : goal.returns-clause-ok
returns-clause-ok g c =
    let f = g.T.Number.value in
    let old = c.args.values.now.items in
    let kept = c.reserve.new.self in
    let more = lengthened c.resize.new.self.items kept.items _ c.len.result c.args.count _ c.in_ok-resize.ensures.items kept.ok.0 c.len.ensures in
    let value = c.fitted.ensures ∙ is_wide c.args.wide c.ranges.wide.sfits in
    rw (more, c.reserve.ensures.items, map-append f old (replicate c.args.count c.fitted.result))
    (ap (λ l. map f old ++ l) (copies_read f _ c.fitted.result c.args.count c.args.wide refl value))
