use Rattle.std.proofs.Common.{◌≡◌, replicate, ◌∙◌}
use Rattle.vx_tree.proofs.NativesLemmas.{copies_read, is_wide}
use Rattle.vx_tree.proofs.native.buffers.copies_of.Goals as goal

pub returns-clause-numbers : goal.returns-clause-numbers
returns-clause-numbers g c =
    let v = c.fitted-value.result in
    let same : c.in_ok-values.values.items ≡ replicate c.args.len v = c.in_ok-values.ensures.items_if_clones_equal (g.met.T.NativeNumber.clones_same v) in
    c.into_native.ensures.same ∙ copies_read g.T.Number.value c.in_ok-from_vec.field-0 v c.args.len c.args.wide (c.in_ok-from_vec.ensures ∙ same)
    (c.fitted-value.ensures ∙ is_wide c.args.wide c.ranges.wide.sfits)
