use Rattle.std.proofs.Common.{◌≤◌, ◌-◌, ◌+◌, length, take, drop, slice_range, sym, ap, subst, ◌∙◌}
use Rattle.vx_mask.proofs.Lists.{part_of_part}
use Rattle.vx_mask.proofs.buffer.Buffer.slice.Goals as goal

pub returns : goal.returns
returns g c =
    let s = c.self.inside in
    let a = c.args.range.start in
    let b = c.args.range.end in
    let xs = s.storage.value.items in
    let bounds : b ≤ length (take s.len (drop s.start xs)) = subst (λ l. b ≤ length l) (sym c.self.view_is) c.requires.bounds in
    ap (λ v. take (b - a) (drop (s.start + a) v.items)) c.in_ok-storage.ensures.cases ∙ part_of_part xs s.start s.len a b c.requires.order bounds
    ∙ ap (λ l. slice_range l a b) c.self.view_is
