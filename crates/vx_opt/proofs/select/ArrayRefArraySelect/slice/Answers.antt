use Rattle.std.proofs.Common.{◌≤◌, ap, subst, ◌∙◌}
use Rattle.vx_tree.specs.Columns.{empty_of}
use Rattle.vx_opt.proofs.SelectLemmas.{whole_keeps, empty_keeps}
use Rattle.vx_opt.proofs.select.ArrayRefArraySelect.slice.Goals as goal

pub returns-then-range-len-clause-keeps : goal.returns-then-range-len-clause-keeps
returns-then-range-len-clause-keeps c =
    whole_keeps _ _ c.args.self.now _ c.well_formed_tree.ensures.formed c.if-range-eq0.true (c.if-range-len.true ∙ c.len.ensures) c.in_ok-clone.ensures.cases

pub returns-then-range-len-2-clause-keeps : goal.returns-then-range-len-2-clause-keeps
returns-then-range-len-2-clause-keeps c =
    let within = subst (λ n. c.args.range.end ≤ n) c.len-then-range.ensures c.if-range-len-2.true in
    let none = c.into_array.ensures ∙ c.in_ok-empty.ensures.ok ∙ ap empty_of c.dtype.ensures.dtype in
    empty_keeps _ _ c.args.self.now _ c.well_formed_tree.ensures.formed c.if-range.true within none
