use Rattle.std.proofs.Common.{rules, ◌≡◌, false}
use Rattle.vx_mask.specs.Masks.{bits_in}
use Rattle.vx_tree.specs.Tree.{datum, is_struct}
use Rattle.vx_rule.proofs.QuietLemmas.{filter_quiet}
use Rattle.vx_rule.proofs.encodings.filter.filter_apart.Goals as goal

pub returns-then-not-is : goal.returns-then-not-is
returns-then-not-is c =
    let other : is_struct (datum c.args.child.now) ≡ false = search rules in
    filter_quiet (bits_in c.args.mask.now) c.args.child.now
    (record { some_left = c.requires.some_left; some = c.requires.some; no_run = c.requires.no_run }) other
