use Rattle.std.proofs.Common.{rules, ◌≡◌, true, false, subst}
use Rattle.vx_tree.specs.Tree.{datum, is_slice}
use Rattle.vx_rule.specs.Tags.{applies, is_get_item}
use Rattle.vx_rule.proofs.ChildrenLemmas.{column_quiet}
use Rattle.vx_rule.proofs.encodings.column.AnyReduceVTable.reduce_parent.Goals as goal

pub returns : goal.returns
returns g c =
    let x = c.args.child.now.array.now in
    let kind = subst (λ d. g.V.EncodingVariant.is_kind d ≡ true) c.args.child.now.own (g.met.V.EncodingVariant.kind_of c.args.child.now.payload.now) in
    let other : is_slice (datum c.args.parent.now) ≡ false = search rules in
    let unread : applies is_get_item (datum c.args.parent.now) ≡ false = search rules in
    column_quiet c.args.slot x c.args.parent.now (g.met.V.CanonicalEncoding.canonical (datum x) kind) c.requires unread other
