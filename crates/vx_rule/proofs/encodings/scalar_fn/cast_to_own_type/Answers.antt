use Rattle.std.proofs.Common.{rules, ◌≡◌, true, false}
use Rattle.vx_value.specs.Types.{same_type, same_type_Decides}
use Rattle.vx_value.specs.View.{type_of}
use Rattle.vx_tree.specs.Tree.{dtype, len}
use Rattle.vx_rule.proofs.FitsLemmas.{fit_C1}
use Rattle.vx_rule.proofs.QuietLemmas.{cast_quiet}
use Rattle.vx_rule.proofs.encodings.scalar_fn.cast_to_own_type.Goals as goal

pub returns-then-not-is_same_type : goal.returns-then-not-is_same_type
returns-then-not-is_same_type c =
    let other : same_type (dtype c.args.child.now) (type_of c.args.target.now) ≡ false = search rules in
    cast_quiet (dtype c.args.array.now) (len c.args.array.now) c.args.target.now c.args.array.now c.args.child.now c.requires
    (λ e. cc ((same_type_Decides (dtype c.args.child.now) (type_of c.args.target.now)).1 e, other))

pub returns : goal.returns
returns c =
    let own : same_type (dtype c.args.child.now) (type_of c.args.target.now) ≡ true = search rules in
    let same : c.done.result.tree ≡ c.args.child.now = search rules in
    fit_C1 (dtype c.args.array.now) (len c.args.array.now) c.args.target.now c.args.array.now c.args.child.now c.done.result.tree c.done.result.optimize.items
    c.requires
    ((same_type_Decides (dtype c.args.child.now) (type_of c.args.target.now)).0 own) same c.done.ensures.optimize
