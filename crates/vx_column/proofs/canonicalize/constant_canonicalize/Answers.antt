use Rattle.std.proofs.Common.{subst, sym, ap, ◌∙◌}
use Rattle.std.proofs.lemmas.Result.{IfOk-weaker}
use Rattle.vx_tree.specs.Tree.{dtype, constant}
use Rattle.vx_tree.specs.Well.{IsTree}
use Rattle.vx_tree.specs.Columns.{empty_of}
use Rattle.vx_tree.specs.Canonicals.{canonical_tree}
use Rattle.vx_column.proofs.ExpandedLemmas.{none_repeated, constant_columns}
use Rattle.vx_column.proofs.canonicalize.constant_canonicalize.Goals as goal

pub repeat-requires : goal.repeat-requires
repeat-requires c =
    let known = subst IsTree c.array.ensures.of (c.well_formed_tree.ensures.formed, c.well_formed_tree.ensures.supported) in
    constant_columns c.args.array.array.now c.scalar-scalar.result.now (ap constant c.scalar-scalar.ensures ∙ c.data.ensures) known.0 known.1

pub returns-then-is_empty-clause-ok : goal.returns-then-is_empty-clause-ok
returns-then-is_empty-clause-ok c =
    let known = subst IsTree c.array.ensures.of (c.well_formed_tree.ensures.formed, c.well_formed_tree.ensures.supported) in
    IfOk-weaker c.empty.result _ _
    (λ u made. none_repeated c.args.array.array.now (canonical_tree u) known.0 (sym c.is_empty.ensures ∙ c.if-is_empty.true)
    (made ∙ ap empty_of c.dtype.ensures.dtype))
    c.empty.ensures.ok
