use Rattle.std.proofs.Common.{◌&&◌, ap, ◌∙◌}
use Rattle.std.proofs.lemmas.Result.{IfOk-weaker}
use Rattle.vx_value.specs.Nullabilities.{union}
use Rattle.vx_tree.specs.Canonicals.{canonical_tree}
use Rattle.vx_column.specs.ValidRows.{is_valid, nullability_in}
use Rattle.vx_column.proofs.KernelArgumentsLemmas.{has_stored}
use Rattle.vx_column.proofs.BetweenLemmas.{array_ordered, same_lower, same_upper, between_computed}
use Rattle.vx_column.proofs.functions.operator.bounds.between.Goals as goal

pub between_rows-requires-clause-rows : goal.between_rows-requires-clause-rows
between_rows-requires-clause-rows c =
    let a = c.args.array.now in
    let l = c.args.lower.now in
    let u = c.args.upper.now in
    let n = c.args.len in
    record {
      array_stored = has_stored n a c.requires.sized.0;
      lower_stored = has_stored n l c.requires.sized.1.0;
      upper_stored = has_stored n u c.requires.sized.1.1.0;
      same_lower = same_lower c.args.options n a l u c.requires;
      same_upper = same_upper c.args.options n a l u c.requires;
      sized = c.in_ok-valid.ensures.sized;
    }

pub between_rows-requires-clause-ordered : goal.between_rows-requires-clause-ordered
between_rows-requires-clause-ordered c =
    array_ordered c.args.options c.args.len c.args.array.now c.args.lower.now c.args.upper.now
    c.requires

pub returns-clause-ok : goal.returns-clause-ok
returns-clause-ok c =
    let a = c.args.array.now in
    let bounds = c.in_ok-bounds_valid.ensures in
    let valid = c.in_ok-valid in
    IfOk-weaker c.valid_bools.result _ _
    (λ u h. between_computed c.args.options c.args.len a c.args.lower.now c.args.upper.now c.requires
    valid.valid c.in_ok-bits.bits (canonical_tree u)
    (λ i lt. valid.ensures.rows i lt ∙ ap (λ b. is_valid a.valid i && b) (bounds.rows i lt))
    (valid.ensures.nullability ∙ ap (union (nullability_in a.valid)) bounds.nullability)
    c.in_ok-bits.ensures.made h)
    c.valid_bools.ensures.ok
