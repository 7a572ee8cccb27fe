use Rattle.std.proofs.Common.{pos, get_or}
use Rattle.std.proofs.lemmas.Result.{IfOk-weaker}
use Rattle.vx_tree.specs.DecimalNumbers.{numbers_of, decimal_type_of}
use Rattle.vx_tree.specs.Canonicals.{canonical_tree}
use Rattle.vx_column.proofs.MadeLemmas.{decimals_made}
use Rattle.vx_column.proofs.ValidRowsLemmas.{by_rows}
use Rattle.vx_column.proofs.functions.kernel.valid.valid_decimals.Goals as goal

pub returns-clause-ok : goal.returns-clause-ok
returns-clause-ok c =
    let zs = numbers_of c.args.values in
    IfOk-weaker c.decimal_column.result _ _
    (λ u new. decimals_made c.args.valid.now c.args.len c.requires.valid c.in_ok-validity.validity c.in_ok-validity.ensures.ok c.args.decimal
    (decimal_type_of c.args.values) zs (λ i. get_or zs i (pos 0)) (canonical_tree u) (by_rows zs (pos 0) c.args.len c.requires.values) new)
    c.decimal_column.ensures.ok
