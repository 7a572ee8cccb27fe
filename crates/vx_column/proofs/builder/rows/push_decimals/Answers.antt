use Rattle.std.proofs.Common.{◌≡◌, ◌++◌, pos, OnOk, ap, sym, subst, ◌∙◌, rules}
use Rattle.std.proofs.Common.{FitsSigned}
use Rattle.std.proofs.Math.Facts.{to_z-of_z}
use Rattle.std.specs.Int.{w128}
use Rattle.vx_tree.specs.Widths.{fits_width}
use Rattle.vx_tree.proofs.DecimalNumbersLemmas.{digits_fit}
use Rattle.vx_column.specs.Arguments.{HasDecimals}
use Rattle.vx_column.specs.Arguments.{unscaled_at, unscaled_in}
use Rattle.vx_column.specs.ValidRows.{HasValidity}
use Rattle.vx_column.proofs.ValidRowsLemmas.{counted}
use Rattle.vx_column.proofs.GrowingLemmas.{number_rows_or, made_rows_or}
use Rattle.vx_column.proofs.builder.rows.push_decimals.Goals as goal

pub push_copies-requires : goal.push_copies-requires
push_copies-requires c =
    let d = c.args.decimals.decimal in
    let k = c.in-Value-All in
    let fits : FitsSigned w128 k.unscaled = search rules in
    let stored = subst (λ r. HasDecimals d r c.args.len) k.is-0 c.requires.decimals in
    ap (fits_width c.args.kept.now.kind) (to_z-of_z fits) ∙ digits_fit c.args.kept.now.kind d.precision k.unscaled (sym c.requires.kind) d.is_decimal.1 stored

pub returns-in-Value-All-clause-ok : goal.returns-in-Value-All-clause-ok
returns-in-Value-All-clause-ok c =
    let kept = c.args.kept.now in
    let k = c.in-Value-All in
    subst (λ zs. OnOk c.push_copies.result (c.push_copies.new.self ≡ record { kind = kept.kind; numbers = kept.numbers ++ zs }))
    (number_rows_or c.args.valid.now _ (unscaled_in c.args.decimals) k.unscaled c.args.len (search rules) k.is-1 (λ i. ap (λ r. unscaled_at r i) k.is-0))
    c.push_copies.ensures.ok

pub push_numbers-requires-clause-valid : goal.push_numbers-requires-clause-valid
push_numbers-requires-clause-valid c =
    subst (HasValidity c.args.valid.now) (sym (counted (unscaled_in c.args.decimals) c.in_ok-numbers.numbers.numbers c.args.len c.in_ok-numbers.ensures.values))
    c.requires.valid

pub returns-clause-ok : goal.returns-clause-ok
returns-clause-ok c =
    let kept = c.args.kept.now in
    subst (λ zs. OnOk c.push_numbers.result (c.push_numbers.new.kept ≡ record { kind = kept.kind; numbers = kept.numbers ++ zs }))
    (made_rows_or (pos 0) c.args.valid.now (unscaled_in c.args.decimals) c.args.len c.in_ok-numbers.numbers.numbers c.in_ok-numbers.ensures.values)
    c.push_numbers.ensures.ok
