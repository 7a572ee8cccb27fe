use Rattle.std.proofs.Common.{◌≡◌, ◌++◌, pos, OnOk, ap, sym, subst, rules}
use Rattle.vx_column.specs.Arguments.{integer_at, integer_in}
use Rattle.vx_column.specs.ValidRows.{HasValidity}
use Rattle.vx_column.proofs.ValidRowsLemmas.{counted}
use Rattle.vx_column.proofs.GrowingLemmas.{number_rows_or, made_rows_or}
use Rattle.vx_column.proofs.builder.rows.push_integers.Goals as goal

pub returns-in-Value-All-clause-ok : goal.returns-in-Value-All-clause-ok
returns-in-Value-All-clause-ok c =
    let kept = c.args.kept.now in
    let k = c.in-Value-All in
    subst (λ zs. OnOk c.push_copies.result (c.push_copies.new.self ≡ record { kind = kept.kind; numbers = kept.numbers ++ zs }))
    (number_rows_or c.args.valid.now _ (integer_in c.args.integers) k.wide c.args.len (search rules) k.is-1 (λ i. ap (λ r. integer_at r i) k.is-0))
    c.push_copies.ensures.ok

pub push_numbers-requires-clause-valid : goal.push_numbers-requires-clause-valid
push_numbers-requires-clause-valid c =
    subst (HasValidity c.args.valid.now) (sym (counted (integer_in c.args.integers) c.in_ok-numbers.numbers.numbers c.args.len c.in_ok-numbers.ensures.values))
    c.requires.valid

pub returns-clause-ok : goal.returns-clause-ok
returns-clause-ok c =
    let kept = c.args.kept.now in
    subst (λ zs. OnOk c.push_numbers.result (c.push_numbers.new.kept ≡ record { kind = kept.kind; numbers = kept.numbers ++ zs }))
    (made_rows_or (pos 0) c.args.valid.now (integer_in c.args.integers) c.args.len c.in_ok-numbers.numbers.numbers c.in_ok-numbers.ensures.values)
    c.push_numbers.ensures.ok
