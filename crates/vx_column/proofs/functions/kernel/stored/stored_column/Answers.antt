use Rattle.std.proofs.Common.{◌≡◌, pos, false, [], refl, sym, ap, subst}
use Rattle.vx_value.specs.Types.{primitive}
use Rattle.vx_value.specs.Nullabilities.{with_nullability}
use Rattle.vx_value.specs.Values.{boolean, integer, decimal, bytes}
use Rattle.vx_value.specs.Cell.{value}
use Rattle.vx_mask.specs.Operands.{bit_in}
use Rattle.vx_tree.specs.DecimalNumbers.{numbers_of}
use Rattle.vx_tree.specs.Natives.{values_of}
use Rattle.vx_tree.specs.Tree.{dtype}
use Rattle.vx_column.specs.Arguments.{plain_type, value_at, integer_in, unscaled_in, bytes_in, HasStored}
use Rattle.vx_column.specs.ValidRows.{nullability_in}
use Rattle.vx_column.specs.Computed.{IsColumnOfCells}
use Rattle.vx_column.proofs.ValidRowsLemmas.{counted}
use Rattle.vx_column.proofs.MadeLemmas.{nulls_made, rows_made}
use Rattle.vx_column.proofs.ViewsLemmas.{rows_stored, row_stored, views_counted}
use Rattle.vx_tree.specs.Views.{rows_of}
use Rattle.vx_column.proofs.functions.kernel.stored.stored_column.Goals as goal

pub bit_rows-requires : goal.bit_rows-requires
bit_rows-requires c = subst (λ r. HasStored r c.args.len) c.in-Bits.is c.requires.rows

pub valid_bools-requires-clause-bits : goal.valid_bools-requires-clause-bits
valid_bools-requires-clause-bits c = counted (bit_in c.in-Bits.bits) (c.in_ok-bits-in-Bits.bits) c.args.len c.in_ok-bits-in-Bits.ensures

pub integer_rows-requires : goal.integer_rows-requires
integer_rows-requires c = subst (λ r. HasStored r c.args.len) c.in-Integers.is c.requires.rows

pub valid_integers-requires-clause-values : goal.valid_integers-requires-clause-values
valid_integers-requires-clause-values c = counted (integer_in c.in-Integers.integers)
    (values_of c.in_ok-values-in-Integers.values) c.args.len c.in_ok-values-in-Integers.ensures.values

pub decimal_rows-requires : goal.decimal_rows-requires
decimal_rows-requires c = subst (λ r. HasStored r c.args.len) c.in-Decimals.is c.requires.rows

pub valid_decimals-requires-clause-values : goal.valid_decimals-requires-clause-values
valid_decimals-requires-clause-values c = counted (unscaled_in c.in-Decimals.decimals)
    (numbers_of c.in_ok-values-in-Decimals.values) c.args.len c.in_ok-values-in-Decimals.ensures.values

pub byte_rows-requires : goal.byte_rows-requires
byte_rows-requires c = subst (λ r. HasStored r c.args.len) c.in-Bytes.is c.requires.rows

pub valid_bytes-requires-clause-rows : goal.valid_bytes-requires-clause-rows
valid_bytes-requires-clause-rows c =
    views_counted c.in_ok-rows-in-Bytes.rows (bytes_in c.in-Bytes.bytes) c.args.len c.in_ok-rows-in-Bytes.ensures.ok

pub returns-in_ok-new-in-Nulls-clause-ok : goal.returns-in_ok-new-in-Nulls-clause-ok
returns-in_ok-new-in-Nulls-clause-ok c =
    let valid = c.args.valid.now in
    let n = c.args.len in
    let is = c.in-Nulls.is in
    subst (λ u. (dtype u ≡ with_nullability (nullability_in valid) (plain_type c.args.rows)) × IsColumnOfCells valid (λ i. value (value_at c.args.rows i)) n u)
    (sym c.in_ok-new-in-Nulls.ensures.ok) (
      ap (λ r. with_nullability (nullability_in valid) (plain_type r)) (sym is),
      nulls_made (value_at c.args.rows) valid n (λ i. ap (λ r. value_at r i) is),
    )

pub returns-in_ok-bits-in-Bits-clause-ok : goal.returns-in_ok-bits-in-Bits-clause-ok
returns-in_ok-bits-in-Bits-clause-ok c =
    let made = c.in_ok-bits-in-Bits in
    rows_made boolean false (bit_in c.in-Bits.bits) c.args.rows _ c.args.valid.now c.args.len made.bits _ c.valid_bools.result c.in-Bits.is made.ensures
    (λ i. refl) refl c.valid_bools.ensures.ok

pub returns-in_ok-values-in-Integers-clause-ok : goal.returns-in_ok-values-in-Integers-clause-ok
returns-in_ok-values-in-Integers-clause-ok c =
    let valid = c.args.valid.now in
    let made = c.in_ok-values-in-Integers in
    rows_made integer (pos 0) (integer_in c.in-Integers.integers) c.args.rows _ valid c.args.len (values_of made.values) _ c.valid_integers.result
    c.in-Integers.is made.ensures.values (λ i. refl) (ap (λ p. primitive p (nullability_in valid)) made.ensures.kind) c.valid_integers.ensures.ok

pub returns-in_ok-values-in-Decimals-clause-ok : goal.returns-in_ok-values-in-Decimals-clause-ok
returns-in_ok-values-in-Decimals-clause-ok c =
    let ds = c.in-Decimals.decimals in
    let made = c.in_ok-values-in-Decimals in
    rows_made (λ z. decimal z ds.decimal.scale) (pos 0) (unscaled_in ds) c.args.rows _ c.args.valid.now c.args.len (numbers_of made.values) _
    c.valid_decimals.result c.in-Decimals.is made.ensures.values (λ i. refl) refl c.valid_decimals.ensures.ok

pub valid_bytes-requires-clause-stored : goal.valid_bytes-requires-clause-stored
valid_bytes-requires-clause-stored c =
    let n = c.args.len in
    let bs = c.in-Bytes.bytes in
    let made = c.in_ok-rows-in-Bytes in
    let are = subst (λ r. HasStored r n) c.in-Bytes.is c.requires.rows in
    rows_stored bs.storage (bytes_in bs) (rows_of made.rows) n made.ensures.ok (λ i lt. row_stored bs.storage bs.rows n i are lt)

pub returns-in_ok-rows-in-Bytes-clause-ok : goal.returns-in_ok-rows-in-Bytes-clause-ok
returns-in_ok-rows-in-Bytes-clause-ok c =
    let made = c.in_ok-rows-in-Bytes in
    rows_made bytes [] (bytes_in c.in-Bytes.bytes) c.args.rows _ c.args.valid.now c.args.len (rows_of made.rows) _ c.valid_bytes.result c.in-Bytes.is made.ensures.ok
    (λ i. refl) refl c.valid_bytes.ensures.ok
