use Rattle.std.proofs.Common.{◌≡◌, IfOk, refl, sym, ap, subst}
use Rattle.std.proofs.lemmas.Result.{IfOk-weaker}
use Rattle.vx_value.specs.Types.{primitive, decimal, utf8, binary}
use Rattle.vx_value.specs.View.{type_of}
use Rattle.vx_value.specs.Casts.{cast_to}
use Rattle.vx_tree.specs.Canonicals.{canonical_tree}
use Rattle.vx_tree.specs.Tree.{dtype}
use Rattle.vx_column.specs.Arguments.{value_at}
use Rattle.vx_column.specs.Computed.{IsColumnOfCells}
use Rattle.vx_column.proofs.CastsLemmas.{bits_kept, cast_made}
use Rattle.vx_column.proofs.functions.cast.casts.cast_rows.Goals as goal

pub returns-in-Nulls-default-clause-ok : goal.returns-in-Nulls-default-clause-ok
returns-in-Nulls-default-clause-ok c =
    let t = type_of c.args.target.now in
    subst (λ r. IfOk c.cast_nulls.result (λ u. (dtype (canonical_tree u) ≡ t)
    × IsColumnOfCells c.args.valid.now (λ i. cast_to t (value_at r i)) c.args.len (canonical_tree u)))
    (sym c.in-Nulls-default.is-0) c.cast_nulls.ensures.ok

pub returns-in-Bits-default-clause-ok : goal.returns-in-Bits-default-clause-ok
returns-in-Bits-default-clause-ok c =
    IfOk-weaker c.stored_column.result _ _
    (λ u h. bits_kept c.args.rows c.in-Bits-default.field-0-0 (type_of c.args.target.now) c.args.valid.now c.args.len (canonical_tree u) c.in-Bits-default.is-0
    c.requires.target c.requires.nullability h)
    c.stored_column.ensures.ok

pub returns-in-Integers-Primitive-clause-ok : goal.returns-in-Integers-Primitive-clause-ok
returns-in-Integers-Primitive-clause-ok c =
    let arm = c.in-Integers-Primitive in
    cast_made (primitive arm.ptype) _ _ _ arm.is-0 (ap type_of arm.is-1) refl c.requires.nullability c.cast_integers.ensures.ok

pub returns-in-Integers-Decimal-clause-ok : goal.returns-in-Integers-Decimal-clause-ok
returns-in-Integers-Decimal-clause-ok c =
    let arm = c.in-Integers-Decimal in
    cast_made (decimal arm.decimal.precision arm.decimal.scale) _ _ _ arm.is-0 (ap type_of arm.is-1) refl c.requires.nullability
    c.integers_to_decimals.ensures.ok

pub returns-in-Decimals-Decimal-clause-ok : goal.returns-in-Decimals-Decimal-clause-ok
returns-in-Decimals-Decimal-clause-ok c =
    let arm = c.in-Decimals-Decimal in
    cast_made (decimal arm.decimal.precision arm.decimal.scale) _ _ _ arm.is-0 (ap type_of arm.is-1) refl c.requires.nullability c.cast_decimals.ensures.ok

pub returns-in-Bytes-Utf8-clause-ok : goal.returns-in-Bytes-Utf8-clause-ok
returns-in-Bytes-Utf8-clause-ok c =
    let arm = c.in-Bytes-Utf8 in
    cast_made utf8 _ _ _ arm.is-0 (ap type_of arm.is-1) refl c.requires.nullability c.cast_to_text.ensures.ok

pub returns-in-Bytes-Binary-clause-ok : goal.returns-in-Bytes-Binary-clause-ok
returns-in-Bytes-Binary-clause-ok c =
    let arm = c.in-Bytes-Binary in
    cast_made binary _ _ _ arm.is-0 (ap type_of arm.is-1) refl c.requires.nullability c.stored_column-in-Bytes-Binary.ensures.ok
