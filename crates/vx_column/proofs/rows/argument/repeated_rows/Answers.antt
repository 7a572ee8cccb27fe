use Rattle.std.proofs.Common.{◌≡◌, ◌⊎◌, [], ap, sym, ◌∙◌, subst, refl, rules, FitsSigned}
use Rattle.std.specs.Prelude.{unwrap_or}
use Rattle.vx_value.specs.Storage.{storage_of}
use Rattle.vx_value.specs.Parts.{bytes_in}
use Rattle.vx_value.specs.declared.dtype.Storage.TheVariants.{Text, Bytes}
use Rattle.vx_column.specs.declared.rows.argument.BytesRows.TheVariants.{Value}
use Rattle.vx_column.proofs.StoredLemmas.{bytes_repeated, decimals_repeated}
use Rattle.vx_column.proofs.rows.argument.repeated_rows.Goals as goal
use Rattle.vx_value.specs.View.{type_of}
use Rattle.std.proofs.Math.Facts.{to_z-of_z}
use Rattle.std.specs.Int.{w128}

pub returns-in-Decimal : goal.returns-in-Decimal
returns-in-Decimal c =
    let s = c.args.scalar.now in
    let fits : FitsSigned w128 c.unscaled_of.result = search rules in
    rw c.decimals_of.ensures
    (decimals_repeated s c.in-Decimal.decimal _ c.in-Decimal.field-1 (sym c.dtype-dtype.ensures.dtype ∙ ap type_of c.in-Decimal.is)
    (to_z-of_z fits ∙ c.unscaled_of.ensures) c.dtype-dtype.ensures.typed)

pub returns-in-Text : goal.returns-in-Text
returns-in-Text c =
    let s = c.args.scalar.now in
    let kind = c.storage-in-Text.ensures ∙ ap storage_of c.dtype-dtype.ensures.dtype in
    let same = c.storage.ensures ∙ ap storage_of c.dtype-dtype.ensures.dtype ∙ sym kind in
    let known = subst (λ st. (st ≡ Text) ⊎ (st ≡ Bytes)) same c.in-Text.is in
    let there : c.unwrap_or-bytes.result.now ≡ unwrap_or (bytes_in s.value) [] = search rules in
    rw c.bytes_of.ensures
    (bytes_repeated s (record { storage = c.storage-in-Text.result; rows = Value c.unwrap_or-bytes.result }) c.unwrap_or-bytes.result.now kind known there
    (λ i. refl)
    (λ n h. h) c.dtype-dtype.ensures.typed)
