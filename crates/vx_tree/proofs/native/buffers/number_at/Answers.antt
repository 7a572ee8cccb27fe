use Rattle.std.proofs.Common.{Some, length, option_map, sym, ap, ◌∙◌}
use Rattle.std.specs.List.{slice_get}
use Rattle.std.proofs.lemmas.List.{length-map}
use Rattle.std.proofs.lemmas.Option.{slice_get-map, slice_get_read}
use Rattle.vx_tree.specs.Ranges.{in_native}
use Rattle.vx_tree.proofs.NativesLemmas.{is_wide}
use Rattle.vx_tree.proofs.native.buffers.number_at.Goals as goal

pub returns-clause-value : goal.returns-clause-value
returns-clause-value g c =
    let value = g.T.Number.value in
    let items = c.as_slice.result.now in
    let wide = c.widened.result in
    slice_get-map value c.args.buffer.now c.args.index ∙ ap (λ l. option_map value (slice_get l c.args.index)) (sym c.as_slice.ensures)
    ∙ ap (option_map value) (slice_get_read items _ c.args.index c.index-as_slice-index.result
    (length-map c.args.buffer.now value ∙ ap length (sym c.as_slice.ensures))
    c.requires.bounds c.index-as_slice-index.is)
    ∙ ap Some (sym (is_wide wide c.widened.type_inv ∙ c.widened.ensures.value))

pub returns-clause-ranged : goal.returns-clause-ranged
returns-clause-ranged g c =
    let wide = c.widened.result in
    ap (g.K.NativeKind.has c.args.kind) (is_wide wide c.widened.type_inv) ∙ g.K.NativeKind.has_native c.args.kind wide
    ∙ ap (λ n. in_native n wide) (sym c.requires.named) ∙ (g.met.T.NativeNumber.fits_native wide).0 c.widened.ensures.fits
