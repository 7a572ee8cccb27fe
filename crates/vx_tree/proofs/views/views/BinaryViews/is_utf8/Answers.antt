use Rattle.std.proofs.Common.{◌≡◌, ◌<◌, ◌≤◌, length, true, [], ap, arith, refl, sym, take, rules, ◌∙◌}
use Rattle.std.specs.Str.{is_utf8}
use Rattle.std.proofs.lemmas.List.{take_all, length-map}
use Rattle.std.proofs.lemmas.List.Elements.{All-same, All-more}
use Rattle.std.proofs.lemmas.Option.{get_or_from_slice_get}
use Rattle.vx_tree.specs.Views.{rows_of, bytes_at}
use Rattle.vx_tree.proofs.views.views.BinaryViews.is_utf8.Goals as goal

pub loop-index-preserved : goal.loop-index-preserved
loop-index-preserved c =
    let all = c.args.self.now in
    let rows = rows_of all in
    let row = c.value.result.now in
    let text : is_utf8 row ≡ true = search rules in
    let within : c.loop-index.index < length rows = omega (arith, length-map all.views (bytes_at all.buffers)) in
    All-more (λ x. is_utf8 x ≡ true) rows c.loop-index.index [] within c.loop-index.invariant
    (ap is_utf8 (get_or_from_slice_get rows c.loop-index.index row [] c.value.ensures) ∙ text)

pub returns : goal.returns
returns c =
    let all = c.args.self.now in
    let rows = rows_of all in
    let i = c.loop-index.index in
    let past : length rows ≤ i = omega (arith, length-map all.views (bytes_at all.buffers)) in
    (λ _. All-same (λ x. is_utf8 x ≡ true) rows (take i rows) (sym (take_all i rows past)) c.loop-index.invariant, λ _. refl)
