use Rattle.std.proofs.Common.{◌≡◌, ◌<◌, length, get_or, ap, arith, sym, ◌∙◌}
use Rattle.std.specs.Prelude.{slice_get}
use Rattle.vx_tree.specs.Views.{ViewedRows, rows_of, view_at}
use Rattle.vx_tree.proofs.ViewsLemmas.{row_at}
use Rattle.vx_tree.proofs.views.views.BinaryViews.value.Goals as goal

pub returns : goal.returns
returns c =
    let views = c.self.inside.views in
    let buffers = c.self.inside.buffers in
    let i = c.args.index in
    let none = view_at 0 0 in
    let view = get_or c.as_slice.result.now i none in
    let item = c.index-as_slice-view.result in
    let here : i < length views = omega (arith, c.requires, ap (λ r. length (ViewedRows.views r)) c.self.view_is) in
    let seen : view ≡ get_or views i none = ap (λ vs. get_or vs i none) c.as_slice.ensures in
    let held : item ≡ get_or buffers view.buffer item = c.index-as_slice-view.is ∙ ap (λ bs. get_or bs view.buffer item) c.as_slice-2.ensures in
    ap (λ r. slice_get (rows_of r) i) (sym c.self.view_is)
    ∙ row_at buffers views i view none c.as_slice-bytes.result.now item c.self.invariant here seen c.as_slice-bytes.ensures held
