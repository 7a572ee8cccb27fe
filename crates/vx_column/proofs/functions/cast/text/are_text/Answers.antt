use Rattle.std.proofs.Common.{◌↔◌, IsTrue, sym, subst}
use Rattle.std.specs.Str.{is_utf8}
use Rattle.std.proofs.lemmas.List.Sums.{AllPass-from_list_all, list_all-from_AllPass}
use Rattle.vx_value.specs.declared.dtype.Storage.TheVariants.{Text}
use Rattle.vx_column.specs.Arguments.{HasBytes}
use Rattle.vx_tree.specs.Views.{rows_of}
use Rattle.vx_column.proofs.functions.cast.text.are_text.Goals as goal

pub returns-in_default-Rows : goal.returns-in_default-Rows
returns-in_default-Rows c =
    let rs = rows_of c.in_default-Rows.rows.now in
    let is = c.in_default-Rows.is-1 in
    λ n are. subst (λ r. IsTrue c.is_utf8.result ↔ HasBytes Text r n) (sym is) (
      λ yes. ((subst (λ r. HasBytes c.args.bytes.storage r n) is are).0, list_all-from_AllPass is_utf8 rs (c.is_utf8.ensures.0 yes)),
      λ h. c.is_utf8.ensures.1 (AllPass-from_list_all is_utf8 rs h.1),
    )
