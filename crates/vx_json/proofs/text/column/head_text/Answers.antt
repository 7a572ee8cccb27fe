use Rattle.std.proofs.Common.{◌∙◌, ap}
use Rattle.vx_value.specs.Ids.{id_text}
use Rattle.vx_value.specs.Text.{type_text}
use Rattle.vx_json.proofs.OutputLemmas.{head_pushed}
use Rattle.vx_json.proofs.text.column.head_text.Goals as goal

pub returns-clause-ok : goal.returns-clause-ok
returns-clause-ok c =
    head_pushed _ _ _ _ _ _ _ _ _ c.in_ok-text.ensures.ok
    (c.as_str.ensures.value ∙ c.in_ok-type_text.ensures.ok ∙ ap type_text c.dtype.ensures.dtype)
    c.in_ok-push_str.ensures.bytes
    c.in_ok-push_str-2.ensures.bytes (c.as_str-2.ensures ∙ ap id_text c.encoding_id.ensures) c.in_ok-push_str-3.ensures.bytes
    c.in_ok-push_str-4.ensures.bytes
