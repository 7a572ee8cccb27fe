use Rattle.std.proofs.Common.{◌∙◌, sym}
use Rattle.serde_json.specs.View.{view}
use Rattle.vx_json.proofs.SpelledLemmas.{member_count-object}
use Rattle.vx_json.proofs.fields.count.Goals as goal

pub returns-in-Some : goal.returns-in-Some
returns-in-Some c = c.len.ensures.len ∙ sym (member_count-object (view c.args.value.now) _ (sym c.in-Some.ensures))
