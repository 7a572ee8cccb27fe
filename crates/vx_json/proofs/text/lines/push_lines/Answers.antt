use Rattle.std.proofs.Common.{rules}
use Rattle.vx_json.proofs.text.lines.push_lines.Goals as goal

pub returns-clause-ok : goal.returns-clause-ok
returns-clause-ok g c = search rules
