use Rattle.std.proofs.Common.{ap, sym}
use Rattle.vx_value.specs.Ids.{id_text}
use Rattle.vx_value.proofs.id.Id.as_str.Goals as goal

-- as the search would answer it: by hand, another text is refused sooner
pub returns-in-Slice : goal.returns-in-Slice
returns-in-Slice c = ap id_text (sym c.in-Slice.is)
