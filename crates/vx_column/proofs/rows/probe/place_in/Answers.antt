use Rattle.std.proofs.Common.{sym, ◌∙◌}
use Rattle.vx_mask.specs.Masks.{bits_in}
use Rattle.vx_mask.proofs.PlacesLemmas.{place_is, place_some}
use Rattle.vx_column.proofs.rows.probe.place_in.Goals as goal

pub unreachable-requires : goal.unreachable-requires
unreachable-requires c =
    let there = place_some (bits_in c.args.mask.now) c.args.k c.requires in
    absurd (cc (there.1, c.rank.ensures, c.in_default.is))

pub returns-clause-within : goal.returns-clause-within
returns-clause-within c = (place_is (bits_in c.args.mask.now) c.args.k c.in-Some.place (sym c.rank.ensures ∙ c.in-Some.is)).0
