use Rattle.vx_mask.proofs.PlacesLemmas.{place_some_below, place_is, place_from}
use Rattle.vx_mask.proofs.laws.place_laws.Goals as goal

pub returns-clause-below_count : goal.returns-clause-below_count
returns-clause-below_count c = place_some_below

pub returns-clause-exact : goal.returns-clause-exact
returns-clause-exact c bits k p = (place_is bits k p, λ h. place_from bits k p h.0 h.1 h.2)
