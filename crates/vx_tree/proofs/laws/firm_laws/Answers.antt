use Rattle.vx_tree.proofs.FirmLemmas.{all_firm, firmly_refl, firmly_trans, put_firmly}
use Rattle.vx_tree.proofs.laws.firm_laws.Goals as goal

pub returns : goal.returns
returns c = record { firm = all_firm; reflexive = firmly_refl; transitive = firmly_trans; in_slot = put_firmly }
