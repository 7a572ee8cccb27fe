use Rattle.std.proofs.Common.{ap}
use Rattle.std.specs.Prelude.{slice_get}
use Rattle.vx_mask.proofs.MasksLemmas.{bits_in_mask_of}
use Rattle.vx_mask.proofs.laws.mask_laws.Goals as goal

pub returns-clause-bits : goal.returns-clause-bits
returns-clause-bits c = bits_in_mask_of

pub returns-clause-value : goal.returns-clause-value
returns-clause-value c bits i = ap (λ l. slice_get l i) (bits_in_mask_of bits)
