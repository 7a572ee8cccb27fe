-- Masks combined by rank.
use Rattle.std.proofs.Common.{◌≡◌, ℕ, List, length, Option, Some, None, Bool, true, ◌∙◌, ap}
use Rattle.std.specs.Prelude.{◌==◌, if◌then◌else◌}
use Rattle.std.specs.Cmp.{unsigned_Decides}
use Rattle.vx_mask.specs.Masks.{bits_in, mask_of}
use Rattle.vx_mask.specs.Places.{true_count, combined}
use Rattle.vx_mask.specs.declared.mask.Mask.{Mask}
use Rattle.vx_mask.proofs.MasksLemmas.{bits_in_mask_of}
use Rattle.vx_mask.proofs.PlacesLemmas.{length-combined}

abbrev both_by : Bool → List Bool → Option Mask
both_by b bits = if b then Some (mask_of bits) else None

module _ (outer inner : List Bool) (long : length inner ≡ true_count outer) where
  found : (b : Bool) (o : Option Mask) → b ≡ true → o ≡ both_by b (combined outer inner) → o ≡ Some (mask_of (combined outer inner))
  found b o h e = e ∙ ap (λ x. both_by x (combined outer inner)) h

  there : (o : Option Mask) → o ≡ both_by (length inner == true_count outer) (combined outer inner) → o ≡ Some (mask_of (combined outer inner))
  there o e = found (length inner == true_count outer) o ((unsigned_Decides (length inner) (true_count outer)).1 long) e

  pub both_is : (o : Option Mask) (m : Mask) → o ≡ both_by (length inner == true_count outer) (combined outer inner) → o ≡ Some m
      → bits_in m ≡ combined outer inner
  both_is o m e h = let same : m ≡ mask_of (combined outer inner) = cc (there o e, h) in ap bits_in same ∙ bits_in_mask_of (combined outer inner)

pub combined_long : (outer inner : List Bool) (m : Mask) (n : ℕ) → bits_in m ≡ combined outer inner → length outer ≡ n → length (bits_in m) ≡ n
combined_long outer inner m n e h = ap length e ∙ length-combined outer inner ∙ h
