-- What each row of the table keeps.
use Rattle.std.proofs.Common.{ℕ, List, Option, Some, None}
use Rattle.vx_tree.specs.Tree.{Tree}
use Rattle.vx_tree.specs.Keeps.{Keeps}
use Rattle.vx_tree.specs.Well.{IsWell}
use Rattle.vx_rule.specs.Rules.{Row, F1, F2, F3, F4, P1, C1, N1_null, N1_valid, S_whole, S_empty, S1, S2, S3, S4, S5, S6, F5, F6, F7, F8, F9, G1, G2, G3, G4, G4_masked, M1, D1, D2, K1, K2, K3, K4}
use Rattle.vx_rule.proofs.CastsLemmas.{C1_keeps}
use Rattle.vx_rule.proofs.FiltersLemmas.{F1_keeps, F2_keeps, F3_keeps, F5_keeps, F6_keeps, F7_keeps, F8_keeps, F9_keeps}
use Rattle.vx_rule.proofs.DictsLemmas.{D1_keeps, D2_keeps}
use Rattle.vx_rule.proofs.FunctionsLemmas.{K1_keeps, K2_keeps, K3_keeps, K4_keeps, N1_null_keeps, N1_valid_keeps}
use Rattle.vx_rule.proofs.ItemsLemmas.{G1_keeps, G2_keeps, G3_keeps, G4_keeps, G4_masked_keeps}
use Rattle.vx_rule.proofs.MasksLemmas.{M1_keeps}
use Rattle.vx_rule.proofs.StructsLemmas.{F4_keeps, P1_keeps}
use Rattle.vx_rule.proofs.RangesLemmas.{S_whole_keeps, S_empty_keeps, S1_keeps, S2_keeps, S3_keeps, S4_keeps, S5_keeps, S6_keeps}

-- ---- a row of a child stands exactly for the tree, but D1, which drops the faults of codes, and G4, which drops those of other fields: a line for each

child_keeps : (i : ℕ) (t u : Tree) (os : List ℕ) → IsWell t → Row (Some i) t u os → Keeps t u
child_keeps i t u os g (S_whole ty n a b c l z y) = (S_whole_keeps ty n a b c g z y).keeps
child_keeps i t u os g (S_empty ty n a b c l z y) = (S_empty_keeps ty n a b c g z).keeps
child_keeps i t u os g (S1 ty sty n a b k s r c p) = (S1_keeps ty sty n a b k s r c g).keeps
child_keeps i t u os g (S2 ty cty n a b k v p) = (S2_keeps ty cty n a b k v g).keeps
child_keeps i t u os g (S3 ty cty n a b k d ss h p) = (S3_keeps ty cty n a b k d ss g h).keeps
child_keeps i t u os g (S4 ty fty n a b k f ss l p) = (S4_keeps ty fty n a b k f ss g).keeps
child_keeps i t u os g (S5 ty mty n a b k c vs p) = (S5_keeps ty mty n a b k c vs g).keeps
child_keeps i t u os g (S6 ty dty n a b k c vs p) = (S6_keeps ty dty n a b k c vs g).keeps
child_keeps i t u os g (F5 ty fty n k outer inner c) = (F5_keeps ty fty n k outer inner c g).keeps
child_keeps i t u os g (F6 ty cty n k bits v) = (F6_keeps ty cty n k bits v g).keeps
child_keeps i t u os g (F7 ty fty n k bits f ss l) = (F7_keeps ty fty n k bits f ss g).keeps
child_keeps i t u os g (F8 ty mty n k bits c vs) = (F8_keeps ty mty n k bits c vs g).keeps
child_keeps i t u os g (F9 ty dty n k bits c vs) = (F9_keeps ty dty n k bits c vs g).keeps
child_keeps i t u os g (G1 ty fty n k name bits c) = (G1_keeps ty fty n k name bits c g).keeps
child_keeps i t u os g (G2 ty sty n k a b name c) = (G2_keeps ty sty n k a b name c g).keeps
child_keeps i t u os g (G3 ty mty s n k name c vs e) = (G3_keeps ty mty s n k name c vs g e).keeps
child_keeps i t u os g (G4 ty n k name fs ss c e) = G4_keeps ty n k name fs ss c e g
child_keeps i t u os g (G4_masked ty n k name fs ss c e) = G4_masked_keeps ty n k name fs ss c e g
child_keeps i t u os g (M1 ty mty n k c m vs) = (M1_keeps ty mty n k c m vs g).keeps
child_keeps i t u os g (D1 ty s n k c v) = D1_keeps ty s n k c v g
child_keeps i t u os g (D2 ty mty n k codes c vs f h one) = (D2_keeps ty mty n k codes c vs f one g).keeps
child_keeps i t u os g (K1 ty s n k target v x e) = (K1_keeps ty s n k target v x g e).keeps
child_keeps i t u os g (K2 ty s n k v x e) = (K2_keeps ty s n k v x g e).keeps
child_keeps i t u os g (K3 ty s r q n i' j k options x y z v e) = (K3_keeps ty s r q n i' j k options x y z v g e).keeps
child_keeps i t u os g (K4 ty s r n j k x y v e) = (K4_keeps ty s r n j k x y v g e).keeps

-- ---- what each row keeps: of the node itself a line for each (C1 and N1 may give a value where a fault was), or else as above

own_keeps : (t u : Tree) (os : List ℕ) → IsWell t → Row None t u os → Keeps t u
own_keeps t u os g (F1 ty n bits c e) = (F1_keeps ty n bits c g e).keeps
own_keeps t u os g (F2 ty n bits c e z) = (F2_keeps ty n bits c g z).keeps
own_keeps t u os g (F3 ty n bits c a b e r) = (F3_keeps ty n bits c g a b r).keeps
own_keeps t u os g (F4 ty sty n k bits ss apart some) = (F4_keeps ty sty n k bits ss g).keeps
own_keeps t u os g (P1 ty n options ss) = (P1_keeps ty n options ss g).keeps
own_keeps t u os g (C1 ty n target c e) = C1_keeps ty n target c g e
own_keeps t u os g (N1_null ty n c e) = N1_null_keeps ty n c g e
own_keeps t u os g (N1_valid ty n c e) = N1_valid_keeps ty n c g e

pub row_keeps : (w : Option ℕ) (t u : Tree) (os : List ℕ) → IsWell t → Row w t u os → Keeps t u
row_keeps None t u os g h = own_keeps t u os g h
row_keeps (Some i) t u os g h = child_keeps i t u os g h
