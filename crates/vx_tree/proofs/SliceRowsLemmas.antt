-- The range of a lazy slice is one of its child's validity.
use Rattle.std.proofs.Common.{◌≡◌, ℕ, ◌≤◌, ◌-◌, sym, subst}
use Rattle.vx_tree.specs.Tree as enc
use Rattle.vx_tree.specs.Tree.{Tree, no_slots, dtype, len, slice_of}
use Rattle.vx_tree.specs.Well.{IsWell}
use Rattle.vx_tree.specs.NodeValidities.{node_validity}
use Rattle.vx_tree.specs.declared.validity.Validity.{Validity}
use Rattle.vx_tree.specs.declared.validity.Validity.TheVariants as validity
use Rattle.vx_tree.proofs.NodeValiditiesLemmas.{first_long}

pub slice_bounds : (b : ℕ) (u : Tree) (v : Validity) (t c : Tree) (a : ℕ) → v ≡ validity.Array u → v ≡ node_validity c → t ≡ slice_of a b c → b ≤ len c
    → IsWell t → b ≤ len u
slice_bounds b u v t c a is read shown within well =
    subst (λ m. b ≤ m) (sym (first_long v t c (dtype c) (b - a) (enc.slice a b) no_slots read shown well u is)) within
