use Rattle.std.proofs.Common.{◌≡◌, ◌<◌, List, [], ◌∷◌, length, get_or, Option, Some, None, true, refl, sym, ap, ◌∙◌, arith}
use Rattle.vx_tree.specs.Tree.{Tree, slots_of}
use Rattle.vx_tree.specs.Well.{Shape, shapes}
use Rattle.vx_tree.specs.Refusals.{is_present}
use Rattle.vx_tree.proofs.arrays.extension.extension_storage.Goals as goal

-- the slots are one that holds a tree
the_one : (xs : List (Option Tree)) (s : Shape) → shapes (slots_of xs) ≡ Some s ∷ [] → (t : Tree) × (xs ≡ Some t ∷ [])
the_one [] s h = absurd (cc)
the_one (None ∷ xs) s h = absurd (cc)
the_one (Some t ∷ []) s h = (t, refl)
the_one (Some t ∷ None ∷ xs) s h = absurd (cc)
the_one (Some t ∷ Some u ∷ xs) s h = absurd (cc)

pub bounds-slots-0 : goal.bounds-slots-0
bounds-slots-0 c = let one = the_one _ _ c.requires.1 in omega (arith, ap length one.1)

pub present-requires : goal.present-requires
present-requires c =
    let one = the_one _ _ c.requires.1 in
    let first : c.index-slots-0.result ≡ Some one.0 = c.index-slots-0.is ∙ ap (λ xs. get_or xs 0 c.index-slots-0.result) one.1 in
    ap is_present first

pub returns : goal.returns
returns c =
    let one = the_one _ _ c.requires.1 in
    let first : c.index-slots-0.result ≡ Some one.0 = c.index-slots-0.is ∙ ap (λ xs. get_or xs 0 c.index-slots-0.result) one.1 in
    one.1 ∙ ap (λ x. x ∷ []) (sym first ∙ c.present.ensures)
