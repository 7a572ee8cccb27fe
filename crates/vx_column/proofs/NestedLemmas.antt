-- Which columns have nested types.
use Rattle.std.proofs.Common.{◌≡◌, ◌||◌, ℕ, zero, suc, ◌<◌, Bool, true, false, List, [], ◌∷◌, length, get_or, map, drop, ◌+◌, Option, refl, ap, sym, ◌∙◌, arith}
use Rattle.std.proofs.lemmas.Bool.{false≢true}
use Rattle.std.proofs.lemmas.List.{drop_more}
use Rattle.vx_value.specs.Types.{DataType}
use Rattle.vx_value.specs.Storage.{is_nested}
use Rattle.vx_tree.specs.Tree as enc
use Rattle.vx_tree.specs.Tree.{dtype}
use Rattle.vx_tree.specs.Well.{Shape, shapes, IsNode}
use Rattle.vx_tree.specs.Canonicals.{columnar_tree}
use Rattle.vx_tree.specs.declared.array.layout.Layout.{Layout}
use Rattle.vx_tree.specs.declared.array.layout.Layout.TheVariants as layout
use Rattle.vx_tree.specs.declared.canonical.columnar.Columnar.{Columnar}
use Rattle.vx_column.specs.Arguments.{any_nested}

-- a line for each layout
pub composed_nested : (l : Layout) (ty : DataType) (n : ℕ) (ss : List (Option Shape)) → IsNode ty n (enc.composed l) ss → is_nested ty ≡ true
composed_nested layout.Struct ty n ss h = ap is_nested h.3
composed_nested layout.Extension ty n ss h = ap is_nested h.2

-- so no other type has its columns
pub not_composed : (l : Layout) (ty : DataType) (n : ℕ) (ss : List (Option Shape)) → IsNode ty n (enc.composed l) ss → is_nested ty ≡ false → ⊥
not_composed l ty n ss h plain = false≢true (sym plain ∙ composed_nested l ty n ss h)

-- ---- several columns, none of a nested type

either : (b c : Bool) → (b || c) ≡ false → (b ≡ false) × (c ≡ false)
either true c h = absurd (cc)
either false c h = (refl, h)

pub unnested_at : (cs : List Columnar) (k : ℕ) (c : Columnar) → any_nested (map columnar_tree cs) ≡ false → k < length cs → c ≡ get_or cs k c
    → is_nested (dtype (columnar_tree c)) ≡ false
unnested_at [] k c h lt e = absurd (omega arith)
unnested_at (d ∷ cs) zero c h lt e = ap (λ x. is_nested (dtype (columnar_tree x))) e ∙ (either (is_nested (dtype (columnar_tree d))) _ h).0
unnested_at (d ∷ cs) (suc k) c h lt e = unnested_at cs k c (either (is_nested (dtype (columnar_tree d))) _ h).1 (omega arith) e

-- ---- and whether there is one, column by column

module _ (cs : List Columnar) (k : ℕ) (c : Columnar) (lt : k < length cs) (there : c ≡ get_or cs k c) where
  rest : any_nested (map columnar_tree (drop k cs)) ≡ (is_nested (dtype (columnar_tree c)) || any_nested (map columnar_tree (drop (k + 1) cs)))
  rest =
      ap (λ l. any_nested (map columnar_tree l)) (drop_more cs k c lt)
      ∙ ap (λ x. is_nested (dtype (columnar_tree x)) || any_nested (map columnar_tree (drop (k + 1) cs))) (sym there)

  pub nested_here : is_nested (dtype (columnar_tree c)) ≡ true → any_nested (map columnar_tree cs) ≡ any_nested (map columnar_tree (drop k cs))
      → true ≡ any_nested (map columnar_tree cs)
  nested_here h e = sym (e ∙ rest ∙ ap (λ b. b || any_nested (map columnar_tree (drop (k + 1) cs))) h)

  pub nested_later : is_nested (dtype (columnar_tree c)) ≡ false → any_nested (map columnar_tree cs) ≡ any_nested (map columnar_tree (drop k cs))
      → any_nested (map columnar_tree cs) ≡ any_nested (map columnar_tree (drop (k + 1) cs))
  nested_later h e = e ∙ rest ∙ ap (λ b. b || any_nested (map columnar_tree (drop (k + 1) cs))) h
