-- Which encodings are columns, and what every column is.
use Rattle.std.proofs.Common.{◌≡◌, ℕ, List, replicate, true, false, Option, refl, sym, ap, subst, ◌∙◌, inl, inr, arith}
use Rattle.std.proofs.lemmas.Bool.{or_left}
use Rattle.std.proofs.lemmas.List.{length-replicate}
use Rattle.vx_value.specs.Types.{DataType, nullability_of}
use Rattle.vx_value.specs.Storage.{storage_of}
use Rattle.vx_value.specs.Typed.{Typed}
use Rattle.vx_value.specs.Cell.{value}
use Rattle.vx_tree.specs.Tree as enc
use Rattle.vx_tree.specs.Tree.{Tree, Data, Slots, node, column, datum, id_of, constant_of, is_constant, is_canonical, is_columnar}
use Rattle.vx_tree.specs.Well.{Shape, shapes, IsNode, IsWell}
use Rattle.vx_tree.specs.declared.array.layout.Layout.{Layout}
use Rattle.vx_tree.specs.declared.array.layout.Layout.TheVariants as layout
use Rattle.vx_tree.specs.Columns.{IsColumn, canonical_id}
use Rattle.vx_tree.proofs.BytesLemmas.{bytes_columns}
use Rattle.vx_tree.proofs.DecimalsLemmas.{decimal_columns}
use Rattle.vx_tree.proofs.CostLemmas.{column_cost}
use Rattle.vx_tree.proofs.SlotsLemmas.{no_shapes}

pub canonical_columnar : (d : Data) → is_canonical d ≡ true → is_columnar d ≡ true
canonical_columnar d h = or_left (is_canonical d) (is_constant d) h

pub canonical_open : (d : Data) → is_canonical d ≡ true → is_constant d ≡ false
canonical_open (enc.constant v) h = absurd (cc)
canonical_open _ h = refl

-- ---- what every column is

constant_known : (v : Typed) (n : ℕ) → IsColumn (constant_of v n)
constant_known v n = record {
  lawful = inr (refl, v.value, ap (λ m. replicate m (value v.value)) (sym (length-replicate n (value v.value))));
  settled = omega arith;
  canonical_settled = λ h. absurd (cc);
}

-- a canonical column, of its type
canonical_known : (ty : DataType) (n : ℕ) (d : Data) (ss : Slots) → is_canonical d ≡ true → id_of d ≡ canonical_id ty → IsColumn (node ty n d ss)
canonical_known ty n d ss h lawful = record {
  lawful = inl lawful;
  settled = omega (arith, column_cost ty n d ss h);
  canonical_settled = λ k. column_cost ty n d ss h;
}

-- the encoding of a nested type: a line for each layout
layout_lawful : (l : Layout) (ty : DataType) (n : ℕ) (ss : List (Option Shape)) → IsNode ty n (enc.composed l) ss → id_of (enc.composed l) ≡ canonical_id ty
layout_lawful layout.Struct ty n ss h = sym (ap canonical_id h.3)
layout_lawful layout.Extension ty n ss h = sym (ap canonical_id h.2)

-- a line for each encoding that is a column
pub column_known : (t : Tree) → IsWell t → is_columnar (datum t) ≡ true → IsColumn t
column_known (node ty n (enc.constant v) ss) w h =
    subst IsColumn (λ i. node (sym w.0.0 i) n (enc.constant v) (sym (no_shapes ss w.0.2) i)) (constant_known v n)
column_known (node ty n enc.nulls ss) w h = canonical_known ty n _ ss refl (sym (ap canonical_id w.0.0))
column_known (node ty n (enc.bool bs) ss) w h = canonical_known ty n _ ss refl (sym (ap canonical_id w.0.1))
column_known (node ty n (enc.primitive p zs) ss) w h = canonical_known ty n _ ss refl (sym (ap canonical_id w.0.1))
column_known (node ty n (enc.decimals d zs) ss) w h =
    canonical_known ty n _ ss refl (sym (ap canonical_id w.0.0.1 ∙ decimal_columns (nullability_of ty) (storage_of ty)))
column_known (node ty n (enc.views rs) ss) w h =
    canonical_known ty n _ ss refl (sym (ap canonical_id w.0.0.1 ∙ bytes_columns (nullability_of ty) (storage_of ty)))
column_known (node ty n (enc.composed l) ss) w h = canonical_known ty n _ ss refl (layout_lawful l ty n (shapes ss) w.0)
column_known _ w h = absurd (cc)
