use Rattle.std.proofs.Common.{◌≡◌, ◌≤◌, ◌<◌, ℕ, ℤ, List, Bool, true, false, map, take, length, get_or, to_z, of_z, sym, ap, subst, ◌∙◌, arith}
use Rattle.std.specs.Int.{w128}
use Rattle.std.specs.List.{list_all}
use Rattle.std.proofs.lemmas.List.{take_all}
use Rattle.std.proofs.lemmas.List.Folds.{list_all_at, list_all-map}
use Rattle.vx_value.specs.Decimals.{has_digits}
use Rattle.vx_tree.proofs.NativesLemmas.{is_wide}
use Rattle.vx_tree.proofs.native.buffers.all_digits.Goals as goal

-- one of the numbers that the values stand for was answered false: it is z, and w once it has gone through 128 bits
fails_at : {X : Type 0} (f : X → ℤ) (test : ℤ → Bool) (xs ys : List X) (i : ℕ) (x : X) (z w : ℤ) (answer : Bool) →
    ys ≡ xs → i < length ys → x ≡ get_or ys i x → z ≡ f x → w ≡ z → answer ≡ test w → answer ≡ false → false ≡ list_all test (map f xs)
fails_at f test xs ys i x z w answer same before item number through tested missed =
    let failed : test (f x) ≡ false = sym (tested ∙ ap test (through ∙ number)) ∙ missed in
    sym (ap (λ l. list_all test (map f l)) (sym same) ∙ list_all-map test f ys
    ∙ list_all_at (λ y. test (f y)) ys i x before (ap (λ y. test (f y)) (sym item) ∙ failed))

-- all of them passed it
passed_all : {X : Type 0} (f : X → ℤ) (test : ℤ → Bool) (xs ys : List X) (i : ℕ) →
    ys ≡ xs → length ys ≤ i → list_all (λ y. test (f y)) (take i ys) ≡ true → true ≡ list_all test (map f xs)
passed_all f test xs ys i same past passed =
    sym (ap (λ l. list_all test (map f l)) (sym same) ∙ list_all-map test f ys
    ∙ ap (list_all (λ y. test (f y))) (sym (take_all i ys past)) ∙ passed)

pub returns-then-not-contain : goal.returns-then-not-contain
returns-then-not-contain g c =
    let z = c.wide.result in
    let tested : c.contain.result ≡ has_digits c.args.decimal.now.precision (to_z w128 (of_z w128 z)) =
    subst (λ p. c.contain.result ≡ has_digits p (to_z w128 (of_z w128 z))) c.digits-digits.ensures c.contain.ensures in
    fails_at g.T.Number.value (has_digits c.args.decimal.now.precision) c.args.buffer.now c.as_slice-value-items.result.now c.loop-value.value-index
    c.value-item.result z (to_z w128 (of_z w128 z)) c.contain.result c.as_slice-value-items.ensures (omega arith) c.value-item.is c.wide.ensures
    (is_wide z c.wide.type_inv) tested c.if-not-contain.true

pub returns : goal.returns
returns g c =
    passed_all g.T.Number.value (has_digits c.args.decimal.now.precision) c.args.buffer.now c.as_slice-value-items.result.now c.loop-value.value-index
    c.as_slice-value-items.ensures (omega arith) c.loop-value.invariant
