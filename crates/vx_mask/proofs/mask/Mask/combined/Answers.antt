use Rattle.std.proofs.Common.{◌≡◌, ℕ, true, false, length, replicate, arith, sym, ap, ap₂, ◌∙◌}
use Rattle.std.proofs.lemmas.List.{length-replicate}
use Rattle.vx_mask.specs.Masks.{bits_in, mask_of}
use Rattle.vx_mask.specs.declared.mask.Mask.{Mask}
use Rattle.vx_mask.specs.declared.mask.Mask.TheVariants.{AllTrue}
use Rattle.vx_mask.specs.Places.{combined, true_count}
use Rattle.vx_mask.proofs.PlacesLemmas.{true_count-trues, combined-trues, combined-falses, combined-of_trues, combined-of_falses}
use Rattle.vx_mask.proofs.mask.Mask.combined.Goals as goal
use Rattle.vx_mask.proofs.mask.Mask.combined.Goals.{in_default-AllTrue-via-in-AllFalse+in-AllTrue, in_default-AllTrue-via-in-Values+in-AllTrue}

pub returns-in-AllTrue-default : goal.returns-in-AllTrue-default
returns-in-AllTrue-default c =
    let inner = bits_in c.args.inner.now in
    let n = c.in-AllTrue-default.field-0-0 in
    let outer : bits_in c.args.self.now ≡ replicate n true = ap bits_in c.in-AllTrue-default.is-0 in
    let size = c.requires ∙ ap true_count outer ∙ true_count-trues n in
    let result : combined (bits_in c.args.self.now) inner ≡ inner = ap (λ l. combined l inner) outer ∙ combined-of_trues inner n size in
    rw result c.in_form.ensures

-- an inner mask that is all true chooses what the outer one does
all_chosen : (outer inner : Mask) (n : ℕ) → inner ≡ AllTrue n → length (bits_in inner) ≡ true_count (bits_in outer)
    → combined (bits_in outer) (bits_in inner) ≡ bits_in outer
all_chosen outer inner n is size =
    let copies : bits_in inner ≡ replicate n true = ap bits_in is in
    ap (combined (bits_in outer)) copies ∙ combined-trues (bits_in outer) n (omega (arith, ap length copies, length-replicate n true))

pub returns-in_default-AllTrue : goal.returns-in_default-AllTrue
returns-in_default-AllTrue c =
    let chosen = all_chosen c.args.self.now c.args.inner.now in
    elim c.in_default-AllTrue.branch [
      | in_default-AllTrue-via-in-AllFalse+in-AllTrue w ↦
          rw (chosen w.in_default-AllTrue.field-0-1 w.in_default-AllTrue.is-1 c.requires) c.in_form-in_default-AllTrue.ensures
      | in_default-AllTrue-via-in-Values+in-AllTrue w ↦
          rw (chosen w.in_default-AllTrue.field-0-1 w.in_default-AllTrue.is-1 c.requires) c.in_form-in_default-AllTrue.ensures
    ]

pub returns-in-AllFalse-default : goal.returns-in-AllFalse-default
returns-in-AllFalse-default c =
    let inner = bits_in c.args.inner.now in
    let n = c.in-AllFalse-default.len in
    c.none_of.ensures ∙ sym (ap (λ m. mask_of (combined (bits_in m) inner)) c.in-AllFalse-default.is-0 ∙ ap mask_of (combined-of_falses n inner))

pub returns-in-Values-AllFalse : goal.returns-in-Values-AllFalse
returns-in-Values-AllFalse c =
    let outer = c.in-Values-AllFalse.outer in
    let n = c.in-Values-AllFalse.field-0-1 in
    let result : combined (bits_in c.args.self.now) (bits_in c.args.inner.now) ≡ replicate (length outer) false =
    ap₂ (λ o i. combined (bits_in o) (bits_in i)) c.in-Values-AllFalse.is-0 c.in-Values-AllFalse.is-1 ∙ combined-falses outer n in
    c.none_of-in-Values-AllFalse.ensures ∙ ap (λ k. mask_of (replicate k false)) c.len.ensures ∙ sym (ap mask_of result)
