use Rattle.std.proofs.Common.{◌≡◌, ◌∷◌, [], length, Some, sym, subst, ◌∙◌, rules}
use Rattle.vx_mask.specs.Masks.{bits_in}
use Rattle.vx_tree.specs.Tree.{slots_of}
use Rattle.vx_tree.specs.Well.{AreWell}
use Rattle.vx_tree.specs.Validities.{validity_of}
use Rattle.vx_column.specs.Filtered.{IsChoice}
use Rattle.vx_column.specs.ValidRows.{TellsRows}
use Rattle.vx_column.proofs.FilteredLemmas.{array_read, choice_kept, same_choice}
use Rattle.vx_column.proofs.filter.filter_validity.Goals as goal

pub returns-in_ok-kept-in-Array-clause-chosen : goal.returns-in_ok-kept-in-Array-clause-chosen
returns-in_ok-kept-in-Array-clause-chosen c =
    let bits = bits_in c.args.mask.now in
    let m = c.args.nullability in
    let w = c.args.validity.now in
    let t = c.in-Array.child in
    let kept = c.in_ok-kept-in-Array.kept in
    let is : c.in_ok-same.same ≡ validity_of m w = search rules in
    let there : w ≡ Some t = array_read m w t (sym is ∙ c.in-Array.is) in
    let tells = subst (TellsRows m (length bits)) there c.requires.tells in
    let well = subst (λ x. AreWell (slots_of (x ∷ []))) there c.requires.well in
    subst (λ x. IsChoice bits x (Some kept)) (sym there) (choice_kept bits t kept well.0 tells.2 c.in_ok-kept-in-Array.ensures.ok)

pub returns-in_default : goal.returns-in_default
returns-in_default c =
    let m = c.args.nullability in
    let w = c.args.validity.now in
    let v = c.in_ok-same.same in
    let is : v ≡ validity_of m w = search rules in
    let read = same_choice (bits_in c.args.mask.now) m w v c.requires.tells c.requires.well is c.in_default.not-Array in
    record { nullability = read.0; sized = read.1; chosen = read.2; err = tt }

pub returns-in_ok-kept-in-Array-clause-sized : goal.returns-in_ok-kept-in-Array-clause-sized
returns-in_ok-kept-in-Array-clause-sized c =
    let m = c.args.nullability in
    let w = c.args.validity.now in
    let t = c.in-Array.child in
    let is : c.in_ok-same.same ≡ validity_of m w = search rules in
    let there : w ≡ Some t = array_read m w t (sym is ∙ c.in-Array.is) in
    let tells = subst (TellsRows m (length (bits_in c.args.mask.now))) there c.requires.tells in
    let keeps = c.in_ok-kept-in-Array.ensures.ok.keeps in
    (c.well_formed_tree.ensures.formed, sym keeps.same_type ∙ tells.1, sym keeps.same_len)
