use Rattle.std.proofs.Common.{◌∙◌, sym, arith, None}
use Rattle.std.proofs.lemmas.Str.Pattern.{strip_suffix_char}
use Rattle.vx_json.proofs.SpelledTypesLemmas.{unmarked_spelled}
use Rattle.vx_json.proofs.types.type_spelled.Goals as goal

pub returns-in-None : goal.returns-in-None
returns-in-None c =
    let text = c.args.text.now in
    let unmarked = strip_suffix_char 63 text None c.in-None.ensures.cases (omega arith) in
    c.type_named-in-None.ensures ∙ sym (unmarked_spelled text (sym c.if-eq.ensures) unmarked)
