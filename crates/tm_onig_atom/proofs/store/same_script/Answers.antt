use Rattle.std.proofs.Common.{ap, sym, ◌∙◌, eqb-true}
use Rattle.ucd_script.specs.Script.{script_from_number}
use Rattle.ucd_script.proofs.ScriptLemmas.{script_from_number-script_number}
use Rattle.tm_onig_atom.proofs.store.same_script.Goals as goal

pub returns : goal.returns
returns c = λ is.
    sym (script_from_number-script_number c.args.a)
    ∙ ap script_from_number (sym c.number.ensures ∙ eqb-true _ _ is ∙ c.number-2.ensures)
    ∙ script_from_number-script_number c.args.b
