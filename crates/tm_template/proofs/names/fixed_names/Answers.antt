use Rattle.std.proofs.Common.{sym, ◌∙◌}
use Rattle.tm_template.proofs.Templates.{names_alone}
use Rattle.tm_template.proofs.names.fixed_names.Goals as goal

pub returns-in_ok-words-clause-fixed : goal.returns-in_ok-words-clause-fixed
returns-in_ok-words-clause-fixed c line caps =
    c.in_ok-words.ensures ∙ sym (names_alone c.args.template.now line caps (sym c.has_name_references.ensures ∙ c.if-has_name_references.false))
