use Rattle.std.proofs.Common.{◌∙◌, ap, sym, []}
use Rattle.std.specs.Option.{is_some}
use Rattle.tm_onig_parse.specs.Parsed.{parsed}
use Rattle.tm_line_lint.proofs.texts.is_end_readable.Goals as goal

pub returns-else-has_references : goal.returns-else-has_references
returns-else-has_references c =
    c.requires ∙ ap (λ t. is_some (parsed t)) (sym (c.ends_alone.ensures.stays c.args.text.now [] [] (sym c.has_references.ensures ∙ c.if-has_references.false)))
