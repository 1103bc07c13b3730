use Rattle.std.proofs.Common.{◌∙◌}
use Rattle.serde_json.specs.View.{view}
use Rattle.tm_theme.proofs.Small.{rules-fonts}
use Rattle.tm_theme.proofs.file.theme_value.Goals as goal

pub rules_theme-requires : goal.rules_theme-requires
rules_theme-requires c = rules-fonts c.as_slice.result.now (view c.args.value.now) (c.as_slice.ensures.value ∙ c.in_ok-rules.ensures)
