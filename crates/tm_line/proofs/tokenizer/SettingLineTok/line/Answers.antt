use Rattle.std.proofs.Common.{◌∙◌, subst}
use Rattle.std.specs.Prelude.{IfErr}
use Rattle.tm_defs.specs.Tables.{state_at}
use Rattle.tm_defs.specs.Tokenizer.{IsLineCause}
use Rattle.tm_line.specs.Setting.{Setting}
use Rattle.tm_line.specs.Tokenizing.{rules_cost, rules_made}
use Rattle.tm_line.proofs.tokenizer.SettingLineTok.line.Goals as goal

pub returns-clause-cause : goal.returns-clause-cause
returns-clause-cause g c =
    let a = c.args in
    let start = state_at (g.S.States.tables a.table.now) a.start in
    let done = c.tokenize_line.ensures a.line.now (c.as_slice.ensures.value ∙ c.in-Ok.ensures) in
    let Caused : Setting → Type 0 = λ s. IfErr c.tokenize_line.result (IsLineCause a.budget (rules_cost s start a.line.now) (rules_made s start a.line.now) (g.S.States.tables c.tokenize_line.new.table)) in
    subst Caused c.self.view_is done.cause
