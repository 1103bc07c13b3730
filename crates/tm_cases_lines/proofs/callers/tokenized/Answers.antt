use Rattle.std.proofs.Common.{◌≡◌, List, [], subst}
use Rattle.std.specs.Prelude.{IfOk}
use Rattle.std.proofs.lemmas.Option.{get_or_from_slice_get}
use Rattle.tm_defs.specs.Tables.{state_at}
use Rattle.tm_defs.specs.declared.frames.FrameData.{FrameData}
use Rattle.tm_line.specs.Tokenizing.{rules_tokenized}
use Rattle.tm_cases_lines.proofs.callers.tokenized.Goals as goal

pub returns : goal.returns
returns g c =
    let t = g.S.States.tables c.args.table.now in
    let opening : state_at t (record { 0 = 0 }) ≡ [] = get_or_from_slice_get t.states 0 [] [] c.prove_known.ensures.opening in
    let Says : List FrameData → Type 0 = λ s. IfOk c.line.result (λ out. out.tokens ≡ (rules_tokenized c.args.setting.now s c.args.line.now).tokens) in
    subst Says opening c.line.ensures.tokens
