-- A change of a document, and another setting: what its parts ask for, and what every document keeps.
use Rattle.std.proofs.Common.{◌≡◌, ℕ, suc, ◌+◌, ◌-◌, ◌<◌, ◌≤◌, ◌^◌, ◌++◌, List, length, take, drop, replicate, None, false, ap, arith, add-one, ◌∙◌}
use Rattle.std.proofs.lemmas.List.{length-replicate}
use Rattle.tm_defs.specs.declared.changes.Change.{Change}
use Rattle.tm_defs.specs.declared.changes.LineEffect.{LineEffect}
use Rattle.tm_defs.specs.declared.frames.FrameData.{FrameData}
use Rattle.tm_defs.specs.Tables.{TableEntries}
use Rattle.tm_defs.specs.Tokenizer.{Tokenized}
use Rattle.tm_machine.specs.declared.entries.Entry.{Entry}
use Rattle.tm_machine.specs.Changes.{effect_of, lines_changed, new_lines, spliced}
use Rattle.tm_machine.specs.Entries.{blank, replaced}
use Rattle.tm_machine.specs.Places.{IsIn, line_at}
use Rattle.tm_machine.specs.Sizes.{Fits}
use Rattle.tm_machine.specs.Turns.{opening}
use Rattle.tm_machine.proofs.EntrySteps.{AreRight-blank, length-right}
use Rattle.tm_machine.proofs.RightRuns.{AreRight-replaced}
use Rattle.tm_machine.proofs.SplicedLists.{length-spliced}
use Rattle.tm_machine.proofs.TextLines.{lines_some}
use Rattle.tm_text.proofs.Sizes.{length-le-size}
use Rattle.tm_document.specs.Held.{Held, held_of, changed_held, set_held, IsSoundHeld, setting_now}
use Rattle.tm_document.specs.Kept.{Kept}

-- there are new lines
pub new_lines-some : (lines : List (List ℕ)) (c : Change) → 0 < length (new_lines lines c)
new_lines-some lines c = lines_some false (take c.from_col (line_at lines c.from_line) ++ (c.text ++ drop c.to_col (line_at lines c.to_line)))

-- and a text that fits has few lines
pub few-changed : (lines : List (List ℕ)) (c : Change) → IsIn lines c → Fits (lines_changed lines c) → length lines + length (new_lines lines c) < 2 ^ 31 + suc (c.to_line - c.from_line)
few-changed lines c within fits =
    let count : length (lines_changed lines c) ≡ length lines - suc (c.to_line - c.from_line) + length (new_lines lines c) =
    length-spliced c.from_line (suc (c.to_line - c.from_line)) (new_lines lines c) lines (omega (arith, within.first, within.last, within.lines_in_order)) in
    let few = length-le-size (lines_changed lines c) in
    omega (arith, count, few, fits, within.first, within.last, within.lines_in_order)

-- the range of a plan is one of the store, and what the store becomes is short enough
pub plan-fits : {S : Type 0} (lines : List (List ℕ)) (es : List (Entry S)) (c : Change) (e : LineEffect) → e ≡ effect_of lines c → length es ≡ length lines → IsIn lines c → Fits (lines_changed lines c) →
    (e.first + e.old ≤ length es) × (0 < e.old) × (0 < e.new) × (length es + e.new < 2 ^ 31 + e.old)
plan-fits lines es c e is beside within fits =
    let first = ap (λ (x : LineEffect). x.first) is in
    let old = ap (λ (x : LineEffect). x.old) is in
    let new = ap (λ (x : LineEffect). x.new) is in
    let some = new_lines-some lines c in
    let few = few-changed lines c within fits in (
      omega (arith, first, old, beside, within.last, within.lines_in_order),
      omega (arith, old),
      omega (arith, new, some),
      omega (arith, new, old, beside, few),
    )

-- the lines that a plan leaves
pub committed-is : (lines mid after : List (List ℕ)) (c : Change) (e : LineEffect) (news : List (List ℕ)) → e ≡ effect_of lines c → news ≡ new_lines lines c → mid ≡ lines → after ≡ spliced e.first e.old news mid → after ≡ lines_changed lines c
committed-is lines mid after c e news is made same spliced_is =
    spliced_is ∙ ap (λ (x : LineEffect). spliced x.first x.old news mid) is ∙ ap (λ ns. spliced c.from_line (suc (c.to_line - c.from_line)) ns mid) made
    ∙ ap (λ ls. spliced c.from_line (suc (c.to_line - c.from_line)) (new_lines lines c) ls) same

-- the document is the changed one
pub changed-is : {T : Type 0} (settings : List T) (epoch version budget : ℕ) (lines after : List (List ℕ)) (kept next : Kept) (c : Change) (e : LineEffect) → e ≡ effect_of lines c → after ≡ lines_changed lines c →
    next ≡ record kept { entries = replaced e kept.entries } → held_of settings epoch (version + 1) budget after next ≡ changed_held (held_of settings epoch version budget lines kept) c
changed-is settings epoch version budget lines after kept next c e is l k =
    ap (λ v. held_of settings epoch v budget after next) (add-one version) ∙ ap (λ ls. held_of settings epoch (suc version) budget ls next) l
    ∙ ap (held_of settings epoch (suc version) budget (lines_changed lines c)) (k ∙ ap (λ x. record kept { entries = replaced x kept.entries }) is)

-- and the one of another setting
pub set-is : {T : Type 0} (settings : List T) (epoch number version budget : ℕ) (lines : List (List ℕ)) (kept next : Kept) → length kept.entries ≡ length lines →
    next ≡ record kept { entries = replicate (length kept.entries) (blank None) } → held_of settings number version budget lines next ≡ set_held (held_of settings epoch version budget lines kept) number
set-is settings epoch number version budget lines kept next beside k =
    ap (held_of settings number version budget lines) k ∙ ap (λ n. held_of settings number version budget lines (record kept { entries = replicate n (blank None) })) beside

module _ {T P : Type 0} (plain : T → P) (tokenized : P → List FrameData → List ℕ → Tokenized) (plain_cost : P → List FrameData → List ℕ → ℕ) (entries_made : P → List FrameData → List ℕ → TableEntries) (held : Held T)
    (sound : IsSoundHeld plain tokenized plain_cost entries_made held) where
  pub changed-sound : (c : Change) → IsIn held.lines c → IsSoundHeld plain tokenized plain_cost entries_made (changed_held held c)
  changed-sound c within =
      let right = AreRight-replaced (setting_now plain tokenized plain_cost entries_made held) held.budget held.lines held.entries c within sound.right in
      record {
        epoch = sound.epoch;
        lengths = length-right (setting_now plain tokenized plain_cost entries_made held) held.budget opening (lines_changed held.lines c) (replaced (effect_of held.lines c) held.entries) right;
        right = right;
      }

  pub set-sound : (number : ℕ) → number < length held.settings → IsSoundHeld plain tokenized plain_cost entries_made (set_held held number)
  set-sound number there = record {
    epoch = there;
    lengths = length-replicate (length held.lines) (blank None);
    right = AreRight-blank (setting_now plain tokenized plain_cost entries_made (set_held held number)) held.budget opening held.lines;
  }
