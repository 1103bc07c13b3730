-- What every document keeps: at the start, in a turn, and where its readers look.
use Rattle.std.proofs.Common.{◌≡◌, ℕ, ◌<◌, ◌≤◌, List, [], ◌∷◌, length, replicate, Some, None, Result, ap, sym, arith, ◌∙◌, subst, true}
use Rattle.std.specs.Prelude.{slice_get, IfOk, IfErr, OnErr, ◌≢◌, All}
use Rattle.std.specs.Option.{option_map}
use Rattle.std.proofs.lemmas.List.{length-replicate}
use Rattle.std.proofs.lemmas.Option.{slice_get-map, slice_get_within, get_or_from_slice_get}
use Rattle.tm_defs.specs.declared.events.Turn.{Turn}
use Rattle.tm_defs.specs.declared.frames.FrameData.{FrameData}
use Rattle.tm_defs.specs.declared.tables.TableFault.{TableFault}
use Rattle.tm_defs.specs.Tables.{Tables, TableEntries}
use Rattle.tm_defs.specs.Tokenizer.{Tokenized}
use Rattle.tm_machine.specs.declared.entries.Entry.{Entry}
use Rattle.tm_machine.specs.Entries.{blank, front, is_accurate, start_at, AreAccurate, IsFromScratch}
use Rattle.tm_machine.specs.Numbered.{GrowsAtFront, IsTurnCause}
use Rattle.tm_machine.specs.Scratch.{Tokenizing}
use Rattle.tm_machine.specs.Settings.{tokenizing_of}
use Rattle.tm_machine.specs.Turns.{Turns, opening}
use Rattle.tm_machine.proofs.EntrySteps.{AreRight-blank, AreAccurate-right, length-right}
use Rattle.tm_machine.proofs.ReachedTables.{front-start}
use Rattle.tm_machine.proofs.ReadyTurns.{right-after}
use Rattle.tm_document.specs.Held.{Held, held_of, new_held, IsSoundHeld, setting_now}
use Rattle.tm_document.specs.Kept.{Kept}

pub short-line : (n : ℕ) (lines : List (List ℕ)) (i : ℕ) (line : List ℕ) → All (λ x. length x ≤ n) lines → slice_get lines i ≡ Some line → length line ≤ n
short-line n lines i line all at =
    let P : List ℕ → Type 0 = λ x. length x ≤ n in
    subst P (get_or_from_slice_get lines i line line at) (all i line (slice_get_within lines i line at))

-- a new document
pub new-is : {T : Type 0} (settings : List T) (budget limit n : ℕ) (lines : List (List ℕ)) (kept : Kept) → n ≡ length lines →
    kept ≡ record { entries = replicate n (blank None); tables = record { texts = []; paths = [] ∷ []; states = [] ∷ []; limit = limit } } → held_of settings 0 0 budget lines kept ≡ new_held settings budget limit lines
new-is settings budget limit n lines kept e k =
    ap (held_of settings 0 0 budget lines) k
    ∙ ap (λ m. held_of settings 0 0 budget lines (record { entries = replicate m (blank None); tables = record { texts = []; paths = [] ∷ []; states = [] ∷ []; limit = limit } })) e

module _ {T P : Type 0} (plain : T → P) (tokenized : P → List FrameData → List ℕ → Tokenized) (plain_cost : P → List FrameData → List ℕ → ℕ) (entries_made : P → List FrameData → List ℕ → TableEntries) where
  abbrev now_by : Held T → Tokenizing
  now_by held = setting_now plain tokenized plain_cost entries_made held

  -- a new document
  pub sound-new : (settings : List T) (budget limit : ℕ) (lines : List (List ℕ)) → 0 < length settings → IsSoundHeld plain tokenized plain_cost entries_made (new_held settings budget limit lines)
  sound-new settings budget limit lines some = record {
    epoch = some;
    lengths = length-replicate (length lines) (blank None);
    right = AreRight-blank (now_by (new_held settings budget limit lines)) budget opening lines;
  }

  -- the setting of the epoch
  pub setting-is : (held : Held T) (setting : T) → slice_get held.settings held.epoch ≡ Some setting → tokenizing_of tokenized plain_cost entries_made (Some (plain setting)) ≡ now_by held
  setting-is held setting by = ap (tokenizing_of tokenized plain_cost entries_made) (sym (slice_get-map plain held.settings held.epoch ∙ ap (option_map plain) by))

  module _ (held : Held T) (sound : IsSoundHeld plain tokenized plain_cost entries_made held) where
    -- the accuracy of a document
    pub accurate-sound : AreAccurate (now_by held) held.lines held.entries
    accurate-sound = AreAccurate-right (now_by held) held.budget held.lines held.entries sound.right

    pub scratch-sound : (i : ℕ) → i < length held.lines → is_accurate held.entries i ≡ true → IsFromScratch (now_by held) held.lines held.entries i
    scratch-sound i h good = accurate-sound.accurate i h good

    -- before the front there is a state
    pub front-begins : (i : ℕ) → front held.entries ≡ Some i → start_at opening held.entries i ≢ None
    front-begins i at none = let there = front-start (now_by held) held.budget held.lines held.entries i sound.right at in cc

    -- a turn
    pub turned-sound : (r : Result Turn TableFault) (after : List (Entry (List FrameData))) (tables : Tables) → IfOk r (λ turn. Turns (now_by held) held.budget held.lines held.entries turn after) → OnErr r (after ≡ held.entries) →
        IsSoundHeld plain tokenized plain_cost entries_made (record held { entries = after; tables = tables })
    turned-sound r after tables ok err =
        let right = right-after (now_by held) held.budget held.lines held.entries after r sound.right ok err in
        record { epoch = sound.epoch; lengths = length-right (now_by held) held.budget opening held.lines after right; right = right }

  -- a turn of what is kept is a turn of the document
  module _ (settings : List T) (epoch version budget : ℕ) (lines : List (List ℕ)) (kept after : Kept) (now : Held T) (is : held_of settings epoch version budget lines kept ≡ now) (setting : T) (by : slice_get settings epoch ≡ Some setting)
      (i : ℕ) (line : List ℕ) (holds : slice_get lines i ≡ Some line) (r : Result Turn TableFault) where
    abbrev By : Tokenizing
    By = tokenizing_of tokenized plain_cost entries_made (Some (plain setting))

    by-is : By ≡ now_by (held_of settings epoch version budget lines kept)
    by-is = setting-is (held_of settings epoch version budget lines kept) setting by

    turned-here : ((ls : List (List ℕ)) → slice_get ls i ≡ Some line → IfOk r (λ turn. Turns By budget ls kept.entries turn after.entries)) →
        IfOk r (λ turn. Turns (now_by (held_of settings epoch version budget lines kept)) budget lines kept.entries turn after.entries)
    turned-here h = let Q : Tokenizing → Type 0 = λ k. IfOk r (λ turn. Turns k budget lines kept.entries turn after.entries) in subst Q by-is (h lines holds)

    pub turned-now : ((ls : List (List ℕ)) → slice_get ls i ≡ Some line → IfOk r (λ turn. Turns By budget ls kept.entries turn after.entries)) → IfOk r (λ turn. Turns (now_by now) now.budget now.lines now.entries turn after.entries)
    turned-now h = subst (λ (x : Held T). IfOk r (λ turn. Turns (now_by x) x.budget x.lines x.entries turn after.entries)) is (turned-here h)

    pub grown-now : ((ls : List (List ℕ)) → slice_get ls i ≡ Some line → GrowsAtFront By ls kept.entries kept.tables after.tables) → GrowsAtFront (now_by now) now.lines now.entries now.tables after.tables
    grown-now h =
        let Q : Tokenizing → Type 0 = λ k. GrowsAtFront k lines kept.entries kept.tables after.tables in
        subst (λ (x : Held T). GrowsAtFront (now_by x) x.lines x.entries x.tables after.tables) is (subst Q by-is (h lines holds))

    pub caused-now : ((ls : List (List ℕ)) → slice_get ls i ≡ Some line → IfErr r (IsTurnCause By ls kept.entries after.tables)) → IfErr r (IsTurnCause (now_by now) now.lines now.entries after.tables)
    caused-now h =
        let Q : Tokenizing → Type 0 = λ k. IfErr r (IsTurnCause k lines kept.entries after.tables) in
        subst (λ (x : Held T). IfErr r (IsTurnCause (now_by x) x.lines x.entries after.tables)) is (subst Q by-is (h lines holds))

    pub sound-now : IsSoundHeld plain tokenized plain_cost entries_made (held_of settings epoch version budget lines kept) → ((ls : List (List ℕ)) → slice_get ls i ≡ Some line → IfOk r (λ turn. Turns By budget ls kept.entries turn after.entries)) →
        OnErr r (after.entries ≡ kept.entries) → IsSoundHeld plain tokenized plain_cost entries_made (held_of settings epoch version budget lines after)
    sound-now sound ok err = turned-sound (held_of settings epoch version budget lines kept) sound r after.entries after.tables (turned-here ok) err
