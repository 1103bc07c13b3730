-- A step of the model is a step of each machine that it stands for.
use Rattle.std.specs.Prelude.{Contains}
use Rattle.std.proofs.Common.{◌≡◌, ℕ, suc, ◌<◌, arith, inl, inr, List, [], ◌∷◌, ◌++◌, ◌-◌, map, length, Option, Some, refl, ap, sym, ◌∙◌, subst, subst₂}
use Rattle.tm_defs.specs.declared.changes.Change.{Change}
use Rattle.tm_defs.specs.declared.events.Step.TheVariants as step
use Rattle.tm_defs.specs.declared.events.Turn.{Turn}
use Rattle.tm_defs.specs.declared.frames.FrameData.{FrameData}
use Rattle.tm_defs.specs.Tables.{Tables, TableEntries, GrowsWithin, IsNumbering}
use Rattle.tm_defs.specs.Tokenizer.{Tokenized}
use Rattle.tm_forms.specs.declared.script.ScriptStep.{ScriptStep}
use Rattle.tm_forms.specs.declared.script.ScriptStep.TheVariants.{Core, SettleQuietly, Show}
use Rattle.tm_forms.specs.declared.script.Scripted.{Scripted}
use Rattle.tm_machine.specs.declared.entries.Entry.{Entry}
use Rattle.tm_machine.specs.Changes.{changed, lines_changed, effect_of}
use Rattle.tm_machine.specs.Entries.{replaced, AreAccurate}
use Rattle.tm_machine.specs.Documents.{Rules, Document, CanEdit, Edited, Lined, Forced, edited, last_version, with_entries}
use Rattle.tm_machine.specs.Machine.{Machine, ChangeOrder, machine_of, seen, with_births}
use Rattle.tm_machine.specs.Turns.{Turns, Forces}
use Rattle.tm_machine.specs.Places.{IsIn, bad_place}
use Rattle.tm_machine.specs.Settings.{rules_of}
use Rattle.tm_machine.specs.Sizes.{Fits}
use Rattle.tm_machine.proofs.PlaceTests.{bad_place-some}
use Rattle.tm_defs.specs.declared.tables.TableFault.TheVariants.{TableFull}
use Rattle.tm_machine.specs.Entries.{AreRight}
use Rattle.tm_machine.specs.Turns.{IsReady, opening}
use Rattle.tm_machine.specs.Reach.{Stand, stand_in, GrowsByLines, IsWithinReach, ReachesMoreThan}
use Rattle.tm_machine.specs.Scratch.{Tokenizing}
use Rattle.tm_machine.proofs.ReachedTables.{within-new, within-more, within-grown, within-lines, full-reaches}
use Rattle.tm_model.specs.Held.{Held, document, held_rules, setting_now, changed_model, new_model}
use Rattle.tm_machine.specs.Numbered.{GrowsAtFront, IsTurnCause}
use Rattle.tm_app.specs.Play.{Prints, Acts}
use Rattle.tm_app.specs.Printed.{turn_text, work_text, blocked_text, shown}
use Rattle.tm_app.specs.inner.Stands.{Stands, IsReached, table_limit}
use Rattle.tm_app.specs.Stops.{IsBadEdit, large_reach}

module _ {T P : Type 0} (plain : T → P) (tokenized : P → List FrameData → List ℕ → Tokenized) (plain_cost : P → List FrameData → List ℕ → ℕ) (entries_made : P → List FrameData → List ℕ → TableEntries) where
  abbrev S : Rules → Held T → Machine → Type 0
  S r held m = Stands plain tokenized plain_cost entries_made r held m

  pub new-stands : (settings : List T) (budget limit : ℕ) (lines : List (List ℕ)) → S (rules_of tokenized plain_cost entries_made (map plain settings) budget) (new_model settings budget limit lines) (machine_of lines)
  new-stands settings budget limit lines = record { rules = refl; lines = refl; version = refl; epoch = refl; entries = refl }

  -- the turn of a model
  pub line-prints : (old new : Held T) (x : Scripted) (turn : Turn) (bytes : List ℕ) → x.step ≡ Core step.Line → new ≡ record old { entries = new.entries; tables = new.tables } →
      Turns (setting_now plain tokenized plain_cost entries_made old) old.budget old.lines old.entries turn new.entries → bytes ≡ turn_text turn → (r : Rules) (m : Machine) → S r old m →
      (n : Machine) × Prints r m x.step bytes n × S r new n
  line-prints old new x turn bytes is others turns text r m s =
      let after : Document = with_entries (seen m.fore) new.entries in
      let n : Machine = record m { fore = with_births m.fore.text after } in
      let P : ScriptStep → Type 0 = λ z. Prints r m z bytes n in
      let Q : Rules → ℕ → List (List ℕ) → List (Entry (List FrameData)) → Type 0 = λ rules epoch lines es. Turns (rules.setting epoch) rules.budget lines es turn new.entries in
      let a : Q r old.epoch old.lines old.entries = subst (λ z. Q z old.epoch old.lines old.entries) s.rules turns in
      let b : Q r m.fore.epoch old.lines old.entries = subst (λ z. Q r z old.lines old.entries) s.epoch a in
      let c : Q r m.fore.epoch m.fore.text.lines m.fore.entries = subst₂ (λ z w. Q r m.fore.epoch z w) s.lines s.entries b in (
        n,
        subst P (sym is) (Lined turn, (after, (new.entries, c, refl), refl), text),
        record {
          rules = ap (held_rules plain tokenized plain_cost entries_made) others ∙ s.rules;
          lines = ap (λ (h : Held T). h.lines) others ∙ s.lines;
          version = ap (λ (h : Held T). h.version) others ∙ s.version;
          epoch = ap (λ (h : Held T). h.epoch) others ∙ s.epoch;
          entries = refl;
        },
      )

  -- the settle of a model
  settle-stands : (old new : Held T) (done : ℕ) (blocked : Option ℕ) → new ≡ record old { entries = new.entries; tables = new.tables } →
      Forces (setting_now plain tokenized plain_cost entries_made old) old.budget old.lines (length old.lines - 1) old.entries done blocked new.entries → (r : Rules) (m : Machine) → S r old m →
      (n : Machine) × Acts r m step.Settle (Forced done blocked) n × S r new n
  settle-stands old new done blocked others forces r m s =
      let after : Document = with_entries (seen m.fore) new.entries in
      let n : Machine = record m { fore = with_births m.fore.text after } in
      let Q : Rules → ℕ → List (List ℕ) → List (Entry (List FrameData)) → Type 0 = λ rules epoch lines es. Forces (rules.setting epoch) rules.budget lines (length lines - 1) es done blocked new.entries in
      let a : Q r old.epoch old.lines old.entries = subst (λ z. Q z old.epoch old.lines old.entries) s.rules forces in
      let b : Q r m.fore.epoch old.lines old.entries = subst (λ z. Q r z old.lines old.entries) s.epoch a in
      let c : Q r m.fore.epoch m.fore.text.lines m.fore.entries = subst₂ (λ z w. Q r m.fore.epoch z w) s.lines s.entries b in (
        n,
        (after, (new.entries, c, refl), refl),
        record {
          rules = ap (held_rules plain tokenized plain_cost entries_made) others ∙ s.rules;
          lines = ap (λ (h : Held T). h.lines) others ∙ s.lines;
          version = ap (λ (h : Held T). h.version) others ∙ s.version;
          epoch = ap (λ (h : Held T). h.epoch) others ∙ s.epoch;
          entries = refl;
        },
      )

  pub settle-prints : (old new : Held T) (x : Scripted) (done : ℕ) (blocked : Option ℕ) → x.step ≡ Core step.Settle → new ≡ record old { entries = new.entries; tables = new.tables } →
      Forces (setting_now plain tokenized plain_cost entries_made old) old.budget old.lines (length old.lines - 1) old.entries done blocked new.entries → (r : Rules) (m : Machine) → S r old m →
      (n : Machine) × Prints r m x.step (work_text done ++ blocked_text blocked) n × S r new n
  settle-prints old new x done blocked is others forces r m s =
      let so = settle-stands old new done blocked others forces r m s in
      let P : ScriptStep → Type 0 = λ z. Prints r m z (work_text done ++ blocked_text blocked) so.0 in
      (so.0, subst P (sym is) (Forced done blocked, so.1, refl), so.2)

  pub quiet-prints : (old new : Held T) (x : Scripted) (done : ℕ) (blocked : Option ℕ) → x.step ≡ SettleQuietly → new ≡ record old { entries = new.entries; tables = new.tables } →
      Forces (setting_now plain tokenized plain_cost entries_made old) old.budget old.lines (length old.lines - 1) old.entries done blocked new.entries → (r : Rules) (m : Machine) → S r old m →
      (n : Machine) × Prints r m x.step (blocked_text blocked) n × S r new n
  quiet-prints old new x done blocked is others forces r m s =
      let so = settle-stands old new done blocked others forces r m s in
      let P : ScriptStep → Type 0 = λ z. Prints r m z (blocked_text blocked) so.0 in
      (so.0, subst P (sym is) (Forced done blocked, so.1, refl), so.2)

  -- the change of a model
  pub edit-prints : (old new : Held T) (x : Scripted) (c : Change) → x.step ≡ Core (step.Edit c) → CanEdit (document old) c → new ≡ changed_model old c → (r : Rules) (m : Machine) → S r old m → (n : Machine) × Prints r m x.step [] n × S r new n
  edit-prints old new x c is can same r m s =
      let after : Document = edited (seen m.fore) c in
      let n : Machine = record m { fore = with_births (changed m.fore.text c) after; orders = m.orders ++ ChangeOrder (suc m.fore.text.version) c ∷ [] } in
      let P : ScriptStep → Type 0 = λ z. Prints r m z [] n in
      let Below : ℕ → Type 0 = λ v. v < last_version in
      let can_m : CanEdit (seen m.fore) c = record {
        below_last = subst Below s.version can.below_last;
        within = subst (λ z. IsIn z c) s.lines can.within;
        fits = subst (λ z. Fits (lines_changed z c)) s.lines can.fits;
      } in (
        n,
        subst P (sym is) (Edited (suc m.fore.text.version), (after, (can_m, refl, refl), refl), refl),
        record {
          rules = ap (held_rules plain tokenized plain_cost entries_made) same ∙ s.rules;
          lines = ap (λ (h : Held T). h.lines) same ∙ ap (λ z. lines_changed z c) s.lines;
          version = ap (λ (h : Held T). h.version) same ∙ ap suc s.version;
          epoch = ap (λ (h : Held T). h.epoch) same ∙ s.epoch;
          entries = ap (λ (h : Held T). h.entries) same ∙ ap (λ z. replaced (effect_of z c) old.entries) s.lines ∙ ap (replaced (effect_of m.fore.text.lines c)) s.entries;
        },
      )

  pub bad-edit : (old : Held T) (x : Scripted) (c : Change) (place : _) → x.step ≡ Core (step.Edit c) → bad_place old.lines c ≡ Some place → (r : Rules) (m : Machine) → S r old m → IsBadEdit m x x.line
  bad-edit old x c place is bad r m s = (c, is, refl, λ within. bad_place-some old.lines c place bad (subst (λ z. IsIn z c) (sym s.lines) within))

  -- a show
  pub show-prints : (held : Held T) (x : Scripted) → x.step ≡ Show → AreAccurate (setting_now plain tokenized plain_cost entries_made held) held.lines held.entries → (r : Rules) (m : Machine) → S r held m → Prints r m x.step (shown held.entries) m
  show-prints held x is accurate r m s =
      let P : ScriptStep → Type 0 = λ z. Prints r m z (shown held.entries) m in
      let Q : Rules → ℕ → List (List ℕ) → List (Entry (List FrameData)) → Type 0 = λ rules epoch lines es. AreAccurate (rules.setting epoch) lines es in
      let a : Q r held.epoch held.lines held.entries = subst (λ z. Q z held.epoch held.lines held.entries) s.rules accurate in
      let b : Q r m.fore.epoch held.lines held.entries = subst (λ z. Q r z held.lines held.entries) s.epoch a in
      let c : Q r m.fore.epoch m.fore.text.lines m.fore.entries = subst₂ (λ z w. Q r m.fore.epoch z w) s.lines s.entries b in
      subst P (sym is) (refl, ap shown s.entries, c)

  abbrev R : Rules → List Stand → Held T → Type 0
  R r past held = IsReached plain tokenized plain_cost entries_made r past held

  pub new-reached : (settings : List T) (budget : ℕ) (lines : List (List ℕ)) (r : Rules) (past : List Stand) → R r past (new_model settings budget table_limit lines)
  new-reached settings budget lines r past = record { limit = refl; within = within-new r past table_limit }

  -- what is reached stays so
  pub reached-more : (r : Rules) (few more : List Stand) (held : Held T) → ((s : Stand) → Contains few s → Contains more s) → R r few held → R r more held
  reached-more r few more held sub h = record { limit = h.limit; within = within-more r few more sub held.tables h.within }

  -- a change leaves the tables
  pub edit-reached : (old new : Held T) (c : Change) → new ≡ changed_model old c → (r : Rules) (past : List Stand) → R r past old → R r past new
  edit-reached old new c same r past h =
      let tables : new.tables ≡ old.tables = ap (λ (z : Held T). z.tables) same in
      let P : Tables → Type 0 = λ t. IsWithinReach r past t in
      record { limit = ap (λ (t : Tables). t.limit) tables ∙ h.limit; within = subst P (sym tables) h.within }

  module _ (old : Held T) (right : AreRight (setting_now plain tokenized plain_cost entries_made old) old.budget opening old.lines old.entries) (r : Rules) (m : Machine) (past : List Stand) (s : S r old m) (there : Contains past (stand_in m)) where
    right-here : AreRight (r.setting m.fore.epoch) r.budget opening m.fore.text.lines m.fore.entries
    right-here =
        let Q : Rules → ℕ → List (List ℕ) → List (Entry (List FrameData)) → Type 0 = λ rules epoch lines es. AreRight (rules.setting epoch) rules.budget opening lines es in
        let a : Q r old.epoch old.lines old.entries = subst (λ z. Q z old.epoch old.lines old.entries) s.rules right in
        let b : Q r m.fore.epoch old.lines old.entries = subst (λ z. Q r z old.lines old.entries) s.epoch a in
        subst₂ (λ z w. Q r m.fore.epoch z w) s.lines s.entries b

    setting-is : setting_now plain tokenized plain_cost entries_made old ≡ r.setting m.fore.epoch
    setting-is = ap (λ (z : Rules). z.setting old.epoch) s.rules ∙ ap r.setting s.epoch

    ready-here : (i : ℕ) (start : List FrameData) (line : List ℕ) → IsReady old.lines old.entries i start line → IsReady m.fore.text.lines m.fore.entries i start line
    ready-here i start line ready = subst₂ (λ z w. IsReady z w i start line) s.lines s.entries ready

    -- the tables that a turn grows
    pub line-reached : (new : Held T) → GrowsAtFront (setting_now plain tokenized plain_cost entries_made old) old.lines old.entries old.tables new.tables → R r past old → R r past new
    line-reached new (inl same) h =
        let P : Tables → Type 0 = λ t. IsWithinReach r past t in
        record { limit = ap (λ (t : Tables). t.limit) same ∙ h.limit; within = subst P (sym same) h.within }
    line-reached new (inr g) h =
        let P : Tokenizing → Type 0 = λ k. GrowsWithin (k.entries_made g.1 g.2) old.tables new.tables in
        record {
          limit = g.4.limit ∙ h.limit;
          within = within-grown r past (stand_in m) there m.fore.entries right-here old.tables new.tables g.0 g.1 g.2 (ready-here g.0 g.1 g.2 g.3) (subst P setting-is g.4) h.within;
        }

    -- the tables that a settle grows
    pub lines-reached : (new : Held T) → GrowsByLines (setting_now plain tokenized plain_cost entries_made old) old.lines old.tables new.tables → R r past old → R r past new
    lines-reached new g h =
        let P : Tokenizing → List (List ℕ) → Type 0 = λ k lines. GrowsByLines k lines old.tables new.tables in
        record {
          limit = g.limit ∙ h.limit;
          within = within-lines r past (stand_in m) old.tables new.tables there (subst₂ (λ k lines. P k lines) setting-is s.lines g) h.within;
        }

    -- a full table
    pub full-reached : (new : Held T) (es : List (Entry (List FrameData))) (n : ℕ) → IsNumbering new.tables → R r past new → IsTurnCause (setting_now plain tokenized plain_cost entries_made old) old.lines es new.tables (TableFull n) → ReachesMoreThan large_reach r past
    full-reached new es n num h cause =
        let lt : large_reach < new.tables.limit = omega (arith, h.limit) in
        full-reaches r past new.tables ((setting_now plain tokenized plain_cost entries_made old).entries_made cause.1 cause.2) n large_reach num h.within lt cause.4
