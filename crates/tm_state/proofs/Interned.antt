-- States that take in a state.
use Rattle.std.proofs.Common.{◌≡◌, ℕ, ◌-◌, ◌<◌, ◌≤◌, List, [], ◌∷◌, length, Some, None, Option, Contains, inl, inr, refl, ap, sym, ◌∙◌, arith, subst}
use Rattle.std.specs.Prelude.{slice_get}
use Rattle.std.specs.Option.{option_map}
use Rattle.std.proofs.lemmas.Option.{slice_get-get_or}
use Rattle.tm_defs.specs.declared.frames.FrameData.{FrameData}
use Rattle.tm_defs.specs.declared.frames.Frame.{Frame}
use Rattle.tm_defs.specs.declared.frames.TextId.{TextId}
use Rattle.tm_defs.specs.declared.frames.ScopeList.{ScopeList}
use Rattle.tm_defs.specs.declared.frames.StateId.{StateId}
use Rattle.tm_defs.specs.Tables.{Tables, IsNumbering, IsFrameOf, IsOptionalText, GrowsWithin, only_state, deeper_state, frame_at, text_at, path_at}
use Rattle.tm_defs.specs.declared.tables.TableFault.{TableFault}
use Rattle.tm_defs.specs.declared.tables.TableFault.TheVariants.{TableFull, OutOfMemory}
use Rattle.tm_defs.proofs.Growth.{grows-refl}
use Rattle.tm_scope.specs.Numbered.{NumberedValues, taken, HasNumber, TakesIn, KeepsLimit, IsFullAt}
use Rattle.tm_scope.specs.Entries.{KeepsLimits, IsFullFor}
use Rattle.tm_scope.proofs.Taken.{at-contains, grows-taken, once-taken, limit-kept, some_inj}
use Rattle.tm_scope.proofs.Linked.{length-resolved, all-unfound, linked-back, linked-takes, linked-number}
use Rattle.tm_scope.proofs.Pushed.{all-at, all-taken}
use Rattle.tm_state.specs.declared.states.FrameLink.{FrameLink}
use Rattle.tm_state.specs.States.{tables_of, AreStates}
use Rattle.tm_state.proofs.Grown.{frame-over, count-states}

-- a frame has one number in each part
module _ (t : Tables) (num : IsNumbering t) where
  text-one : (a b : TextId) → a.0 < length t.texts → b.0 < length t.texts → text_at t a ≡ text_at t b → a ≡ b
  text-one a b h k e =
      let same : a.0 ≡ b.0 = num.texts_once a.0 b.0 (text_at t b) (slice_get-get_or t.texts a.0 [] h ∙ ap Some e) (slice_get-get_or t.texts b.0 [] k) in
      ap (λ n. record { 0 = n }) same

  path-one : (a b : ScopeList) → a.0 < length t.paths → b.0 < length t.paths → path_at t a ≡ path_at t b → a ≡ b
  path-one a b h k e =
      let same : a.0 ≡ b.0 = num.paths_once a.0 b.0 (path_at t b) (slice_get-get_or t.paths a.0 [] h ∙ ap Some e) (slice_get-get_or t.paths b.0 [] k) in
      ap (λ n. record { 0 = n }) same

  end-one : (a b : Option TextId) → IsOptionalText t a → IsOptionalText t b → option_map (text_at t) a ≡ option_map (text_at t) b → a ≡ b
  end-one None None h k e = refl
  end-one None (Some b) h k e = cc
  end-one (Some a) None h k e = cc
  end-one (Some a) (Some b) h k e = ap Some (text-one a b h k (some_inj e))

  pub frame-one : (f g : Frame) → IsFrameOf t f → IsFrameOf t g → frame_at t f ≡ frame_at t g → f ≡ g
  frame-one f g h k e =
      let rules : f.rule ≡ g.rule = ap (λ (d : FrameData). d.rule) e in
      let ends : f.end ≡ g.end = end-one f.end g.end h.end k.end (ap (λ (d : FrameData). d.end) e) in
      let names : f.names ≡ g.names = path-one f.names g.names h.names k.names (ap (λ (d : FrameData). d.names) e) in
      let contents : f.contents ≡ g.contents = path-one f.contents g.contents h.contents k.contents (ap (λ (d : FrameData). d.contents) e) in
      let flags : f.at_eol ≡ g.at_eol = ap (λ (d : FrameData). d.at_eol) e in
      ap (λ r. record { rule = r; end = f.end; names = f.names; contents = f.contents; at_eol = f.at_eol }) rules
      ∙ ap (λ r. record { rule = g.rule; end = r; names = f.names; contents = f.contents; at_eol = f.at_eol }) ends
      ∙ ap (λ r. record { rule = g.rule; end = g.end; names = r; contents = f.contents; at_eol = f.at_eol }) names
      ∙ ap (λ r. record { rule = g.rule; end = g.end; names = g.names; contents = r; at_eol = f.at_eol }) contents
      ∙ ap (λ r. record { rule = g.rule; end = g.end; names = g.names; contents = g.contents; at_eol = r }) flags

module _ (t : Tables) (links : NumberedValues FrameLink) (inv : AreStates t links) where
  abbrev now : Tables
  now = tables_of t links.values

  abbrev part : FrameLink → FrameData
  part l = frame_at t l.frame

  abbrev rest : FrameLink → ℕ
  rest l = l.rest.0

  pub frame-below : (f : Frame) → IsFrameOf now f → IsFrameOf t f
  frame-below f h = frame-over now t f (omega arith) (omega arith) h

  pub frame-above : (f : Frame) → IsFrameOf t f → IsFrameOf now f
  frame-above f h = frame-over t now f (omega arith) (omega arith) h

  module _ (num : IsNumbering t) (frame : Frame) (parent : StateId) (there : parent.0 < length now.states) (known : IsFrameOf now frame) where
    abbrev link : FrameLink
    link = record { frame = frame; rest = parent }

    abbrev deeper : List FrameData
    deeper = deeper_state now parent frame

    one-link : (l : FrameLink) → Contains links.values l → part l ≡ part link → rest l ≡ rest link → l ≡ link
    one-link l there e r =
        let low : IsFrameOf t l.frame = all-at (λ (x : FrameLink). IsFrameOf t x.frame) links.values there.0 l inv.frames (at-contains links.values l there) in
        let same : l.frame ≡ frame = frame-one t num l.frame frame low (frame-below frame known) e in
        ap (λ f. record { frame = f; rest = l.rest }) same ∙ ap (λ n. record { frame = frame; rest = record { 0 = n } }) r

    pub intern-absent : (Contains links.values link → ⊥) → Contains now.states deeper → ⊥
    intern-absent none = all-unfound part rest links.values link inv.back inv.once there one-link none

    pub intern-full : (most : ℕ) (fault : TableFault) → IsFullAt most (taken links) fault → (Contains links.values link → ⊥) → IsFullFor most (only_state deeper) now fault
    intern-full most (TableFull n) full none =
        let long : most ≤ length now.states = omega (arith, count-states t links inv, full.1) in
        (full.0, inr (inr (long, (deeper, (0, omega arith, refl), intern-absent none))))
    intern-full most OutOfMemory full none = tt

    module _ (new : NumberedValues FrameLink) (takes : TakesIn link links.values new.values) (first : new.first ≡ links.first) where
      abbrev u : Tables
      u = tables_of t new.values

      intern-takes : TakesIn deeper now.states u.states
      intern-takes = linked-takes part rest links.values new.values link takes inv.back inv.once there one-link

      count-new : length u.states ≡ taken new
      count-new = omega (arith, length-resolved part rest ([] ∷ []) new.values, first, inv.first)

      pub intern-grows : GrowsWithin (only_state deeper) now u
      intern-grows = record { texts = grows-refl [] t.texts; paths = grows-refl [] t.paths; states = grows-taken deeper now.states u.states intern-takes; limit = refl }

      pub intern-ok : (n : ℕ) → HasNumber new n link → slice_get u.states n ≡ Some deeper
      intern-ok n h =
          let from : new.first ≡ 1 = first ∙ inv.first in
          let low : 1 ≤ n = omega (arith, h.0) in
          linked-number part rest links.values new.values link takes inv.back there n low (ap (λ k. slice_get new.values (n - k)) (sym from) ∙ h.1)

      pub intern-limits : (most : ℕ) → KeepsLimit most (taken links) (taken new) → KeepsLimits most now u
      intern-limits most h =
          let P : ℕ → ℕ → Type 0 = λ a b. KeepsLimit most a b in
          record { texts = inl refl; paths = inl refl; states = subst (λ a. P a (length u.states)) (sym (count-states t links inv)) (subst (P (taken links)) (sym count-new) h) }

      pub intern-invariant : (most : ℕ) → KeepsLimit most (taken links) (taken new) → most ≤ t.limit → AreStates t new
      intern-invariant most kept low = record {
        first = first ∙ inv.first;
        back = linked-back part rest links.values new.values link takes inv.back there;
        frames = all-taken (λ (l : FrameLink). IsFrameOf t l.frame) link links.values new.values takes inv.frames (frame-below frame known);
        once = once-taken deeper now.states u.states intern-takes inv.once;
        within = limit-kept most (taken links) (taken new) t.limit kept low inv.within;
      }
