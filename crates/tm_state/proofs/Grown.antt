-- States stay what they are while texts and scope lists come.
use Rattle.std.proofs.Common.{◌≡◌, ℕ, ◌<◌, ◌≤◌, List, [], ◌∷◌, length, get_or, Some, None, Option, Result, Ok, Err, inl, inr, refl, ap, sym, ◌∙◌, arith, subst, length-append}
use Rattle.std.specs.Prelude.{slice_get, IfErr}
use Rattle.std.specs.Option.{option_map}
use Rattle.std.proofs.Math.ListN.{get_or-append}
use Rattle.std.proofs.lemmas.Option.{slice_get-get_or}
use Rattle.tm_defs.specs.declared.frames.FrameData.{FrameData}
use Rattle.tm_defs.specs.declared.frames.Frame.{Frame}
use Rattle.tm_defs.specs.declared.frames.TextId.{TextId}
use Rattle.tm_defs.specs.Tables.{Tables, TableEntries, IsNumbering, NoneTwice, GrowsBy, GrowsWithin, IsFrameOf, IsOptionalText, IsFullForSome, LacksOne, frame_at, text_at, path_at}
use Rattle.tm_defs.specs.declared.tables.TableFault.{TableFault}
use Rattle.tm_defs.specs.declared.tables.TableFault.TheVariants.{TableFull, OutOfMemory}
use Rattle.tm_defs.proofs.Growth.{grows-refl}
use Rattle.tm_defs.proofs.Chains.{path_at-grown, paths-longer}
use Rattle.tm_scope.specs.Numbered.{NumberedValues, taken}
use Rattle.tm_scope.specs.Entries.{KeepsLimits, IsFullFor, LacksOneAt}
use Rattle.tm_scope.proofs.Linked.{length-resolved, resolved-front, resolved-same}
use Rattle.tm_scope.proofs.MoreTexts.{all-map}
use Rattle.tm_state.specs.declared.states.FrameLink.{FrameLink}
use Rattle.tm_state.specs.States.{states_of, tables_of, AreStates}

-- the numbers of a frame are in range of longer tables
pub frame-over : (t u : Tables) (f : Frame) → length t.texts ≤ length u.texts → length t.paths ≤ length u.paths → IsFrameOf t f → IsFrameOf u f
frame-over t u f texts paths h = record { end = by f.end h.end; names = omega (arith, h.names); contents = omega (arith, h.contents) }
  where
    by : (end : Option TextId) → IsOptionalText t end → IsOptionalText u end
    by None k = tt
    by (Some id) k = omega arith

module _ (made : TableEntries) (t u : Tables) (grew : GrowsWithin made t u) where
  pub texts-longer : length t.texts ≤ length u.texts
  texts-longer = omega (arith, ap length grew.texts.is, length-append t.texts grew.texts.added)

  text-same : (id : TextId) → id.0 < length t.texts → text_at u id ≡ text_at t id
  text-same id h = ap (λ l. get_or l id.0 []) grew.texts.is ∙ get_or-append t.texts grew.texts.added [] id.0 h

  pub end-same : (end : Option TextId) → IsOptionalText t end → option_map (text_at u) end ≡ option_map (text_at t) end
  end-same None h = refl
  end-same (Some id) h = ap Some (text-same id h)

  pub end-kept : (end : Option TextId) → IsOptionalText t end → IsOptionalText u end
  end-kept None h = tt
  end-kept (Some id) h = omega (arith, texts-longer)

  pub frame-same : (f : Frame) → IsFrameOf t f → frame_at u f ≡ frame_at t f
  frame-same f h =
      let make : Option (List ℕ) → List (List ℕ) → List (List ℕ) → FrameData = λ end names contents. record { rule = f.rule; end = end; names = names; contents = contents; at_eol = f.at_eol } in
      ap (λ e. make e (path_at u f.names) (path_at u f.contents)) (end-same f.end h.end)
      ∙ ap (λ n. make (option_map (text_at t) f.end) n (path_at u f.contents)) (path_at-grown made t u f.names h.names grew)
      ∙ ap (make (option_map (text_at t) f.end) (path_at t f.names)) (path_at-grown made t u f.contents h.contents grew)

  pub frame-known : (f : Frame) → IsFrameOf t f → IsFrameOf u f
  frame-known f h = frame-over t u f texts-longer (paths-longer made t u grew) h

  module _ (links : NumberedValues FrameLink) (inv : AreStates t links) where
    pub states-same : states_of u links.values ≡ states_of t links.values
    states-same =
        resolved-same (λ (l : FrameLink). frame_at t l.frame) (λ (l : FrameLink). l.rest.0) (λ (l : FrameLink). frame_at u l.frame) ([] ∷ []) links.values
        (all-map (λ (l : FrameLink). IsFrameOf t l.frame) (λ (l : FrameLink). frame_at u l.frame ≡ frame_at t l.frame) links.values (λ l k. frame-same l.frame k) inv.frames)

    pub states-kept : AreStates u links
    states-kept =
        let P : List (List FrameData) → Type 0 = λ l. NoneTwice l in
        record {
          first = inv.first;
          back = inv.back;
          frames = all-map (λ (l : FrameLink). IsFrameOf t l.frame) (λ (l : FrameLink). IsFrameOf u l.frame) links.values (λ l k. frame-known l.frame k) inv.frames;
          once = subst P (sym states-same) inv.once;
          within = omega (arith, inv.within, grew.limit);
        }

    pub tables-grow : GrowsWithin made (tables_of t links.values) (tables_of u links.values)
    tables-grow = record {
      texts = grew.texts;
      paths = grew.paths;
      states = let P : List (List FrameData) → Type 0 = λ l. GrowsBy made.states (states_of t links.values) l in subst P (sym states-same) (grows-refl made.states (states_of t links.values));
      limit = grew.limit;
    }

    pub tables-keep : (limit : ℕ) → KeepsLimits limit t u → KeepsLimits limit (tables_of t links.values) (tables_of u links.values)
    tables-keep limit h = record { texts = h.texts; paths = h.paths; states = inl (ap length states-same) }

none-lacking : {X : Type 0} (n : ℕ) (xs : List X) → LacksOne n [] xs → ⊥
none-lacking n xs h = omega (arith, h.1.1.1)

none-lacking-at : {X : Type 0} (n : ℕ) (xs : List X) → LacksOneAt n [] xs → ⊥
none-lacking-at n xs h = omega (arith, h.1.1.1)

-- a table of texts and lists that is full is a full table
module _ (texts : List (List ℕ)) (paths : List (List (List ℕ))) (t : Tables) (links : List FrameLink) where
  abbrev made : TableEntries
  made = record { texts = texts; paths = paths; states = [] }

  pub tables-full_some : (fault : TableFault) → IsFullForSome made t fault → IsFullForSome made (tables_of t links) fault
  tables-full_some OutOfMemory h = tt
  tables-full_some (TableFull n) (e, inl h) = (e, inl h)
  tables-full_some (TableFull n) (e, inr (inl h)) = (e, inr (inl h))
  tables-full_some (TableFull n) (e, inr (inr h)) = absurd (none-lacking n t.states h)

  pub tables-full : (limit : ℕ) (fault : TableFault) → IsFullFor limit made t fault → IsFullFor limit made (tables_of t links) fault
  tables-full limit OutOfMemory h = tt
  tables-full limit (TableFull n) (e, inl h) = (e, inl h)
  tables-full limit (TableFull n) (e, inr (inl h)) = (e, inr (inl h))
  tables-full limit (TableFull n) (e, inr (inr h)) = absurd (none-lacking-at limit t.states h)

-- texts, scope lists and states together are a numbering
module _ (t : Tables) (links : NumberedValues FrameLink) (inv : AreStates t links) where
  pub count-states : length (states_of t links.values) ≡ taken links
  count-states = omega (arith, length-resolved (λ (l : FrameLink). frame_at t l.frame) (λ (l : FrameLink). l.rest.0) ([] ∷ []) links.values, inv.first)

  pub opening-first : slice_get (states_of t links.values) 0 ≡ Some []
  opening-first =
      slice_get-get_or (states_of t links.values) 0 [] (omega (arith, count-states, inv.first))
      ∙ ap Some (resolved-front (λ (l : FrameLink). frame_at t l.frame) (λ (l : FrameLink). l.rest.0) ([] ∷ []) links.values 0 [] (omega arith))

  pub tables-numbering : IsNumbering t → IsNumbering (tables_of t links.values)
  tables-numbering num = record {
    empty_path = num.empty_path;
    opening = opening-first;
    texts_once = num.texts_once;
    paths_once = num.paths_once;
    states_once = inv.once;
    texts_within = num.texts_within;
    paths_within = num.paths_within;
    states_within = omega (arith, count-states, inv.within);
  }

pub err-full_some : {V : Type 0} (r : Result V TableFault) (texts : List (List ℕ)) (paths : List (List (List ℕ))) (t : Tables) (links : List FrameLink) →
    IfErr r (IsFullForSome (record { texts = texts; paths = paths; states = [] }) t) → IfErr r (IsFullForSome (record { texts = texts; paths = paths; states = [] }) (tables_of t links))
err-full_some (Ok v) texts paths t links h = tt
err-full_some (Err fault) texts paths t links h = tables-full_some texts paths t links fault h
