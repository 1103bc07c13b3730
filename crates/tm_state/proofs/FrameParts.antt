-- A frame, part by part.
use Rattle.std.proofs.Common.{◌≡◌, ℕ, List, Some, Option, Contains, ap, ◌∙◌}
use Rattle.std.specs.Prelude.{slice_get}
use Rattle.std.specs.Option.{option_map}
use Rattle.std.proofs.lemmas.Option.{slice_get_within}
use Rattle.tm_defs.specs.declared.frames.FrameData.{FrameData}
use Rattle.tm_defs.specs.declared.frames.Frame.{Frame}
use Rattle.tm_defs.specs.declared.frames.TextId.{TextId}
use Rattle.tm_defs.specs.declared.frames.ScopeList.{ScopeList}
use Rattle.tm_defs.specs.Tables.{Tables, GrowsWithin, IsFrameOf, IsOptionalText, frame_at, text_at, path_at}
use Rattle.tm_defs.specs.declared.tables.TableFault.{TableFault}
use Rattle.tm_defs.proofs.Growth.{tables-trans, tables-refl, slice_get-grown}
use Rattle.tm_defs.proofs.Chains.{path_at-is}
use Rattle.tm_scope.specs.Entries.{path_entries, HasEntries, IsFullFor}
use Rattle.tm_scope.proofs.Limits.{full-among}
use Rattle.tm_state.specs.Entries.{end_entries, frame_entries}
use Rattle.tm_state.proofs.Grown.{end-same, end-kept}
use Rattle.tm_state.proofs.Parts.{end-among, names-among, contents-among, names-known, contents-known}

module _ (f : FrameData) (t u : Tables) (e : GrowsWithin (end_entries f.end) t u) where
  pub grows-end : GrowsWithin (frame_entries f) t u
  grows-end = tables-trans (end_entries f.end) (frame_entries f) t t u (end-among f) (tables-refl (frame_entries f) t) e

  pub names-absent : (Contains u.paths f.names → ⊥) → HasEntries (frame_entries f) t → ⊥
  names-absent none h = none (names-known f (end_entries f.end) t u e h)

  module _ (v : Tables) (n : GrowsWithin (path_entries f.names) u v) where
    pub grows-names : GrowsWithin (frame_entries f) t v
    grows-names = tables-trans (path_entries f.names) (frame_entries f) t u v (names-among f) grows-end n

    pub contents-absent : (Contains v.paths f.contents → ⊥) → HasEntries (frame_entries f) t → ⊥
    contents-absent none h = none (contents-known f (frame_entries f) t v grows-names h)

    module _ (w : Tables) (m : GrowsWithin (path_entries f.contents) v w) where
      pub grows-contents : GrowsWithin (frame_entries f) t w
      grows-contents = tables-trans (path_entries f.contents) (frame_entries f) t v w (contents-among f) grows-names m

      module _ (end : Option TextId) (end_known : IsOptionalText u end) (end_is : option_map (text_at u) end ≡ f.end) (names contents : ScopeList) (names_at : slice_get v.paths names.0 ≡ Some f.names) (contents_at : slice_get w.paths contents.0 ≡ Some f.contents) where
        abbrev number : Frame
        number = record { rule = f.rule; end = end; names = names; contents = contents; at_eol = f.at_eol }

        names-there : slice_get w.paths names.0 ≡ Some f.names
        names-there = slice_get-grown (path_entries f.contents).paths v.paths w.paths names.0 f.names m.paths names_at

        end-mid : IsOptionalText v end
        end-mid = end-kept (path_entries f.names) u v n end end_known

        pub number-range : IsFrameOf w number
        number-range = record {
          end = end-kept (path_entries f.contents) v w m end end-mid;
          names = slice_get_within w.paths names.0 f.names names-there;
          contents = slice_get_within w.paths contents.0 f.contents contents_at;
        }

        pub number-is : frame_at w number ≡ f
        number-is =
            let make : Option (List ℕ) → List (List ℕ) → List (List ℕ) → FrameData = λ a b c. record { rule = f.rule; end = a; names = b; contents = c; at_eol = f.at_eol } in
            ap (λ a. make a (path_at w names) (path_at w contents)) (end-same (path_entries f.contents) v w m end end-mid ∙ end-same (path_entries f.names) u v n end end_known ∙ end_is)
            ∙ ap (λ b. make f.end b (path_at w contents)) (path_at-is w names f.names names-there)
            ∙ ap (make f.end f.names) (path_at-is w contents f.contents contents_at)

pub names-full : (f : FrameData) (limit : ℕ) (t : Tables) (fault : TableFault) → IsFullFor limit (path_entries f.names) t fault → IsFullFor limit (frame_entries f) t fault
names-full f limit t fault h = full-among limit (path_entries f.names) (frame_entries f) t fault (names-among f) h

pub contents-full : (f : FrameData) (limit : ℕ) (t : Tables) (fault : TableFault) → IsFullFor limit (path_entries f.contents) t fault → IsFullFor limit (frame_entries f) t fault
contents-full f limit t fault h = full-among limit (path_entries f.contents) (frame_entries f) t fault (contents-among f) h
