-- What is left, as tasks come and go.
use Rattle.std.proofs.Common.{◌≡◌, ℕ, ◌<◌, ◌≢◌, Bool, true, false, List, [], ◌∷◌, ◌++◌, map, length, slice_get, get_or, inl, inr, refl, ap, sym, ◌∙◌, append_assoc, flat_map, arith}
use Rattle.std.specs.Prelude.{slice_set}
use Rattle.std.proofs.lemmas.List.{append-nil, reverse-append, get_or-set_same, get_or-set_other}
use Rattle.std.proofs.Math.ListN.{length-set}
use Rattle.std.proofs.lemmas.Bool.Decides.{eqb_tells}
use Rattle.tm_rules.specs.Candidates.{is_among, flattened}
use Rattle.tm_rules.specs.Readers.{is_only, patterns_of}
use Rattle.tm_rules.specs.inner.Tasks.{opened_by, tasks_left, stacked, AreMarked}
use Rattle.tm_rules.specs.declared.candidate.Candidate.{Candidate}
use Rattle.tm_rules.specs.declared.flow.Task.{Task}
use Rattle.tm_rules.specs.declared.flow.Task.TheVariants.{Visit, Close}
use Rattle.tm_defs.specs.declared.rules.Rule.{Rule}
use Rattle.tm_rules.proofs.Flattened.{flattened-open, flattened-only}
use Rattle.tm_rules.proofs.Unopened.{apart-eq, same-eq}

pub stacked-push : (ts : List Task) (t : Task) → stacked (ts ++ t ∷ []) ≡ t ∷ stacked ts
stacked-push ts t = reverse-append ts (t ∷ [])

pub opened-visits : (ps : List ℕ) (ts : List Task) → opened_by (map Visit ps ++ ts) ≡ opened_by ts
opened-visits [] ts = refl
opened-visits (p ∷ ps) ts = opened-visits ps ts

module _ (rules : List Rule) where
  pub left-visits : (ps : List ℕ) (ts : List Task) → tasks_left rules (map Visit ps ++ ts) ≡ flat_map (flattened rules (opened_by ts)) ps ++ tasks_left rules ts
  left-visits [] ts = refl
  left-visits (p ∷ ps) ts =
      ap (λ (ns : List ℕ). flattened rules ns p ++ tasks_left rules (map Visit ps ++ ts)) (opened-visits ps ts)
      ∙ ap (λ (cs : List Candidate). flattened rules (opened_by ts) p ++ cs) (left-visits ps ts)
      ∙ sym (append_assoc (flattened rules (opened_by ts) p) (flat_map (flattened rules (opened_by ts)) ps) (tasks_left rules ts))

  pub left-begun : (n : ℕ) → tasks_left rules (Visit n ∷ []) ≡ flattened rules [] n
  left-begun n = append-nil (flattened rules [] n)

  -- an open rule is passed
  pub left-open : (n : ℕ) (ts : List Task) → is_only (slice_get rules n) ≡ true → is_among n (opened_by ts) ≡ true → tasks_left rules ts ≡ flattened rules (opened_by ts) n ++ tasks_left rules ts
  left-open n ts h o = sym (ap (λ (cs : List Candidate). cs ++ tasks_left rules ts) (flattened-open rules (opened_by ts) n h o))

  -- another one is opened, and its patterns are visited
  pub left-opened : (n : ℕ) (ps : List ℕ) (ts new : List Task) → is_only (slice_get rules n) ≡ true → patterns_of (slice_get rules n) ≡ ps → is_among n (opened_by ts) ≡ false
      → new ≡ map Visit ps ++ Close n ∷ ts → tasks_left rules new ≡ flattened rules (opened_by ts) n ++ tasks_left rules ts
  left-opened n ps ts new h is o e =
      ap (tasks_left rules) e
      ∙ left-visits ps (Close n ∷ ts)
      ∙ ap (λ (cs : List Candidate). cs ++ tasks_left rules ts)
      (sym (flattened-only rules (opened_by ts) n h o ∙ ap (λ (qs : List ℕ). flat_map (flattened rules (n ∷ opened_by ts)) qs) is))

  module _ (marks : List Bool) (n : ℕ) (opened : List ℕ) where
    among-other : (k : ℕ) → (k ≢ n) → is_among k (n ∷ opened) ≡ is_among k opened
    among-other k apart = rw (apart-eq k n apart) refl

    among-same : (k : ℕ) → k ≡ n → is_among k (n ∷ opened) ≡ true
    among-same k same = rw (same, same-eq n) refl

    pub marked-opened : AreMarked rules marks opened → is_among n opened ≡ false → n < length rules → AreMarked rules (slice_set marks n true) (n ∷ opened)
    marked-opened m closed within = record {
      apart = (closed, m.apart);
      long = length-set marks n true ∙ m.long;
      marked = λ k inside. elim (eqb_tells k n) [
        | inl e ↦ ap (λ (k : ℕ). get_or (slice_set marks n true) k false) e.1 ∙ get_or-set_same marks n true false (omega (arith, m.long)) ∙ sym (among-same k e.1)
        | inr e ↦ get_or-set_other marks n k true false e.1 ∙ m.marked k inside ∙ sym (among-other k e.1)
      ];
    }

    pub marked-closed : AreMarked rules marks (n ∷ opened) → AreMarked rules (slice_set marks n false) opened
    marked-closed m = record {
      apart = m.apart.1;
      long = length-set marks n false ∙ m.long;
      marked = λ k inside. elim (eqb_tells k n) [
        | inl e ↦ ap (λ (k : ℕ). get_or (slice_set marks n false) k false) e.1 ∙ get_or-set_same marks n false false (omega (arith, m.long, e.1)) ∙ sym (ap (λ (k : ℕ). is_among k opened) e.1 ∙ m.apart.0)
        | inr e ↦ get_or-set_other marks n k false false e.1 ∙ m.marked k inside ∙ among-other k e.1
      ];
    }
