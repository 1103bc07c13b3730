-- What a rule of a topological order contributes does not depend on which others are open.
use Rattle.std.proofs.Common.{◌≡◌, ℕ, suc, ◌<◌, ◌≢◌, Bool, true, false, List, [], ◌∷◌, ◌++◌, flat_map, slice_get, get_or, length, inl, inr, refl, ap, ap₂, sym, ◌∙◌, arith}
use Rattle.std.proofs.lemmas.Bool.Decides.{eqb_tells}
use Rattle.tm_rules.specs.Candidates.{is_among, flattened}
use Rattle.tm_rules.specs.Readers.{is_only, patterns_of}
use Rattle.tm_rules.specs.inner.Made.{AreAmong, IsTopological}
use Rattle.tm_rules.specs.declared.candidate.Candidate.{Candidate}
use Rattle.tm_defs.specs.declared.rules.Rule.{Rule}
use Rattle.tm_rules.proofs.Flattened.{flattened-start, flattened-only}
use Rattle.tm_rules.proofs.Unopened.{apart-eq, same-eq}

-- functions that agree on each item
flat_map-same : (f g : ℕ → List Candidate) (ps : List ℕ) → ((k : ℕ) → k < length ps → f (get_or ps k 0) ≡ g (get_or ps k 0)) → flat_map f ps ≡ flat_map g ps
flat_map-same f g [] same = refl
flat_map-same f g (p ∷ ps) same = ap₂ (λ (a b : List Candidate). a ++ b) (same 0 (omega arith)) (flat_map-same f g ps (λ k h. same (suc k) (omega arith)))

pub among-head : (n : ℕ) (ns : List ℕ) → is_among n (n ∷ ns) ≡ true
among-head n ns = rw (same-eq n) refl

pub among-apart : (k n : ℕ) (ns : List ℕ) → (k ≢ n) → is_among k (n ∷ ns) ≡ is_among k ns
among-apart k n ns apart = rw (apart-eq k n apart) refl

-- a number that is there, and one that is not
two_numbers : (ns : List ℕ) (k n : ℕ) → is_among k ns ≡ true → is_among n ns ≡ false → k ≢ n
two_numbers ns k n there absent = λ same. absurd (cc (ap (λ (m : ℕ). is_among m ns) same))

among-more : (k n : ℕ) (ns : List ℕ) → is_among k ns ≡ true → is_among k (n ∷ ns) ≡ true
among-more k n ns there = elim (eqb_tells k n) [
  | inl e ↦ ap (λ (m : ℕ). is_among m (n ∷ ns)) e.1 ∙ among-head n ns
  | inr e ↦ among-apart k n ns e.1 ∙ there
]

module _ (rules : List Rule) where
  -- none of these is open
  abbrev AreShut : List ℕ → List ℕ → Type 0
  AreShut ns opened = (k : ℕ) → is_among k ns ≡ true → is_among k opened ≡ false

  shut-opened : (n : ℕ) (ns opened : List ℕ) → is_among n ns ≡ false → AreShut (n ∷ ns) opened → AreShut ns (n ∷ opened)
  shut-opened n ns opened absent shut k there =
      among-apart k n opened (two_numbers ns k n there absent) ∙ shut k (among-more k n ns there)

  -- what each of these contributes is the same whatever others are open
  abbrev AreSame : List ℕ → Type 0
  AreSame ns = (opened : List ℕ) → AreShut ns opened → (p : ℕ) → is_among p ns ≡ true → flattened rules opened p ≡ flattened rules [] p

  pattern_same : (ns opened : List ℕ) → AreSame ns → AreShut ns opened → (p : ℕ) → (is_only (slice_get rules p) ≡ true → is_among p ns ≡ true)
      → (b : Bool) → is_only (slice_get rules p) ≡ b → flattened rules opened p ≡ flattened rules [] p
  pattern_same ns opened same shut p known true only = same opened shut p (known only)
  pattern_same ns opened same shut p known false plain = flattened-start rules opened p plain ∙ sym (flattened-start rules [] p plain)

  -- a rule behind them contributes what its patterns do with nothing open
  once : (n : ℕ) (ns opened : List ℕ) → is_only (slice_get rules n) ≡ true → is_among n ns ≡ false → AreAmong rules ns (patterns_of (slice_get rules n))
      → AreSame ns → AreShut (n ∷ ns) opened → flattened rules opened n ≡ flat_map (flattened rules []) (patterns_of (slice_get rules n))
  once n ns opened only absent known same shut =
      flattened-only rules opened n only (shut n (among-head n ns))
      ∙ flat_map-same (flattened rules (n ∷ opened)) (flattened rules []) (patterns_of (slice_get rules n))
      (λ k h. let p = get_or (patterns_of (slice_get rules n)) k 0 in
      pattern_same ns (n ∷ opened) same (shut-opened n ns opened absent shut) p (known k h) (is_only (slice_get rules p)) refl)

  nothing_shut : (ns : List ℕ) → AreShut ns []
  nothing_shut ns k there = refl

  same_of : (ns : List ℕ) → IsTopological rules ns → AreSame ns
  same_of [] order opened shut p there = absurd (cc)
  same_of (n ∷ ns) order opened shut p there = elim (eqb_tells p n) [
    | inl e ↦ ap (flattened rules opened) e.1
        ∙ once n ns opened order.0 order.1 order.2 (same_of ns order.3) shut
        ∙ sym (once n ns [] order.0 order.1 order.2 (same_of ns order.3) (nothing_shut (n ∷ ns)))
        ∙ ap (flattened rules []) (sym e.1)
    | inr e ↦ same_of ns order.3 opened (λ k h. shut k (among-more k n ns h)) p (sym (among-apart p n ns e.1) ∙ there)
  ]

  -- the list of the next rule of the order
  pub flattened-next : (n : ℕ) (ns : List ℕ) → IsTopological rules (n ∷ ns) → flattened rules [] n ≡ flat_map (flattened rules []) (patterns_of (slice_get rules n))
  flattened-next n ns order = once n ns [] order.0 order.1 order.2 (same_of ns order.3) (nothing_shut (n ∷ ns))
