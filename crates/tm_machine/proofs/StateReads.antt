-- Steps on entries by number are the same steps on the states that the numbers stand for.
use Rattle.std.proofs.Common.{◌≡◌, ℕ, suc, zero, ◌+◌, Bool, true, false, not, cond, List, [], ◌∷◌, length, take, replicate, Some, None, Option, refl, ap, sym, ◌∙◌}
use Rattle.std.specs.Prelude.{map, nat_lt}
use Rattle.std.specs.Option.{option_map}
use Rattle.std.specs.List.{list_all, take-map, prefix_len}
use Rattle.std.proofs.lemmas.List.Folds.{list_all-map}
use Rattle.std.proofs.lemmas.List.{length-map, map-append, drop-map}
use Rattle.tm_defs.specs.declared.changes.LineEffect.{LineEffect}
use Rattle.tm_defs.specs.declared.frames.FrameData.{FrameData}
use Rattle.tm_defs.specs.declared.frames.StateId.{StateId}
use Rattle.tm_defs.specs.declared.tokens.Token.{Token}
use Rattle.tm_defs.specs.Tables.{Tables, state_at}
use Rattle.tm_machine.specs.declared.entries.Entry.{Entry}
use Rattle.tm_machine.specs.Entries.{is_accurate, front, blocked_at, put, block, end_at, start_at, first_invalid, blank, blanks, last_end, replaced}
use Rattle.tm_machine.specs.Numbered.{with_state}

module _ (t : Tables) where
  pub accurate-map : (es : List (Entry StateId)) (i : ℕ) → is_accurate (map (with_state t) es) i ≡ is_accurate es i
  accurate-map es i = ap (list_all (λ (e : Entry (List FrameData)). e.good)) (take-map (with_state t) (i + 1) es) ∙ list_all-map (λ (e : Entry (List FrameData)). e.good) (with_state t) (take (i + 1) es)

  prefix-map : (es : List (Entry StateId)) → prefix_len (λ (e : Entry (List FrameData)). not (not e.good)) (map (with_state t) es) ≡ prefix_len (λ (e : Entry StateId). not (not e.good)) es
  prefix-map [] = refl
  prefix-map (e ∷ es) = ap (λ n. cond (not (not e.good)) (1 + n) 0) (prefix-map es)

  pub front-map : (es : List (Entry StateId)) → front (map (with_state t) es) ≡ front es
  front-map es =
      let f : ℕ → ℕ → Option ℕ = λ n m. cond (nat_lt n m) (Some n) None in
      ap (λ n. f n (length (map (with_state t) es))) (prefix-map es) ∙ ap (λ m. f (prefix_len (λ (e : Entry StateId). not (not e.good)) es) m) (length-map es (with_state t))

  pub blocked-map : (es : List (Entry StateId)) (i : ℕ) → blocked_at (map (with_state t) es) i ≡ blocked_at es i
  blocked-map [] i = refl
  blocked-map (e ∷ es) zero = refl
  blocked-map (e ∷ es) (suc i) = blocked-map es i

  pub end-map : (es : List (Entry StateId)) (i : ℕ) → end_at (map (with_state t) es) i ≡ option_map (state_at t) (end_at es i)
  end-map [] i = refl
  end-map (e ∷ es) zero = refl
  end-map (e ∷ es) (suc i) = end-map es i

  pub start-map : (es : List (Entry StateId)) (i : ℕ) (first : StateId) → state_at t first ≡ [] → start_at (Some []) (map (with_state t) es) i ≡ option_map (state_at t) (start_at (Some first) es i)
  start-map es zero first h = ap Some (sym h)
  start-map es (suc i) first h = end-map es i

  invalid-map : (es : List (Entry StateId)) → map (with_state t) (first_invalid es) ≡ first_invalid (map (with_state t) es)
  invalid-map [] = refl
  invalid-map (e ∷ es) = refl

  pub put-map : (es : List (Entry StateId)) (i : ℕ) (tokens : List Token) (id : StateId) (same : Bool) → map (with_state t) (put es i tokens id same) ≡ put (map (with_state t) es) i tokens (state_at t id) same
  put-map [] i tokens id same = refl
  put-map (e ∷ es) zero tokens id true = refl
  put-map (e ∷ es) zero tokens id false = ap (λ r. record { tokens = Some tokens; end = Some (state_at t id); good = true; blocked = false } ∷ r) (invalid-map es)
  put-map (e ∷ es) (suc i) tokens id same = ap (λ r. with_state t e ∷ r) (put-map es i tokens id same)

  pub block-map : (es : List (Entry StateId)) (i : ℕ) → map (with_state t) (block es i) ≡ block (map (with_state t) es) i
  block-map [] i = refl
  block-map (e ∷ es) zero = refl
  block-map (e ∷ es) (suc i) = ap (λ r. with_state t e ∷ r) (block-map es i)

  pub replicate-map : (n : ℕ) → map (with_state t) (replicate n (blank None)) ≡ replicate n (blank None)
  replicate-map zero = refl
  replicate-map (suc n) = ap (λ es. blank None ∷ es) (replicate-map n)

  blanks-map : (n : ℕ) (end : Option StateId) → map (with_state t) (blanks n end) ≡ blanks n (option_map (state_at t) end)
  blanks-map zero end = refl
  blanks-map (suc zero) end = refl
  blanks-map (suc (suc n)) end = ap (λ es. blank None ∷ es) (blanks-map (suc n) end)

  last-map : (end : Option StateId) (es : List (Entry StateId)) → option_map (state_at t) (last_end end es) ≡ last_end (option_map (state_at t) end) (map (with_state t) es)
  last-map end [] = refl
  last-map end (e ∷ es) = last-map e.end es

  pub replaced-map : (e : LineEffect) (es : List (Entry StateId)) → map (with_state t) (replaced e es) ≡ replaced e (map (with_state t) es)
  replaced-map e es = simp (map-append, blanks-map, last-map, take-map, drop-map)
