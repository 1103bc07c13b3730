-- The words of a text, as they are cut off one after the other.
use Rattle.std.proofs.Common.{◌≡◌, refl, not, inl, inr, ℕ, ◌+◌, ◌-◌, ◌<◌, ◌≤◌, true, false, List, [], ◌∷◌, ◌++◌, length, take, drop, get_or, sym, ap, ◌∙◌, subst, arith, All}
use Rattle.std.specs.Prelude.{filter, flat_map}
use Rattle.std.specs.List.{slice_range, slice_split, onto_first, list_any, AllByRecursion}
use Rattle.std.proofs.lemmas.Bool.{cases_Bool}
use Rattle.std.proofs.lemmas.List.{drop_more, drop-drop, take-append-drop, take_all, take_more, get_or-drop, length-drop}
use Rattle.std.proofs.lemmas.List.Elements.{All-push, All-nil, All-cons, All-from_recursion, filter-append}
use Rattle.std.proofs.lemmas.List.Splits.{slice_split_at, slice_split_none, slice_split-cons_yes, slice_split-cons_no}
use Rattle.tm_template.specs.Names.{is_blank, is_filled, words_of}
use Rattle.tm_template.specs.Laws.{IsName, AreWords, WordsAre}

-- a run of characters other than the space
abbrev pub IsRun : List ℕ → Type 0
IsRun word = All (λ c. is_blank c ≡ false) word

-- a run, the character behind it, and what follows
cut_at : (text : List ℕ) (start at : ℕ) → start ≤ at → at < length text → drop start text ≡ slice_range text start at ++ (get_or text at 0 ∷ drop (at + 1) text)
cut_at text start at order lt =
    let here : start + (at - start) ≡ at = omega (arith, order) in
    sym (take-append-drop (at - start) (drop start text))
    ∙ ap (λ u. slice_range text start at ++ u) (drop-drop (at - start) start text ∙ ap (λ k. drop k text) here ∙ drop_more text at 0 lt)

-- a run with one character more
run_more : (text : List ℕ) (start at : ℕ) → start ≤ at → at < length text → slice_range text start (at + 1) ≡ slice_range text start at ++ get_or text at 0 ∷ []
run_more text start at order lt =
    let here : start + (at - start) ≡ at = omega (arith, order) in
    let more : (at + 1) - start ≡ (at - start) + 1 = omega (arith, order) in
    let within : at - start < length (drop start text) = omega (arith, length-drop start text, order, lt) in
    ap (λ k. take k (drop start text)) more ∙ take_more (drop start text) (at - start) 0 within
    ∙ ap (λ c. slice_range text start at ++ c ∷ []) (get_or-drop start text (at - start) 0 ∙ ap (λ k. get_or text k 0) here)

pub run_goes_on : (text : List ℕ) (start at : ℕ) → start ≤ at → at < length text → is_blank (get_or text at 0) ≡ false → IsRun (slice_range text start at) → IsRun (slice_range text start (at + 1))
run_goes_on text start at order lt other run =
    subst IsRun (sym (run_more text start at order lt)) (All-push (λ c. is_blank c ≡ false) (slice_range text start at) (get_or text at 0) run other)

-- no character is a run
pub no_run : (text : List ℕ) (at : ℕ) → IsRun (slice_range text at at)
no_run text at = let none : at - at ≡ 0 = omega arith in subst (λ k. IsRun (take k (drop at text))) (sym none) (λ k d lt. absurd (omega (arith, lt)))

-- a word that a space ends, and the words behind it
pub word_ends : (text : List ℕ) (start at : ℕ) → start ≤ at → at < length text → is_blank (get_or text at 0) ≡ true → IsRun (slice_range text start at) →
    words_of (drop start text) ≡ filter is_filled (slice_range text start at ∷ []) ++ words_of (drop (at + 1) text)
word_ends text start at order lt blank run =
    ap words_of (cut_at text start at order lt)
    ∙ ap (λ us. filter is_filled us) (slice_split_at is_blank (slice_range text start at) (get_or text at 0) (drop (at + 1) text) run blank)
    ∙ filter-append is_filled (slice_range text start at ∷ []) (slice_split is_blank (drop (at + 1) text))

-- the last word
pub last_word : (text : List ℕ) → IsRun text → words_of text ≡ filter is_filled (text ∷ [])
last_word text run = ap (λ us. filter is_filled us) (slice_split_none is_blank text run)

-- at the end of the text the run is the rest
pub tail_run : (text : List ℕ) (start at : ℕ) → length text ≤ at → IsRun (slice_range text start at) → IsRun (drop start text)
tail_run text start at le run =
    let long = length-drop start text in
    subst IsRun (take_all (at - start) (drop start text) (omega (arith, long, le))) run

-- a word without spaces
abbrev pub HasNone : List ℕ → Type 0
HasNone word = list_any is_blank word ≡ false

none_more : (c : ℕ) (ws : List (List ℕ)) → is_blank c ≡ false → AllByRecursion HasNone ws → AllByRecursion HasNone (onto_first c ws)
none_more c [] other all = (rw other refl, tt)
none_more c (w ∷ ws) other all = (rw other all.0, all.1)

parts_none : (text : List ℕ) → AllByRecursion HasNone (slice_split is_blank text)
parts_none [] = (refl, tt)
parts_none (c ∷ t) = elim (cases_Bool (is_blank c)) [
  | inl blank ↦ rw blank (refl, parts_none t)
  | inr other ↦ rw other (none_more c (slice_split is_blank t) other (parts_none t))
]

-- what is kept of words without spaces are names
kept_names : (ws : List (List ℕ)) → AllByRecursion HasNone ws → AllByRecursion IsName (filter is_filled ws)
kept_names [] all = tt
kept_names (w ∷ ws) all = elim (cases_Bool (is_filled w)) [
  | inl some ↦ rw some (record { some = some; no_space = all.0 }, kept_names ws all.1)
  | inr none ↦ rw none (kept_names ws all.1)
]

-- words without characters add nothing
kept_all : (ws : List (List ℕ)) → flat_map (λ w. w) (filter is_filled ws) ≡ flat_map (λ w. w) ws
kept_all [] = refl
kept_all ([] ∷ ws) = kept_all ws
kept_all ((c ∷ w) ∷ ws) = rw (filled_is c w) (ap (λ u. (c ∷ w) ++ u) (kept_all ws))
  where
    filled_is : (c : ℕ) (w : List ℕ) → is_filled (c ∷ w) ≡ true
    filled_is c w = grind arith

onto_all : (c : ℕ) (ws : List (List ℕ)) → flat_map (λ w. w) (onto_first c ws) ≡ c ∷ flat_map (λ w. w) ws
onto_all c [] = refl
onto_all c (w ∷ ws) = refl

parts_all : (text : List ℕ) → flat_map (λ w. w) (slice_split is_blank text) ≡ filter (λ c. not (is_blank c)) text
parts_all [] = refl
parts_all (c ∷ t) = elim (cases_Bool (is_blank c)) [
  | inl blank ↦ rw blank (parts_all t)
  | inr other ↦ rw other (onto_all c (slice_split is_blank t) ∙ ap (λ u. c ∷ u) (parts_all t))
]

pub are_words : (text : List ℕ) → AreWords text
are_words text = record {
  names = All-from_recursion IsName (words_of text) (kept_names (slice_split is_blank text) (parts_none text));
  all = kept_all (slice_split is_blank text) ∙ parts_all text;
}

-- a character goes to the first of the parts, which there always is
onto_front : (c : ℕ) (ws us : List (List ℕ)) → (ws ≡ [] → ⊥) → onto_first c (ws ++ us) ≡ onto_first c ws ++ us
onto_front c [] us some = absurd (some refl)
onto_front c (w ∷ ws) us some = refl

onto_some : (c : ℕ) (ws : List (List ℕ)) → onto_first c ws ≡ [] → ⊥
onto_some c [] e = absurd cc
onto_some c (w ∷ ws) e = absurd cc

parts_some : (text : List ℕ) → slice_split is_blank text ≡ [] → ⊥
parts_some [] e = absurd cc
parts_some (c ∷ t) e = elim (cases_Bool (is_blank c)) [
  | inl blank ↦ let h : [] ∷ slice_split is_blank t ≡ [] = sym (slice_split-cons_yes is_blank c t blank) ∙ e in absurd cc
  | inr other ↦ onto_some c (slice_split is_blank t) (sym (slice_split-cons_no is_blank c t other) ∙ e)
]

parts_parted : (before behind : List ℕ) → slice_split is_blank (before ++ 32 ∷ behind) ≡ slice_split is_blank before ++ slice_split is_blank behind
parts_parted [] behind = refl
parts_parted (c ∷ t) behind = elim (cases_Bool (is_blank c)) [
  | inl blank ↦ rw blank (ap (λ ws. [] ∷ ws) (parts_parted t behind))
  | inr other ↦ rw other (ap (λ ws. onto_first c ws) (parts_parted t behind) ∙ onto_front c (slice_split is_blank t) (slice_split is_blank behind) (parts_some t))
]

run_from_none : (word : List ℕ) → list_any is_blank word ≡ false → IsRun word
run_from_none [] none = All-nil (λ c. is_blank c ≡ false)
run_from_none (c ∷ w) none = elim (cases_Bool (is_blank c)) [
  | inl blank ↦ absurd (let h : true ≡ false = sym (rw blank refl) ∙ none in cc)
  | inr other ↦ All-cons (λ d. is_blank d ≡ false) c w other (run_from_none w (sym (rw other refl) ∙ none))
]

pub words_are : WordsAre
words_are = record {
  none = refl;
  one = λ name is. last_word name (run_from_none name is.no_space) ∙ rw (is.some) refl;
  parted = λ before behind. ap (λ ws. filter is_filled ws) (parts_parted before behind) ∙ filter-append is_filled (slice_split is_blank before) (slice_split is_blank behind);
}
