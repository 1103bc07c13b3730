-- Each step on the entries keeps them right, and right entries are accurate.
use Rattle.std.proofs.Common.{◌≡◌, ℕ, zero, suc, ◌+◌, ◌<◌, ◌≤◌, Bool, true, false, cond, List, [], ◌∷◌, ◌++◌, length, take, drop, replicate, Option, Some, None, refl, sym, ap, ◌∙◌, subst, arith, add-one}
use Rattle.std.specs.Prelude.{slice_get}
use Rattle.std.specs.List.{list_all}
use Rattle.std.proofs.lemmas.Bool.{and_parts}
use Rattle.std.proofs.lemmas.Option.{slice_get-get_or}
use Rattle.tm_defs.specs.declared.frames.FrameData.{FrameData}
use Rattle.tm_defs.specs.declared.tokens.Token.{Token}
use Rattle.tm_machine.specs.declared.entries.Entry.{Entry}
use Rattle.tm_machine.specs.Changes.{spliced}
use Rattle.tm_machine.specs.Scratch.{Tokenizing, state_from}
use Rattle.tm_machine.specs.Accepts.{good_at}
use Rattle.tm_machine.specs.Entries.{blank, invalid, first_invalid, put, guess, stored, is_end, end_at, start_at, block, last_end, blanks, is_accurate, Holds, IsRight, AreRight, IsFromScratch, AreAccurate}
use Rattle.tm_machine.proofs.Fronts.{good-settled}
use Rattle.tm_machine.proofs.SameStates.{is_end-true}

-- an entry that is neither good nor blocked is right
idle-right : (k : Tokenizing) (budget : ℕ) (before : Option (List FrameData)) (line : List ℕ) (e : Entry (List FrameData)) → e.good ≡ false → e.blocked ≡ false → IsRight k budget before line e
idle-right k budget before line e g b = record { good = λ h. absurd (cc); blocked = λ h. absurd (cc) }

module _ (k : Tokenizing) (budget : ℕ) where
  -- behind a new end
  right-behind : (old : Option (List FrameData)) (s : List FrameData) (lines : List (List ℕ)) (es : List (Entry (List FrameData))) (same : Bool) → (same ≡ true → old ≡ Some s) → AreRight k budget old lines es →
      AreRight k budget (Some s) lines (cond same es (first_invalid es))
  right-behind old s lines es true e h = let P : Option (List FrameData) → Type 0 = λ d. AreRight k budget d lines es in subst P (e refl) h
  right-behind old s [] [] false e h = tt
  right-behind old s [] (x ∷ es) false e h = absurd h
  right-behind old s (line ∷ lines) [] false e h = absurd h
  right-behind old s (line ∷ lines) (x ∷ es) false e h = (idle-right k budget (Some s) line (invalid x) refl refl, h.1)

  -- a line is done
  pub AreRight-put : (before : Option (List FrameData)) (lines : List (List ℕ)) (es : List (Entry (List FrameData))) (i : ℕ) (s : List FrameData) (line : List ℕ) (same : Bool) →
      AreRight k budget before lines es → start_at before es i ≡ Some s → slice_get lines i ≡ Some line → (same ≡ true → end_at es i ≡ Some (k.tokenized s line).end) →
      AreRight k budget before lines (put es i (k.tokenized s line).tokens (k.tokenized s line).end same)
  AreRight-put before [] [] i s line same h st at e = tt
  AreRight-put before [] (x ∷ es) i s line same h st at e = absurd h
  AreRight-put before (l ∷ lines) [] i s line same h st at e = absurd h
  AreRight-put before (l ∷ lines) (x ∷ es) zero s line same h st at e =
      let here : l ≡ line = cc in (
        record { good = λ _. (s, st, record { tokens = ap (λ z. Some (k.tokenized s z).tokens) (sym here); end = ap (λ z. Some (k.tokenized s z).end) (sym here) }); blocked = λ b. absurd (cc) },
        right-behind x.end (k.tokenized s line).end lines es same e h.1,
      )
  AreRight-put before (l ∷ lines) (x ∷ es) (suc zero) s line same h st at e = (h.0, AreRight-put x.end lines es zero s line same h.1 st at e)
  AreRight-put before (l ∷ lines) (x ∷ es) (suc (suc i)) s line same h st at e = (h.0, AreRight-put x.end lines es (suc i) s line same h.1 st at e)

  pub AreRight-stored : (before : Option (List FrameData)) (lines : List (List ℕ)) (es : List (Entry (List FrameData))) (i : ℕ) (s : List FrameData) (line : List ℕ) →
      AreRight k budget before lines es → start_at before es i ≡ Some s → slice_get lines i ≡ Some line → AreRight k budget before lines (stored es i (k.tokenized s line))
  AreRight-stored before lines es i s line h st at =
      AreRight-put before lines es i s line (is_end (end_at es i) (k.tokenized s line).end) h st at (λ e. is_end-true (end_at es i) (k.tokenized s line).end e)

  -- what is guessed of a line that is not good
  pub AreRight-guess : (before : Option (List FrameData)) (lines : List (List ℕ)) (es : List (Entry (List FrameData))) (i : ℕ) (tokens : List Token) (end : List FrameData) (same : Bool) →
      AreRight k budget before lines es → good_at es i ≡ false → (same ≡ true → end_at es i ≡ Some end) → AreRight k budget before lines (guess es i tokens end same)
  AreRight-guess before [] [] i tokens end same h bad e = tt
  AreRight-guess before [] (x ∷ es) i tokens end same h bad e = absurd h
  AreRight-guess before (l ∷ lines) [] i tokens end same h bad e = absurd h
  AreRight-guess before (l ∷ lines) (x ∷ es) zero tokens end same h bad e = (record { good = λ g. absurd (cc); blocked = h.0.blocked }, right-behind x.end end lines es same e h.1)
  AreRight-guess before (l ∷ lines) (x ∷ es) (suc i) tokens end same h bad e = (h.0, AreRight-guess x.end lines es i tokens end same h.1 bad e)

  -- a line that is not good and costs too much is blocked
  pub AreRight-block : (before : Option (List FrameData)) (lines : List (List ℕ)) (es : List (Entry (List FrameData))) (i : ℕ) (s : List FrameData) (line : List ℕ) →
      AreRight k budget before lines es → ((e : Entry (List FrameData)) → slice_get es i ≡ Some e → e.good ≡ false) → start_at before es i ≡ Some s → slice_get lines i ≡ Some line → budget < k.plain_cost s line →
      AreRight k budget before lines (block es i)
  AreRight-block before [] [] i s line h bad st at dear = tt
  AreRight-block before [] (x ∷ es) i s line h bad st at dear = absurd h
  AreRight-block before (l ∷ lines) [] i s line h bad st at dear = absurd h
  AreRight-block before (l ∷ lines) (x ∷ es) zero s line h bad st at dear =
      let here : line ≡ l = cc in
      let P : List ℕ → Type 0 = λ z. budget < k.plain_cost s z in
      let b = bad x refl in
      (record { good = λ g. absurd (cc); blocked = λ _. (b, (s, st, subst P here dear)) }, h.1)
  AreRight-block before (l ∷ lines) (x ∷ es) (suc zero) s line h bad st at dear = (h.0, AreRight-block x.end lines es zero s line h.1 bad st at dear)
  AreRight-block before (l ∷ lines) (x ∷ es) (suc (suc i)) s line h bad st at dear = (h.0, AreRight-block x.end lines es (suc i) s line h.1 bad st at dear)

  pub length-right : (before : Option (List FrameData)) (lines : List (List ℕ)) (es : List (Entry (List FrameData))) → AreRight k budget before lines es → length es ≡ length lines
  length-right before [] [] h = refl
  length-right before [] (x ∷ es) h = absurd h
  length-right before (l ∷ lines) [] h = absurd h
  length-right before (l ∷ lines) (x ∷ es) h = ap suc (length-right x.end lines es h.1)

  -- blank entries are right, whatever they begin in, and what follows begins in their end
  right-blanks : (n : ℕ) (before end : Option (List FrameData)) (news lines : List (List ℕ)) (es : List (Entry (List FrameData))) → length news ≡ suc n → AreRight k budget end lines es → AreRight k budget before (news ++ lines) (blanks (suc n) end ++ es)
  right-blanks n before end [] lines es l h = absurd (omega arith)
  right-blanks zero before end (x ∷ []) lines es l h = (idle-right k budget before x (blank end) refl refl, h)
  right-blanks zero before end (x ∷ (y ∷ news)) lines es l h = absurd (omega arith)
  right-blanks (suc n) before end (x ∷ news) lines es l h = (idle-right k budget before x (blank None) refl refl, right-blanks n None end news lines es (omega arith) h)

  -- what is left behind the first old entries
  pub right-drop : (old : ℕ) (before : Option (List FrameData)) (lines : List (List ℕ)) (es : List (Entry (List FrameData))) → AreRight k budget before lines es → AreRight k budget (last_end before (take old es)) (drop old lines) (drop old es)
  right-drop zero before lines es h = h
  right-drop (suc old) before [] [] h = tt
  right-drop (suc old) before [] (e ∷ es) h = absurd h
  right-drop (suc old) before (l ∷ lines) [] h = absurd h
  right-drop (suc old) before (l ∷ lines) (e ∷ es) h = right-drop old e.end lines es h.1

  -- a range is replaced by blank entries, of which the last has the end of the last that they replace
  pub AreRight-spliced : (first old n : ℕ) (before : Option (List FrameData)) (news lines : List (List ℕ)) (es : List (Entry (List FrameData))) → length news ≡ suc n → first + suc old ≤ length lines → AreRight k budget before lines es →
      AreRight k budget before (spliced first (suc old) news lines) (spliced first (suc old) (blanks (suc n) (last_end None (take (suc old) (drop first es)))) es)
  AreRight-spliced zero old n before news [] es l w h = absurd (omega arith)
  AreRight-spliced zero old n before news (line ∷ lines) [] l w h = absurd h
  AreRight-spliced zero old n before news (line ∷ lines) (e ∷ es) l w h = right-blanks n before (last_end e.end (take old es)) news (drop old lines) (drop old es) l (right-drop old e.end lines es h.1)
  AreRight-spliced (suc first) old n before news [] es l w h = absurd (omega arith)
  AreRight-spliced (suc first) old n before news (line ∷ lines) [] l w h = absurd h
  AreRight-spliced (suc first) old n before news (line ∷ lines) (e ∷ es) l w h = (h.0, AreRight-spliced first old n e.end news lines es l (omega arith) h.1)

  pub AreRight-blank : (before : Option (List FrameData)) (lines : List (List ℕ)) → AreRight k budget before lines (replicate (length lines) (blank None))
  AreRight-blank before [] = tt
  AreRight-blank before (l ∷ lines) = (idle-right k budget before l (blank None) refl refl, AreRight-blank None lines)

  -- an accurate entry holds what tokenizing from here gives
  holds-from : (s : List FrameData) (lines : List (List ℕ)) (es : List (Entry (List FrameData))) (i : ℕ) (line : List ℕ) (e : Entry (List FrameData)) → AreRight k budget (Some s) lines es →
      list_all (λ (x : Entry (List FrameData)). x.good) (take (suc i) es) ≡ true → slice_get lines i ≡ Some line → slice_get es i ≡ Some e → Holds e (k.tokenized (state_from k s lines i) line)
  holds-from s [] es i line e h a at there = absurd (cc)
  holds-from s (l ∷ lines) [] i line e h a at there = absurd (cc)
  holds-from s (l ∷ lines) (x ∷ es) zero line e h a at there =
      let d = h.0.good (and_parts x.good true a).0 in
      let same : d.0 ≡ s = cc in
      let same_line : l ≡ line = cc in
      let same_entry : x ≡ e = cc in
      let P : Entry (List FrameData) → Type 0 = λ z. Holds z (k.tokenized s line) in
      let Q : List FrameData → Type 0 = λ z. Holds x (k.tokenized z line) in
      let R : List ℕ → Type 0 = λ z. Holds x (k.tokenized d.0 z) in
      subst P same_entry (subst Q same (subst R same_line d.2))
  holds-from s (l ∷ lines) (x ∷ es) (suc i) line e h a at there =
      let p = and_parts x.good (list_all (λ (y : Entry (List FrameData)). y.good) (take (suc i) es)) a in
      let d = h.0.good p.0 in
      let same : d.0 ≡ s = cc in
      let end : x.end ≡ Some (k.tokenized s l).end = d.2.end ∙ ap (λ z. Some (k.tokenized z l).end) same in
      let P : Option (List FrameData) → Type 0 = λ z. AreRight k budget z lines es in
      holds-from (k.tokenized s l).end lines es i line e (subst P end h.1) p.1 at there

  pub accurate-from_scratch : (lines : List (List ℕ)) (es : List (Entry (List FrameData))) (i : ℕ) → AreRight k budget (Some []) lines es → i < length lines → is_accurate es i ≡ true → IsFromScratch k lines es i
  accurate-from_scratch lines es i h lt a =
      let line = slice_get-get_or lines i [] lt in
      let entry = slice_get-get_or es i (blank None) (omega (arith, length-right (Some []) lines es h)) in
      let a' : list_all (λ (x : Entry (List FrameData)). x.good) (take (suc i) es) ≡ true = rw add-one at a in
      (_, _, line, entry, holds-from [] lines es i _ _ h a' line entry)

-- right entries are accurate
pub AreAccurate-right : (k : Tokenizing) (budget : ℕ) (lines : List (List ℕ)) (es : List (Entry (List FrameData))) → AreRight k budget (Some []) lines es → AreAccurate k lines es
AreAccurate-right k budget lines es h = record {
  beside = length-right k budget (Some []) lines es h;
  accurate = λ i lt a. accurate-from_scratch k budget lines es i h lt a;
  settled = λ s i lt. accurate-from_scratch k budget lines es i h lt (good-settled (i + 1) es s);
}
