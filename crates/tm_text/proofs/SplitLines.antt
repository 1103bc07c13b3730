-- Lines split character by character are the lines of the text.
use Rattle.std.proofs.Common.{◌≡◌, ◌≢◌, ℕ, suc, ◌+◌, ◌-◌, ◌<◌, ◌≤◌, Bool, true, false, not, None, List, [], ◌∷◌, ◌++◌, length, take, drop, get_or, refl, ap, sym, ◌∙◌, arith, append_assoc}
use Rattle.std.specs.Prelude.{◌==◌, ◌||◌, position}
use Rattle.std.specs.List.{prefix_len}
use Rattle.std.proofs.Math.Seq.{take-add}
use Rattle.std.proofs.lemmas.Bool.Decides.{nat_tests}
use Rattle.std.proofs.lemmas.List.Sums.{prefix_len-le-length}
use Rattle.std.proofs.lemmas.List.{append-nil, take_all, length-drop}
use Rattle.tm_machine.specs.Changes.{add_front, lines_after, lines_of, HasNoBreak}
use Rattle.tm_machine.proofs.TextLines.{lines_some}
use Rattle.tm_text.specs.Split.{Split, onto_first, lines_with, Takes}

abbrev pub split_of : List (List ℕ) → List ℕ → Bool → Split
split_of lines current returned = record { lines = lines; current = current; returned = returned }

onto-nil : (lines : List (List ℕ)) → 1 ≤ length lines → onto_first [] lines ≡ lines
onto-nil [] h = absurd (omega arith)
onto-nil (line ∷ lines) h = refl

-- an ended line, and what follows
ended : (lines : List (List ℕ)) (current : List ℕ) (returned : Bool) (rest : List ℕ) →
    (lines ++ current ∷ []) ++ onto_first [] (lines_after returned rest) ≡ lines ++ onto_first current ([] ∷ lines_after returned rest)
ended lines current returned rest =
    ap (λ ls. (lines ++ current ∷ []) ++ ls) (onto-nil (lines_after returned rest) (lines_some returned rest))
    ∙ append_assoc lines (current ∷ []) (lines_after returned rest)
    ∙ ap (λ x. lines ++ x ∷ lines_after returned rest) (sym (append-nil current))

-- `\r` ends a line
pub takes-return : (lines more : List (List ℕ)) (current left : List ℕ) (returned : Bool) (c : ℕ) → c ≡ 13 → more ≡ lines ++ current ∷ [] → left ≡ [] →
    Takes (split_of lines current returned) (c ∷ []) (split_of more left true)
takes-return lines more current left returned c is e h = λ rest. rw (is, e, h) (ended lines current true rest)

-- `\n` that is not behind `\r` ends one
pub takes-break : (lines more : List (List ℕ)) (current left : List ℕ) (returned : Bool) (c : ℕ) → c ≡ 10 → returned ≡ false → more ≡ lines ++ current ∷ [] → left ≡ [] →
    Takes (split_of lines current returned) (c ∷ []) (split_of more left false)
takes-break lines more current left returned c is not e h = λ rest. rw (is, not, e, h) (ended lines current false rest)

-- one text behind another
pub takes-append : (s t u : Split) (xs ys : List ℕ) → Takes s xs t → Takes t ys u → Takes s (xs ++ ys) u
takes-append s t u xs ys h k = λ rest. k rest ∙ h (ys ++ rest) ∙ ap (lines_with s) (sym (append_assoc xs ys rest))

-- the last line is ended where the text ends
pub lines-joined : (s t u v : Split) (front text rest : List ℕ) (all : List (List ℕ)) → s.lines ≡ [] → s.current ≡ [] → s.returned ≡ false →
    Takes s front t → Takes t text u → Takes u rest v → all ≡ v.lines ++ v.current ∷ [] → all ≡ lines_of (front ++ (text ++ rest))
lines-joined s t u v front text rest all a b c h k l e =
    let whole = front ++ (text ++ rest) in
    let start : lines_with s whole ≡ lines_of whole =
    ap (λ ls. ls ++ onto_first s.current (lines_after s.returned whole)) a ∙ ap (λ x. onto_first x (lines_after s.returned whole)) b
    ∙ ap (λ r. onto_first [] (lines_after r whole)) c ∙ onto-nil (lines_of whole) (lines_some false whole) in
    e ∙ ap (λ x. v.lines ++ x ∷ []) (sym (append-nil v.current)) ∙ l [] ∙ ap (lines_with u) (append-nil rest) ∙ k rest ∙ h (text ++ rest) ∙ start

onto-front : (current : List ℕ) (c : ℕ) (lines : List (List ℕ)) → onto_first (current ++ c ∷ []) lines ≡ onto_first current (add_front c lines)
onto-front current c [] = refl
onto-front current c (line ∷ lines) = ap (λ x. x ∷ lines) (append_assoc current (c ∷ []) line)

-- a character that is no line break
takes-one : (lines : List (List ℕ)) (current : List ℕ) (returned : Bool) (c : ℕ) → c ≢ 13 → c ≢ 10 → Takes (split_of lines current returned) (c ∷ []) (split_of lines (current ++ c ∷ []) false)
takes-one lines current returned c a b = λ rest.
    let e : (c == 13) ≡ false = grind (arith, nat_tests, a) in
    let f : (c == 10) ≡ false = grind (arith, nat_tests, b) in
    rw (e, f) (ap (λ ls. lines ++ ls) (onto-front current c (lines_after false rest)))

-- and so a run of them
takes-run-of : (lines : List (List ℕ)) (current : List ℕ) (returned : Bool) (run : List ℕ) → 0 < length run → HasNoBreak run → Takes (split_of lines current returned) run (split_of lines (current ++ run) false)
takes-run-of lines current returned [] lt h = absurd (omega arith)
takes-run-of lines current returned (c ∷ []) lt h = takes-one lines current returned c h.0 h.1
takes-run-of lines current returned (c ∷ (d ∷ run)) lt h = λ rest.
    ap (λ x. lines_with (split_of lines x false) rest) (sym (append_assoc current (c ∷ []) (d ∷ run)))
    ∙ takes-append (split_of lines current returned) (split_of lines (current ++ c ∷ []) false) (split_of lines ((current ++ c ∷ []) ++ (d ∷ run)) false) (c ∷ []) (d ∷ run)
    (takes-one lines current returned c h.0 h.1) (takes-run-of lines (current ++ c ∷ []) false (d ∷ run) (omega arith) h.2) rest

pub takes-run : (lines : List (List ℕ)) (current now : List ℕ) (returned : Bool) (run : List ℕ) → now ≡ current ++ run → 0 < length run → HasNoBreak run → Takes (split_of lines current returned) run (split_of lines now false)
takes-run lines current now returned run e lt h = λ rest. ap (λ x. lines_with (split_of lines x false) rest) e ∙ takes-run-of lines current returned run lt h rest

one-more : (n : ℕ) → 1 + n ≡ suc n
one-more n = omega arith

pub run-no-break : (xs : List ℕ) → HasNoBreak (take (prefix_len (λ c. not ((c == 13) || (c == 10))) xs) xs)
run-no-break [] = tt
run-no-break (x ∷ xs) = go (x == 13) refl (x == 10) refl (run-no-break xs)
  where
    go : (a : Bool) → (x == 13) ≡ a → (b : Bool) → (x == 10) ≡ b → HasNoBreak (take (prefix_len (λ c. not ((c == 13) || (c == 10))) xs) xs) → HasNoBreak (take (prefix_len (λ c. not ((c == 13) || (c == 10))) (x ∷ xs)) (x ∷ xs))
    go true ea b eb ih = rw ea tt
    go false ea true eb ih = rw (ea, eb) tt
    go false ea false eb ih = rw (ea, eb, one-more (prefix_len (λ c. not ((c == 13) || (c == 10))) xs)) (grind (arith, nat_tests), grind (arith, nat_tests), ih)

pub no-break-none : (text : List ℕ) → position (λ c. (c == 13) || (c == 10)) text ≡ None → length text ≡ prefix_len (λ c. not ((c == 13) || (c == 10))) text
no-break-none text h =
    let le = prefix_len-le-length (λ c. not ((c == 13) || (c == 10))) text in
    grind (arith, nat_tests)

pub take-first : (xs : List ℕ) (d : ℕ) → 0 < length xs → get_or xs 0 d ∷ [] ≡ take 1 xs
take-first [] d lt = absurd (omega arith)
take-first (x ∷ xs) d lt = refl

-- the characters up to the next place
pub takes-next : (s t u : Split) (text part : List ℕ) (at count : ℕ) → at ≤ length text → part ≡ take (length text - at) (drop at text) → Takes s (take at text) t → Takes t (take count part) u → Takes s (take (at + count) text) u
takes-next s t u text part at count le e h k = λ rest.
    takes-append s t u (take at text) (take count part) h k rest
    ∙ ap (λ x. lines_with s (x ++ rest)) (ap (λ x. take at text ++ take count x) (e ∙ take_all (length text - at) (drop at text) (let l = length-drop at text in omega (arith, l))) ∙ sym (take-add at count text))

pub takes-whole : (s t : Split) (text : List ℕ) (at : ℕ) → length text ≤ at → Takes s (take at text) t → Takes s text t
takes-whole s t text at le h = λ rest. h rest ∙ ap (λ x. lines_with s (x ++ rest)) (take_all at text le)

pub part-length : (text : List ℕ) (at : ℕ) → length (take (length text - at) (drop at text)) ≡ length text - at
part-length text at = let l = length-drop at text in ap length (take_all (length text - at) (drop at text) (omega (arith, l))) ∙ l
