-- How many characters lines have.
use Rattle.std.proofs.Common.{◌≡◌, ℕ, suc, zero, ◌+◌, ◌-◌, ◌<◌, ◌≤◌, Bool, true, false, List, [], ◌∷◌, ◌++◌, length, take, drop, Some, refl, ap, ap₂, sym, ◌∙◌, arith, map, add-one}
use Rattle.std.specs.Prelude.{◌==◌, slice_get, All}
use Rattle.std.proofs.lemmas.List.{take-append-drop, length-append, take_more, map-append, take-map, drop-map}
use Rattle.std.proofs.lemmas.Option.{get_or_from_slice_get, slice_get_within}
use Rattle.tm_machine.specs.Changes.{HaveNoBreak, add_front, lines_after, lines_of, spliced, new_lines, lines_changed}
use Rattle.tm_defs.specs.declared.changes.Change.{Change}
use Rattle.tm_machine.specs.Places.{IsIn, line_at}
use Rattle.tm_machine.proofs.TextLines.{lines_some, HaveNoBreak-lines_after}
use Rattle.tm_text.specs.Texts.{size_of_lines, characters_of, IsText, IsSmall}

pub size-append : (a b : List (List ℕ)) → size_of_lines (a ++ b) ≡ size_of_lines a + size_of_lines b
size-append [] b = omega arith
size-append (line ∷ a) b = let ih = size-append a b in omega (arith, ih)

pub size-take-le : (i : ℕ) (lines : List (List ℕ)) → size_of_lines (take i lines) ≤ size_of_lines lines
size-take-le zero lines = omega arith
size-take-le (suc i) [] = omega arith
size-take-le (suc i) (line ∷ lines) = let ih = size-take-le i lines in omega (arith, ih)

size-take-more : (lines : List (List ℕ)) (i : ℕ) (line : List ℕ) → slice_get lines i ≡ Some line → size_of_lines (take (i + 1) lines) ≡ size_of_lines (take i lines) + (length line + 1)
size-take-more lines i line at =
    ap size_of_lines (take_more lines i line (slice_get_within lines i line at) ∙ ap (λ x. take i lines ++ x ∷ []) (get_or_from_slice_get lines i line line at))
    ∙ size-append (take i lines) (line ∷ []) ∙ omega arith

-- one more line is counted
pub size-next : (lines : List (List ℕ)) (i size : ℕ) (line : List ℕ) → slice_get lines i ≡ Some line → size ≡ size_of_lines (take i lines) → size + (length line + 1) ≡ size_of_lines (take (i + 1) lines)
size-next lines i size line at e = let s = size-take-more lines i line at in omega (arith, s, e)

-- and that is no more than all
pub size-within : (lines : List (List ℕ)) (i size : ℕ) (line : List ℕ) → slice_get lines i ≡ Some line → size ≡ size_of_lines (take i lines) → size + (length line + 1) ≤ size_of_lines lines
size-within lines i size line at e =
    let s = size-take-more lines i line at in
    let le = size-take-le (i + 1) lines in
    omega (arith, s, le, e)

size-add_front-some : (c : ℕ) (lines : List (List ℕ)) → 0 < length lines → size_of_lines (add_front c lines) ≡ suc (size_of_lines lines)
size-add_front-some c [] lt = absurd (omega arith)
size-add_front-some c (line ∷ lines) lt = omega arith

-- lines have no more characters and breaks than the text that they were made of
pub size-lines_after : (returned : Bool) (cs : List ℕ) → size_of_lines (lines_after returned cs) ≤ length cs + 1
size-lines_after returned [] = omega arith
size-lines_after returned (c ∷ cs) = go (c == 13) refl (c == 10) refl returned (size-lines_after true cs) (size-lines_after false cs) (size-add_front-some c (lines_after false cs) (lines_some false cs))
  where
    go : (a : Bool) → (c == 13) ≡ a → (b : Bool) → (c == 10) ≡ b → (r : Bool) → size_of_lines (lines_after true cs) ≤ length cs + 1 → size_of_lines (lines_after false cs) ≤ length cs + 1 →
        size_of_lines (add_front c (lines_after false cs)) ≡ suc (size_of_lines (lines_after false cs)) → size_of_lines (lines_after r (c ∷ cs)) ≤ length (c ∷ cs) + 1
    go true ea b eb r ht hf f = rw ea (omega (arith, ht))
    go false ea true eb true ht hf f = rw (ea, eb) (omega (arith, hf))
    go false ea true eb false ht hf f = rw (ea, eb) (omega (arith, hf))
    go false ea false eb r ht hf f = rw (ea, eb) (omega (arith, hf, f))

pub size-some : (lines : List (List ℕ)) → 0 < length lines → 0 < size_of_lines lines
size-some [] lt = absurd (omega arith)
size-some (line ∷ lines) lt = omega arith

pub length-le-size : (lines : List (List ℕ)) → length lines ≤ size_of_lines lines
length-le-size [] = omega arith
length-le-size (line ∷ lines) = let ih = length-le-size lines in omega (arith, ih)

all-short : (n : ℕ) (lines : List (List ℕ)) → size_of_lines lines ≤ n + 1 → All (λ line. length line ≤ n) lines
all-short n [] le i d lt = absurd (omega arith)
all-short n (line ∷ lines) le zero d lt = omega (arith, le)
all-short n (line ∷ lines) le (suc i) d lt = all-short n lines (omega (arith, le)) i d (omega (arith, lt))

pub text-size : (lines : List (List ℕ)) → IsText lines → size_of_lines lines ≤ 16777217
text-size lines t = let f = t.fits in omega (arith, f)

-- a text has few lines, and each is short
pub small-text : (lines : List (List ℕ)) → IsText lines → IsSmall lines
small-text lines t = record {
  few = let s = text-size lines t in let l = length-le-size lines in omega (arith, s, l);
  short = all-short 16777216 lines (let s = text-size lines t in omega (arith, s));
}

-- a range that is replaced
pub size-range : (first old : ℕ) (lines : List (List ℕ)) → size_of_lines (take old (drop first lines)) ≤ size_of_lines lines
size-range first old lines =
    let whole = size-append (take first lines) (drop first lines) in
    let e = ap size_of_lines (take-append-drop first lines) in
    let le = size-take-le old (drop first lines) in
    omega (arith, whole, e, le)

pub size-spliced : (first old : ℕ) (news lines : List (List ℕ)) → size_of_lines (spliced first old news lines) + size_of_lines (take old (drop first lines)) ≡ size_of_lines lines + size_of_lines news
size-spliced first old news lines =
    let a = size-append (take first lines) (news ++ drop old (drop first lines)) in
    let b = size-append news (drop old (drop first lines)) in
    let c = size-append (take first lines) (drop first lines) in
    let d = size-append (take old (drop first lines)) (drop old (drop first lines)) in
    let e = ap size_of_lines (take-append-drop first lines) in
    let f = ap size_of_lines (take-append-drop old (drop first lines)) in
    omega (arith, a, b, c, d, e, f)

-- the lines of a part are a part of the lines
pub part-is : {A B : Type 0} (f : A → B) (first old : ℕ) (xs : List A) → map f (take (first + old - first) (drop first xs)) ≡ take old (drop first (map f xs))
part-is f first old xs =
    ap (λ n. map f (take n (drop first xs))) (let e : first + old - first ≡ old = omega arith in e)
    ∙ sym (ap (take old) (drop-map f first xs) ∙ take-map f old (drop first xs))

pub map-spliced : {A B : Type 0} (f : A → B) (first old : ℕ) (news xs : List A) → map f (spliced first old news xs) ≡ spliced first old (map f news) (map f xs)
map-spliced f first old news xs =
    map-append f (take first xs) (news ++ drop old (drop first xs))
    ∙ ap₂ (λ a b. a ++ b) (sym (take-map f first xs)) (map-append f news (drop old (drop first xs)) ∙ ap (λ b. map f news ++ b) (sym (ap (drop old) (drop-map f first xs) ∙ drop-map f old (drop first xs))))

-- lines without a line break
no-break-append : (a b : List (List ℕ)) → HaveNoBreak a → HaveNoBreak b → HaveNoBreak (a ++ b)
no-break-append [] b h k = k
no-break-append (line ∷ a) b h k = (h.0, no-break-append a b h.1 k)

no-break-take : (n : ℕ) (lines : List (List ℕ)) → HaveNoBreak lines → HaveNoBreak (take n lines)
no-break-take zero lines h = tt
no-break-take (suc n) [] h = tt
no-break-take (suc n) (line ∷ lines) h = (h.0, no-break-take n lines h.1)

no-break-drop : (n : ℕ) (lines : List (List ℕ)) → HaveNoBreak lines → HaveNoBreak (drop n lines)
no-break-drop zero lines h = h
no-break-drop (suc n) [] h = tt
no-break-drop (suc n) (line ∷ lines) h = no-break-drop n lines h.1

some-spliced : (first old : ℕ) (news lines : List (List ℕ)) → 0 < length news → 0 < length (spliced first old news lines)
some-spliced first old news lines lt =
    let a = length-append (take first lines) (news ++ drop old (drop first lines)) in
    let b = length-append news (drop old (drop first lines)) in
    omega (arith, a, b, lt)

-- a text of which a range was replaced
pub text-spliced : (first old : ℕ) (news lines : List (List ℕ)) → IsText lines → 0 < length news → HaveNoBreak news → characters_of (spliced first old news lines) ≤ 16777216 → IsText (spliced first old news lines)
text-spliced first old news lines t lt h fits = record {
  some = some-spliced first old news lines lt;
  no_break = no-break-append (take first lines) (news ++ drop old (drop first lines)) (no-break-take first lines t.no_break) (no-break-append news (drop old (drop first lines)) h (no-break-drop old (drop first lines) (no-break-drop first lines t.no_break)));
  fits = fits;
}

-- the lines of characters
pub text-of-lines : (cs : List ℕ) → size_of_lines (lines_of cs) ≤ 16777217 → IsText (lines_of cs)
text-of-lines cs le = record {
  some = lines_some false cs;
  no_break = HaveNoBreak-lines_after false cs;
  fits = omega (arith, le);
}

-- how many characters there are where a range is replaced
pub size-after : (first old : ℕ) (news lines : List (List ℕ)) (size removed added : ℕ) → size ≡ size_of_lines lines → removed ≡ size_of_lines (take old (drop first lines)) → added ≡ size_of_lines news →
    (removed ≤ size) × (size - removed + added ≡ size_of_lines (spliced first old news lines))
size-after first old news lines size removed added es er ea =
    let s = size-spliced first old news lines in
    let r = size-range first old lines in
    (omega (arith, r, es, er), omega (arith, s, r, es, er, ea))

-- and by a change
pub size-changed : (lines : List (List ℕ)) (c : Change) (size removed added : ℕ) → size ≡ size_of_lines lines → removed ≡ size_of_lines (take (c.to_line - c.from_line + 1) (drop c.from_line lines)) → added ≡ size_of_lines (new_lines lines c) →
    (removed ≤ size) × (size - removed + added ≡ size_of_lines (lines_changed lines c))
size-changed lines c size removed added es er ea =
    let s = size-after c.from_line (c.to_line - c.from_line + 1) (new_lines lines c) lines size removed added es er ea in
    (s.0, s.1 ∙ ap (λ n. size_of_lines (spliced c.from_line n (new_lines lines c) lines)) (add-one (c.to_line - c.from_line)))

pub range-in : (lines : List (List ℕ)) (c : Change) → IsIn lines c → c.from_line + suc (c.to_line - c.from_line) ≤ length lines
range-in lines c h = omega (arith, h.last, h.lines_in_order)

pub new-lines-are : (lines : List (List ℕ)) (c : Change) → HaveNoBreak (new_lines lines c) × (1 ≤ length (new_lines lines c))
new-lines-are lines c =
    let cs : List ℕ = take c.from_col (line_at lines c.from_line) ++ (c.text ++ drop c.to_col (line_at lines c.to_line)) in
    (HaveNoBreak-lines_after false cs, lines_some false cs)
