-- One piece more: what the loops over a text's pieces keep.
use Rattle.std.proofs.Common.{◌≡◌, ℕ, ◌+◌, ◌-◌, ◌<◌, ◌≤◌, List, ◌∷◌, ◌++◌, length, take, drop, get_or, Option, Some, None, refl, sym, ap, ◌∙◌, subst, arith, append_assoc, append-nil}
use Rattle.std.specs.Prelude.{flat_map, slice_get}
use Rattle.std.proofs.lemmas.List.{take_all, drop_all, drop_more, drop-drop, length-drop, length-append}
use Rattle.std.proofs.lemmas.Option.{slice_get_read, get_or_from_slice_get}
use Rattle.std.proofs.Math.Seq.{take-append_seam}
use Rattle.tm_onig_search.specs.Find.{AreWithin}
use Rattle.tm_onig_search.specs.Outcomes.{Caps}
use Rattle.tm_template.specs.References.{Reference, Piece, Form, piece_text, piece_or, pieces_behind, pieces}
use Rattle.tm_template.specs.Captured.{IsSpanWithin}
use Rattle.tm_template.proofs.Forms.{IsForm}
use Rattle.tm_template.proofs.Pieces.{pieces-front, piece_some, piece_whole}

-- the character that was read, whatever stands for one past the end
pub char_read : (t : List ℕ) (i c : ℕ) → i < length t → c ≡ get_or t i c → get_or t i 0 ≡ c
char_read t i c lt is = get_or_from_slice_get t i c 0 (slice_get_read t (length t) i c refl lt is)

-- a reference's spelling is the front of the text
pub spelling_front : (form : Form) → IsForm form → (t : List ℕ) (r : Reference) → form.at t ≡ Some r → take (length (form.spelling r)) t ≡ form.spelling r
spelling_front form is t r e =
    let f = is.found t r e in
    ap (λ u. take (length (form.spelling r)) u) f.whole ∙ take-append_seam (form.spelling r) f.rest

-- what is known of every group is known of one
pub span_within : (n : ℕ) (caps : Caps) (k : ℕ) (o : Option (Option (ℕ × ℕ))) → AreWithin n caps → slice_get caps k ≡ o → IsSpanWithin n o
span_within n caps k None all e = tt
span_within n caps k (Some None) all e = tt
span_within n caps k (Some (Some span)) all e = all k span.0 span.1 e

-- the slice from a place on
pub tail_slice : {X : Type 0} (t : List X) (at : ℕ) → take (length t - at) (drop at t) ≡ drop at t
tail_slice t at = let long = length-drop at t in take_all (length t - at) (drop at t) (omega (arith, long))

-- at the end of the text nothing is left
pub given_end : (form : Form) (give : Piece → List ℕ) (text out : List ℕ) (at : ℕ) → length text ≤ at → out ≡ out ++ flat_map give (pieces form (drop at text))
unfolding pieces_behind
given_end form give text out at le = rw (drop_all at text le) (sym (append-nil out))

module _ (form : Form) (is : IsForm form) (give : Piece → List ℕ) where
  -- the piece at a place of a text, where this character stands
  abbrev pub piece_here : List ℕ → ℕ → ℕ → Piece
  piece_here text at c = piece_or c (form.at (drop at text))

  -- how far the next piece is
  abbrev pub width_here : List ℕ → ℕ → ℕ → ℕ
  width_here text at c = length (piece_text form (piece_here text at c))

  rest_here : (text : List ℕ) (at c : ℕ) → at < length text → c ≡ get_or text at c → drop at text ≡ c ∷ drop (at + 1) text
  rest_here text at c lt read = drop_more text at c lt ∙ ap (λ x. x ∷ drop (at + 1) text) (sym read)

  pub within_text : (text : List ℕ) (at c : ℕ) → at < length text → c ≡ get_or text at c → at + width_here text at c ≤ length text
  within_text text at c lt read =
      let e = rest_here text at c lt read in
      let u = drop at text in
      let o = form.at u in
      let whole : piece_text form (piece_or c o) ++ drop (length (piece_text form (piece_or c o))) (c ∷ drop (at + 1) text) ≡ c ∷ drop (at + 1) text =
      piece_whole form is c (drop (at + 1) text) o (ap form.at (sym e)) in
      let sum = ap length whole in
      let parts = length-append (piece_text form (piece_or c o)) (drop (length (piece_text form (piece_or c o))) (c ∷ drop (at + 1) text)) in
      let long = ap length e in
      let left = length-drop at text in
      omega (arith, sum, parts, long, left, lt)

  pub width_some : (text : List ℕ) (at c : ℕ) → 0 < width_here text at c
  width_some text at c = piece_some form is c (form.at (drop at text))

  -- what the pieces from a place on give
  abbrev pub given_from : List ℕ → ℕ → List ℕ
  given_from text at = flat_map give (pieces form (drop at text))

  front_of : (u : List ℕ) (c : ℕ) (t : List ℕ) → u ≡ c ∷ t → pieces form u ≡ piece_or c (form.at u) ∷ pieces form (drop (length (piece_text form (piece_or c (form.at u)))) u)
  front_of u c t e = subst (λ v. pieces form v ≡ piece_or c (form.at v) ∷ pieces form (drop (length (piece_text form (piece_or c (form.at v)))) v)) (sym e) (pieces-front form is c t)

  pub given_next : (text : List ℕ) (at c : ℕ) → at < length text → c ≡ get_or text at c →
      given_from text at ≡ give (piece_here text at c) ++ given_from text (at + width_here text at c)
  given_next text at c lt read =
      ap (flat_map give) (front_of (drop at text) c (drop (at + 1) text) (rest_here text at c lt read))
      ∙ ap (λ v. give (piece_here text at c) ++ flat_map give (pieces form v)) (drop-drop (width_here text at c) at text)

  -- what was given, and what is left to give, are the same with one piece more
  pub given_more : (text old new : List ℕ) (at c w : ℕ) → at < length text → c ≡ get_or text at c → w ≡ width_here text at c → new ≡ old ++ give (piece_here text at c) →
      new ++ given_from text (at + w) ≡ old ++ given_from text at
  given_more text old new at c w lt read width added =
      ap (λ k. new ++ given_from text (at + k)) width
      ∙ ap (λ u. u ++ given_from text (at + width_here text at c)) added
      ∙ append_assoc old (give (piece_here text at c)) (given_from text (at + width_here text at c))
      ∙ ap (λ u. old ++ u) (sym (given_next text at c lt read))
