-- The pieces of a text.
use Rattle.std.proofs.Common.{◌≡◌, ℕ, zero, suc, ◌-◌, ◌<◌, List, [], ◌∷◌, ◌++◌, length, drop, Option, Some, None, refl, sym, ap, ◌∙◌, subst, arith}
use Rattle.std.proofs.Math.Seq.{drop-append_seam}
use Rattle.tm_template.specs.References.{Reference, Piece, Plain, Refers, Form, piece_text, piece_or, pieces_behind, pieces}
use Rattle.tm_template.specs.Laws.{StandsBefore, BeginsNone, AreRead, spelled}
use Rattle.tm_template.proofs.Forms.{IsForm}

-- characters are passed over
pub pieces_behind-drop : (form : Form) (k : ℕ) (t : List ℕ) → pieces_behind form k t ≡ pieces form (drop k t)
unfolding pieces_behind
pieces_behind-drop form zero [] = refl
pieces_behind-drop form zero (c ∷ t) = refl
pieces_behind-drop form (suc k) [] = refl
pieces_behind-drop form (suc k) (c ∷ t) = pieces_behind-drop form k t

-- one character less of the text, and of what is passed over
pub drop_front : (s : List ℕ) (c : ℕ) (t : List ℕ) → 0 < length s → drop (length s - 1) t ≡ drop (length s) (c ∷ t)
drop_front [] c t some = absurd (omega (arith, some))
drop_front (x ∷ s) c t some = ap (λ k. drop k t) (less s)
  where
    less : (s : List ℕ) → length (x ∷ s) - 1 ≡ length s
    less s = omega arith

pub piece_some : (form : Form) → IsForm form → (c : ℕ) (o : Option Reference) → 0 < length (piece_text form (piece_or c o))
piece_some form is c None = omega arith
piece_some form is c (Some r) = is.some r

-- the piece at the front, and those behind it
pub pieces-front : (form : Form) → IsForm form → (c : ℕ) (t : List ℕ) →
    let piece = piece_or c (form.at (c ∷ t)) in pieces form (c ∷ t) ≡ piece ∷ pieces form (drop (length (piece_text form piece)) (c ∷ t))
unfolding pieces_behind
pieces-front form is c t =
    let piece = piece_or c (form.at (c ∷ t)) in
    ap (λ ps. piece ∷ ps) (pieces_behind-drop form (length (piece_text form piece) - 1) t ∙ ap (λ u. pieces form u) (drop_front (piece_text form piece) c t (piece_some form is c (form.at (c ∷ t)))))

-- a piece is spelled at the front of the text
pub piece_whole : (form : Form) → IsForm form → (c : ℕ) (t : List ℕ) (o : Option Reference) → form.at (c ∷ t) ≡ o →
    piece_text form (piece_or c o) ++ drop (length (piece_text form (piece_or c o))) (c ∷ t) ≡ c ∷ t
piece_whole form is c t None e = refl
piece_whole form is c t (Some r) e =
    let f = is.found (c ∷ t) r e in
    rw (f.whole) (ap (λ u. form.spelling r ++ u) (drop-append_seam (form.spelling r) f.rest))

-- the pieces behind k characters are spelled as these characters' rest
pub spelled_behind : (form : Form) → IsForm form → (k : ℕ) (t : List ℕ) → spelled form (pieces_behind form k t) ≡ drop k t
unfolding pieces_behind
spelled_behind form is zero [] = refl
spelled_behind form is (suc k) [] = refl
spelled_behind form is (suc k) (c ∷ t) = spelled_behind form is k t
spelled_behind form is zero (c ∷ t) =
    let o = form.at (c ∷ t) in
    let text = piece_text form (piece_or c o) in
    ap (λ u. text ++ u) (spelled_behind form is (length text - 1) t ∙ drop_front text c t (piece_some form is c o)) ∙ piece_whole form is c t o refl

read_front : (form : Form) → IsForm form → (c : ℕ) (t : List ℕ) (o : Option Reference) → form.at (c ∷ t) ≡ o → (ps : List Piece) →
    spelled form ps ≡ drop (length (piece_text form (piece_or c o))) (c ∷ t) → AreRead form ps → AreRead form (piece_or c o ∷ ps)
read_front form is c t None e ps rest are = (λ r u digits same. is.one r u digits (ap form.at (sym same ∙ ap (λ v. c ∷ v) rest) ∙ e), are)
read_front form is c t (Some r) e ps rest are =
    let f = is.found (c ∷ t) r e in
    let behind : spelled form ps ≡ f.rest = rest ∙ ap (λ u. drop (length (form.spelling r)) u) f.whole ∙ drop-append_seam (form.spelling r) f.rest in
    (subst (StandsBefore form r) (sym behind) f.stands, are)

-- the pieces are read as they should be
pub read_behind : (form : Form) → IsForm form → (k : ℕ) (t : List ℕ) → AreRead form (pieces_behind form k t)
unfolding pieces_behind
read_behind form is zero [] = tt
read_behind form is (suc k) [] = tt
read_behind form is (suc k) (c ∷ t) = read_behind form is k t
read_behind form is zero (c ∷ t) =
    let o = form.at (c ∷ t) in
    let text = piece_text form (piece_or c o) in
    read_front form is c t o refl (pieces_behind form (length text - 1) t)
    (spelled_behind form is (length text - 1) t ∙ drop_front text c t (piece_some form is c o))
    (read_behind form is (length text - 1) t)

-- where a character stands for itself, no reference is found
none_found : (form : Form) → IsForm form → (t : List ℕ) (o : Option Reference) → form.at t ≡ o → BeginsNone form t → o ≡ None
none_found form is t None e none = refl
none_found form is t (Some r) e none = let f = is.found t r e in absurd (none r f.rest f.stands.digits f.whole)

pub pieces_plain : (form : Form) → IsForm form → (c : ℕ) (t : List ℕ) → form.at (c ∷ t) ≡ None → pieces form (c ∷ t) ≡ Plain c ∷ pieces form t
pieces_plain form is c t e = pieces-front form is c t ∙ rw e refl

pieces_refers : (form : Form) → IsForm form → (r : Reference) (s rest : List ℕ) → form.spelling r ≡ s → form.at (s ++ rest) ≡ Some r → pieces form (s ++ rest) ≡ Refers r ∷ pieces form rest
pieces_refers form is r [] rest same e = absurd (omega (arith, is.some r, ap length same))
pieces_refers form is r (c ∷ s) rest same e =
    pieces-front form is c (s ++ rest) ∙ rw (e, same) (ap (λ u. Refers r ∷ pieces form u) (drop-append_seam (c ∷ s) rest))

-- pieces that are as they should be are those that are read
pub pieces_again : (form : Form) → IsForm form → (ps : List Piece) → AreRead form ps → pieces form (spelled form ps) ≡ ps
unfolding pieces_behind
pieces_again form is [] are = refl
pieces_again form is (Plain c ∷ ps) are =
    let t = spelled form ps in
    pieces_plain form is c t (none_found form is (c ∷ t) (form.at (c ∷ t)) refl are.0) ∙ ap (λ qs. Plain c ∷ qs) (pieces_again form is ps are.1)
pieces_again form is (Refers r ∷ ps) are =
    pieces_refers form is r (form.spelling r) (spelled form ps) refl (is.again r (spelled form ps) are.0) ∙ ap (λ qs. Refers r ∷ qs) (pieces_again form is ps are.1)
