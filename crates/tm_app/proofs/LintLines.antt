-- The lines of a list of patterns, one more.
use Rattle.std.proofs.Common.{◌≡◌, ℕ, ◌+◌, ◌<◌, List, ◌∷◌, ◌++◌, length, drop, get_or, flat_map, ap, sym, ◌∙◌, append_assoc}
use Rattle.std.proofs.lemmas.List.{at_drop_more}
use Rattle.tm_line.specs.Setting.{Setting}
use Rattle.tm_line_lint.specs.Unread.{unread_in}
use Rattle.tm_line_lint.specs.declared.Unread.{Unread}
use Rattle.tm_app.specs.Lint.{unread_text, unread_texts, lint_from, lint_text}

-- what is written so far, one line, and the rest
pub unread-parts : (number : ℕ) (all : List Unread) (i : ℕ) (u : Unread) (bytes line : List ℕ) → i < length all → u ≡ get_or all i u → line ≡ unread_text number u →
    bytes ++ unread_texts number (drop i all) ≡ unread_texts number all → bytes ++ (line ++ unread_texts number (drop (i + 1) all)) ≡ unread_texts number all
unread-parts number all i u bytes line lt at is h =
    let split : drop i all ≡ u ∷ drop (i + 1) all = at_drop_more (λ l. l) all i u lt ∙ ap (λ x. x ∷ drop (i + 1) all) (sym at) in
    ap (λ l. bytes ++ (l ++ unread_texts number (drop (i + 1) all))) is ∙ ap (λ l. bytes ++ unread_texts number l) (sym split) ∙ h

pub unread-next : (number : ℕ) (all : List Unread) (i : ℕ) (u : Unread) (bytes line : List ℕ) → i < length all → u ≡ get_or all i u → line ≡ unread_text number u →
    bytes ++ unread_texts number (drop i all) ≡ unread_texts number all → (bytes ++ line) ++ unread_texts number (drop (i + 1) all) ≡ unread_texts number all
unread-next number all i u bytes line lt at is h = append_assoc bytes line (unread_texts number (drop (i + 1) all)) ∙ unread-parts number all i u bytes line lt at is h

-- the same of settings
pub lint-parts : (all : List Setting) (i : ℕ) (s : Setting) (bytes lines : List ℕ) → i < length all → s ≡ get_or all i s → lines ≡ unread_texts i (flat_map unread_in s.rules) →
    bytes ++ lint_from i (drop i all) ≡ lint_text all → bytes ++ (lines ++ lint_from (i + 1) (drop (i + 1) all)) ≡ lint_text all
lint-parts all i s bytes lines lt at is h =
    let split : drop i all ≡ s ∷ drop (i + 1) all = at_drop_more (λ l. l) all i s lt ∙ ap (λ x. x ∷ drop (i + 1) all) (sym at) in
    ap (λ l. bytes ++ (l ++ lint_from (i + 1) (drop (i + 1) all))) is ∙ ap (λ l. bytes ++ lint_from i l) (sym split) ∙ h

pub lint-next : (all : List Setting) (i : ℕ) (s : Setting) (bytes lines : List ℕ) → i < length all → s ≡ get_or all i s → lines ≡ unread_texts i (flat_map unread_in s.rules) →
    bytes ++ lint_from i (drop i all) ≡ lint_text all → (bytes ++ lines) ++ lint_from (i + 1) (drop (i + 1) all) ≡ lint_text all
lint-next all i s bytes lines lt at is h = append_assoc bytes lines (lint_from (i + 1) (drop (i + 1) all)) ∙ lint-parts all i s bytes lines lt at is h
