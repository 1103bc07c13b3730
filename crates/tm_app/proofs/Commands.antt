-- The words of a command.
use Rattle.std.proofs.Common.{◌≡◌, ℕ, ◌<◌, ◌≤◌, List, [], ◌∷◌, refl, ap, ◌∙◌, sym, map, length, get_or, arith, true, false}
use Rattle.std.proofs.lemmas.List.{length-map}
use Rattle.std.proofs.lemmas.Slice.Eq.{bytes_eq-Decides}
use Rattle.std.specs.Str.{bytes_eq}
use Rattle.std.specs.Prelude.{string_bytes, String, codes, Option, Some, None}
use Rattle.std.specs.declared.alloc.Global.{Global}
use Rattle.tm_app.specs.Command.{Names, Command, Lint, Run, lint_words, run_words, IsCommand}

-- a list of four by its members
pub four : {X : Type 0} (xs : List X) (a b c d : X) → 4 ≤ length xs → length xs < 5 → a ≡ get_or xs 0 a → b ≡ get_or xs 1 b → c ≡ get_or xs 2 c → d ≡ get_or xs 3 d → xs ≡ a ∷ b ∷ c ∷ d ∷ []
four [] a b c d h k ea eb ec ed = absurd (omega (arith, h))
four (x ∷ []) a b c d h k ea eb ec ed = absurd (omega (arith, h))
four (x ∷ y ∷ []) a b c d h k ea eb ec ed = absurd (omega (arith, h))
four (x ∷ y ∷ z ∷ []) a b c d h k ea eb ec ed = absurd (omega (arith, h))
four (x ∷ y ∷ z ∷ w ∷ []) a b c d h k ea eb ec ed = cc
four (x ∷ y ∷ z ∷ w ∷ v ∷ vs) a b c d h k ea eb ec ed = absurd (omega (arith, k))

pub same-text : (a b c : List ℕ) → a ≡ b → true ≡ bytes_eq a c → b ≡ c
same-text a b c e h = sym e ∙ (bytes_eq-Decides a c).0 (sym h)

pub other-text : (a b c : List ℕ) → a ≡ b → false ≡ bytes_eq a c → ¬ (b ≡ c)
other-text a b c e h k = let t : bytes_eq a c ≡ true = (bytes_eq-Decides a c).1 (e ∙ k) in let u : false ≡ true = h ∙ t in cc

-- four words that begin with this one
pub words-are : (words : List (String Global)) (a b c d : String Global) (first x y z : List ℕ) → 4 ≤ length words → length words < 5 →
    a ≡ get_or words 0 a → b ≡ get_or words 1 b → c ≡ get_or words 2 c → d ≡ get_or words 3 d → string_bytes a ≡ first → x ≡ string_bytes b → y ≡ string_bytes c → z ≡ string_bytes d →
    map string_bytes words ≡ first ∷ x ∷ y ∷ z ∷ []
words-are words a b c d first x y z h k ea eb ec ed fa fx fy fz = let e = four words a b c d h k ea eb ec ed in ap (map string_bytes) e ∙ cc

-- a list of three by its members
pub three : {X : Type 0} (xs : List X) (a b c : X) → 3 ≤ length xs → length xs < 4 → a ≡ get_or xs 0 a → b ≡ get_or xs 1 b → c ≡ get_or xs 2 c → xs ≡ a ∷ b ∷ c ∷ []
three [] a b c h k ea eb ec = absurd (omega (arith, h))
three (x ∷ []) a b c h k ea eb ec = absurd (omega (arith, h))
three (x ∷ y ∷ []) a b c h k ea eb ec = absurd (omega (arith, h))
three (x ∷ y ∷ z ∷ []) a b c h k ea eb ec = cc
three (x ∷ y ∷ z ∷ w ∷ ws) a b c h k ea eb ec = absurd (omega (arith, k))

-- three words that begin with this one
pub three-words-are : (words : List (String Global)) (a b c : String Global) (first x y : List ℕ) → 3 ≤ length words → length words < 4 →
    a ≡ get_or words 0 a → b ≡ get_or words 1 b → c ≡ get_or words 2 c → string_bytes a ≡ first → x ≡ string_bytes b → y ≡ string_bytes c →
    map string_bytes words ≡ first ∷ x ∷ y ∷ []
three-words-are words a b c first x y h k ea eb ec fa fx fy = let e = three words a b c h k ea eb ec in ap (map string_bytes) e ∙ cc

-- a list of two by its members
pub two : {X : Type 0} (xs : List X) (a b : X) → 2 ≤ length xs → length xs < 3 → a ≡ get_or xs 0 a → b ≡ get_or xs 1 b → xs ≡ a ∷ b ∷ []
two [] a b h k ea eb = absurd (omega (arith, h))
two (x ∷ []) a b h k ea eb = absurd (omega (arith, h))
two (x ∷ y ∷ []) a b h k ea eb = cc
two (x ∷ y ∷ z ∷ zs) a b h k ea eb = absurd (omega (arith, k))

-- two words that begin with this one
pub two-words-are : (words : List (String Global)) (a b : String Global) (first x : List ℕ) → 2 ≤ length words → length words < 3 →
    a ≡ get_or words 0 a → b ≡ get_or words 1 b → string_bytes a ≡ first → x ≡ string_bytes b → map string_bytes words ≡ first ∷ x ∷ []
two-words-are words a b first x h k ea eb fa fx = let e = two words a b h k ea eb in ap (map string_bytes) e ∙ cc

-- two words that do not begin with `lint`
pub not-lint : (words : List (String Global)) (a b : String Global) (settings : List ℕ) → 2 ≤ length words → length words < 3 →
    a ≡ get_or words 0 a → b ≡ get_or words 1 b → ¬ (string_bytes a ≡ codes "lint") → ¬ (map string_bytes words ≡ lint_words settings)
not-lint words a b settings h k ea eb other is =
    let e = two words a b h k ea eb in
    let same : (string_bytes a ∷ string_bytes b ∷ []) ≡ lint_words settings = sym (ap (map string_bytes) e) ∙ is in
    other cc

-- `lint` has two words
pub not-two : (words : List (String Global)) (settings : List ℕ) → ¬ (length words ≡ 2) → ¬ (map string_bytes words ≡ lint_words settings)
not-two words settings two is = two (sym (length-map words string_bytes) ∙ ap length is)

-- four words that do not begin with `replay`
pub not-replay : (words : List (String Global)) (a b c d : String Global) (names : Names) → 4 ≤ length words → length words < 5 →
    a ≡ get_or words 0 a → b ≡ get_or words 1 b → c ≡ get_or words 2 c → d ≡ get_or words 3 d → ¬ (string_bytes a ≡ codes "replay") → ¬ (IsCommand (map string_bytes words) (Run names))
not-replay words a b c d names h k ea eb ec ed other is =
    let e = four words a b c d h k ea eb ec ed in
    go names.script (sym (ap (map string_bytes) e) ∙ is)
  where
    go : (script : Option (List ℕ)) → (string_bytes a ∷ string_bytes b ∷ string_bytes c ∷ string_bytes d ∷ []) ≡ run_words names.settings names.text script → ⊥
    go None same = absurd cc
    go (Some script) same = other cc

-- three words that do not begin with `scan`
pub not-scan : (words : List (String Global)) (a b c : String Global) (names : Names) → 3 ≤ length words → length words < 4 →
    a ≡ get_or words 0 a → b ≡ get_or words 1 b → c ≡ get_or words 2 c → ¬ (string_bytes a ≡ codes "scan") → ¬ (IsCommand (map string_bytes words) (Run names))
not-scan words a b c names h k ea eb ec other is =
    let e = three words a b c h k ea eb ec in
    go names.script (sym (ap (map string_bytes) e) ∙ is)
  where
    go : (script : Option (List ℕ)) → (string_bytes a ∷ string_bytes b ∷ string_bytes c ∷ []) ≡ run_words names.settings names.text script → ⊥
    go None same = other cc
    go (Some script) same = absurd cc

-- a command over a text has three or four words
pub not-so-many : (words : List (String Global)) (names : Names) → ¬ (length words ≡ 3) → ¬ (length words ≡ 4) → ¬ (IsCommand (map string_bytes words) (Run names))
not-so-many words names three four is = go names.script (sym (length-map words string_bytes) ∙ ap length is)
  where
    go : (script : Option (List ℕ)) → length words ≡ length (run_words names.settings names.text script) → ⊥
    go None same = three same
    go (Some script) same = four same

-- words of neither kind are no command
pub no-command : (words : List (List ℕ)) → ((settings : List ℕ) → ¬ (words ≡ lint_words settings)) → ((names : Names) → ¬ (IsCommand words (Run names))) → (command : Command) → ¬ (IsCommand words command)
no-command words f g (Lint settings) is = f settings is
no-command words f g (Run names) is = g names is

-- ---- words are those of one command

names-as : (s s2 t t2 : List ℕ) (c c2 : Option (List ℕ)) → run_words s t c ≡ run_words s2 t2 c2 → (s ≡ s2) × (t ≡ t2) × (c ≡ c2)
names-as s s2 t t2 None None e = (cc, cc, refl)
names-as s s2 t t2 None (Some c2) e = absurd cc
names-as s s2 t t2 (Some c) None e = absurd cc
names-as s s2 t t2 (Some c) (Some c2) e = (cc, cc, let same : c ≡ c2 = cc in ap Some same)

abbrev mk-names : List ℕ → List ℕ → Option (List ℕ) → Names
mk-names s t c = record { settings = s; text = t; script = c }

names-same : (m n : Names) → run_words m.settings m.text m.script ≡ run_words n.settings n.text n.script → m ≡ n
names-same m n e =
    let h = names-as m.settings n.settings m.text n.text m.script n.script e in
    ap (λ s. mk-names s m.text m.script) h.0 ∙ ap (λ t. mk-names n.settings t m.script) h.1 ∙ ap (λ z. mk-names n.settings n.text z) h.2

lint-no-run : (a s t : List ℕ) (c : Option (List ℕ)) → lint_words a ≡ run_words s t c → ⊥
lint-no-run a s t None e = cc
lint-no-run a s t (Some c) e = cc

pub one-command : (words : List (List ℕ)) (m n : Command) → IsCommand words m → IsCommand words n → m ≡ n
one-command words (Lint a) (Lint b) h k = let e : lint_words a ≡ lint_words b = sym h ∙ k in let same : a ≡ b = cc in ap Lint same
one-command words (Lint a) (Run n) h k = absurd (lint-no-run a n.settings n.text n.script (sym h ∙ k))
one-command words (Run m) (Lint b) h k = absurd (lint-no-run b m.settings m.text m.script (sym k ∙ h))
one-command words (Run m) (Run n) h k = ap Run (names-same m n (sym h ∙ k))
