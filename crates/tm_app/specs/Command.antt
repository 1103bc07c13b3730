-- The words of a command.
use Rattle.std.specs.Prelude.{◌≡◌, ℕ, List, [], ◌∷◌, Option, Some, None, codes}

-- the files that a command over a text names; a scan has no script
pub record Names : Type 0 where
  pub settings : List ℕ
  pub text : List ℕ
  pub script : Option (List ℕ)

-- the unreadable patterns of settings are listed, or steps are run over a text
pub data Command : Type 0 where
  Lint : (settings : List ℕ) → Command
  Run : (names : Names) → Command

-- `replay SETTINGS FILE SCRIPT`, or `scan SETTINGS FILE`
abbrev pub run_words : (settings text : List ℕ) → (script : Option (List ℕ)) → List (List ℕ)
run_words settings text None = codes "scan" ∷ settings ∷ text ∷ []
run_words settings text (Some script) = codes "replay" ∷ settings ∷ text ∷ script ∷ []

-- `lint SETTINGS`
abbrev pub lint_words : (settings : List ℕ) → List (List ℕ)
lint_words settings = codes "lint" ∷ settings ∷ []

abbrev pub words_of : Command → List (List ℕ)
words_of (Lint settings) = lint_words settings
words_of (Run names) = run_words names.settings names.text names.script

abbrev pub IsCommand : List (List ℕ) → Command → Type 0
IsCommand words command = words ≡ words_of command

abbrev pub settings_named : Command → List ℕ
settings_named (Lint settings) = settings
settings_named (Run names) = names.settings
