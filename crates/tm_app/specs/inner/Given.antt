-- What files give of grammars and settings, and how far their reading comes.
use Rattle.std.specs.Prelude.{◌≡◌, ℕ, ◌<◌, ◌≤◌, List, [], ◌∷◌, ◌++◌, length, Ok, ⊤}
use Rattle.tm_forms.specs.Grammar.{grammar_in}
use Rattle.tm_forms.specs.Settings.{SettingFilesData, SettingsData, settings_in}
use Rattle.tm_grammar.specs.File.{GrammarTree}
use Rattle.tm_line.specs.Setting.{Setting, setting_with}
use Rattle.tm_rules.specs.Rules.{loaded_from, rules_from}
use Rattle.tm_rules.specs.Sizes.{rule_limit}
use Rattle.tm_defs.specs.declared.rules.Rule.{Rule}
use Rattle.tm_template.specs.Names.{words_of}

-- the rules of grammars by number, the root grammar first
abbrev pub rules_in : List GrammarTree → List Rule
rules_in trees = rules_from (loaded_from 0 trees) (loaded_from 0 trees) trees

-- the setting of a root grammar and further ones
abbrev pub setting_in : GrammarTree → List GrammarTree → Setting
setting_in root more = setting_with (words_of root.scope_name) (rules_in (root ∷ more))

-- the grammar files of a setting, in reading order
abbrev pub grammar_files : SettingFilesData → List (List ℕ)
grammar_files files = files.grammar ∷ files.grammars

-- `holds file P` is what is known of a file of which P ought to hold: where it tells its bytes P holds of them, or it tells
-- them too
module _ (holds : List ℕ → (List ℕ → Type 0) → Type 0) where
  -- each file gives the tree at its place
  abbrev pub AllGiven : List (List ℕ) → List GrammarTree → Type 0
  AllGiven [] [] = ⊤
  AllGiven (file ∷ files) (tree ∷ trees) = holds file (λ bytes. grammar_in bytes ≡ Ok tree) × AllGiven files trees
  AllGiven [] (tree ∷ trees) = ⊥
  AllGiven (file ∷ files) [] = ⊥

  -- the grammar files of a setting give this one, of not too many rules
  pub record IsSettingGiven (files : SettingFilesData) (setting : Setting) : Type 0 where
    pub root : GrammarTree
    pub more : List GrammarTree
    pub given : AllGiven (grammar_files files) (root ∷ more)
    pub few : length (rules_in (root ∷ more)) ≤ rule_limit
    pub is : setting ≡ setting_in root more

  abbrev pub AreGiven : List SettingFilesData → List Setting → Type 0
  AreGiven [] [] = ⊤
  AreGiven (files ∷ list) (setting ∷ settings) = IsSettingGiven files setting × AreGiven list settings
  AreGiven [] (setting ∷ settings) = ⊥
  AreGiven (files ∷ list) [] = ⊥

  -- a settings file and the grammar files that it names give this budget and these settings
  abbrev pub AreLoaded : (file : List ℕ) → (budget : ℕ) → List Setting → Type 0
  AreLoaded file budget settings =
      (says : SettingsData) × holds file (λ bytes. settings_in bytes ≡ Ok says) × (budget ≡ says.budget) × AreGiven says.settings settings

  -- the reading of files comes to this one: each before it gives a tree
  pub record IsFileReached (files : List (List ℕ)) (file : List ℕ) : Type 0 where
    pub front : List (List ℕ)
    pub rest : List (List ℕ)
    pub place : files ≡ front ++ file ∷ rest
    pub trees : List GrammarTree
    pub given : AllGiven front trees

  -- the reading of settings comes to this one: each before it is given
  pub record IsSettingReached (list : List SettingFilesData) (files : SettingFilesData) : Type 0 where
    pub front : List SettingFilesData
    pub rest : List SettingFilesData
    pub place : list ≡ front ++ files ∷ rest
    pub settings : List Setting
    pub given : AreGiven front settings

  -- it comes to this grammar file
  abbrev pub IsGrammarReached : List SettingFilesData → List ℕ → Type 0
  IsGrammarReached list file = (files : SettingFilesData) × IsSettingReached list files × IsFileReached (grammar_files files) file

  -- all files of the setting with this grammar give trees, of too many rules
  abbrev pub HasTooMany : SettingFilesData → List ℕ → Type 0
  HasTooMany files file = (file ≡ files.grammar) × ((trees : List GrammarTree) × AllGiven (grammar_files files) trees × (rule_limit < length (rules_in trees)))

  abbrev pub IsTooMany : List SettingFilesData → List ℕ → Type 0
  IsTooMany list file = (files : SettingFilesData) × IsSettingReached list files × HasTooMany files file
