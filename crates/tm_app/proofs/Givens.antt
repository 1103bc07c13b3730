-- What files give, one file after another.
use Rattle.std.proofs.Common.{◌≡◌, ℕ, suc, ◌+◌, ◌<◌, List, [], ◌∷◌, ◌++◌, length, take, drop, get_or, Ok, refl, ap, sym, ◌∙◌, subst, take-append-drop}
use Rattle.std.proofs.lemmas.List.{append-nil, take_more, at_drop_more}
use Rattle.tm_forms.specs.Grammar.{grammar_in}
use Rattle.tm_forms.specs.Settings.{SettingFilesData}
use Rattle.tm_grammar.specs.File.{GrammarTree}
use Rattle.tm_line.specs.Setting.{Setting, setting_of, setting_with}
use Rattle.tm_rules.specs.Rules.{grammars_of, plain_rules}
use Rattle.tm_rules.specs.declared.grammars.Grammars.{Grammars}
use Rattle.tm_template.specs.Names.{words_of}
use Rattle.tm_app.specs.inner.Given.{rules_in, setting_in, AllGiven, IsSettingGiven, AreGiven, IsFileReached, IsSettingReached}

-- a list in front of a place, the item there and what is behind it
parted : {X : Type 0} (xs : List X) (i : ℕ) (x : X) → i < length xs → x ≡ get_or xs i x → xs ≡ take i xs ++ x ∷ drop (i + 1) xs
parted xs i x lt at = sym (take-append-drop i xs) ∙ ap (λ l. take i xs ++ l) (at_drop_more (λ l. l) xs i x lt ∙ ap (λ z. z ∷ drop (i + 1) xs) (sym at))

module _ (holds : List ℕ → (List ℕ → Type 0) → Type 0) where
  all-given-push : (files : List (List ℕ)) (trees : List GrammarTree) (file : List ℕ) (tree : GrammarTree) → AllGiven holds files trees → holds file (λ bytes. grammar_in bytes ≡ Ok tree) → AllGiven holds (files ++ file ∷ []) (trees ++ tree ∷ [])
  all-given-push [] [] file tree h k = (k, tt)
  all-given-push (f ∷ files) (t ∷ trees) file tree h k = (h.0, all-given-push files trees file tree h.1 k)
  all-given-push [] (t ∷ trees) file tree h k = absurd h
  all-given-push (f ∷ files) [] file tree h k = absurd h

  are-given-push : (list : List SettingFilesData) (settings : List Setting) (files : SettingFilesData) (setting : Setting) → AreGiven holds list settings → IsSettingGiven holds files setting → AreGiven holds (list ++ files ∷ []) (settings ++ setting ∷ [])
  are-given-push [] [] files setting h k = (k, tt)
  are-given-push (f ∷ list) (s ∷ settings) files setting h k = (h.0, are-given-push list settings files setting h.1 k)
  are-given-push [] (s ∷ settings) files setting h k = absurd h
  are-given-push (f ∷ list) [] files setting h k = absurd h

  -- one more of a list
  pub all-given-next : (files : List (List ℕ)) (trees : List GrammarTree) (i : ℕ) (file : List ℕ) (tree : GrammarTree) → i < length files → file ≡ get_or files i file → AllGiven holds (take i files) trees → holds file (λ bytes. grammar_in bytes ≡ Ok tree) → AllGiven holds (take (i + 1) files) (trees ++ tree ∷ [])
  all-given-next files trees i file tree lt at h k =
      let P : List (List ℕ) → Type 0 = λ l. AllGiven holds l (trees ++ tree ∷ []) in
      subst P (sym (take_more files i file lt ∙ ap (λ f. take i files ++ f ∷ []) (sym at))) (all-given-push (take i files) trees file tree h k)

  pub are-given-next : (list : List SettingFilesData) (settings : List Setting) (i : ℕ) (files : SettingFilesData) (setting : Setting) → i < length list → files ≡ get_or list i files → AreGiven holds (take i list) settings → IsSettingGiven holds files setting → AreGiven holds (take (i + 1) list) (settings ++ setting ∷ [])
  are-given-next list settings i files setting lt at h k =
      let P : List SettingFilesData → Type 0 = λ l. AreGiven holds l (settings ++ setting ∷ []) in
      subst P (sym (take_more list i files lt ∙ ap (λ f. take i list ++ f ∷ []) (sym at))) (are-given-push (take i list) settings files setting h k)

  -- the reading comes to the next of a list
  pub file-next : (files : List (List ℕ)) (trees : List GrammarTree) (i : ℕ) (file : List ℕ) → i < length files → file ≡ get_or files i file → AllGiven holds (take i files) trees → IsFileReached holds files file
  file-next files trees i file lt at h = record { front = take i files; rest = drop (i + 1) files; place = parted files i file lt at; trees = trees; given = h }

  pub setting-next : (list : List SettingFilesData) (settings : List Setting) (i : ℕ) (files : SettingFilesData) → i < length list → files ≡ get_or list i files → AreGiven holds (take i list) settings → IsSettingReached holds list files
  setting-next list settings i files lt at h = record { front = take i list; rest = drop (i + 1) list; place = parted list i files lt at; settings = settings; given = h }

  -- the files behind the first one
  pub file-later : (first : List ℕ) (files : List (List ℕ)) (tree : GrammarTree) (file : List ℕ) → holds first (λ bytes. grammar_in bytes ≡ Ok tree) → IsFileReached holds files file → IsFileReached holds (first ∷ files) file
  file-later first files tree file given h = record { front = first ∷ h.front; rest = h.rest; place = ap (λ l. first ∷ l) h.place; trees = tree ∷ h.trees; given = (given, h.given) }

  pub file-first : (first : List ℕ) (files : List (List ℕ)) → IsFileReached holds (first ∷ files) first
  file-first first files = record { front = []; rest = files; place = refl; trees = []; given = tt }

  pub given-many : (list : List SettingFilesData) (settings : List Setting) → AreGiven holds list settings → length settings ≡ length list
  given-many [] [] h = refl
  given-many (f ∷ list) (s ∷ settings) h = ap suc (given-many list settings h.1)
  given-many [] (s ∷ settings) h = absurd h
  given-many (f ∷ list) [] h = absurd h

-- grammars of which none is injected
pub built-rules : (parts : Grammars) → parts.injected.items ≡ [] → plain_rules parts ≡ rules_in (parts.root ∷ parts.more.items)
built-rules parts none = ap rules_in (grammars parts none)
  where
    grammars : (parts : Grammars) → parts.injected.items ≡ [] → grammars_of parts ≡ parts.root ∷ parts.more.items
    grammars parts none = ap (λ l. parts.root ∷ (parts.more.items ++ l)) none ∙ ap (λ l. parts.root ∷ l) (append-nil parts.more.items)

pub built-setting : (parts : Grammars) → parts.injected.items ≡ [] → setting_of parts ≡ setting_in parts.root parts.more.items
built-setting parts none = ap (λ rules. setting_with (words_of parts.root.scope_name) rules) (built-rules parts none)
