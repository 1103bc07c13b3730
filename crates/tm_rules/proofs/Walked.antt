-- The rules inside a raw rule, by its parts.
use Rattle.std.proofs.Common.{◌≡◌, ℕ, ◌+◌, Bool, List, [], ◌∷◌, ◌++◌, refl, sym, ap, ◌∙◌, append_assoc}
use Rattle.std.specs.Prelude.{if◌then◌else◌}
use Rattle.tm_grammar.specs.declared.raw.RawRule.{RawRule}
use Rattle.tm_grammar.specs.declared.raw.RawRule.TheViews.{out-RawRule}
use Rattle.tm_rules.specs.Includes.{Entries, entries}
use Rattle.tm_grammar.specs.File.{GrammarTree}
use Rattle.tm_rules.specs.Rules.{firsts, inner, own_rule, rule_at, rules_inside, rules_in_names, inside_root, grammar_rules, rules_from}
use Rattle.tm_rules.specs.Tree.{tree_of, names_of}
use Rattle.tm_rules.specs.inner.Walk.{rules_in_parts}
use Rattle.tm_rules.specs.declared.loaded.Loaded.{Loaded}
use Rattle.tm_rules.specs.declared.sizes.FirstNumbers.{FirstNumbers}
use Rattle.tm_defs.specs.declared.rules.Rule.{Rule}
use Rattle.tm_rules.proofs.Opened.{tree_of_out}

-- the repositories inside it
pub inner-out : (scopes : List Entries) (from : ℕ) (raw : RawRule) → inner scopes from (tree_of raw) ≡ scopes ++ entries (firsts from (tree_of raw)).repository (names_of (out-RawRule raw).repository) ∷ []
inner-out scopes from raw = rw (tree_of_out raw) refl

module _ (loaded : List Loaded) (grammar : Loaded) (scopes : List Entries) (from : ℕ) (raw : RawRule) where
  pub inside-out : rules_inside loaded grammar scopes from (tree_of raw) ≡ rules_in_parts loaded grammar (inner scopes from (tree_of raw)) (firsts from (tree_of raw)) (out-RawRule raw)
  inside-out = rw (tree_of_out raw) refl

  -- the rule and what is inside it, where its names and numbers are those
  pub walked : (is_rule : Bool) (around : List Entries) (f : FirstNumbers) (names : Entries) (before own after : List Rule)
      → f ≡ firsts from (tree_of raw)
      → names ≡ entries f.repository (names_of (out-RawRule raw).repository)
      → around ≡ scopes ++ names ∷ []
      → own ≡ before ++ (if is_rule then own_rule loaded grammar around f (tree_of raw) ∷ [] else [])
      → after ≡ own ++ rules_in_parts loaded grammar around f (out-RawRule raw)
      → after ≡ before ++ ((if is_rule then rule_at loaded grammar scopes from (tree_of raw) ∷ [] else []) ++ rules_inside loaded grammar scopes from (tree_of raw))
  walked is_rule around f names before own after numbers named at first rest =
      let places : around ≡ inner scopes from (tree_of raw) = at ∙ ap (λ (es : Entries). scopes ++ es ∷ []) (named ∙ ap (λ (f : FirstNumbers). entries f.repository (names_of (out-RawRule raw).repository)) numbers) ∙ sym (inner-out scopes from raw) in
      rest
      ∙ ap (λ (xs : List Rule). xs ++ rules_in_parts loaded grammar around f (out-RawRule raw)) first
      ∙ append_assoc before _ _
      ∙ ap (λ (xs : List Rule). before ++ xs) (λ i. (if is_rule then own_rule loaded grammar (places i) (numbers i) (tree_of raw) ∷ [] else []) ++ rules_in_parts loaded grammar (places i) (numbers i) (out-RawRule raw))
      ∙ ap (λ (xs : List Rule). before ++ ((if is_rule then rule_at loaded grammar scopes from (tree_of raw) ∷ [] else []) ++ xs)) (sym inside-out)

regrouped : (before names inside : List Rule) (own : Rule) → ((before ++ own ∷ []) ++ names) ++ inside ≡ before ++ (own ∷ (names ++ inside))
regrouped before names inside own = simp append_assoc

-- the rules of a grammar, walked from its root rule on
pub grammar-walked : (loaded : List Loaded) (grammar : Loaded) (g : GrammarTree) (inside injections : ℕ) (around : List Entries) (f : FirstNumbers) (names : Entries) (before own named after : List Rule)
    → inside ≡ inside_root grammar.root g
    → injections ≡ grammar.root + 1
    → f ≡ firsts inside (tree_of g.root)
    → names ≡ entries f.repository (names_of (out-RawRule g.root).repository)
    → around ≡ names ∷ []
    → own ≡ before ++ own_rule loaded grammar around f (tree_of g.root) ∷ []
    → named ≡ own ++ rules_in_names loaded grammar around injections (names_of g.injections)
    → after ≡ named ++ rules_inside loaded grammar [] inside (tree_of g.root)
    → after ≡ before ++ grammar_rules loaded grammar g
grammar-walked loaded grammar g inside injections around f names before own named after at_inside at_injections numbers named_so at first then_named rest =
    let t = tree_of g.root in
    let places : around ≡ inner [] inside t = at ∙ ap (λ (es : Entries). es ∷ []) (named_so ∙ ap (λ (f : FirstNumbers). entries f.repository (names_of (out-RawRule g.root).repository)) numbers) ∙ sym (inner-out [] inside g.root) in
    rest
    ∙ ap (λ (xs : List Rule). xs ++ rules_inside loaded grammar [] inside t) (then_named ∙ ap (λ (xs : List Rule). xs ++ rules_in_names loaded grammar around injections (names_of g.injections)) first)
    ∙ regrouped before (rules_in_names loaded grammar around injections (names_of g.injections)) (rules_inside loaded grammar [] inside t) (own_rule loaded grammar around f t)
    ∙ ap (λ (xs : List Rule). before ++ xs) (λ i. own_rule loaded grammar (places i) (numbers i) t ∷ (rules_in_names loaded grammar (places i) (at_injections i) (names_of g.injections) ++ rules_inside loaded grammar [] inside t))
    ∙ ap (λ (n : ℕ). before ++ (rule_at loaded grammar [] n t ∷ (rules_in_names loaded grammar (inner [] n t) (grammar.root + 1) (names_of g.injections) ++ rules_inside loaded grammar [] n t))) at_inside

-- grammars that are no more have no rules
pub rules_from-none : (loaded ls : List Loaded) → rules_from loaded ls [] ≡ []
rules_from-none loaded [] = refl
rules_from-none loaded (l ∷ ls) = refl
