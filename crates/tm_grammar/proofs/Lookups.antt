-- The rule of a value by what is found at its keys.
use Rattle.std.proofs.Common.{◌≡◌, ℕ, ◌++◌, List, [], Option, Some, None, refl, sym, ap, ◌∙◌, Bool, Ordering, Less, Equal, Greater, nat_cmp, is_eq, codes, if◌then◌else◌}
use Rattle.std.proofs.lemmas.Map.Text.{is_eq-slice_cmp}
use Rattle.std.specs.Prelude.{option_map, option_and_then}
use Rattle.std.specs.Str.{chars, bytes_eq}
use Rattle.std.specs.Cmp.Lexicographic.{slice_cmp}
use Rattle.std.specs.Ordering.{match_ordering}
use Rattle.serde_json.specs.Data.{Data, null, boolean, number, string, array, object, Members, no_members, member}
use Rattle.serde_json.specs.Find.{get, get_member, as_str}
use Rattle.tm_grammar.specs.File.{members_of, scope_of, root_in, grammar_tree, grammar_of}
use Rattle.tm_grammar.specs.Paths.{key_step}
use Rattle.tm_grammar.specs.Tree.{rule_of, capture_of, blank, text_at, flag_from, patterns_at, patterns_of, repository_at, repository_from, captures_at, captures_of}
use Rattle.tm_grammar.specs.declared.raw.RawRule.{RawRule}
use Rattle.tm_grammar.specs.declared.raw.RawRule.TheViews.{roll-RawRule}

by_order : {A : Type 0} (o : Ordering) (a b : A) → (if is_eq o then a else b) ≡ match_ordering o b a b
by_order Less a b = refl
by_order Equal a b = refl
by_order Greater a b = refl

-- a test on a key is a comparison with it
by_key : {A : Type 0} (key k : List ℕ) (a b : A) → (if bytes_eq key k then a else b) ≡ match_ordering (slice_cmp nat_cmp key k) b a b
by_key key k a b = ap (λ t. if t then a else b) (sym (is_eq-slice_cmp key k)) ∙ by_order (slice_cmp nat_cmp key k) a b

through : {A : Type 0} (f : Option Data → A) (o : Ordering) (d : Data) (rest : Option Data) → match_ordering o (f rest) (f (Some d)) (f rest) ≡ f (match_ordering o rest (Some d) rest)
through f Less d rest = refl
through f Equal d rest = refl
through f Greater d rest = refl

found : {A : Type 0} (f : Option Data → A) (key k : List ℕ) (d : Data) (ms : Members) (later : A) → later ≡ f (get_member key ms) →
    (if bytes_eq key k then f (Some d) else later) ≡ f (get_member key (member k d ms))
found f key k d ms later is =
    by_key key k (f (Some d)) later ∙ ap (λ x. match_ordering (slice_cmp nat_cmp key k) x (f (Some d)) x) is ∙ through f (slice_cmp nat_cmp key k) d (get_member key ms)

pub patterns_at-get : (key path : List ℕ) (ms : Members) → patterns_at key path ms ≡ option_and_then (patterns_of (path ++ key_step key)) (get_member key ms)
patterns_at-get key path no_members = refl
patterns_at-get key path (member k d ms) = found (option_and_then (patterns_of (path ++ key_step key))) key k d ms (patterns_at key path ms) (patterns_at-get key path ms)

pub repository_at-get : (key path : List ℕ) (ms : Members) → repository_at key path ms ≡ repository_from (path ++ key_step key) (get_member key ms)
repository_at-get key path no_members = refl
repository_at-get key path (member k d ms) = found (repository_from (path ++ key_step key)) key k d ms (repository_at key path ms) (repository_at-get key path ms)

pub captures_at-get : (key path : List ℕ) (ms : Members) → captures_at key path ms ≡ option_and_then (captures_of (path ++ key_step key)) (get_member key ms)
captures_at-get key path no_members = refl
captures_at-get key path (member k d ms) = found (option_and_then (captures_of (path ++ key_step key))) key k d ms (captures_at key path ms) (captures_at-get key path ms)

-- a rule by what is found at its keys
abbrev pub rule_by : List ℕ → Data → RawRule
rule_by path d = roll-RawRule (record {
  path = path;
  name = option_map chars (option_and_then as_str (get (codes "name") d));
  content_name = option_map chars (option_and_then as_str (get (codes "contentName") d));
  match_text = option_map chars (option_and_then as_str (get (codes "match") d));
  begin = option_map chars (option_and_then as_str (get (codes "begin") d));
  end_text = option_map chars (option_and_then as_str (get (codes "end") d));
  while_text = option_map chars (option_and_then as_str (get (codes "while") d));
  include = option_map chars (option_and_then as_str (get (codes "include") d));
  captures = option_and_then (captures_of (path ++ key_step (codes "captures"))) (get (codes "captures") d);
  begin_captures = option_and_then (captures_of (path ++ key_step (codes "beginCaptures"))) (get (codes "beginCaptures") d);
  end_captures = option_and_then (captures_of (path ++ key_step (codes "endCaptures"))) (get (codes "endCaptures") d);
  while_captures = option_and_then (captures_of (path ++ key_step (codes "whileCaptures"))) (get (codes "whileCaptures") d);
  patterns = option_and_then (patterns_of (path ++ key_step (codes "patterns"))) (get (codes "patterns") d);
  repository = repository_from (path ++ key_step (codes "repository")) (get (codes "repository") d);
  end_last = flag_from (get (codes "applyEndPatternLast") d);
})

pub rule_of-by : (path : List ℕ) (d : Data) → rule_by path d ≡ rule_of path d
rule_of-by path null = refl
rule_of-by path (boolean b) = refl
rule_of-by path (number n) = refl
rule_of-by path (string s) = refl
rule_of-by path (array ds) = refl
rule_of-by path (object ms) =
    let a = captures_at-get (codes "captures") path ms in
    let b = captures_at-get (codes "beginCaptures") path ms in
    let e = captures_at-get (codes "endCaptures") path ms in
    let w = captures_at-get (codes "whileCaptures") path ms in
    let p = patterns_at-get (codes "patterns") path ms in
    let r = repository_at-get (codes "repository") path ms in
    rw (a, b, e, w, p, r) refl

-- a capture by what is found at its keys
abbrev pub capture_by : List ℕ → Data → RawRule
capture_by path d = roll-RawRule (record (blank path) {
  name = option_map chars (option_and_then as_str (get (codes "name") d));
  content_name = option_map chars (option_and_then as_str (get (codes "contentName") d));
  patterns = option_and_then (patterns_of (path ++ key_step (codes "patterns"))) (get (codes "patterns") d);
  repository = repository_from (path ++ key_step (codes "repository")) (get (codes "repository") d);
})

pub capture_of-by : (path : List ℕ) (d : Data) → capture_by path d ≡ capture_of path d
capture_of-by path null = refl
capture_of-by path (boolean b) = refl
capture_of-by path (number n) = refl
capture_of-by path (string s) = refl
capture_of-by path (array ds) = refl
capture_of-by path (object ms) = rw (patterns_at-get (codes "patterns") path ms, repository_at-get (codes "repository") path ms) refl

pub capture-built : (at made path : List ℕ) (d : Data) (rule : RawRule) (name content_name : Option (List ℕ)) (patterns : Option (List RawRule)) (repository : List (List ℕ × RawRule)) →
    at ≡ path → made ≡ path → rule ≡ roll-RawRule (record (blank made) { name = name; content_name = content_name; patterns = patterns; repository = repository }) →
    name ≡ option_map chars (option_and_then as_str (get (codes "name") d)) →
    content_name ≡ option_map chars (option_and_then as_str (get (codes "contentName") d)) →
    patterns ≡ option_and_then (patterns_of (at ++ key_step (codes "patterns"))) (get (codes "patterns") d) →
    repository ≡ repository_from (at ++ key_step (codes "repository")) (get (codes "repository") d) → rule ≡ capture_of path d
capture-built at made path d rule name content_name patterns repository e m is n c p r = is ∙ rw (n, c, p, r, e, m) (capture_of-by path d)

pub rule-built : (at made path : List ℕ) (d : Data) (name content_name match_text begin end_text while_text include : Option (List ℕ))
    (captures begin_captures end_captures while_captures : Option (List (ℕ × RawRule))) (patterns : Option (List RawRule)) (repository : List (List ℕ × RawRule)) (end_last : Bool) →
    at ≡ path → made ≡ path →
    name ≡ option_map chars (option_and_then as_str (get (codes "name") d)) →
    content_name ≡ option_map chars (option_and_then as_str (get (codes "contentName") d)) →
    match_text ≡ option_map chars (option_and_then as_str (get (codes "match") d)) →
    begin ≡ option_map chars (option_and_then as_str (get (codes "begin") d)) →
    end_text ≡ option_map chars (option_and_then as_str (get (codes "end") d)) →
    while_text ≡ option_map chars (option_and_then as_str (get (codes "while") d)) →
    include ≡ option_map chars (option_and_then as_str (get (codes "include") d)) →
    captures ≡ option_and_then (captures_of (at ++ key_step (codes "captures"))) (get (codes "captures") d) →
    begin_captures ≡ option_and_then (captures_of (at ++ key_step (codes "beginCaptures"))) (get (codes "beginCaptures") d) →
    end_captures ≡ option_and_then (captures_of (at ++ key_step (codes "endCaptures"))) (get (codes "endCaptures") d) →
    while_captures ≡ option_and_then (captures_of (at ++ key_step (codes "whileCaptures"))) (get (codes "whileCaptures") d) →
    patterns ≡ option_and_then (patterns_of (at ++ key_step (codes "patterns"))) (get (codes "patterns") d) →
    repository ≡ repository_from (at ++ key_step (codes "repository")) (get (codes "repository") d) →
    end_last ≡ flag_from (get (codes "applyEndPatternLast") d) →
    roll-RawRule (record {
      path = made;
      name = name;
      content_name = content_name;
      match_text = match_text;
      begin = begin;
      end_text = end_text;
      while_text = while_text;
      include = include;
      captures = captures;
      begin_captures = begin_captures;
      end_captures = end_captures;
      while_captures = while_captures;
      patterns = patterns;
      repository = repository;
      end_last = end_last;
    })
    ≡ rule_of path d
rule-built at made path d name content_name match_text begin end_text while_text include captures begin_captures end_captures while_captures patterns repository end_last e m n1 n2 n3 n4 n5 n6 n7 c1 c2 c3 c4 p r l =
    rw (n1, n2, n3, n4, n5, n6, n7, c1, c2, c3, c4, p, r, l, e, m) (rule_of-by path d)

-- what a value has at a key is what its members have
pub get-members : (key : List ℕ) (d : Data) → get_member key (members_of d) ≡ get key d
get-members key null = refl
get-members key (boolean b) = refl
get-members key (number n) = refl
get-members key (string s) = refl
get-members key (array ds) = refl
get-members key (object ms) = refl

pub patterns-in : (key path : List ℕ) (d : Data) → option_and_then (patterns_of (path ++ key_step key)) (get key d) ≡ patterns_at key path (members_of d)
patterns-in key path d = ap (option_and_then (patterns_of (path ++ key_step key))) (sym (get-members key d)) ∙ sym (patterns_at-get key path (members_of d))

pub repository-in : (key path : List ℕ) (d : Data) → repository_from (path ++ key_step key) (get key d) ≡ repository_at key path (members_of d)
repository-in key path d = ap (repository_from (path ++ key_step key)) (sym (get-members key d)) ∙ sym (repository_at-get key path (members_of d))

pub text-in : (key : List ℕ) (d : Data) → option_map chars (option_and_then as_str (get key d)) ≡ text_at key (members_of d)
text-in key d = ap (λ o. option_map chars (option_and_then as_str o)) (sym (get-members key d))

pub root-built : (d : Data) (path : List ℕ) (rule : RawRule) (patterns : Option (List RawRule)) (repository : List (List ℕ × RawRule)) → path ≡ [] →
    rule ≡ roll-RawRule (record (blank path) { name = None; content_name = None; patterns = patterns; repository = repository }) →
    patterns ≡ option_and_then (patterns_of (key_step (codes "patterns"))) (get (codes "patterns") d) →
    repository ≡ repository_from (key_step (codes "repository")) (get (codes "repository") d) → rule ≡ root_in d
root-built d path rule patterns repository e is p r =
    let p' = p ∙ patterns-in (codes "patterns") [] d in
    let r' = r ∙ repository-in (codes "repository") [] d in
    is ∙ rw (p', r', e) refl

pub grammar-built : (d : Data) (scope_name : List ℕ) (root : RawRule) (injections : List (List ℕ × RawRule)) (injection_selector : Option (List ℕ)) →
    scope_name ≡ scope_of d → root ≡ root_in d → injections ≡ repository_from (key_step (codes "injections")) (get (codes "injections") d) →
    injection_selector ≡ option_map chars (option_and_then as_str (get (codes "injectionSelector") d)) → grammar_tree scope_name root injections injection_selector ≡ grammar_of d
grammar-built d scope_name root injections injection_selector s r i t =
    let i' = i ∙ repository-in (codes "injections") [] d in
    let t' = t ∙ text-in (codes "injectionSelector") d in
    rw (s, r, i', t') refl
