-- A rule's fields with the rules inside it mapped: an option keeps its case.
use Rattle.std.proofs.Common.{◌≡◌, ℕ, Option, Some, List, refl}
use Rattle.std.specs.Prelude.{None, is_some}
use Rattle.tm_grammar.specs.declared.raw.RawRule.{RawRule, map-RawRule}
use Rattle.tm_grammar.specs.declared.raw.RawRule.TheOpen.{RawRule-F}

module _ (X : Type 0) (f : RawRule → X) (o : RawRule-F RawRule) where
  abbrev pub mapped : RawRule-F RawRule → RawRule-F X
  mapped = map-RawRule RawRule X f

  pub has_captures : (x : Option (List (ℕ × RawRule))) → is_some (mapped (record o { captures = x })).captures ≡ is_some x
  has_captures None = refl
  has_captures (Some cs) = refl

  pub has_begins : (x : Option (List (ℕ × RawRule))) → is_some (mapped (record o { begin_captures = x })).begin_captures ≡ is_some x
  has_begins None = refl
  has_begins (Some cs) = refl

  pub has_ends : (x : Option (List (ℕ × RawRule))) → is_some (mapped (record o { end_captures = x })).end_captures ≡ is_some x
  has_ends None = refl
  has_ends (Some cs) = refl

  pub has_whiles : (x : Option (List (ℕ × RawRule))) → is_some (mapped (record o { while_captures = x })).while_captures ≡ is_some x
  has_whiles None = refl
  has_whiles (Some cs) = refl

  pub has_patterns : (x : Option (List RawRule)) → is_some (mapped (record o { patterns = x })).patterns ≡ is_some x
  has_patterns None = refl
  has_patterns (Some ts) = refl
