-- Whether a raw rule has a later key, by the rule's fields.
use Rattle.std.proofs.Common.{◌≡◌, ℕ, Bool, ◌||◌, Option, Some, List, refl, ◌∙◌}
use Rattle.std.specs.Prelude.{None, is_some}
use Rattle.tm_grammar.specs.declared.raw.RawRule.{RawRule}
use Rattle.tm_grammar.specs.declared.raw.RawRule.TheOpen.{RawRule-F}
use Rattle.tm_grammar.specs.declared.raw.RawRule.TheViews.{out-RawRule}
use Rattle.tm_grammar.specs.declared.raw.RawRule.TheFolds.{fold_out-RawRule}
use Rattle.tm_grammar.proofs.Mapped.{mapped, has_whiles}
use Rattle.tm_forms.specs.Grammar.{some_captured, some_listed, later_by, has_later, has_later_captured, has_later_listed, has_later_keyed}

-- the same of the rule's fields, with the rules inside it as they are
abbrev pub later_of : RawRule-F RawRule → Bool
later_of o = is_some o.while_text || is_some o.while_captures
    || has_later_captured o.captures || has_later_captured o.begin_captures || has_later_captured o.end_captures
    || has_later_listed o.patterns || has_later_keyed o.repository

module _ (o : RawRule-F RawRule) where
  abbrev inner : RawRule-F RawRule → RawRule-F Bool
  inner = mapped Bool has_later o

  -- an option of inner rules keeps its case, and what it holds is mapped
  listed : (x : Option (List RawRule)) → some_listed (inner (record o { patterns = x })).patterns ≡ has_later_listed x
  listed None = refl
  listed (Some rules) = refl

  captured : (x : Option (List (ℕ × RawRule))) → some_captured (inner (record o { captures = x })).captures ≡ has_later_captured x
  captured None = refl
  captured (Some cs) = refl

  begins : (x : Option (List (ℕ × RawRule))) → some_captured (inner (record o { begin_captures = x })).begin_captures ≡ has_later_captured x
  begins None = refl
  begins (Some cs) = refl

  ends : (x : Option (List (ℕ × RawRule))) → some_captured (inner (record o { end_captures = x })).end_captures ≡ has_later_captured x
  ends None = refl
  ends (Some cs) = refl

  pub later_mapped : later_by (inner o) ≡ later_of o
  later_mapped = λ i. is_some o.while_text || has_whiles Bool has_later o o.while_captures i
      || captured o.captures i || begins o.begin_captures i || ends o.end_captures i
      || listed o.patterns i || has_later_keyed o.repository

pub opened : (r : RawRule) → has_later r ≡ later_of (out-RawRule r)
opened r = fold_out-RawRule Bool later_by r ∙ later_mapped (out-RawRule r)
