-- The while pass: which of the rules that earlier lines opened a line holds up.
-- After vscode-textmate's check of while conditions.
use Rattle.std.specs.Prelude.{ℕ, Bool, List, [], ◌∷◌, Option, Some, None, if◌then◌else◌}
use Rattle.tm_defs.specs.declared.frames.FrameData.{FrameData}
use Rattle.tm_line_turns.specs.declared.found.Match.{Match}
use Rattle.tm_line_turns.specs.declared.found.Whose.TheVariants.{AtWhile}
use Rattle.tm_line_turns.specs.LineRun.{Open, Part, Place, Grammar, covered, is_anchored, joined, nothing, onward, searches, stack_of}

-- what the pass adds, and where the line goes on behind it
pub record Passed : Type 0 where
  pub part : Part
  pub place : Place

-- what the test of one rule adds, and the place behind it; none where the line does not hold the rule up
pub record Tested : Type 0 where
  pub part : Part
  pub next : Option Place

-- one rule more is open, on those of a place
abbrev pub opened_on : Place → Open → Place
opened_on p o = record { top = o; below = stack_of p; at = p.at; anchor = p.anchor; first = p.first }

-- where the rule is not held up the pass ends, without it and all those in it
abbrev pub passed : (Place → Passed) → Place → Part → Option Place → Passed
passed go p part None = record { part = part; place = p }
passed go p part (Some q) = record { part = joined part (go q).part; place = (go q).place }

module _ (g : Grammar) where
  -- what is asked of a rule at a place
  abbrev pub asked_while : {X : Type 0} → Place → Open → (FrameData → ℕ → Bool → Bool → X) → X
  asked_while p o ask = ask o.frame p.at p.first (is_anchored p.anchor p.at)

  -- A rule whose `while` is found is held up. What was found is covered with the content scopes of the rule, which is the
  -- innermost then, and the line goes on behind it, where the anchor is.
  abbrev pub found_while : Place → Open → Option Match → Tested
  found_while p o None = record { part = nothing; next = None }
  found_while p o (Some m) = record {
    part = covered g AtWhile o.frame.rule m (o ∷ stack_of p) o.frame.contents o.frame.contents p.first;
    next = Some (onward p m o (stack_of p) (Some m.end));
  }

  -- its search is paid also where nothing is found
  abbrev pub searched_while : Place → Open → Tested
  searched_while p o =
      let found = found_while p o (asked_while p o g.while_match) in
      record { part = joined (searches (asked_while p o g.while_cost)) found.part; next = found.next }

  -- a rule without a `while` is held up by every line
  abbrev pub tested : Place → Open → Tested
  tested p o = if g.has_while o.frame.rule then searched_while p o else record { part = nothing; next = Some (opened_on p o) }

  -- the rules that are left, the outermost first, on those that are held up
  abbrev pub while_pass : Place → List Open → Passed
  while_pass p [] = record { part = nothing; place = p }
  while_pass p (o ∷ os) = passed (λ q. while_pass q os) p (tested p o).part (tested p o).next
