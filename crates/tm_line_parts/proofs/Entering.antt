-- The stack behind the begin of a rule.
use Rattle.std.proofs.Common.{◌≡◌, ℕ, List, ◌∷◌, Bool, Option, Some, None, ap, ◌∙◌}
use Rattle.std.specs.Prelude.{slice_get}
use Rattle.std.specs.Option.{option_map}
use Rattle.tm_defs.specs.declared.frames.ScopeList.{ScopeList}
use Rattle.tm_defs.specs.declared.frames.TextId.{TextId}
use Rattle.tm_defs.specs.declared.frames.Frame.{Frame}
use Rattle.tm_defs.specs.Tables.{Tables, TableEntries, GrowsWithin, path_at, text_at}
use Rattle.tm_defs.proofs.Chains.{path_at-is}
use Rattle.tm_line_turns.specs.LineRun.{Open, framed, opened, plain}
use Rattle.tm_line_parts.specs.declared.stack.OpenFrame.{OpenFrame}
use Rattle.tm_line_parts.specs.declared.stack.Stack.{Stack}
use Rattle.tm_line_parts.specs.Stacks.{IsStack, below_at, open_at, stack_at}
use Rattle.tm_line_parts.proofs.StacksGrown.{stack-same}

-- a frame with these scopes, and nothing else of the table
abbrev pub bare : ℕ → ScopeList → Bool → Frame
bare rule scopes at_eol = record { rule = rule; end = None; names = scopes; contents = scopes; at_eol = at_eol }

pub entered-stack : (made : TableEntries) (t u : Tables) (old new : Stack) (rule at : ℕ) (anchor : Option ℕ) (scopes : ScopeList) (at_eol : Bool) (path : List (List ℕ)) → GrowsWithin made t u → IsStack t old → slice_get u.paths scopes.0 ≡ Some path →
    stack_at u new ≡ open_at u (record { frame = bare rule scopes at_eol; entry = Some (record { at = at; anchor = anchor }) }) ∷ stack_at u old → stack_at u new ≡ opened (plain rule path at_eol) at anchor ∷ stack_at t old
entered-stack made t u old new rule at anchor scopes at_eol path grown known is e =
    e ∙ ap (λ p. opened (plain rule p at_eol) at anchor ∷ stack_at u old) (path_at-is u scopes path is) ∙ ap (λ l. opened (plain rule path at_eol) at anchor ∷ l) (stack-same made t u grown old known)

-- the frame that a rule gives its stack behind its begin
pub given-stack : (x : Tables) (s : Stack) (rule : ℕ) (end : Option TextId) (names contents : ScopeList) (at_eol : Bool) (at : ℕ) (anchor : Option ℕ) (end_text : Option (List ℕ)) (scopes inner : List (List ℕ)) (below : List Open) →
    s.top ≡ record { frame = record { rule = rule; end = end; names = names; contents = contents; at_eol = at_eol }; entry = Some (record { at = at; anchor = anchor }) } →
    option_map (text_at x) end ≡ end_text → path_at x names ≡ scopes → path_at x contents ≡ inner → below_at x s ≡ below →
    stack_at x s ≡ opened (framed rule end_text scopes inner at_eol) at anchor ∷ below
given-stack x s rule end names contents at_eol at anchor end_text scopes inner below top e n c b =
    ap (λ (o : OpenFrame). open_at x o ∷ below_at x s) top
    ∙ ap (λ t. opened (framed rule t (path_at x names) (path_at x contents) at_eol) at anchor ∷ below_at x s) e
    ∙ ap (λ p. opened (framed rule end_text p (path_at x contents) at_eol) at anchor ∷ below_at x s) n
    ∙ ap (λ p. opened (framed rule end_text scopes p at_eol) at anchor ∷ below_at x s) c
    ∙ ap (λ l. opened (framed rule end_text scopes inner at_eol) at anchor ∷ l) b
