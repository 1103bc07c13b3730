-- The line relation: what a line does to the open rules, and what it paints.
-- After vscode-textmate's tokenizer of one line, which goes on from turn to turn.
use Rattle.std.specs.Prelude.{ℕ, zero, suc, ◌+◌, ◌-◌, ◌*◌, ◌==◌, ◌&&◌, ◌||◌, not, nat_lt, max, Bool, true, false, List, [], ◌∷◌, ◌++◌, length, map, reverse, Option, Some, None, if◌then◌else◌}
use Rattle.tm_defs.specs.declared.frames.FrameData.{FrameData}
use Rattle.tm_defs.specs.Tables.{TableEntries, none_made, more_made, only_text}
use Rattle.tm_paint.specs.Painted.{Piece}
use Rattle.tm_line_turns.specs.declared.found.Entry.{Entry}
use Rattle.tm_line_turns.specs.declared.found.Match.{Match}
use Rattle.tm_line_turns.specs.declared.found.Whose.{Whose}
use Rattle.tm_line_turns.specs.declared.found.Whose.TheVariants.{AtBegin, AtEnd, AtMatch}
use Rattle.tm_line_turns.specs.declared.found.Winner.{Winner}
use Rattle.tm_line_turns.specs.declared.found.Winner.TheVariants.{Nothing, Ends, Begins, Matches}

-- an open rule, and where this line opened it, if it did
pub record Open : Type 0 where
  pub frame : FrameData
  pub entry : Option Entry

-- where a line stands: the innermost open rule, those around it from the nearest outward, and the position in
-- characters; the anchor, which is where `\G` matches, if there is one; and whether `\A` may match still
pub record Place : Type 0 where
  pub top : Open
  pub below : List Open
  pub at : ℕ
  pub anchor : Option ℕ
  pub first : Bool

-- what a stretch of a line adds: what it paints, the texts and scope lists that it makes for a table, and the steps of
-- its searches
pub record Part : Type 0 where
  pub pieces : List Piece
  pub made : TableEntries
  pub cost : ℕ

-- what a line adds, and the open rules behind it, the innermost first
pub record Outcome : Type 0 where
  pub part : Part
  pub stack : List Open

-- the line stops with these open rules, or goes on from a place
pub data Next : Type 0 where
  Stops : List Open → Next
  GoesOn : Place → Next

-- one turn: what it adds, and what follows
pub record Turn : Type 0 where
  pub part : Part
  pub next : Next

-- what the rules say of one text: how many there are; its length with the line break; what is found from a
-- position on by the innermost rule, whose end counts where the first Bool says that a rule is open around it,
-- where `\A` matches where the second says so, and `\G` where the third does; the steps of that search; the names
-- that a found rule pushes, and those that it pushes for what is inside it alone; the text that ends it, where that
-- depends on what its begin captured; what the groups of a match add, where these rules are open, these scopes are
-- over the match, and `\A` may match; whether a rule has a `while`, by which each later line must hold it up; what is
-- found of that from a position on, where `\A` matches where the first Bool says so, and `\G` where the second does;
-- and the steps of that search
pub record Grammar : Type 0 where
  pub rules : ℕ
  pub end : ℕ
  pub winner : FrameData → Bool → ℕ → Bool → Bool → Winner
  pub cost : FrameData → Bool → ℕ → Bool → Bool → ℕ
  pub names : ℕ → Match → List (List ℕ)
  pub content_names : ℕ → Match → List (List ℕ)
  pub end_text : ℕ → Match → Option (List ℕ)
  pub captured : Whose → ℕ → Match → List Open → List (List ℕ) → Bool → Part
  pub has_while : ℕ → Bool
  pub while_match : FrameData → ℕ → Bool → Bool → Option Match
  pub while_cost : FrameData → ℕ → Bool → Bool → ℕ

abbrev pub stack_of : Place → List Open
stack_of p = p.top ∷ p.below

abbrev pub some_open : List Open → Bool
some_open [] = false
some_open (o ∷ os) = true

abbrev pub joined : Part → Part → Part
joined a b = record { pieces = a.pieces ++ b.pieces; made = more_made a.made b.made; cost = a.cost + b.cost }

abbrev pub nothing : Part
nothing = record { pieces = []; made = none_made; cost = 0 }

-- one after the other
abbrev pub all_of : List Part → Part
all_of [] = nothing
all_of (a ∷ []) = a
all_of (a ∷ b ∷ cs) = joined a (all_of (b ∷ cs))

abbrev pub piece : ℕ → List (List ℕ) → Piece
piece end scopes = record { end = end; scopes = scopes }

-- scopes are painted up to an end; entries are made; steps are searched
abbrev pub paint : ℕ → List (List ℕ) → Part
paint end scopes = record { pieces = piece end scopes ∷ []; made = none_made; cost = 0 }

abbrev pub makes : TableEntries → Part
makes made = record { pieces = []; made = made; cost = 0 }

abbrev pub searches : ℕ → Part
searches cost = record { pieces = []; made = none_made; cost = cost }

abbrev pub name_made : List (List ℕ) → List ℕ → TableEntries
name_made scopes name = record { texts = name ∷ []; paths = (scopes ++ name ∷ []) ∷ []; states = [] }

-- names that are pushed one by one make each text, and each longer list
abbrev pub names_made : List (List ℕ) → List (List ℕ) → TableEntries
names_made scopes [] = none_made
names_made scopes (name ∷ names) =
    more_made (name_made scopes name) (names_made (scopes ++ name ∷ []) names)

-- a text that ends a rule, if it has one of its own
abbrev pub end_made : Option (List ℕ) → TableEntries
end_made None = none_made
end_made (Some text) = only_text text

-- the frame of a rule that has just begun: the text that ends it, if it has one of its own, the scopes of its begin and
-- end, and those of what is inside it
abbrev pub framed : ℕ → Option (List ℕ) → List (List ℕ) → List (List ℕ) → Bool → FrameData
framed rule end names contents at_eol =
    record { rule = rule; end = end; names = names; contents = contents; at_eol = at_eol }

-- the same where it has none, and what is inside has no names of its own
abbrev pub plain : ℕ → List (List ℕ) → Bool → FrameData
plain rule scopes at_eol = framed rule None scopes scopes at_eol

-- a rule that an earlier line opened
abbrev pub earlier : FrameData → Open
earlier frame = record { frame = frame; entry = None }

-- a rule that this line opens at a position, with the anchor of then
abbrev pub opened : FrameData → ℕ → Option ℕ → Open
opened frame at anchor = record { frame = frame; entry = Some (record { at = at; anchor = anchor }) }

-- the same, with its name scopes as content scopes
abbrev pub closing : Open → Open
closing o = record { frame = record (o.frame) { contents = o.frame.names }; entry = o.entry }

-- a match has advanced where it ends behind the position
abbrev pub advances : Place → Match → Bool
advances p m = nat_lt p.at m.end

-- this line opened the rule at this position
abbrev pub is_at : Option Entry → ℕ → Bool
is_at None at = false
is_at (Some e) at = e.at == at

-- the anchor with which the rule was opened; a rule of an earlier line has none
abbrev pub anchor_of : Option Entry → Option ℕ
anchor_of None = None
anchor_of (Some e) = e.anchor

-- the rules that were opened at this position, from the innermost outward as long as there are such
abbrev pub near : ℕ → List Open → List ℕ
near at [] = []
near at (o ∷ os) = if is_at o.entry at then o.frame.rule ∷ near at os else []

-- the rule is among them
abbrev pub has : List ℕ → ℕ → Bool
has [] rule = false
has (r ∷ rs) rule = (r == rule) || has rs rule

-- the position is the anchor
abbrev pub is_anchored : Option ℕ → ℕ → Bool
is_anchored None at = false
is_anchored (Some anchor) at = anchor == at

-- where the line goes on behind a match
abbrev pub onward : Place → Match → Open → List Open → Option ℕ → Place
onward p m top below anchor = record {
  top = top;
  below = below;
  at = max p.at m.end;
  anchor = anchor;
  first = p.first && not (advances p m);
}

-- how many rules may be open
abbrev pub most_open : ℕ
most_open = 512

-- the open rules without the innermost, if there is one around it
abbrev pub popped : Open → List Open → List Open
popped top [] = top ∷ []
popped top (next ∷ rest) = next ∷ rest

-- the content scopes of their innermost
abbrev pub popped_contents : Open → List Open → List (List ℕ)
popped_contents top [] = top.frame.contents
popped_contents top (next ∷ rest) = next.frame.contents

-- how many of the numbers below r are not in the list
unfoldable pub unused : List ℕ → ℕ → ℕ
unused rules zero = 0
unused rules (suc r) = (if has rules r then 0 else 1) + unused rules r

-- what is asked at a place
abbrev pub asked : {X : Type 0} → Place → (FrameData → Bool → ℕ → Bool → Bool → X) → X
asked p ask = ask p.top.frame (some_open p.below) p.at p.first (is_anchored p.anchor p.at)

-- what a turn adds, and then what `go` gives from where it goes on
abbrev pub after : (Place → Outcome) → Part → Next → Outcome
after go part (Stops stack) = record { part = part; stack = stack }
after go part (GoesOn q) = record { part = joined part (go q).part; stack = (go q).stack }

-- nothing is found: the content scopes are painted to the text's end, and the line stops
abbrev pub rests : ℕ → Place → Turn
rests end p = record { part = paint end p.top.frame.contents; next = Stops (stack_of p) }

module _ (g : Grammar) where
  -- the one scopes up to a match, then its groups over the other scopes, and these to its end
  abbrev pub covered : Whose → ℕ → Match → List Open → List (List ℕ) → List (List ℕ) → Bool → Part
  covered whose rule m stack outer inner first =
      all_of (paint m.start outer ∷ g.captured whose rule m stack inner first ∷ paint m.end inner ∷ [])

  -- The innermost rule ends, and its end is painted with its name scopes; the outermost rule has no end. An end
  -- that has not advanced, of a rule that was opened at this position, is stuck: the line stops in the rule.
  abbrev pub ended : Place → Match → List Open → Turn
  ended p m [] = rests g.end p
  ended p m (next ∷ rest) =
      let top = closing p.top in
      let over = covered AtEnd p.top.frame.rule m (top ∷ next ∷ rest) p.top.frame.contents p.top.frame.names p.first in
      if not (advances p m) && is_at p.top.entry p.at
      then record { part = all_of (over ∷ paint g.end p.top.frame.names ∷ []); next = Stops (top ∷ next ∷ rest) }
      else record { part = all_of (over ∷ []); next = GoesOn (onward p m next rest (anchor_of p.top.entry)) }

  -- A rule is open from here on, with its names pushed onto the content scopes, and behind its begin its content names
  -- too. The anchor is where the begin ends. A begin that has not advanced, of a rule that was opened at this position
  -- already, is stuck: the line stops without it.
  abbrev pub entered : Place → ℕ → Match → Option (List ℕ) → List (List ℕ) → List (List ℕ) → Turn
  entered p rule m end_text names content_names =
      let outer = p.top.frame.contents in
      let scopes = outer ++ names in
      let at_eol = m.end == g.end in
      let over = covered AtBegin rule m (opened (plain rule scopes at_eol) p.at p.anchor ∷ stack_of p) outer scopes p.first in
      let top = opened (framed rule end_text scopes (scopes ++ content_names) at_eol) p.at p.anchor in
      if not (advances p m) && has (near p.at (stack_of p)) rule
      then record { part = all_of (makes (names_made outer names) ∷ over ∷ paint g.end outer ∷ []); next = Stops (stack_of p) }
      else record {
        part = all_of (makes (names_made outer names) ∷ over ∷ makes (names_made scopes content_names) ∷ makes (end_made end_text) ∷ []);
        next = GoesOn (onward p m top (stack_of p) (Some m.end));
      }

  -- A rule begins. Where as many are open as may be, the line stops without it.
  abbrev pub begun : Place → ℕ → Match → Option (List ℕ) → List (List ℕ) → List (List ℕ) → Turn
  begun p rule m end_text names content_names =
      if nat_lt (length (stack_of p)) most_open then entered p rule m end_text names content_names else rests g.end p

  -- A rule matches: its names are pushed for the match alone. A match that has not advanced is stuck: the line stops,
  -- without the innermost rule if there is one around it.
  abbrev pub matched : Place → ℕ → Match → List (List ℕ) → Turn
  matched p rule m names =
      let outer = p.top.frame.contents in
      let over = covered AtMatch rule m (stack_of p) outer (outer ++ names) p.first in
      if advances p m
      then record { part = all_of (makes (names_made outer names) ∷ over ∷ []); next = GoesOn (onward p m p.top p.below p.anchor) }
      else record {
        part = all_of (makes (names_made outer names) ∷ over ∷ paint g.end (popped_contents p.top p.below) ∷ []);
        next = Stops (popped p.top p.below);
      }

  abbrev pub by_winner : Place → Winner → Turn
  by_winner p Nothing = rests g.end p
  by_winner p (Ends m) = ended p m p.below
  by_winner p (Begins rule m) = begun p rule m (g.end_text rule m) (g.names rule m) (g.content_names rule m)
  by_winner p (Matches rule m) = matched p rule m (g.names rule m)

  -- one turn at a place; its search is paid first
  abbrev pub turn : Place → Turn
  turn p =
      let done = by_winner p (asked p g.winner) in
      record { part = all_of (searches (asked p g.cost) ∷ done.part ∷ []); next = done.next }

  -- at most so many turns
  unfoldable pub runs : ℕ → Place → Outcome
  runs zero p = record { part = nothing; stack = stack_of p }
  runs (suc n) p = after (runs n) (turn p).part (turn p).next

  -- More than the turns that are left: characters, open rules, and rules that were not opened at this position yet. A
  -- turn that does not advance ends a rule that was opened before, or opens one that was not.
  unfoldable pub left : Place → ℕ
  left p = (2 * g.rules + 2) * (g.end - p.at) + length (stack_of p) + 2 * unused (near p.at (stack_of p)) g.rules

  -- the line from a place on: turn after turn until it stops (`Laws` says so without a number of turns)
  unfoldable pub line_run : Place → Outcome
  line_run p = runs (suc (left p)) p

abbrev pub frames_of : List Open → List FrameData
frames_of stack = map (λ o. o.frame) stack

-- the states of open rules, each with its outermost rule first: that of all, that of all but the innermost, and so on
abbrev pub stack_states : List Open → List (List FrameData)
stack_states [] = []
stack_states (o ∷ os) = reverse (frames_of (o ∷ os)) ∷ stack_states os

-- a line makes the states of the rules that are open behind it, and no other
abbrev pub states_made : List Open → TableEntries
states_made stack = record { texts = []; paths = []; states = stack_states stack }
