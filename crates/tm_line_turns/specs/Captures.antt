-- What the groups of a match add: the scopes that they have, and what is found in those that are tokenized again.
-- After vscode-textmate's handling of captures.
use Rattle.std.specs.Prelude.{ℕ, Bool, false, ◌&&◌, ◌==◌, nat_lt, nat_le, List, [], ◌∷◌, ◌++◌, Option, Some, None, slice_get, take, if◌then◌else◌}
use Rattle.tm_line_turns.specs.declared.captures.GroupName.{GroupName}
use Rattle.tm_line_turns.specs.declared.captures.GroupName.TheVariants.{Fixed, Filled}
use Rattle.tm_line_turns.specs.declared.captures.GroupRule.{GroupRule}
use Rattle.tm_line_turns.specs.declared.found.Match.{Match}
use Rattle.tm_line_turns.specs.LineRun.{Open, Place, Part, Grammar, line_run, joined, nothing, all_of, paint, makes, names_made, framed, opened}

-- start and end of a group that is set
abbrev pub set : Option (Option (ℕ × ℕ)) → Option (ℕ × ℕ)
set None = None
set (Some group) = group

-- a group that the pattern does not have is not set either
abbrev pub group_of : List (Option (ℕ × ℕ)) → ℕ → Option (ℕ × ℕ)
group_of groups n = set (slice_get groups n)

-- the names that a group pushes, where a text gives these at the match
abbrev pub pushed : (List ℕ → List (List ℕ)) → Option GroupName → List (List ℕ)
pushed filled None = []
pushed filled (Some (Fixed names)) = names
pushed filled (Some (Filled text)) = filled text

-- scopes that hold up to an end
pub record Layer : Type 0 where
  pub scopes : List (List ℕ)
  pub end : ℕ

-- the layers that end by a position are painted, from the innermost to the first that ends later
abbrev pub closed : ℕ → List Layer → Part
closed at [] = nothing
closed at (l ∷ ls) = if nat_le l.end at then joined (paint l.end l.scopes) (closed at ls) else nothing

-- that one and those around it are kept
abbrev pub kept : ℕ → List Layer → List Layer
kept at [] = []
kept at (l ∷ ls) = if nat_le l.end at then kept at ls else l ∷ ls

abbrev pub every_layer : List Layer → Part
every_layer [] = nothing
every_layer (l ∷ ls) = joined (paint l.end l.scopes) (every_layer ls)

-- the scopes of the innermost layer, or else those over the match
abbrev pub innermost : List (List ℕ) → List Layer → List (List ℕ)
innermost base [] = base
innermost base (l ∷ ls) = l.scopes

-- what tokenizing a group again adds: by a rule, in name scopes and content scopes, from its start to its end
abbrev pub Inner : Type 0
Inner = ℕ → List (List ℕ) → List (List ℕ) → ℕ → ℕ → Part

-- what a group adds, and the layers behind it
pub record Took : Type 0 where
  pub part : Part
  pub layers : List Layer

-- the walk halts at a group, or goes on behind it
pub data Step : Type 0 where
  Halts : Step
  Goes : Took → Step

abbrev pub skipped : List Layer → Took
skipped ls = record { part = nothing; layers = ls }

-- where the walk halts all layers are painted
abbrev pub walked : (List Layer → Part) → List Layer → Step → Part
walked go ls Halts = every_layer ls
walked go ls (Goes took) = joined took.part (go took.layers)

-- before a group the layers that end by its start are painted, and the scopes that are innermost then up to its start
abbrev pub behind : List (List ℕ) → ℕ → List Layer → Took → Took
behind base start ls took = record {
  part = all_of (closed start ls ∷ paint start (innermost base (kept start ls)) ∷ took.part ∷ []);
  layers = took.layers;
}

-- the names that a text gives at the match, and the scopes over the match
module _ (filled : List ℕ → List (List ℕ)) (base : List (List ℕ)) where
  -- a group with names is a layer more
  abbrev pub named : ℕ → List Layer → Option GroupName → Took
  named end ls None = skipped ls
  named end ls (Some name) = record {
    part = makes (names_made (innermost base ls) (pushed filled (Some name)));
    layers = record { scopes = innermost base ls ++ pushed filled (Some name); end = end } ∷ ls;
  }

  -- a group that is tokenized again has its names on the scopes over the match, and is no layer
  abbrev pub again : Inner → ℕ → GroupRule → ℕ → ℕ → Part
  again tokenize rule c start end =
      let names = base ++ pushed filled c.name in
      let contents = names ++ pushed filled c.content_name in
      all_of (makes (names_made base (pushed filled c.name)) ∷ makes (names_made names (pushed filled c.content_name)) ∷ tokenize rule names contents start end ∷ [])

  -- it is so where it has a rule, and where it may be
  abbrev pub applied : List Layer → GroupRule → ℕ → ℕ → Option Inner → Option ℕ → Took
  applied ls c start end (Some tokenize) (Some rule) = record { part = again tokenize rule c start end; layers = ls }
  applied ls c start end (Some tokenize) None = named end ls c.name
  applied ls c start end None rule = named end ls c.name

-- and the match, and how its groups are tokenized again, where they may be
module _ (filled : List ℕ → List (List ℕ)) (base : List (List ℕ)) (m : Match) (inner : Option Inner) where
  -- a group that is unset or empty is skipped; one that starts behind the match halts the walk
  abbrev pub stepped : List Layer → GroupRule → Option (ℕ × ℕ) → Step
  stepped ls c None = Goes (skipped ls)
  stepped ls c (Some g) =
      if g.0 == g.1 then Goes (skipped ls)
      else (if nat_lt m.end g.0 then Halts else Goes (behind base g.0 ls (applied filled base (kept g.0 ls) c g.0 g.1 inner c.rule)))

  -- the groups in their order, and at last all layers
  abbrev pub capture_productions : List Layer → List GroupRule → Part
  capture_productions ls [] = every_layer ls
  capture_productions ls (c ∷ cs) = walked (λ more. capture_productions more cs) ls (stepped ls c (group_of m.groups c.group))

-- where the text of a group starts: its rule is open on those around the match, opened there without an anchor, and `\A`
-- may match only at the start of the text
abbrev pub group_place : Bool → List Open → ℕ → List (List ℕ) → List (List ℕ) → ℕ → Place
group_place first stack rule names contents start = record {
  top = opened (framed rule None names contents false) start None;
  below = stack;
  at = start;
  anchor = None;
  first = first && (start == 0);
}

-- the text up to the group's end is run from there, by what the rules say of it; the rules that are open behind it are
-- forgotten
abbrev pub tokenized : (List ℕ → Grammar) → List ℕ → Bool → List Open → Inner
tokenized grammar text first stack rule names contents start end = (line_run (grammar (take end text)) (group_place first stack rule names contents start)).part
