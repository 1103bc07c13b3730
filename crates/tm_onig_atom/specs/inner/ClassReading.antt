-- A second reading of classes: one item after another, up to the `]`.
use Rattle.std.specs.Prelude.{ℕ, zero, suc, ◌+◌, ◌==◌, ◌&&◌, not, nat_le, Bool, true, false, List, [], ◌∷◌, ◌++◌, length, max, Option, Some, None, option_map, if◌then◌else◌}
use Rattle.regex_class.specs.Ranges.{Range as CharRange}
use Rattle.tm_onig_class.specs.Tree.{Tree, InSet}
use Rattle.tm_onig_atom.specs.declared.options.Options.{Options}
use Rattle.tm_onig_atom.specs.declared.meanings.Named.{Named}
use Rattle.tm_onig_atom.specs.declared.meanings.Meant.{Meant}
use Rattle.tm_onig_atom.specs.declared.meanings.Meant.TheVariants.{Character, Members}
use Rattle.tm_onig_atom.specs.declared.parts.Member.TheVariants as M
use Rattle.tm_onig_atom.specs.declared.parts.Part.{Part}
use Rattle.tm_onig_atom.specs.declared.parts.Part.TheVariants.{Adds, Meets, Inner}
use Rattle.tm_onig_atom.specs.declared.parts.Front.{Front}
use Rattle.tm_onig_atom.specs.declared.parts.Front.TheVariants as F
use Rattle.tm_onig_atom.specs.Escapes.{begins, of_listed}
use Rattle.tm_onig_atom.specs.inner.Reading.{◌>>=◌, rest_of, before, meant_at}
use Rattle.tm_onig_atom.specs.Classes.{is_raw, class_name, class_members}

-- a character, where one is meant
abbrev pub char_only : Meant × List ℕ → Option (ℕ × List ℕ)
char_only (Character c, t) = Some (c, t)
char_only (Members named, t) = None

-- one character, itself or escaped, that is not the first of the class
unfoldable pub single_at : List ℕ → Option (ℕ × List ℕ)
single_at [] = None
single_at (c ∷ t) =
    if c == 92 then meant_at t >>= char_only
    else if is_raw false c && not ((c == 38) && begins 38 t) then Some (c, t)
    else None

-- what stands at the front, and the text behind it
abbrev pub Fronted : Type 0
Fronted = Option (Front × List ℕ)

-- a range where a further character was read, else the first alone
abbrev pub range_to : ℕ → List ℕ → Option (ℕ × List ℕ) → Fronted
range_to value t None = Some (F.Adds (M.Range value value), t)
range_to value t (Some (last, rest)) = if nat_le value last then Some (F.Adds (M.Range value last), rest) else None

-- what a character begins
unfoldable pub after_single : ℕ → List ℕ → Fronted
after_single value [] = Some (F.Adds (M.Range value value), [])
after_single value (c ∷ t) = if c == 45 then range_to value (c ∷ t) (single_at t) else Some (F.Adds (M.Range value value), c ∷ t)

-- what an escape begins
abbrev pub after_meant : Meant × List ℕ → Fronted
after_meant (Character c, t) = after_single c t
after_meant (Members named, t) = Some (F.Adds (M.Set named), t)

-- an escape
abbrev pub slash_at : List ℕ → Fronted
slash_at t = meant_at t >>= after_meant

-- the set with the name, where a `]` follows
abbrev pub posix_end : Bool → List ℕ × List ℕ → Option (Named × List ℕ)
posix_end negated x = if begins 93 x.1 then option_map (λ listed. (of_listed listed negated, rest_of x.1)) (class_name x.0) else None

-- a name up to its `:]`
abbrev pub posix_name : Bool → List ℕ → Option (Named × List ℕ)
posix_name negated t = before 58 t >>= posix_end negated

-- a name behind `[:`
abbrev pub posix_caret : List ℕ → Option (Named × List ℕ)
posix_caret t = if begins 94 t then posix_name true (rest_of t) else posix_name false t

-- a name behind `[`
unfoldable pub posix_at : List ℕ → Option (Named × List ℕ)
posix_at t = if begins 58 t then posix_caret (rest_of t) else None

-- a name, or else a nested class
abbrev pub or_opens : List ℕ → Option (Named × List ℕ) → Fronted
or_opens t None = Some (F.Opens, t)
or_opens t (Some x) = Some (F.Adds (M.Set x.0), x.1)

-- what stands at the front
unfoldable pub front_at : Bool → List ℕ → Fronted
front_at first [] = None
front_at first (c ∷ t) =
    if c == 92 then slash_at t
    else if c == 91 then or_opens t (posix_at t)
    else if (c == 38) && begins 38 t then Some (F.Meets, rest_of t)
    else if is_raw first c then after_single c t
    else None

-- the ranges of a class, with how deep it is nested
abbrev pub Body : Type 0
Body = List CharRange × ℕ

-- how a class is read behind its `[`
abbrev pub Reader : Type 0
Reader = List ℕ → Option (Body × List ℕ)

-- a nested class as a part
abbrev pub inner_part : Body × List ℕ → Option (Part × List ℕ)
inner_part x = Some (Inner x.0.0 x.0.1, x.1)

-- the part that stands at the front
abbrev pub part_from : Reader → Front × List ℕ → Option (Part × List ℕ)
part_from inner (F.Adds m, t) = Some (Adds m, t)
part_from inner (F.Meets, t) = Some (Meets, t)
part_from inner (F.Opens, t) = inner t >>= inner_part

-- one part
abbrev pub part_at : Reader → Bool → List ℕ → Option (Part × List ℕ)
part_at inner first t = front_at first t >>= part_from inner

-- a `]` that ends the class
abbrev pub closes_at : Bool → List ℕ → Bool
closes_at first [] = false
closes_at first (c ∷ t) = (c == 93) && not first

-- the parts up to the `]` that ends the class, in so many steps at most
unfoldable pub parts_at : Reader → ℕ → Bool → List ℕ → Option (List Part × List ℕ)
parts_at inner zero first t = None
parts_at inner (suc n) first [] = None
parts_at inner (suc n) first (c ∷ t) =
    if (c == 93) && not first then Some ([], t)
    else (part_at inner first (c ∷ t) >>= λ p. parts_at inner n false p.1 >>= λ more. Some (p.0 ∷ more.0, more.1))

-- the parts up to `]`, with steps enough
abbrev pub parts_on : Reader → Bool → List ℕ → Option (List Part × List ℕ)
parts_on inner first t = parts_at inner (length t) first t

-- the parts with those before them
abbrev pub with_front : List Part → Option (List Part × List ℕ) → Option (List Part × List ℕ)
with_front front read = read >>= λ x. Some (front ++ x.0, x.1)

-- how deep a part is nested
abbrev pub part_height : Part → ℕ
part_height (Adds m) = 0
part_height Meets = 0
part_height (Inner ranges height) = height

-- how deep the parts are nested
abbrev pub highest : List Part → ℕ
highest [] = 0
highest (p ∷ ps) = max (part_height p) (highest ps)

-- the class with these parts
abbrev pub body_of : Bool → Bool → List Part × List ℕ → Option (Body × List ℕ)
body_of fold negated x = Some ((class_members fold negated x.0, 1 + highest x.0), x.1)

-- a class behind its `[` and, if it is negated, its `^`
abbrev pub signed_at : Reader → Bool → Bool → List ℕ → Option (Body × List ℕ)
signed_at inner fold negated t = parts_on inner true t >>= body_of fold negated

-- the text behind the `^`, if there is one
abbrev pub items_of : List ℕ → List ℕ
items_of t = if begins 94 t then rest_of t else t

-- a class behind its `[`
unfoldable pub body_at : ℕ → Bool → List ℕ → Option (Body × List ℕ)
body_at zero fold t = None
body_at (suc depth) fold t = signed_at (body_at depth fold) fold (begins 94 t) (items_of t)

-- the same as a tree
abbrev pub class_at : ℕ → Options → List ℕ → Option ((Tree × ℕ) × List ℕ)
class_at depth o t = option_map (λ x. ((InSet x.0.0 false, x.0.1), x.1)) (body_at depth o.fold t)
