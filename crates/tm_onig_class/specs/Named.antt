-- The set that a name stands for.
use Rattle.std.specs.Prelude.{nat_lt, ◌≡◌, ℕ, ◌+◌, Bool, false, ◌||◌, ◌&&◌, not, ◌==◌, List, [], ◌∷◌, map, length, Option, Some, None, option_map, filter_map, codes, bytes_eq, if◌then◌else◌}
use Rattle.std.specs.Option.{option_or}
use Rattle.std.specs.List.{list_all}
use Rattle.std.specs.Char.{is_ascii, to_ascii_lowercase}
use Prim.Native.String.{String}
use Rattle.ucd_sets.specs.declared.set.Set.{Set as KitSet}
use Rattle.ucd_sets.specs.declared.set.Set.TheVariants.{Script}
use Rattle.ucd_sets.specs.Loose.{loosely, value_named}
use Rattle.ucd_sets.specs.Names.{category_names, script_names}
use Rattle.ucd_sets.specs.Sets.{in_set}
use Rattle.ucd_script.specs.declared.Script.{Script as ScriptType}
use Rattle.ucd_script.specs.Script.{script_eq}
use Rattle.tm_onig_class.specs.declared.listed.Listed.{Listed as ListedType}
use Rattle.tm_onig_class.specs.declared.listed.Listed.TheVariants.{Word, Digit, Space, Xdigit, Alpha, Alnum, Blank, Cntrl, Lower, Upper, Punct, Graph, Print, Ascii, Any}
use Rattle.tm_onig_class.specs.declared.names.Known.{Known}
use Rattle.tm_onig_class.specs.declared.names.Known.TheVariants.{Listed, Kit}
use Rattle.tm_onig_class.specs.Listed.{in_listed, listed_name}
use Rattle.tm_onig_class.specs.Members.{IsChar, has_char}
use Rattle.regex_class.specs.Ranges.{Range}

-- a set with its name in front
abbrev pub with_name : ListedType → List ℕ × ListedType
with_name l = (codes (listed_name l), l)

-- the sets that have names of their own
abbrev pub all_listed : List ListedType
all_listed = Word ∷ Digit ∷ Space ∷ Xdigit ∷ Alpha ∷ Alnum ∷ Blank ∷ Cntrl ∷ Lower ∷ Upper ∷ Punct ∷ Graph ∷ Print ∷ Ascii ∷ Any ∷ []

-- the same with their names
unfoldable pub listed_names : List (List ℕ × ListedType)
listed_names = map with_name all_listed

-- the name is one of the words
abbrev pub is_one_of : List String → List ℕ → Bool
is_one_of [] name = false
is_one_of (word ∷ words) name = bytes_eq (codes word) name || is_one_of words name

-- what the kit counts as a category's name and is neither short nor long
abbrev pub is_no_category : List ℕ → Bool
is_no_category = is_one_of ("assigned" ∷ "combiningmark" ∷ [])

-- each short name of a script has four letters; these names of four letters are long ones
abbrev pub long_scripts_of_four : List String
long_scripts_of_four = "ahom" ∷ "cham" ∷ "kawi" ∷ "lisu" ∷ "miao" ∷ "modi" ∷ "newa" ∷ "seal" ∷ "thai" ∷ "toto" ∷ []

-- a name of four letters that is no long one
abbrev pub is_short_script : List ℕ → Bool
is_short_script name = (length name == 4) && not (is_one_of long_scripts_of_four name)

-- a category or a group of categories, by its short or long name
abbrev pub category_named : List ℕ → Option KitSet
category_named name = if is_no_category name then None else value_named (loosely category_names) name

-- the rows with a script's long name: rows of one script stand together, its short name first, if it has two, and its long one next
unfoldable pub long_rows : ℕ → List (String × ScriptType) → List (String × ScriptType)
long_rows seen [] = []
long_rows seen (r ∷ []) = if nat_lt seen 2 then r ∷ [] else []
long_rows seen (r ∷ s ∷ rows) =
    let same = script_eq r.1 s.1 in
    let later = long_rows (if same then seen + 1 else 0) (s ∷ rows) in
    if (seen == 1) || ((seen == 0) && not same) then r ∷ later else later

-- a script, by its long name
abbrev pub script_named : List ℕ → Option KitSet
script_named name = option_map Script (value_named (loosely (long_rows 0 script_names)) name)

-- the set with a name in its plain form
abbrev pub known_plain : List ℕ → Option Known
known_plain name =
    option_or (option_map Listed (value_named listed_names name))
    (option_or (option_map Kit (category_named name)) (option_map Kit (script_named name)))

-- spaces, underscores, hyphens and case do not count
abbrev pub plain : ℕ → Option ℕ
plain c = if ((c == 32) || (c == 95)) || (c == 45) then None else Some (to_ascii_lowercase c)

-- the set with a name
abbrev pub known : List ℕ → Option Known
known name = if list_all is_ascii name then known_plain (filter_map plain name) else None

-- the members of a set that has a name
abbrev pub in_known : Known → ℕ → Bool
in_known (Listed l) c = in_listed l c
in_known (Kit s) c = in_set s c

-- a set where a name has one, with its members, and none where it has none
abbrev pub SameOption : Option (List Range) → Option Known → Type 0
SameOption (Some ranges) (Some k) = (c : ℕ) → IsChar c → has_char ranges c ≡ in_known k c
SameOption None None = Unit
SameOption _ _ = ⊥
