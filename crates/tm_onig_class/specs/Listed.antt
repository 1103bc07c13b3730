-- The sets that have names of their own, by general categories and code points.
use Rattle.std.specs.Prelude.{ℕ, Bool, false, not, ◌||◌, List, [], ◌∷◌}
use Prim.Native.String.{String}
use Rattle.regex_class.specs.Ranges.{Range, in_ranges}
use Rattle.ucd_category.specs.declared.GeneralCategory.TheVariants.{UppercaseLetter, LowercaseLetter, DecimalNumber, ConnectorPunctuation, SpaceSeparator, LineSeparator, ParagraphSeparator, Control, Surrogate, Unassigned}
use Rattle.ucd_category.specs.declared.GeneralCategoryGroup.TheVariants as Group
use Rattle.ucd_sets.specs.declared.set.Set.{Set as KitSet}
use Rattle.ucd_sets.specs.declared.set.Set.TheVariants.{Any as EveryCode, Category, CategoryGroup}
use Rattle.ucd_sets.specs.Sets.{in_set}
use Rattle.tm_onig_class.specs.declared.listed.Listed.{Listed}
use Rattle.tm_onig_class.specs.declared.listed.Listed.TheVariants.{Word, Digit, Space, Xdigit, Alpha, Alnum, Blank, Cntrl, Lower, Upper, Punct, Graph, Print, Ascii, Any}

-- the character is in one of the sets
unfoldable pub in_one : List KitSet → ℕ → Bool
in_one [] c = false
in_one (s ∷ ss) c = in_set s c || in_one ss c

-- the character is in one of the sets or ranges
abbrev pub among : List KitSet → List Range → ℕ → Bool
among sets ranges c = in_one sets c || in_ranges ranges c

-- white space
abbrev pub in_space : ℕ → Bool
in_space = among (Category SpaceSeparator ∷ Category LineSeparator ∷ Category ParagraphSeparator ∷ []) ((0x09, 0x0D) ∷ (0x85, 0x85) ∷ [])

-- neither white space nor a control, nor a code point without a character
abbrev pub in_graph : ℕ → Bool
in_graph c = not (in_space c || among (Category Control ∷ Category Unassigned ∷ Category Surrogate ∷ []) [] c)

-- the members of each set
unfoldable pub in_listed : Listed → ℕ → Bool
in_listed Word = among (CategoryGroup Group.Letter ∷ CategoryGroup Group.Mark ∷ Category DecimalNumber ∷ Category ConnectorPunctuation ∷ []) []
in_listed Digit = among (Category DecimalNumber ∷ []) []
in_listed Space = in_space
in_listed Xdigit = among [] ((0x30, 0x39) ∷ (0x41, 0x46) ∷ (0x61, 0x66) ∷ [])
in_listed Alpha = among (CategoryGroup Group.Letter ∷ CategoryGroup Group.Mark ∷ []) []
in_listed Alnum = among (CategoryGroup Group.Letter ∷ CategoryGroup Group.Mark ∷ Category DecimalNumber ∷ []) []
in_listed Blank = among (Category SpaceSeparator ∷ []) ((0x09, 0x09) ∷ [])
in_listed Cntrl = among (Category Control ∷ []) []
in_listed Lower = among (Category LowercaseLetter ∷ []) []
in_listed Upper = among (Category UppercaseLetter ∷ []) []
in_listed Punct = among (CategoryGroup Group.Punctuation ∷ []) ((0x24, 0x24) ∷ (0x2B, 0x2B) ∷ (0x3C, 0x3E) ∷ (0x5E, 0x5E) ∷ (0x60, 0x60) ∷ (0x7C, 0x7C) ∷ (0x7E, 0x7E) ∷ [])
in_listed Graph = in_graph
in_listed Print = λ c. in_graph c || among (Category SpaceSeparator ∷ []) [] c
in_listed Ascii = among [] ((0x00, 0x7F) ∷ [])
in_listed Any = among (EveryCode ∷ []) []

-- the name of each set
abbrev pub listed_name : Listed → String
listed_name Word = "word"
listed_name Digit = "digit"
listed_name Space = "space"
listed_name Xdigit = "xdigit"
listed_name Alpha = "alpha"
listed_name Alnum = "alnum"
listed_name Blank = "blank"
listed_name Cntrl = "cntrl"
listed_name Lower = "lower"
listed_name Upper = "upper"
listed_name Punct = "punct"
listed_name Graph = "graph"
listed_name Print = "print"
listed_name Ascii = "ascii"
listed_name Any = "any"
