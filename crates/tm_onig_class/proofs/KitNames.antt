-- Names as the kit's tables have them.
use Rattle.std.proofs.Common.{◌≡◌, ℕ, List, [], ◌∷◌, Some, None, refl, codes, zero, suc, ◌<◌, ◌≤◌, true, false, map, drop, length, get_or, bytes_eq, arith}
use Rattle.tm_onig_class.specs.declared.listed.Listed.{Listed as ListedType}
use Rattle.tm_onig_class.specs.Listed.{listed_name}
use Rattle.tm_onig_class.specs.Named.{with_name}
use Rattle.std.specs.Prelude.{option_map}
use Rattle.ucd_sets.specs.declared.set.Set.TheVariants.{Script}
use Rattle.ucd_sets.specs.Lookup.{by_value, value_of, property_named}
use Rattle.ucd_sets.specs.Loose.{loosely, value_named, normalize}
use Rattle.ucd_sets.specs.Names.{category_names, script_names, property_names}

-- the kit looks a category up in its names
pub by_category : (name : List ℕ) → by_value (103 ∷ 99 ∷ []) name ≡ value_named (loosely category_names) name
unfolding by_value value_of property_named property_names normalize value_named
by_category name = refl

-- the kit looks a script up in its names
pub by_script : (name : List ℕ) → by_value (115 ∷ 99 ∷ []) name ≡ option_map Script (value_named (loosely script_names) name)
unfolding by_value value_of property_named property_names normalize value_named
by_script name = refl

-- the name is that of the set at this place
pub named-here : (ls : List ListedType) (i : ℕ) (d : ListedType) (name : List ℕ) → i < length ls → bytes_eq (codes (listed_name (get_or ls i d))) name ≡ true →
    value_named (drop i (map with_name ls)) name ≡ Some (get_or ls i d)
unfolding value_named
named-here [] i d name lt e = absurd (omega arith)
named-here (l ∷ ls) zero d name lt e = rw e refl
named-here (l ∷ ls) (suc i) d name lt e = named-here ls i d name (omega arith) e

-- the name is not that of the set at this place
pub named-later : (ls : List ListedType) (i : ℕ) (d : ListedType) (name : List ℕ) → i < length ls → bytes_eq (codes (listed_name (get_or ls i d))) name ≡ false →
    value_named (drop (suc i) (map with_name ls)) name ≡ value_named (drop i (map with_name ls)) name
unfolding value_named
named-later [] i d name lt e = absurd (omega arith)
named-later (l ∷ ls) zero d name lt e = rw e refl
named-later (l ∷ ls) (suc i) d name lt e = named-later ls i d name (omega arith) e

-- past the last set no name is left
pub named-past : (ls : List ListedType) (i : ℕ) (name : List ℕ) → length ls ≤ i → value_named (drop i (map with_name ls)) name ≡ None
unfolding value_named
named-past [] zero name le = refl
named-past [] (suc i) name le = refl
named-past (l ∷ ls) zero name le = absurd (omega arith)
named-past (l ∷ ls) (suc i) name le = named-past ls i name (omega arith)
