-- What a theme's file gives fits into the metadata word.
use Rattle.std.proofs.Common.{◌≡◌, ℕ, ◌≤◌, Bool, true, false, not, ◌&&◌, ◌||◌, List, [], ◌∷◌, ◌++◌, Option, Some, None, refl, sym, subst, arith, if◌then◌else◌, nat_lt}
use Rattle.std.specs.Prelude.{codes, option_map, unwrap_or}
use Rattle.std.proofs.lemmas.Bool.Decides.{nat_tests}
use Rattle.serde_json.specs.Data.{Data, null, boolean, number, string, array, object, Items, no_items, item}
use Rattle.serde_json.specs.Find.{get}
use Rattle.tm_theme.specs.declared.style.Style.{Style}
use Rattle.tm_theme.specs.declared.style.Alternative.{Alternative}
use Rattle.tm_theme.specs.Style.{IsAtMost, IsSmallStyle, AreSmall}
use Rattle.tm_theme_file.specs.declared.read.WrittenRule.{WrittenRule}
use Rattle.tm_theme.specs.declared.palette.Defaults.{Defaults}
use Rattle.tm_theme_file.specs.Written.{has_word, bit, font_of}
use Rattle.tm_theme_file.specs.Wrong.{rules_key}
use Rattle.tm_theme_file.specs.Read.{setting_text, rule_of, rules_of, rules_at, rules_in}
use Rattle.tm_theme.specs.Palette.{with_default, defaults_from, number_of, is_over, rule_is_over, are_too_many, style_of, alternatives_with, all_alternatives}
use Rattle.tm_theme.specs.Fonts.{AreFonts}

bit-le : (b : Bool) (v : ℕ) → bit b v ≤ v
bit-le true v = omega arith
bit-le false v = omega arith

font-le : (text : List ℕ) → font_of text ≤ 15
font-le text =
    omega (arith, bit-le (has_word (codes "italic") text) 1, bit-le (has_word (codes "bold") text) 2, bit-le (has_word (codes "underline") text) 4, bit-le (has_word (codes "strikethrough") text) 8)

rule-font : (d : Data) → IsAtMost 15 (rule_of d).font
rule-font d = go (setting_text (codes "fontStyle") d)
  where
    go : (o : Option (List ℕ)) → IsAtMost 15 (option_map font_of o)
    go None = tt
    go (Some text) = font-le text

of-items : (ds : Items) → AreFonts (rules_of ds)
of-items no_items = tt
of-items (item d ds) = (rule-font d, of-items ds)

at-fonts : (o : Option Data) → AreFonts (rules_at o)
at-fonts None = tt
at-fonts (Some null) = tt
at-fonts (Some (boolean b)) = tt
at-fonts (Some (number n)) = tt
at-fonts (Some (string s)) = tt
at-fonts (Some (array ds)) = of-items ds
at-fonts (Some (object ms)) = tt

pub rules-fonts : (rules : List WrittenRule) (d : Data) → rules ≡ rules_in d → AreFonts rules
rules-fonts rules d e = subst AreFonts (sym e) (at-fonts (get (rules_key d) d))

or-small : (o : Option ℕ) (n : ℕ) → IsAtMost 15 o → n ≤ 15 → unwrap_or o n ≤ 15
or-small None n h le = le
or-small (Some v) n h le = h

default-small : (r : WrittenRule) (d : Defaults) → IsAtMost 15 r.font → d.font ≤ 15 → (with_default r d).font ≤ 15
default-small r d h le = go r.plain
  where
    go : (b : Bool) → (if b then (record { font = unwrap_or r.font d.font; foreground = unwrap_or r.foreground d.foreground; background = unwrap_or r.background d.background }) else d).font ≤ 15
    go true = or-small r.font d.font h le
    go false = le

pub defaults-small : (rules : List WrittenRule) (d : Defaults) → AreFonts rules → d.font ≤ 15 → (defaults_from d rules).font ≤ 15
defaults-small [] d h le = le
defaults-small (r ∷ rules) d h le = defaults-small rules (with_default r d) h.1 (default-small r d h.0 le)

over-small : (limit : ℕ) (palette : List (List ℕ)) (colour : Option (List ℕ)) → is_over limit palette colour ≡ false → IsAtMost limit (option_map (number_of palette) colour)
over-small limit palette None e = tt
over-small limit palette (Some c) e = at-most (number_of palette c) e
  where
    at-most : (n : ℕ) → nat_lt limit n ≡ false → n ≤ limit
    at-most n e = grind (arith, nat_tests)

pub or-left : (a b : Bool) → (a || b) ≡ false → a ≡ false
or-left true b e = e
or-left false b e = refl

pub or-right : (a b : Bool) → (a || b) ≡ false → b ≡ false
or-right true b e = cc
or-right false b e = e

pub and-known : (a b : Bool) → a ≡ false → (not a && b) ≡ false → b ≡ false
and-known true b p e = cc
and-known false b p e = e

pub first-fits : (b c : Bool) → (if b then true else c) ≡ false → b ≡ false
first-fits true c e = e
first-fits false c e = refl

pub rest-fits : (b c : Bool) → (if b then true else c) ≡ false → c ≡ false
rest-fits true c e = cc
rest-fits false c e = e

style-small : (palette : List (List ℕ)) (r : WrittenRule) → IsAtMost 15 r.font → rule_is_over palette r ≡ false → IsSmallStyle (style_of palette r)
style-small palette r h e = record {
  font = h;
  foreground = over-small 511 palette r.foreground (or-left (is_over 511 palette r.foreground) (is_over 255 palette r.background) e);
  background = over-small 255 palette r.background (or-right (is_over 511 palette r.foreground) (is_over 255 palette r.background) e);
}

with-small : (style : Style) (all : List (List (List ℕ))) (more : List Alternative) → IsSmallStyle style → AreSmall more → AreSmall (alternatives_with style all ++ more)
with-small style [] more h m = m
with-small style (words ∷ all) more h m = (h, with-small style all more h m)

pub alternatives-small : (palette : List (List ℕ)) (rules : List WrittenRule) → AreFonts rules → are_too_many palette rules ≡ false → AreSmall (all_alternatives palette rules)
alternatives-small palette [] h e = tt
alternatives-small palette (r ∷ rules) h e =
    go r.plain (first-fits (not r.plain && rule_is_over palette r) (are_too_many palette rules) e) (alternatives-small palette rules h.1 (rest-fits (not r.plain && rule_is_over palette r) (are_too_many palette rules) e))
  where
    go : (b : Bool) → (not b && rule_is_over palette r) ≡ false → AreSmall (all_alternatives palette rules) →
        AreSmall ((if b then [] else alternatives_with (style_of palette r) r.alternatives) ++ all_alternatives palette rules)
    go true k m = m
    go false k m = with-small (style_of palette r) r.alternatives (all_alternatives palette rules) (style-small palette r h.0 k) m
