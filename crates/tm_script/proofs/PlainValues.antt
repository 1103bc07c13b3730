-- Plain values: what `serde_json` reads of them, and looks into them.
use Rattle.std.proofs.Common.{rules, subst, zero, ◌≡◌, ℕ, suc, ◌<◌, ◌≤◌, ◌^◌, Bool, true, false, ◌&&◌, List, [], ◌∷◌, ◌++◌, length, Option, Some, None, option_map, option_and_then, refl, ap, sym, ◌∙◌, arith, append-nil, bytes_eq, cond, if◌then◌else◌, nat_lt, nat_le, Vec, Global}
use Rattle.std.proofs.lemmas.Bool.{and_parts, lt-ltb, ne_eqb}
use Rattle.std.proofs.lemmas.Slice.Eq.{bytes_eq-Decides}
use Rattle.std.proofs.lemmas.Str.Parse.{tells_digits, numerals_by_value, digits_value_short}
use Rattle.std.specs.Borrow.{Bor}
use Rattle.std.specs.Char.{is_ascii_digit, digit_value}
use Rattle.std.specs.List.{list_all}
use Rattle.std.specs.Str.Parse.{AllDigits, IsNumeral, digits_value, without_leading_plus}
use Rattle.fast_float.specs.Text.{Parts, IsWellFormed, scan}
use Rattle.fast_float.proofs.Writing.{scan-text_of}
use Rattle.json.specs.Token.{Token}
use Rattle.json.specs.Lex.{tokens}
use Rattle.json.specs.Json as json
use Rattle.json.specs.Find as find
use Rattle.json.specs.Value.{value_view, items_view, members_view}
use Rattle.json.specs.declared.value.Value.{Value, Array, Object, the_lemmas}
use Rattle.serde_json.specs.Data.{unsigned, Data, null, number, array, object, Items, Members, no_members, put}
use Rattle.serde_json.specs.Events.{items_len}
use Rattle.serde_json.specs.Find.{get, at, as_str, get_member, get_item}
use Rattle.serde_json.specs.Read.{number_of, number_from, of_json, of_items, of_members, read}
use Rattle.serde_json.proofs.Views.{get_member-put, get_member-put_other}
use Rattle.tm_script.specs.Values.{within_u32, item_count, whole_number}
use Rattle.tm_script.specs.inner.Plain.{is_whole, is_short, whole_data, plain_data, plain_items, plain_members, is_plain_item, are_plain_items, is_plain_value, are_plain_members}

-- ---- numbers

digit-value : (c : ℕ) → is_ascii_digit c ≡ true → digit_value c < 10
digit-value c h =
    let parts = and_parts (nat_le 48 c) (nat_le c 57) h in
    grind (arith, parts.0, parts.1)

all-digits : (s : List ℕ) → list_all is_ascii_digit s ≡ true → AllDigits 10 s
all-digits [] h = tt
all-digits (c ∷ cs) h = let parts = and_parts (is_ascii_digit c) (list_all is_ascii_digit cs) h in (digit-value c parts.0, all-digits cs parts.1)

-- a digit is neither of these signs
no-sign : (c : ℕ) → is_ascii_digit c ≡ true → ((c ≡ 45) → ⊥) × ((c ≡ 43) → ⊥)
no-sign c h =
    let parts = and_parts (nat_le 48 c) (nat_le c 57) h in
    (λ e. grind (arith, parts.0, e), λ e. grind (arith, parts.0, e))

abbrev digits : List ℕ → Parts
digits ds = record { whole = ds; point = false; fraction = []; exponent_negative = false; exponent = []; len = length (ds ++ []) }

formed : (ds : List ℕ) → AllDigits 10 ds → IsWellFormed (digits ds)
formed ds h = record { whole_digits = h; fraction_digits = tt; exponent_digits = tt; no_point = λ _. refl; no_exponent = λ _. refl; len_is = refl }

below-2-64 : (s : List ℕ) → AllDigits 10 s → length s ≤ 19 → digits_value 10 s < 2 ^ 64
below-2-64 s h short =
    let small : digits_value 10 s < 10 ^ 19 = digits_value_short (numerals_by_value (AllDigits 10) tells_digits) s 19 h short in
    omega (arith, small)

from-digits : (s : List ℕ) → 0 < length s → AllDigits 10 s → length s ≤ 19 → number_from false (digits s) ≡ Some (unsigned (digits_value 10 s))
from-digits s some h short =
    let small = below-2-64 s h short in
    rw (lt-ltb 0 (length s) some, append-nil s, lt-ltb (digits_value 10 s) (2 ^ 64) small) refl

short-number : (s : List ℕ) → is_short s ≡ true → number_of s ≡ Some (unsigned (digits_value 10 s))
unfolding number_of
short-number [] h = absurd cc
short-number (c ∷ cs) h =
    let parts = and_parts (is_whole (c ∷ cs)) (nat_le (length (c ∷ cs)) 19) h in
    let all = (and_parts (nat_lt 0 (length (c ∷ cs))) (list_all is_ascii_digit (c ∷ cs)) parts.0).1 in
    let first = (and_parts (is_ascii_digit c) (list_all is_ascii_digit cs) all).0 in
    let short : length (c ∷ cs) ≤ 19 = grind (arith, parts.1) in
    let some : 0 < length (c ∷ cs) = omega arith in
    let here = all-digits (c ∷ cs) all in
    rw (ne_eqb c 45 (no-sign c first).0)
    (ap (λ s. number_from false s) (ap scan (sym (append-nil (c ∷ cs))) ∙ scan-text_of (digits (c ∷ cs)) (formed (c ∷ cs) here)) ∙ from-digits (c ∷ cs) some here short)

-- what stands behind a plus is the same
no-plus : (s : List ℕ) → is_whole s ≡ true → without_leading_plus s ≡ s
no-plus [] h = absurd cc
no-plus (c ∷ cs) h =
    let all = (and_parts (nat_lt 0 (length (c ∷ cs))) (list_all is_ascii_digit (c ∷ cs)) h).1 in
    let first = (and_parts (is_ascii_digit c) (list_all is_ascii_digit cs) all).0 in
    rw (ne_eqb c 43 (no-sign c first).1) refl

pub whole-parsed : (s : List ℕ) (n : ℕ) → is_whole s ≡ true → n ≡ digits_value 10 (without_leading_plus s) → within_u32 n ≡ (if is_whole s then within_u32 (digits_value 10 s) else None)
whole-parsed s n h parsed = rw h (ap within_u32 (parsed ∙ ap (digits_value 10) (no-plus s h)))

-- what is no `u64` is no `u32`
pub too-large : (s : List ℕ) → is_whole s ≡ true → (IsNumeral 10 (without_leading_plus s) × (digits_value 10 (without_leading_plus s) < 2 ^ 64) → ⊥) → None ≡ (if is_whole s then within_u32 (digits_value 10 s) else None)
too-large s h large =
    let parts = and_parts (nat_lt 0 (length s)) (list_all is_ascii_digit s) h in
    let some : 0 < length s = grind (arith, parts.0) in
    let P : List ℕ → Type 0 = λ l. (IsNumeral 10 l × (digits_value 10 l < 2 ^ 64) → ⊥) in
    let here : P s = subst P (no-plus s h) large in
    rw h (go (nat_lt (digits_value 10 s) (2 ^ 32)) refl (λ lt. here ((some, all-digits s parts.1), lt)))
  where
    go : (b : Bool) → nat_lt (digits_value 10 s) (2 ^ 32) ≡ b → (digits_value 10 s < 2 ^ 64 → ⊥) → None ≡ (if b then Some (digits_value 10 s) else None)
    go true e never = absurd (never (grind (arith, e)))
    go false e never = refl

-- ---- what is read

number-read : (s : List ℕ) → is_short s ≡ true → of_json (json.number s) ≡ Some (whole_data s)
number-read s h =
    let whole = (and_parts (is_whole s) (nat_le (length s) 19) h).0 in
    rw (short-number s h, whole) refl

item-read : (j : json.Json) → is_plain_item j ≡ true → of_json j ≡ Some (plain_data j)
item-read json.null h = absurd cc
item-read (json.boolean b) h = absurd cc
item-read (json.number s) h = number-read s h
item-read (json.string s) h = refl
item-read (json.array js) h = absurd cc
item-read (json.object ms) h = absurd cc

items-read : (js : json.Items) → are_plain_items js ≡ true → of_items js ≡ Some (plain_items js)
items-read json.no_items h = refl
items-read (json.item j js) h =
    let parts = and_parts (is_plain_item j) (are_plain_items js) h in
    rw (item-read j parts.0, items-read js parts.1) refl

value-read : (j : json.Json) → is_plain_value j ≡ true → of_json j ≡ Some (plain_data j)
value-read json.null h = absurd cc
value-read (json.boolean b) h = absurd cc
value-read (json.number s) h = number-read s h
value-read (json.string s) h = refl
value-read (json.array js) h = rw (items-read js h) refl
value-read (json.object ms) h = absurd cc

members-read : (ms : json.Members) (old : Members) → are_plain_members ms ≡ true → of_members ms old ≡ Some (plain_members ms old)
members-read json.no_members old h = refl
members-read (json.member k j ms) old h =
    let parts = and_parts (is_plain_value j) (are_plain_members ms) h in
    rw (value-read j parts.0) (members-read ms (put k (plain_data j) old) parts.1)

-- the whole text is one value
pub text-read : (text : List ℕ) (j : json.Json) (d : Data) (ts us : List Token) → ts ≡ tokens text → json.value 127 ts ≡ Some (j, us) → us ≡ [] → of_json j ≡ Some d → read text ≡ Some d
text-read text j d ts us start found end said =
    ap (λ o. option_and_then of_json (option_and_then (λ p. json.if_last p.0 p.1) o)) (ap (json.value 127) (sym start) ∙ found ∙ ap (λ l. Some (j, l)) end) ∙ said

-- ---- values of the reader as it keeps them

view-array : (v : Vec (Value Global) Global) → value_view (Array v) ≡ json.array (items_view v.items)
view-array v = search (rules, the_lemmas)

view-object : (v : Vec (Bor (List ℕ) × Value Global) Global) → value_view (Object v) ≡ json.object (members_view v.items)
view-object v = search (rules, the_lemmas)

items-plain : (vs : List (Value Global)) → list_all (λ v. is_plain_item (value_view v)) vs ≡ are_plain_items (items_view vs)
items-plain [] = refl
items-plain (v ∷ vs) = ap (λ b. is_plain_item (value_view v) && b) (items-plain vs)

members-plain : (ms : List (Bor (List ℕ) × Value Global)) → list_all (λ m. is_plain_value (value_view m.1)) ms ≡ are_plain_members (members_view ms)
members-plain [] = refl
members-plain (m ∷ ms) = ap (λ b. is_plain_value (value_view m.1) && b) (members-plain ms)

pub array-plain : (value : Value Global) (v : Vec (Value Global) Global) (b : Bool) (items : List (Value Global)) → value ≡ Array v → items ≡ v.items → b ≡ list_all (λ i. is_plain_item (value_view i)) items → b ≡ is_plain_value (value_view value)
array-plain value v b items is kept tested =
    tested ∙ ap (list_all (λ i. is_plain_item (value_view i))) kept ∙ items-plain v.items ∙ ap is_plain_value (sym (ap value_view is ∙ view-array v))

pub object-plain : (value : Value Global) (v : Vec (Bor (List ℕ) × Value Global) Global) (b : Bool) (members : List (Bor (List ℕ) × Value Global)) → value ≡ Object v → members ≡ v.items → b ≡ list_all (λ m. is_plain_value (value_view m.1)) members → b ≡ true → of_json (value_view value) ≡ Some (plain_data (value_view value))
object-plain value v b members is kept tested passed =
    let plain : are_plain_members (members_view v.items) ≡ true = sym (members-plain v.items) ∙ sym (tested ∙ ap (list_all (λ m. is_plain_value (value_view m.1))) kept) ∙ passed in
    rw (is, view-object v) (rw (members-read (members_view v.items) no_members plain) refl)

items-many : (vs : List (Value Global)) → items_len (plain_items (items_view vs)) ≡ length vs
items-many [] = refl
items-many (v ∷ vs) = ap suc (items-many vs)

pub array-count : (value : Value Global) (v : Vec (Value Global) Global) (n : ℕ) → value ≡ Array v → n ≡ length v.items → n ≡ item_count (plain_data (value_view value))
array-count value v n is counted = counted ∙ sym (items-many v.items) ∙ ap (λ j. item_count (plain_data j)) (sym (ap value_view is ∙ view-array v))

-- ---- looks

abbrev or_else : Option Data → Option Data → Option Data
or_else (Some d) o = Some d
or_else None o = o

member-found : (k : List ℕ) (ms : json.Members) (old : Members) → get_member k (plain_members ms old) ≡ or_else (option_map plain_data (find.get_member k ms)) (get_member k old)
member-found k json.no_members old = refl
member-found k (json.member l j ms) old = member-found k ms (put l (plain_data j) old) ∙ later (find.get_member k ms)
  where
    here : (b : Bool) → bytes_eq l k ≡ b → get_member k (put l (plain_data j) old) ≡ or_else (option_map plain_data (cond b (Some j) None)) (get_member k old)
    here true e =
        let same : l ≡ k = (bytes_eq-Decides l k).0 e in
        ap (λ z. get_member k (put z (plain_data j) old)) same ∙ get_member-put k (plain_data j) old
    here false e =
        let other : k ≡ l → ⊥ = λ same. let equal : bytes_eq l k ≡ true = (bytes_eq-Decides l k).1 (sym same) in absurd cc in
        get_member-put_other k l (plain_data j) old other

    later : (o : Option json.Json) → or_else (option_map plain_data o) (get_member k (put l (plain_data j) old)) ≡ or_else (option_map plain_data (find.later_or o (cond (bytes_eq l k) (Some j) None))) (get_member k old)
    later (Some i) = refl
    later None = here (bytes_eq l k) refl

or-none : (o : Option Data) → or_else o None ≡ o
or-none (Some d) = refl
or-none None = refl

item-found : (n : ℕ) (js : json.Items) → option_map plain_data (find.get_item n js) ≡ get_item n (plain_items js)
item-found n json.no_items = refl
item-found zero (json.item j js) = refl
item-found (suc n) (json.item j js) = item-found n js

whole-get : (k : List ℕ) (b : Bool) (n : ℕ) → None ≡ get k (if b then number (unsigned n) else null)
whole-get k true n = refl
whole-get k false n = refl

whole-at : (i : ℕ) (b : Bool) (n : ℕ) → None ≡ at i (if b then number (unsigned n) else null)
whole-at i true n = refl
whole-at i false n = refl

whole-str : (b : Bool) (n : ℕ) → None ≡ as_str (if b then number (unsigned n) else null)
whole-str true n = refl
whole-str false n = refl

whole-count : (b : Bool) (n : ℕ) → 0 ≡ item_count (if b then number (unsigned n) else null)
whole-count true n = refl
whole-count false n = refl

whole-number-is : (b : Bool) (n : ℕ) → (if b then within_u32 n else None) ≡ whole_number (if b then number (unsigned n) else null)
whole-number-is true n = refl
whole-number-is false n = refl

pub plain-get : (k : List ℕ) (j : json.Json) → option_map plain_data (find.get k j) ≡ get k (plain_data j)
plain-get k json.null = refl
plain-get k (json.boolean b) = refl
plain-get k (json.number s) = whole-get k (is_whole s) (digits_value 10 s)
plain-get k (json.string s) = refl
plain-get k (json.array js) = refl
plain-get k (json.object ms) = sym (member-found k ms no_members ∙ or-none (option_map plain_data (find.get_member k ms)))

pub plain-at : (i : ℕ) (j : json.Json) → option_map plain_data (find.at i j) ≡ at i (plain_data j)
plain-at i json.null = refl
plain-at i (json.boolean b) = refl
plain-at i (json.number s) = whole-at i (is_whole s) (digits_value 10 s)
plain-at i (json.string s) = refl
plain-at i (json.array js) = item-found i js
plain-at i (json.object ms) = refl

pub plain-str : (j : json.Json) → find.as_str j ≡ as_str (plain_data j)
plain-str json.null = refl
plain-str (json.boolean b) = refl
plain-str (json.number s) = whole-str (is_whole s) (digits_value 10 s)
plain-str (json.string s) = refl
plain-str (json.array js) = refl
plain-str (json.object ms) = refl

abbrev whole_in : List ℕ → Option ℕ
whole_in s = if is_whole s then within_u32 (digits_value 10 s) else None

pub plain-number : (j : json.Json) → option_and_then whole_in (find.as_number j) ≡ whole_number (plain_data j)
plain-number json.null = refl
plain-number (json.boolean b) = refl
plain-number (json.number s) = whole-number-is (is_whole s) (digits_value 10 s)
plain-number (json.string s) = refl
plain-number (json.array js) = refl
plain-number (json.object ms) = refl

pub seen-as : (r : Option (Bor (Value Global))) (o : Option json.Json) → option_map (λ v. value_view v.now) r ≡ o → option_map (λ v. plain_data (value_view v.now)) r ≡ option_map plain_data o
seen-as None o h = ap (option_map plain_data) h
seen-as (Some v) o h = ap (option_map plain_data) h
