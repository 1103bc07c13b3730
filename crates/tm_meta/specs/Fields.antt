-- The parts of the metadata word, by their bits (vscode-textmate, encoded token attributes).
use Rattle.std.specs.Prelude.{ℕ, ◌+◌, ◌*◌, ◌/◌, ◌%◌, ◌^◌, ◌==◌, Bool, true, false}
use Rattle.tm_meta.specs.declared.fields.Fields.{Fields}

abbrev pub balanced_bit : Bool → ℕ
balanced_bit true = 1
balanced_bit false = 0

-- the language in bits 0 to 7, the token type in 8 and 9, balanced brackets in bit 10, the font style in 11 to 14, the
-- foreground in 15 to 23, the background in 24 to 31
abbrev pub packed_fields : Fields → ℕ
packed_fields f = f.language + 2 ^ 8 * f.token_type + 2 ^ 10 * balanced_bit f.balanced + 2 ^ 11 * f.font + 2 ^ 15 * f.foreground + 2 ^ 24 * f.background

-- the parts of a word: n bits from bit k on are the word by 2 ^ k, of which the rest by 2 ^ n is taken
abbrev pub fields_of : ℕ → Fields
fields_of meta = record {
  language = meta % 2 ^ 8;
  token_type = meta / 2 ^ 8 % 2 ^ 2;
  balanced = meta / 2 ^ 10 % 2 == 1;
  font = meta / 2 ^ 11 % 2 ^ 4;
  foreground = meta / 2 ^ 15 % 2 ^ 9;
  background = meta / 2 ^ 24 % 2 ^ 8;
}
