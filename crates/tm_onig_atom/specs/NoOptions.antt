-- The options that hold where nothing sets them.
use Rattle.std.specs.Prelude.{false}
use Rattle.tm_onig_atom.specs.declared.options.Options.{Options}

-- Nothing is on.
abbrev pub no_options : Options
no_options = record { fold = false; newline = false; extended = false }
