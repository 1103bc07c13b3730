-- What a command stands on once its files are read, as plain data.
use Rattle.std.specs.Prelude.{ℕ, List}
use Rattle.tm_forms.specs.declared.script.Scripted.{Scripted}
use Rattle.tm_line.specs.Setting.{Setting}
use Rattle.tm_app.specs.declared.setup.Setup.{Setup}

-- the budget of a line, the settings as their scopes and rules, the characters of the text, and the steps
pub record SetupData : Type 0 where
  pub budget : ℕ
  pub settings : List Setting
  pub text : List ℕ
  pub script : List Scripted

abbrev pub setup_data : Setup → SetupData
setup_data setup = record { budget = setup.budget; settings = setup.settings.items; text = setup.text; script = setup.script }

-- settings whose patterns are looked at, or a run over a text
pub data Work : Type 0 where
  Linted : (settings : List Setting) → Work
  Played : (setup : SetupData) → Work
