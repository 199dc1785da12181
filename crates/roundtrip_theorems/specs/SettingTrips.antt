-- PLARS settings, written and read back, and read and written again (docs/FORMATS.md, "Round trips").
use Rattle.std.specs.Prelude.{ℕ, ◌≡◌, true, List}
use Rattle.framing.specs.declared.Format.TheVariants.{Nmea}
use Rattle.framing.specs.Frame.{IsFrame}
use Rattle.answer.specs.Answer.{given}
use Rattle.nmea_plars.specs.declared.Setting.{Setting}
use Rattle.nmea_plars.specs.Plars.{setting_of}
use Rattle.nmea_plars_writer.specs.Text.{takes_setting, write_setting}
use Rattle.roundtrip_theorems.specs.FrameTrips.{made}

-- The bytes s are one sentence, whole, and read back as the setting x.
pub record ReadsSetting (x : Setting) (s : List ℕ) : Type 0 where
  pub frame : IsFrame Nmea s
  pub setting : setting_of s ≡ given x

abbrev pub SettingWrittenThenRead : Type 0
SettingWrittenThenRead = (x : Setting) (out : List ℕ) → (write_setting x out).number ≡ 0 → ReadsSetting x (made (write_setting x out))

-- Every setting that is read is taken, and written again it gives the same bytes.
pub record SameSentence (s out : List ℕ) : Type 0 where
  pub taken : takes_setting (setting_of s).value ≡ true
  pub same : (write_setting (setting_of s).value out).number ≡ 0 → made (write_setting (setting_of s).value out) ≡ s

abbrev pub SettingReadThenWritten : Type 0
SettingReadThenWritten = (s out : List ℕ) → (setting_of s).number ≡ 0 → SameSentence s out
