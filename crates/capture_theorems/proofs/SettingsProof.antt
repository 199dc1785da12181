-- Settings through the exported functions, both ways.
-- Assumes nothing.
use mathlib.Core.Path.{◌≡◌, sym, ap, ◌∙◌}
use Rattle.nmea_plars.specs.declared.Setting.{Setting}
use Rattle.nmea_plars.specs.Plars.{setting_of}
use Rattle.frame_writer.specs.Frames.{nmea_frame}
use Rattle.nmea_plars_writer.specs.Text.{setting_body, takes_setting}
use Rattle.framing.specs.Format.{format_of}
use Rattle.roundtrip_theorems.proofs.SettingsWritten.{setting-written-then-read}
use Rattle.roundtrip_theorems.proofs.SettingsRewritten.{sentence-rewritten}
use Rattle.capture_values.specs.declared.Values.{Values}
use Rattle.capture_values.specs.Values.{values_of, setting_values}
use Rattle.capture_values.specs.FieldFunctions.{field_functions, read_values}
use Rattle.capture_theorems.specs.Trips.{ExportedSettingWrittenThenRead, ExportedSettingReadThenWritten}
use Rattle.capture_theorems.proofs.WritesLaws.{writes}
use Rattle.capture_theorems.proofs.Shown.{shown}

pub exported-setting-written-then-read : ExportedSettingWrittenThenRead
unfolding read_values field_functions format_of
exported-setting-written-then-read x out e = ap (values_of setting_values) (setting-written-then-read x out e).setting

-- the setting that a field function shows
abbrev setting_in : Values → Setting
setting_in v = record { source = shown 0 v; parameter = shown 1 v; value = shown 2 v }

pub exported-setting-read-then-written : ExportedSettingReadThenWritten
unfolding read_values field_functions format_of
exported-setting-read-then-written x s out e =
    let r = sentence-rewritten s (ap (λ (v : Values). v.number) e) in
    let h : x ≡ (setting_of s).value = ap setting_in (sym e) in
    let same : nmea_frame (setting_body x) ≡ s = ap (λ (y : Setting). nmea_frame (setting_body y)) h ∙ r.same in
    let taken = ap takes_setting h ∙ r.taken in
    rw (taken, same) (writes 8 s out)
