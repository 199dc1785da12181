-- Document 01's OnFlight frames (docs/FORMATS.md, "OnFlight frames"): 42 46 01 98, 158 bytes in all.
use Rattle.std.specs.Prelude.{ℕ, zero, suc, ◌-◌, Bool, ◌&&◌, List, length, take, ◌==◌, slice_index, Some}
use Rattle.checksum.specs.Fletcher.{fletcher_of}
use Rattle.framing.specs.declared.Reason.TheVariants.{StartByte, SecondByte, HeaderByte}
use Rattle.framing.specs.declared.Layout.{Layout}
use Rattle.framing.specs.Rules.{Next, more, Rules, rules, must, up_to}

-- Kept: the number of all bytes.
unfoldable pub onflight_next : ℕ → ℕ → ℕ → Next
onflight_next zero m b = must (b == 0x42) (more 0) StartByte
onflight_next (suc zero) m b = must (b == 0x46) (more 0) SecondByte
onflight_next (suc (suc zero)) m b = must (b == 0x01) (more 0) HeaderByte
onflight_next (suc (suc (suc zero))) m b = must (b == 0x98) (more 158) HeaderByte
onflight_next (suc (suc (suc (suc k)))) m b = up_to m (suc (suc (suc (suc k))))

-- Fletcher's sums of all bytes before the last two, the plain one first
abbrev pub onflight_good : List ℕ → Bool
onflight_good xs =
    ((fletcher_of (take (length xs - 2) xs)).plain == slice_index xs (length xs - 2))
    && (fletcher_of (take (length xs - 2) xs)).weighted == slice_index xs (length xs - 1)

abbrev pub onflight_layout : Layout
onflight_layout = record { first = 0x42; shortest = 158; longest = 158; head = 4; tail = 2 }

abbrev pub onflight_rules : Rules
onflight_rules = rules (Some onflight_layout) onflight_next onflight_good
