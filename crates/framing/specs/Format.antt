-- The formats, and the table of their rules (docs/FORMATS.md, "Formats"). This crate's specs have a format in
-- its own file, a constructor, its number and a row of the table.
use Rattle.std.specs.Prelude.{ℕ, zero, suc, ◌-◌, Bool, List, Option, is_some}
use Rattle.framing.specs.declared.Format.{Format}
use Rattle.framing.specs.declared.Format.TheVariants.{Mgl, Onflight, Nmea, Unknown}
use Rattle.framing.specs.declared.Layout.{Layout}
use Rattle.framing.specs.Rules.{Next, Rules, no_rules, numbers_of}
use Rattle.framing.specs.Mgl.{mgl_rules}
use Rattle.framing.specs.Onflight.{onflight_rules}
use Rattle.framing.specs.Nmea.{nmea_rules}

-- 1 is the MGL EFIS feed, 2 the OnFlight log, 3 NMEA with the LARUS sentences
unfoldable pub format_of : ℕ → Format
format_of zero = Unknown
format_of (suc zero) = Mgl
format_of (suc (suc zero)) = Onflight
format_of (suc (suc (suc zero))) = Nmea
format_of (suc (suc (suc (suc n)))) = Unknown

abbrev pub rules_of : Format → Rules
rules_of Mgl = mgl_rules
rules_of Onflight = onflight_rules
rules_of Nmea = nmea_rules
rules_of Unknown = no_rules

-- ---- each rule, by the format. A law over the format sees none of them unless it unfolds it.

-- its numbers, as code has them, and each of them
unfoldable pub layout_of : Format → Option Layout
layout_of f = (rules_of f).layout

unfoldable pub known : Format → Bool
known f = is_some (rules_of f).layout

-- the byte that every shape starts with
unfoldable pub first : Format → ℕ
first f = (numbers_of (rules_of f).layout).first

-- how many bytes the shortest frame has, and the longest
unfoldable pub shortest : Format → ℕ
shortest f = (numbers_of (rules_of f).layout).shortest

unfoldable pub longest : Format → ℕ
longest f = (numbers_of (rules_of f).layout).longest

-- how many bytes can be pending
unfoldable pub pending_bound : Format → ℕ
pending_bound f = (numbers_of (rules_of f).layout).longest - 1

-- how many bytes of a frame stand before its body, and after it
unfoldable pub body_start : Format → ℕ
body_start f = (numbers_of (rules_of f).layout).head

unfoldable pub body_end : Format → ℕ
body_end f = (numbers_of (rules_of f).layout).tail

unfoldable pub next : Format → ℕ → ℕ → ℕ → Next
next f k m b = (rules_of f).next k m b

unfoldable pub good : Format → List ℕ → Bool
good f xs = (rules_of f).good xs
