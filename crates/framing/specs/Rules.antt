-- What frames of a format have. Each format has a file of its own, with all its rules (Mgl.antt, Onflight.antt, Nmea.antt), and
-- Format.antt has the table of them.
use Rattle.std.specs.Prelude.{ℕ, suc, ◌-◌, Bool, true, false, cond, List, take, drop, ◌==◌, Option, Some, None}
use Rattle.framing.specs.declared.Reason.{Reason}
use Rattle.framing.specs.declared.Reason.TheVariants.{StartByte}
use Rattle.framing.specs.declared.Layout.{Layout}

-- A byte of a shape: the shape goes on, with this number kept; it is whole with this byte; or no shape has this byte here.
pub data Next : Type 0 where
  more : ℕ → Next
  done : Next
  bad : Reason → Next

pub record Rules : Type 0 where
  -- its numbers, as the code has them; none where the format is not known
  pub layout : Option Layout
  -- a byte of a shape, judged by how many bytes of the shape stand before it (k) and one number kept from them (m, 0 at the start)
  pub next : ℕ → ℕ → ℕ → Next
  -- whether the checksum of a whole shape is right
  pub good : List ℕ → Bool

abbrev pub rules : Option Layout → (ℕ → ℕ → ℕ → Next) → (List ℕ → Bool) → Rules
rules l n g = record { layout = l; next = n; good = g }

-- ---- words of the rules

-- n where the test holds, else no shape for this reason
abbrev pub must : Bool → Next → Reason → Next
must true n r = n
must false n r = bad r

-- byte k of the m bytes of a shape
abbrev pub up_to : ℕ → ℕ → Next
up_to m k = cond (suc k == m) done (more m)

-- the bytes from place a up to place e
abbrev pub part : ℕ → ℕ → List ℕ → List ℕ
part a e xs = take (e - a) (drop a xs)

-- ---- the rules of a format that is not known: it has no shape

abbrev pub no_rules : Rules
no_rules = rules None (λ k m b. bad StartByte) (λ xs. false)

-- the numbers of a layout, and zeros for none
abbrev pub numbers_of : Option Layout → Layout
numbers_of None = record { first = 0; shortest = 0; longest = 0; head = 0; tail = 0 }
numbers_of (Some l) = l
