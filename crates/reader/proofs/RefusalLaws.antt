-- What the tests of a call come to. Assumes nothing.
use Prim.Native.Nat.{ℕ, ◌+◌, ◌-◌, ◌≤◌, ◌<◌}
use mathlib.Core.Path.{◌≡◌, refl, sym, ap}
use Rattle.std.proofs.Common.{Option}
use mathlib.Core.Bool.{Bool, true, false, cond}
use mathlib.Core.List.{List}
use native.Mathlib.Omega.{arith}
use lib.ListN.{length, take}
use native.Mathlib.Decide.{dec_le}
use lib.Dec.{ltb}
use borrow.Author.Tests.{lt-ltb, le-ltb, ltb-true, ltb-false}
use Rattle.framing.specs.declared.Reason.TheVariants.{Checksum}
use Rattle.framing.specs.declared.Scanned.{Scanned}
use Rattle.framing.specs.declared.Scanned.TheVariants.{Whole, Partial, Broken}
use Rattle.framing.specs.declared.Found.{Found}
use Rattle.framing.specs.declared.Found.TheVariants.{Frame, Start, Neither}
use Rattle.framing.specs.declared.Layout.{Layout}
use Rattle.framing.specs.declared.Format.{Format}
use Rattle.framing.specs.declared.Format.TheVariants.{Mgl}
use Rattle.framing.specs.Format.{format_of, layout_of, longest, pending_bound, good}
use Rattle.framing.specs.Rules.{numbers_of}
use Rattle.framing.specs.Shape.{scan}
use Rattle.framing.specs.Frame.{front_of, front}
use Rattle.framing.proofs.FormatLaws.{lawful}
use Rattle.reader.specs.declared.in_place.Words.{Words}
use Rattle.reader.specs.State.{held_length}
use Rattle.reader.specs.Refusal.{is_start, broken, refusal}
use Rattle.reader.specs.InPlace.{state_of}
use Rattle.reader.specs.Private.{TellsStart, refusal_by}

-- a test of a sum that does not fit, by a difference that does
pub by_difference : (l s n : ℕ) → s ≤ l → ltb (l - s) n ≡ ltb l (s + n)
by_difference l s n h = go (ltb (l - s) n) (ltb-true (l - s) n) (ltb-false (l - s) n)
  where
    go : (t : Bool) → (t ≡ true → l - s < n) → (t ≡ false → n ≤ l - s) → t ≡ ltb l (s + n)
    go true p q = sym (lt-ltb l (s + n) (let g = p refl in omega arith))
    go false p q = sym (le-ltb l (s + n) (let g = q refl in omega arith))

-- the bound from the numbers that code has of a format
pub bound-is : (f : Format) (o : Option Layout) → layout_of f ≡ o → (numbers_of o).longest - 1 ≡ pending_bound f
unfolding layout_of pending_bound
bound-is f o e = ap (λ (l : Option Layout). (numbers_of l).longest - 1) (sym e)

-- every bound fits the held bytes, and that of MGL fills them
pub bound-most : (f : Format) → pending_bound f ≤ held_length
unfolding longest pending_bound
bound-most f = omega (arith, (lawful f).most)

pub bound-held : pending_bound Mgl ≡ held_length
unfolding pending_bound
bound-held = refl

-- ---- a start, as `front` answers it

abbrev pub start_of : Found → Bool
start_of (Frame n) = false
start_of Start = true
start_of (Neither r) = false

pub front-start : (f : Format) (xs : List ℕ) → start_of (front f xs) ≡ is_start (scan f xs)
unfolding front
front-start f xs = go (scan f xs)
  where
    pick : (n : ℕ) (t : Bool) → start_of (cond t (Frame n) (Neither Checksum)) ≡ false
    pick n true = refl
    pick n false = refl

    go : (o : Scanned) → start_of (front_of f xs o) ≡ is_start o
    go (Whole n) = pick n (good f (take n xs))
    go Partial = refl
    go (Broken r) = refl

-- ---- the judgement, by the test of what is pending

judged-by : (n : Words) (held : List ℕ) (waits : Bool) (bytes out : ℕ) → length held ≡ held_length → TellsStart (format_of n.format) held n.pending waits
    → Dec (n.pending ≤ held_length) → refusal_by n waits bytes out ≡ refusal (state_of n held) bytes out
unfolding refusal broken
judged-by n held waits bytes out l w (yes h) = rw (w (omega arith))
judged-by n held waits bytes out l w (no h) =
    rw (lt-ltb (pending_bound (format_of n.format)) n.pending (omega (arith, bound-most (format_of n.format))))

pub judged : (n : Words) (held : List ℕ) (waits : Bool) (bytes out : ℕ) → length held ≡ held_length → TellsStart (format_of n.format) held n.pending waits
    → refusal_by n waits bytes out ≡ refusal (state_of n held) bytes out
judged n held waits bytes out l w = judged-by n held waits bytes out l w (dec_le n.pending held_length)
