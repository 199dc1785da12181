-- What a whole shape says of its bytes, over every format: the head of a binary frame, and all but the body of a sentence.
-- Assumes nothing.
use Prim.Native.Nat.{ℕ, suc, ◌+◌, ◌<◌}
use mathlib.Core.Path.{◌≡◌, refl, sym, ap, ◌∙◌}
use mathlib.Core.Bool.{Bool, true, false, cond}
use mathlib.Core.List.{List, [], ◌∷◌, ◌++◌}
use native.Mathlib.Omega.{arith}
use lib.Dec.{T, leb, ltb, eqb, eqb→eq}
use lib.ListN.{length}
use borrow.Author.Tests.{eqb-true}
use Rattle.framing.specs.declared.Reason.{Reason}
use Rattle.framing.specs.declared.Reason.TheVariants.{StartByte, SecondByte, HeaderByte, BodyByte, BodyTooLong, Ending}
use Rattle.framing.specs.declared.Scanned.{Scanned}
use Rattle.framing.specs.declared.Scanned.TheVariants.{Whole, Partial, Broken}
use Rattle.framing.specs.Rules.{Next, more, must}
use Rattle.framing.specs.Mgl.{length_from_byte, mgl_next}
use Rattle.framing.specs.Onflight.{onflight_next}
use Rattle.framing.specs.Nmea.{permitted, hex_digit, body_next, nmea_next}
use Rattle.framing.specs.declared.Format.{Format}
use Rattle.framing.specs.declared.Format.TheVariants.{Mgl, Onflight, Nmea}
use Rattle.framing.specs.Format.{next}
use Rattle.framing.specs.Shape.{follow, scan_from, scan}
use Rattle.framing.specs.Meaning.{IsShape}
use Rattle.framing.proofs.TestLaws.{true_of}
use Rattle.framing.proofs.ShapeLaws.{CountsFrom, counted}
use Rattle.framing.proofs.MglLaws.{mgl-counts}
use Rattle.framing.proofs.OnflightLaws.{onflight-counts}
use Rattle.frame_writer.specs.Frames.{all_permitted}
use Rattle.roundtrip_theorems.specs.Exactly.{MglShape, OnflightShape}

-- ---- a byte of a whole shape

no_whole : {X : Type 0} {j : ℕ} → Partial ≡ Whole j → X
no_whole e = let z : ◌≡◌ {A = ℕ} 0 1 = cc in absurd (omega arith)

not-broken : {X : Type 0} {j : ℕ} {r : Reason} → Broken r ≡ Whole j → X
not-broken e = let z : ◌≡◌ {A = ℕ} 0 1 = cc in absurd (omega arith)

must-whole : (k j : ℕ) (t : Bool) (n : Next) (r : Reason) (go : ℕ → Scanned) → follow k (must t n r) go ≡ Whole j → T t × (follow k n go ≡ Whole j)
must-whole k j true n r go e = (tt, e)
must-whole k j false n r go e = not-broken e

-- the first of the bytes xs passes the test t, and the shape of j bytes goes on behind it with n kept
record Peeled (f : Format) (k j : ℕ) (xs : List ℕ) (t : ℕ → Bool) (n : ℕ → ℕ) : Type 0 where
  byte : ℕ
  rest : List ℕ
  same : xs ≡ byte ∷ rest
  test : T (t byte)
  onward : scan_from f (suc k) (n byte) rest ≡ Whole j

peel : (f : Format) (k m j : ℕ) (xs : List ℕ) (t : ℕ → Bool) (n : ℕ → ℕ) (r : Reason) → ((b : ℕ) → next f k m b ≡ must (t b) (more (n b)) r)
    → scan_from f k m xs ≡ Whole j → Peeled f k j xs t n
unfolding scan_from
peel f k m j [] t n r h e = no_whole e
peel f k m j (x ∷ xs) t n r h e =
    let p = must-whole k j (t x) (more (n x)) r (λ i. scan_from f (suc k) i xs) (rw (h x) at e) in
    record { byte = x; rest = xs; same = refl; test = p.0; onward = p.1 }

-- ---- the head of a binary frame

-- a shape that counts is as long as the number kept
counted-whole : (f : Format) → CountsFrom f 4 → (m j : ℕ) (xs : List ℕ) → 4 < m → scan_from f 4 m xs ≡ Whole j → m ≡ j
counted-whole f c m j xs h e = pick (leb m (4 + length xs)) (sym (counted f 4 c 4 m xs (omega arith) h) ∙ e)
  where
    pick : (t : Bool) → cond t (Whole m) Partial ≡ Whole j → m ≡ j
    pick true q = cc
    pick false q = no_whole q

pub mgl-head : (s : List ℕ) → IsShape Mgl s → MglShape s
unfolding scan next mgl_next
mgl-head s e =
    let a = peel Mgl 0 0 (length s) s (λ b. eqb b 0x05) (λ b. 0) StartByte (λ b. refl) e in
    let b = peel Mgl 1 0 (length s) a.rest (λ b. eqb b 0x02) (λ b. 0) SecondByte (λ b. refl) a.onward in
    let l = peel Mgl 2 0 (length s) b.rest (λ b. true) (λ b. b) HeaderByte (λ b. refl) b.onward in
    let x = peel Mgl 3 l.byte (length s) l.rest (λ b. eqb (l.byte + b) 255) (λ b. length_from_byte l.byte + 20) HeaderByte (λ b. refl) l.onward in
    let ea : a.byte ≡ 0x05 = eqb→eq a.byte 0x05 a.test in
    let eb : b.byte ≡ 0x02 = eqb→eq b.byte 0x02 b.test in
    record {
      len = l.byte;
      complement = x.byte;
      rest = x.rest;
      same = cc (a.same, b.same, l.same, x.same);
      sum = eqb→eq (l.byte + x.byte) 255 x.test;
      long = counted-whole Mgl mgl-counts (length_from_byte l.byte + 20) (length s) x.rest (omega arith) x.onward;
    }

pub onflight-head : (s : List ℕ) → IsShape Onflight s → OnflightShape s
unfolding scan next onflight_next
onflight-head s e =
    let a = peel Onflight 0 0 (length s) s (λ b. eqb b 0x42) (λ b. 0) StartByte (λ b. refl) e in
    let b = peel Onflight 1 0 (length s) a.rest (λ b. eqb b 0x46) (λ b. 0) SecondByte (λ b. refl) a.onward in
    let v = peel Onflight 2 0 (length s) b.rest (λ b. eqb b 0x01) (λ b. 0) HeaderByte (λ b. refl) b.onward in
    let l = peel Onflight 3 0 (length s) v.rest (λ b. eqb b 0x98) (λ b. 158) HeaderByte (λ b. refl) v.onward in
    let ea : a.byte ≡ 0x42 = eqb→eq a.byte 0x42 a.test in
    let eb : b.byte ≡ 0x46 = eqb→eq b.byte 0x46 b.test in
    let ev : v.byte ≡ 0x01 = eqb→eq v.byte 0x01 v.test in
    let el : l.byte ≡ 0x98 = eqb→eq l.byte 0x98 l.test in
    record {
      rest = l.rest;
      same = cc (a.same, b.same, v.same, l.same);
      long = counted-whole Onflight onflight-counts 158 (length s) l.rest (omega arith) l.onward;
    }

-- ---- a sentence

-- the last five bytes, with two digits
abbrev pub last_five : ℕ → ℕ → List ℕ
last_five d e = 0x2A ∷ d ∷ e ∷ 0x0D ∷ 0x0A ∷ []

-- permitted bytes up to the last five, and these
pub record Ended (xs : List ℕ) : Type 0 where
  pub body : List ℕ
  pub permitted : all_permitted body ≡ true
  pub high : ℕ
  pub low : ℕ
  pub same : xs ≡ body ++ last_five high low
  pub first : T (hex_digit high)
  pub second : T (hex_digit low)

none_left : (xs : List ℕ) → length xs ≡ 0 → xs ≡ []
none_left [] e = refl
none_left (x ∷ xs) e = absurd (omega arith)

last_byte : (k j : ℕ) (xs : List ℕ) → suc k + length xs ≡ j → scan_from Nmea (suc k) 4 xs ≡ Whole j → xs ≡ 0x0A ∷ []
unfolding scan_from next nmea_next
last_byte k j [] n e = no_whole e
last_byte k j (x ∷ xs) n e = go (must-whole (suc k) j (eqb x 0x0A) _ Ending (λ i. scan_from Nmea (suc (suc k)) i xs) e)
  where
    go : T (eqb x 0x0A) × (Whole (suc (suc k)) ≡ Whole j) → x ∷ xs ≡ 0x0A ∷ []
    go p =
        let q : suc (suc k) ≡ j = cc in
        let a : x ≡ 0x0A = eqb→eq x 0x0A p.0 in
        let b : xs ≡ [] = none_left xs (omega arith) in
        cc

after-star : (k j : ℕ) (xs : List ℕ) → suc k + length xs ≡ j → scan_from Nmea (suc k) 1 xs ≡ Whole j → Ended (0x2A ∷ xs)
unfolding next nmea_next all_permitted
after-star k j xs n e =
    let d = peel Nmea (suc k) 1 j xs (λ b. hex_digit b) (λ b. 2) Ending (λ b. refl) e in
    let f = peel Nmea (suc (suc k)) 2 j d.rest (λ b. hex_digit b) (λ b. 3) Ending (λ b. refl) d.onward in
    let c = peel Nmea (suc (suc (suc k))) 3 j f.rest (λ b. eqb b 0x0D) (λ b. 4) Ending (λ b. refl) f.onward in
    let ec : c.byte ≡ 0x0D = eqb→eq c.byte 0x0D c.test in
    let i : suc (suc (suc (suc k))) + length c.rest ≡ j = omega (arith, ap length d.same, ap length f.same, ap length c.same) in
    let l : c.rest ≡ 0x0A ∷ [] = last_byte (suc (suc (suc k))) j c.rest i c.onward in
    record { body = []; permitted = refl; high = d.byte; low = f.byte; same = cc (d.same, f.same, c.same); first = d.test; second = f.test }

more-body : (x : ℕ) (xs : List ℕ) → T (permitted x) → Ended xs → Ended (x ∷ xs)
unfolding all_permitted
more-body x xs h w =
    record {
      body = x ∷ w.body;
      permitted = rw (true_of (permitted x) h, w.permitted);
      high = w.high;
      low = w.low;
      same = ap (λ (l : List ℕ). x ∷ l) w.same;
      first = w.first;
      second = w.second;
    }

body-byte : (k j x : ℕ) (xs : List ℕ) (go : ℕ → Scanned) → follow (suc k) (body_next k x) go ≡ Whole j
    → (go 1 ≡ Whole j → Ended (0x2A ∷ xs)) → (go 0 ≡ Whole j → Ended xs) → Ended (x ∷ xs)
unfolding body_next
body-byte k j x xs go e star other = pick (eqb x 0x2A) refl e
  where
    pick : (t : Bool) → eqb x 0x2A ≡ t
        → follow (suc k) (cond t (must (ltb 0 k) (more 1) BodyByte) (must (permitted x) (must (ltb k 76) (more 0) BodyTooLong) BodyByte)) go ≡ Whole j
        → Ended (x ∷ xs)
    pick true t q = rw (eqb-true x 0x2A t) (star (must-whole (suc k) j (ltb 0 k) (more 1) BodyByte go q).1)
    pick false t q =
        let p = must-whole (suc k) j (permitted x) (must (ltb k 76) (more 0) BodyTooLong) BodyByte go q in
        more-body x xs p.0 (other (must-whole (suc k) j (ltb k 76) (more 0) BodyTooLong go p.1).1)

in_body : (k j : ℕ) (xs : List ℕ) → suc k + length xs ≡ j → scan_from Nmea (suc k) 0 xs ≡ Whole j → Ended xs
unfolding scan_from next nmea_next
in_body k j [] n e = no_whole e
in_body k j (x ∷ xs) n e =
    body-byte k j x xs (λ i. scan_from Nmea (suc (suc k)) i xs) e (after-star (suc k) j xs (omega arith)) (in_body (suc k) j xs (omega arith))

-- `$`, and what is ended so
pub record NmeaEnds (s : List ℕ) : Type 0 where
  pub rest : List ℕ
  pub same : s ≡ 0x24 ∷ rest
  pub after : Ended rest

pub nmea-ends : (s : List ℕ) → IsShape Nmea s → NmeaEnds s
unfolding scan next nmea_next
nmea-ends s e =
    let a = peel Nmea 0 0 (length s) s (λ b. eqb b 0x24) (λ b. 0) StartByte (λ b. refl) e in
    let ea : a.byte ≡ 0x24 = eqb→eq a.byte 0x24 a.test in
    record { rest = a.rest; same = cc a.same; after = in_body 0 (length s) a.rest (omega (arith, ap length a.same)) a.onward }
