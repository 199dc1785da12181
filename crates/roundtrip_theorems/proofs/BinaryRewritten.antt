-- A binary frame taken apart and written again is the same.
-- Assumes nothing.
use Prim.Native.Nat.{ℕ, zero, suc, ◌+◌, ◌-◌, ◌%◌, ◌≤◌, ◌<◌}
use mathlib.Core.Path.{◌≡◌, refl, sym, ap, ◌∙◌}
use mathlib.Core.Bool.{true}
use mathlib.Core.List.{List, [], ◌∷◌, ◌++◌}
use native.Mathlib.Omega.{arith}
use lib.Dec.{T, eqb, eqb→eq}
use lib.Ieee.Fits.{and_l, and_r}
use lib.ListN.{length, get_or, take, drop, take-append-drop, length-append, length-drop, drop_of_length-le}
use lib.Seq.{take_all, drop-drop, drop-cons}
use Rattle.numbers.specs.Low.{low, low_bytes}
use Rattle.numbers.proofs.LowBytes.{bytes-of-low}
use Rattle.checksum.specs.Crc.{crc_of}
use Rattle.checksum.specs.Fletcher.{fletcher_of}
use Rattle.framing.specs.Rules.{part}
use Rattle.framing.specs.Mgl.{length_from_byte}
use Rattle.framing.specs.declared.Format.TheVariants.{Mgl, Onflight}
use Rattle.framing.specs.Format.{shortest, good, body_start, body_end}
use Rattle.framing.specs.Meaning.{Bytes}
use Rattle.framing.specs.Frame.{IsFrame}
use Rattle.framing.proofs.ByteLaws.{bytes-at}
use Rattle.framing.proofs.FrameLaws.{frame-means}
use Rattle.content.specs.Body.{is_frame, body_of}
use Rattle.content.proofs.BodyLaws.{frame-test, frame-long, body_at}
use Rattle.mgl.specs.declared.Header.{Header}
use Rattle.mgl.specs.Header.{header_of}
use Rattle.frame_writer.specs.Frames.{length_byte, mgl_covered, mgl_frame, onflight_covered, onflight_frame}
use Rattle.roundtrip_theorems.specs.Exactly.{MglShape, OnflightShape}
use Rattle.roundtrip_theorems.proofs.ShapeBack.{mgl-head, onflight-head}

-- what stands from place a on, cut at place e
cut : (a e : ℕ) (s : List ℕ) → a ≤ e → part a e s ++ drop e s ≡ drop a s
cut a e s h =
    let n : a + (e - a) ≡ e = omega arith in
    ap (λ (l : List ℕ). part a e s ++ l) (sym (drop-drop (e - a) a s ∙ ap (λ (k : ℕ). drop k s) n)) ∙ take-append-drop (e - a) (drop a s)

-- the first byte of a part, and the others
part-first : (a e : ℕ) (s : List ℕ) → a < e → e ≤ length s → part a e s ≡ get_or s a 0 ∷ part (suc a) e s
part-first a e s h l = let n : e - a ≡ suc (e - suc a) = omega arith in rw (n, drop-cons s a 0 (omega arith))

-- ---- MGL

-- the length is sent as it was
length-again : (l n : ℕ) → l ≤ 255 → length_from_byte l + 8 ≡ n → (n - 8) % 256 ≡ l
length-again zero n h e = omega arith
length-again (suc l) n h e = omega arith

-- the four bytes of the header
abbrev pub header_at : List ℕ → Header
header_at s = record { message_type = get_or s 4 0; rate = get_or s 5 0; count = get_or s 6 0; version = get_or s 7 0 }

covered-again : (e : ℕ) (s : List ℕ) → 8 ≤ e → e ≤ length s → mgl_covered (header_at s) (part 8 e s) ≡ part 4 e s
unfolding mgl_covered
covered-again e s h l =
    let q : (k : ℕ) → k < 8 → part k e s ≡ get_or s k 0 ∷ part (suc k) e s = λ k g. part-first k e s (omega arith) (omega arith) in
    cc (q 4 (omega arith), q 5 (omega arith), q 6 (omega arith), q 7 (omega arith))

-- the checksum is read as it is written
crc-again : (s : List ℕ) → Bytes s → 4 ≤ length s → T (good Mgl s) → low_bytes 4 (crc_of (part 4 (length s - 4) s)) ≡ drop (length s - 4) s
unfolding good
crc-again s b l g =
    let e = length s - 4 in
    ap (low_bytes 4) (eqb→eq (crc_of (part 4 e s)) (low 4 s e) g)
    ∙ bytes-of-low 4 s e (omega arith) (λ i h. bytes-at s b (e + i))
    ∙ take_all 4 (drop e s) (rw (length-drop e s) (omega arith))

mgl-again : (s : List ℕ) → Bytes s → 21 ≤ length s → T (good Mgl s) → MglShape s → mgl_frame (header_at s) (part 8 (length s - 4) s) ≡ s
unfolding mgl_frame length_byte
mgl-again s b l g w =
    let e = length s - 4 in
    let q = sym (length-append (part 8 e s) (drop e s)) ∙ ap length (cut 8 e s (omega arith)) in
    let n : length s - 12 ≡ length (part 8 e s) = omega (arith, q, length-drop e s, length-drop 8 s) in
    let k = length-again w.len (length (part 8 e s)) (omega (arith, w.sum)) (omega (arith, w.long)) in
    let x : 255 - w.len ≡ w.complement = omega (arith, w.sum) in
    rw (k, x, covered-again e s (omega arith) (omega arith), crc-again s b (omega arith) g, cut 4 e s (omega arith))
    (ap (λ (r : List ℕ). 0x05 ∷ 0x02 ∷ w.len ∷ w.complement ∷ drop 4 r) w.same ∙ sym w.same)

header_is : (s : List ℕ) → is_frame Mgl s ≡ true → (header_of s).value ≡ header_at s
unfolding header_of
header_is s t = rw t

pub mgl-laid : (s : List ℕ) → Bytes s → IsFrame Mgl s → mgl_frame (header_at s) (body_of Mgl s) ≡ s
unfolding body_start body_end shortest
mgl-laid s b h =
    let m = (frame-means Mgl s).0 h in
    let t = (frame-test Mgl s).1 h in
    ap (mgl_frame (header_at s)) (sym (body_at Mgl s t refl refl)) ∙ mgl-again s b (frame-long Mgl s t) m.1 (mgl-head s m.0)

pub mgl-rewritten : (s : List ℕ) → Bytes s → IsFrame Mgl s → mgl_frame (header_of s).value (body_of Mgl s) ≡ s
mgl-rewritten s b h = ap (λ (x : Header). mgl_frame x (body_of Mgl s)) (header_is s ((frame-test Mgl s).1 h)) ∙ mgl-laid s b h

-- ---- OnFlight

payload-covered : (n : ℕ) (s : List ℕ) → OnflightShape s → onflight_covered (take n (drop 4 s)) ≡ take (suc (suc (suc (suc n)))) s
unfolding onflight_covered
payload-covered n s w = rw w.same

-- the last two bytes
last-two : (s : List ℕ) → 2 ≤ length s → drop (length s - 2) s ≡ get_or s (length s - 2) 0 ∷ get_or s (length s - 1) 0 ∷ []
last-two s h =
    let n : suc (length s - 2) ≡ length s - 1 = omega arith in
    let q = drop-cons s (length s - 2) 0 (omega arith) in
    let r = drop-cons s (length s - 1) 0 (omega arith) in
    let z = drop_of_length-le s {i = suc (length s - 1)} (omega arith) in
    cc

fletcher-again : (s : List ℕ) → 2 ≤ length s → T (good Onflight s)
    → (fletcher_of (take (length s - 2) s)).plain ∷ (fletcher_of (take (length s - 2) s)).weighted ∷ [] ≡ drop (length s - 2) s
unfolding good
fletcher-again s h g =
    let c = fletcher_of (take (length s - 2) s) in
    let t = eqb c.plain (get_or s (length s - 2) 0) in
    let u = eqb c.weighted (get_or s (length s - 1) 0) in
    let p : c.plain ≡ get_or s (length s - 2) 0 = eqb→eq c.plain (get_or s (length s - 2) 0) (and_l t u g) in
    let q : c.weighted ≡ get_or s (length s - 1) 0 = eqb→eq c.weighted (get_or s (length s - 1) 0) (and_r t u g) in
    cc (last-two s h)

onflight-again : (s : List ℕ) → T (good Onflight s) → OnflightShape s → onflight_frame (part 4 (length s - 2) s) ≡ s
unfolding onflight_frame
onflight-again s g w =
    let e = length s - 2 in
    let n : suc (suc (suc (suc (e - 4)))) ≡ e = omega (arith, w.long) in
    let c : onflight_covered (part 4 e s) ≡ take e s = payload-covered (e - 4) s w ∙ ap (λ (k : ℕ). take k s) n in
    rw (c, fletcher-again s (omega (arith, w.long)) g) (take-append-drop e s)

pub onflight-rewritten : (s : List ℕ) → IsFrame Onflight s → onflight_frame (body_of Onflight s) ≡ s
unfolding body_start body_end
onflight-rewritten s h =
    let m = (frame-means Onflight s).0 h in
    let t = (frame-test Onflight s).1 h in
    ap onflight_frame (sym (body_at Onflight s t refl refl)) ∙ onflight-again s m.1 (onflight-head s m.0)
