use Rattle.std.proofs.Common.{◌≡◌, ℕ, suc, ◌+◌, ◌-◌, ◌*◌, ◌≤◌, true, List, length, get_or, take, drop, sym, ap, ◌∙◌, ap₂, add-one, arith, length-drop, length-take-le, get_or-drop, get_or-take, eq-eqb}
use lib.Seq.{take-length}
use Rattle.checksum.specs.Xor.{xor_of}
use Rattle.framing.specs.declared.Found.TheVariants.{Frame}
use Rattle.framing.specs.Rules.{part}
use Rattle.framing.specs.Nmea.{permitted, hex_value}
use Rattle.framing.specs.declared.Format.TheVariants.{Nmea}
use Rattle.framing.specs.Format.{good}
use Rattle.framing.specs.Frame.{front}
use Rattle.framing.specs.Private.{Permitted, EndedBy}
use Rattle.framing.proofs.FrameLaws.{front-whole}
use Rattle.framing.proofs.BodyLaws.{ended-whole}
use Rattle.framing.proofs.nmea.sentence_fields.Goals as goal

-- the bytes between, where they are
between : (s : List ℕ) (e : ℕ) → e ≤ length s → Permitted 0 (length (take (e - 1) (drop 1 s))) (take (e - 1) (drop 1 s)) → Permitted 1 e s
between s e h p j l g =
    let n : length (take (e - 1) (drop 1 s)) ≡ e - 1 = length-take-le (e - 1) (drop 1 s) (omega (arith, length-drop 1 s)) in
    let q : 1 + (j - 1) ≡ j = omega arith in
    let d : get_or (take (e - 1) (drop 1 s)) (j - 1) 0 ≡ get_or s j 0 = get_or-take (e - 1) (drop 1 s) (j - 1) 0 (omega arith) ∙ get_or-drop 1 s (j - 1) 0 ∙ ap (λ k. get_or s k 0) q in
    ap permitted (sym d) ∙ p (j - 1) (omega arith) (omega arith)

module _ (s : List ℕ) (x : ℕ) (h : 14 ≤ length s) (n : EndedBy x s (length s - 5)) where
  good-by : x ≡ xor_of (part 1 (length s - 5) s) → good Nmea s ≡ true
  unfolding good
  good-by e =
      let high : length s - 5 + 1 ≡ length s - 4 = omega arith in
      let low : length s - 5 + 2 ≡ length s - 3 = omega arith in
      eq-eqb _ _ (sym e ∙ sym n.writes ∙ ap₂ (λ (i j : ℕ). hex_value (get_or s i 0) * 16 + hex_value (get_or s j 0)) high low)

  frame-by : length s ≤ 82 → get_or s 0 0 ≡ 0x24 → Permitted 0 (length (part 1 (length s - 5) s)) (part 1 (length s - 5) s)
      → x ≡ xor_of (part 1 (length s - 5) s) → front Nmea s ≡ Frame (length s)
  frame-by m d p e =
      let b = between s (length s - 5) (omega arith) p in
      let w = ended-whole s d (length s - 5) (record { some = omega arith; inside = omega arith; body = b }) (omega arith) (omega arith) (omega arith) n.ended in
      front-whole Nmea s {t = true} w (ap (good Nmea) (take-length s) ∙ good-by e)

pub returns : goal.returns
returns c = let s = c.args.s.now in
    let w = c.pass-p.ensures in
    let n = c.is_end.ensures (c.if-not-is_end.false) in (
      frame-by s _ (omega arith) n (omega arith) c.if-s-ne-FIRST.false (w.body c.if-p-ne0.false) w.xor,
      add-one _ ∙ ap suc w.commas,
    )
