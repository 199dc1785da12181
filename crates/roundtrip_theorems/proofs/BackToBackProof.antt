-- Written frames back to back on a line are read as they stand, however the line is delivered: from demand 3.
-- Assumes nothing.
use Prim.Native.Nat.{ℕ}
use mathlib.Core.Path.{◌≡◌, refl, ap, ◌∙◌}
use mathlib.Core.List.{List, [], ◌∷◌, ◌++◌}
use native.Mathlib.Omega.{arith}
use lib.ListN.{length}
use Rattle.framing.specs.declared.Format.{Format}
use Rattle.framing.specs.Format.{format_of}
use Rattle.framing.specs.Reading.{Mode, framed, ◌then◌, read, joined, total, one_frame, framed_bytes, skipped_bytes}
use Rattle.framing.proofs.ReadingLaws.{read-nil, length-joined}
use Rattle.framing.proofs.LineLaws.{read-frame}
use Rattle.reader.specs.Calls.{mode_of}
use Rattle.reader_theorems.specs.Demand3.{machine_after}
use Rattle.reader_theorems.proofs.Demand3Proof.{demand3}
use Rattle.reader_theorems.proofs.Chunking.{machine-is}
use Rattle.frame_writer.specs.Frames.{Content, frame_of}
use Rattle.roundtrip_theorems.specs.BackToBack.{Taken, line, each_framed, BackToBack, Chopped}
use Rattle.roundtrip_theorems.proofs.FramesWritten.{frame-of-taken}

-- ---- the frames and the counts of such a line

joined_line : (f : Format) (ws : List Content) → joined (each_framed f ws) ≡ line f ws
joined_line f [] = refl
joined_line f (w ∷ ws) = ap (λ (ys : List ℕ). frame_of f w ++ ys) (joined_line f ws)

frames-line : (f : Format) (ws : List Content) → total one_frame (each_framed f ws) ≡ length ws
frames-line f [] = refl
frames-line f (w ∷ ws) = let h = frames-line f ws in omega arith

framed-line : (f : Format) (ws : List Content) → total framed_bytes (each_framed f ws) ≡ length (line f ws)
framed-line f ws = rw (← joined_line f ws, length-joined (each_framed f ws))

skipped-line : (f : Format) (ws : List Content) → total skipped_bytes (each_framed f ws) ≡ 0
skipped-line f [] = refl
skipped-line f (w ∷ ws) = let h = skipped-line f ws in omega arith

-- ---- its reading

-- Either reading reads the frames, and nothing is left pending.
read-line : (c : Mode) (f : Format) (ws : List Content) → Taken f ws → read c f (line f ws) ≡ record { events = each_framed f ws; rest = [] }
read-line c f [] t = read-nil c f
read-line c f (w ∷ ws) t =
    read-frame c f (frame_of f w) (line f ws) (frame-of-taken f w t.0 t.1) ∙ ap (◌then◌ (framed (frame_of f w))) (read-line c f ws t.2)

pub back-to-back : BackToBack
back-to-back n ws calls k t e =
    let d = demand3 n calls k in
    let r = ap (read (mode_of (machine_after n calls).closed) (format_of n)) e ∙ read-line _ (format_of n) ws t in
    record {
      events = rw r;
      handed = rw (d.handed, r) (joined_line (format_of n) ws);
      frames = rw (d.frames, r) (frames-line (format_of n) ws);
      framed = rw (d.framed, r) (framed-line (format_of n) ws);
      skipped = rw (d.skipped, r) (skipped-line (format_of n) ws);
      pending = rw (d.pending, r);
    }

pub chopped : Chopped
chopped n ws calls k t a e = back-to-back n ws calls k t (rw (machine-is n calls k a) e)
