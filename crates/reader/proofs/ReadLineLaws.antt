-- The reading of a line as the code goes through it: the frames behind it are in the output. Assumes nothing.
use Prim.Native.Nat.{ℕ, zero, suc, ◌+◌, ◌-◌, ◌≤◌, ◌<◌}
use mathlib.Core.Path.{◌≡◌, refl, sym, ap, ◌∙◌, subst}
use mathlib.Core.Bool.{Bool, true, false}
use mathlib.Core.List.{List, [], ◌∷◌, ◌++◌, append_assoc, append-nil}
use native.Mathlib.Omega.{arith}
use lib.ListN.{length, take, drop, replicate, length-drop, drop_of_length-le}
use lib.Seq.{length-take-le, drop-drop, take-add}
use Rattle.buffer.specs.Buffer.{put, copied}
use Rattle.buffer.proofs.BufferLaws.{put-copied}
use Rattle.framing.specs.declared.Reason.TheVariants.{StartByte}
use Rattle.framing.specs.declared.Scanned.TheVariants.{Partial}
use Rattle.framing.specs.declared.Found.{Found}
use Rattle.framing.specs.declared.Found.TheVariants.{Frame, Start, Neither}
use Rattle.framing.specs.declared.Format.{Format}
use Rattle.framing.specs.Shape.{scan}
use Rattle.framing.specs.Frame.{front}
use Rattle.framing.specs.FindStart.{find_start}
use Rattle.framing.specs.Reading.{ongoing, Event, framed, skipped, read, extend, joined, total, one_frame, framed_bytes, skipped_bytes}
use Rattle.framing.proofs.ReadingLaws.{read-nil, total-append, joined-append, length-joined}
use Rattle.framing.proofs.FindStartLaws.{find-start-most, find-start-reads, joined-skips, framed-skips, frames-skips, skipped-skips}
use Rattle.framing.specs.declared.frame_run.Run.{Run}
use Rattle.framing.specs.FrameRun.{run_by, frame_run}
use Rattle.framing.proofs.FrameRunLaws.{tail_within, one_of, run-one}
use Rattle.reader.specs.declared.lines.LineCounts.{LineCounts}
use Rattle.reader.specs.Private.{line_counts_of}
use Rattle.reader.proofs.HeldLaws.{mid-part}
use Rattle.std.proofs.lemmas.List.{take_rest}
use Rattle.reader.proofs.RefusalLaws.{start_of}
use Rattle.reader.proofs.StepLaws.{Step, frame_step, skip_step, start-stops}

-- ---- the events that a reading begins with

-- The reading of xs begins with the events es, which take n bytes.
pub record Begins (f : Format) (xs : List ℕ) (n : ℕ) (es : List Event) : Type 0 where
  pub inside : n ≤ length xs
  pub width : total framed_bytes es + total skipped_bytes es ≡ n
  pub few : total one_frame es ≤ total framed_bytes es
  pub reads : read ongoing f xs ≡ extend (record { events = es; rest = drop n xs }) (read ongoing f (drop n xs))

pub begins-none : (f : Format) (xs : List ℕ) → Begins f xs 0 []
begins-none f xs = record { inside = omega arith; width = refl; few = omega arith; reads = refl }

begins-step : (f : Format) (xs : List ℕ) (n : ℕ) (e : Event) → Step ongoing f xs n e → Begins f xs n (e ∷ [])
begins-step f xs n e s = record { inside = s.inside; width = omega (arith, s.width); few = omega (arith, s.few); reads = s.reads }

begins-then : (f : Format) (xs : List ℕ) (n m : ℕ) (es ds : List Event) → Begins f xs n es → Begins f (drop n xs) m ds → Begins f xs (n + m) (es ++ ds)
begins-then f xs n m es ds b d =
    record {
      inside = omega (arith, b.inside, d.inside, length-drop n xs);
      width = omega (arith, b.width, d.width, total-append framed_bytes es ds, total-append skipped_bytes es ds);
      few = omega (arith, b.few, d.few, total-append one_frame es ds, total-append framed_bytes es ds);
      reads =
          b.reads
          ∙ rw (d.reads, drop-drop m n xs)
          (ap (λ (x : List Event). record { events = x; rest = (read ongoing f (drop (n + m) xs)).rest })
          (sym (append_assoc es ds (read ongoing f (drop (n + m) xs)).events)));
    }

begins-find-start : (f : Format) (xs : List ℕ) → Begins f xs (find_start f xs) (replicate (find_start f xs) (skipped StartByte))
begins-find-start f xs =
    let k = find_start f xs in
    record {
      inside = find-start-most f xs;
      width = omega (arith, framed-skips k StartByte, skipped-skips k StartByte);
      few = omega (arith, framed-skips k StartByte, frames-skips k StartByte);
      reads = find-start-reads f xs;
    }

-- ---- frames one behind the other

-- no frame stands there, and whether a start does
abbrev pub Stops : Bool → Found → Type 0
Stops waits (Frame n) = ⊥
Stops waits Start = waits ≡ true
Stops waits (Neither r) = waits ≡ false

-- Frames alone, at most so many, and then none.
pub record Runs (f : Format) (xs : List ℕ) (most : ℕ) (r : Run) : Type 0 where
  pub events : List Event
  pub begins : Begins f xs r.bytes events
  pub laid : joined events ≡ take r.bytes xs
  pub number : r.frames ≡ total one_frame events
  pub stops : r.frames < most → Stops r.waits (front f (drop r.bytes xs))

runs_none : (f : Format) (xs : List ℕ) (most : ℕ) (waits : Bool) → (0 < most → Stops waits (front f xs)) → Runs f xs most (record { bytes = 0; frames = 0; waits = waits })
runs_none f xs most waits s = record { events = []; begins = begins-none f xs; laid = refl; number = refl; stops = s }

runs-more : (f : Format) (xs : List ℕ) (most n : ℕ) (r : Run) → front f xs ≡ Frame n → Runs f (drop n xs) most r
    → Runs f xs (suc most) (record { bytes = n + r.bytes; frames = suc r.frames; waits = r.waits })
runs-more f xs most n r e l =
    let one = framed (take n xs) ∷ [] in
    record {
      events = one ++ l.events;
      begins = begins-then f xs n r.bytes one l.events (begins-step f xs n (framed (take n xs)) (frame_step ongoing f xs n e)) l.begins;
      laid = rw l.laid (sym (take-add n r.bytes xs));
      number = omega (arith, l.number);
      stops = λ h. rw (drop-drop r.bytes n xs) at (l.stops (omega arith));
    }

pub runs : (f : Format) (most : ℕ) (xs : List ℕ) → Runs f xs most (frame_run f most xs)
unfolding frame_run
runs f zero xs = runs_none f xs 0 false (λ h. absurd (omega arith))
runs f (suc m) xs = go (front f xs) refl (λ n. runs f m (drop n xs))
  where
    go : (o : Found) → front f xs ≡ o → ((n : ℕ) → Runs f (drop n xs) m (frame_run f m (drop n xs)))
        → Runs f xs (suc m) (run_by o (λ n. frame_run f m (drop n xs)))
    go (Frame n) e ih = runs-more f xs m n (frame_run f m (drop n xs)) e (ih n)
    go Start e ih = runs_none f xs (suc m) true (λ h. rw e refl)
    go (Neither r) e ih = runs_none f xs (suc m) false (λ h. rw e refl)

pub run-few : (f : Format) (xs : List ℕ) (most : ℕ) (r : Run) → Runs f xs most r → (r.frames ≤ r.bytes) × (r.bytes ≤ length xs)
run-few f xs most r l = (omega (arith, l.number, l.begins.few, l.begins.width), l.begins.inside)

-- the first frame alone
pub one-waits : (f : Format) (xs : List ℕ) → (frame_run f 1 xs).waits ≡ start_of (front f xs)
one-waits f xs = ap (λ (r : Run). r.waits) (run-one f xs) ∙ go (front f xs)
  where
    go : (o : Found) → (one_of o).waits ≡ start_of o
    go (Frame n) = refl
    go Start = refl
    go (Neither r) = refl

-- no frame stands where a run ends
stop-start : (o : Found) → Stops true o → o ≡ Start
stop-start (Frame n) s = absurd s
stop-start Start s = refl
stop-start (Neither r) s = let z : ◌≡◌ {A = ℕ} 0 1 = cc in absurd (omega arith)

-- ---- a line, its frames put into the output

-- The code stands at place at of the line, and the events before it are behind: their frames are in the output.
pub record ReadSoFar (f : Format) (line out₀ out : List ℕ) (at handed frames : ℕ) : Type 0 where
  pub events : List Event
  pub begins : Begins f line at events
  pub laid : out ≡ put (joined events) out₀
  pub bytes : handed ≡ total framed_bytes events
  pub number : frames ≡ total one_frame events

pub read-line-start : (f : Format) (line out : List ℕ) → ReadSoFar f line out out 0 0 0
read-line-start f line out = record { events = []; begins = begins-none f line; laid = refl; bytes = refl; number = refl }

module _ (f : Format) (line out₀ out : List ℕ) (at handed frames : ℕ) (w : ReadSoFar f line out₀ out at handed frames) where
  -- what is put is as many bytes as are framed
  laid-length : length (joined w.events) ≡ handed
  laid-length = length-joined w.events ∙ sym w.bytes

  pub handed-most : handed ≤ at
  handed-most = omega (arith, w.begins.width, w.bytes)

  pub read-line-few : frames ≤ at
  read-line-few = omega (arith, w.number, w.begins.few, w.begins.width)

  -- more events behind
  read-line-on : (n b k : ℕ) (es : List Event) (out' : List ℕ) → Begins f (drop at line) n es → total framed_bytes es ≡ b → total one_frame es ≡ k
      → out' ≡ put (joined w.events ++ joined es) out₀ → ReadSoFar f line out₀ out' (at + n) (handed + b) (frames + k)
  read-line-on n b k es out' s p q l =
      record {
        events = w.events ++ es;
        begins = begins-then f line at n w.events es w.begins s;
        laid = rw (joined-append w.events es) l;
        bytes = omega (arith, w.bytes, p, total-append framed_bytes w.events es);
        number = omega (arith, w.number, q, total-append one_frame w.events es);
      }

  -- bytes that are skipped
  read-line-skips : (n : ℕ) (es : List Event) → Begins f (drop at line) n es → joined es ≡ [] → ReadSoFar f line out₀ out (at + n) handed frames
  read-line-skips n es s none =
      let b : total framed_bytes es ≡ 0 = sym (length-joined es) ∙ ap length none in
      let k : total one_frame es ≡ 0 = omega (arith, s.few, b) in
      subst (λ (i : ℕ). ReadSoFar f line out₀ out (at + n) handed i) (omega arith)
      (subst (λ (i : ℕ). ReadSoFar f line out₀ out (at + n) i (frames + 0)) (omega arith)
      (read-line-on n 0 0 es out s b k (w.laid ∙ rw (none, append-nil (joined w.events)))))

  -- a run is copied
  pub run_ends : (most : ℕ) (r : Run) → Runs f (drop at line) most r → at + r.bytes ≤ length line
  run_ends most r l = omega (arith, l.begins.inside, w.begins.inside, length-drop at line)

  pub read-line-run : (most : ℕ) (r : Run) (src out' : List ℕ) → length line ≤ length out₀ → Runs f (drop at line) most r → src ≡ take r.bytes (drop at line)
      → out' ≡ copied src out handed → ReadSoFar f line out₀ out' (at + r.bytes) (handed + r.bytes) (frames + r.frames)
  read-line-run most r src out' fit l part copies =
      let b : length (joined l.events) ≡ r.bytes = ap length l.laid ∙ length-take-le r.bytes (drop at line) l.begins.inside in
      let h : handed + length (joined l.events) ≤ length out₀ = omega (arith, handed-most, run_ends most r l, b) in
      read-line-on r.bytes r.bytes r.frames l.events out' l.begins (sym (length-joined l.events) ∙ b) (sym l.number)
      (copies ∙ rw (w.laid, part, ← l.laid) (put-copied (joined w.events) (joined l.events) out₀ handed laid-length h))

  -- where it does not wait, a byte is skipped
  pub read-line-skip : Stops false (front f (drop at line)) → ReadSoFar f line out₀ out (at + 1) handed frames
  read-line-skip s = go (front f (drop at line)) refl s
    where
      go : (o : Found) → front f (drop at line) ≡ o → Stops false o → ReadSoFar f line out₀ out (at + 1) handed frames
      go (Frame n) e t = absurd t
      go Start e t = let z : ◌≡◌ {A = ℕ} 0 1 = cc in absurd (omega arith)
      go (Neither r) e t =
          read-line-skips 1 (skipped r ∷ []) (begins-step f (drop at line) 1 (skipped r) (skip_step ongoing f (drop at line) r e)) refl

  -- and those behind it that begin no shape
  pub read-line-noise : (n : ℕ) → n ≡ find_start f (drop at line) → ReadSoFar f line out₀ out (at + n) handed frames
  read-line-noise n e = rw e (read-line-skips (find_start f (drop at line)) _ (begins-find-start f (drop at line)) (joined-skips (find_start f (drop at line)) StartByte))

  -- At a start the reading stops.
  pub read-line-end : Stops true (front f (drop at line))
      → (record { framed = handed; skipped = at - handed; frames = frames } ≡ line_counts_of (read ongoing f line)) × (out ≡ put (joined (read ongoing f line).events) out₀)
  read-line-end s =
      let g : read ongoing f line ≡ record { events = w.events; rest = drop at line } =
      w.begins.reads ∙ rw (start-stops f (drop at line) (stop-start (front f (drop at line)) s), append-nil w.events) in
      let k : at - handed ≡ total skipped_bytes w.events = omega (arith, w.begins.width, w.bytes) in
      rw (g) (rw (k, w.bytes, w.number), w.laid)

-- ---- a turn of the loop over the first `end` bytes of a line: the run r stands at place at of them, and is copied

module _ (line : List ℕ) (end : ℕ) {f : Format} {out₀ out : List ℕ} {at handed frames : ℕ} {r : Run} (q : (end ≤ length line) × (end ≤ length out₀))
    (w : ReadSoFar f (take end line) out₀ out at handed frames)
    (e : r ≡ frame_run f (length line + 1) (take (length (take end line) - at) (take (length line - at) (drop at line)))) where
  part-length : length (take end line) ≡ end
  part-length = length-take-le end line q.0

  run-here : Runs f (drop at (take end line)) (length line + 1) r
  run-here =
      subst (Runs f (drop at (take end line)) (length line + 1)) (sym (e ∙ ap (frame_run f (length line + 1)) (rw part-length (tail_within line at end))))
      (runs f (length line + 1) (drop at (take end line)))

  pub turn-ends : at + r.bytes ≤ end
  turn-ends = omega (arith, run_ends f (take end line) out₀ out at handed frames w (length line + 1) r run-here, part-length)

  stops-here : Stops r.waits (front f (drop (at + r.bytes) (take end line)))
  stops-here =
      rw (← drop-drop r.bytes at (take end line))
      (run-here.stops (omega (arith, run-few f (drop at (take end line)) (length line + 1) r run-here, part-length, q.0, length-drop at (take end line))))

  module _ {out' : List ℕ} (m : out' ≡ copied (take (at + r.bytes - at) (drop at (take end line))) out handed) where
    behind-run : ReadSoFar f (take end line) out₀ out' (at + r.bytes) (handed + r.bytes) (frames + r.frames)
    behind-run =
        read-line-run f (take end line) out₀ out at handed frames w (length line + 1) r (take (at + r.bytes - at) (drop at (take end line))) out'
        (omega (arith, part-length, q.1)) run-here (mid-part (take end line) at r.bytes) m

    pub turn-few : frames + r.frames ≤ end
    turn-few =
        omega (arith, read-line-few f (take end line) out₀ out' (at + r.bytes) (handed + r.bytes) (frames + r.frames) behind-run, turn-ends)

    -- where it waits, the reading stops
    pub turn-stops : r.waits ≡ true
        → (record { framed = handed + r.bytes; skipped = at + r.bytes - (handed + r.bytes); frames = frames + r.frames } ≡ line_counts_of (read ongoing f (take end line)))
        × (out' ≡ put (joined (read ongoing f (take end line)).events) out₀)
    turn-stops h = read-line-end f (take end line) out₀ out' (at + r.bytes) (handed + r.bytes) (frames + r.frames) behind-run (rw h at stops-here)

    -- where it does not, the byte behind it is skipped, and those that begin no shape
    behind-byte : r.waits ≡ false → ReadSoFar f (take end line) out₀ out' (at + r.bytes + 1) (handed + r.bytes) (frames + r.frames)
    behind-byte h = read-line-skip f (take end line) out₀ out' (at + r.bytes) (handed + r.bytes) (frames + r.frames) behind-run (rw h at stops-here)

    pub turn-skips : r.waits ≡ false → at + r.bytes + 1 ≤ end
    turn-skips h = omega (arith, (behind-byte h).begins.inside, part-length)

    pub turn-goes-on : {n : ℕ} → r.waits ≡ false
        → n ≡ find_start f (take (length (take end line) - (at + r.bytes + 1)) (drop (at + r.bytes + 1) (take end line)))
        → ReadSoFar f (take end line) out₀ out' (at + r.bytes + 1 + n) (handed + r.bytes) (frames + r.frames)
    turn-goes-on {n} h g =
        read-line-noise f (take end line) out₀ out' (at + r.bytes + 1) (handed + r.bytes) (frames + r.frames) (behind-byte h) n
        (g ∙ ap (find_start f) (take_rest (take end line) (at + r.bytes + 1)))

    pub turn-inside : {n : ℕ} → r.waits ≡ false
        → n ≡ find_start f (take (length (take end line) - (at + r.bytes + 1)) (drop (at + r.bytes + 1) (take end line))) → at + r.bytes + 1 + n ≤ end
    turn-inside h g = omega (arith, (turn-goes-on h g).begins.inside, part-length)

-- ---- lines that need no reading

-- what going through a line answers and leaves
abbrev pub ReadsLine : Format → List ℕ → List ℕ → LineCounts → List ℕ → Type 0
ReadsLine f line out w out' = (w ≡ line_counts_of (read ongoing f line)) × (out' ≡ put (joined (read ongoing f line).events) out)

-- a proper start
pub start-read : (f : Format) (line out : List ℕ) → scan f line ≡ Partial → ReadsLine f line out (record { framed = 0; skipped = 0; frames = 0 }) out
unfolding front
start-read f line out e = rw (start-stops f line (rw e)) (refl, refl)

-- bytes that begin no shape
pub noise-read : (f : Format) (line out : List ℕ) (n : ℕ) → n ≡ find_start f line → n ≡ length line
    → ReadsLine f line out (record { framed = 0; skipped = n; frames = 0 }) out
noise-read f line out n e l =
    let k = find_start f line in
    let none : drop k line ≡ [] = drop_of_length-le line {i = k} (omega arith) in
    let g : read ongoing f line ≡ record { events = replicate k (skipped StartByte); rest = [] } =
    find-start-reads f line ∙ rw (none, read-nil ongoing f, append-nil (replicate k (skipped StartByte))) in
    rw (g, e) (rw (framed-skips k StartByte, skipped-skips k StartByte, frames-skips k StartByte), rw (joined-skips k StartByte))

-- and what stands behind them
pub find-start-on : (f : Format) (line out : List ℕ) (n : ℕ) (w : LineCounts) (out' : List ℕ) → n ≡ find_start f line → ReadsLine f (drop n line) out w out'
    → ReadsLine f line out (record { framed = w.framed; skipped = w.skipped + n; frames = w.frames }) out'
find-start-on f line out n w out' e r =
    let k = find_start f line in
    let es : List Event = replicate k (skipped StartByte) in
    let ds : List Event = (read ongoing f (drop k line)).events in
    let a : total framed_bytes (es ++ ds) ≡ total framed_bytes ds = omega (arith, total-append framed_bytes es ds, framed-skips k StartByte) in
    let b : total skipped_bytes (es ++ ds) ≡ total skipped_bytes ds + k = omega (arith, total-append skipped_bytes es ds, skipped-skips k StartByte) in
    let d : total one_frame (es ++ ds) ≡ total one_frame ds = omega (arith, total-append one_frame es ds, frames-skips k StartByte) in
    let j : joined (es ++ ds) ≡ joined ds = joined-append es ds ∙ rw (joined-skips k StartByte) in
    let q : ReadsLine f (drop k line) out w out' = subst (λ (i : ℕ). ReadsLine f (drop i line) out w out') e r in
    rw (e, find-start-reads f line) (rw (a, b, d, q.0), rw (j) q.1)
