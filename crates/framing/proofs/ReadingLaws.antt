-- Laws of the two readings over every format: their equation, how they go on when bytes follow, what is pending, their counts.
-- Assumes nothing.
use Rattle.std.proofs.Common.{◌≡◌, ℕ, zero, suc, ◌+◌, ◌<◌, ◌≤◌, List, [], ◌∷◌, ◌++◌, length, take, drop, sym, refl, ap, ◌∙◌, subst, append_assoc, append-nil, le_refl, arith, length-append, length-drop, length-take}
use lib.Seq.{take-append-le, drop-append-le}
use Rattle.framing.specs.declared.Reason.{Reason}
use Rattle.framing.specs.declared.Reason.TheVariants.{RanOut}
use Rattle.framing.specs.declared.Scanned.TheVariants.{Partial}
use Rattle.framing.specs.declared.Found.{Found}
use Rattle.framing.specs.declared.Found.TheVariants.{Frame, Start, Neither}
use Rattle.framing.specs.declared.Format.{Format}
use Rattle.framing.specs.Format.{pending_bound}
use Rattle.framing.specs.Shape.{scan_from, scan}
use Rattle.framing.specs.Frame.{front, IsFrame}
use Rattle.framing.specs.Reading.{Mode, ongoing, closing, Event, framed, skipped, Reading, ◌then◌, step, read_steps, read, extend, frames, joined, total, one_frame, framed_bytes, framed_count, skipped_count, pending_count}
use Rattle.framing.specs.Meaning.{ReadCons, ClosingRest, ReadNil}
use Rattle.framing.proofs.FrameLaws.{FrameIn, front-inside, Decided, front-stays, frame-alone, start_partial}
use Rattle.framing.proofs.Length.{start-bound}

-- ---- the equation of `read`

-- what is left after a frame is shorter
left : (n x : ℕ) (xs : List ℕ) → FrameIn (suc (length xs)) (Frame n) → length (drop n (x ∷ xs)) ≤ length xs
left n x xs h = rw (length-drop n (x ∷ xs)) (omega arith)

step-cong : (c : Mode) (o : Found) (x : ℕ) (xs : List ℕ) (go go' : List ℕ → Reading) → FrameIn (suc (length xs)) o
    → ((ys : List ℕ) → length ys ≤ length xs → go ys ≡ go' ys) → step c o x xs go ≡ step c o x xs go'
step-cong c (Frame n) x xs go go' h e = ap (◌then◌ (framed (take n (x ∷ xs)))) (e (drop n (x ∷ xs)) (left n x xs h))
step-cong ongoing Start x xs go go' h e = refl
step-cong closing Start x xs go go' h e = ap (◌then◌ (skipped RanOut)) (e xs (le_refl (length xs)))
step-cong c (Neither r) x xs go go' h e = ap (◌then◌ (skipped r)) (e xs (le_refl (length xs)))

-- any number of steps that is large enough gives the same
enough : (n n' : ℕ) (c : Mode) (f : Format) (xs : List ℕ) → length xs ≤ n → length xs ≤ n' → read_steps n c f xs ≡ read_steps n' c f xs
unfolding read_steps
enough zero zero c f xs h h' = refl
enough zero (suc n') c f [] h h' = refl
enough zero (suc n') c f (x ∷ xs) h h' = absurd (omega arith)
enough (suc n) zero c f [] h h' = refl
enough (suc n) zero c f (x ∷ xs) h h' = absurd (omega arith)
enough (suc n) (suc n') c f [] h h' = refl
enough (suc n) (suc n') c f (x ∷ xs) h h' =
    step-cong c (front f (x ∷ xs)) x xs (λ ys. read_steps n c f ys) (λ ys. read_steps n' c f ys) (front-inside f (x ∷ xs))
    (λ ys l. enough n n' c f ys (omega arith) (omega arith))

pub read-nil : ReadNil
unfolding read read_steps
read-nil c f = refl

-- A reading of x ∷ xs takes the step that their front says, and then reads what is left.
pub read-cons : ReadCons
unfolding read read_steps
read-cons c f x xs =
    step-cong c (front f (x ∷ xs)) x xs (λ ys. read_steps (length xs) c f ys) (read c f) (front-inside f (x ∷ xs))
    (λ ys l. enough (length xs) (length ys) c f ys l (le_refl (length ys)))

pub read_at : (c : Mode) (f : Format) (x : ℕ) (xs : List ℕ) {o : Found} → front f (x ∷ xs) ≡ o → read c f (x ∷ xs) ≡ step c o x xs (read c f)
read_at c f x xs e = read-cons c f x xs ∙ ap (λ (q : Found). step c q x xs (read c f)) e

-- ---- induction by steps

by_length {ℓ} : (P : List ℕ → Type ℓ) → P [] → ((x : ℕ) (xs : List ℕ) → ((ys : List ℕ) → length ys ≤ length xs → P ys) → P (x ∷ xs))
    → (xs : List ℕ) → P xs
by_length P base more xs = go (length xs) xs (le_refl (length xs))
  where
    go : (n : ℕ) (ys : List ℕ) → length ys ≤ n → P ys
    go zero [] h = base
    go (suc n) [] h = base
    go zero (y ∷ ys) h = absurd (omega arith)
    go (suc n) (y ∷ ys) h = more y ys (λ zs l. go n zs (omega arith))

-- What holds of the empty string, and of a longer one from what is left after its step. The step at a start may use the shorter
-- rest, since the closing reading goes on there.
pub by-fronts {ℓ} : (f : Format) (P : List ℕ → Type ℓ) → P []
    → ((n x : ℕ) (xs : List ℕ) → front f (x ∷ xs) ≡ Frame n → (0 < n) × (n ≤ suc (length xs)) → P (drop n (x ∷ xs)) → P (x ∷ xs))
    → ((x : ℕ) (xs : List ℕ) → front f (x ∷ xs) ≡ Start → P xs → P (x ∷ xs))
    → ((r : Reason) (x : ℕ) (xs : List ℕ) → front f (x ∷ xs) ≡ Neither r → P xs → P (x ∷ xs))
    → (xs : List ℕ) → P xs
by-fronts f P base on_frame on_start on_neither =
    by_length P base (λ x xs ih. go x xs ih (front f (x ∷ xs)) refl (front-inside f (x ∷ xs)))
  where
    go : (x : ℕ) (xs : List ℕ) → ((ys : List ℕ) → length ys ≤ length xs → P ys)
        → (o : Found) → front f (x ∷ xs) ≡ o → FrameIn (suc (length xs)) o → P (x ∷ xs)
    go x xs ih (Frame n) e h = on_frame n x xs e h (ih (drop n (x ∷ xs)) (left n x xs h))
    go x xs ih Start e h = on_start x xs e (ih xs (le_refl (length xs)))
    go x xs ih (Neither r) e h = on_neither r x xs e (ih xs (le_refl (length xs)))

-- ---- streaming

-- Either reading of some bytes and then others is the reading of the first, extended by that reading of its pending bytes and
-- then the others.
pub streaming : (c : Mode) (f : Format) (xs ys : List ℕ) → read c f (xs ++ ys) ≡ extend (read ongoing f xs) (read c f ((read ongoing f xs).rest ++ ys))
streaming c f xs ys = by-fronts f P base on_frame on_start on_neither xs
  where
    P : List ℕ → Type 0
    P zs = read c f (zs ++ ys) ≡ extend (read ongoing f zs) (read c f ((read ongoing f zs).rest ++ ys))

    base : P []
    base = rw (read-nil ongoing f)

    on_frame : (n x : ℕ) (zs : List ℕ) → front f (x ∷ zs) ≡ Frame n → (0 < n) × (n ≤ suc (length zs)) → P (drop n (x ∷ zs)) → P (x ∷ zs)
    on_frame n x zs e h ih =
        read_at c f x (zs ++ ys) (front-stays f (x ∷ zs) ys (subst Decided (sym e) tt) ∙ e)
        ∙ rw (read_at ongoing f x zs e, take-append-le n (x ∷ zs) ys h.1, drop-append-le n (x ∷ zs) ys h.1)
        (ap (◌then◌ (framed (take n (x ∷ zs)))) ih)

    on_start : (x : ℕ) (zs : List ℕ) → front f (x ∷ zs) ≡ Start → P zs → P (x ∷ zs)
    on_start x zs e ih = rw (read_at ongoing f x zs e)

    on_neither : (r : Reason) (x : ℕ) (zs : List ℕ) → front f (x ∷ zs) ≡ Neither r → P zs → P (x ∷ zs)
    on_neither r x zs e ih =
        read_at c f x (zs ++ ys) (front-stays f (x ∷ zs) ys (subst Decided (sym e) tt) ∙ e)
        ∙ rw (read_at ongoing f x zs e) (ap (◌then◌ (skipped r)) ih)

-- The closing reading is the reading, extended by the closing reading of its pending bytes.
pub closing-extends : (f : Format) (xs : List ℕ) → read closing f xs ≡ extend (read ongoing f xs) (read closing f (read ongoing f xs).rest)
closing-extends f xs = simp append-nil at (streaming closing f xs [])

-- ---- what is pending

-- The closing reading leaves nothing pending.
pub closing-rest : ClosingRest
closing-rest f =
    by-fronts f (λ xs. (read closing f xs).rest ≡ []) (rw (read-nil closing f))
    (λ n x xs e h ih. rw (read_at closing f x xs e) ih)
    (λ x xs e ih. rw (read_at closing f x xs e) ih)
    (λ r x xs e ih. rw (read_at closing f x xs e) ih)

-- What is pending is empty or a proper start of a shape.
pub rest-partial : (c : Mode) (f : Format) (xs : List ℕ) → scan f (read c f xs).rest ≡ Partial
unfolding scan scan_from
rest-partial closing f xs = ap (scan f) (closing-rest f xs)
rest-partial ongoing f xs =
    by-fronts f (λ ys. scan f (read ongoing f ys).rest ≡ Partial) (rw (read-nil ongoing f))
    (λ n x ys e h ih. rw (read_at ongoing f x ys e) ih)
    (λ x ys e ih. rw (read_at ongoing f x ys e) (start_partial f (x ∷ ys) e))
    (λ r x ys e ih. rw (read_at ongoing f x ys e) ih)
    xs

-- The pending bound.
pub pending-bound : (c : Mode) (f : Format) (xs : List ℕ) → pending_count (read c f xs) ≤ pending_bound f
pending-bound c f xs = start-bound f (read c f xs).rest (rest-partial c f xs)

-- ---- what is framed

abbrev pub AllFrames : Format → List (List ℕ) → Type 0
AllFrames f [] = Unit {0}
AllFrames f (b ∷ bs) = IsFrame f b × AllFrames f bs

-- What a reading frames are frames.
pub frames-are : (c : Mode) (f : Format) (xs : List ℕ) → AllFrames f (frames (read c f xs).events)
frames-are c f =
    by-fronts f (P c) (rw (read-nil c f) tt) (λ n x xs e h ih. rw (read_at c f x xs e) (frame-alone f n (x ∷ xs) e, ih)) (on_start c)
    (λ r x xs e ih. rw (read_at c f x xs e) ih)
  where
    P : Mode → List ℕ → Type 0
    P d xs = AllFrames f (frames (read d f xs).events)

    on_start : (d : Mode) (x : ℕ) (xs : List ℕ) → front f (x ∷ xs) ≡ Start → P d xs → P d (x ∷ xs)
    on_start ongoing x xs e ih = rw (read_at ongoing f x xs e) tt
    on_start closing x xs e ih = rw (read_at closing f x xs e) ih

-- ---- the counts

pub total-append : (w : Event → ℕ) (es ds : List Event) → total w (es ++ ds) ≡ total w es + total w ds
total-append w [] ds = omega arith
total-append w (e ∷ es) ds = let h = total-append w es ds in omega arith

pub joined-append : (es ds : List Event) → joined (es ++ ds) ≡ joined es ++ joined ds
joined-append [] ds = refl
joined-append (framed b ∷ es) ds = rw (joined-append es ds) (sym (append_assoc b (joined es) (joined ds)))
joined-append (skipped r ∷ es) ds = joined-append es ds

-- Framed is the sum of the frames' lengths.
pub length-joined : (es : List Event) → length (joined es) ≡ total framed_bytes es
length-joined [] = refl
length-joined (framed b ∷ es) = rw (length-append b (joined es), length-joined es)
length-joined (skipped r ∷ es) = let h = length-joined es in omega arith

pub length-frames : (es : List Event) → length (frames es) ≡ total one_frame es
length-frames [] = refl
length-frames (framed b ∷ es) = let h = length-frames es in omega arith
length-frames (skipped r ∷ es) = let h = length-frames es in omega arith

-- Framed, skipped and pending bytes are together all the bytes.
pub balance : (c : Mode) (f : Format) (xs : List ℕ)
    → framed_count (read c f xs) + skipped_count (read c f xs) + pending_count (read c f xs) ≡ length xs
balance c f = by-fronts f (P c) (rw (read-nil c f)) on_frame (on_start c) on_neither
  where
    P : Mode → List ℕ → Type 0
    P d xs = framed_count (read d f xs) + skipped_count (read d f xs) + pending_count (read d f xs) ≡ length xs

    on_frame : (n x : ℕ) (xs : List ℕ) → front f (x ∷ xs) ≡ Frame n → (0 < n) × (n ≤ suc (length xs)) → P c (drop n (x ∷ xs)) → P c (x ∷ xs)
    on_frame n x xs e h ih = rw (read_at c f x xs e, length-take n (x ∷ xs)) (omega (arith, rw (length-drop n (x ∷ xs)) at ih))

    on_start : (d : Mode) (x : ℕ) (xs : List ℕ) → front f (x ∷ xs) ≡ Start → P d xs → P d (x ∷ xs)
    on_start ongoing x xs e ih = rw (read_at ongoing f x xs e) (omega arith)
    on_start closing x xs e ih = rw (read_at closing f x xs e) (omega arith)

    on_neither : (r : Reason) (x : ℕ) (xs : List ℕ) → front f (x ∷ xs) ≡ Neither r → P c xs → P c (x ∷ xs)
    on_neither r x xs e ih = rw (read_at c f x xs e) (omega arith)
