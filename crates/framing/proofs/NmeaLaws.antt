-- NMEA: a scan through the body and the end of a sentence, as code goes through them, and what its rules owe.
-- Assumes nothing.
use Rattle.std.proofs.Common.{◌≡◌, ℕ, zero, suc, ◌+◌, ◌-◌, ◌<◌, ◌≤◌, Bool, true, false, cond, eqb, ltb, List, length, get_or, take, drop, sym, refl, ap, ◌∙◌, ap₂, inl, arith, ltb→lt, le-ltb, lt-ltb, eq-eqb, ne_eqb, take_all, length-drop, get_or-drop}
use Rattle.framing.specs.declared.Reason.TheVariants.{BodyByte, BodyTooLong, Ending}
use Rattle.framing.specs.declared.Scanned.TheVariants.{Whole, Broken}
use Rattle.framing.specs.Rules.{more, done, must}
use Rattle.framing.specs.Nmea.{permitted, hex_digit, body_next, nmea_next}
use Rattle.framing.specs.declared.Format.TheVariants.{Nmea}
use Rattle.framing.specs.Format.{known, first, shortest, longest, pending_bound, body_start, body_end, next}
use Rattle.framing.specs.Shape.{scan_from}
use Rattle.framing.specs.Private.{ending_byte}
use Rattle.framing.proofs.ShapeLaws.{scan-bad, scan-more, scan-done}
use Rattle.framing.proofs.Lawful.{After, must-after, cond-after, Completes, one_more, the_last, Lawful}

-- ---- NMEA: a byte of the body, and of the end

nmea-end : (k m b : ℕ) → 0 < k → 0 < m → m ≤ 4 → next Nmea k m b ≡ must (ending_byte m b) (cond (eqb m 4) done (more (m + 1))) Ending
unfolding next nmea_next ending_byte
nmea-end zero m b h g l = absurd (omega arith)
nmea-end (suc n) zero b h g l = absurd (omega arith)
nmea-end (suc n) (suc zero) b h g l = refl
nmea-end (suc n) (suc (suc zero)) b h g l = refl
nmea-end (suc n) (suc (suc (suc zero))) b h g l = refl
nmea-end (suc n) (suc (suc (suc (suc zero)))) b h g l = refl
nmea-end (suc n) (suc (suc (suc (suc (suc m))))) b h g l = absurd (omega arith)

-- byte k of s, where m bytes of the end stand before it
module _ (s : List ℕ) (k m : ℕ) (h : 0 < k) (g : 0 < m) (l : m ≤ 4) (i : k < length s) where
  end-broken : ending_byte m (get_or s k 0) ≡ false → scan_from Nmea k m (drop k s) ≡ Broken Ending
  end-broken e = scan-bad Nmea k m s i (nmea-end k m (get_or s k 0) h g l ∙ rw e)

  pub end_whole : ending_byte m (get_or s k 0) ≡ true → m ≡ 4 → scan_from Nmea k m (drop k s) ≡ Whole (k + 1)
  end_whole e q = scan-done Nmea k m s i (nmea-end k m (get_or s k 0) h g l ∙ rw (e, eq-eqb m 4 q))

  pub end_more : ending_byte m (get_or s k 0) ≡ true → (m ≡ 4 → ⊥) → scan_from Nmea k m (drop k s) ≡ scan_from Nmea (k + 1) (m + 1) (drop (k + 1) s)
  end_more e q = scan-more Nmea k m s i (nmea-end k m (get_or s k 0) h g l ∙ rw (e, ne_eqb m 4 q))

-- byte m of an end that begins at place a, as code reads it from the rest of s, where the m before it are right
module _ (s : List ℕ) {a m : ℕ} (h : 0 < a) (l : m ≤ 3) (i : m < length (take (length s - a) (drop a s)))
    (w : scan_from Nmea a 1 (drop a s) ≡ scan_from Nmea (a + m) (m + 1) (drop (a + m) s))
    {t : Bool} (e : t ≡ ending_byte (m + 1) (get_or (take (length s - a) (drop a s)) m 0)) where
  rest : take (length s - a) (drop a s) ≡ drop a s
  rest = take_all (length s - a) (drop a s) (simp length-drop (omega arith))

  inside : a + m < length s
  inside = let k : m < length (drop a s) = rw rest at i in omega (arith, length-drop a s)

  judged : {b : Bool} → t ≡ b → ending_byte (m + 1) (get_or s (a + m) 0) ≡ b
  judged q = rw (sym (get_or-drop a s m 0), sym rest) (sym e ∙ q)

  pub ended-badly : t ≡ false → Broken Ending ≡ scan_from Nmea a 1 (drop a s)
  ended-badly q = sym (w ∙ end-broken s (a + m) (m + 1) (omega arith) (omega arith) (omega arith) inside (judged q))

  pub ended-well : t ≡ true → m ≡ 3 → Whole (a + 4) ≡ scan_from Nmea a 1 (drop a s)
  ended-well q z =
      let n : a + m + 1 ≡ a + 4 = omega arith in
      sym (w ∙ end_whole s (a + m) (m + 1) (omega arith) (omega arith) (omega arith) inside (judged q) (omega arith) ∙ ap Whole n)

  pub ends-on : t ≡ true → (m ≡ 3 → ⊥) → scan_from Nmea a 1 (drop a s) ≡ scan_from Nmea (a + (m + 1)) (m + 1 + 1) (drop (a + (m + 1)) s)
  ends-on q z =
      let n : a + m + 1 ≡ a + (m + 1) = omega arith in
      w ∙ (rw n at (end_more s (a + m) (m + 1) (omega arith) (omega arith) (omega arith) inside (judged q) (omega arith)))

nmea-body : (k b : ℕ) → 0 < k → next Nmea k 0 b ≡ body_next (k - 1) b
unfolding next nmea_next
nmea-body zero b h = absurd (omega arith)
nmea-body (suc n) b h = let e : suc n - 1 ≡ n = omega arith in rw e

-- a body byte that is no `*`, by the two tests on it
body-tests : (n b : ℕ) (t u : Bool) → (b ≡ 0x2A → ⊥) → permitted b ≡ t → ltb n 76 ≡ u
    → body_next n b ≡ must t (must u (more 0) BodyTooLong) BodyByte
unfolding body_next
body-tests n b t u e p q =
    ap (λ (x : Bool). cond x (must (ltb 0 n) (more 1) BodyByte) (must (permitted b) (must (ltb n 76) (more 0) BodyTooLong) BodyByte)) (ne_eqb b 0x2A e)
    ∙ ap₂ (λ (x y : Bool). must x (must y (more 0) BodyTooLong) BodyByte) p q

-- byte k of s, where only body bytes stand between it and the `$`
module _ (s : List ℕ) (k : ℕ) (h : 0 < k) (i : k < length s) where
  pub star-broken : get_or s k 0 ≡ 0x2A → k ≡ 1 → scan_from Nmea k 0 (drop k s) ≡ Broken BodyByte
  unfolding body_next
  star-broken e q = scan-bad Nmea k 0 s i (nmea-body k (get_or s k 0) h ∙ rw (e, q))

  pub star-more : get_or s k 0 ≡ 0x2A → (k ≡ 1 → ⊥) → scan_from Nmea k 0 (drop k s) ≡ scan_from Nmea (k + 1) 1 (drop (k + 1) s)
  unfolding body_next
  star-more e q = scan-more Nmea k 0 s i (nmea-body k (get_or s k 0) h ∙ rw (e, lt-ltb 0 (k - 1) (omega arith)))

  pub body-broken : (get_or s k 0 ≡ 0x2A → ⊥) → permitted (get_or s k 0) ≡ false → scan_from Nmea k 0 (drop k s) ≡ Broken BodyByte
  body-broken e p = scan-bad Nmea k 0 s i (nmea-body k (get_or s k 0) h ∙ body-tests (k - 1) (get_or s k 0) false (ltb (k - 1) 76) e p refl)

  pub body-long : (get_or s k 0 ≡ 0x2A → ⊥) → permitted (get_or s k 0) ≡ true → 77 ≤ k → scan_from Nmea k 0 (drop k s) ≡ Broken BodyTooLong
  body-long e p q =
      scan-bad Nmea k 0 s i (nmea-body k (get_or s k 0) h ∙ body-tests (k - 1) (get_or s k 0) true false e p (le-ltb (k - 1) 76 (omega arith)))

  pub body_more : (get_or s k 0 ≡ 0x2A → ⊥) → permitted (get_or s k 0) ≡ true → k < 77 → scan_from Nmea k 0 (drop k s) ≡ scan_from Nmea (k + 1) 0 (drop (k + 1) s)
  body_more e p q =
      scan-more Nmea k 0 s i (nmea-body k (get_or s k 0) h ∙ body-tests (k - 1) (get_or s k 0) true true e p (lt-ltb (k - 1) 76 (omega arith)))

-- ---- what is owed

abbrev Sentence : ℕ → ℕ → Type 0
Sentence k zero = k ≤ 77
Sentence k (suc m) = (k ≤ 78 + m) × (m ≤ 3) × (m + 3 ≤ k)

body-after : (n b : ℕ) → n ≤ 76 → After (Sentence (suc (suc n))) (7 ≤ suc (suc n)) (body_next n b)
unfolding body_next
body-after n b h =
    cond-after _ _ (eqb b 0x2A) _ _ (λ t. must-after _ _ (ltb 0 n) _ _ (λ u. omega (arith, ltb→lt 0 n u)))
    (λ t. must-after _ _ (permitted b) _ _ (λ u. must-after _ _ (ltb n 76) _ _ (λ v. omega (arith, ltb→lt n 76 v))))

nmea-after : (k m b : ℕ) → Sentence k m → After (Sentence (suc k)) (7 ≤ suc k) (nmea_next k m b)
unfolding nmea_next
nmea-after zero m b h = must-after _ _ (eqb b 0x24) _ _ (λ t. omega arith)
nmea-after (suc n) zero b h = body-after n b (omega arith)
nmea-after (suc n) (suc zero) b h = must-after _ _ (hex_digit b) _ _ (λ t. omega arith)
nmea-after (suc n) (suc (suc zero)) b h = must-after _ _ (hex_digit b) _ _ (λ t. omega arith)
nmea-after (suc n) (suc (suc (suc zero))) b h = must-after _ _ (eqb b 0x0D) _ _ (λ t. omega arith)
nmea-after (suc n) (suc (suc (suc (suc m)))) b h = must-after _ _ (eqb b 0x0A) _ _ (λ t. omega arith)

sentence-bound : (k m : ℕ) → Sentence k m → k ≤ 81
sentence-bound k zero h = omega arith
sentence-bound k (suc m) h = omega arith

-- NMEA: LF, CR, the digits, the `*` after a body, a body byte
line-feed : (n m : ℕ) → Completes Nmea (suc n) (suc (suc (suc (suc m))))
unfolding next nmea_next
line-feed n m = the_last 0x0A (omega arith) refl

carriage-return : (n : ℕ) → Completes Nmea (suc n) 3
unfolding next nmea_next
carriage-return n = one_more 0x0D 4 (omega arith) refl (line-feed (suc n) 0)

second-digit : (n : ℕ) → Completes Nmea (suc n) 2
unfolding next nmea_next
second-digit n = one_more 0x30 3 (omega arith) refl (carriage-return (suc n))

first-digit : (n : ℕ) → Completes Nmea (suc n) 1
unfolding next nmea_next
first-digit n = one_more 0x30 2 (omega arith) refl (second-digit (suc n))

star : (n : ℕ) → Completes Nmea (suc (suc n)) 0
unfolding next nmea_next body_next
star n = one_more 0x2A 1 (omega arith) (rw (lt-ltb 0 (suc n) (omega arith))) (first-digit (suc (suc n)))

body-byte : Completes Nmea 1 0
unfolding next nmea_next body_next
body-byte = one_more 0x41 0 (omega arith) refl (star 0)

nmea-completes : (k m : ℕ) → Sentence k m → Completes Nmea k m
unfolding next nmea_next
nmea-completes zero m h = one_more 0x24 0 (omega arith) refl body-byte
nmea-completes (suc zero) zero h = body-byte
nmea-completes (suc (suc n)) zero h = star n
nmea-completes (suc n) (suc zero) h = first-digit n
nmea-completes (suc n) (suc (suc zero)) h = second-digit n
nmea-completes (suc n) (suc (suc (suc zero))) h = carriage-return n
nmea-completes (suc n) (suc (suc (suc (suc m)))) h = line-feed n m

pub nmea-lawful : Lawful Nmea
unfolding known first shortest longest pending_bound body_start body_end next nmea_next
nmea-lawful =
    record {
      known-or-none = inl tt;
      opens = λ t x. refl;
      Sound = λ P. Sentence;
      sound-zero = λ P. omega arith;
      sound-next = λ P k m b p h. nmea-after k m b h;
      sound-bound = λ P. sentence-bound;
      completes = λ t. nmea-completes;
      body-space = λ t. omega arith;
      in_order = omega arith;
      most = omega arith;
    }
