-- What the rules of a format owe, so that every law over the format holds of it: `Lawful`. Each format pays it in a file of its own
-- (MglLaws, OnflightLaws, NmeaLaws), and FormatLaws has the table.
-- Assumes nothing.
use Rattle.std.proofs.Common.{◌≡◌, ℕ, zero, suc, ◌+◌, ◌-◌, ◌<◌, ◌≤◌, Bool, true, false, cond, not, T, eqb, ◌⊎◌, List, [], ◌∷◌, ◌++◌, length, replicate, refl, ap, ◌∙◌, arith, eqb→eq, eq-eqb, le-leb}
use lib.ListN.{length-replicate}
use mir.Facts.{eqb_no}
use Rattle.framing.specs.declared.Reason.{Reason}
use Rattle.framing.specs.declared.Reason.TheVariants.{StartByte}
use Rattle.framing.specs.declared.Scanned.TheVariants.{Whole}
use Rattle.framing.specs.Rules.{Next, more, done, bad, must, up_to, no_rules}
use Rattle.framing.specs.declared.Format.{Format}
use Rattle.framing.specs.Format.{rules_of, known, first, shortest, longest, pending_bound, body_start, body_end, next}
use Rattle.framing.specs.Shape.{scan_from}
use Rattle.framing.specs.Meaning.{IsByte, Bytes}
use Rattle.framing.proofs.ShapeLaws.{CountsFrom, counted}
use Rattle.framing.proofs.HeadLaws.{StartsWith}

-- ---- a byte's judgement

-- a fact of what is kept if the shape goes on, and another if it is whole
abbrev pub After : (ℕ → Type 0) → Type 0 → Next → Type 0
After P Q (more m) = P m
After P Q done = Q
After P Q (bad r) = Unit {0}

pub must-after : (P : ℕ → Type 0) (Q : Type 0) (t : Bool) (n : Next) (r : Reason) → (T t → After P Q n) → After P Q (must t n r)
must-after P Q true n r h = h tt
must-after P Q false n r h = tt

pub cond-after : (P : ℕ → Type 0) (Q : Type 0) (t : Bool) (n n' : Next) → (T t → After P Q n) → (T (not t) → After P Q n') → After P Q (cond t n n')
cond-after P Q true n n' h g = h tt
cond-after P Q false n n' h g = g tt

-- ---- bytes that complete a shape

pub record GoesOn (f : Format) (k m : ℕ) (xs : List ℕ) : Type 0 where
  pub rest : List ℕ
  pub some : 0 < length rest
  pub bytes : Bytes rest
  pub shape : scan_from f k m (xs ++ rest) ≡ Whole (k + length (xs ++ rest))

abbrev pub Completes : Format → ℕ → ℕ → Type 0
Completes f k m = GoesOn f k m []

-- one byte, and then what completes the place after it
pub one_more : {f : Format} {k m : ℕ} (b n : ℕ) → IsByte b → next f k m b ≡ more n → Completes f (suc k) n → Completes f k m
unfolding scan_from
one_more {f} {k} {m} b n l e c =
    record {
      rest = b ∷ c.rest;
      some = omega arith;
      bytes = (l, c.bytes);
      shape = rw e (c.shape ∙ ap Whole (omega arith));
    }

pub the_last : {f : Format} {k m : ℕ} (b : ℕ) → IsByte b → next f k m b ≡ done → Completes f k m
unfolding scan_from
the_last {f} {k} {m} b l e = record { rest = b ∷ []; some = omega arith; bytes = (l, tt); shape = rw e (ap Whole (omega arith)) }

-- ---- what is owed

-- every shape of a format starts with a
abbrev pub Opens : Format → ℕ → Type 0
Opens f a = (x : ℕ) → next f 0 0 x ≡ must (eqb x a) (more 0) StartByte

pub record Lawful (f : Format) : Type 1 where
  -- it is known, or has no rules
  pub known-or-none : T (known f) ⊎ (rules_of f ≡ no_rules)
  -- its shapes start with its first byte
  pub opens : T (known f) → Opens f (first f)
  -- what holds before byte k of a shape, with m kept, where P holds of every byte so far; it bounds k, and some bytes complete the shape
  pub Sound : (ℕ → Type 0) → ℕ → ℕ → Type 0
  pub sound-zero : (P : ℕ → Type 0) → Sound P 0 0
  pub sound-next : (P : ℕ → Type 0) (k m b : ℕ) → P b → Sound P k m → After (Sound P (suc k)) (shortest f ≤ suc k) (next f k m b)
  pub sound-bound : (P : ℕ → Type 0) (k m : ℕ) → Sound P k m → k ≤ pending_bound f
  pub completes : T (known f) → (k m : ℕ) → Sound IsByte k m → Completes f k m
  -- the body has a byte or more
  pub body-space : T (known f) → body_start f + body_end f < shortest f
  pub in_order : shortest f ≤ longest f
  -- it is no longer than the longest of all formats, which a reader holds but for a byte
  pub most : longest f ≤ 276

-- ---- formats that count their bytes behind a head of four

-- the shape counts up to its m-th byte, at least the l-th and at most the n-th
abbrev pub Below : ℕ → ℕ → ℕ → ℕ → Type 0
Below l n k m = (k < m) × (m ≤ n) × (l ≤ m)

-- a shape that counts once its head of four bytes is there; H holds of what is kept before the fourth
abbrev pub Counted : (ℕ → Type 0) → ℕ → ℕ → ℕ → ℕ → Type 0
Counted H l n zero m = Unit {0}
Counted H l n (suc zero) m = Unit {0}
Counted H l n (suc (suc zero)) m = Unit {0}
Counted H l n (suc (suc (suc zero))) m = H m
Counted H l n (suc (suc (suc (suc k)))) m = Below l n (suc (suc (suc (suc k)))) m

pub up_to-after : (l n k m : ℕ) → Below l n k m → After (Below l n (suc k)) (l ≤ suc k) (up_to m k)
up_to-after l n k m h =
    cond-after (Below l n (suc k)) (l ≤ suc k) (eqb (suc k) m) done (more m) (λ t. omega (arith, eqb→eq (suc k) m t))
    (λ t. omega (arith, eqb_no {a = suc k} {b = m} t))

pub counted-bound : (H : ℕ → Type 0) (l n k m : ℕ) → 4 ≤ n → Counted H l (suc n) k m → k ≤ n
counted-bound H l n zero m g h = omega arith
counted-bound H l n (suc zero) m g h = omega arith
counted-bound H l n (suc (suc zero)) m g h = omega arith
counted-bound H l n (suc (suc (suc zero))) m g h = omega arith
counted-bound H l n (suc (suc (suc (suc k)))) m g h = omega arith

zeros : (n : ℕ) → Bytes (replicate n 0)
zeros zero = tt
zeros (suc n) = (omega arith, zeros n)

-- any bytes, as many as are missing
pub the-missing : (f : Format) (h : ℕ) → CountsFrom f h → (k m : ℕ) → h ≤ k → k < m → Completes f k m
the-missing f h c k m l g =
    let zs : List ℕ = replicate (m - k) 0 in
    let n : length zs ≡ m - k = length-replicate (m - k) 0 in
    let e : k + length zs ≡ m = omega arith in
    record { rest = zs; some = omega arith; bytes = zeros (m - k); shape = rw e (counted f h c k m zs l g ∙ rw (e, le-leb m m (omega arith))) }

-- a head of four bytes that starts with a and b, where a shape counts from its fifth on
module _ {f : Format} {a b : ℕ} (h : StartsWith f a b) (c : CountsFrom f 4) (ha : IsByte a) (hb : IsByte b) (third : (m : ℕ) → Completes f 2 m) where
  second : (m : ℕ) → Completes f 1 m
  second m = one_more b 0 hb (h.second m b ∙ rw (eq-eqb b b refl)) (third 0)

  pub head-completes : (H : ℕ → Type 0) (l n : ℕ) → ((m : ℕ) → H m → Completes f 3 m) → (k m : ℕ) → Counted H l n k m → Completes f k m
  head-completes H l n fourth zero m g = one_more a 0 ha (h.first m a ∙ rw (eq-eqb a a refl)) (second 0)
  head-completes H l n fourth (suc zero) m g = second m
  head-completes H l n fourth (suc (suc zero)) m g = third m
  head-completes H l n fourth (suc (suc (suc zero))) m g = fourth m g
  head-completes H l n fourth (suc (suc (suc (suc k)))) m g = the-missing f 4 c (suc (suc (suc (suc k)))) m (omega arith) g.0
