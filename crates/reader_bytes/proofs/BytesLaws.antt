-- A reader's bytes: what the code writes and reads, and that they are read back as the reader. Assumes nothing.
use Prim.Native.Nat.{ℕ, ◌^◌, ◌<◌}
use mathlib.Core.Path.{◌≡◌, refl, ap, ◌∙◌}
use mathlib.Core.Bool.{Bool, true, false, not}
use mathlib.Core.List.{List, [], ◌++◌, append-nil}
use native.Mathlib.Omega.{arith}
use lib.Dec.{eqb}
use lib.ListN.{length, drop, length-append, length-drop, drop_of_length-le}
use lib.Seq.{take_all}
use Rattle.numbers.specs.Low.{low, low_bytes}
use Rattle.std.specs.Int.{w32, to_le_bytes, from_bool}
use Rattle.numbers.proofs.LowBytes.{low-low_bytes, to_le_bytes-low}
use Rattle.buffer.specs.Buffer.{put, copied}
use Rattle.buffer.proofs.BufferLaws.{copied_behind, start-copied, put-copied}
use Rattle.reader.specs.declared.Reader.{Reader as State}
use Rattle.reader.specs.declared.in_place.Words.{Words}
use Rattle.reader.specs.State.{held_length}
use Rattle.reader.specs.InPlace.{state_of}
use Rattle.reader_bytes.specs.Bytes.{held_at, reader_length, closed_word, encode, decode}
use Rattle.reader_bytes.specs.Private.{word_bytes}

-- ---- what the code reads and writes

-- the four bytes that the code has of a number, and of the flag for open and closed
pub bytes-of : (n : ℕ) {bs : List ℕ} → bs ≡ to_le_bytes w32 n → bs ≡ low_bytes 4 n
bytes-of n e = e ∙ to_le_bytes-low w32 n

pub flag-bytes : (b : Bool) {k : ℕ} {bs : List ℕ} → k ≡ from_bool b → bs ≡ to_le_bytes w32 k → bs ≡ low_bytes 4 (closed_word b)
flag-bytes true {k} h e = bytes-of k e ∙ ap (low_bytes 4) h
flag-bytes false {k} h e = bytes-of k e ∙ ap (low_bytes 4) h

-- five copies, one behind the other
pub words_copied : (n : Words) (s : List ℕ) → length s ≡ reader_length
    → copied (low_bytes 4 n.pending)
    (copied (low_bytes 4 n.skipped)
    (copied (low_bytes 4 n.framed)
    (copied (low_bytes 4 (closed_word n.closed)) (copied (low_bytes 4 n.format) s 0) 4) 8) 12) 16
    ≡ word_bytes n ++ drop held_at s
unfolding word_bytes encode low_bytes
words_copied n s l =
    let a₁ = low_bytes 4 n.format in
    let a₂ = a₁ ++ low_bytes 4 (closed_word n.closed) in
    let a₃ = a₂ ++ low_bytes 4 n.framed in
    let a₄ = a₃ ++ low_bytes 4 n.skipped in
    rw (
      copied_behind a₁ (low_bytes 4 (closed_word n.closed)) s 0 4 refl (omega arith),
      copied_behind a₂ (low_bytes 4 n.framed) s 0 8 refl (omega arith),
      copied_behind a₃ (low_bytes 4 n.skipped) s 0 12 refl (omega arith),
      copied_behind a₄ (low_bytes 4 n.pending) s 0 16 refl (omega arith),
    )
    (start-copied (word_bytes n) s (omega arith))

pub length-words : (n : Words) → length (word_bytes n) ≡ held_at
unfolding word_bytes encode low_bytes
length-words n = refl

-- a reader's bytes are its words and its held bytes
pub encode-words : (n : Words) (held : List ℕ) → word_bytes n ++ held ≡ encode (state_of n held)
unfolding word_bytes encode low_bytes
encode-words n held = refl

-- the held bytes, copied behind the words
pub encode-copied : (n : Words) (r : State) (s : List ℕ) → length s ≡ reader_length → length r.held ≡ held_length → state_of n r.held ≡ r
    → copied r.held (word_bytes n ++ drop held_at s) held_at ≡ encode r
encode-copied n r s l h e =
    let m = length-drop held_at s in
    let w = length-words n in
    ap (λ (x : List ℕ). copied r.held x held_at) {y = put (word_bytes n) s} (rw (w)) ∙ put-copied (word_bytes n) r.held s held_at w (omega arith)
    ∙ ap (λ (x : List ℕ). word_bytes n ++ r.held ++ x) (drop_of_length-le s {i = length (word_bytes n ++ r.held)} (omega (arith, length-append (word_bytes n) r.held)))
    ∙ append-nil (word_bytes n ++ r.held)
    ∙ encode-words n r.held
    ∙ ap encode e

-- ---- back

-- A reader as the code can have it: words of 32 bits, and all of the held bytes.
pub record Fits32 (r : State) : Type 0 where
  pub format : r.format < 2 ^ 32
  pub framed : r.framed < 2 ^ 32
  pub skipped : r.skipped < 2 ^ 32
  pub pending : r.pending < 2 ^ 32
  pub held : length r.held ≡ held_length

word : (n : ℕ) → n < 2 ^ 32 → low 4 (low_bytes 4 n) 0 ≡ n
word n h = low-low_bytes 4 n [] ∙ omega arith

flag : (b : Bool) → not (eqb (low 4 (low_bytes 4 (closed_word b)) 0) 0) ≡ b
flag true = rw (word 1 (omega arith))
flag false = rw (word 0 (omega arith))

pub length-encode : (r : State) → Fits32 r → length (encode r) ≡ reader_length
unfolding encode low_bytes
length-encode r f = rw f.held

-- A reader that is written to bytes is the reader that they say.
pub decode-encode : (r : State) → Fits32 r → decode (encode r) ≡ r
unfolding decode encode low low_bytes
decode-encode r f = λ i.
    record {
      format = word r.format f.format i;
      closed = flag r.closed i;
      framed = word r.framed f.framed i;
      skipped = word r.skipped f.skipped i;
      pending = word r.pending f.pending i;
      held = take_all held_length r.held (omega arith) i;
    }
