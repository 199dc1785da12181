-- Demand 3 for a reader that is lent bytes, by induction on the list of calls: the bytes are all along those of the
-- machine's view.
-- Assumes nothing.
use Prim.Native.Nat.{ℕ, zero, suc, ◌-◌, ◌≤◌}
use mathlib.Core.Path.{◌≡◌, refl, sym, ap, subst, ◌∙◌}
use mathlib.Core.List.{List, [], ◌∷◌, map}
use native.Mathlib.Omega.{arith}
use lib.Dec.{T}
use lib.ListN.{length, replicate, length-append, length-replicate}
use Rattle.framing.specs.declared.Format.{Format}
use Rattle.framing.specs.Format.{known, format_of}
use Rattle.reader.specs.declared.Reader.{Reader as State}
use Rattle.reader.specs.State.{held_length, Opening, fresh_of}
use Rattle.reader.specs.Calls.{Call}
use Rattle.reader.proofs.RefusalLaws.{bound-most}
use Rattle.reader_theorems.specs.Machine.{Machine, start, next_machine}
use Rattle.reader_theorems.specs.Lists.{answers, final_reader, handed_out}
use Rattle.reader_theorems.specs.Demand3.{reader_after}
use Rattle.reader_theorems.proofs.View.{reading_at, view, WithinLimit, view-sum, view-bound, view-fresh, one-call}
use Rattle.reader_theorems.proofs.Demand3Proof.{demand3}
use Rattle.reader_bytes.specs.Bytes.{encode}
use Rattle.reader_bytes.specs.Calls.{Lent}
use Rattle.reader_bytes.proofs.BytesLaws.{Fits32, decode-encode}
use Rattle.reader_bytes.proofs.LentLaws.{fresh-laid, serve-encoded}
use Rattle.reader_bytes_theorems.specs.Lists.{a_call, final_bytes, lent_answers, lent_out}
use Rattle.reader_bytes_theorems.specs.Demands.{fresh_bytes, LentDemand3}

-- ---- the view goes into bytes

known-most : (n : ℕ) → T (known (format_of n)) → n ≤ 3
unfolding known format_of
known-most zero k = absurd k
known-most (suc zero) k = omega arith
known-most (suc (suc zero)) k = omega arith
known-most (suc (suc (suc zero))) k = omega arith
known-most (suc (suc (suc (suc n)))) k = absurd k

view-fits : (n : ℕ) (m : Machine) → T (known (format_of n)) → WithinLimit m → Fits32 (view n m)
view-fits n m k h =
    let s = view-sum n m in
    let rest = (reading_at n m).rest in
    record {
      format = omega (arith, known-most n k);
      framed = omega arith;
      skipped = omega arith;
      pending = omega arith;
      held = length-append rest (replicate (held_length - length rest) 0)
          ∙ omega (arith, length-replicate {A = ℕ} (held_length - length rest) 0, view-bound n m, bound-most (format_of n));
    }

-- ---- a list of calls

-- What a list of calls on a reader's bytes gives is what the same list on the reader gives.
record SameCalls (f : Format) (m : Machine) (r : State) (cs : List Call) : Type 0 where
  answer : lent_answers (encode r) cs ≡ answers r cs
  output : lent_out f m (encode r) cs ≡ handed_out f m r cs
  reader : final_bytes (encode r) (map a_call cs) ≡ encode (final_reader r cs)
  fits : Fits32 (final_reader r cs)

same-calls : (n : ℕ) (m : Machine) (cs : List Call) → T (known (format_of n)) → WithinLimit m → SameCalls (format_of n) m (view n m) cs
unfolding lent_answers answers lent_out handed_out final_bytes final_reader
same-calls n m [] k h = record { answer = refl; output = refl; reader = refl; fits = view-fits n m k h }
same-calls n m (c ∷ cs) k h =
    let s = one-call n m c k h in
    let e = sym (serve-encoded (view n m) c (view-fits n m k h)) in
    let ih = same-calls n (next_machine (format_of n) m c) cs k s.fits in
    record {
      answer = rw (e, s.reader, ih.answer);
      output = rw (e, s.reader, ih.output);
      reader = ap (λ (w : Lent). final_bytes w.reader (map a_call cs)) e ∙ rw s.reader ih.reader;
      fits = rw s.reader ih.fits;
    }

-- ---- from the fresh reader on

pub lent-demand3 : LentDemand3
lent-demand3 n bs cs k l =
    let d = demand3 n cs k in
    let e = sym (fresh-laid n bs (encode (fresh_of n).reader) (fresh_of n) l refl refl) in
    let b : fresh_bytes n bs ≡ encode (fresh_of n).reader = ap (λ (w : Lent). w.reader) e in
    let v = ap (λ (o : Opening). o.reader) (sym (view-fresh n k)) in
    let s = subst (λ (r : State). SameCalls (format_of n) start r cs) v (same-calls n start cs k (omega arith)) in
    record {
      opened = rw e d.opened;
      answered = rw b (s.answer ∙ d.answered);
      handed = rw b (s.output ∙ d.handed);
      reader = rw b s.reader;
      numbers = rw (b, s.reader) (decode-encode (reader_after n cs) s.fits);
    }
