use Rattle.std.proofs.Common.{◌≡◌, ℕ, ◌+◌, ◌%◌, ◌<◌, ◌≤◌, List, length, get_or, sym, refl, ◌∙◌, ap₂, add-one, drop_of_length-le, drop-cons}
use native.Mathlib.Nat.{mod-add-mod, add-mod-mod}
use Rattle.checksum.specs.declared.Sums.{Sums}
use Rattle.checksum.specs.Fletcher.{add_mod255, sum_mod255, plain_sums, fletcher_of}
use Rattle.checksum.proofs.Fold.{fold_more, fold_end}
use Rattle.checksum.proofs.fletcher16.Invariants.{weighted-left}
use Rattle.checksum.proofs.fletcher16.Goals as goal

abbrev sums : ℕ → ℕ → Sums
sums a b = record { plain = a; weighted = b }

weighted-more : (a b : ℕ) (s : List ℕ) (i : ℕ) → i < length s
    → weighted-left (add_mod255 a (get_or s i 0)) (add_mod255 b (add_mod255 a (get_or s i 0))) s (i + 1) ≡ weighted-left a b s i
unfolding weighted-left plain_sums
weighted-more a b s i h = rw (add-one, drop-cons s i 0)

weighted-end : (a b : ℕ) (s : List ℕ) (i : ℕ) → length s ≤ i → weighted-left a b s i ≡ b
unfolding weighted-left plain_sums
weighted-end a b s i h = rw (drop_of_length-le s h)

-- a sum is reduced before or after
add-mod255 : (r a x : ℕ) → r % 255 ≡ (a + x) % 255 → r % 255 ≡ add_mod255 (a % 255) x
unfolding add_mod255
add-mod255 r a x e = e ∙ sym (mod-add-mod a 255 x)

weighted-mod : (b a : ℕ) → add_mod255 b (a % 255) ≡ add_mod255 b a
unfolding add_mod255
weighted-mod b a = add-mod-mod b a 255

pub loop-x-init : goal.loop-x-init
unfolding sum_mod255 weighted-left fletcher_of
loop-x-init c = record { plain = refl; weighted = refl }

pub loop-x-preserved : goal.loop-x-preserved
unfolding sum_mod255 weighted-left fletcher_of
loop-x-preserved c =
    let l = c.loop-x in
    let plain = add-mod255 c.add_around-a.result l.a (get_or c.args.s.now l.x-index 0) c.add_around-a.ensures in
    let weighted : c.add_around-b.result % 255 ≡ add_mod255 (l.b % 255) (c.add_around-a.result % 255) =
    add-mod255 _ _ _ c.add_around-b.ensures ∙ sym (weighted-mod _ _) in
    record {
      plain = fold_more add_mod255 _ _ c.loop-x-test.true plain ∙ l.invariant.plain;
      weighted = rw (weighted, plain) (weighted-more _ _ _ _ c.loop-x-test.true) ∙ l.invariant.weighted;
    }

pub returns : goal.returns
unfolding sum_mod255 weighted-left fletcher_of
returns c = ap₂ sums (sym (fold_end add_mod255 _ _ _ c.loop-x-test.false) ∙ c.loop-x.invariant.plain)
    (sym (weighted-end _ _ _ _ c.loop-x-test.false) ∙ c.loop-x.invariant.weighted)
