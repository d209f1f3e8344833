-- The latches, each with the value of its next literal. Assumes nothing.
use mathlib.Core.Path.{◌≡◌, sym, ap, ◌∙◌, subst}
use mathlib.Core.List.{List}
use Prim.Native.Nat.{ℕ, ◌+◌, ◌*◌, ◌<◌}
use native.Mathlib.Omega.{arith}
use lib.ListN.{length, get_or}
use Rattle.aiger.specs.Bits.{bit}
use Rattle.aiger.specs.Circuit.{Latch, var}
use Rattle.aiger.specs.Frames.{value}
use Rattle.layout.specs.Words.{word, circuit_in}
use Rattle.layout.specs.declared.Layout.{Layout}
use Rattle.meaning.proofs.Defined.{latch_at, latch-in, definition}
use Rattle.frames.specs.Lanes.{lane, Ready, Advanced, Stored}
use Rattle.frames.proofs.Facts.{right, latch-place, latches-are}

module _ {m : List ℕ} {layout : Layout} {order : List ℕ} {count : ℕ} (r : Ready m layout order count) where
  -- no latch is variable 0
  latch-nonzero : (j : ℕ) → j < layout.l → var (word m (layout.latches + 3 * j)) ≡ 0 → ⊥
  latch-nonzero j l e =
      let h : j < length (circuit_in m).latches = omega (arith, latches-are r) in
      let z : var (latch_at (circuit_in m) j).lit ≡ 0 = ap (λ (x : Latch). var x.lit) (latch-place r j l) ∙ e in
      omega (arith, (definition (circuit_in m) (right r.held) (latch_at (circuit_in m) j).lit (latch-in (circuit_in m) j h)).0)

  -- the words of the next literals, put to the latches
  pub advanced : (state before after : List ℕ)
      → ((j : ℕ) → j < layout.l → (p : ℕ) → p < 64 → bit (get_or state j 0) p ≡ value (lane before p) (word m (layout.latches + 3 * j + 1)))
      → Stored (λ j. var (word m (layout.latches + 3 * j))) (λ j. get_or state j 0) layout.l before after → length after ≡ length before
      → Advanced (circuit_in m) before after
  advanced state before after n s size =
      record {
        latch = λ p b j l.
            let h : j < layout.l = omega (arith, latches-are r) in
            subst (λ (x : Latch). lane after p (var x.lit) ≡ value (lane before p) x.next) (sym (latch-place r j h))
            (ap (λ (x : ℕ). bit x p) (s.new j h) ∙ n j h p b);
        others = λ v k. s.others v (λ j l e. k j (omega (arith, latches-are r)) (ap (λ (x : Latch). var x.lit) (latch-place r j l) ∙ e));
        constant = λ p b. ap (λ (x : ℕ). bit x p) (s.others 0 latch-nonzero);
        size = size;
      }
