-- The bits of a number of digits. Assumes nothing.
use mathlib.Core.Path.{◌≡◌, refl, sym, ap, ◌∙◌, subst}
use mathlib.Core.List.{List}
use Prim.Native.Nat.{ℕ, zero, suc, ◌+◌, ◌-◌, ◌*◌, ◌/◌, ◌%◌, ◌^◌, ◌≤◌, ◌<◌}
use native.Mathlib.Nat.{add-mul, mul-suc, mul_comm, mul-le-mul_left}
use native.Mathlib.Decide.{dec_lt, ℕ_discrete}
use native.Mathlib.Omega.{arith}
use lib.ListN.{length, get_or}
use Rattle.aiger.specs.Bits.{bit}
use Rattle.aiger.specs.Frames.{free_bit}
use Rattle.words.proofs.Bits.{join-low, join-high}
use Rattle.traces.specs.Digits.{Digits}

module _ (W : ℕ) (trace : List ℕ) where
  -- the first digit
  pub first-digit : (T x i : ℕ) → Digits (2 ^ W) trace T x → bit x (W * T + i) ≡ bit (get_or trace 0 0) i
  unfolding Digits
  first-digit zero x i h = ap (bit x) {x = W * 0 + i} {y = i} (omega arith) ∙ ap (λ (n : ℕ). bit n i) h
  first-digit (suc T) x i (l, (y, d, e)) =
      let p : W * suc T + i ≡ W + (W * T + i) = omega (arith, mul-suc W T) in
      let q : W + (W * T + i) - W ≡ W * T + i = omega arith in
      ap (λ (n : ℕ). bit n (W * suc T + i)) e ∙ ap (bit (y * 2 ^ W + get_or trace (suc T) 0)) p
      ∙ join-high W y (get_or trace (suc T) 0) (W + (W * T + i)) l (omega arith) ∙ ap (bit y) q ∙ first-digit T y i d

  -- a later one
  pub later-digit : (T x u i : ℕ) → u < T → i < W → Digits (2 ^ W) trace T x → bit x (W * (T - suc u) + i) ≡ bit (get_or trace (suc u) 0) i
  unfolding Digits
  later-digit zero x u i h k d = absurd (omega arith)
  later-digit (suc T) x u i h k (l, (y, d, e)) = elim (ℕ_discrete u T) [
    | yes q ↦
        let z : suc T - suc u ≡ 0 = omega arith in
        let p : W * (suc T - suc u) + i ≡ i = ap (λ (n : ℕ). W * n + i) z ∙ omega arith in
        ap (λ (n : ℕ). bit n (W * (suc T - suc u) + i)) e ∙ ap (bit (y * 2 ^ W + get_or trace (suc T) 0)) p
        ∙ join-low W y (get_or trace (suc T) 0) i k ∙ ap (λ (n : ℕ). bit (get_or trace (suc n) 0) i) (sym q)
    | no q ↦
        let z : suc T - suc u ≡ suc (T - suc u) = omega arith in
        let p : W * (suc T - suc u) + i ≡ W + (W * (T - suc u) + i) = ap (λ (n : ℕ). W * n + i) z ∙ omega (arith, mul-suc W (T - suc u)) in
        let r : W + (W * (T - suc u) + i) - W ≡ W * (T - suc u) + i = omega arith in
        ap (λ (n : ℕ). bit n (W * (suc T - suc u) + i)) e ∙ ap (bit (y * 2 ^ W + get_or trace (suc T) 0)) p
        ∙ join-high W y (get_or trace (suc T) 0) (W + (W * (T - suc u) + i)) l (omega arith) ∙ ap (bit y) r ∙ later-digit T y u i (omega arith) k d
  ]

  spread : (u T : ℕ) → W * (u + suc T) ≡ u * W + (W + W * T)
  spread u T = mul_comm W (u + suc T) ∙ add-mul u (suc T) W ∙ omega (arith, mul_comm (suc T) W, mul-suc W T)

  -- free bits of the start, and of frame u
  pub start-free : (U t x j : ℕ) → Digits (2 ^ W) trace (suc t) x → j < U → bit (get_or trace 0 0) (U - 1 - j) ≡ free_bit (U + W * (t + 1)) x j
  start-free U t x j d l =
      let e : W * suc t + (U - 1 - j) ≡ U + W * (t + 1) - (j + 1) = omega (arith, ap (λ (n : ℕ). W * n) {x = suc t} {y = t + 1} (omega arith)) in
      sym (first-digit (suc t) x (U - 1 - j) d) ∙ ap (bit x) e

  pub row-free : (U t x u i j : ℕ) → Digits (2 ^ W) trace (suc t) x → j ≡ U + (u * W + i) → i < W → j < U + W * (t + 1)
      → bit (get_or trace (u + 1) 0) (W - 1 - i) ≡ free_bit (U + W * (t + 1)) x j
  row-free U t x u i j d e l h = elim (dec_lt u (suc t)) [
    | yes k ↦
        let T = suc t - suc u in
        let s : t + 1 ≡ u + suc T = omega arith in
        let m : W * (t + 1) ≡ W * (u + suc T) = ap (λ (n : ℕ). W * n) s in
        let a : W * (u + suc T) ≡ u * W + (W + W * T) = spread u T in
        let p : W * T + (W - 1 - i) ≡ U + W * (t + 1) - (j + 1) = omega arith in
        ap (λ (n : ℕ). bit (get_or trace n 0) (W - 1 - i)) {x = u + 1} {y = suc u} (omega arith)
        ∙ sym (later-digit (suc t) x u (W - 1 - i) k (omega arith) d) ∙ ap (bit x) p
    | no k ↦
        let m : W * (t + 1) ≤ W * u = mul-le-mul_left W (omega arith) in
        absurd (omega (arith, mul_comm u W))
  ]
