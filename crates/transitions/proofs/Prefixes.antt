-- The run of a sequence of frame t + 1 begins with that of its prefix, a sequence of frame t; its last row is the rest. Assumes nothing.
use mathlib.Core.Path.{◌≡◌, refl, sym, ap, ap₂, ◌∙◌, subst}
use mathlib.Core.Bool.{Bool, true, false, cond, ◌&&◌}
use mathlib.Core.List.{List, [], ◌∷◌, map}
use Prim.Native.Nat.{ℕ, zero, suc, ◌+◌, ◌-◌, ◌*◌, ◌/◌, ◌%◌, ◌^◌, ◌≤◌, ◌<◌}
use native.Mathlib.Nat.{mul-suc}
use native.Mathlib.Numerals.{add-one}
use native.Mathlib.Omega.{arith}
use lib.Dec.{T, eqb}
use lib.ListN.{length, get_or, take}
use lib.Seq.{ext_get_or}
use Rattle.aiger.specs.Lists.{every, every_below, tally, upto}
use Rattle.aiger.specs.Bits.{bit}
use Rattle.aiger.specs.Circuit.{Circuit, Latch}
use Rattle.aiger.specs.Frames.{Run, value, frame, state, value_at, constrained, is_free, free_starts, free_bits, free_bit, starts, run, space}
use Rattle.aiger.proofs.Tests.{T_true}
use Rattle.meaning.proofs.Lists.{length-map-upto, get_d-map-upto}
use Rattle.meaning.proofs.Defined.{latch_at}
use Rattle.meaning.proofs.Sequences.{starts-same, Shaped, run-shaped, run-input, run-reset, run-free, latch-number, input-number}
use Rattle.transitions.specs.Transitions.{row_of}
use Rattle.transitions.proofs.Numbers.{bit-over, bit-rest}

module _ (c : Circuit) where
  abbrev W : ℕ
  W = length c.inputs

  more-bits : (t : ℕ) → free_bits c (suc t) ≡ W + free_bits c t
  unfolding free_bits
  more-bits t = omega (arith, mul-suc W (t + 1), ap (λ (n : ℕ). W * n) {x = suc t + 1} {y = suc (t + 1)} (omega arith))

  module _ (t x : ℕ) where
    -- a free bit of the prefix
    prefix-bit : (j : ℕ) → j < free_bits c t → free_bit (free_bits c (suc t)) x j ≡ free_bit (free_bits c t) (x / 2 ^ W) j
    prefix-bit j l =
        let e : free_bits c (suc t) - (j + 1) ≡ W + (free_bits c t - (j + 1)) = omega (arith, more-bits t) in
        ap (bit x) e ∙ sym (bit-over x W (free_bits c t - (j + 1)))

    pub prefix-start : (run c (suc t) x).start ≡ (run c t (x / 2 ^ W)).start
    prefix-start =
        let a = (run-shaped c (suc t) x).start in
        let b = (run-shaped c t (x / 2 ^ W)).start in
        ext_get_or false (run c (suc t) x).start (run c t (x / 2 ^ W)).start (a ∙ sym b) (λ j l. go j (omega arith) (is_free (latch_at c j)) refl)
      where
        go : (j : ℕ) → j < length c.latches → (f : Bool) → is_free (latch_at c j) ≡ f
            → get_or (run c (suc t) x).start j false ≡ get_or (run c t (x / 2 ^ W)).start j false
        go j l true e =
            run-free c (suc t) x j l (T_true e) ∙ prefix-bit (tally is_free (take j c.latches)) (latch-number c t j l (T_true e))
            ∙ sym (run-free c t (x / 2 ^ W) j l (T_true e))
        go j l false e = run-reset c (suc t) x j l (λ f. subst T e f) ∙ sym (run-reset c t (x / 2 ^ W) j l (λ f. subst T e f))

    pub prefix-row : (u : ℕ) → u < t + 1 → get_or (run c (suc t) x).rows u [] ≡ get_or (run c t (x / 2 ^ W)).rows u []
    prefix-row u l =
        let a = (run-shaped c (suc t) x).row u (omega arith) in
        let b = (run-shaped c t (x / 2 ^ W)).row u l in
        ext_get_or false (get_or (run c (suc t) x).rows u []) (get_or (run c t (x / 2 ^ W)).rows u []) (a ∙ sym b)
        (λ i k.
        let h : i < W = omega arith in
        run-input c (suc t) x u i (omega arith) h ∙ prefix-bit (free_starts c + W * u + i) (input-number c t u i l h)
        ∙ sym (run-input c t (x / 2 ^ W) u i l h))

    last_bit : (i : ℕ) → i < W → free_bits c t - (free_starts c + W * t + i + 1) ≡ W - (i + 1)
    unfolding free_bits
    last_bit i h = omega (arith, mul-suc W t, ap (λ (n : ℕ). W * n) (add-one t))

    -- the last row of a run
    pub last_row : get_or (run c t x).rows t [] ≡ row_of c (x % 2 ^ W)
    unfolding row_of
    last_row =
        let a = (run-shaped c t x).row t (omega arith) in
        ext_get_or false (get_or (run c t x).rows t []) (map (free_bit W (x % 2 ^ W)) (upto W)) (a ∙ sym (length-map-upto (free_bit W (x % 2 ^ W)) W))
        (λ i k.
        let h : i < W = omega arith in
        let e : free_bits c t - (free_starts c + W * t + i + 1) ≡ W - (i + 1) = last_bit i h in
        run-input c t x t i (omega arith) h ∙ ap (bit x) e ∙ sym (bit-rest x W (W - (i + 1)) (omega arith))
        ∙ sym (get_d-map-upto (free_bit W (x % 2 ^ W)) W i false h))

    -- the states are those of the prefix
    pub prefix-state : (u : ℕ) → u ≤ suc t → state c (run c (suc t) x) u ≡ state c (run c t (x / 2 ^ W)) u
    unfolding state
    prefix-state zero l = prefix-start
    prefix-state (suc u) l =
        ap₂ (λ (s : List Bool) (r : List Bool). map (λ k. value (frame c s r) k.next) c.latches) (prefix-state u (omega arith)) (prefix-row u (omega arith))

    -- and so are the constraints that hold in its frames
    pub prefix-constrained : (u : ℕ) → u ≤ t → constrained c (run c (suc t) x) u ≡ constrained c (run c t (x / 2 ^ W)) u
    unfolding constrained value_at
    prefix-constrained u l =
        ap₂ (λ (s : List Bool) (r : List Bool). every (value (frame c s r)) c.constraints) (prefix-state u (omega arith)) (prefix-row u (omega arith))

    pub prefix-before : every_below (suc t) (constrained c (run c (suc t) x)) ≡ every_below (suc t) (constrained c (run c t (x / 2 ^ W)))
    prefix-before = go (suc t) (omega arith)
      where
        go : (n : ℕ) → n ≤ suc t → every_below n (constrained c (run c (suc t) x)) ≡ every_below n (constrained c (run c t (x / 2 ^ W)))
        go zero l = refl
        go (suc n) l = ap₂ (λ (a b : Bool). a && b) (go n (omega arith)) (prefix-constrained n (omega arith))

  -- the start of a run of frame 0
  pub first-start : (x : ℕ) → (space c).start_of (free_bit (free_starts c) (x / 2 ^ W)) ≡ (run c 0 x).start
  unfolding run free_starts
  first-start x =
      let U = tally is_free c.latches in
      starts-same (free_bit U (x / 2 ^ W)) (free_bit (U + W * (0 + 1)) x) 0 c.latches
      (λ j l.
      let e : W + (U - (j + 1)) ≡ U + W * (0 + 1) - (j + 1) = omega arith in
      bit-over x W (U - (j + 1)) ∙ ap (bit x) e)
