-- The rows of the inputs that matter among the rows of all inputs: bit by bit, and in their order. Assumes nothing.
use mathlib.Core.Path.{◌≡◌, sym, ap, ap₂, ◌∙◌, subst}
use mathlib.Core.Bool.{Bool, true, false, cond, ◌&&◌}
use mathlib.Core.List.{List, [], ◌∷◌, ◌++◌}
use Prim.Native.Nat.{ℕ, zero, suc, ◌+◌, ◌-◌, ◌^◌, ◌≤◌, ◌<◌}
use native.Mathlib.Decide.{dec_lt}
use native.Mathlib.Omega.{arith}
use lib.ListN.{length, get_or, length-append, get_or-append}
use lib.Seq.{get_or_at}
use Rattle.aiger.specs.Bits.{bit}
use Rattle.aiger.specs.Frames.{free_bit}
use Rattle.aiger.proofs.Tests.{T_true, true-T}
use Rattle.influence.specs.Cone.{kept_below}
use Rattle.influence.proofs.Kept.{chosen}
use Rattle.support.specs.Counting.{rank}
use Rattle.support.proofs.Counting.{rank-more, rank-zero, spread-bit, spread-lt, spread-mono, gather, gather-lt, gather-le, gather-bit}
use Rattle.diagram_rows.specs.Inputs.{positions, wide_row, SameBits}

-- one number more
kept-length : (q : ℕ → Bool) (n : ℕ) → length (kept_below q (suc n)) ≡ length (kept_below q n) + cond (q n) 1 0
unfolding kept_below
kept-length q n = go (q n)
  where
    go : (b : Bool) → length (cond b (kept_below q n ++ (n ∷ [])) (kept_below q n)) ≡ length (kept_below q n) + cond b 1 0
    go true = length-append (kept_below q n) (n ∷ [])
    go false = omega arith

-- the k-th number that passes has k before it
kept-before : (q : ℕ → Bool) (n k : ℕ) → k < length (kept_below q n) → length (kept_below q (get_or (kept_below q n) k 0)) ≡ k
unfolding kept_below
kept-before q zero k h = absurd (omega arith)
kept-before q (suc n) k h = go (q n) h (kept-before q n k)
  where
    go : (b : Bool) → k < length (cond b (kept_below q n ++ (n ∷ [])) (kept_below q n))
        → (k < length (kept_below q n) → length (kept_below q (get_or (kept_below q n) k 0)) ≡ k)
        → length (kept_below q (get_or (cond b (kept_below q n ++ (n ∷ [])) (kept_below q n)) k 0)) ≡ k
    go false l ih = ih l
    go true l ih =
        elim (dec_lt k (length (kept_below q n))) [
          | yes z ↦ ap (λ (x : ℕ). length (kept_below q x)) (get_or-append (kept_below q n) (n ∷ []) 0 k z) ∙ ih z
          | no z ↦
              let e : length (kept_below q n) ≡ k = omega (arith, length-append (kept_below q n) (n ∷ [])) in
              ap (λ (x : ℕ). length (kept_below q x)) (get_or_at (kept_below q n) n [] 0 k e) ∙ e
        ]

module _ (q : ℕ → Bool) (n : ℕ) where
  abbrev s : ℕ → Bool
  s = positions q n

  abbrev inputs : List ℕ
  inputs = kept_below q n

  -- the positions below j are the last j inputs
  rank-rest : (j : ℕ) → j ≤ n → rank (positions q n) j + length (kept_below q (n - j)) ≡ length (kept_below q n)
  rank-rest zero h = omega (arith, rank-zero (positions q n), ap (λ (x : ℕ). length (kept_below q x)) {x = n - 0} {y = n} (omega arith))
  rank-rest (suc j) h =
      let a = rank-rest j (omega arith) in
      let e : n - j ≡ suc (n - suc j) = omega arith in
      let i : j + 1 ≡ suc j = omega arith in
      let z : n - (j + 1) ≡ n - suc j = omega arith in
      let b = ap (λ (x : ℕ). length (kept_below q x)) e ∙ kept-length q (n - suc j) in
      let m = rank-more (positions q n) j in
      let t : ◌≡◌ {A = ℕ} (cond (positions q n j) 1 0) (cond (q (n - suc j)) 1 0) = ap (λ (x : ℕ). cond (q x) 1 0) z in
      omega (arith, a, b, m, t, ap (rank (positions q n)) i)

  -- as many positions as inputs that matter
  pub rank-all : rank (positions q n) n ≡ length (kept_below q n)
  unfolding kept_below
  rank-all = omega (arith, rank-rest n (omega arith), ap (λ (x : ℕ). length (kept_below q x)) {x = n - n} {y = 0} (omega arith))

  module _ (k : ℕ) (h : k < length (kept_below q n)) where
    abbrev i : ℕ
    i = get_or (kept_below q n) k 0

    i-below : get_or (kept_below q n) k 0 < n
    i-below = (chosen q n).below k h

    i-passes : q (get_or (kept_below q n) k 0) ≡ true
    i-passes = true-T (q (get_or (kept_below q n) k 0)) ((chosen q n).passes k h)

    -- the position of the k-th of them
    i-position : positions q n (n - (get_or (kept_below q n) k 0 + 1)) ≡ true
    i-position = let b = i-below in let z : n - (n - (i + 1) + 1) ≡ i = omega arith in ap q z ∙ i-passes

    i-rank : rank (positions q n) (n - (get_or (kept_below q n) k 0 + 1)) ≡ length (kept_below q n) - (k + 1)
    i-rank =
        let b = i-below in
        let a = rank-rest (n - (i + 1)) (omega arith) in
        let z : n - (n - (i + 1)) ≡ suc i = omega arith in
        let e = ap (λ (x : ℕ). length (kept_below q x)) z ∙ kept-length q i in
        let t : ◌≡◌ {A = ℕ} (cond (q i) 1 0) 1 = ap (λ (c : Bool). cond c 1 0) i-passes in
        omega (arith, a, e, t, kept-before q n k h)

    -- its bit
    wide_bit : (r : ℕ) → free_bit n (wide_row q n r) (get_or (kept_below q n) k 0) ≡ free_bit (length (kept_below q n)) r k
    wide_bit r =
        let b = i-below in
        spread-bit (positions q n) n r (n - (i + 1)) (omega arith)
        ∙ ap₂ (λ (c d : Bool). c && d) i-position (ap (bit r) i-rank)

  -- a row of the inputs that matter and the row of all inputs that has its bits
  pub wide-same : (r : ℕ) → SameBits n (kept_below q n) (wide_row q n r) r
  wide-same r = record { below = i-below; bits = λ k h. wide_bit k h r }

  -- its other bits are 0
  pub wide-zero : (r j : ℕ) → j < n → q j ≡ false → free_bit n (wide_row q n r) j ≡ false
  wide-zero r j h e =
      let z : n - (n - (j + 1) + 1) ≡ j = omega arith in
      spread-bit (positions q n) n r (n - (j + 1)) (omega arith)
      ∙ ap (λ (c : Bool). c && bit r (rank (positions q n) (n - (j + 1)))) (ap q z ∙ e)

  pub wide_below : (r : ℕ) → wide_row q n r < 2 ^ n
  wide_below r = spread-lt (positions q n) n r

  -- rows keep their order
  pub wide-order : (r u : ℕ) → r < u → u < 2 ^ length (kept_below q n) → wide_row q n r < wide_row q n u
  wide-order r u h l = spread-mono (positions q n) n r u h (subst (λ (x : ℕ). u < 2 ^ x) (sym rank-all) l)

  -- the bits of a row of all inputs at the inputs that matter
  abbrev pub narrow_row : ℕ → ℕ
  narrow_row u = gather (positions q n) n u

  pub narrow_below : (u : ℕ) → gather (positions q n) n u < 2 ^ length (kept_below q n)
  narrow_below u = subst (λ (x : ℕ). gather (positions q n) n u < 2 ^ x) rank-all (gather-lt (positions q n) n u)

  pub narrow-same : (u : ℕ) → SameBits n (kept_below q n) u (gather (positions q n) n u)
  narrow-same u =
      record {
        below = i-below;
        bits = λ k h.
            let b = i-below k h in
            sym (gather-bit (positions q n) n u (n - (get_or (kept_below q n) k 0 + 1)) (omega arith) (T_true (i-position k h)))
            ∙ wide_bit k h (gather (positions q n) n u);
      }

  -- and no row with these bits is less than the one that is 0 elsewhere
  pub narrow-least : (u : ℕ) → wide_row q n (gather (positions q n) n u) ≤ u
  narrow-least u = gather-le (positions q n) n u
