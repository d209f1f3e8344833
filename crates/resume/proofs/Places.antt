-- The places before a sequence. Assumes nothing.
use mathlib.Core.Path.{◌≡◌, refl, sym, ap, ◌∙◌, subst}
use mathlib.Core.Bool.{Bool, true, false, cond}
use mathlib.Core.List.{List}
use Prim.Native.Nat.{ℕ, zero, suc, ◌+◌, ◌-◌, ◌*◌, ◌/◌, ◌%◌, ◌^◌, ◌≤◌, ◌<◌}
use native.Mathlib.Decide.{ℕ_discrete}
use native.Mathlib.Omega.{arith}
use lib.Pow.{shr-shr}
use lib.Dec.{T}
use Rattle.aiger.specs.Bits.{nonzero, odd, bit}
use Rattle.aiger.specs.Frames.{free_bit}
use Rattle.support.specs.Counting.{after, rank, spread}
use Rattle.support.proofs.Counting.{spread-mono, gather, gather-lt, gather-le}
use Rattle.places.proofs.Digits.{parity}
use Rattle.resume.specs.Resume.{before}

gather-same : (s t : ℕ → Bool) → ((i : ℕ) → s i ≡ t i) → (n x : ℕ) → gather s n x ≡ gather t n x
unfolding gather
gather-same s t e zero x = refl
gather-same s t e (suc n) x =
    let a = gather (after s) n (x / 2) in
    let b = gather (after t) n (x / 2) in
    ap (λ (c : Bool). cond c (2 * a + x % 2) a) (e 0)
    ∙ ap (λ (c : ℕ). cond (t 0) (2 * c + x % 2) c) (gather-same (after s) (after t) (λ i. e (suc i)) n (x / 2))

-- the places before a sequence are its bits at the nodes that count
before-gather : (s : ℕ → Bool) (n x v : ℕ) → v ≤ n → before s (free_bit n x) v ≡ gather (λ i. s (v - i)) v (x / 2 ^ (n - v))
unfolding before gather bit
before-gather s n x zero l = refl
before-gather s n x (suc v) l =
    let u = x / 2 ^ (n - suc v) in
    let t : ℕ → Bool = λ i. s (suc v - i) in
    let k : n - v ≡ (n - suc v) + 1 = omega arith in
    let q : x / 2 ^ (n - v) ≡ u / 2 = ap (λ (m : ℕ). x / 2 ^ m) k ∙ sym (shr-shr x (n - suc v) 1) in
    let a : before s (free_bit n x) v ≡ gather (after t) v (u / 2) =
    before-gather s n x v (omega arith) ∙ ap (gather (λ i. s (v - i)) v) q
    ∙ gather-same (λ i. s (v - i)) (after t) (λ i. let z : v - i ≡ suc v - suc i = omega arith in ap s z) v (u / 2) in
    let m : n - (v + 1) ≡ n - suc v = omega arith in
    let b : ◌≡◌ {A = ℕ} (cond (free_bit n x v) 1 0) (u % 2) = ap (λ (p : ℕ). cond (odd (x / 2 ^ p)) 1 0) m ∙ parity u in
    let z : suc v ≡ suc v - 0 = omega arith in
    ap (λ (c : Bool). cond c (2 * before s (free_bit n x) v + cond (free_bit n x v) 1 0) (before s (free_bit n x) v)) (ap s z)
    ∙ ap (λ (c : ℕ). cond (t 0) (2 * c + cond (free_bit n x v) 1 0) c) a
    ∙ ap (λ (c : ℕ). cond (t 0) (2 * gather (after t) v (u / 2) + c) (gather (after t) v (u / 2))) b

pub before_same : (s t f g : ℕ → Bool) (n : ℕ) → ((v : ℕ) → v ≤ n → s v ≡ t v) → ((j : ℕ) → j < n → f j ≡ g j) → before s f n ≡ before t g n
unfolding before
before_same s t f g zero p q = refl
before_same s t f g (suc n) p q =
    ap (λ (c : Bool). cond c (2 * before s f n + cond (f n) 1 0) (before s f n)) (p (suc n) (omega arith))
    ∙ ap (λ (b : ℕ). cond (t (suc n)) (2 * b + cond (f n) 1 0) b) (before_same s t f g n (λ v h. p v (omega arith)) (λ j h. q j (omega arith)))
    ∙ ap (λ (c : Bool). cond (t (suc n)) (2 * before t g n + cond c 1 0) (before t g n)) (q n (omega arith))

module _ (s : ℕ → Bool) (n x : ℕ) where
  abbrev at : ℕ → Bool
  at i = s (n - i)

  all : before s (free_bit n x) n ≡ gather at n x
  all =
      let k : n - n ≡ 0 = omega arith in
      let z : x / 2 ^ 0 ≡ x = omega arith in
      before-gather s n x n (omega arith) ∙ ap (λ (m : ℕ). gather at n (x / 2 ^ m)) k ∙ ap (gather at n) z

  pub before-most : before s (free_bit n x) n < 2 ^ rank at n
  before-most = omega (arith, all, gather-lt at n x)

  -- a place before it is a smaller sequence
  pub before-less : (y : ℕ) → y < before s (free_bit n x) n → spread at n y < x
  before-less y l =
      let g = gather at n x in
      omega (arith, spread-mono at n y g (omega (arith, all)) (gather-lt at n x), gather-le at n x)

  -- and one that is not before it is none smaller than what is before it
  pub before_more : (y : ℕ) → y ≤ before s (free_bit n x) n → spread at n y ≤ x
  before_more y l =
      elim (ℕ_discrete y (before s (free_bit n x) n)) [
        | yes e ↦ omega (arith, ap (spread at n) (e ∙ all), gather-le at n x)
        | no e ↦ omega (arith, before-less y (omega arith))
      ]
