-- Every sequence that a pinned search counts obeys the pins, so the witness that it finds does. Clause 12.7. Assumes nothing.
use mathlib.Core.Path.{◌≡◌, refl, subst}
use mathlib.Core.Bool.{Bool, true, false, cond, ◌&&◌}
use mathlib.Core.List.{List, [], ◌∷◌, map}
use Prim.Native.Nat.{ℕ, zero, suc, ◌+◌, ◌*◌}
use native.Mathlib.Omega.{arith}
use borrow.Author.Tests.{ltb-true}
use lib.Dec.{T, eqb}
use lib.ListN.{length}
use Rattle.aiger.specs.Lists.{every, upto}
use Rattle.aiger.specs.Circuit.{Circuit}
use Rattle.aiger.specs.Frames.{free_bit, bits_in, run_in}
use Rattle.aiger.proofs.Tests.{and}
use Rattle.pins.specs.Pins.{is_held, fill, pinned_space}
use Rattle.pinned_runs.specs.Obeys.{obeys_pin, obeys_row, obeys}
use Rattle.pinned_runs.proofs.Pinned.{free-obeys}
use Rattle.roundtrip.proofs.Lists.{every_made}

-- the pin's value obeys
held-obeys : (p : ℕ) → is_held p ≡ true → T (obeys_pin p (eqb p 1))
held-obeys zero h = tt
held-obeys (suc zero) h = tt
held-obeys (suc (suc p)) h = absurd (omega (arith, ltb-true (suc (suc p)) 2 h))

fill-obeys : (q : ℕ → ℕ) (f : ℕ → Bool) (n i j : ℕ) → T (obeys_row q i (fill q f i j n))
unfolding obeys_row fill
fill-obeys q f zero i j = tt
fill-obeys q f (suc n) i j = go (is_held (q i)) refl (fill-obeys q f n (suc i) j) (fill-obeys q f n (suc i) (suc j))
  where
    go : (b : Bool) → is_held (q i) ≡ b → T (obeys_row q (suc i) (fill q f (suc i) j n)) → T (obeys_row q (suc i) (fill q f (suc i) (suc j) n))
        → T (obeys_row q i (cond b (eqb (q i) 1 ∷ fill q f (suc i) j n) (f j ∷ fill q f (suc i) (suc j) n)))
    go true e h k = and (obeys_pin (q i) (eqb (q i) 1)) (obeys_row q (suc i) (fill q f (suc i) j n)) (held-obeys (q i) e) h
    go false e h k = and (obeys_pin (q i) (f j)) (obeys_row q (suc i) (fill q f (suc i) (suc j) n)) (free-obeys (q i) (f j) e) k

pub sequence-obeys : (c : Circuit) (q : ℕ → ℕ) (t x : ℕ) → T (obeys q (run_in (pinned_space c q) t x))
unfolding obeys
sequence-obeys c q t x =
    let s = pinned_space c q in
    let f = free_bit (bits_in s t) x in
    every_made (obeys_row q 0) (λ u. fill q (λ i. f (s.free + s.width * u + i)) 0 0 (length c.inputs))
    (λ u. fill-obeys q (λ i. f (s.free + s.width * u + i)) (length c.inputs) 0 0) (upto (t + 1))
