-- Which draw each literal takes: draw i is the state i steps after the seed. Latch j takes draw j + 1, and gate j the draws L + 2j + 1 and
-- L + 2j + 2. Clause 12.12. Assumes nothing.
use mathlib.Core.Path.{◌≡◌, refl, sym, ap, ap₂, ◌∙◌}
use mathlib.Core.List.{List, [], ◌∷◌}
use Prim.Native.Nat.{ℕ, zero, suc, ◌+◌, ◌*◌, ◌<◌}
use native.Mathlib.Omega.{arith}
use lib.ListN.{length, get_or}
use Rattle.aiger.specs.Circuit.{Latch, Gate}
use Rattle.aiger.specs.Signature.{step, draw}
use Rattle.meaning.proofs.Defined.{no_latch, no_gate, latch_at, gate_at}
use Rattle.generated.specs.Generated.{after, picked, drawn_latches, drawn_gates, generated}

-- one step more, first or last
after-step : (n s : ℕ) → after n (step s) ≡ step (after n s)
unfolding after
after-step zero s = refl
after-step (suc n) s = after-step n (step s)

pub after_more : (a b s : ℕ) → after b (after a s) ≡ after (a + b) s
unfolding after
after_more zero b s = let e : 0 + b ≡ b = omega arith in rw e
after_more (suc a) b s = let e : suc a + b ≡ suc (a + b) = omega arith in rw e (after_more a b (step s))

-- the draws of the signature words are those of seed 1
pub after-draw : (i : ℕ) → after i 1 ≡ draw i
unfolding after draw
after-draw zero = refl
after-draw (suc i) = after-step i 1 ∙ ap step (after-draw i)

-- a latch and a gate by their draws
abbrev pub latch_by : ℕ → ℕ → ℕ → Latch
latch_by n v d = record { lit = 2 * v; next = picked n d; reset = 0 }

abbrev pub gate_by : ℕ → ℕ → ℕ → Gate
gate_by v d e = record { lit = 2 * v; left = picked (2 * v) d; right = picked (2 * v) e }

latch-drawn : (n s v k j : ℕ) → j < k → get_or (drawn_latches n s v k) j no_latch ≡ latch_by n (v + j) (after (j + 1) s)
unfolding drawn_latches after
latch-drawn n s v zero j h = absurd (omega arith)
latch-drawn n s v (suc k) zero h = ap (λ (x : ℕ). latch_by n x (step s)) (omega arith)
latch-drawn n s v (suc k) (suc j) h =
    let e : suc v + j ≡ v + suc j = omega arith in
    let f : suc j + 1 ≡ suc (j + 1) = omega arith in
    latch-drawn n (step s) (suc v) k j (omega arith) ∙ rw (e, f)

gate-drawn : (s v k j : ℕ) → j < k → get_or (drawn_gates s v k) j no_gate ≡ gate_by (v + j) (after (2 * j + 1) s) (after (2 * j + 2) s)
unfolding drawn_gates after
gate-drawn s v zero j h = absurd (omega arith)
gate-drawn s v (suc k) zero h = ap (λ (x : ℕ). gate_by x (step s) (step (step s))) (omega arith)
gate-drawn s v (suc k) (suc j) h =
    let e : suc v + j ≡ v + suc j = omega arith in
    let f : 2 * suc j + 1 ≡ suc (suc (2 * j + 1)) = omega arith in
    let g : 2 * suc j + 2 ≡ suc (suc (2 * j + 2)) = omega arith in
    gate-drawn (step (step s)) (suc v) k j (omega arith) ∙ rw (e, f, g)

module _ (s I L A j : ℕ) where
  pub latch-draw : j < L → latch_at (generated s I L A) j ≡ latch_by (2 * (I + L + A) + 2) (I + 1 + j) (after (j + 1) s)
  unfolding generated
  latch-draw h = latch-drawn (2 * (I + L + A) + 2) s (I + 1) L j h

  pub gate-draw : j < A → gate_at (generated s I L A) j ≡ gate_by (I + L + 1 + j) (after (L + (2 * j + 1)) s) (after (L + (2 * j + 2)) s)
  unfolding generated
  gate-draw h =
      gate-drawn (after L s) (I + L + 1) A j h
      ∙ ap₂ (gate_by (I + L + 1 + j)) (after_more L (2 * j + 1) s) (after_more L (2 * j + 2) s)
