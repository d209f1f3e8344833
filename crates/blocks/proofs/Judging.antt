-- Blocks of completions, one after the other: whether all of them show what is wanted. Assumes nothing.
use mathlib.Core.Path.{◌≡◌, refl, sym, ap, ap₂, ◌∙◌, subst}
use mathlib.Core.Bool.{Bool, true, false, not, cond, ◌&&◌}
use mathlib.Core.List.{List}
use mathlib.Core.Option.{Option, none, some}
use Prim.Native.Nat.{ℕ, ◌+◌, ◌-◌, ◌*◌, ◌^◌, ◌≤◌, ◌<◌}
use native.Mathlib.Decide.{dec_lt}
use native.Mathlib.Omega.{arith}
use lib.Dec.{T}
use lib.ListN.{length}
use Rattle.aiger.specs.Bits.{bit}
use Rattle.aiger.specs.Circuit.{Circuit}
use Rattle.aiger.specs.Frames.{Run, hits}
use Rattle.aiger.specs.Signature.{FirstDifference}
use Rattle.aiger.specs.Witness.{Witness, agrees, confirms}
use Rattle.completions.specs.Either.{eithers, completion, all_pass, shows}
use Rattle.aiger.proofs.Tests.{below_all, true-T, T_true, not-both}
use Rattle.completions.proofs.Completions.{completes, all-at}
use Rattle.completions.proofs.Forms.{completes-form}
use Rattle.blocks.specs.Runs.{RunAt, BodyRead, Fits, wanted}
use Rattle.blocks.proofs.Runs.{lane_text}

-- what a body that was read shows
shows-is : (c : Circuit) (b frames : ℕ) (u : List ℕ) (h : BodyRead c b frames u)
    → (agrees c.latches h.run.start && hits c b h.run (frames - 1)) ≡ shows c b u
unfolding shows confirms
shows-is c b frames u h =
    ap (λ (n : ℕ). agrees c.latches h.run.start && hits c b h.run (n - 1)) (sym h.run_at.frames-are)
    ∙ sym (ap (λ (o : Option Witness). elim o [ none ↦ false | some x ↦ confirms c x ]) h.reads)

wanted-true : (want s : Bool) → s ≡ want → T (cond want s (not s))
wanted-true true s e = T_true e
wanted-true false s e = rw e tt

wanted-false : (want s : Bool) → s ≡ not want → T (cond want s (not s)) → ⊥
wanted-false true s e t = subst T e t
wanted-false false s e t = not-both s t (T_true e)

false-from : (b : Bool) → (T b → ⊥) → false ≡ b
false-from true f = absurd (f tt)
false-from false f = refl

module _ (c : Circuit) (b frames count : ℕ) (body : List ℕ) (F : Fits c b frames count body) (want : Bool) where
  -- the completions before block k show what is wanted
  abbrev pub Before : ℕ → Type 0
  Before k = (v : ℕ) → v < k * 64 → T (wanted c b want (completion v body))

  pub before-first : Before 0
  before-first v h = absurd (omega arith)

  module _ (block word goal r : ℕ)
      (w : (p : ℕ) → p < 64 → (q : Run) → RunAt c (lane_text body block p) frames q
      → bit word p ≡ (agrees c.latches q.start && hits c b q (frames - 1)))
      (g : (p : ℕ) → p < 64 → bit goal p ≡ want) (d : FirstDifference 64 word goal r) where
    -- what bit p of the block's word says
    lane-shows : (p : ℕ) → p < 64 → bit word p ≡ shows c b (lane_text body block p)
    lane-shows p h =
        let u = lane_text body block p in
        let q = F.form u (completes-form (completes (block * 64 + p) body)) in
        w p h q.run q.run_at ∙ shows-is c b frames u q

    -- one block more
    pub before_more : 64 ≤ r → Before block → Before (block + 1)
    before_more h o v l =
        elim (dec_lt v (block * 64)) [
          | yes k ↦ o v k
          | no k ↦
              let p : ℕ = v - block * 64 in
              let e : block * 64 + p ≡ v = omega arith in
              let s : p < 64 = omega arith in
              subst (λ (n : ℕ). T (wanted c b want (completion n body))) e
              (wanted-true want (shows c b (lane_text body block p)) (sym (lane-shows p s) ∙ d.below p (omega arith) ∙ g p s))
        ]

    -- a completion that does not
    pub refuted : r < 64 → false ≡ all_pass (wanted c b want) body
    refuted h =
        false-from (all_pass (wanted c b want) body)
        (λ t.
        wanted-false want (shows c b (lane_text body block r)) (sym (lane-shows r h) ∙ d.here h ∙ ap not (g r h))
        (all-at (wanted c b want) body t (lane_text body block r) (completes (block * 64 + r) body)))

  -- all of them
  pub before-all : (blocks : ℕ) → 2 ^ count ≤ blocks * 64 → Before blocks → true ≡ all_pass (wanted c b want) body
  unfolding all_pass
  before-all blocks h o =
      sym (true-T (all_pass (wanted c b want) body)
      (below_all (2 ^ eithers body) (λ v. wanted c b want (completion v body))
      (λ v l. o v (let e : 2 ^ count ≡ 2 ^ eithers body = ap (λ (n : ℕ). 2 ^ n) F.eithers-are in omega arith))))
