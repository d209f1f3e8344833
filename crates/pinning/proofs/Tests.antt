-- The tests of a circuit and those of its pinned circuit; an operation that all tests let pass. Assumes nothing.
use mathlib.Core.Path.{◌≡◌, refl, sym, ap, ◌∙◌, subst}
use mathlib.Core.Bool.{Bool, true, false, ◌&&◌}
use mathlib.Core.List.{List, [], ◌∷◌, ◌++◌}
use Prim.Native.Nat.{ℕ, ◌+◌, ◌*◌, ◌≤◌, ◌<◌}
use native.Mathlib.Nat.{mul-le-mul_left, mul-le-mul_right}
use native.Mathlib.Omega.{arith}
use lib.Dec.{T, leb, le→leb}
use lib.ListN.{length}
use Rattle.aiger.specs.Text.{digits}
use Rattle.aiger.specs.Circuit.{Circuit}
use Rattle.aiger.specs.Load.{Answer, refused, gives}
use Rattle.aiger.specs.Frames.{size}
use Rattle.aiger.specs.Memory.{Holds}
use Rattle.aiger.specs.Witness.{witness_length}
use Rattle.aiger.specs.Operations.{Test, need, judge, Operated, bound_tests, budget_right, search_tests, fold_tests}
use Rattle.aiger.proofs.Tests.{true-T}
use Rattle.roundtrip.proofs.LoadWrite.{Counts}
use Rattle.roundtrip.proofs.Holding.{one-circuit}
use Rattle.limits.proofs.Refusals.{Passed, passed, passes, judge-rest, judge-passed, length-enough}
use Rattle.pins.specs.Pins.{pinned}
use Rattle.pins.proofs.Valid.{pinned-inputs, pinned-counts}
use Rattle.pins.proofs.Questions.{free-starts}

-- an operation on a circuit whose tests pass acts
pub acts-only : {A S : Type 0} {m : List ℕ} {c : Circuit} {tests : Circuit → List Test} {lent : S} {effect : Circuit → A → S → Type 0} {x : Answer A} {s : S}
    → Holds m c → judge (tests c) ≡ gives tt → Operated m tests lent effect x s → (a : A) × (x ≡ gives a) × effect c a s
acts-only {c = c} h j (Operated.no_circuit f) = absurd (f c h)
acts-only {c = c} {tests = tests} h j (Operated.refuses d {n = n} k t) =
    let e : gives tt ≡ refused n = sym j ∙ ap (λ (y : Circuit). judge (tests y)) (one-circuit h k) ∙ t in
    let z : ◌≡◌ {A = ℕ} 0 1 = cc in absurd (omega arith)
acts-only {effect = effect} {s = s} h j (Operated.acts d {a = a} k t e) = (a, refl, subst (λ (y : Circuit). effect y a s) (one-circuit k h) e)

module _ (c : Circuit) (q : ℕ → ℕ) where
  -- the pinned circuit is no larger
  pub size-pinned : (k : ℕ) → size (pinned c q) k ≤ size c k
  unfolding size
  size-pinned k =
      let s = pinned-counts c q in
      let d = pinned c q in
      let x : (k + 1) * (length d.inputs + length d.gates + length d.constraints + 1) ≤ (k + 1) * (length c.inputs + length c.gates + length c.constraints + 1) =
      mul-le-mul_left (k + 1) (omega (arith, s.gates, s.constraints, pinned-inputs c q)) in
      omega (arith, free-starts c q)

  -- its witnesses are no longer
  pub length-pinned : (b k : ℕ) → witness_length (pinned c q) b k ≤ witness_length c b k
  unfolding witness_length
  length-pinned b k =
      let d = pinned c q in
      let x : (k + 1) * (length d.inputs + 1) ≤ (k + 1) * (length c.inputs + 1) = mul-le-mul_left (k + 1) (omega (arith, pinned-inputs c q)) in
      omega (arith, (pinned-counts c q).latches)

  -- the tests 10 to 12 that pass of the circuit pass of the pinned one
  pub bounds-pinned : {b k : ℕ} {budget : Bool} {room : ℕ} → Passed c b k budget room → judge (bound_tests (pinned c q) b k budget room) ≡ gives tt
  bounds-pinned {b} {k} {budget} {room} p =
      let n = size-pinned k in
      passes (pinned c q) b k budget room (omega (arith, p.bad, (pinned-counts c q).bads)) p.bound (true-T budget p.right)
      (omega (arith, p.small)) (omega (arith, p.words))

  -- and 13, of an output that is long enough
  pub search-pinned : (b k D room len long : ℕ) → judge (search_tests c b k D room len) ≡ gives tt → witness_length (pinned c q) b k ≤ long
      → judge (search_tests (pinned c q) b k D room long) ≡ gives tt
  unfolding judge
  search-pinned b k D room len long j l =
      let p = (passed c b k (budget_right D) room (need 13 (leb (witness_length c b k) len) ∷ []) j).0 in
      let last = need 13 (leb (witness_length (pinned c q) b k) long) in
      judge-rest (bound_tests (pinned c q) b k (budget_right D) room) (last ∷ []) (bounds-pinned p)
      ∙ judge-passed last [] (le→leb (witness_length (pinned c q) b k) long l)

  pub fold-pinned : (b t room len : ℕ) → judge (fold_tests c b t room len) ≡ gives tt → judge (fold_tests (pinned c q) b t room len) ≡ gives tt
  unfolding judge
  fold-pinned b t room len j =
      let r = passed c b t true room (need 13 (leb (24 * size c t + 64) len) ∷ []) j in
      let last = need 13 (leb (24 * size (pinned c q) t + 64) len) in
      judge-rest (bound_tests (pinned c q) b t true room) (last ∷ []) (bounds-pinned r.0)
      ∙ judge-passed last []
      (le→leb (24 * size (pinned c q) t + 64) len (omega (arith, size-pinned t, length-enough (24 * size c t + 64) len r.1)))
