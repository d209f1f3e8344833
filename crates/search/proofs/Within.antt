-- The size at an earlier bound, and the length of a witness. Assumes nothing.
use Prim.Native.Nat.{ℕ, ◌+◌, ◌*◌, ◌≤◌, ◌<◌}
use native.Mathlib.Nat.{mul-le-mul_left, mul-le-mul_right}
use native.Mathlib.Omega.{arith}
use lib.ListN.{length}
use Rattle.aiger.specs.Circuit.{Circuit}
use Rattle.aiger.specs.Frames.{size}
use Rattle.numbers.proofs.Digits.{digits-short}
use Rattle.layout.specs.declared.Layout.{Layout}
use Rattle.limits.specs.Limits.{Limited, length_of}

-- it is no larger
pub size-within : (c : Circuit) (t k : ℕ) → t ≤ k → size c t ≤ size c k
unfolding size
size-within c t k l =
    let w = length c.inputs + length c.gates + length c.constraints in
    let x : (t + 1) * w ≤ (k + 1) * w = mul-le-mul_right w (omega arith) in
    omega arith

-- no witness has more bytes than a word can count
pub length-word : (p : Layout) (b t : ℕ) → Limited p → b < p.b → t ≤ 255 → length_of p b t ≤ 66825
length-word p b t n l h =
    let row : (t + 1) * (p.i + 1) ≤ (t + 1) * 257 = mul-le-mul_left (t + 1) (omega (arith, n.inputs)) in
    let rows : (t + 1) * 257 ≤ 256 * 257 = let z : t + 1 ≤ 256 = omega arith in mul-le-mul_right 257 z in
    omega (arith, digits-short 9 1 b (omega (arith, n.bads)), n.latches)
