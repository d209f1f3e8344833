-- The size and the length of a witness: their values from the counts, and what they bound at each frame. Assumes nothing.
use mathlib.Core.Path.{◌≡◌, sym, ◌∙◌}
use mathlib.Core.List.{List}
use Prim.Native.Nat.{ℕ, ◌+◌, ◌*◌, ◌≤◌}
use native.Mathlib.Nat.{mul_comm, mul-le-mul_left, mul-le-mul_right}
use native.Mathlib.Omega.{arith}
use lib.ListN.{length}
use Rattle.aiger.specs.Circuit.{Circuit}
use Rattle.aiger.specs.Frames.{free_bits, size}
use Rattle.aiger.specs.Witness.{witness_length}
use Rattle.aiger.specs.Memory.{Holds}
use Rattle.layout.specs.Words.{circuit_in}
use Rattle.layout.specs.Layout.{LayoutOf}
use Rattle.layout.specs.declared.Layout.{Layout}
use Rattle.frames.proofs.Facts.{counts, bad-count, constraint-count, gate-count}
use Rattle.frames.proofs.Places.{inputs_are, latches-are}
use Rattle.frames.proofs.Starts.{free-small}
use Rattle.limits.specs.Limits.{Limited, CountsOf, size_of, length_of}

-- k + 1 frames of at most 3,345 units
pub product_small : (k s : ℕ) → k ≤ 255 → s ≤ 3345 → (k + 1) * s ≤ 856320
product_small k s h l = let a : (k + 1) * s ≤ 256 * s = mul-le-mul_right s (omega arith) in omega arith

module _ {c : Circuit} {p : Layout} (e : CountsOf c p) where
  pub size_is : (k : ℕ) → size_of p k ≡ size c k
  unfolding size
  size_is k = cc

  pub length-is : (b k : ℕ) → length_of p b k ≡ witness_length c b k
  unfolding witness_length
  length-is b k = cc

-- the free bits of a frame up to the bound are fewer than the units of size
pub bits-within : (c : Circuit) (t k : ℕ) → t ≤ k → free_bits c t ≤ size c k
unfolding free_bits size
bits-within c t k l =
    let I = length c.inputs in
    let w = I + length c.gates + length c.constraints + 1 in
    let x : I * (t + 1) ≤ I * (k + 1) = mul-le-mul_left I (omega arith) in
    let y : (k + 1) * I ≤ (k + 1) * w = mul-le-mul_left (k + 1) (omega arith) in
    omega (arith, mul_comm I (k + 1))

-- a witness of an earlier frame is no longer
pub length-within : (c : Circuit) (b t k : ℕ) → t ≤ k → witness_length c b t ≤ witness_length c b k
unfolding witness_length
length-within c b t k l =
    let I = length c.inputs in
    let x : (t + 1) * (I + 1) ≤ (k + 1) * (I + 1) = mul-le-mul_right (I + 1) (omega arith) in
    omega arith

-- the counts of a circuit that a memory holds
module _ {m : List ℕ} {p : Layout} (held : Holds m (circuit_in m)) (a : LayoutOf m p) where
  pub counts_of : CountsOf (circuit_in m) p
  counts_of =
      record {
        inputs = inputs_are held a;
        latches = latches-are held a;
        gates = a.a-is ∙ sym (gate-count m);
        bads = a.b-is ∙ sym (bad-count m);
        constraints = a.c-is ∙ sym (constraint-count m);
        starts = a.u-is;
      }

  pub limited : Limited p
  limited =
      let n = counts held in
      let e = counts_of in
      record {
        inputs = omega (arith, n.inputs, e.inputs);
        latches = omega (arith, n.latches, e.latches);
        gates = omega (arith, n.gates, e.gates);
        bads = omega (arith, n.bads, e.bads);
        constraints = omega (arith, n.constraints, e.constraints);
        starts = omega (arith, a.u-is, free-small (circuit_in m), e.latches);
      }
