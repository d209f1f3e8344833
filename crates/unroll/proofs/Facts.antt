-- Places of inputs and latches in a memory that is ready, and bounds on the number of nodes. Assumes nothing.
use mathlib.Core.Path.{◌≡◌, sym, ap, ◌∙◌}
use mathlib.Core.List.{List}
use Prim.Native.Nat.{ℕ, ◌+◌, ◌*◌, ◌≤◌, ◌<◌}
use native.Mathlib.Nat.{mul-suc, mul_comm, add-mul, mul-le-mul_left}
use native.Mathlib.Numerals.{add-one}
use native.Mathlib.Omega.{arith}
use lib.ListN.{length}
use Rattle.aiger.specs.Circuit.{Circuit}
use Rattle.aiger.specs.Frames.{free_bits, size}
use Rattle.layout.specs.Words.{circuit_in}
use Rattle.layout.specs.declared.Layout.{Layout}
use Rattle.meaning.proofs.Defined.{input_at, latch_at, input-in, latch-in, definition}
use Rattle.frames.specs.Lanes.{Ready, Apart}
use Rattle.frames.proofs.Facts.{right}
use Rattle.frames.proofs.Places.{inputs_are, latches-are, input-var, latch-var, input-small, inputs-differ}
use Rattle.unroll.specs.Map.{input_var, latch_var}

module _ {m : List ℕ} {layout : Layout} {order : List ℕ} {count : ℕ} (r : Ready m layout order count) where
  pub inputs_apart : Apart (input_var m) layout.i count
  inputs_apart =
      record {
        below = λ i l. omega (arith, input-small r.held r.layout_of i l, r.room);
        differ = λ i j l k e.
            inputs-differ r.held r.layout_of i j l k
            (input-var r.held r.layout_of i (omega arith) ∙ e ∙ sym (input-var r.held r.layout_of j k));
      }

  -- no input and no latch is variable 0
  pub input-nonzero : (i : ℕ) → i < layout.i → input_var m i ≡ 0 → ⊥
  input-nonzero i l e =
      let c = circuit_in m in
      omega (arith, (definition c (right r.held) (input_at c i) (input-in c i (omega (arith, inputs_are r.held r.layout_of)))).0, input-var r.held r.layout_of i l)

  pub latch-nonzero : (j : ℕ) → j < layout.l → latch_var m layout.latches j ≡ 0 → ⊥
  latch-nonzero j l e =
      let c = circuit_in m in
      omega (arith, (definition c (right r.held) (latch_at c j).lit (latch-in c j (omega (arith, latches-are r.held r.layout_of)))).0, latch-var r.held r.layout_of j l)

  pub ready_with : {n : ℕ} → n ≡ count → Ready m layout order n
  ready_with e = record { held = r.held; layout_of = r.layout_of; ordered = r.ordered; ranks = r.ranks; room = omega (arith, r.room) }

-- ---- products

pub product-next : (a u : ℕ) → a * (u + 1) ≡ a * u + a
product-next a u = ap (λ (k : ℕ). a * k) (add-one u) ∙ mul-suc a u

pub product_le : (a : ℕ) {u t : ℕ} → u ≤ t → a * u ≤ a * t
product_le a h = mul-le-mul_left a h

-- the free bits of frame u + 1 are among those up to frame t
pub row_within : (i u t : ℕ) → u + 1 ≤ t → i * (u + 1) + i ≤ i * (t + 1)
row_within i u t h =
    let p : i * (u + 1 + 1) ≤ i * (t + 1) = product_le i (omega arith) in
    omega (arith, product-next i (u + 1))

-- (t + 1) (i + a + c + 1) is the inputs, gates and constraints of t + 1 frames and one node more for each
products : (i a c t : ℕ) → i * (t + 1) + (a + c) * (t + 1) + (t + 1) ≤ (t + 1) * (i + a + c + 1)
products i a c t =
    omega (arith, mul_comm (t + 1) (i + a + c + 1), add-mul (i + a + c) 1 (t + 1), add-mul (i + a) c (t + 1), add-mul i a (t + 1), add-mul a c (t + 1))

-- there is room for the nodes of frames 0 to t, their constraints and bad lines
pub size-enough : (c : Circuit) (t : ℕ) → free_bits c t + 1 + (length c.gates + length c.constraints) * (t + 1) + (t + 1) ≤ size c t
unfolding free_bits size
size-enough c t = omega (arith, products (length c.inputs) (length c.gates) (length c.constraints) t)
