-- Where the inputs and latches of a circuit in memory stand, and what bounds they have. Assumes nothing.
use mathlib.Core.Path.{◌≡◌, sym, ap, ◌∙◌}
use mathlib.Core.List.{List}
use Prim.Native.Nat.{ℕ, ◌+◌, ◌*◌, ◌≤◌, ◌<◌}
use native.Mathlib.Omega.{arith}
use lib.ListN.{length, length-map, get_or-map}
use Rattle.aiger.specs.Circuit.{Latch, var}
use Rattle.aiger.specs.Memory.{Holds}
use Rattle.layout.specs.Words.{word, latch_in, circuit_in}
use Rattle.roundtrip.proofs.Lists.{upto-length, upto-get}
use Rattle.layout.specs.Layout.{LayoutOf}
use Rattle.layout.specs.declared.Layout.{Layout}
use Rattle.meaning.proofs.Defined.{no_latch, input_at, latch_at, input, latch, apart-inputs, apart-latches}
use Rattle.frames.proofs.Facts.{latch-count, latch-word, counts, right, inside, known_small}

module _ (m : List ℕ) where
  pub input-count : length (circuit_in m).inputs ≡ word m 1
  unfolding circuit_in
  input-count = upto-length (λ i. word m (7 + 1 * i)) (word m 1)

  pub input-word : (i : ℕ) → i < word m 1 → input_at (circuit_in m) i ≡ word m (7 + i)
  unfolding circuit_in
  input-word i h = upto-get (λ k. word m (7 + 1 * k)) (word m 1) i 0 h ∙ ap (word m) (omega arith)

module _ {m : List ℕ} {layout : Layout} (held : Holds m (circuit_in m)) (a : LayoutOf m layout) where
  pub inputs_are : layout.i ≡ length (circuit_in m).inputs
  inputs_are = a.i-is ∙ sym (input-count m)

  pub latches-are : layout.l ≡ length (circuit_in m).latches
  latches-are = a.l-is ∙ sym (latch-count m)

  pub inputs-few : layout.i ≤ 256
  inputs-few = omega (arith, inputs_are, (counts held).inputs)

  pub latches-few : layout.l ≤ 1024
  latches-few = omega (arith, latches-are, (counts held).latches)

  -- their words lie within the memory
  pub inputs-inside : 7 + layout.i ≤ length m
  inputs-inside = omega (arith, inside held, a.i-is)

  pub latches-inside : layout.latches + 3 * layout.l ≤ length m
  latches-inside = omega (arith, inside held, a.latches-is, a.l-is)

  pub input-place : (i : ℕ) → i < layout.i → input_at (circuit_in m) i ≡ word m (7 + i)
  input-place i l = input-word m i (omega (arith, a.i-is))

  pub latch-place : (j : ℕ) → j < layout.l → latch_at (circuit_in m) j ≡ latch_in m (layout.latches + 3 * j)
  latch-place j l = latch-word m j (omega (arith, a.l-is)) ∙ ap (λ (p : ℕ). latch_in m (p + 3 * j)) (sym a.latches-is)

  -- the variable of an input, of a latch
  pub input-var : (i : ℕ) → i < layout.i → var (input_at (circuit_in m) i) ≡ var (word m (7 + i))
  input-var i l = ap var (input-place i l)

  pub latch-var : (j : ℕ) → j < layout.l → var (latch_at (circuit_in m) j).lit ≡ var (word m (layout.latches + 3 * j))
  latch-var j l = ap (λ (x : Latch). var x.lit) (latch-place j l)

  -- it is at most M
  pub input-small : (i : ℕ) → i < layout.i → var (word m (7 + i)) ≤ word m 0
  input-small i l =
      let k : i < length (circuit_in m).inputs = omega (arith, inputs_are) in
      omega (arith, known_small held (var (input_at (circuit_in m) i)) (input i k (λ _. var (input_at (circuit_in m) i))), input-var i l)

  pub latch-small : (j : ℕ) → j < layout.l → var (word m (layout.latches + 3 * j)) ≤ word m 0
  latch-small j l =
      let k : j < length (circuit_in m).latches = omega (arith, latches-are) in
      omega (arith, known_small held (var (latch_at (circuit_in m) j).lit) (latch j k (λ _. var (latch_at (circuit_in m) j).lit)), latch-var j l)

  -- no two have the same
  pub inputs-differ : (i j : ℕ) → i < j → j < layout.i → var (input_at (circuit_in m) i) ≡ var (input_at (circuit_in m) j) → ⊥
  inputs-differ i j l k e = apart-inputs (circuit_in m) (right held) i j l (omega (arith, inputs_are)) e

  pub latches-differ : (i j : ℕ) → i < j → j < layout.l → var (latch_at (circuit_in m) i).lit ≡ var (latch_at (circuit_in m) j).lit → ⊥
  latches-differ i j l k e =
      let ls = (circuit_in m).latches in
      apart-latches (circuit_in m) (right held) i j l (simp length-map (omega (arith, latches-are)))
      (ap var (get_or-map (λ (x : Latch). x.lit) ls i no_latch) ∙ e ∙ sym (ap var (get_or-map (λ (x : Latch). x.lit) ls j no_latch)))
