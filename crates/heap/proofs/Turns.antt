-- One turn of each loop. Assumes nothing.
use mathlib.Core.Path.{◌≡◌, refl, ap}
use mathlib.Core.Bool.{true, false}
use mathlib.Core.List.{List}
use Prim.Native.Nat.{ℕ, zero, suc, ◌-◌, ◌/◌, ◌≤◌, ◌<◌}
use native.Mathlib.Omega.{arith}
use borrow.Author.Tests.{eq-eqb, ne_eqb, le-leb, lt-leb}
use Rattle.memory.specs.Record.{field, stored}
use Rattle.memory.specs.declared.Netlist.{Netlist}
use Rattle.memory.specs.declared.Heap.{Heap}
use Rattle.heap.specs.Heap.{Heaped, Left, heaped, node_at, active, seated, parent, is_above, lowered, upped, child}
use Rattle.heap.specs.Heap.{larger, is_below, lifted, downed, dropped, skimmed, scaled, admitted, entry, restored}

-- what a loop leaves, by the equation of its function
pub left_by : {a b : Heaped} → a ≡ b → Left a.words a.heap b
left_by e = record { words = ap (λ (t : Heaped). t.words) e; heap = ap (λ (t : Heaped). t.heap) e }

module _ (w : List ℕ) (nodes : ℕ) where
  pub upped-none : (v i n : ℕ) → n ≡ 0 → upped w nodes v i n ≡ seated w nodes i v
  unfolding upped
  upped-none v i zero e = refl
  upped-none v i (suc n) e = absurd (omega arith)

  pub upped-stop : (v i n : ℕ) → is_above w nodes i v ≡ false → upped w nodes v i n ≡ seated w nodes i v
  unfolding upped
  upped-stop v i zero e = refl
  upped-stop v i (suc n) e = rw e

  pub upped-more : (v i n : ℕ) → 0 < n → is_above w nodes i v ≡ true → upped w nodes v i n
      ≡ upped (lowered w nodes i) nodes v (parent i) (n - 1)
  unfolding upped
  upped-more v i zero l e = absurd (omega arith)
  upped-more v i (suc n) l e = let p : n ≡ suc n - 1 = omega arith in rw e (ap (upped (lowered w nodes i) nodes v (parent i)) p)

  pub downed-none : (size v i n : ℕ) → n ≡ 0 → downed w nodes size v i n ≡ seated w nodes i v
  unfolding downed
  downed-none size v i zero e = refl
  downed-none size v i (suc n) e = absurd (omega arith)

  pub downed-stop : (size v i n : ℕ) → is_below w nodes size (larger w nodes size (child i)) v ≡ false → downed w nodes size v i n
      ≡ seated w nodes i v
  unfolding downed
  downed-stop size v i zero e = refl
  downed-stop size v i (suc n) e = rw e

  pub downed-more : (size v i n : ℕ) → 0 < n → is_below w nodes size (larger w nodes size (child i)) v ≡ true
      → downed w nodes size v i n
      ≡ downed (lifted w nodes i (larger w nodes size (child i))) nodes size v (larger w nodes size (child i)) (n - 1)
  unfolding downed
  downed-more size v i zero l e = absurd (omega arith)
  downed-more size v i (suc n) l e =
      let p : n ≡ suc n - 1 = omega arith in
      rw e (ap (downed (lifted w nodes i (larger w nodes size (child i))) nodes size v (larger w nodes size (child i))) p)

  pub skimmed-none : (h : Heap) (n : ℕ) → n ≡ 0 → skimmed w nodes h n ≡ heaped w h
  unfolding skimmed
  skimmed-none h zero e = refl
  skimmed-none h (suc n) e = absurd (omega arith)

  pub skimmed-stop : (h : Heap) (n : ℕ) → field w nodes (node_at w nodes 0) 5 ≡ 2 → skimmed w nodes h n ≡ heaped w h
  unfolding skimmed
  skimmed-stop h zero e = refl
  skimmed-stop h (suc n) e = rw (eq-eqb (field w nodes (node_at w nodes 0) 5) 2 e)

  pub skimmed-more : (h : Heap) (n : ℕ) → 0 < n → (field w nodes (node_at w nodes 0) 5 ≡ 2 → ⊥)
      → skimmed w nodes h n ≡ skimmed (dropped w nodes h).words nodes (dropped w nodes h).heap (n - 1)
  unfolding skimmed
  skimmed-more h zero l e = absurd (omega arith)
  skimmed-more h (suc n) l e =
      let p : n ≡ suc n - 1 = omega arith in
      rw (ne_eqb (field w nodes (node_at w nodes 0) 5) 2 e) (ap (skimmed (dropped w nodes h).words nodes (dropped w nodes h).heap) p)

  pub scaled-none : (n : ℕ) → n ≡ 0 → scaled w nodes n ≡ w
  unfolding scaled
  scaled-none zero e = refl
  scaled-none (suc n) e = absurd (omega arith)

  pub scaled-more : (n : ℕ) → 0 < n
      → scaled w nodes n ≡ scaled (stored w nodes (n - 1) 11 (active w nodes (n - 1) / 1048576)) nodes (n - 1)
  unfolding scaled
  scaled-more zero l = absurd (omega arith)
  scaled-more (suc n) l =
      let p : n ≡ suc n - 1 = omega arith in ap (λ (k : ℕ). scaled (stored w nodes k 11 (active w nodes k / 1048576)) nodes k) p

module _ (w : List ℕ) (net : Netlist) (h : Heap) (from : ℕ) where
  pub restored-none : (n : ℕ) → n ≤ from → restored w net h from n ≡ heaped w h
  unfolding restored
  restored-none zero l = refl
  restored-none (suc n) l = rw (le-leb (suc n) from l)

  pub restored-more : (n : ℕ) → from < n
      → restored w net h from n
      ≡ restored (admitted w net h (entry w net.nodes (n - 1))).words net (admitted w net h (entry w net.nodes (n - 1))).heap from
      (n - 1)
  unfolding restored
  restored-more zero l = absurd (omega arith)
  restored-more (suc n) l =
      let p : n ≡ suc n - 1 = omega arith in
      rw (lt-leb (suc n) from l)
      (ap
      (λ (k : ℕ). restored (admitted w net h (entry w net.nodes k)).words net
      (admitted w net h (entry w net.nodes k)).heap from k) p)
