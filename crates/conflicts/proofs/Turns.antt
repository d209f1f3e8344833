-- One turn of each loop. Assumes nothing.
use mathlib.Core.Path.{◌≡◌, refl, ap}
use mathlib.Core.List.{List}
use Prim.Native.Nat.{ℕ, zero, suc, ◌+◌, ◌-◌, ◌≤◌, ◌<◌}
use native.Mathlib.Omega.{arith}
use borrow.Author.Tests.{eq-eqb, ne_eqb, le-leb, lt-leb}
use lib.ListN.{set}
use Rattle.memory.specs.Record.{successor}
use Rattle.memory.specs.declared.Netlist.{Netlist}
use Rattle.memory.specs.declared.Heap.{Heap}
use Rattle.heap.specs.Heap.{heaped, admitted}
use Rattle.learning.specs.declared.Search.{Search}
use Rattle.learning.specs.Learning.{Searched, Left, searched}
use Rattle.conflicts.specs.Conflicts.{reset, reset_rest, reset_all, wiped, filled, stepped, steps}

-- what a loop leaves, by the equation of its function
pub left_by : {a b : Searched} → a ≡ b → Left a.words a.search b
left_by e = record { words = ap (λ (t : Searched). t.words) e; search = ap (λ (t : Searched). t.search) e }

pub reset-none : (w : List ℕ) (nodes n : ℕ) → n ≡ 0 → reset_all w nodes n ≡ w
unfolding reset_all
reset-none w nodes zero e = refl
reset-none w nodes (suc n) e = absurd (omega arith)

pub reset-more : (w : List ℕ) (nodes n : ℕ) → 0 < n
    → reset_all w nodes n ≡ reset_all (reset_rest (reset w nodes (n - 1) 2) nodes (n - 1)) nodes (n - 1)
unfolding reset_all
reset-more w nodes zero l = absurd (omega arith)
reset-more w nodes (suc n) l =
    let p : n ≡ suc n - 1 = omega arith in ap (λ (k : ℕ). reset_all (reset_rest (reset w nodes k 2) nodes k) nodes k) p

pub wiped-none : (w : List ℕ) (i k : ℕ) → k ≡ 0 → wiped w i k ≡ w
unfolding wiped
wiped-none w i zero e = refl
wiped-none w i (suc k) e = absurd (omega arith)

pub wiped-more : (w : List ℕ) (i k : ℕ) → 0 < k → wiped w i k ≡ wiped (set w i 0) (i + 1) (k - 1)
unfolding wiped
wiped-more w i zero l = absurd (omega arith)
wiped-more w i (suc k) l = let p : k ≡ suc k - 1 = omega arith in ap (wiped (set w i 0) (i + 1)) p

pub filled_none : (w : List ℕ) (net : Netlist) (h : Heap) (v k : ℕ) → k ≡ 0 → filled w net h v k ≡ heaped w h
unfolding filled
filled_none w net h v zero e = refl
filled_none w net h v (suc k) e = absurd (omega arith)

pub filled_more : (w : List ℕ) (net : Netlist) (h : Heap) (v k : ℕ) → 0 < k
    → filled w net h v k ≡ filled (admitted w net h v).words net (admitted w net h v).heap (successor v) (k - 1)
unfolding filled
filled_more w net h v zero l = absurd (omega arith)
filled_more w net h v (suc k) l =
    let p : k ≡ suc k - 1 = omega arith in ap (filled (admitted w net h v).words net (admitted w net h v).heap (successor v)) p

module _ (w : List ℕ) (net : Netlist) (s : Search) (effort : ℕ) where
  pub steps-none : (k : ℕ) → k ≡ 0 → steps w net s effort k ≡ searched w s
  unfolding steps
  steps-none zero e = refl
  steps-none (suc k) e = absurd (omega arith)

  pub steps-over : (k : ℕ) → (s.order.verdict ≡ 0 → ⊥) → steps w net s effort k ≡ searched w s
  unfolding steps
  steps-over zero e = refl
  steps-over (suc k) e = rw (ne_eqb s.order.verdict 0 e)

  pub steps-spent : (k : ℕ) → s.order.verdict ≡ 0 → effort ≤ s.order.ticks → steps w net s effort k ≡ searched w s
  unfolding steps
  steps-spent zero e l = refl
  steps-spent (suc k) e l = rw (eq-eqb s.order.verdict 0 e, le-leb effort s.order.ticks l)

  pub steps-more : (k : ℕ) → 0 < k → s.order.verdict ≡ 0 → s.order.ticks < effort
      → steps w net s effort k ≡ steps (stepped w net s).words net (stepped w net s).search effort (k - 1)
  unfolding steps
  steps-more zero z e l = absurd (omega arith)
  steps-more (suc k) z e l =
      let p : k ≡ suc k - 1 = omega arith in
      rw (
        eq-eqb s.order.verdict 0 e,
        lt-leb effort s.order.ticks l,
      ) (ap (steps (stepped w net s).words net (stepped w net s).search effort) p)
