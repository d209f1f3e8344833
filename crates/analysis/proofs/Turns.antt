-- One turn of each loop. Assumes nothing.
use mathlib.Core.Path.{◌≡◌, refl, ap}
use mathlib.Core.List.{List}
use Prim.Native.Nat.{ℕ, zero, suc, ◌-◌, ◌/◌, ◌≤◌, ◌<◌}
use native.Mathlib.Omega.{arith}
use borrow.Author.Tests.{le-leb, lt-leb}
use Rattle.memory.specs.Record.{counted}
use Rattle.memory.specs.declared.Netlist.{Netlist}
use Rattle.memory.specs.declared.Arena.{Arena}
use Rattle.memory.specs.declared.Draft.{Draft}
use Rattle.resolve.specs.Draft.{drafted, draft_at}
use Rattle.analysis.specs.declared.Analysis.{Analysis}
use Rattle.analysis.specs.Analysis.{Analysed, Left, reached}
use Rattle.analysis.specs.Analysis.{touched, tallied, touched_all, visited, descended, expanded, expanded_from}

-- what a loop leaves, by the equation of its function
pub left_by : {a b : Analysed} → a ≡ b → Left a.words a.now b
left_by e = record { words = ap (λ (t : Analysed). t.words) e; now = ap (λ (t : Analysed). t.now) e }

module _ (w : List ℕ) (net : Netlist) (arena : Arena) where
  pub touched_none : (from level step k n : ℕ) → k ≤ from → touched_all w net arena from level step k n ≡ counted w n
  unfolding touched_all
  touched_none from level step zero n l = refl
  touched_none from level step (suc k) n l = rw (le-leb (suc k) from l)

  pub touched-more : (from level step k n : ℕ) → from < k
      → touched_all w net arena from level step k n
      ≡ touched_all (touched w net.nodes (draft_at w net arena (k - 1) / 2) step) net arena from level step (k - 1)
      (tallied w net.nodes (draft_at w net arena (k - 1) / 2) level n)
  unfolding touched_all
  touched-more from level step zero n l = absurd (omega arith)
  touched-more from level step (suc k) n l =
      let e : k ≡ suc k - 1 = omega arith in
      rw (lt-leb (suc k) from l)
      (ap
      (λ (j : ℕ).
      touched_all (touched w net.nodes (draft_at w net arena j / 2) step) net arena from level step j
      (tallied w net.nodes (draft_at w net arena j / 2) level n)) e)

  pub descended-none : (a : Analysis) (level step t : ℕ) → t ≡ 0 → descended w net arena a level step t ≡ reached w a
  unfolding descended
  descended-none a level step zero e = refl
  descended-none a level step (suc t) e = absurd (omega arith)

  pub descended-stop : (a : Analysis) (level step t : ℕ) → a.current ≤ 1 → descended w net arena a level step t ≡ reached w a
  unfolding descended
  descended-stop a level step zero e = refl
  descended-stop a level step (suc t) e = rw (le-leb a.current 1 e)

  pub descended-more : (a : Analysis) (level step t : ℕ) → 1 < a.current → 0 < t
      → descended w net arena a level step t
      ≡ descended (visited w net arena a (t - 1) level step).words net arena (visited w net arena a (t - 1) level step).now level step
      (t - 1)
  unfolding descended
  descended-more a level step zero l h = absurd (omega arith)
  descended-more a level step (suc t) l h =
      let e : t ≡ suc t - 1 = omega arith in
      rw (lt-leb a.current 1 l)
      (ap (λ (j : ℕ). descended (visited w net arena a j level step).words net arena
      (visited w net arena a j level step).now level step j) e)

  pub expanded-none : (d : Draft) (t : ℕ) → t ≡ 0 → expanded_from w net arena d t ≡ drafted w d
  unfolding expanded_from
  expanded-none d zero e = refl
  expanded-none d (suc t) e = absurd (omega arith)

  pub expanded-more : (d : Draft) (t : ℕ) → 0 < t
      → expanded_from w net arena d t ≡ expanded_from (expanded w net arena d (t - 1)).words net arena
      (expanded w net arena d (t - 1)).draft (t - 1)
  unfolding expanded_from
  expanded-more d zero l = absurd (omega arith)
  expanded-more d (suc t) l =
      let e : t ≡ suc t - 1 = omega arith in
      ap (λ (j : ℕ). expanded_from (expanded w net arena d j).words net arena (expanded w net arena d j).draft j) e
