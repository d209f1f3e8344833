-- One turn of the loop. Assumes nothing.
use mathlib.Core.Path.{◌≡◌, refl, ap}
use mathlib.Core.List.{List}
use Prim.Native.Nat.{ℕ, zero, suc, ◌-◌, ◌<◌}
use native.Mathlib.Omega.{arith}
use Rattle.memory.specs.declared.Netlist.{Netlist}
use Rattle.memory.specs.declared.Arena.{Arena}
use Rattle.memory.specs.declared.Draft.{Draft}
use Rattle.reasons.specs.Reason as R
use Rattle.resolve.specs.Draft.{Drafted, Left, drafted, joined, gathered}

-- what a loop leaves, by the equation of its function
pub left_by : {a b : Drafted} → a ≡ b → Left a.words a.draft b
left_by e = record { words = ap (λ (t : Drafted). t.words) e; draft = ap (λ (t : Drafted). t.draft) e }

pub gathered_none : (w : List ℕ) (net : Netlist) (arena : Arena) (d : Draft) (r x k : ℕ) → k ≡ 0 → gathered w net arena d r x k ≡ drafted w d
unfolding gathered
gathered_none w net arena d r x zero e = refl
gathered_none w net arena d r x (suc k) e = absurd (omega arith)

pub gathered-more : (w : List ℕ) (net : Netlist) (arena : Arena) (d : Draft) (r x k : ℕ) → 0 < k
    → gathered w net arena d r x k
    ≡ gathered (joined w net arena d (R.literal_of w net r (k - 1)) x).words net arena
    (joined w net arena d (R.literal_of w net r (k - 1)) x).draft r x (k - 1)
unfolding gathered
gathered-more w net arena d r x zero l = absurd (omega arith)
gathered-more w net arena d r x (suc k) l =
    let e : k ≡ suc k - 1 = omega arith in
    ap
    (λ (j : ℕ).
    gathered (joined w net arena d (R.literal_of w net r j) x).words net arena
    (joined w net arena d (R.literal_of w net r j) x).draft r x j) e
