-- One turn of the loop. Assumes nothing.
use mathlib.Core.Path.{◌≡◌, refl, ap, subst, sym}
use mathlib.Core.List.{List}
use Prim.Native.Nat.{ℕ, zero, suc, ◌-◌, ◌≤◌, ◌<◌}
use native.Mathlib.Omega.{arith}
use borrow.Author.Tests.{le-leb, lt-leb}
use Rattle.memory.specs.Record.{counted, field, stored}
use Rattle.trail.specs.Trail.{Stood, Left, entry, taken_back}

-- what a loop leaves, by the equation of its function
pub left_by : {a b : Stood} → a ≡ b → Left a.words a.state b
left_by e = record { words = ap (λ (t : Stood). t.words) e; state = ap (λ (t : Stood). t.state) e }

pub taken_none : (w : List ℕ) (nodes to t : ℕ) → t ≡ 0 → taken_back w nodes to t ≡ counted w 0
unfolding taken_back
taken_none w nodes to zero e = refl
taken_none w nodes to (suc t) e = absurd (omega arith)

pub taken-stop : (w : List ℕ) (nodes to t : ℕ) → 0 < t → field w nodes (entry w nodes (t - 1)) 6 ≤ to → taken_back w nodes to t ≡ counted w t
unfolding taken_back
taken-stop w nodes to zero l h = absurd (omega arith)
taken-stop w nodes to (suc t) l h =
    let e : suc t - 1 ≡ t = omega arith in
    rw (le-leb (field w nodes (entry w nodes t) 6) to (subst (λ (j : ℕ). field w nodes (entry w nodes j) 6 ≤ to) e h))

pub taken_more : (w : List ℕ) (nodes to t : ℕ) → 0 < t → to < field w nodes (entry w nodes (t - 1)) 6
    → taken_back w nodes to t ≡ taken_back (stored w nodes (entry w nodes (t - 1)) 5 2) nodes to (t - 1)
unfolding taken_back
taken_more w nodes to zero l h = absurd (omega arith)
taken_more w nodes to (suc t) l h =
    let e : suc t - 1 ≡ t = omega arith in
    rw (lt-leb (field w nodes (entry w nodes t) 6) to (subst (λ (j : ℕ). to < field w nodes (entry w nodes j) 6) e h))
    (ap (λ (j : ℕ). taken_back (stored w nodes (entry w nodes j) 5 2) nodes to j) (sym e))
