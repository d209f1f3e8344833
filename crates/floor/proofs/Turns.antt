-- One turn of each loop. Assumes nothing.
use mathlib.Core.Path.{◌≡◌, refl, ap}
use mathlib.Core.Bool.{Bool, true, false}
use mathlib.Core.List.{List}
use Prim.Native.Nat.{ℕ, zero, suc, ◌+◌, ◌-◌, ◌<◌}
use native.Mathlib.Omega.{arith}
use Rattle.memory.specs.Record.{stored}
use Rattle.memory.specs.declared.Netlist.{Netlist}
use Rattle.memory.specs.declared.Arena.{Arena}
use Rattle.resolve.specs.Draft.{draft_at}
use Rattle.std.specs.Prelude.{Some, None}
use Rattle.floor.specs.declared.Refutation.{Refutation}
use Rattle.floor.specs.declared.Refutation.TheVariants.{Raised, NoHit, Unlearnt}
use Rattle.floor.specs.Place.{risen, is_wrong, later, judged, cleared, lifted, can_rise, raised, node_value, evaluated}

pred : (n : ℕ) → n ≡ suc n - 1
pred n = omega arith

pub judged-none : (w : List ℕ) (net : Netlist) (arena : Arena) (k top : ℕ) → k ≡ 0 → judged w net arena k top ≡ Some top
unfolding judged
judged-none w net arena zero top e = refl
judged-none w net arena (suc k) top e = absurd (omega arith)

pub judged-wrong : (w : List ℕ) (net : Netlist) (arena : Arena) (k top : ℕ) → 0 < k → is_wrong w net (draft_at w net arena (k - 1)) ≡ true
    → judged w net arena k top ≡ None
unfolding judged
judged-wrong w net arena zero top l e = absurd (omega arith)
judged-wrong w net arena (suc k) top l e = let f = ap (λ (j : ℕ). is_wrong w net (draft_at w net arena j)) (pred k) in rw (f, e)

pub judged-more : (w : List ℕ) (net : Netlist) (arena : Arena) (k top : ℕ) → 0 < k → is_wrong w net (draft_at w net arena (k - 1)) ≡ false
    → judged w net arena k top ≡ judged w net arena (k - 1) (later net (draft_at w net arena (k - 1)) top)
unfolding judged
judged-more w net arena zero top l e = absurd (omega arith)
judged-more w net arena (suc k) top l e =
    let f = ap (λ (j : ℕ). is_wrong w net (draft_at w net arena j)) (pred k) in
    rw (f, e) (ap (λ (j : ℕ). judged w net arena j (later net (draft_at w net arena j) top)) (pred k))

pub raised-none : (w : List ℕ) (nodes m v : ℕ) → v ≡ 0 → raised w nodes m v ≡ risen w NoHit
unfolding raised
raised-none w nodes m zero e = refl
raised-none w nodes m (suc v) e = absurd (omega arith)

pub raised-here : (w : List ℕ) (nodes m v : ℕ) → 0 < v → can_rise w nodes m v ≡ true → raised w nodes m v ≡ risen (lifted w nodes v)
    (Raised v)
unfolding raised
raised-here w nodes m zero l e = absurd (omega arith)
raised-here w nodes m (suc v) l e = rw e

pub raised-more : (w : List ℕ) (nodes m v : ℕ) → 0 < v → can_rise w nodes m v ≡ false → raised w nodes m v ≡ raised (cleared w nodes v) nodes m (v - 1)
unfolding raised
raised-more w nodes m zero l e = absurd (omega arith)
raised-more w nodes m (suc v) l e = rw e (ap (raised (cleared w nodes (suc v)) nodes m) (pred v))

pub evaluated-none : (w : List ℕ) (net : Netlist) (v k : ℕ) → k ≡ 0 → evaluated w net v k ≡ w
unfolding evaluated
evaluated-none w net v zero e = refl
evaluated-none w net v (suc k) e = absurd (omega arith)

pub evaluated-more : (w : List ℕ) (net : Netlist) (v k : ℕ) → 0 < k
    → evaluated w net v k ≡ evaluated (stored w net.nodes v 3 (node_value w net v)) net (v + 1) (k - 1)
unfolding evaluated
evaluated-more w net v zero l = absurd (omega arith)
evaluated-more w net v (suc k) l = ap (evaluated (stored w net.nodes v 3 (node_value w net v)) net (v + 1)) (pred k)
