-- One turn of each loop. Assumes nothing.
use mathlib.Core.Path.{◌≡◌, refl, ap, sym, ◌∙◌}
use mathlib.Core.Bool.{Bool, true, false, cond}
use mathlib.Core.List.{List}
use Prim.Native.Nat.{ℕ, zero, suc, ◌-◌, ◌/◌, ◌≤◌, ◌<◌}
use native.Mathlib.Omega.{arith}
use borrow.Author.Tests.{le-leb, lt-leb}
use lib.Dec.{eqb}
use Rattle.memory.specs.Record.{head}
use Rattle.memory.specs.declared.Netlist.{Netlist}
use Rattle.memory.specs.declared.Arena.{Arena}
use Rattle.reasons.specs.Reason.{kept_literal}
use Rattle.trail.specs.declared.State.{State}
use Rattle.trail.specs.Trail.{stood}
use Rattle.std.specs.Prelude.{Some, None}
use Rattle.watches.specs.Watch.{side, can_watch, found, stepped, walked}

pred : (n : ℕ) → n ≡ suc n - 1
pred n = omega arith

-- a clause has two watches
pub side-two : (w : List ℕ) (words c f : ℕ) → side w words c f < 2
unfolding side
side-two w words c f = go (eqb (head w words c 5) f)
  where
    go : (b : Bool) → cond b 1 0 < 2
    go true = omega arith
    go false = omega arith

module _ (w : List ℕ) (net : Netlist) (c o : ℕ) where
  pub found_none : (n : ℕ) → n ≡ 0 → found w net c o n ≡ None
  unfolding found
  found_none zero e = refl
  found_none (suc n) e = absurd (omega arith)

  pub found_here : (n : ℕ) → 0 < n → can_watch w net.nodes (kept_literal w net c (n - 1)) o ≡ true → found w net c o n ≡ Some
      (kept_literal w net c (n - 1))
  unfolding found
  found_here zero l e = absurd (omega arith)
  found_here (suc n) l e =
      let p = ap (kept_literal w net c) (pred n) in
      let q = ap (λ (x : ℕ). can_watch w net.nodes x o) p in
      rw (q, e) (ap (λ (x : ℕ). Some x) p)

  pub found-more : (n : ℕ) → 0 < n → can_watch w net.nodes (kept_literal w net c (n - 1)) o ≡ false → found w net c o n ≡ found w net c o (n - 1)
  unfolding found
  found-more zero l e = absurd (omega arith)
  found-more (suc n) l e =
      let p = ap (kept_literal w net c) (pred n) in
      let q = ap (λ (x : ℕ). can_watch w net.nodes x o) p in
      rw (q, e) (ap (found w net c o) (pred n))

module _ (w : List ℕ) (net : Netlist) (arena : Arena) (t : State) (f : ℕ) where
  pub walked_none : (n : ℕ) → n ≡ 0 → walked w net arena t f n ≡ stood w t
  unfolding walked
  walked_none zero e = refl
  walked_none (suc n) e = absurd (omega arith)

  pub walked_end : (n : ℕ) → arena.count ≤ t.clause → walked w net arena t f n ≡ stood w t
  unfolding walked
  walked_end zero e = refl
  walked_end (suc n) e = rw (le-leb arena.count t.clause e)

  pub walked_more : (n : ℕ) → 0 < n → t.clause < arena.count
      → walked w net arena t f n ≡ walked (stepped w net arena t f).words net arena (stepped w net arena t f).state f (n - 1)
  unfolding walked
  walked_more zero l e = absurd (omega arith)
  walked_more (suc n) l e =
      rw (lt-leb arena.count t.clause e) (ap (walked (stepped w net arena t f).words net arena (stepped w net arena t f).state f) (pred n))
