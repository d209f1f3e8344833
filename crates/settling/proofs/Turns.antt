-- One turn of each loop. Assumes nothing.
use mathlib.Core.Path.{◌≡◌, refl, ap}
use mathlib.Core.List.{List}
use Prim.Native.Nat.{ℕ, zero, suc, ◌+◌, ◌-◌, ◌≤◌, ◌<◌}
use native.Mathlib.Omega.{arith}
use borrow.Author.Tests.{eq-eqb, ne_eqb, le-leb, lt-leb}
use Rattle.memory.specs.Record.{undef}
use Rattle.memory.specs.declared.Netlist.{Netlist}
use Rattle.memory.specs.declared.Arena.{Arena}
use Rattle.trail.specs.declared.State.{State}
use Rattle.trail.specs.Trail.{stood}
use Rattle.settling.specs.Settling.{followed, propagated, settled_one, settled_from}

module _ (w : List ℕ) (net : Netlist) (arena : Arena) where
  pub propagated-none : (s : State) (n : ℕ) → n ≡ 0 → propagated w net arena s n ≡ stood w s
  unfolding propagated
  propagated-none s zero e = refl
  propagated-none s (suc n) e = absurd (omega arith)

  pub propagated-end : (s : State) (n : ℕ) → s.length ≤ s.next → propagated w net arena s n ≡ stood w s
  unfolding propagated
  propagated-end s zero l = refl
  propagated-end s (suc n) l = rw (le-leb s.length s.next l)

  pub propagated-stop : (s : State) (n : ℕ) → s.next < s.length → (s.clash ≡ undef → ⊥) → propagated w net arena s n ≡ stood w s
  unfolding propagated
  propagated-stop s zero l e = refl
  propagated-stop s (suc n) l e = rw (lt-leb s.length s.next l, ne_eqb s.clash undef e)

  pub propagated-more : (s : State) (n : ℕ) → 0 < n → s.next < s.length → s.clash ≡ undef
      → propagated w net arena s n ≡ propagated (followed w net arena s).words net arena (followed w net arena s).state (n - 1)
  unfolding propagated
  propagated-more s zero z l e = absurd (omega arith)
  propagated-more s (suc n) z l e =
      let p : n ≡ suc n - 1 = omega arith in
      rw (lt-leb s.length s.next l, eq-eqb s.clash undef e)
      (ap (propagated (followed w net arena s).words net arena (followed w net arena s).state) p)

  pub settled-none : (t k : ℕ) → k ≡ 0 → settled_from w net arena t k ≡ w
  unfolding settled_from
  settled-none t zero e = refl
  settled-none t (suc k) e = absurd (omega arith)

  pub settled-more : (t k : ℕ) → 0 < k → settled_from w net arena t k ≡ settled_from (settled_one w net arena t) net arena (t + 1) (k - 1)
  unfolding settled_from
  settled-more t zero l = absurd (omega arith)
  settled-more t (suc k) l = let p : k ≡ suc k - 1 = omega arith in ap (settled_from (settled_one w net arena t) net arena (t + 1)) p
