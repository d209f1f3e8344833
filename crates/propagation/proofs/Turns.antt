-- One turn of each loop. Assumes nothing.
use mathlib.Core.Path.{◌≡◌, refl, ap, sym}
use mathlib.Core.Bool.{true, false}
use mathlib.Core.List.{List}
use Prim.Native.Nat.{ℕ, zero, suc, ◌-◌, ◌/◌, ◌≤◌, ◌<◌}
use native.Mathlib.Omega.{arith}
use borrow.Author.Tests.{eq-eqb, ne_eqb}
use lib.Dec.{eqb}
use Rattle.memory.specs.Record.{undef}
use Rattle.memory.specs.declared.Netlist.{Netlist}
use Rattle.trail.specs.declared.State.{State}
use Rattle.trail.specs.Trail.{stood}
use Rattle.propagation.specs.Gates.{looked, next_fan, looked_up}

-- two numbers that a test found equal, or different
pub equal : {a b : ℕ} → a ≡ b → eqb a b ≡ true
equal {a} {b} e = eq-eqb a b e

pub unequal : {a b : ℕ} → (a ≡ b → ⊥) → eqb a b ≡ false
unequal {a} {b} n = ne_eqb a b n

module _ (w : List ℕ) (net : Netlist) (s : State) (e : ℕ) where
  pub up_none : (n : ℕ) → n ≡ 0 → looked_up w net s e n ≡ stood w s
  unfolding looked_up
  up_none zero z = refl
  up_none (suc n) z = absurd (omega arith)

  pub up-end : (n : ℕ) → e ≡ 0 → looked_up w net s e n ≡ stood w s
  unfolding looked_up
  up-end zero z = refl
  up-end (suc n) z = rw (eq-eqb e 0 z)

  pub up-stop : (n : ℕ) → (e ≡ 0 → ⊥) → (s.clash ≡ undef → ⊥) → looked_up w net s e n ≡ stood w s
  unfolding looked_up
  up-stop zero z y = refl
  up-stop (suc n) z y = rw (ne_eqb e 0 z, ne_eqb s.clash undef y)

  pub up_more : (n : ℕ) → 0 < n → (e ≡ 0 → ⊥) → s.clash ≡ undef
      → looked_up w net s e n ≡ looked_up (looked w net s (e / 2)).words net (looked w net s (e / 2)).state (next_fan w net.nodes e) (n - 1)
  unfolding looked_up
  up_more zero l z y = absurd (omega arith)
  up_more (suc n) l z y =
      let p : n ≡ suc n - 1 = omega arith in
      rw (ne_eqb e 0 z, eq-eqb s.clash undef y)
      (ap (looked_up (looked w net s (e / 2)).words net (looked w net s (e / 2)).state (next_fan w net.nodes e)) p)
