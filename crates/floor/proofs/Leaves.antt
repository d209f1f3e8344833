-- What a raise of the floor leaves: operands, and bits that do not count. Assumes nothing.
use mathlib.Core.Path.{◌≡◌, refl}
use mathlib.Core.Bool.{Bool, true, false, cond}
use mathlib.Core.List.{List}
use mathlib.Core.Logic.{◌⊎◌, inl, inr}
use Prim.Native.Nat.{ℕ, ◌+◌, ◌*◌, ◌≤◌, ◌<◌}
use native.Mathlib.Omega.{arith}
use lib.ListN.{length}
use Rattle.memory.specs.Record.{field}
use Rattle.memory.specs.declared.Netlist.{Netlist}
use Rattle.memory.specs.declared.Arena.{Arena}
use Rattle.memory.specs.declared.Draft.{Draft}
use Rattle.clauses.specs.Floor.{prefix}
use Rattle.std.specs.Prelude.{Option, Some, None}
use Rattle.floor.specs.declared.Refutation.TheVariants.{NoHit, Unlearnt}
use Rattle.floor.specs.Place.{Risen, risen, is_idle, bit_of, judged, raised, raised_by, refuted}
use Rattle.floor.proofs.Rise.{bits, node_of, Before, raise-after, raise-rises}

-- what is left by a raise that says `to`
pub record Leaves (net : Netlist) (w : List ℕ) (to : Risen) : Type 0 where
  pub operand : (v f : ℕ) → f < 2 → field to.words net.nodes v f ≡ field w net.nodes v f
  -- where there may be a hit, a bit that does not count did not count before, or is that of an idle node after the bit that rises
  pub still : (to.says ≡ NoHit → ⊥) → (j : ℕ) → (bit_of to.words net.nodes j ≡ 0 → ⊥) → (bit_of to.words net.nodes j ≡ 1 → ⊥)
      → ((bit_of w net.nodes j ≡ 0 → ⊥) × (bit_of w net.nodes j ≡ 1 → ⊥))
      ⊎ ((0 < node_of to.says) × (node_of to.says < j) × (is_idle w net.nodes j ≡ true))
  -- the bits after that one are 0, and the floor does not fall
  pub rest : (j : ℕ) → 0 < node_of to.says → node_of to.says < j → j ≤ net.free → bits to.words net.nodes j ≡ 0
  pub rises : (to.says ≡ NoHit → ⊥) → prefix (bits w net.nodes) net.free ≤ prefix (bits to.words net.nodes) net.free

module _ (net : Netlist) (arena : Arena) (small : net.free < net.nodes) (w : List ℕ)
    (room : 14 * net.nodes + arena.used + 6 * arena.count ≤ net.words) (within : net.words ≤ length w) where
  leaves-refl : Leaves net w (risen w Unlearnt)
  leaves-refl =
      record { operand = λ v f h. refl; still = λ n j p q. inl (p, q); rest = λ j p h l. absurd (omega arith); rises = λ n. omega arith }

  -- the law of the raise, for places of which none hits
  raise-leaves : (m : ℕ) → Leaves net w (raised w net.nodes m net.free)
  raise-leaves m =
      let to = raised w net.nodes m net.free in
      let begin : Before net arena net.free m small (λ x. ⊥) w net.free =
      record { room = room; within = within; clean = λ v h p q x t. absurd t; low = λ h x t. absurd t; high = λ h x t. absurd t } in
      let a = raise-after net arena net.free m small (λ x. ⊥) w net.free (omega arith) begin in
      record {
        operand = λ v f h. a.alike.node v f h;
        still = λ n j p q.
            elim a.some [
              | inl e ↦ absurd (n e)
              | inr s ↦ elim (a.still j p q) [ inl b ↦ inl b | inr b ↦ inr (s.0, b.0, b.1) ]
            ];
        rest = λ j p h l. a.rest j h l;
        rises = raise-rises net arena net.free m small (λ x. ⊥) (λ x t. absurd t) w begin;
      }

  pub refute-leaves : (d : Draft) → Leaves net w (refuted w net arena d)
  unfolding refuted raised_by
  refute-leaves d = go d.whole (judged w net arena d.length 0)
    where
      go : (a : Bool) (j : Option ℕ) → Leaves net w (cond a (raised_by w net j) (risen w Unlearnt))
      go true None = leaves-refl
      go true (Some m) = raise-leaves m
      go false j = leaves-refl
