-- The levels of a sample written one after the other, over those that stood there. Assumes nothing.
use mathlib.Core.Path.{◌≡◌, sym, ◌∙◌, subst}
use mathlib.Core.List.{List, ◌∷◌, ◌++◌}
use Prim.Native.Nat.{ℕ, ◌+◌, ◌-◌, ◌*◌, ◌≤◌, ◌<◌}
use native.Mathlib.Omega.{arith}
use lib.ListN.{length, get_or}
use Rattle.output.specs.Output.{Room, Placed}
use Rattle.output.proofs.Output.{Rest, rest-start, rest-room, rest_more, rest_end}
use Rattle.vcd.specs.Text.{Level, level_byte, identifier, value_with, value_line, value_lines}
use Rattle.vcd.proofs.Parts.{values-more, values-none, values_length, value-length, with-level}
use Rattle.levels.specs.Levels.{after}
use Rattle.samples.specs.Passes.{Stands}
use Rattle.samples.proofs.Standing.{stands-next, stands-first, stands-byte}

-- a line whose character is that of a level
pub placed-level : {out out' : List ℕ} {at end : ℕ} (k : ℕ) {d : ℕ} (v : Level) → d ≡ level_byte v → Placed out at (value_with k d) end out'
    → Placed out at (value_line k v) end out'
placed-level {out} {out'} {at} {end} k v e p = subst (λ (u : List ℕ). Placed out at u end out') (with-level k v e) p

module _ (out₀ : List ℕ) (at n block : ℕ) (new old : ℕ → Level) where
  abbrev mixed : ℕ → Level
  mixed k = after block (old k) (new k)

  -- before wire k: its line and those after it are left, and the old ones stand there
  pub record Turn (k left : ℕ) (out : List ℕ) (end : ℕ) : Type 0 where
    pub rest : Rest out₀ at (value_lines mixed 0 n) out end (value_lines mixed k left)
    pub stands : 0 < block → Stands out end (value_lines old k left)

  pub turn-start : (0 < block → Stands out₀ at (value_lines old 0 n)) → Turn 0 n out₀ at
  turn-start s = record { rest = rest-start out₀ at (value_lines mixed 0 n); stands = s }

  module _ {k left end : ℕ} {out : List ℕ} (t : Turn k left out end) where
    -- no wire is left
    pub turn_end : left ≤ 0 → Placed out₀ at (value_lines mixed 0 n) end out
    turn_end l = rest_end (rw (values-none mixed k left l) at t.rest)

    module _ (l : 0 < left) where
      old-here : 0 < block → Stands out end (value_line k (old k) ++ value_lines old (k + 1) (left - 1))
      old-here b = rw (sym (values-more old k left l)) (t.stands b)

      -- the character that stands there
      pub turn_byte : 0 < block → get_or out end 0 ≡ level_byte (old k)
      unfolding value_line
      turn_byte b = stands-byte (level_byte (old k)) _ (stands-first (value_line k (old k)) (value_lines old (k + 1) (left - 1))
          (old-here b))

      pub turn-next : {end₂ : ℕ} {out₂ : List ℕ} → at + 4 * n ≤ length out₀ → Placed out end (value_line k (mixed k)) end₂ out₂
          → Turn (k + 1) (left - 1) out₂ end₂
      turn-next h p =
          let space : Room out₀ at (value_lines mixed 0 n) = omega (arith, values_length mixed 0 n) in
          let rest-here : Rest out₀ at (value_lines mixed 0 n) out end (value_line k (mixed k) ++ value_lines mixed (k + 1) (left - 1)) =
          rw (sym (values-more mixed k left l)) t.rest in
          let room = rest-room (value_line k (mixed k)) (value_lines mixed (k + 1) (left - 1)) space rest-here in
          record {
            rest = rest_more (value_line k (mixed k)) (value_lines mixed (k + 1) (left - 1)) space rest-here p;
            stands = λ b.
                stands-next (value_line k (old k)) (value_lines old (k + 1) (left - 1)) (old-here b) (value_line k (mixed k)) room
                (value-length k (mixed k) ∙ sym (value-length k (old k))) p;
          }
