-- What a search knows at every step: its words are sound, no place below the floor hits, the floor is no lower than at its beginning, and
-- gates are those of the words then.
-- Assumes nothing.
use mathlib.Core.Path.{◌≡◌, refl, sym, ap, ◌∙◌, subst}
use mathlib.Core.Bool.{Bool, false, cond}
use mathlib.Core.List.{List}
use Prim.Native.Nat.{ℕ, suc, ◌≤◌, ◌<◌}
use lib.Dec.{eqb}
use Rattle.aiger.specs.Frames.{free_bit}
use Rattle.memory.specs.Record.{field}
use Rattle.memory.specs.declared.Netlist.{Netlist}
use Rattle.memory.specs.declared.Arena.{Arena}
use Rattle.clauses.specs.Floor.{Floor, prefix}
use Rattle.reasons.specs.Claims.{Same, Sound}
use Rattle.reasons.proofs.Valid.{sound-same}
use Rattle.floor.specs.Place.{bit_of}
use Rattle.floor.proofs.Bits.{prefix_same}
use Rattle.floor.proofs.Rise.{bits}
use Rattle.learning.proofs.Keeps.{Keeps, keeps_same}

module _ (hit : (ℕ → Bool) → Type 0) (hits : ℕ → Type 0) (net : Netlist) (begun : List ℕ) where
  pub record Standing (arena : Arena) (w : List ℕ) : Type 0 where
    pub sound : Sound hit net arena w
    pub operand : (v f : ℕ) → f < 2 → field w net.nodes v f ≡ field begun net.nodes v f
    pub clean : (v : ℕ) → v < net.free → (bit_of w net.nodes (suc v) ≡ 0 → ⊥) → (bit_of w net.nodes (suc v) ≡ 1 → ⊥) → (x : ℕ) → hits x
        → free_bit net.free x v ≡ false
    pub floor : Floor hits (prefix (bits w net.nodes) net.free)
    pub from : prefix (bits begun net.nodes) net.free ≤ prefix (bits w net.nodes) net.free

  -- operands and bits stay, and the words are sound
  pub stand-on : {arena to : Arena} {w u : List ℕ} → Standing arena w → Keeps net w u → Sound hit net to u → Standing to u
  stand-on {w = w} {u = u} s k sound =
      let same =
      prefix_same (bits w net.nodes) (bits u net.nodes) net.free (λ j h. ap (λ (d : ℕ). cond (eqb d 1) 1 0) (sym (k.bit j))) in
      record {
        sound = sound;
        operand = λ v f h. k.operand v f h ∙ s.operand v f h;
        clean = λ v h p q x t. s.clean v h (λ e. p (k.bit (suc v) ∙ e)) (λ e. q (k.bit (suc v) ∙ e)) x t;
        floor = subst (Floor hits) same s.floor;
        from = subst (λ (p : ℕ). prefix (bits begun net.nodes) net.free ≤ p) same s.from;
      }

  pub stand-same : {arena : Arena} {w u : List ℕ} → Standing arena w → Same net arena w u → Standing arena u
  stand-same s e = stand-on s (keeps_same net e) (sound-same e s.sound)
