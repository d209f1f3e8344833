-- The raise of the floor by a clause that is false there: what the search knows afterwards. Assumes nothing.
use mathlib.Core.Path.{◌≡◌, refl, sym, ap, ap₂, ◌∙◌, subst}
use mathlib.Core.Bool.{Bool, true, false, not}
use mathlib.Core.List.{List}
use mathlib.Core.Logic.{◌⊎◌, inl, inr}
use Prim.Native.Nat.{ℕ, suc, ◌+◌, ◌-◌, ◌*◌, ◌^◌, ◌≤◌}
use native.Mathlib.Omega.{arith}
use lib.Dec.{T, eqb}
use Rattle.memory.specs.declared.Netlist.{Netlist}
use Rattle.memory.specs.declared.Arena.{Arena}
use Rattle.memory.specs.declared.Draft.{Draft}
use Rattle.clauses.specs.Floor.{Floor, prefix}
use Rattle.reasons.specs.Claims.{Sound}
use Rattle.resolve.proofs.Sound.{Drafting}
use Rattle.floor.specs.declared.Refutation.{Refutation}
use Rattle.floor.specs.declared.Refutation.TheVariants.{Raised, NoHit, Unlearnt}
use Rattle.floor.specs.Place.{is_idle, refuted}
use Rattle.floor.proofs.Bits.{prefix-zeros}
use Rattle.floor.proofs.Rise.{bits, Claim}
use Rattle.floor.proofs.Leaves.{refute-leaves}
use Rattle.floor.proofs.False.{refute-claim}
use Rattle.learning.proofs.Standing.{Standing}
use Rattle.choices.specs.Begun.{Begun}

is_none : Refutation → Bool
is_none (Raised v) = false
is_none NoHit = true
is_none Unlearnt = false

not_none : {v : ℕ} → NoHit ≡ Raised v → ⊥
unfolding is_none
not_none e = subst T (ap is_none e) tt

not-none-either : NoHit ≡ Unlearnt → ⊥
unfolding is_none
not-none-either e = subst T (ap is_none e) tt

-- there is no hit, or no place below the new floor hits
module _ (hit : (ℕ → Bool) → Type 0) (hits : ℕ → Type 0) (net : Netlist) (begun : List ℕ) (arena : Arena) where
  abbrev pub Known : List ℕ → Refutation → Type 0
  Known u (Raised v) = Standing hit hits net begun arena u
  Known u NoHit = (x : ℕ) → hits x → ⊥
  Known u Unlearnt = Standing hit hits net begun arena u

module _ (hit : (ℕ → Bool) → Type 0) (hits : ℕ → Type 0) (val : ℕ → ℕ → Bool) (net : Netlist) (begun : List ℕ) (begin : Begun hit hits val net begun)
    (arena : Arena) (w : List ℕ) (d : Draft) (draft : Drafting hit net arena w d) (given : Standing hit hits net begun arena w) where
  pub refute-known : Known hit hits net begun arena (refuted w net arena d).words (refuted w net arena d).says
  unfolding is_idle
  refute-known =
      let c =
      refute-claim hit net arena hits val begin.free begin.small begin.bound begin.obeys begin.top w d draft given.clean
      given.floor in
      go (refuted w net arena d).says refl c.0 c.1
    where
      idle-begun : (j : ℕ) → is_idle w net.nodes j ≡ is_idle begun net.nodes j
      idle-begun j = ap₂ (λ (x y : ℕ). not (eqb x y)) (given.operand j 0 (omega arith)) (given.operand j 1 (omega arith))

      stands : ((refuted w net arena d).says ≡ NoHit → ⊥) → Sound hit net arena (refuted w net arena d).words → Floor hits (prefix (bits (refuted w net arena d).words net.nodes) net.free)
          → Standing hit hits net begun arena (refuted w net arena d).words
      stands some sound floor =
          let l = refute-leaves net arena begin.small w draft.sound.room draft.sound.within d in
          let c = bits (refuted w net arena d).words net.nodes in
          let n = net.free in
          let on : prefix (bits begun net.nodes) n ≤ prefix c n = omega (arith, given.from, l.rises some) in
          record {
            sound = sound;
            operand = λ v f h. l.operand v f h ∙ given.operand v f h;
            clean = λ v h p q x t.
                elim (l.still some (suc v) p q) [
                  | inl b ↦ given.clean v h b.0 b.1 x t
                  | inr b ↦
                      let e : v + (n - v) ≡ n = omega arith in
                      let z = prefix-zeros c v (n - v) (λ j g i. l.rest j b.0 (omega (arith, b.1)) (omega arith)) in
                      let at : prefix c n ≡ prefix c v * 2 ^ (n - v) = ap (prefix c) (sym e) ∙ z in
                      begin.spare v h (sym (idle-begun (suc v)) ∙ b.2) x (prefix c v) t (omega (arith, at, on)) (omega (arith, at, floor x t))
                ];
            floor = floor;
            from = on;
          }

      go : (r : Refutation) → (refuted w net arena d).says ≡ r → Claim hits net.free net.nodes (refuted w net arena d).words r → Sound hit net arena (refuted w net arena d).words
          → Known hit hits net begun arena (refuted w net arena d).words r
      go (Raised v) e c sound = stands (λ z. not_none (sym z ∙ e)) sound c
      go NoHit e c sound = c
      go Unlearnt e c sound = stands (λ z. not-none-either (sym z ∙ e)) sound c
