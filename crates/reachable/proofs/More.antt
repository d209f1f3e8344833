-- A smaller bound only cuts the search off: the layers do not know the bound. Assumes nothing.
use mathlib.Core.Path.{◌≡◌, refl, sym, ◌∙◌}
use mathlib.Core.Bool.{Bool, true, false, cond}
use mathlib.Core.List.{List}
use mathlib.Core.Logic.{◌⊎◌, inl, inr, ⊎_elim}
use mathlib.Core.Option.{Option, none, some}
use Prim.Native.Nat.{ℕ, zero, suc, ◌+◌, ◌≤◌}
use native.Mathlib.Omega.{arith}
use lib.Dec.{leb, eqb}
use lib.ListN.{length}
use Rattle.machine.specs.Machine.{Machine}
use Rattle.machine.specs.Layers as spec
use Rattle.machine.specs.Layers.{
  Entry,
  started,
  slot_place,
  slot_hit,
  expanded,
  layer_slots,
  least_below,
  Layered,
  hit,
  clear,
  never,
  gave_up,
  layers_from,
}
use Rattle.influence.specs.Part.{Part}
use Rattle.transitions.specs.Transitions.{machine_of}
use Rattle.reachable.specs.declared.Limit.{Limit}
use Rattle.reachable.specs.Quota.{quota}
use Rattle.reachable.specs.Layers.{layered}

-- what is said by a smaller bound: clear, or what a larger one says
abbrev pub Cut : Layered → Layered → Type 0
Cut a b = (a ≡ clear) ⊎ (a ≡ b)

module _ (m : Machine) (q : ℕ → ℕ) where
  from_cut : (n k t : ℕ) (es : List Entry) (lo : ℕ) → n ≤ k → Cut (layers_from m q n t es lo) (layers_from m q k t es lo)
  unfolding layers_from
  from_cut zero k t es lo l = inl refl
  from_cut (suc n) zero t es lo l = absurd (omega arith)
  from_cut (suc n) (suc k) t es lo l =
      go (least_below (layer_slots m es lo) (slot_hit m es lo)) (leb (length (expanded m es lo (layer_slots m es lo))) (q t))
      (eqb (length (expanded m es lo (layer_slots m es lo))) (length es))
      (from_cut n k (suc t) (expanded m es lo (layer_slots m es lo)) (length es) (omega arith))
    where
      go : (o : Option ℕ) (a b : Bool)
          → Cut (layers_from m q n (suc t) (expanded m es lo (layer_slots m es lo)) (length es))
          (layers_from m q k (suc t) (expanded m es lo (layer_slots m es lo)) (length es))
          → Cut
          (elim o [
            | some z ↦ hit t (slot_place m es lo z)
            | none ↦ cond a
                (cond b (never t) (layers_from m q n (suc t) (expanded m es lo (layer_slots m es lo)) (length es))) (gave_up (suc t))
          ])
          (elim o [
            | some z ↦ hit t (slot_place m es lo z)
            | none ↦ cond a
                (cond b (never t) (layers_from m q k (suc t) (expanded m es lo (layer_slots m es lo)) (length es))) (gave_up (suc t))
          ])
      go (some z) a b r = inr refl
      go none true true r = inr refl
      go none true false r = r
      go none false b r = inr refl

-- up to a smaller bound there is nothing, or the same is said
pub layered-cut : (c : Part) (b first : ℕ) (limit : Limit) (j k : ℕ) → j ≤ k → Cut (layered c b first limit j) (layered c b first limit k)
unfolding layered spec.layered
layered-cut c b first limit j k l =
    go (leb (length (started (machine_of c b) (machine_of c b).starts)) (quota c first limit 0))
  where
    go : (a : Bool)
        → Cut
        (cond a (layers_from (machine_of c b) (quota c first limit) (j + 1) 0 (started (machine_of c b) (machine_of c b).starts) 0)
        (gave_up 0))
        (cond a (layers_from (machine_of c b) (quota c first limit) (k + 1) 0 (started (machine_of c b) (machine_of c b).starts) 0)
        (gave_up 0))
    go true =
        from_cut (machine_of c b) (quota c first limit) (j + 1) (k + 1) 0 (started (machine_of c b) (machine_of c b).starts) 0 (omega arith)
    go false = inr refl

-- what is found up to a bound is found up to every larger one, and so is that no frame has a hit, and where the search is given up
pub layered-more : (c : Part) (b first : ℕ) (limit : Limit) (j k : ℕ) {o : Layered} → j ≤ k → (o ≡ clear → ⊥)
    → layered c b first limit j ≡ o → layered c b first limit k ≡ o
layered-more c b first limit j k l d e =
    ⊎_elim (λ a. absurd (d (sym e ∙ a))) (λ a. sym a ∙ e) (layered-cut c b first limit j k l)
