-- The layers of states as a stage: what they say of the frames up to a bound is what the bound lets be seen of all frames. Assumes nothing.
use mathlib.Core.Path.{◌≡◌, refl, sym, ap, ◌∙◌}
use mathlib.Core.Bool.{Bool, true, false, cond}
use mathlib.Core.List.{List}
use mathlib.Core.Option.{Option, none, some}
use Prim.Native.Nat.{ℕ, zero, suc, ◌+◌, ◌≤◌, max}
use native.Mathlib.Decide.{dec_lt}
use native.Mathlib.Omega.{arith}
use lib.Dec.{eqb, leb}
use lib.ListN.{length}
use Rattle.aiger.specs.Search.{Question}
use Rattle.machine.specs.Machine.{Machine}
use Rattle.machine.specs.Layers.{Entry, started, slot_place, slot_hit, expanded, layer_slots, least_below, Layered, layers_from, layered}
use Rattle.stages.specs.Endings.{Ending, Cut, Staged, Stage, cut_at, any_budget, NoneBefore, EndsRight, FromOn, Sound}
use Rattle.stages.specs.Layers.{of_layers, from_start, layers_ending}
use Rattle.stages.proofs.Lists.{from-earlier, any-budget}
use Rattle.stages.proofs.Choice.{past_bound}

-- ---- an ending that is right from frame 0 on is right from any frame before which there is no hit

module _ (q : Question) where
  start_right : (e : Ending) → EndsRight q 0 e → (first : ℕ) → first ≤ 256 → NoneBefore q first → EndsRight q first (from_start e first)
  start_right (Ending.hit t x) (a, b, n, h) first l m =
      let early : suc t ≤ first → ⊥ = λ less. m t less x h.fits h.hits in
      (omega arith, b, n, h)
  start_right (Ending.never t) (a, b, n) first l m = (omega arith, omega arith, n)
  start_right Ending.clear h first l m = h
  start_right (Ending.gave_up t) (a, b, n) first l m = (omega arith, omega arith, later)
    where
      later : NoneBefore q (max t first)
      later u less = elim (dec_lt u t) [ yes h ↦ n u h | no h ↦ m u (omega arith) ]

  -- the stage is one that the list may have, where the layers are right
  pub layers-sound : (m : Machine) (quota : ℕ → ℕ → ℕ) → ((first : ℕ) → EndsRight q 0 (of_layers (layered m (quota first) 256)))
      → Sound q (any_budget (layers_ending m quota))
  unfolding layers_ending
  layers-sound m quota h =
      any-budget q (layers_ending m quota) (λ first. start_right (of_layers (layered m (quota first) 256)) (h first) first)

-- ---- the bound

module _ (m : Machine) (quota : ℕ → ℕ) where
  abbrev all : List Entry → ℕ → List Entry
  all es lo = expanded m es lo (layer_slots m es lo)

  -- one frame, where o is its first slot with a hit
  abbrev turn : ℕ → List Entry → ℕ → Option ℕ → Bool → Bool → Layered → Layered
  turn t es lo o few same later =
      elim o [ some z ↦ Layered.hit t (slot_place m es lo z) | none ↦ cond few (cond same (Layered.never t) later) (Layered.gave_up (suc t)) ]

  layers-from : (n t : ℕ) (es : List Entry) (lo : ℕ) → FromOn t (Staged.ends (of_layers (layers_from m quota n t es lo)))
  unfolding layers_from
  layers-from zero t es lo = tt
  layers-from (suc n) t es lo =
      go (least_below (layer_slots m es lo) (slot_hit m es lo)) (leb (length (all es lo)) (quota t)) (eqb (length (all es lo)) (length es))
      (layers_from m quota n (suc t) (all es lo) (length es))
      (layers-from n (suc t) (all es lo) (length es))
    where
      go : (o : Option ℕ) (few same : Bool) (later : Layered) → FromOn (suc t) (Staged.ends (of_layers later))
          → FromOn t (Staged.ends (of_layers (turn t es lo o few same later)))
      go (some z) few same later h = omega arith
      go none false same later h = omega arith
      go none true true later h = omega arith
      go none true false later h = from-earlier t (suc t) (omega arith) (Staged.ends (of_layers later)) h

  module _ (k : ℕ) where
    cut-from : (n n' t : ℕ) (es : List Entry) (lo : ℕ) → t + n ≡ k + 1 → n ≤ n'
        → cut_at k (of_layers (layers_from m quota n' t es lo)) ≡ cut_at k (of_layers (layers_from m quota n t es lo))
    unfolding layers_from
    cut-from zero n' t es lo e l = past_bound k t (omega arith) (Staged.ends (of_layers (layers_from m quota n' t es lo))) (layers-from n' t es lo)
    cut-from (suc n) zero t es lo e l = absurd (omega arith)
    cut-from (suc n) (suc n') t es lo e l =
        go (least_below (layer_slots m es lo) (slot_hit m es lo)) (leb (length (all es lo)) (quota t)) (eqb (length (all es lo)) (length es))
        (layers_from m quota n' (suc t) (all es lo) (length es)) (layers_from m quota n (suc t) (all es lo) (length es))
        (cut-from n n' (suc t) (all es lo) (length es) (omega arith) (omega arith))
      where
        go : (o : Option ℕ) (few same : Bool) (x y : Layered) → cut_at k (of_layers x) ≡ cut_at k (of_layers y)
            → cut_at k (of_layers (turn t es lo o few same x)) ≡ cut_at k (of_layers (turn t es lo o few same y))
        go (some z) few same x y h = refl
        go none false same x y h = refl
        go none true true x y h = refl
        go none true false x y h = h

    -- the layers up to bound k show what bound k lets be seen of all of them
    pub layers-cut : k ≤ 255 → cut_at k (of_layers (layered m quota 256)) ≡ cut_at k (of_layers (layered m quota (k + 1)))
    unfolding layered
    layers-cut small = go (leb (length (started m m.starts)) (quota 0))
      where
        go : (p : Bool) → cut_at k (of_layers (cond p (layers_from m quota 256 0 (started m m.starts) 0) (Layered.gave_up 0)))
            ≡ cut_at k (of_layers (cond p (layers_from m quota (k + 1) 0 (started m m.starts) 0) (Layered.gave_up 0)))
        go true = cut-from (k + 1) 256 0 (started m m.starts) 0 (omega arith) (omega arith)
        go false = refl
