-- Asking a layer, block after block. Assumes nothing.
use mathlib.Core.Path.{◌≡◌, refl, sym, ap, ap₂, ◌∙◌, subst}
use mathlib.Core.List.{List}
use mathlib.Core.Option.{Option, none, some}
use Prim.Native.Nat.{ℕ, zero, suc, ◌+◌, ◌-◌, ◌*◌, ◌/◌, ◌%◌, ◌^◌, ◌≤◌, ◌<◌, min}
use native.Mathlib.Nat.{mod-lt}
use native.Mathlib.Omega.{arith}
use lib.Dec.{T}
use lib.ListN.{length, get_or}
use lib.Pow.{pow_pos}
use Rattle.frames.specs.Lanes.{hit_in}
use Rattle.machine.specs.Layers.{Entry, state_of, place_of, slot_hit, slot_place, expanded, layer_slots, least_below}
use Rattle.machine.proofs.Expand.{quotient-below}
use Rattle.machine.proofs.First.{none_is}
use Rattle.std.specs.Prelude.{Some, None}
use Rattle.states.specs.declared.Table.{Table}
use Rattle.states.specs.Number.{number_at}
use Rattle.states.specs.Table.{Tally, Kept, Fits, count_of, TallyFits}
use Rattle.states.specs.Trace.{Trace, Holds}
use Rattle.states.proofs.Laws.{state-kept, trace-kept, holds-next}
use Rattle.influence.specs.Part.{Part, Closed}
use Rattle.transitions.specs.Transitions.{values_in, next_in, machine_of}
use Rattle.layers.specs.Rows.{met_rows, RowsMet, FirstRow, BlockMet}
use Rattle.layers.specs.Asked.{AskedOf}
use Rattle.layers.specs.declared.Asked.{Asked}
use Rattle.layers.specs.declared.Asked.TheVariants.{Hit, Next, Full}
use Rattle.layers.proofs.Slots.{row-in, rows_in, place_at, expand-block, quiet-block, first_slot, layer-total}

-- the answer where no block is left
abbrev pub asked_of : Tally → Asked
asked_of (Some n) = Next n
asked_of None = Full

module _ (c : Part) (b lo hi : ℕ) (tab : Table) (quota : ℕ) (r₀ : List ℕ) where
  abbrev rows : ℕ
  rows = 2 ^ length c.circuit.inputs

  abbrev blocks : ℕ
  blocks = 2 ^ (length c.circuit.inputs - 6)

  -- the first q blocks are asked
  pub record Asking (q met : ℕ) (r : List ℕ) : Type 0 where
    pub longer : hi ≤ met
    pub fits : Fits tab quota met r
    pub words : Kept tab.width hi r₀ r
    pub holds : (t : ℕ) (es : List Entry) → Holds (2 ^ length c.circuit.inputs) t lo tab quota hi r₀ es
        → Holds (2 ^ length c.circuit.inputs) (suc t) (length es) tab quota met r (expanded (machine_of c b) es lo (64 * q))
    pub quiet : (t : ℕ) (es : List Entry) → Holds (2 ^ length c.circuit.inputs) t lo tab quota hi r₀ es
        → (z : ℕ) → z < 64 * q → T (slot_hit (machine_of c b) es lo z) → ⊥

  module _ (low : lo ≤ hi) (high : hi ≤ quota) where
    pub asking-start : Fits tab quota hi r₀ → Asking 0 hi r₀
    unfolding expanded
    asking-start f =
        record {
          longer = omega arith;
          fits = f;
          words = λ i f l a d. refl;
          holds = λ t es h. holds-next (suc t) high h;
          quiet = λ t es h z l. absurd (omega arith);
        }

    -- the entry of block q
    pub entry_in : (q : ℕ) → q < (hi - lo) * blocks → lo + q / blocks < hi
    entry_in q l = omega (arith, quotient-below q (hi - lo) blocks l)

    module _ {q met : ℕ} {r : List ℕ} (k : Asking q met r) (l : q < (hi - lo) * blocks) (s : ℕ)
        (e : s ≡ number_at r ((tab.width + 4) * (lo + q / blocks) + 4) tab.width)
        (values : List ℕ) (p : ℕ) (f : FirstRow c b s (q % blocks) values p) where
      state-is : (t : ℕ) (es : List Entry) → Holds rows t lo tab quota hi r₀ es → s ≡ state_of es (lo + q / blocks)
      state-is t es h =
          let i = entry_in q l in
          e ∙ state-kept tab.width hi r₀ r k.words (lo + q / blocks) i
          ∙ (h.stored high).held.states (lo + q / blocks) (omega (arith, h.counted high))

      before : (t : ℕ) (es : List Entry) → Holds rows t lo tab quota hi r₀ es → (y : ℕ) → y < p
          → T (hit_in c.circuit b (values_in c (state_of es (lo + q / blocks)) (q % blocks * 64 + y))) → ⊥
      before t es h y yl x =
          f.before y yl (subst (λ (z : ℕ). T (hit_in c.circuit b (values_in c z (q % blocks * 64 + y)))) (sym (state-is t es h)) x)

      trace : (t : ℕ) (es : List Entry) → Holds rows t lo tab quota hi r₀ es
          → Trace rows tab.width r t (lo + q / blocks) (place_of es (lo + q / blocks))
      trace t es h =
          let i = entry_in q l in
          trace-kept rows tab.width r₀ r hi k.words t (lo + q / blocks) (place_of es (lo + q / blocks)) i
          (h.placed high (lo + q / blocks) (omega arith) (omega (arith, h.counted high)))

      pub asking-more : Closed c b → min 64 (2 ^ length c.circuit.inputs) ≤ p → {met₂ : ℕ} {r₂ : List ℕ}
          → BlockMet c values tab quota met (lo + q / blocks) (q % blocks) r met₂ r₂ → Asking (q + 1) met₂ r₂
      asking-more closed w {met₂} {r₂} bm =
          let a = bm b s closed f.valued in
          let i = entry_in q l in
          let n = min 64 (2 ^ length c.circuit.inputs) in
          record {
            longer = omega (arith, k.longer, a.longer);
            fits = a.fits;
            words = λ x y u v z. a.words x y (omega (arith, k.longer)) v z ∙ k.words x y u v z;
            holds = λ t es h.
                let E = lo + q / blocks in
                let x = place_of es E in
                let y = a.holds rows t (length es) x (expanded (machine_of c b) es lo (64 * q)) (k.holds t es h) (omega (arith, k.longer))
                (rows_in c b (q % blocks) (mod-lt q (pow_pos (length c.circuit.inputs - 6)))) (trace t es h) in
                subst (Holds rows (suc t) (length es) tab quota met₂ r₂)
                (ap (λ (z : ℕ). met_rows (λ v. next_in c z (q % blocks * 64 + v)) (λ v. x * rows + (64 * (q % blocks) + v)) n
                (expanded (machine_of c b) es lo (64 * q))) (state-is t es h)
                ∙ sym (expand-block c b q es lo)) y;
            quiet = λ t es h. quiet-block c b q es lo (k.quiet t es h) p (before t es h) w;
          }

      pub asking-hit : p < min 64 (2 ^ length c.circuit.inputs) → (t : ℕ) (es : List Entry) → Holds rows t lo tab quota hi r₀ es
          → AskedOf c b t lo tab quota r es (Hit (lo + q / blocks) (64 * (q % blocks) + p))
      unfolding AskedOf
      asking-hit w t es h =
          let i = entry_in q l in
          let E = lo + q / blocks in
          let g = h.counted high in
          let lt : layer_slots (machine_of c b) es lo ≡ 64 * ((hi - lo) * blocks) = layer-total c b es lo
          ∙ ap (λ (x : ℕ). 64 * ((x - lo) * blocks)) g in
          let small : p < 64 = omega arith in
          let here : T (hit_in c.circuit b (values_in c (state_of es E) (q % blocks * 64 + p))) = subst
          (λ (z : ℕ). T (hit_in c.circuit b (values_in c z (q % blocks * 64 + p)))) (state-is t es h) (f.here small) in
          let ri = row-in c b (q % blocks) p (mod-lt q (pow_pos (length c.circuit.inputs - 6))) w in (
            64 * q + p,
            first_slot c b q es lo (k.quiet t es h) p (before t es h) w here (layer_slots (machine_of c b) es lo) (omega arith),
            place_of es E,
            trace t es h,
            omega arith,
            place_at c b q es lo p small ∙ omega arith,
            omega arith,
          )

    pub asking-end : {q : ℕ} {r : List ℕ} (met : Tally) → Asking q (count_of quota met) r → TallyFits quota met → q ≡ (hi - lo) * blocks
        → (t : ℕ) (es : List Entry) → Holds rows t lo tab quota hi r₀ es → AskedOf c b t lo tab quota r es (asked_of met)
    unfolding AskedOf
    asking-end {q} {r} met k w e t es h = go met k w
      where
        lt : 64 * q ≡ layer_slots (machine_of c b) es lo
        lt = ap (λ (x : ℕ). 64 * x) e ∙ sym (layer-total c b es lo ∙ ap (λ (x : ℕ). 64 * ((x - lo) * blocks)) (h.counted high))

        quiet : {n : ℕ} → Asking q n r → least_below (layer_slots (machine_of c b) es lo) (slot_hit (machine_of c b) es lo) ≡ none
        quiet k = none_is (slot_hit (machine_of c b) es lo) (layer_slots (machine_of c b) es lo) (λ z zl. k.quiet t es h z (omega (arith, lt)))

        holds : {n : ℕ} → Asking q n r → Holds rows (suc t) (length es) tab quota n r (expanded (machine_of c b) es lo (layer_slots
            (machine_of c b) es lo))
        holds {n} k = subst (λ (x : ℕ). Holds rows (suc t) (length es) tab quota n r (expanded (machine_of c b) es lo x)) lt (k.holds t
            es h)

        go : (met : Tally) → Asking q (count_of quota met) r → TallyFits quota met → AskedOf c b t lo tab quota r es (asked_of met)
        go (Some n) k w = (quiet k, holds k, w)
        go None k w = (quiet k, holds k)
