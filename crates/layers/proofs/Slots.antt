-- The slots of a layer, 64 at a time. Assumes nothing.
use mathlib.Core.Path.{◌≡◌, refl, sym, ap, ap₂, ◌∙◌, subst}
use mathlib.Core.Bool.{Bool, true, false, cond, ◌&&◌}
use mathlib.Core.List.{List}
use mathlib.Core.Option.{Option, none, some}
use Prim.Native.Nat.{ℕ, zero, suc, ◌+◌, ◌-◌, ◌*◌, ◌/◌, ◌%◌, ◌^◌, ◌≤◌, ◌<◌, min}
use native.Mathlib.Nat.{mod-lt, div-add-mod', mul_assoc, mul_comm}
use native.Mathlib.Numerals.{add-one}
use native.Mathlib.Decide.{dec_lt}
use native.Mathlib.Omega.{arith}
use borrow.Author.Tests.{ltb-true, ltb-false, lt-ltb, le-ltb}
use lib.Dec.{T, ltb, ltb→lt}
use lib.ListN.{length, get_or}
use lib.Pow.{pow_pos, pow_mono, pow-add}
use Rattle.aiger.proofs.Tests.{T_true, and, and_left, and_right}
use Rattle.frames.specs.Lanes.{hit_in}
use Rattle.machine.specs.Machine.{Machine}
use Rattle.machine.specs.Layers.{Entry, state_of, place_of, meet, slot_entry, slot_place, slot_step, slot_hit, expanded, layer_slots, least_below}
use Rattle.machine.proofs.Expand.{over, rest, under, quotient-below}
use Rattle.machine.proofs.First.{first-is, none_is}
use Rattle.influence.specs.Part.{Part}
use Rattle.transitions.specs.Transitions.{values_in, next_in, machine_of}
use Rattle.layers.specs.Rows.{met_rows}

module _ (c : Part) (b : ℕ) where
  abbrev W : ℕ
  W = length c.circuit.inputs

  abbrev rows : ℕ
  rows = 2 ^ W

  abbrev blocks : ℕ
  blocks = 2 ^ (W - 6)

  -- how many of the 64 rows of a block are rows
  abbrev n : ℕ
  n = min 64 (2 ^ W)

  abbrev m : Machine
  m = machine_of c b

  -- fewer than 64 rows, or whole words
  one_block : W < 6 → (blocks ≡ 1) × (rows < 64)
  one_block l =
      let e : W - 6 ≡ 0 = omega arith in
      let a : 2 ^ W ≤ 2 ^ 5 = pow_mono {i = W} {j = 5} (omega arith) in
      (ap (λ (k : ℕ). 2 ^ k) e, omega arith)

  whole-blocks : (W < 6 → ⊥) → rows ≡ 64 * blocks
  whole-blocks l =
      let e : W ≡ 6 + (W - 6) = omega arith in
      ap (λ (k : ℕ). 2 ^ k) e ∙ pow-add 2 6 (W - 6)

  -- which lanes are rows
  pub row-in : (k p : ℕ) → k < blocks → p < n → k * 64 + p < rows
  row-in k p l h = elim (dec_lt W 6) [
    | yes d ↦ let o = one_block d in omega (arith, o.0, o.1)
    | no d ↦ let o = whole-blocks d in omega arith
  ]

  pub row_out : (k p : ℕ) → k < blocks → n ≤ p → p < 64 → rows ≤ k * 64 + p
  row_out k p l h q = elim (dec_lt W 6) [
    | yes d ↦ let o = one_block d in omega (arith, o.0, o.1)
    | no d ↦ let o = whole-blocks d in let z = pow_pos (W - 6) in absurd (omega arith)
  ]

  pub rows_in : (k : ℕ) → k < blocks → 64 * k + n ≤ rows
  rows_in k l = elim (dec_lt W 6) [
    | yes d ↦ let o = one_block d in omega (arith, o.0, o.1)
    | no d ↦ let o = whole-blocks d in omega arith
  ]

  -- ---- slot 64 q + p is lane p of block q
  module _ (q : ℕ) where
    abbrev block : ℕ
    block = q % blocks

    block_in : block < blocks
    block_in = mod-lt q (pow_pos (W - 6))

    slot-split : (p : ℕ) → 64 * q + p ≡ q / blocks * (64 * blocks) + (block * 64 + p)
    slot-split p =
        let a : q / blocks * blocks + q % blocks ≡ q = div-add-mod' q blocks in
        let d : q / blocks * (64 * blocks) ≡ 64 * (q / blocks * blocks) = sym (mul_assoc (q / blocks) 64 blocks)
        ∙ ap (λ (x : ℕ). x * blocks) (mul_comm (q / blocks) 64) ∙ mul_assoc 64 (q / blocks) blocks in
        omega arith

    slot_small : (p : ℕ) → p < 64 → block * 64 + p < 64 * blocks
    slot_small p l = let k = block_in in omega arith

    slot-over : (p : ℕ) → p < 64 → (64 * q + p) / (64 * blocks) ≡ q / blocks
    slot-over p l = ap (λ (x : ℕ). x / (64 * blocks)) (slot-split p) ∙ over (q / blocks) (block * 64 + p) (64 * blocks) (slot_small p l)

    slot-rest : (p : ℕ) → p < 64 → (64 * q + p) % (64 * blocks) ≡ block * 64 + p
    slot-rest p l = ap (λ (x : ℕ). x % (64 * blocks)) (slot-split p) ∙ rest (q / blocks) (block * 64 + p) (64 * blocks) (slot_small p l)

    module _ (es : List Entry) (lo : ℕ) where
      abbrev e : ℕ
      e = lo + q / blocks

      pub place_at : (p : ℕ) → p < 64 → slot_place m es lo (64 * q + p) ≡ place_of es e * rows + (block * 64 + p)
      unfolding machine_of
      place_at p l = ap₂ (λ (x : ℕ) (y : ℕ). place_of es (lo + x) * rows + y) (slot-over p l) (slot-rest p l)

      step-at : (p : ℕ) → p < 64 → slot_step m es lo (64 * q + p) ≡ cond (ltb (block * 64 + p) rows)
          (next_in c (state_of es e) (block * 64 + p)) none
      unfolding machine_of
      step-at p l = ap₂ (λ (x : ℕ) (y : ℕ). cond (ltb y rows) (next_in c (state_of es (lo + x)) y) none) (slot-over p l) (slot-rest p l)

      hit-at : (p : ℕ) → p < 64 → slot_hit m es lo (64 * q + p) ≡ (ltb (block * 64 + p) rows && hit_in c.circuit b
          (values_in c (state_of es e) (block * 64 + p)))
      unfolding machine_of
      hit-at p l = ap₂ (λ (x : ℕ) (y : ℕ). ltb y rows && hit_in c.circuit b (values_in c (state_of es (lo + x)) y)) (slot-over p l)
          (slot-rest p l)

      -- ---- the next states of a block
      abbrev next : ℕ → Option ℕ
      next p = next_in c (state_of es e) (block * 64 + p)

      abbrev places : ℕ → ℕ
      places p = place_of es e * rows + (64 * block + p)

      step_in : (p : ℕ) → p < n → slot_step m es lo (64 * q + p) ≡ next p
      step_in p l =
          step-at p (omega arith) ∙ ap (λ (t : Bool). cond t (next p) none) (lt-ltb (block * 64 + p) rows (row-in block p block_in l))

      step-out : (p : ℕ) → n ≤ p → p < 64 → slot_step m es lo (64 * q + p) ≡ none
      step-out p h l =
          step-at p l ∙ ap (λ (t : Bool). cond t (next p) none) (le-ltb (block * 64 + p) rows (row_out block p block_in h l))

      expand-part : (p : ℕ) → p ≤ 64 → expanded m es lo (64 * q + p) ≡ met_rows next places (min p n) (expanded m es lo (64 * q))
      unfolding expanded met_rows meet
      expand-part zero l = ap (expanded m es lo) {x = 64 * q + 0} {y = 64 * q} (omega arith)
          ∙ ap (λ (k : ℕ). met_rows next places k (expanded m es lo (64 * q))) {x = 0} {y = min 0 n} (omega arith)
      expand-part (suc p) l = ap (expanded m es lo) {x = 64 * q + suc p} {y = suc (64 * q + p)} (omega arith)
          ∙ go (dec_lt p n) (expand-part p (omega arith))
        where
          go : Dec (p < n) → expanded m es lo (64 * q + p) ≡ met_rows next places (min p n) (expanded m es lo (64 * q))
              → expanded m es lo (suc (64 * q + p)) ≡ met_rows next places (min (suc p) n) (expanded m es lo (64 * q))
          go (yes h) r =
              let u : min p n ≡ p = omega arith in
              let v : min (suc p) n ≡ suc p = omega arith in
              let g : slot_place m es lo (64 * q + p) ≡ places p = place_at p (omega arith) ∙ omega arith in
              ap₂ (λ (o : Option ℕ) (y : ℕ). meet o y (expanded m es lo (64 * q + p))) (step_in p h) g
              ∙ ap (meet (next p) (places p)) (r ∙ ap (λ (k : ℕ). met_rows next places k (expanded m es lo (64 * q))) u)
              ∙ ap (λ (k : ℕ). met_rows next places k (expanded m es lo (64 * q))) (sym v)
          go (no h) r =
              let v : min p n ≡ min (suc p) n = omega arith in
              ap (λ (o : Option ℕ). meet o (slot_place m es lo (64 * q + p)) (expanded m es lo (64 * q + p)))
              (step-out p (omega arith) (omega arith))
              ∙ r ∙ ap (λ (k : ℕ). met_rows next places k (expanded m es lo (64 * q))) v

      pub expand-block : expanded m es lo (64 * (q + 1)) ≡ met_rows next places n (expanded m es lo (64 * q))
      expand-block =
          let v : min 64 n ≡ n = omega arith in
          ap (expanded m es lo) {x = 64 * (q + 1)} {y = 64 * q + 64} (omega arith) ∙ expand-part 64 (omega arith)
          ∙ ap (λ (k : ℕ). met_rows next places k (expanded m es lo (64 * q))) v

      -- ---- the hits of a block
      module _ (none_yet : (z : ℕ) → z < 64 * q → T (slot_hit m es lo z) → ⊥) (r : ℕ)
          (before : (p : ℕ) → p < r → T (hit_in c.circuit b (values_in c (state_of es e) (block * 64 + p))) → ⊥) where
        -- none before the first row
        quiet-part : (z : ℕ) → z < 64 * q + r → z < 64 * q + 64 → T (slot_hit m es lo z) → ⊥
        quiet-part z l k h = elim (dec_lt z (64 * q)) [
          | yes d ↦ none_yet z d h
          | no d ↦
              let p = z - 64 * q in
              let g : 64 * q + p ≡ z = omega arith in
              before p (omega arith)
              (and_right (ltb (block * 64 + p) rows) (hit_in c.circuit b (values_in c (state_of es e) (block * 64 + p)))
              (subst T (ap (slot_hit m es lo) (sym g) ∙ hit-at p (omega arith)) h))
        ]

        -- none at all, where the first is no row
        pub quiet-block : n ≤ r → (z : ℕ) → z < 64 * (q + 1) → T (slot_hit m es lo z) → ⊥
        quiet-block w z l h = elim (dec_lt z (64 * q + r)) [
          | yes d ↦ quiet-part z d (omega arith) h
          | no d ↦
              let p = z - 64 * q in
              let g : 64 * q + p ≡ z = omega arith in
              let t = and_left (ltb (block * 64 + p) rows) (hit_in c.circuit b (values_in c (state_of es e) (block * 64 + p)))
              (subst T (ap (slot_hit m es lo) (sym g) ∙ hit-at p (omega arith)) h) in
              omega (arith, ltb→lt (block * 64 + p) rows t, row_out block p block_in (omega arith) (omega arith))
        ]

        -- the first row is the first slot
        pub first_slot : r < n → T (hit_in c.circuit b (values_in c (state_of es e) (block * 64 + r))) → (total : ℕ) → 64 * q + r < total
            → least_below total (slot_hit m es lo) ≡ some (64 * q + r)
        first_slot w h total l =
            let a : T (ltb (block * 64 + r) rows) = T_true (lt-ltb (block * 64 + r) rows (row-in block r block_in w)) in
            first-is (slot_hit m es lo) total (64 * q + r) l
            (subst T (sym (hit-at r (omega arith))) (and (ltb (block * 64 + r) rows)
            (hit_in c.circuit b (values_in c (state_of es e) (block * 64 + r))) a h))
            (λ y k. quiet-part y k (omega arith))

  -- the slots of a layer
  pub layer-total : (es : List Entry) (lo : ℕ) → layer_slots m es lo ≡ 64 * ((length es - lo) * blocks)
  unfolding machine_of
  layer-total es lo =
      let k = length es - lo in
      sym (mul_assoc k 64 blocks) ∙ ap (λ (x : ℕ). x * blocks) (mul_comm k 64) ∙ mul_assoc 64 k blocks
