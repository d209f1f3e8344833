-- The search by layers, frame after frame. Assumes nothing.
use mathlib.Core.Path.{◌≡◌, refl, sym, ap, ap₂, ◌∙◌}
use mathlib.Core.Bool.{Bool, true, cond}
use mathlib.Core.List.{List}
use mathlib.Core.Option.{Option, none, some}
use Prim.Native.Nat.{ℕ, suc, ◌+◌, ◌-◌, ◌*◌, ◌^◌, ◌≤◌, ◌<◌}
use native.Mathlib.Numerals.{add-one}
use native.Mathlib.Omega.{arith}
use borrow.Author.Tests.{le-leb, lt-leb, eq-eqb, ne_eqb}
use lib.Dec.{leb, eqb}
use lib.ListN.{length}
use lib.Pow.{pow_pos}
use Rattle.aiger.specs.Frames.{free_starts}
use Rattle.machine.specs.Machine.{Machine}
use Rattle.machine.specs.Layers.{
  Entry,
  started,
  slot_place,
  slot_hit,
  expanded,
  layer_slots,
  least_below,
  Layered,
  hit,
  clear,
  never,
  gave_up,
  layers_from,
}
use Rattle.machine.specs.Layers as spec
use Rattle.machine.proofs.Starts.{some-start}
use Rattle.influence.specs.Part.{Part}
use Rattle.states.specs.declared.Table.{Table}
use Rattle.states.specs.Trace.{Holds}
use Rattle.transitions.specs.Transitions.{machine_of}
use Rattle.reachable.specs.declared.Limit.{Limit}
use Rattle.reachable.specs.Quota.{quota}
use Rattle.reachable.specs.Layers.{layered}

-- a table holds what it held with another quota, if that is no less than its records
pub holds-with : {rows t lo : ℕ} {p : Table} {quota count : ℕ} {r : List ℕ} {es : List Entry} (q : ℕ) → (p.width + 4) * q ≤ length r
    → q < 4294967295 → count ≤ quota → count ≤ q → Holds rows t lo p quota count r es → Holds rows t lo p q count r es
holds-with q b d l k h =
    record {
      quota-room = b;
      quota-small = d;
      count_small = omega arith;
      counted = λ _. h.counted l;
      stored = λ _. h.stored l;
      placed = λ _. h.placed l;
      lost = λ x. absurd (omega arith);
    }

-- ---- one frame
module _ (m : Machine) (q : ℕ → ℕ) (n t : ℕ) (es : List Entry) (lo : ℕ) where
  abbrev all : List Entry
  all = expanded m es lo (layer_slots m es lo)

  abbrev after : Option ℕ → Bool → Bool → Layered
  after o a b = elim o [
    | some z ↦ hit t (slot_place m es lo z)
    | none ↦ cond a (cond b (never t) (layers_from m q n (suc t) all (length es)))
        (gave_up (suc t))
  ]

  unrolled : layers_from m q (suc n) t es lo ≡ after (least_below (layer_slots m es lo) (slot_hit m es lo)) (leb (length all) (q t))
      (eqb (length all) (length es))
  unfolding layers_from
  unrolled = refl

  pub from-hit : (z : ℕ) → least_below (layer_slots m es lo) (slot_hit m es lo) ≡ some z
      → layers_from m q (suc n) t es lo ≡ hit t (slot_place m es lo z)
  from-hit z e = unrolled ∙ ap (λ (o : Option ℕ). after o (leb (length all) (q t)) (eqb (length all) (length es))) e

  module _ (e : least_below (layer_slots m es lo) (slot_hit m es lo) ≡ none) where
    pub from-lost : q t < length (expanded m es lo (layer_slots m es lo)) → layers_from m q (suc n) t es lo ≡ gave_up (suc t)
    from-lost l =
        unrolled ∙ ap₂ (λ (o : Option ℕ) (a : Bool). after o a (eqb (length all) (length es))) e (lt-leb (length all) (q t) l)

    pub from_last : length (expanded m es lo (layer_slots m es lo)) ≤ q t → length (expanded m es lo (layer_slots m es lo)) ≡ length es
        → layers_from m q (suc n) t es lo ≡ never t
    from_last l k =
        unrolled ∙ ap₂ (λ (o : Option ℕ) (a : Bool). after o a (eqb (length all) (length es))) e (le-leb (length all) (q t) l)
        ∙ ap (after none true) (eq-eqb (length all) (length es) k)

    pub from_more : length (expanded m es lo (layer_slots m es lo)) ≤ q t → (length (expanded m es lo (layer_slots m es lo)) ≡ length es → ⊥)
        → layers_from m q (suc n) t es lo ≡ layers_from m q n (suc t) (expanded m es lo (layer_slots m es lo)) (length es)
    from_more l k =
        unrolled ∙ ap₂ (λ (o : Option ℕ) (a : Bool). after o a (eqb (length all) (length es))) e (le-leb (length all) (q t) l)
        ∙ ap (after none true) (ne_eqb (length all) (length es) k)

-- ---- all frames
module _ (c : Part) (b first : ℕ) (limit : Limit) (k : ℕ) where
  abbrev m : Machine
  m = machine_of c b

  -- what is left is frames t to k
  abbrev pub Rest : ℕ → List Entry → ℕ → Type 0
  Rest t es lo = layered c b first limit k ≡ layers_from (machine_of c b) (quota c first limit) (k + 1 - t) t es lo

  abbrev begun : List Entry
  begun = started m (2 ^ free_starts c.circuit)

  opened : layered c b first limit k ≡ cond (leb (length begun) (quota c first limit 0)) (layers_from m (quota c first limit) (k + 1) 0
      begun 0) (gave_up 0)
  unfolding layered machine_of spec.layered
  opened = refl

  pub rest-start : length (started (machine_of c b) (2 ^ free_starts c.circuit)) ≤ quota c first limit 0
      → Rest 0 (started (machine_of c b) (2 ^ free_starts c.circuit)) 0
  rest-start l =
      opened ∙ ap (λ (a : Bool). cond a (layers_from m (quota c first limit) (k + 1) 0 begun 0) (gave_up 0)) (le-leb (length begun) (quota
      c first limit 0) l)
      ∙ ap (λ (n : ℕ). layers_from m (quota c first limit) n 0 begun 0) {x = k + 1} {y = k + 1 - 0} (omega arith)

  pub rest-full : quota c first limit 0 < length (started (machine_of c b) (2 ^ free_starts c.circuit)) → layered c b first limit k ≡
      gave_up 0
  rest-full l = opened ∙ ap (λ (a : Bool). cond a (layers_from m (quota c first limit) (k + 1) 0 begun 0) (gave_up 0))
      (lt-leb (length begun) (quota c first limit 0) l)

  -- without a quota
  pub rest-none : quota c first limit 0 ≡ 0 → layered c b first limit k ≡ gave_up 0
  rest-none e = rest-full (omega (arith, some-start m (2 ^ free_starts c.circuit) (pow_pos (free_starts c.circuit))))

  pub rest_end : (t : ℕ) (es : List Entry) (lo : ℕ) → Rest t es lo → k < t → layered c b first limit k ≡ clear
  unfolding layers_from
  rest_end t es lo r l = r ∙ ap (λ (n : ℕ). layers_from m (quota c first limit) n t es lo) {x = k + 1 - t} {y = 0} (omega arith)

  module _ (t : ℕ) (es : List Entry) (lo : ℕ) (r : Rest t es lo) (l : t ≤ k) where
    one_more : layered c b first limit k ≡ layers_from m (quota c first limit) (suc (k - t)) t es lo
    one_more = r ∙ ap (λ (n : ℕ). layers_from m (quota c first limit) n t es lo) {x = k + 1 - t} {y = suc (k - t)} (omega arith)

    pub rest-hit : (z : ℕ) → least_below (layer_slots (machine_of c b) es lo) (slot_hit (machine_of c b) es lo) ≡ some z
        → layered c b first limit k ≡ hit t (slot_place (machine_of c b) es lo z)
    rest-hit z e = one_more ∙ from-hit m (quota c first limit) (k - t) t es lo z e

    module _ (e : least_below (layer_slots (machine_of c b) es lo) (slot_hit (machine_of c b) es lo) ≡ none) where
      pub rest-lost : quota c first limit t < length (expanded (machine_of c b) es lo (layer_slots (machine_of c b) es lo))
          → layered c b first limit k ≡ gave_up (t + 1)
      rest-lost h = one_more ∙ from-lost m (quota c first limit) (k - t) t es lo e h ∙ ap gave_up (sym (add-one t))

      pub rest-last : length (expanded (machine_of c b) es lo (layer_slots (machine_of c b) es lo)) ≤ quota c first limit t
          → length (expanded (machine_of c b) es lo (layer_slots (machine_of c b) es lo)) ≡ length es → layered c b first limit k ≡ never t
      rest-last h q = one_more ∙ from_last m (quota c first limit) (k - t) t es lo e h q

      pub rest_more : length (expanded (machine_of c b) es lo (layer_slots (machine_of c b) es lo)) ≤ quota c first limit t
          → (length (expanded (machine_of c b) es lo (layer_slots (machine_of c b) es lo)) ≡ length es → ⊥)
          → Rest (t + 1) (expanded (machine_of c b) es lo (layer_slots (machine_of c b) es lo)) (length es)
      rest_more h q =
          let all = expanded m es lo (layer_slots m es lo) in
          one_more ∙ from_more m (quota c first limit) (k - t) t es lo e h q
          ∙ ap₂ (λ (n : ℕ) (u : ℕ). layers_from m (quota c first limit) n u all (length es)) {x = k - t} {y = k + 1 - (t + 1)} (omega arith)
          (sym (add-one t))
