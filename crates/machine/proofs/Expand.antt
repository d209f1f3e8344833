-- The layer of frame t + 1, from a right layer of frame t without a hit. Assumes nothing.
use mathlib.Core.Path.{◌≡◌, refl, sym, ap, ap₂, ◌∙◌, subst}
use mathlib.Core.Bool.{Bool}
use mathlib.Core.List.{List}
use mathlib.Core.Option.{Option, none, some}
use mathlib.Core.Logic.{⊎_elim}
use Prim.Native.Nat.{ℕ, zero, suc, ◌+◌, ◌-◌, ◌*◌, ◌/◌, ◌%◌, ◌≤◌, ◌<◌}
use native.Mathlib.Nat.{mod-lt, mul-le-mul_right, div-lt_iff_lt-mul, div-add-mod'}
use native.Mathlib.Decide.{dec_lt, ℕ_discrete}
use native.Mathlib.Omega.{arith}
use lib.Dec.{T}
use lib.Arith.{digits_lt, digits_div, digits_mod}
use lib.ListN.{length, get_or}
use Rattle.machine.specs.Machine.{Machine, prefixes, stepped, state_after}
use Rattle.machine.specs.Layers.{Entry, no_entry, state_of, place_of, meet, slot_entry, slot_place, slot_step, slot_hit, expanded, layer_slots}
use Rattle.machine.proofs.Meet.{Met, meets}
use Rattle.machine.proofs.Starts.{Known, Layer}

-- a machine whose numbers fit: there is a row, each row has a slot, and a slot that is no row gives nothing
pub record Fair (m : Machine) : Type 0 where
  pub some-row : 0 < m.rows
  pub slotted : m.rows ≤ m.slots
  pub step_row : (s r x : ℕ) → m.step s r ≡ some x → r < m.rows
  pub hit-row : (s r : ℕ) → T (m.hit s r) → r < m.rows

-- ---- quotients

-- n times w and r more, for r below w
pub over : (n r w : ℕ) → r < w → (n * w + r) / w ≡ n
over n r w l = digits_div n l

pub rest : (n r w : ℕ) → r < w → (n * w + r) % w ≡ r
rest n r w l = digits_mod n l

-- n times w and r more are below k times w
pub under : (n r k w : ℕ) → n < k → r < w → n * w + r < k * w
under n r k w l h = digits_lt l h

pub quotient-below : (z k w : ℕ) → z < k * w → z / w < k
quotient-below z zero w l = absurd (omega arith)
quotient-below z (suc k) zero l = absurd (omega arith)
quotient-below z (suc k) (suc w) l = (div-lt_iff_lt-mul {k = suc w} {x = z} {y = suc k} (omega arith)).1 l

pub prefix-fits : (m : Machine) (t x : ℕ) → x < prefixes m (suc t) → x / m.rows < prefixes m t
unfolding prefixes
prefix-fits m t x l = quotient-below x (prefixes m t) m.rows l

-- what the state after a prefix of one frame more comes from
pub came : (m : Machine) (t y s : ℕ) → state_after m (suc t) y ≡ some s
    → (x : ℕ) × (state_after m t (y / m.rows) ≡ some x) × (m.step x (y % m.rows) ≡ some s)
unfolding state_after
came m t y s e = go (state_after m t (y / m.rows)) refl e
  where
    go : (o : Option ℕ) → state_after m t (y / m.rows) ≡ o → stepped m o (y % m.rows) ≡ some s
        → (x : ℕ) × (state_after m t (y / m.rows) ≡ some x) × (m.step x (y % m.rows) ≡ some s)
    go none q h = absurd (let z : ◌≡◌ {A = ℕ} 0 1 = cc in omega arith)
    go (some x) q h = (x, q, h)

module _ (m : Machine) (f : Fair m) (t : ℕ) (es : List Entry) (lo : ℕ) (layer : Layer m t es lo) where
  some-slot : 0 < m.slots
  some-slot = omega (arith, f.some-row, f.slotted)

  -- ---- slots
  abbrev slot_of : ℕ → ℕ → ℕ
  slot_of i r = (i - lo) * m.slots + r

  slot-index : (i r : ℕ) → lo ≤ i → r < m.slots → lo + slot_of i r / m.slots ≡ i
  slot-index i r l h = omega (arith, over (i - lo) r m.slots h)

  slot-below : (i r : ℕ) → lo ≤ i → i < length es → r < m.slots → slot_of i r < layer_slots m es lo
  slot-below i r l k h = under (i - lo) r (length es - lo) m.slots (omega arith) h

  -- a slot's entry is in the layer
  slot-in : (z : ℕ) → z < layer_slots m es lo → lo + z / m.slots < length es
  slot-in z l = omega (arith, quotient-below z (length es - lo) m.slots l, layer.within)

  -- a later slot has a larger prefix
  slot-order : (z w : ℕ) → z < w → w < layer_slots m es lo → z % m.slots < m.rows → slot_place m es lo z < slot_place m es lo w
  slot-order z w l k h =
      let a = lo + z / m.slots in
      let b = lo + w / m.slots in
      let p : z / m.slots * m.slots + z % m.slots ≡ z = div-add-mod' z m.slots in
      let q : w / m.slots * m.slots + w % m.slots ≡ w = div-add-mod' w m.slots in
      elim (dec_lt (z / m.slots) (w / m.slots)) [
        | yes d ↦
            let o : place_of es a < place_of es b = layer.order a b (omega arith) (omega arith) (slot-in w k) in
            let u : place_of es a * m.rows + z % m.slots < place_of es b * m.rows = under (place_of es a) (z % m.slots) (place_of es b) m.rows o h in
            omega arith
        | no d ↦
            elim (dec_lt (w / m.slots) (z / m.slots)) [
              | yes g ↦
                  let u : w / m.slots * m.slots + w % m.slots < z / m.slots * m.slots = under (w / m.slots) (w % m.slots) (z / m.slots) m.slots g (mod-lt w some-slot) in
                  absurd (omega arith)
              | no g ↦
                  let e : z / m.slots ≡ w / m.slots = omega arith in
                  let s : z / m.slots * m.slots ≡ w / m.slots * m.slots = ap (λ (x : ℕ). x * m.slots) e in
                  let v : place_of es a * m.rows ≡ place_of es b * m.rows = ap (λ (x : ℕ). place_of es (lo + x) * m.rows) e in
                  omega arith
            ]
      ]

  -- what a slot steps to is the state after its prefix
  slot-state : (z s : ℕ) → z < layer_slots m es lo → slot_step m es lo z ≡ some s → state_after m (suc t) (slot_place m es lo z) ≡ some s
  unfolding state_after
  slot-state z s l e =
      let i = lo + z / m.slots in
      let r = f.step_row _ _ _ e in
      let y = slot_place m es lo z in
      let a : y / m.rows ≡ place_of es i = over (place_of es i) (z % m.slots) m.rows r in
      let b : y % m.rows ≡ z % m.slots = rest (place_of es i) (z % m.slots) m.rows r in
      let g : state_after m t (place_of es i) ≡ some (state_of es i) = layer.genuine i (omega arith) (slot-in z l) in
      ap₂ (λ (x : ℕ) (k : ℕ). stepped m (state_after m t x) k) a b ∙ ap (λ (o : Option ℕ). stepped m o (z % m.slots)) g ∙ e

  slot-fits : (z s : ℕ) → z < layer_slots m es lo → slot_step m es lo z ≡ some s → slot_place m es lo z < prefixes m (suc t)
  unfolding prefixes
  slot-fits z s l e =
      let i = lo + z / m.slots in
      under (place_of es i) (z % m.slots) (prefixes m t) m.rows (layer.fits i (omega arith) (slot-in z l)) (f.step_row _ _ _ e)

  -- ---- the first z slots are treated
  record Grown (z : ℕ) (acc : List Entry) : Type 0 where
    longer : length es ≤ length acc
    old : (i : ℕ) → i < length es → get_or acc i no_entry ≡ get_or es i no_entry
    source : (i : ℕ) → length es ≤ i → i < length acc → (x : ℕ) × (x < z) × (place_of acc i ≡ slot_place m es lo x) × (slot_step m es lo x ≡ some (state_of acc i))
    order : (i j : ℕ) → length es ≤ i → i < j → j < length acc → place_of acc i < place_of acc j
    covered : (x s : ℕ) → x < z → slot_step m es lo x ≡ some s → Known acc (length es) s (slot_place m es lo x)

  grown-none : Grown 0 es
  grown-none =
      record {
        longer = omega arith;
        old = λ i l. refl;
        source = λ i l k. absurd (omega arith);
        order = λ i j l h k. absurd (omega arith);
        covered = λ x s l. absurd (omega arith);
      }

  grown-more : (z : ℕ) (acc out : List Entry) → z < layer_slots m es lo → Grown z acc → Met (slot_step m es lo z) (slot_place m es lo z) acc out → Grown (suc z) out
  grown-more z acc out zl g t =
      let place-old : (i : ℕ) → i < length acc → place_of out i ≡ place_of acc i = λ i l. ap (λ (e : Entry). e.place) (t.old i l) in
      let state-old : (i : ℕ) → i < length acc → state_of out i ≡ state_of acc i = λ i l. ap (λ (e : Entry). e.state) (t.old i l) in
      record {
        longer = omega (arith, g.longer, t.longer);
        old = λ i l. t.old i (omega (arith, g.longer)) ∙ g.old i l;
        source = λ i l k. elim (dec_lt i (length acc)) [
          | yes h ↦
              let r = g.source i l h in
              (r.0, omega (arith, r.1), place-old i h ∙ r.2, r.3 ∙ ap some (sym (state-old i h)))
          | no h ↦ let q = t.new i (omega arith) k in (z, omega arith, q.1, q.2)
        ];
        order = λ i j l h k. elim (dec_lt j (length acc)) [
          | yes d ↦ omega (arith, place-old i (omega arith), place-old j d, g.order i j l h d)
          | no d ↦
              let q = t.new j (omega arith) k in
              let il : i < length acc = omega (arith, q.0) in
              let r = g.source i l il in
              let o = slot-order r.0 z r.1 zl (f.step_row _ _ _ r.3) in
              omega (arith, q.1, place-old i il, r.2, o)
        ];
        covered = λ x s l e. elim (dec_lt x z) [
          | yes h ↦
              let c = g.covered x s h e in
              record {
                index = c.index;
                below = omega (arith, c.below, t.longer);
                same = state-old c.index c.below ∙ c.same;
                first = λ k. omega (arith, place-old c.index c.below, c.first k);
              }
          | no h ↦
              let q : z ≡ x = omega arith in
              let r = t.holds s (ap (slot_step m es lo) q ∙ e) in
              let v : slot_place m es lo z ≡ slot_place m es lo x = ap (slot_place m es lo) q in
              record {
                index = r.0;
                below = r.1;
                same = r.2;
                first = λ k. elim (dec_lt r.0 (length acc)) [
                  | yes d ↦
                      let u = g.source r.0 k d in
                      let o = slot-order u.0 z u.1 zl (f.step_row _ _ _ u.3) in
                      omega (arith, place-old r.0 d, u.2, o, v)
                  | no d ↦ omega (arith, (t.new r.0 (omega arith) r.1).1, v)
                ];
              }
        ];
      }

  grown : (z : ℕ) → z ≤ layer_slots m es lo → Grown z (expanded m es lo z)
  unfolding expanded
  grown zero l = grown-none
  grown (suc z) l =
      grown-more z (expanded m es lo z) (meet (slot_step m es lo z) (slot_place m es lo z) (expanded m es lo z)) (omega arith) (grown z (omega arith))
      (meets (slot_step m es lo z) (slot_place m es lo z) (expanded m es lo z))

  -- ---- the next layer
  -- no slot of the layer is a hit
  abbrev pub Silent : Type 0
  Silent = (z : ℕ) → z < layer_slots m es lo → T (slot_hit m es lo z) → ⊥

  -- a state of the layer, or before it, has no hit
  pub all_quiet : Silent → (i r : ℕ) → i < length es → T (m.hit (state_of es i) r) → ⊥
  all_quiet silent i r l h = elim (dec_lt i lo) [
    | yes k ↦ layer.quiet i r k h
    | no k ↦
        let w : r < m.slots = omega (arith, f.hit-row _ _ h, f.slotted) in
        silent (slot_of i r) (slot-below i r (omega arith) l w)
        (subst T (sym (ap₂ (λ (x : ℕ) (y : ℕ). m.hit (state_of es x) y) (slot-index i r (omega arith) w) (rest (i - lo) r m.slots w))) h)
  ]

  abbrev all : List Entry
  all = expanded m es lo (layer_slots m es lo)

  whole : Grown (layer_slots m es lo) all
  whole = grown (layer_slots m es lo) (omega arith)

  state-kept : (i : ℕ) → i < length es → state_of all i ≡ state_of es i
  state-kept i l = ap (λ (e : Entry). e.state) (whole.old i l)

  -- where a state of the layer, or before it, steps to
  next_known : (i r s : ℕ) → i < length es → m.step (state_of es i) r ≡ some s → Known all (length es) s (place_of es i * m.rows + r)
  next_known i r s l e = elim (dec_lt i lo) [
    | yes k ↦
        let c = layer.closed i r s k e in
        record { index = c.0; below = omega (arith, c.1, whole.longer); same = state-kept c.0 c.1 ∙ c.2; first = λ h. absurd (omega (arith, c.1)) }
    | no k ↦
        let w : r < m.slots = omega (arith, f.step_row _ _ _ e, f.slotted) in
        let a = slot-index i r (omega arith) w in
        let b = rest (i - lo) r m.slots w in
        subst (Known all (length es) s) (ap₂ (λ (x : ℕ) (y : ℕ). place_of es x * m.rows + y) a b)
        (whole.covered (slot_of i r) s (slot-below i r (omega arith) l w) (ap₂ (λ (x : ℕ) (y : ℕ). m.step (state_of es x) y) a b ∙ e))
  ]

  next-reached : (y s : ℕ) → y < prefixes m (suc t) → state_after m (suc t) y ≡ some s → Known all (length es) s y
  next-reached y s l e =
      let x = came m t y s e in
      let k = layer.reached (y / m.rows) x.0 (prefix-fits m t y l) x.1 in
      let r = y % m.rows in
      let i = k.index in
      let d : y / m.rows * m.rows + r ≡ y = div-add-mod' y m.rows in
      let n = next_known i r s k.below (ap (λ (q : ℕ). m.step q r) k.same ∙ x.2) in
      elim (dec_lt i lo) [
        | yes h ↦
            let c = layer.closed i r s h (ap (λ (q : ℕ). m.step q r) k.same ∙ x.2) in
            record { index = c.0; below = omega (arith, c.1, whole.longer); same = state-kept c.0 c.1 ∙ c.2; first = λ h. absurd (omega (arith, c.1)) }
        | no h ↦
            let p : place_of es i * m.rows ≤ y / m.rows * m.rows = mul-le-mul_right m.rows (k.first (omega arith)) in
            record { index = n.index; below = n.below; same = n.same; first = λ q. omega (arith, n.first q) }
      ]

  -- the next layer is right
  pub layer-next : Silent → Layer m (suc t) (expanded m es lo (layer_slots m es lo)) (length es)
  layer-next silent =
      record {
        within = whole.longer;
        genuine = λ i l k.
            let r = whole.source i l k in
            ap (state_after m (suc t)) r.2 ∙ slot-state r.0 (state_of all i) r.1 r.3;
        fits = λ i l k. let r = whole.source i l k in omega (arith, r.2, slot-fits r.0 (state_of all i) r.1 r.3);
        order = whole.order;
        reached = next-reached;
        closed = λ i r s l e.
            let n = next_known i r s l (ap (λ (q : ℕ). m.step q r) (sym (state-kept i l)) ∙ e) in
            (n.index, n.below, n.same);
        quiet = λ i r l h. all_quiet silent i r l (subst (λ (q : ℕ). T (m.hit q r)) (state-kept i l) h);
      }
