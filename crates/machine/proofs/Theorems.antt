-- What the layers say is so. Assumes nothing.
use mathlib.Core.Path.{◌≡◌, refl, sym, ap, ap₂, ◌∙◌, subst}
use mathlib.Core.Bool.{Bool, true, false, cond}
use mathlib.Core.List.{List}
use mathlib.Core.Option.{Option, none, some}
use Prim.Native.Nat.{ℕ, zero, suc, ◌+◌, ◌-◌, ◌*◌, ◌/◌, ◌%◌, ◌≤◌, ◌<◌}
use native.Mathlib.Nat.{mod-lt, mul-le-mul_right, div-add-mod'}
use native.Mathlib.Decide.{dec_lt, ℕ_discrete}
use native.Mathlib.Omega.{arith}
use borrow.Author.Tests.{eqb-true}
use lib.Dec.{T, eqb, leb}
use lib.ListN.{length, get_or}
use Rattle.meaning.proofs.Decisions.{Least, least-below}
use Rattle.machine.specs.Machine.{Machine, prefixes, stepped, state_after, hit_from, hits_at}
use Rattle.machine.specs.Layers.{
  Entry,
  state_of,
  place_of,
  started,
  slot_place,
  slot_hit,
  expanded,
  layer_slots,
  least_below,
  Layered,
  hit,
  clear,
  never,
  gave_up,
  layers_from,
  layered,
}
use Rattle.machine.proofs.Starts.{Known, Layer, layer-start}
use Rattle.machine.proofs.Expand.{Fair, came, over, rest, under, quotient-below, Silent, all_quiet, layer-next, prefix-fits}

-- no sequence of frame t is a hit
abbrev pub Quiet : Machine → ℕ → Type 0
Quiet m t = (x : ℕ) → x < prefixes m (suc t) → T (hits_at m t x) → ⊥

-- no frame before t has a hit
abbrev pub QuietBefore : Machine → ℕ → Type 0
QuietBefore m t = (u : ℕ) → u < t → Quiet m u

-- x is the first hit of frame t
pub record FirstHit (m : Machine) (t x : ℕ) : Type 0 where
  pub fits : x < prefixes m (suc t)
  pub hits : T (hits_at m t x)
  pub first : (y : ℕ) → y < x → T (hits_at m t y) → ⊥

-- a hit comes from a state
from-state : (m : Machine) (t x : ℕ) → T (hits_at m t x) → (s : ℕ) × (state_after m t (x / m.rows) ≡ some s) × T (m.hit s (x % m.rows))
unfolding hits_at
from-state m t x h = go (state_after m t (x / m.rows)) refl h
  where
    go : (o : Option ℕ) → state_after m t (x / m.rows) ≡ o → T (hit_from m o (x % m.rows))
        → (s : ℕ) × (state_after m t (x / m.rows) ≡ some s) × T (m.hit s (x % m.rows))
    go none q k = absurd k
    go (some s) q k = (s, q, k)

module _ (m : Machine) (f : Fair m) where
  module _ (t : ℕ) (es : List Entry) (lo : ℕ) (layer : Layer m t es lo) where
    -- where no slot of a layer is a hit, its frame has none
    frame-quiet : Silent m f t es lo layer → Quiet m t
    frame-quiet silent x l h =
        let s = from-state m t x h in
        let k = layer.reached (x / m.rows) s.0 (prefix-fits m t x l) s.1 in
        all_quiet m f t es lo layer silent k.index (x % m.rows) k.below (subst (λ (q : ℕ). T (m.hit q (x % m.rows))) (sym k.same) s.2)

    -- a slot that is not before z has no prefix and row before z's
    later : (z y j : ℕ) → j < length es → lo ≤ j → lo + z / m.slots < length es → z % m.slots < m.rows → y % m.rows < m.slots
        → ((j - lo) * m.slots + y % m.rows < z → ⊥) → place_of es j ≤ y / m.rows → y < slot_place m es lo z → ⊥
    later z y j jl jo il rl ql d k l =
        let a = z / m.slots in
        let r = z % m.slots in
        let q = y % m.rows in
        let i = lo + a in
        let v = j - lo in
        let zd : a * m.slots + r ≡ z = div-add-mod' z m.slots in
        let yd : y / m.rows * m.rows + q ≡ y = div-add-mod' y m.rows in
        elim (dec_lt v a) [
          | yes h ↦ let u : v * m.slots + q < a * m.slots = under v q a m.slots h ql in d (omega arith)
          | no h ↦
              elim (dec_lt a v) [
                | yes g ↦
                    let o : place_of es i < place_of es j = layer.order i j (omega arith) (omega arith) jl in
                    let u : place_of es i * m.rows + r < y / m.rows * m.rows = under (place_of es i) r (y / m.rows) m.rows (omega
                    arith) rl in
                    omega arith
                | no g ↦
                    let e : v ≡ a = omega arith in
                    let w : v * m.slots ≡ a * m.slots = ap (λ (n : ℕ). n * m.slots) e in
                    let ij : j ≡ i = omega arith in
                    let p : place_of es j ≡ place_of es i = ap (place_of es) ij in
                    let u : place_of es i * m.rows ≤ y / m.rows * m.rows = mul-le-mul_right m.rows (omega arith) in
                    let x : v * m.slots + q < z → ⊥ = d in
                    omega arith
              ]
        ]

    -- the first slot of a layer that is a hit is the first hit of its frame
    frame-hit : (z : ℕ) → Least (slot_hit m es lo) (layer_slots m es lo) (some z) → FirstHit m t (slot_place m es lo z)
    unfolding prefixes hits_at
    frame-hit z (zl, zh, zf) =
        let i = lo + z / m.slots in
        let r = z % m.slots in
        let i-in : i < length es = omega (arith, quotient-below z (length es - lo) m.slots zl, layer.within) in
        let r-in : r < m.rows = f.hit-row _ _ zh in
        let p = place_of es i in
        let x = p * m.rows + r in
        let g : state_after m t (x / m.rows) ≡ some (state_of es i) =
        ap (state_after m t) (over p r m.rows r-in) ∙ layer.genuine i (omega arith) i-in in
        record {
          fits = under p r (prefixes m t) m.rows (layer.fits i (omega arith) i-in) r-in;
          hits = subst T (sym (ap₂ (hit_from m) g (rest p r m.rows r-in))) zh;
          first = λ y yl yh.
              let s = from-state m t y yh in
              let q = y % m.rows in
              let yf : y / m.rows < prefixes m t = earlier y x p r yl r-in (layer.fits i (omega arith) i-in) in
              let k = layer.reached (y / m.rows) s.0 yf s.1 in
              let j = k.index in
              let jh : T (m.hit (state_of es j) q) = subst (λ (w : ℕ). T (m.hit w q)) (sym k.same) s.2 in
              elim (dec_lt j lo) [
                | yes h ↦ layer.quiet j q h jh
                | no h ↦
                    let q-in : q < m.slots = omega (arith, f.hit-row _ _ jh, f.slotted) in
                    let w = (j - lo) * m.slots + q in
                    let a : lo + w / m.slots ≡ j = omega (arith, over (j - lo) q m.slots q-in) in
                    let wh : T (slot_hit m es lo w) =
                    subst T (sym (ap₂ (λ (n : ℕ) (d : ℕ). m.hit (state_of es n) d) a (rest (j - lo) q m.slots q-in))) jh in
                    elim (dec_lt w z) [
                      | yes d ↦ zf w d wh
                      | no d ↦ later z y j k.below (omega arith) i-in r-in q-in d (k.first (omega arith)) yl
                    ]
              ];
        }
      where
        earlier : (y x p r : ℕ) → y < p * m.rows + r → r < m.rows → p < prefixes m t → y / m.rows < prefixes m t
        earlier y x p r l k h = quotient-below y (prefixes m t) m.rows (omega (arith, under p r (prefixes m t) m.rows h k))

    -- where a layer without a hit steps to no new state, no frame from here on has a hit
    module _ (silent : Silent m f t es lo layer) (none-new : length (expanded m es lo (layer_slots m es lo)) ≡ length es) where
      abbrev all : List Entry
      all = expanded m es lo (layer_slots m es lo)

      next : Layer m (suc t) all (length es)
      next = layer-next m f t es lo layer silent

      few : (i : ℕ) → i < length all → i < length es
      few i l = omega (arith, none-new)

      stays : (u y s : ℕ) → t < u → y < prefixes m u → state_after m u y ≡ some s → (i : ℕ) × (i < length es) × (state_of all i ≡ s)
      stays zero y s h l e = absurd (omega arith)
      stays (suc u) y s h l e = elim (ℕ_discrete u t) [
        | yes q ↦
            let k = next.reached y s (subst (λ (n : ℕ). y < prefixes m (suc n)) q l) (ap (λ (n : ℕ). state_after m (suc n) y) (sym q) ∙
            e) in
            (k.index, few k.index k.below, k.same)
        | no q ↦
            let x = came m u y s e in
            let k = stays u (y / m.rows) x.0 (omega arith) (prefix-fits m u y l) x.1 in
            let c = next.closed k.0 (y % m.rows) s k.1 (ap (λ (n : ℕ). m.step n (y % m.rows)) k.2 ∙ x.2) in
            (c.0, few c.0 c.1, c.2)
      ]

      pub quiet-after : (u : ℕ) → t < u → Quiet m u
      quiet-after u h x l k =
          let s = from-state m u x k in
          let i = stays u (x / m.rows) s.0 h (prefix-fits m u x l) s.1 in
          next.quiet i.0 (x % m.rows) i.1 (subst (λ (q : ℕ). T (m.hit q (x % m.rows))) (sym i.2) s.2)

  -- ---- all frames
  before_more : (t : ℕ) → QuietBefore m t → Quiet m t → QuietBefore m (suc t)
  before_more t b q u l = elim (ℕ_discrete u t) [ yes e ↦ subst (Quiet m) (sym e) q | no e ↦ b u (omega arith) ]

  -- what the layers say of frames before end
  abbrev pub Says : ℕ → Layered → Type 0
  Says end (hit t x) = (t < end) × QuietBefore m t × FirstHit m t x
  Says end clear = QuietBefore m end
  Says end (never t) = (t < end) × ((u : ℕ) → Quiet m u)
  Says end (gave_up t) = (t ≤ end) × QuietBefore m t

  module _ (quota : ℕ → ℕ) where
    says-from : (n t end : ℕ) (es : List Entry) (lo : ℕ) → t + n ≡ end → QuietBefore m t → Layer m t es lo → Says end (layers_from m quota
        n t es lo)
    unfolding layers_from
    says-from zero t end es lo e b layer = subst (QuietBefore m) (omega arith) b
    says-from (suc n) t end es lo e b layer =
        go (least_below (layer_slots m es lo) (slot_hit m es lo)) (least-below (slot_hit m es lo) (layer_slots m es lo))
        (λ q k. says-from n (suc t) end (expanded m es lo (layer_slots m es lo)) (length es) (omega arith) q k)
      where
        all : List Entry
        all = expanded m es lo (layer_slots m es lo)

        rest_of : Silent m f t es lo layer
            → (QuietBefore m (suc t) → Layer m (suc t) (expanded m es lo (layer_slots m es lo)) (length es)
            → Says end (layers_from m quota n (suc t) (expanded m es lo (layer_slots m es lo)) (length es)))
            → (p q : Bool) → eqb (length (expanded m es lo (layer_slots m es lo))) (length es) ≡ q
            → Says end (cond p (cond q (never t) (layers_from m quota n (suc t) (expanded m es lo (layer_slots m es lo)) (length es))) (gave_up
            (suc t)))
        rest_of s k false q w = (omega arith, before_more t b (frame-quiet t es lo layer s))
        rest_of s k true true w = (
          omega arith,
          λ u. elim (dec_lt t u) [
            | yes h ↦ quiet-after t es lo layer s (eqb-true _ _ w) u h
            | no h ↦ before_more t b (frame-quiet t es lo layer s) u (omega arith)
          ],
        )
        rest_of s k true false w = k (before_more t b (frame-quiet t es lo layer s)) (layer-next m f t es lo layer s)

        go : (o : Option ℕ) → Least (slot_hit m es lo) (layer_slots m es lo) o
            → (QuietBefore m (suc t) → Layer m (suc t) (expanded m es lo (layer_slots m es lo)) (length es)
            → Says end (layers_from m quota n (suc t) (expanded m es lo (layer_slots m es lo)) (length es)))
            → Says end (elim o [
              | some z ↦ hit t (slot_place m es lo z)
              | none ↦
                  cond (leb (length (expanded m es lo (layer_slots m es lo))) (quota t))
                  (cond (eqb (length (expanded m es lo (layer_slots m es lo))) (length es)) (never t)
                  (layers_from m quota n (suc t) (expanded m es lo (layer_slots m es lo)) (length es)))
                  (gave_up (suc t))
            ])
        go (some z) h k = (omega arith, b, frame-hit t es lo layer z h)
        go none h k =
            rest_of h k (leb (length (expanded m es lo (layer_slots m es lo))) (quota t)) (eqb (length (expanded m es lo (layer_slots m es
            lo))) (length es)) refl

    -- a hit is the first of the first frame that has one; clear: no frame before n has a hit; never: no frame has one; given up at t: no
    -- frame before t has one
    pub layered-says : (n : ℕ) → Says n (layered m quota n)
    unfolding layered
    layered-says n = go (leb (length (started m m.starts)) (quota 0))
      where
        none_before : QuietBefore m 0
        none_before u l = absurd (omega arith)

        go : (p : Bool) → Says n (cond p (layers_from m quota n 0 (started m m.starts) 0) (gave_up 0))
        go true = says-from n 0 n (started m m.starts) 0 (omega arith) none_before (layer-start m)
        go false = (omega arith, none_before)
