-- Layer 0. A layer is right where `Layer` holds. Assumes nothing.
use mathlib.Core.Path.{◌≡◌, refl, sym, ap, ◌∙◌, subst}
use mathlib.Core.Bool.{Bool}
use mathlib.Core.List.{List}
use mathlib.Core.Option.{Option, none, some}
use Prim.Native.Nat.{ℕ, zero, suc, ◌+◌, ◌≤◌, ◌<◌}
use native.Mathlib.Decide.{dec_lt}
use native.Mathlib.Omega.{arith}
use lib.Dec.{T}
use lib.ListN.{length, get_or}
use Rattle.machine.specs.Machine.{Machine, prefixes, state_after}
use Rattle.machine.specs.Layers.{Entry, no_entry, state_of, place_of, meet, started}
use Rattle.machine.proofs.Meet.{Met, meets}

-- state s was met, and not after prefix y if it is in the layer that begins at entry lo
pub record Known (es : List Entry) (lo s y : ℕ) : Type 0 where
  pub index : ℕ
  pub below : index < length es
  pub same : state_of es index ≡ s
  pub first : lo ≤ index → place_of es index ≤ y

-- the entries from lo on are the layer of frame t, those before it the earlier layers, none of which has a hit
pub record Layer (m : Machine) (t : ℕ) (es : List Entry) (lo : ℕ) : Type 0 where
  pub within : lo ≤ length es
  pub genuine : (i : ℕ) → lo ≤ i → i < length es → state_after m t (place_of es i) ≡ some (state_of es i)
  pub fits : (i : ℕ) → lo ≤ i → i < length es → place_of es i < prefixes m t
  pub order : (i j : ℕ) → lo ≤ i → i < j → j < length es → place_of es i < place_of es j
  pub reached : (y s : ℕ) → y < prefixes m t → state_after m t y ≡ some s → Known es lo s y
  pub closed : (i r s : ℕ) → i < lo → m.step (state_of es i) r ≡ some s → (j : ℕ) × (j < length es) × (state_of es j ≡ s)
  pub quiet : (i r : ℕ) → i < lo → T (m.hit (state_of es i) r) → ⊥

-- the start places below n are treated
record Begun (m : Machine) (n : ℕ) (es : List Entry) : Type 0 where
  genuine : (i : ℕ) → i < length es → m.start (place_of es i) ≡ state_of es i
  fits : (i : ℕ) → i < length es → place_of es i < n
  order : (i j : ℕ) → i < j → j < length es → place_of es i < place_of es j
  reached : (y : ℕ) → y < n → (j : ℕ) × (j < length es) × (state_of es j ≡ m.start y) × (place_of es j ≤ y)

begun_more : (m : Machine) (n : ℕ) (es out : List Entry) → Begun m n es → Met (some (m.start n)) n es out → Begun m (suc n) out
begun_more m n es out b t =
    let place-old : (i : ℕ) → i < length es → place_of out i ≡ place_of es i = λ i l. ap (λ (e : Entry). e.place) (t.old i l) in
    let state-old : (i : ℕ) → i < length es → state_of out i ≡ state_of es i = λ i l. ap (λ (e : Entry). e.state) (t.old i l) in
    record {
      genuine = λ i l. elim (dec_lt i (length es)) [
        | yes h ↦ ap m.start (place-old i h) ∙ b.genuine i h ∙ sym (state-old i h)
        | no h ↦ let q = t.new i (omega arith) l in let e : some (m.start n) ≡ some (state_of out i) = q.2 in ap m.start q.1 ∙ cc
      ];
      fits = λ i l. elim (dec_lt i (length es)) [
        | yes h ↦ omega (arith, place-old i h, b.fits i h)
        | no h ↦ omega (arith, (t.new i (omega arith) l).1)
      ];
      order = λ i j l k. elim (dec_lt j (length es)) [
        | yes h ↦ omega (arith, place-old i (omega arith), place-old j h, b.order i j l h)
        | no h ↦
            let q = t.new j (omega arith) k in
            omega (arith, q.0, q.1, place-old i (omega (arith, q.0)), b.fits i (omega (arith, q.0)))
      ];
      reached = λ y l. elim (dec_lt y n) [
        | yes h ↦
            let r = b.reached y h in
            (r.0, omega (arith, r.1, t.longer), state-old r.0 r.1 ∙ r.2, omega (arith, place-old r.0 r.1, r.3))
        | no h ↦
            let e : y ≡ n = omega arith in
            let r = t.holds (m.start n) refl in (
              r.0,
              r.1,
              r.2 ∙ ap m.start (sym e),
              elim (dec_lt r.0 (length es)) [
                | yes k ↦ omega (arith, place-old r.0 k, b.fits r.0 k)
                | no k ↦ omega (arith, (t.new r.0 (omega arith) r.1).1)
              ],
            )
      ];
    }

begun : (m : Machine) (n : ℕ) → Begun m n (started m n)
unfolding started
begun m zero =
    record {
      genuine = λ i l. absurd (omega arith);
      fits = λ i l. absurd (omega arith);
      order = λ i j l k. absurd (omega arith);
      reached = λ y l. absurd (omega arith);
    }
begun m (suc n) = begun_more m n (started m n) (meet (some (m.start n)) n (started m n)) (begun m n) (meets (some (m.start n)) n (started m n))

-- layer 0 is right
pub layer-start : (m : Machine) → Layer m 0 (started m m.starts) 0
unfolding state_after prefixes
layer-start m =
    let b = begun m m.starts in
    record {
      within = omega arith;
      genuine = λ i l k. ap some (b.genuine i k);
      fits = λ i l k. b.fits i k;
      order = λ i j l h k. b.order i j h k;
      reached = λ y s l e.
          let r = b.reached y l in
          let q : m.start y ≡ s = cc in
          record { index = r.0; below = r.1; same = r.2 ∙ q; first = λ _. r.3 };
      closed = λ i r s l. absurd (omega arith);
      quiet = λ i r l. absurd (omega arith);
    }

-- where there is a start place there is a state
pub some-start : (m : Machine) (n : ℕ) → 0 < n → 0 < length (started m n)
some-start m n l = omega (arith, ((begun m n).reached 0 l).1)
