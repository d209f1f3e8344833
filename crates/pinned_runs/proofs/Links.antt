-- The bytes of a body that was read, and whether its run obeys the pins. Assumes nothing.
use mathlib.Core.Path.{◌≡◌, refl, sym, ap, ap₂, ◌∙◌, subst}
use mathlib.Core.Bool.{Bool, true, false, cond, ◌&&◌}
use mathlib.Core.List.{List, [], ◌∷◌, map}
use mathlib.Core.Option.{Option, none, some}
use Prim.Native.Nat.{ℕ, zero, suc, ◌+◌, ◌-◌, ◌*◌, ◌/◌, ◌%◌, ◌≤◌, ◌<◌}
use native.Mathlib.Nat.{div-add-mod', mod-lt, add_comm, mul-le-mul_right}
use native.Mathlib.Decide.{dec_lt}
use native.Mathlib.Omega.{arith}
use borrow.Author.Tests.{le-leb, lt-leb, lt-ltb, le-ltb, ltb-true, leb-true}
use lib.Arith.{digits_mod}
use lib.Dec.{T, leb, ltb, eqb}
use lib.ListN.{length, get_or}
use Rattle.aiger.specs.Lists.{every, from}
use Rattle.aiger.specs.Circuit.{Circuit}
use Rattle.aiger.specs.Frames.{Run}
use Rattle.aiger.specs.Witness.{Witness, read_run, confirms}
use Rattle.aiger.proofs.Tests.{and_left, and_right, and, T_true, true-T}
use Rattle.meaning.proofs.Lists.{every-at, every-all}
use Rattle.completions.specs.Either.{shows}
use Rattle.completions.specs.Forms.{SameForm}
use Rattle.witness.specs.Line.{values}
use Rattle.blocks.specs.Runs.{RunAt, BodyRead, Fits}
use Rattle.pins.specs.Pins.{is_held}
use Rattle.pinned_runs.specs.Obeys.{obeys_pin, obeys_row, obeys, pinned_shows}
use Rattle.pinned_runs.specs.Places.{place_pin, pin_at}
use Rattle.pinned_runs.proofs.Pinned.{true-false, Obeying}
use Rattle.pinned_runs.proofs.Verdicts.{Under}

-- ---- a row by its bytes

row-at : (q : ℕ → ℕ) (u : List ℕ) (n i at j : ℕ) → j < n → T (obeys_row q i (values u at n)) → T (obeys_pin (q (i + j)) (eqb (get_or u (at + j) 0) 49))
unfolding obeys_row
row-at q u zero i at j l t = absurd (omega arith)
row-at q u (suc n) i at zero l t =
    let e : i + 0 ≡ i = omega arith in
    let d : at + 0 ≡ at = omega arith in
    rw (e, d) (and_left (obeys_pin (q i) (eqb (get_or u at 0) 49)) (obeys_row q (suc i) (values u (suc at) n)) t)
row-at q u (suc n) i at (suc j) l t =
    let e : suc i + j ≡ i + suc j = omega arith in
    let d : suc at + j ≡ at + suc j = omega arith in
    subst (λ (x : ℕ). T (obeys_pin (q x) (eqb (get_or u (at + suc j) 0) 49))) e
    (subst (λ (x : ℕ). T (obeys_pin (q (suc i + j)) (eqb (get_or u x 0) 49))) d
    (row-at q u n (suc i) (suc at) j (omega arith) (and_right (obeys_pin (q i) (eqb (get_or u at 0) 49)) (obeys_row q (suc i) (values u (suc at) n)) t)))

row-all : (q : ℕ → ℕ) (u : List ℕ) (n i at : ℕ) → ((j : ℕ) → j < n → T (obeys_pin (q (i + j)) (eqb (get_or u (at + j) 0) 49))) → T (obeys_row q i (values u at n))
unfolding obeys_row
row-all q u zero i at h = tt
row-all q u (suc n) i at h =
    and (obeys_pin (q i) (eqb (get_or u at 0) 49)) (obeys_row q (suc i) (values u (suc at) n))
    (let e : i + 0 ≡ i = omega arith in
    let d : at + 0 ≡ at = omega arith in
    rw (e, d) at (h 0 (omega arith)))
    (row-all q u n (suc i) (suc at)
    (λ j l.
    let e : i + suc j ≡ suc i + j = omega arith in
    let d : at + suc j ≡ suc at + j = omega arith in
    subst (λ (x : ℕ). T (obeys_pin (q x) (eqb (get_or u (suc at + j) 0) 49))) e
    (subst (λ (x : ℕ). T (obeys_pin (q (i + suc j)) (eqb (get_or u x 0) 49))) d (h (suc j) (omega arith)))))

-- ---- the pin of a place

module _ (q : ℕ → ℕ) (first n end : ℕ) where
  -- the place of an input
  pub record Input (k : ℕ) : Type 0 where
    pub row : ℕ
    pub column : ℕ
    pub within : column < n
    pub place : k ≡ first + row * (n + 1) + column
    pub before : k < end
    pub pin : place_pin q first n end k ≡ q column

  pub place-free : (k : ℕ) → (leb first k && ltb k end && ltb ((k - first) % (n + 1)) n) ≡ false → place_pin q first n end k ≡ 2
  unfolding place_pin
  place-free k e = rw e

  pub place-input : (k : ℕ) → (leb first k && ltb k end && ltb ((k - first) % (n + 1)) n) ≡ true → Input k
  unfolding place_pin
  place-input k e =
      let t : T (leb first k && ltb k end && ltb ((k - first) % (n + 1)) n) = T_true e in
      let s = and_left (leb first k && ltb k end) (ltb ((k - first) % (n + 1)) n) t in
      let a : first ≤ k = leb-true first k (true-T (leb first k) (and_left (leb first k) (ltb k end) s)) in
      let b : k < end = ltb-true k end (true-T (ltb k end) (and_right (leb first k) (ltb k end) s)) in
      let d : (k - first) % (n + 1) < n = ltb-true ((k - first) % (n + 1)) n (true-T (ltb ((k - first) % (n + 1)) n) (and_right (leb first k && ltb k end) (ltb ((k - first) % (n + 1)) n) t)) in
      let split : (k - first) / (n + 1) * (n + 1) + (k - first) % (n + 1) ≡ k - first = div-add-mod' (k - first) (n + 1) in
      record {
        row = (k - first) / (n + 1);
        column = (k - first) % (n + 1);
        within = d;
        place = omega arith;
        before = b;
        pin = rw e;
      }

  pub input-pin : (row column : ℕ) → column < n → first + row * (n + 1) + column < end → place_pin q first n end (first + row * (n + 1) + column) ≡ q column
  unfolding place_pin
  input-pin row column l b =
      let k : ℕ = first + row * (n + 1) + column in
      let d : k - first ≡ row * (n + 1) + column = omega arith in
      let e : (k - first) % (n + 1) ≡ column = ap (λ (x : ℕ). x % (n + 1)) d ∙ digits_mod row {m = n + 1} {r = column} (omega arith) in
      rw (e, le-leb first k (omega arith), lt-ltb k end b, lt-ltb column n l)

-- ---- the run of a body

row_before : (row frames n column : ℕ) → row * (n + 1) + column < frames * (n + 1) → row < frames
row_before row frames n column h =
    elim (dec_lt row frames) [
      | yes l ↦ l
      | no l ↦ absurd (omega (arith, h, mul-le-mul_right {m = frames} {n = row} (n + 1) (omega arith)))
    ]

row_inside : (row frames n column : ℕ) → row < frames → column < n → row * (n + 1) + column < frames * (n + 1)
row_inside row frames n column h l =
    let a : (row + 1) * (n + 1) ≤ frames * (n + 1) = mul-le-mul_right {m = row + 1} {n = frames} (n + 1) (omega arith) in
    let b : (row + 1) * (n + 1) ≡ row * (n + 1) + (n + 1) = step row (n + 1) in
    omega (arith, a, b)
  where
    step : (r w : ℕ) → (r + 1) * w ≡ r * w + w
    step r w = omega arith

module _ (c : Circuit) (q : ℕ → ℕ) (frames : ℕ) (u : List ℕ) (r : Run) (R : RunAt c u frames r) where
  abbrev first : ℕ
  first = length c.latches + 1

  abbrev n : ℕ
  n = length c.inputs

  run-obeying : T (obeys q r) → Obeying (pin_at c q frames) u
  unfolding obeys
  run-obeying t k = go (leb first k && ltb k (first + frames * (n + 1)) && ltb ((k - first) % (n + 1)) n) refl
    where
      go : (b : Bool) → (leb first k && ltb k (first + frames * (n + 1)) && ltb ((k - first) % (n + 1)) n) ≡ b
          → T (obeys_pin (pin_at c q frames k) (eqb (get_or u k 0) 49))
      go false e = rw (place-free q first n (first + frames * (n + 1)) k e) tt
      go true e =
          let I = place-input q first n (first + frames * (n + 1)) k e in
          let l : I.row < frames = row_before I.row frames n I.column (omega (arith, I.place, I.before)) in
          let a : T (obeys_row q 0 (get_or r.rows I.row [])) = every-at (obeys_row q 0) r.rows I.row [] (omega (arith, R.frames-are)) t in
          let b = row-at q u n 0 (first + I.row * (n + 1)) I.column I.within (subst (λ (x : List Bool). T (obeys_row q 0 x)) (R.row_is I.row l) a) in
          let z : 0 + I.column ≡ I.column = omega arith in
          subst (λ (x : ℕ). T (obeys_pin x (eqb (get_or u k 0) 49))) (sym I.pin)
          (subst (λ (x : ℕ). T (obeys_pin (q I.column) (eqb (get_or u x 0) 49))) (sym I.place)
          (subst (λ (x : ℕ). T (obeys_pin (q x) (eqb (get_or u (first + I.row * (n + 1) + I.column) 0) 49))) z b))

  obeying-run : Obeying (pin_at c q frames) u → T (obeys q r)
  unfolding obeys
  obeying-run o = every-all (obeys_row q 0) r.rows [] one
    where
      one : (i : ℕ) → i < length r.rows → T (obeys_row q 0 (get_or r.rows i []))
      one i l =
          let k : i < frames = omega (arith, R.frames-are) in
          subst (λ (x : List Bool). T (obeys_row q 0 x)) (sym (R.row_is i k))
          (row-all q u n 0 (first + i * (n + 1))
          (λ j h.
          let z : j ≡ 0 + j = omega arith in
          let b : first + i * (n + 1) + j < first + frames * (n + 1) = omega (arith, row_inside i frames n j k h) in
          subst (λ (x : ℕ). T (obeys_pin (q x) (eqb (get_or u (first + i * (n + 1) + j) 0) 49))) z
          (subst (λ (x : ℕ). T (obeys_pin x (eqb (get_or u (first + i * (n + 1) + j) 0) 49)))
          (input-pin q first n (first + frames * (n + 1)) i j h b) (o (first + i * (n + 1) + j)))))

-- ---- a body that fits

module _ (c : Circuit) (q : ℕ → ℕ) (b : ℕ) where
  shows-some : (u : List ℕ) (x : Witness) → read_run c b u ≡ some x → shows c b u ≡ confirms c x
  unfolding shows
  shows-some u x e = ap (λ (o : Option Witness). elim o as (λ _. Bool) [ none ↦ false | some x ↦ confirms c x ]) e

  pinned-some : (u : List ℕ) (x : Witness) → read_run c b u ≡ some x → pinned_shows c q b u ≡ (confirms c x && obeys q x.run)
  unfolding pinned_shows
  pinned-some u x e = ap (λ (o : Option Witness). elim o as (λ _. Bool) [ none ↦ false | some x ↦ confirms c x && obeys q x.run ]) e

  pub under : {frames count : ℕ} {w : List ℕ} → Fits c b frames count w → Under (pin_at c q frames) (shows c b) (pinned_shows c q b) w
  under {frames} {count} {w} F =
      record {
        down = λ u h t.
            let B = F.form u h in
            let x : Witness = record { bad = b; run = B.run } in
            let s = subst T (pinned-some u x B.reads) t in (
              subst T (sym (shows-some u x B.reads)) (and_left (confirms c x) (obeys q B.run) s),
              run-obeying c q frames u B.run B.run_at (and_right (confirms c x) (obeys q B.run) s),
            );
        up = λ u h t o.
            let B = F.form u h in
            let x : Witness = record { bad = b; run = B.run } in
            subst T (sym (pinned-some u x B.reads))
            (and (confirms c x) (obeys q B.run) (subst T (shows-some u x B.reads) t) (obeying-run c q frames u B.run B.run_at o));
        past = λ k l. ap is_held (place-free q (length c.latches + 1) (length c.inputs) (length c.latches + 1 + frames * (length c.inputs + 1)) k (out k l));
      }
    where
      gone : (a b : Bool) → (a && false && b) ≡ false
      gone true b = refl
      gone false b = refl

      out : (k : ℕ) → length w ≤ k
          → (leb (length c.latches + 1) k && ltb k (length c.latches + 1 + frames * (length c.inputs + 1)) && ltb ((k - (length c.latches + 1)) % (length c.inputs + 1)) (length c.inputs)) ≡ false
      out k l =
          ap (λ (y : Bool). leb (length c.latches + 1) k && y && ltb ((k - (length c.latches + 1)) % (length c.inputs + 1)) (length c.inputs))
          (le-ltb k (length c.latches + 1 + frames * (length c.inputs + 1)) (omega (arith, F.inside)))
          ∙ gone (leb (length c.latches + 1) k) (ltb ((k - (length c.latches + 1)) % (length c.inputs + 1)) (length c.inputs))
