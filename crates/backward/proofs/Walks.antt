-- The walk gives the first hit. Assumes nothing.
use mathlib.Core.Path.{◌≡◌, refl, sym, ap, ◌∙◌, subst}
use mathlib.Core.Bool.{Bool}
use mathlib.Core.Option.{Option, none, some}
use Prim.Native.Nat.{ℕ, zero, suc, ◌+◌, ◌-◌, ◌*◌, ◌/◌, ◌%◌, ◌≤◌, ◌<◌}
use native.Mathlib.Nat.{div-add-mod'}
use native.Mathlib.Decide.{dec_lt}
use native.Mathlib.Omega.{arith}
use lib.Dec.{T}
use Rattle.aiger.specs.Search.{least_below}
use Rattle.meaning.proofs.Decisions.{Least, least-below, FirstHit}
use Rattle.machine.specs.Machine.{Machine, prefixes, state_after, hits_at}
use Rattle.machine.proofs.Expand.{over, quotient-below, came}
use Rattle.machine.proofs.First.{first-is, none_is}
use Rattle.machine.proofs.Theorems.{QuietBefore}
use Rattle.backward.specs.Sets.{into, ahead, nearest, Inside}
use Rattle.backward.specs.Walk.{row_into, hit_row, taken, walk_from, walk, cut, Walking}
use Rattle.backward.proofs.Ahead.{into-in, into-out, hit-ahead, step-ahead}
use Rattle.backward.proofs.Frames.{next_fits, next-state, last-hit, from-state, passes, hit_starts, reached-nearest, reached-below}

-- ---- the least of two tests that agree

pub least-same : (p q : ℕ → Bool) (n : ℕ) → ((x : ℕ) → x < n → p x ≡ q x) → (o : Option ℕ) → Least p n o → Least q n o
least-same p q n e (some x) (l, h, f) = (l, subst T (e x l) h, λ y k t. f y k (subst T (sym (e y (omega arith))) t))
least-same p q n e none f = λ y k t. f y k (subst T (sym (e y k)) t)

pub into-same : (p q : ℕ → Bool) (o : Option ℕ) → ((x : ℕ) → o ≡ some x → p x ≡ q x) → into p o ≡ into q o
into-same p q none e = refl
into-same p q (some x) e = e x refl

-- where some number below n passes, one of them is the least
least-of : (p : ℕ → Bool) (n x : ℕ) → x < n → T (p x) → (r : ℕ) × Least p n (some r)
least-of p n x l h = go (least_below n p) (least-below p n)
  where
    go : (o : Option ℕ) → Least p n o → (r : ℕ) × Least p n (some r)
    go (some r) k = (r, k)
    go none f = absurd (f x l h)

-- a number before y * w + r, with y as its quotient or a later one: its quotient is y, and its rest is before r
pub before : (v y r w : ℕ) → r < w → v < y * w + r → y ≤ v / w → (v / w ≡ y) × (v % w < r)
before v y r w k l h =
    let b : v / w < suc y = quotient-below v (suc y) w (omega arith) in
    let e : v / w ≡ y = omega arith in
    let d : v / w * w + v % w ≡ v = div-add-mod' v w in
    let c : v / w * w ≡ y * w = ap (λ (n : ℕ). n * w) e in
    (e, omega arith)

pub one_state : {o : Option ℕ} {s x : ℕ} → o ≡ some s → o ≡ some x → s ≡ x
one_state a b = cc

module _ (m : Machine) where
  ahead-row : (j s : ℕ) → T (ahead m j s) → 0 < m.rows
  ahead-row zero s h = omega (arith, (hit-ahead m s h).1)
  ahead-row (suc j) s h = omega (arith, (step-ahead m j s h).1)

  -- the row by which a hit goes on from the state after its prefix of f frames
  pub row-taken : 0 < m.rows → (t f j y s x : ℕ) → t ≡ suc f + j → state_after m f y ≡ some s → T (hits_at m t x)
      → cut m (suc j) x / m.rows ≡ y → T (into (ahead m j) (m.step s (cut m (suc j) x % m.rows)))
  row-taken w t f j y s x e k h d =
      go (passes m w j (suc f) t x e h)
    where
      v : ℕ
      v = cut m (suc j) x

      at : (i a : ℕ) → state_after m f (v / m.rows) ≡ some i → m.step i (v % m.rows) ≡ some a → T (ahead m j a)
          → T (into (ahead m j) (m.step s (v % m.rows)))
      at i a b o g =
          let own : i ≡ s = one_state (subst (λ (n : ℕ). state_after m f n ≡ some i) d b) k in
          into-in (ahead m j) (m.step s (v % m.rows)) a (subst (λ (n : ℕ). m.step n (v % m.rows) ≡ some a) own o) g

      go : (a : ℕ) × (state_after m (suc f) (cut m (suc j) x) ≡ some a) × T (ahead m j a) → T (into (ahead m j) (m.step s (v % m.rows)))
      go (a, b, g) = let o = came m f v a b in at o.0 a o.1 o.2 g

  -- ---- the walk, frame by frame

  -- its start: the least start place from whose state frame t can be hit
  pub begin : (t y : ℕ) → Least (λ z. ahead m t (m.start z)) m.starts (some y) → Walking m t 0 0 y (m.start y)
  unfolding prefixes state_after
  begin t y (l, h, f) =
      let e : t ≡ t - 0 = omega arith in
      record {
        room = omega arith;
        fits = l;
        reached = refl;
        able = subst (λ (j : ℕ). T (ahead m j (m.start y))) e h;
        least = λ x _ k.
            let a = passes m (ahead-row t (m.start y) h) t 0 t x (omega arith) k in
            let z = cut m (suc t) x in
            let q : m.start z ≡ a.0 = cc in
            subst (λ (j : ℕ). y ≤ cut m (suc j) x) e
            (elim (dec_lt z y) [
              | yes d ↦ absurd (f z d (subst (λ (s : ℕ). T (ahead m t s)) (sym q) a.2))
              | no d ↦ omega arith
            ]);
        after = λ x _. omega arith;
      }

  module _ (t p f y s : ℕ) (w : Walking m t p f y s) where
    -- there is a row to go on with
    pub leads : f < t → (r : ℕ) × Least (λ r. into (ahead m (t - suc f)) (m.step s r)) m.rows (some r)
    leads l =
        let j = t - suc f in
        let a = step-ahead m j s (subst (λ (k : ℕ). T (ahead m k s)) (omega arith) w.able) in
        least-of (λ r. into (ahead m j) (m.step s r)) m.rows a.0 a.1 (into-in (ahead m j) (m.step s a.0) a.2 a.3 a.4)

    -- one frame more: the least row into the states from which frame t can be hit
    pub more : f < t → (r x : ℕ) → Least (λ r. into (ahead m (t - suc f)) (m.step s r)) m.rows (some r) → m.step s r ≡ some x
        → Walking m t p (suc f) (y * m.rows + r) x
    unfolding cut
    more l r x (k, h, g) e =
        let j = t - suc f in
        let d : t - f ≡ suc j = omega arith in
        record {
          room = omega arith;
          fits = next_fits m f y r w.fits k;
          reached = next-state m f y s r x k w.reached e;
          able = subst (λ (o : Option ℕ). T (into (ahead m j) o)) e h;
          least = λ z b c.
              let v = cut m (suc j) z in
              let u : y ≤ v / m.rows = subst (λ (i : ℕ). y ≤ cut m (suc i) z) d (w.least z b c) in
              elim (dec_lt v (y * m.rows + r)) [
                | yes q ↦
                    let n = before v y r m.rows k q u in
                    absurd (g (v % m.rows) n.1 (row-taken (omega arith) t f j y s z (omega arith) w.reached c n.0))
                | no q ↦ omega arith
              ];
          after = λ z c.
              w.after z (ap (λ (i : ℕ). cut m (suc i) z) d ∙ ap (λ (i : ℕ). i / m.rows) c ∙ over y r m.rows k);
        }

  module _ (t p y s : ℕ) (w : Walking m t p t y s) where
    -- there is a row that hits
    pub ends : (r : ℕ) × Least (m.hit s) m.rows (some r)
    ends =
        let a = hit-ahead m s (subst (λ (k : ℕ). T (ahead m k s)) (omega arith) w.able) in
        least-of (m.hit s) m.rows a.0 a.1 a.2

    -- its end: with the least row that hits, it is the first hit at or after p
    pub end : (r : ℕ) → Least (m.hit s) m.rows (some r) → FirstHit (hits_at m t) (prefixes m (suc t)) p (y * m.rows + r)
    unfolding cut
    end r (k, h, g) =
        let d : 0 ≡ t - t = omega arith in
        record {
          from = w.after (y * m.rows + r) (ap (λ (i : ℕ). cut m (suc i) (y * m.rows + r)) (sym d) ∙ over y r m.rows k);
          fits = next_fits m t y r w.fits k;
          first = λ z b q c.
              let u : y ≤ z / m.rows = subst (λ (i : ℕ). y ≤ cut m (suc i) z) (sym d) (w.least z b c) in
              let n = before z y r m.rows k q u in
              let a = from-state m t z c in
              let own : a.0 ≡ s = one_state (subst (λ (i : ℕ). state_after m t i ≡ some a.0) n.0 a.1) w.reached in
              g (z % m.rows) n.1 (subst (λ (i : ℕ). T (m.hit i (z % m.rows))) own a.2);
          hit = last-hit m t y s r k w.reached h;
        }

  -- the end of a walk from the first sequence
  pub end-first : (t y s r : ℕ) → Walking m t 0 t y s → Least (m.hit s) m.rows (some r)
      → least_below (prefixes m (suc t)) (hits_at m t) ≡ some (y * m.rows + r)
  end-first t y s r w h =
      let a = end t 0 y s w r h in
      first-is (hits_at m t) (prefixes m (suc t)) (y * m.rows + r) a.fits a.hit (λ z k c. a.first z (omega arith) k c)

  -- ---- the turns of the walk as a function

  walk_ends : (q : ℕ → ℕ → Bool) (y s r : ℕ) → hit_row m s ≡ some r → walk_from m q 0 y s ≡ some (y * m.rows + r)
  unfolding walk_from
  walk_ends q y s r e = ap (λ (o : Option ℕ). elim o [ some r ↦ some (y * m.rows + r) | none ↦ none ]) e

  walk-goes : (q : ℕ → ℕ → Bool) (j y s r x : ℕ) → row_into m (q j) s ≡ some r → m.step s r ≡ some x
      → walk_from m q (suc j) y s ≡ walk_from m q j (y * m.rows + r) x
  unfolding walk_from
  walk-goes q j y s r x e k =
      ap (taken m (walk_from m q j) y s) e
      ∙ ap (λ (o : Option ℕ). elim o [ some x ↦ walk_from m q j (y * m.rows + r) x | none ↦ none ]) k

  -- ---- tests that guide a walk

  -- on the states that are reached in frame f, test t - f says whether frame t can be hit
  abbrev pub Guides : ℕ → (ℕ → ℕ → Bool) → Type 0
  Guides t q = (f y s : ℕ) → f ≤ t → y < prefixes m f → state_after m f y ≡ some s → q (t - f) s ≡ ahead m (t - f) s

  module _ (n : ℕ) (inside : Inside m n) (t : ℕ) (q : ℕ → ℕ → Bool) where
    -- tests of exactly j frames
    pub guides-ahead : ((j s : ℕ) → j ≤ t → s < n → q j s ≡ ahead m j s) → Guides t q
    guides-ahead k f y s l b e = k (t - f) s (omega arith) (reached-below m n inside f y s b e)

    -- tests of the nearest hit, where no frame before t has a hit
    pub guides-nearest : QuietBefore m t → ((j s : ℕ) → j ≤ t → s < n → q j s ≡ nearest m j s) → Guides t q
    guides-nearest quiet k f y s l b e =
        k (t - f) s (omega arith) (reached-below m n inside f y s b e) ∙ reached-nearest m t quiet f (t - f) y s (omega arith) b e

  module _ (t : ℕ) (q : ℕ → ℕ → Bool) (guides : Guides t q) where
    pub guides-start : (y : ℕ) → y < m.starts → q t (m.start y) ≡ ahead m t (m.start y)
    unfolding prefixes state_after
    guides-start y l =
        let e : t - 0 ≡ t = omega arith in
        subst (λ (j : ℕ). q j (m.start y) ≡ ahead m j (m.start y)) e (guides 0 y (m.start y) (omega arith) l refl)

    guides-row : (p f y s : ℕ) → Walking m t p f y s → f < t → (r : ℕ) → r < m.rows
        → into (q (t - suc f)) (m.step s r) ≡ into (ahead m (t - suc f)) (m.step s r)
    guides-row p f y s w l r k =
        into-same (q (t - suc f)) (ahead m (t - suc f)) (m.step s r)
        (λ x e. guides (suc f) (y * m.rows + r) x (omega arith) (next_fits m f y r w.fits k) (next-state m f y s r x k w.reached e))

    pub begin-by : (y : ℕ) → Least (λ z. q t (m.start z)) m.starts (some y) → Walking m t 0 0 y (m.start y)
    begin-by y h = begin t y (least-same (λ z. q t (m.start z)) (λ z. ahead m t (m.start z)) m.starts guides-start (some y) h)

    pub more_by : (p f y s : ℕ) → Walking m t p f y s → f < t → (r x : ℕ)
        → Least (λ r. into (q (t - suc f)) (m.step s r)) m.rows (some r) → m.step s r ≡ some x
        → Walking m t p (suc f) (y * m.rows + r) x
    more_by p f y s w l r x h e =
        more t p f y s w l r x
        (least-same (λ r. into (q (t - suc f)) (m.step s r)) (λ r. into (ahead m (t - suc f)) (m.step s r)) m.rows
        (guides-row p f y s w l) (some r) h)
        e

    -- ---- the walk as a function

    pub walk_from_lem : (j p f y s : ℕ) → t - f ≡ j → Walking m t p f y s
        → (x : ℕ) × (walk_from m q j y s ≡ some x) × FirstHit (hits_at m t) (prefixes m (suc t)) p x
    walk_from_lem zero p f y s e w =
        let v : Walking m t p t y s = subst (λ (i : ℕ). Walking m t p i y s) (omega (arith, w.room)) w in
        let a = ends t p y s v in
        let b : hit_row m s ≡ some a.0 = first-is (m.hit s) m.rows a.0 a.1.0 a.1.1 a.1.2 in
        (y * m.rows + a.0, walk_ends q y s a.0 b, end t p y s v a.0 a.1)
    walk_from_lem (suc j) p f y s e w =
        let l : f < t = omega arith in
        let d : t - suc f ≡ j = omega arith in
        let a = leads t p f y s w l in
        let b = into-out (ahead m (t - suc f)) (m.step s a.0) a.1.1 in
        let c =
        least-same (λ r. into (ahead m (t - suc f)) (m.step s r)) (λ r. into (q (t - suc f)) (m.step s r)) m.rows
        (λ r k. sym (guides-row p f y s w l r k)) (some a.0) a.1 in
        let h : row_into m (q j) s ≡ some a.0 =
        subst (λ (i : ℕ). row_into m (q i) s ≡ some a.0) d
        (first-is (λ r. into (q (t - suc f)) (m.step s r)) m.rows a.0 c.0 c.1 c.2) in
        let g : m.step s a.0 ≡ some b.0 = b.1 in
        let v = walk_from_lem j p (suc f) (y * m.rows + a.0) b.0 d (more t p f y s w l a.0 b.0 a.1 g) in
        (v.0, walk-goes q j y s a.0 b.0 h g ∙ v.1, v.2)

    -- the walk gives the first hit of frame t, or none where there is none
    pub walk_first : walk m q t ≡ least_below (prefixes m (suc t)) (hits_at m t)
    unfolding walk
    walk_first = go (least_below m.starts (λ y. q t (m.start y))) (least-below (λ y. q t (m.start y)) m.starts)
      where
        go : (o : Option ℕ) → Least (λ y. q t (m.start y)) m.starts o
            → elim o [ some y ↦ walk_from m q t y (m.start y) | none ↦ none ] ≡ least_below (prefixes m (suc t)) (hits_at m t)
        go (some y) h =
            let a = walk_from_lem t 0 0 y (m.start y) (omega arith) (begin-by y h) in
            a.1
            ∙ sym (first-is (hits_at m t) (prefixes m (suc t)) a.0 a.2.fits a.2.hit (λ z k c. a.2.first z (omega arith) k c))
        go none h =
            sym (none_is (hits_at m t) (prefixes m (suc t))
            (λ x l k. let a = hit_starts m t x l k in h a.0 a.1 (subst T (sym (guides-start a.0 a.1)) a.2)))
