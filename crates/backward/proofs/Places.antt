-- The first hit at or after a sequence. Assumes nothing.
use mathlib.Core.Path.{◌≡◌, refl, sym, ap, ◌∙◌, subst}
use mathlib.Core.Bool.{Bool, ◌&&◌}
use mathlib.Core.Option.{Option, none, some}
use Prim.Native.Nat.{ℕ, zero, suc, ◌+◌, ◌-◌, ◌*◌, ◌/◌, ◌%◌, ◌≤◌, ◌<◌}
use native.Mathlib.Nat.{mod-lt, div-lt_iff_lt-mul, div-add-mod'}
use native.Mathlib.Decide.{dec_lt, ℕ_discrete}
use native.Mathlib.Omega.{arith}
use lib.Dec.{T, leb, ltb, leb→le, le→leb, ltb→lt, lt→ltb}
use Rattle.aiger.specs.Search.{least_below, onward, first_from}
use Rattle.aiger.proofs.Tests.{and, and_left, and_right}
use Rattle.meaning.proofs.Decisions.{Least, least-below, NoneFrom, FirstHit, first-from}
use Rattle.machine.specs.Machine.{Machine, prefixes, stepped, state_after, hits_at}
use Rattle.machine.proofs.Expand.{came}
use Rattle.machine.proofs.First.{none_is}
use Rattle.backward.specs.Sets.{into, ahead}
use Rattle.backward.specs.Walk.{taken, walk_from, cut, prefix_of, Walking}
use Rattle.backward.specs.Place.{row_of, later, later_hit, later_start, Passed, NoTurn, or_else, seek_from, seek}
use Rattle.backward.proofs.Ahead.{into-out}
use Rattle.backward.proofs.Frames.{next_fits, next-state, last-hit, from-state, some-row, passes, cut_fits}
use Rattle.backward.proofs.Walks.{least-same, into-same, before, row-taken, one_state, Guides, guides-start, walk_from_lem}

-- ---- quotients in order

quotients : (a b w : ℕ) → 0 < w → a ≤ b → a / w ≤ b / w
quotients a b w k l = elim (dec_lt (b / w) (a / w)) [
  | yes d ↦
      let c : b < a / w * w = (div-lt_iff_lt-mul {k = w} {x = b} {y = a / w} k).0 d in
      let e : a / w * w + a % w ≡ a = div-add-mod' a w in
      absurd (omega arith)
  | no d ↦ omega arith
]

-- of two numbers with one quotient the greater has the greater rest
rests : (a b w : ℕ) → a / w ≡ b / w → a < b → a % w < b % w
rests a b w e l =
    let c : a / w * w + a % w ≡ a = div-add-mod' a w in
    let d : b / w * w + b % w ≡ b = div-add-mod' b w in
    let g : a / w * w ≡ b / w * w = ap (λ (n : ℕ). n * w) e in
    omega arith

module _ (m : Machine) where
  -- a later sequence has the same prefix or a later one
  pub cuts : 0 < m.rows → (k x z : ℕ) → x ≤ z → cut m k x ≤ cut m k z
  unfolding cut
  cuts w zero x z l = l
  cuts w (suc k) x z l = quotients (cut m k x) (cut m k z) m.rows w (cuts w k x z l)

  module _ (t p : ℕ) (fits : p < prefixes m (suc t)) where
    rows : 0 < m.rows
    rows = some-row m t p fits

    prefix-fits : (f : ℕ) → f ≤ t → prefix_of m t f p < prefixes m f
    prefix-fits f l = cut_fits m (t - f) f t p (omega arith) fits

    -- ---- no hit begins as p does

    -- the prefix of f frames leads to no state from which frame t can be hit
    pub passed-dead : (f : ℕ) → f ≤ t → ((s : ℕ) → state_after m f (prefix_of m t f p) ≡ some s → T (ahead m (t - f) s) → ⊥) → Passed m t p f
    passed-dead f l k x b e h =
        let a = passes m rows (t - f) f t x (omega arith) h in
        k a.0 (subst (λ (y : ℕ). state_after m f y ≡ some a.0) e a.1) a.2

    -- in the last frame no row from p's own on hits
    pub passed-last : (s : ℕ) → state_after m t (p / m.rows) ≡ some s → Least (later_hit m s (p % m.rows)) m.rows none → Passed m t p t
    unfolding cut
    passed-last s k f x b e h =
        let a = from-state m t x h in
        let d : x / m.rows ≡ p / m.rows = subst (λ (i : ℕ). cut m (suc i) x ≡ cut m (suc i) p) {x = t - t} {y = 0} (omega arith) e in
        let own : a.0 ≡ s = one_state (subst (λ (y : ℕ). state_after m t y ≡ some a.0) d a.1) k in
        let c : x / m.rows * m.rows + x % m.rows ≡ x = div-add-mod' x m.rows in
        let g : p / m.rows * m.rows + p % m.rows ≡ p = div-add-mod' p m.rows in
        let v : x / m.rows * m.rows ≡ p / m.rows * m.rows = ap (λ (n : ℕ). n * m.rows) d in
        f (x % m.rows) (mod-lt x rows)
        (and (leb (p % m.rows) (x % m.rows)) (m.hit s (x % m.rows)) (le→leb (p % m.rows) (x % m.rows) (omega arith))
        (subst (λ (i : ℕ). T (m.hit i (x % m.rows))) own a.2))

    -- one frame up
    pub passed-up : (f : ℕ) → f < t → Passed m t p (suc f) → NoTurn m t p f → Passed m t p f
    unfolding cut
    passed-up f l k n x b e h =
        let j = t - suc f in
        let d : t - f ≡ suc j = omega arith in
        let u = cut m (suc j) p in
        let v = cut m (suc j) x in
        let g : v / m.rows ≡ u / m.rows = subst (λ (i : ℕ). cut m (suc i) x ≡ cut m (suc i) p) d e in
        elim (ℕ_discrete v u) [
          | yes q ↦ k x b q h
          | no q ↦
              let a = passes m rows (suc j) f t x (omega arith) h in
              let o : state_after m f (u / m.rows) ≡ some a.0 = subst (λ (y : ℕ). state_after m f y ≡ some a.0) g a.1 in
              let i = row-taken m rows t f j (u / m.rows) a.0 x (omega arith) o h g in
              let c : u % m.rows < v % m.rows = rests u v m.rows (sym g) (omega (arith, cuts rows (suc j) p x b)) in
              n a.0 (v % m.rows) (subst (λ (i : ℕ). state_after m f (cut m (suc i) p) ≡ some a.0) (sym d) o) (mod-lt v rows)
              (and (ltb (row_of m t f p) (v % m.rows)) (into (ahead m j) (m.step a.0 (v % m.rows)))
              (lt→ltb (row_of m t f p) (v % m.rows) (subst (λ (i : ℕ). cut m i p % m.rows < v % m.rows) (sym d) c)) i)
        ]

    -- several frames up
    pub passed-levels : (f g : ℕ) → g ≤ f → f ≤ t → Passed m t p f → ((h : ℕ) → g ≤ h → h < f → NoTurn m t p h) → Passed m t p g
    passed-levels zero g l k b n = subst (Passed m t p) (omega arith) b
    passed-levels (suc f) g l k b n = elim (ℕ_discrete g (suc f)) [
      | yes e ↦ subst (Passed m t p) (sym e) b
      | no e ↦
          let c = passed-up f (omega arith) b (n f (omega arith) (omega arith)) in
          passed-levels f g (omega arith) (omega arith) c (λ h i d. n h i (omega arith))
    ]

    -- ---- where p is left

    -- in the last frame: the first row from p's own on that hits
    pub last_turn : (s r : ℕ) → state_after m t (p / m.rows) ≡ some s → Least (later_hit m s (p % m.rows)) m.rows (some r)
        → FirstHit (hits_at m t) (prefixes m (suc t)) p (p / m.rows * m.rows + r)
    unfolding cut
    last_turn s r k (l, h, f) =
        let y = p / m.rows in
        let d = p % m.rows in
        let g : y * m.rows + d ≡ p = div-add-mod' p m.rows in
        let yl : y < prefixes m t = cut_fits m 0 t t p (omega arith) fits in
        record {
          from = omega (arith, leb→le d r (and_left (leb d r) (m.hit s r) h));
          fits = next_fits m t y r yl l;
          first = λ z b q c.
              let n = before z y r m.rows l q (quotients p z m.rows rows b) in
              let a = from-state m t z c in
              let own : a.0 ≡ s = one_state (subst (λ (i : ℕ). state_after m t i ≡ some a.0) n.0 a.1) k in
              let o : z / m.rows * m.rows + z % m.rows ≡ z = div-add-mod' z m.rows in
              let v : z / m.rows * m.rows ≡ y * m.rows = ap (λ (n : ℕ). n * m.rows) n.0 in
              f (z % m.rows) n.1
              (and (leb d (z % m.rows)) (m.hit s (z % m.rows)) (le→leb d (z % m.rows) (omega arith))
              (subst (λ (i : ℕ). T (m.hit i (z % m.rows))) own a.2));
          hit = last-hit m t y s r l k (and_right (leb d r) (m.hit s r) h);
        }

    -- in a frame before it: the first row after p's own into the states from which frame t can be hit
    pub turn : (f s r x : ℕ) → f < t → Passed m t p (suc f) → state_after m f (prefix_of m t f p) ≡ some s
        → Least (later m (ahead m (t - suc f)) s (row_of m t f p)) m.rows (some r) → m.step s r ≡ some x
        → Walking m t p (suc f) (prefix_of m t f p * m.rows + r) x
    unfolding cut
    turn f s r x l k o (rl, h, g) e =
        let j = t - suc f in
        let d : t - f ≡ suc j = omega arith in
        let y = prefix_of m t f p in
        let u = cut m (suc j) p in
        let yu : u / m.rows ≡ y = ap (λ (i : ℕ). cut m (suc i) p) (sym d) in
        let du : row_of m t f p ≡ u % m.rows = ap (λ (i : ℕ). cut m i p % m.rows) d in
        let up : u / m.rows * m.rows + u % m.rows ≡ u = div-add-mod' u m.rows in
        let uy : u / m.rows * m.rows ≡ y * m.rows = ap (λ (n : ℕ). n * m.rows) yu in
        let low = ltb (row_of m t f p) r in
        let goes = into (ahead m j) (m.step s r) in
        let dr : row_of m t f p < r = ltb→lt (row_of m t f p) r (and_left low goes h) in
        record {
          room = omega arith;
          fits = next_fits m f y r (prefix-fits f (omega arith)) rl;
          reached = next-state m f y s r x rl o e;
          able = subst (λ (i : Option ℕ). T (into (ahead m j) i)) e (and_right low goes h);
          least = λ z b c.
              let v = cut m (suc j) z in
              let uv : u ≤ v = cuts rows (suc j) p z b in
              let ne : v ≡ u → ⊥ = λ q. k z b q c in
              elim (dec_lt v (y * m.rows + r)) [
                | yes q ↦
                    let n = before v y r m.rows rl q (omega (arith, quotients u v m.rows rows uv)) in
                    let i = row-taken m rows t f j y s z (omega arith) o c n.0 in
                    let w : u % m.rows < v % m.rows = rests u v m.rows (yu ∙ sym n.0) (omega arith) in
                    absurd (g (v % m.rows) n.1
                    (and (ltb (row_of m t f p) (v % m.rows)) (into (ahead m j) (m.step s (v % m.rows)))
                    (lt→ltb (row_of m t f p) (v % m.rows) (omega arith)) i))
                | no q ↦ omega arith
              ];
          after = λ z c.
              elim (dec_lt z p) [
                | yes q ↦ absurd (omega (arith, cuts rows (suc j) z p (omega arith)))
                | no q ↦ omega arith
              ];
        }

    -- the deepest frame at which p can be left, above a frame with which no hit goes on
    pub turn-deepest : (f g s r x : ℕ) → g < f → f ≤ t → Passed m t p f → ((h : ℕ) → g < h → h < f → NoTurn m t p h)
        → state_after m g (prefix_of m t g p) ≡ some s → Least (later m (ahead m (t - suc g)) s (row_of m t g p)) m.rows (some r)
        → m.step s r ≡ some x → Walking m t p (suc g) (prefix_of m t g p * m.rows + r) x
    turn-deepest f g s r x l k b n o h e =
        turn g s r x (omega arith) (passed-levels f (suc g) (omega arith) k b (λ i c d. n i (omega arith) d)) o h e

    -- at the start: the first start place after p's own from whose state frame t can be hit
    pub start-turn : (y : ℕ) → Passed m t p 0 → Least (later_start m (ahead m t) (cut m (suc t) p)) m.starts (some y)
        → Walking m t p 0 y (m.start y)
    unfolding prefixes state_after
    start-turn y k (l, h, g) =
        let e : t ≡ t - 0 = omega arith in
        let u = cut m (suc t) p in
        let uy : u < y = ltb→lt u y (and_left (ltb u y) (ahead m t (m.start y)) h) in
        record {
          room = omega arith;
          fits = l;
          reached = refl;
          able = subst (λ (j : ℕ). T (ahead m j (m.start y))) e (and_right (ltb u y) (ahead m t (m.start y)) h);
          least = λ x b c.
              let a = passes m rows t 0 t x (omega arith) c in
              let z = cut m (suc t) x in
              let q : m.start z ≡ a.0 = cc in
              let uz : u ≤ z = cuts rows (suc t) p x b in
              let ne : z ≡ u → ⊥ = λ i. k x b (subst (λ (j : ℕ). cut m (suc j) x ≡ cut m (suc j) p) e i) c in
              subst (λ (j : ℕ). y ≤ cut m (suc j) x) e
              (elim (dec_lt z y) [
                | yes d ↦
                    absurd (g z d
                    (and (ltb u z) (ahead m t (m.start z)) (lt→ltb u z (omega arith)) (subst (λ (s : ℕ). T (ahead m t s)) (sym q) a.2)))
                | no d ↦ omega arith
              ]);
          after = λ x c.
              elim (dec_lt x p) [
                | yes q ↦
                    let v : cut m (suc t) x ≡ y = subst (λ (j : ℕ). cut m (suc j) x ≡ y) (sym e) c in
                    absurd (omega (arith, cuts rows (suc t) x p (omega arith)))
                | no q ↦ omega arith
              ];
        }

    -- no later start place: no hit at or after p
    pub none_after : Passed m t p 0 → Least (later_start m (ahead m t) (cut m (suc t) p)) m.starts none
        → NoneFrom (hits_at m t) p (prefixes m (suc t))
    unfolding prefixes state_after
    none_after k g x b l c =
        let e : t ≡ t - 0 = omega arith in
        let u = cut m (suc t) p in
        let z = cut m (suc t) x in
        let a = passes m rows t 0 t x (omega arith) c in
        let q : m.start z ≡ a.0 = cc in
        let uz : u ≤ z = cuts rows (suc t) p x b in
        let ne : z ≡ u → ⊥ = λ i. k x b (subst (λ (j : ℕ). cut m (suc j) x ≡ cut m (suc j) p) e i) c in
        g z (cut_fits m t 0 t x (omega arith) l)
        (and (ltb u z) (ahead m t (m.start z)) (lt→ltb u z (omega arith)) (subst (λ (s : ℕ). T (ahead m t s)) (sym q) a.2))

    -- ---- the first hit at or after p, as a function

    -- what it says of the hits that begin with p's prefix of f frames
    abbrev Answers : ℕ → Option ℕ → Type 0
    Answers f (some x) = FirstHit (hits_at m t) (prefixes m (suc t)) p x
    Answers f none = Passed m t p f

    or-else : (f g : ℕ) (a b : Option ℕ) → Answers f a → (Passed m t p f → Answers g b) → Answers g (or_else a b)
    or-else f g none b h k = k h
    or-else f g (some x) b h k = h

    -- what it says of all hits from p on
    abbrev Ends : Option ℕ → Type 0
    Ends (some x) = FirstHit (hits_at m t) (prefixes m (suc t)) p x
    Ends none = NoneFrom (hits_at m t) p (prefixes m (suc t))

    ended : (o : Option ℕ) → Ends o → o ≡ first_from (hits_at m t) (prefixes m (suc t)) p
    ended (some x) h = sym (first-from (hits_at m t) h)
    ended none h =
        sym (none_is (onward p (hits_at m t)) (prefixes m (suc t))
        (λ x l k. h x (leb→le p x (and_left (leb p x) (hits_at m t x) k)) l (and_right (leb p x) (hits_at m t x) k)))

    module _ (q : ℕ → ℕ → Bool) (guides : Guides m t q) where
      walked : (j f g y s : ℕ) → t - f ≡ j → Walking m t p f y s → Answers g (walk_from m q j y s)
      walked j f g y s e w = let a = walk_from_lem m t q guides j p f y s e w in subst (Answers g) (sym a.1) a.2

      whole : (s : ℕ) → state_after m t (prefix_of m t t p) ≡ some s → state_after m t (p / m.rows) ≡ some s
      unfolding cut
      whole s h = subst (λ (i : ℕ). state_after m t (cut m (suc i) p) ≡ some s) {x = t - t} {y = 0} (omega arith) h

      seeks-last : (s : ℕ) → state_after m t (p / m.rows) ≡ some s → Answers t (seek_from m q p 0 s)
      unfolding seek_from
      seeks-last s k = go (least_below m.rows (later_hit m s (p % m.rows))) (least-below (later_hit m s (p % m.rows)) m.rows)
        where
          go : (o : Option ℕ) → Least (later_hit m s (p % m.rows)) m.rows o
              → Answers t (elim o [ some r ↦ some (p / m.rows * m.rows + r) | none ↦ none ])
          go (some r) h = last_turn s r k h
          go none h = passed-last s k h

      -- the tests agree on where the rows lead
      later_same : (f s : ℕ) → f < t → state_after m f (prefix_of m t f p) ≡ some s → (d r : ℕ) → r < m.rows
          → later m (q (t - suc f)) s d r ≡ later m (ahead m (t - suc f)) s d r
      later_same f s l k d r h =
          ap (λ (b : Bool). ltb d r && b)
          (into-same (q (t - suc f)) (ahead m (t - suc f)) (m.step s r)
          (λ x e.
          guides (suc f) (prefix_of m t f p * m.rows + r) x (omega arith)
          (next_fits m f (prefix_of m t f p) r (prefix-fits f (omega arith)) h)
          (next-state m f (prefix_of m t f p) s r x h k e)))

      -- p is left in frame f
      leaves : (f s : ℕ) → f < t → state_after m f (prefix_of m t f p) ≡ some s → Passed m t p (suc f) → (o : Option ℕ)
          → Least (later m (q (t - suc f)) s (row_of m t f p)) m.rows o
          → Answers f (taken m (walk_from m q (t - suc f)) (prefix_of m t f p) s o)
      leaves f s l k b (some r) h =
          let j = t - suc f in
          let d = row_of m t f p in
          let y = prefix_of m t f p * m.rows + r in
          let c = least-same (later m (q j) s d) (later m (ahead m j) s d) m.rows (later_same f s l k d) (some r) h in
          let a = into-out (ahead m j) (m.step s r) (and_right (ltb d r) (into (ahead m j) (m.step s r)) c.1) in
          subst (λ (o : Option ℕ). Answers f (elim o [ some x ↦ walk_from m q j y x | none ↦ none ])) (sym a.1)
          (walked j (suc f) f y a.0 refl (turn f s r a.0 l b k c a.1))
      leaves f s l k b none h =
          passed-up f l b
          (λ i r e d c.
          let own : i ≡ s = one_state e k in
          h r d
          (subst T (sym (later_same f s l k (row_of m t f p) r d))
          (subst (λ (n : ℕ). T (later m (ahead m (t - suc f)) n (row_of m t f p) r)) own c)))

      -- p's own row leads nowhere
      stopped : (f s : ℕ) → f < t → state_after m f (prefix_of m t f p) ≡ some s → m.step s (row_of m t f p) ≡ none → Passed m t p (suc f)
      unfolding cut
      stopped f s l k e =
          let j = t - suc f in
          let d : t - f ≡ suc j = omega arith in
          passed-dead (suc f) (omega arith)
          (λ x h _.
          let a = came m f (cut m (suc j) p) x h in
          let own : a.0 ≡ s = one_state a.1 (subst (λ (i : ℕ). state_after m f (cut m (suc i) p) ≡ some s) d k) in
          let v = cut m (suc j) p % m.rows in
          let g : m.step s v ≡ some x = subst (λ (i : ℕ). m.step i v ≡ some x) own a.2 in
          let o : m.step s v ≡ none = subst (λ (i : ℕ). m.step s (cut m i p % m.rows) ≡ none) d e in
          let z : ◌≡◌ {A = ℕ} 0 1 = cc in
          omega arith)

      -- p's own row leads on
      goes_on : (f s x : ℕ) → f < t → state_after m f (prefix_of m t f p) ≡ some s → m.step s (row_of m t f p) ≡ some x
          → state_after m (suc f) (prefix_of m t (suc f) p) ≡ some x
      unfolding cut state_after
      goes_on f s x l k e =
          let j = t - suc f in
          let d : t - f ≡ suc j = omega arith in
          let v = cut m (suc j) p in
          ap (λ (o : Option ℕ). stepped m o (v % m.rows)) (subst (λ (i : ℕ). state_after m f (cut m (suc i) p) ≡ some s) d k)
          ∙ subst (λ (i : ℕ). m.step s (cut m i p % m.rows) ≡ some x) d e

      -- from state s by the first row after p's own, with i frames to go after it and n rows of p from it on
      abbrev turned : ℕ → ℕ → ℕ → Option ℕ
      turned s i n = taken m (walk_from m q i) (cut m (suc n) p) s (least_below m.rows (later m (q i) s (cut m n p % m.rows)))

      -- the same with j in place of t - f - 1
      leaves_at : (f s j : ℕ) → f < t → t - suc f ≡ j → t - f ≡ suc j → state_after m f (prefix_of m t f p) ≡ some s → Passed m t p (suc f)
          → Answers f (turned s j (suc j))
      leaves_at f s j l a b k h =
          subst (λ (n : ℕ). Answers f (turned s j n)) b
          (subst (λ (n : ℕ). Answers f (turned s n (t - f))) a
          (leaves f s l k h (least_below m.rows (later m (q (t - suc f)) s (row_of m t f p)))
          (least-below (later m (q (t - suc f)) s (row_of m t f p)) m.rows)))

      follows-own : (f s j : ℕ) → f < t → t - f ≡ suc j → state_after m f (prefix_of m t f p) ≡ some s
          → ((x : ℕ) → state_after m (suc f) (prefix_of m t (suc f) p) ≡ some x → Answers (suc f) (seek_from m q p j x))
          → (o : Option ℕ) → m.step s (cut m (suc j) p % m.rows) ≡ o
          → Answers (suc f) (elim o [ some x ↦ seek_from m q p j x | none ↦ none ])
      follows-own f s j l e k h (some x) d = h x (goes_on f s x l k (subst (λ (n : ℕ). m.step s (cut m n p % m.rows) ≡ some x) (sym e) d))
      follows-own f s j l e k h none d = stopped f s l k (subst (λ (n : ℕ). m.step s (cut m n p % m.rows) ≡ none) (sym e) d)

      seeks : (j f s : ℕ) → f ≤ t → t - f ≡ j → state_after m f (prefix_of m t f p) ≡ some s → Answers f (seek_from m q p j s)
      unfolding seek_from
      seeks zero f s l e k =
          let ft : t ≡ f = omega arith in
          subst (λ (i : ℕ). Answers i (seek_from m q p 0 s)) ft
          (seeks-last s (whole s (subst (λ (i : ℕ). state_after m i (prefix_of m t i p) ≡ some s) (sym ft) k)))
      seeks (suc j) f s l e k =
          let own = m.step s (cut m (suc j) p % m.rows) in
          or-else (suc f) f (elim own [ some x ↦ seek_from m q p j x | none ↦ none ])
          (turned s j (suc j))
          (follows-own f s j (omega arith) e k (λ x h. seeks j (suc f) x (omega arith) (omega arith) h) own refl)
          (leaves_at f s j (omega arith) (omega arith) e k)

      -- ---- the start

      start-same : (y d : ℕ) → y < m.starts → later_start m (q t) d y ≡ later_start m (ahead m t) d y
      start-same y d l = ap (λ (b : Bool). ltb d y && b) (guides-start m t q guides y l)

      -- the walk from a start place, if there is one
      abbrev elsewhere : Option ℕ → Option ℕ
      elsewhere o = elim o [ some y ↦ walk_from m q t y (m.start y) | none ↦ none ]

      -- no hit begins with p's start place
      started : (o : Option ℕ) → Passed m t p 0 → Least (later_start m (q t) (cut m (suc t) p)) m.starts o
          → Ends (elsewhere o)
      started (some y) b h =
          let u = cut m (suc t) p in
          let c = least-same (later_start m (q t) u) (later_start m (ahead m t) u) m.starts (λ z l. start-same z u l) (some y) h in
          let a = walk_from_lem m t q guides t p 0 y (m.start y) (omega arith) (start-turn y b c) in
          subst Ends (sym a.1) a.2
      started none b h =
          let u = cut m (suc t) p in
          none_after b (least-same (later_start m (q t) u) (later_start m (ahead m t) u) m.starts (λ z l. start-same z u l) none h)

      own-start : Answers 0 (seek_from m q p t (m.start (cut m (suc t) p)))
      unfolding state_after
      own-start =
          let e : t - 0 ≡ t = omega arith in
          seeks t 0 (m.start (cut m (suc t) p)) (omega arith) e (ap (λ (i : ℕ). some (m.start (cut m (suc i) p))) e)

      -- the first hit at or after p, or none where there is none
      pub seek-first : seek m q t p ≡ first_from (hits_at m t) (prefixes m (suc t)) p
      unfolding seek
      seek-first =
          let y = cut m (suc t) p in
          go (seek_from m q p t (m.start y)) own-start
        where
          go : (o : Option ℕ) → Answers 0 o
              → or_else o (elsewhere (least_below m.starts (later_start m (q t) (cut m (suc t) p))))
              ≡ first_from (hits_at m t) (prefixes m (suc t)) p
          go (some x) h = ended (some x) h
          go none h =
              ended (elsewhere (least_below m.starts (later_start m (q t) (cut m (suc t) p))))
              (started (least_below m.starts (later_start m (q t) (cut m (suc t) p))) h
              (least-below (later_start m (q t) (cut m (suc t) p)) m.starts))
