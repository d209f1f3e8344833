-- The walk, frame by frame. Assumes nothing.
use mathlib.Core.Path.{◌≡◌, refl, sym, ap, ap₂, ◌∙◌, subst}
use mathlib.Core.Bool.{Bool, true, false}
use mathlib.Core.List.{List}
use mathlib.Core.Option.{Option, none, some}
use Prim.Native.Nat.{ℕ, zero, suc, ◌+◌, ◌-◌, ◌*◌, ◌≤◌, ◌<◌}
use native.Mathlib.Decide.{dec_lt, ℕ_discrete}
use native.Mathlib.Omega.{arith}
use lib.Dec.{T}
use lib.ListN.{length, get_or, set, length-set}
use lib.Seq.{get_or-set_same, get_or-set_other}
use Rattle.aiger.specs.Search.{least_below}
use Rattle.aiger.proofs.Tests.{true-T, T_true}
use Rattle.meaning.proofs.Decisions.{Least}
use Rattle.diagrams.specs.Meaning.{Assignment}
use Rattle.machine.specs.Machine.{Machine, prefixes, hits_at}
use Rattle.machine.proofs.Theorems.{QuietBefore}
use Rattle.backward.specs.Sets.{into, ahead, nearest, Inside}
use Rattle.backward.specs.Walk.{Walking}
use Rattle.backward.proofs.Ahead.{into-out}
use Rattle.backward.proofs.Frames.{next_fits, next-state, reached-below}
use Rattle.backward.proofs.Walks.{Guides, guides-nearest, leads, ends, more_by, end-first, into-same}
use Rattle.state_sets.specs.declared.Shape.{Shape}
use Rattle.state_sets.specs.Meaning.{leads_to, row_value, adds}
use Rattle.state_sets.proofs.Rows.{least-row, leads-state, row-adds}
use Rattle.set_walk.specs.Walk.{bits_of, values_in, LeastRow, prefix_by, Setting, first_of, Walked, Ended}

-- rows of later frames do not matter
pub prefix-set : (m : Machine) (first : ℕ → ℕ) (y : ℕ) (trace : List ℕ) (i e f : ℕ) → f ≤ i → prefix_by m first y (set trace i e) f ≡ prefix_by m first y trace f
unfolding prefix_by
prefix-set m first y trace i e zero l = refl
prefix-set m first y trace i e (suc f) l =
    ap₂ (λ (a b : ℕ). a * m.rows + first b) (prefix-set m first y trace i e f (omega arith)) (get_or-set_other trace i f e 0 (λ q. omega arith))

pub prefix-last : (m : Machine) (first : ℕ → ℕ) (y : ℕ) (trace : List ℕ) (r f : ℕ) → f < length trace
    → prefix_by m first y (set trace f r) (suc f) ≡ prefix_by m first y trace f * m.rows + first r
unfolding prefix_by
prefix-last m first y trace r f l =
    ap₂ (λ (a b : ℕ). a * m.rows + first b) (prefix-set m first y trace f r f (omega arith)) (get_or-set_same trace f r 0 l)

pub prefix-none : (m : Machine) (first : ℕ → ℕ) (y : ℕ) (trace : List ℕ) → prefix_by m first y trace 0 ≡ y
unfolding prefix_by
prefix-none m first y trace = refl

module _ {level : ℕ} {m : Machine} {n : ℕ} {at : ℕ → Assignment} {s : Shape} {t : ℕ} {w table : List ℕ}
    (g : Setting level m n at s t w table) (y : ℕ) where
  guides : Guides m t (nearest m)
  guides = guides-nearest m n g.inside t (nearest m) g.quiet (λ j z l k. refl)

  pub walked_start : (bits trace : List ℕ) → Walking m t 0 0 y (m.start y) → bits_of bits ≡ at (m.start y) → Walked g y 0 bits trace
  unfolding prefix_by
  walked_start bits trace h e = record { state = m.start y; walking = h; here = e; fits = λ u l. absurd (omega arith) }

  module _ (f : ℕ) (bits trace : List ℕ) (h : Walked g y f bits trace) where
    state-below : h.state < n
    state-below = reached-below m n g.inside f (prefix_by m (first_of g) y trace f) h.state h.walking.fits h.walking.reached

    sets-in : (next : ℕ) → next ≤ suc t → (j z : ℕ) → j < next → z < n → values_in w table j (at z) ≡ nearest m j z
    sets-in next l j z k d = g.held.standing.sets j z (omega arith) d

    -- the least row of the table that leads on is the machine's
    least-of : (next : ℕ) → next ≤ suc t → (r : ℕ) (after : List ℕ) → LeastRow w table s.vars s.rows next bits after r → r < s.rows
        → Least (adds m next h.state) m.rows (some (first_of g r))
    least-of next nl r after a l =
        least-row m n g.inside at s.vars s.rows g.coded (values_in w table) g.held.standing.rows-of next r h.state
        (sets-in next nl) state-below (
          l,
          T_true (ap (row_value (values_in w table) s.vars next r) (sym h.here) ∙ a.on l),
          λ k d v. absurd (clash (sym (true-T _ v) ∙ ap (row_value (values_in w table) s.vars next k) (sym h.here) ∙ a.before k d)),
        )
      where
        clash : true ≡ false → ⊥
        clash e = let z : ◌≡◌ {A = ℕ} 0 1 = cc in omega arith

    -- there is such a row
    some-row : (next : ℕ) → next ≤ suc t → (r : ℕ) (after : List ℕ) → LeastRow w table s.vars s.rows next bits after r
        → (k : ℕ) × (k < m.rows) × T (adds m next h.state k) → r < s.rows
    some-row next nl r after a (k, kl, kh) = elim (dec_lt r s.rows) [
      | yes l ↦ l
      | no l ↦
          let like = g.held.standing.rows-of.like k in
          let fits = g.held.standing.rows-of.like-fits k kl in
          let v =
          row-adds m n g.inside at s.vars s.rows g.coded (values_in w table) g.held.standing.rows-of next k h.state
          (sets-in next nl) kl state-below in
          absurd
          (clash
          (sym (true-T (adds m next h.state k) kh) ∙ sym v ∙ ap (row_value (values_in w table) s.vars next like) (sym h.here)
          ∙ a.before like (omega (arith, a.most))))
    ]
      where
        clash : true ≡ false → ⊥
        clash e = let z : ◌≡◌ {A = ℕ} 0 1 = cc in omega arith

    -- one frame more
    pub walked_row : f < t → (next r : ℕ) (after : List ℕ) → next ≡ t - f → LeastRow w table s.vars s.rows next bits after r → r < s.rows
    walked_row l next r after e a =
        let j = t - suc f in
        let d : next ≡ suc j = omega arith in
        let b = leads m t 0 f (prefix_by m (first_of g) y trace f) h.state h.walking l in
        some-row next (omega arith) r after a (
          b.0,
          b.1.0,
          subst (λ (k : ℕ). T (adds m k h.state b.0)) (sym d) (nearer b.0 b.1.0 b.1.1),
        )
      where
        p : ℕ
        p = prefix_by m (first_of g) y trace f

        nearer : (k : ℕ) → k < m.rows → T (into (ahead m (t - suc f)) (m.step h.state k)) → T (into (nearest m (t - suc f)) (m.step h.state k))
        nearer k kl v =
            subst T
            (sym
            (into-same (nearest m (t - suc f)) (ahead m (t - suc f)) (m.step h.state k)
            (λ x e.
            guides (suc f) (p * m.rows + k) x (omega arith) (next_fits m f p k h.walking.fits kl)
            (next-state m f p h.state k x kl h.walking.reached e))))
            v

    pub walked_more : f < t → f < length trace → (next r : ℕ) (after : List ℕ) → next ≡ t - f → LeastRow w table s.vars s.rows next bits after r
        → Walked g y (suc f) after (set trace f r)
    walked_more l tl next r after e a =
        let j = t - suc f in
        let d : next ≡ suc j = omega arith in
        let rl = walked_row l next r after e a in
        let best : Least (λ k. into (nearest m j) (m.step h.state k)) m.rows (some (first_of g r)) =
        subst (λ (k : ℕ). Least (adds m k h.state) m.rows (some (first_of g r))) d (least-of next (omega arith) r after a rl) in
        let o = into-out (nearest m j) (m.step h.state (first_of g r)) best.1 in
        let x = o.0 in
        let k = g.held.standing.rows-of in
        let lead = leads-state m n g.inside at s.vars s.rows g.coded (values_in w table) k (first_of g r) h.state x (k.first_fits r rl) state-below o.1 in
        record {
          state = x;
          walking =
              subst (λ (p : ℕ). Walking m t 0 (suc f) p x) (sym (prefix-last m (first_of g) y trace r f tl))
              (more_by m t (nearest m) guides 0 f (prefix_by m (first_of g) y trace f) h.state h.walking l (first_of g r) x best o.1);
          here =
              a.moved rl (λ z. omega arith) ∙ ap (leads_to (values_in w table) s.vars r) h.here
              ∙ ap (λ (i : ℕ). leads_to (values_in w table) s.vars i (at h.state)) (sym (k.like-first r rl)) ∙ lead;
          fits = λ u ul. elim (ℕ_discrete u f) [
            | yes z ↦ omega (arith, ap (λ (i : ℕ). get_or (set trace f r) i 0) z, get_or-set_same trace f r 0 tl)
            | no z ↦ omega (arith, get_or-set_other trace f u r 0 z, h.fits u (omega arith))
          ];
        }

  pub walked-copied : (f : ℕ) (bits copy trace : List ℕ) → copy ≡ bits → Walked g y (suc f) bits trace → Walked g y (f + 1) copy trace
  walked-copied f bits copy trace e h =
      let one : suc f ≡ f + 1 = omega arith in
      subst (λ (i : ℕ). Walked g y i copy trace) one (subst (λ (b : List ℕ). Walked g y (suc f) b trace) (sym e) h)

  pub walked_at : (f : ℕ) (bits trace : List ℕ) → f ≡ t → Walked g y f bits trace → Walked g y t bits trace
  walked_at f bits trace e h = subst (λ (i : ℕ). Walked g y i bits trace) e h

  -- the last frame
  module _ (bits trace : List ℕ) (h : Walked g y t bits trace) where
    pub walked_end : t < length trace → (r : ℕ) (after : List ℕ) → LeastRow w table s.vars s.rows 0 bits after r
        → (r < s.rows) × Ended g y (set trace t r) true
    walked_end tl r after a =
        let b = ends m t 0 (prefix_by m (first_of g) y trace t) h.state h.walking in
        let rl = some-row t bits trace h 0 (omega arith) r after a (b.0, b.1.0, b.1.1) in
        let best = least-of t bits trace h 0 (omega arith) r after a rl in (
          rl,
          record {
            done = refl;
            first =
                end-first m t (prefix_by m (first_of g) y trace t) h.state (first_of g r) h.walking best
                ∙ ap some (sym (prefix-last m (first_of g) y trace r t tl));
            fits = λ u ul. elim (ℕ_discrete u t) [
              | yes z ↦ omega (arith, ap (λ (i : ℕ). get_or (set trace t r) i 0) z, get_or-set_same trace t r 0 tl)
              | no z ↦ omega (arith, get_or-set_other trace t u r 0 z, h.fits u (omega arith))
            ];
          },
        )
