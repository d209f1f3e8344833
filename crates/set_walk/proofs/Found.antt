-- What is found of a set's start states says whether its frame has a hit, and where the walk begins. Assumes nothing.
use mathlib.Core.Path.{◌≡◌, refl, sym, ap, ap₂, ◌∙◌, subst}
use mathlib.Core.Bool.{Bool, true, false, cond}
use mathlib.Core.List.{List}
use mathlib.Core.Option.{Option, none, some}
use Prim.Native.Nat.{ℕ, suc, ◌≤◌, ◌<◌}
use native.Mathlib.Omega.{arith}
use borrow.Author.Tests.{eqb-true, eqb-false}
use lib.Dec.{T, eqb}
use lib.ListN.{length, get_or}
use Rattle.aiger.specs.Frames.{free_bit}
use Rattle.aiger.proofs.Tests.{true-T, T_true}
use Rattle.meaning.proofs.Decisions.{Least}
use Rattle.diagrams.specs.States.{State, Outcome, outcome}
use Rattle.diagrams.specs.Meaning.{Assignment, value, In, Front, Terms, Good, Answer, no_edge, is-edge, Right}
use Rattle.diagrams.specs.declared.Vertex.{Vertex}
use Rattle.diagrams.proofs.Values.{value-false, front_same, front-more, front-in, front-value}
use Rattle.machine.specs.Machine.{Machine}
use Rattle.machine.proofs.Theorems.{Quiet, QuietBefore}
use Rattle.backward.specs.Sets.{nearest, Inside}
use Rattle.backward.specs.Walk.{Walking}
use Rattle.backward.proofs.Frames.{quiet_frame}
use Rattle.backward.proofs.Walks.{guides-nearest, begin-by}
use Rattle.state_sets.specs.Sets.{Sets, starts_in}
use Rattle.state_sets.specs.Meaning.{Coded, Held, terms_of, values_of, Standing}
use Rattle.state_sets.proofs.Sound.{starts-right, values-front, values-at}
use Rattle.set_walk.specs.declared.Start.{Start}
use Rattle.set_walk.specs.declared.Start.TheVariants as variants
use Rattle.set_walk.specs.Walk.{bits_of}
use Rattle.set_walk.specs.Start.{Picked, pick_all, Sought, sought, tested, tested_in, test_picked, seek_in, seek_from, seek, StartsOf, LeastStart}
use Rattle.set_walk.proofs.Starts.{Grown, picks-grow, picked-right}

clash : {A : Type 0} → true ≡ false → A
clash e = absurd (let z : ◌≡◌ {A = ℕ} 0 1 = cc in omega arith)

-- which of the three was found, as a number
abbrev which : Start → ℕ
which variants.Least = 0
which variants.Nowhere = 1
which variants.Full = 2

apart : {A : Type 0} (x y : Start) (i j : ℕ) → which x ≡ i → which y ≡ j → (i ≡ j → ⊥) → x ≡ y → A
apart x y i j p q d e = absurd (d (sym p ∙ ap which e ∙ q))

module _ (level : ℕ) (m : Machine) (n : ℕ) (inside : Inside m n) (at : ℕ → Assignment) (vars rows : ℕ) (coded : Coded at vars) (few : rows ≤ 16)
    (frees base : List ℕ) (starts : StartsOf m at vars frees base) (next : ℕ) (z : Sets) (h : Held level m n at vars rows next 0 z) (t : ℕ) (tl : t < next) where
  abbrev terms : Terms
  terms = terms_of level vars rows z.table

  -- the diagram that is left has the sets too; no start state is in set t; or bits are the state of the least start place in it
  pub record Says (x : Sought) : Type 0 where
    pub grown : Grown (terms_of level vars rows z.table) z.state x.state
    pub nowhere : x.found ≡ variants.Nowhere → (y : ℕ) → y < m.starts → T (nearest m t (m.start y)) → ⊥
    pub least : x.found ≡ variants.Least → (y : ℕ) × Least (λ y. nearest m t (m.start y)) m.starts (some y) × (bits_of x.bits ≡ at (m.start y))
        × ((u : ℕ) → u < length frees → free_bit (length frees) y u ≡ bits_of x.bits (get_or frees u 0))

  -- the value of set t where nodes were added
  set_value : (s : State) → Front z.state.nodes s.nodes → (y : ℕ) → y < m.starts
      → value s.nodes (at (m.start y)) (get_or z.table t 0) ≡ nearest m t (m.start y)
  set_value s f y l =
      front-value f (at (m.start y)) (get_or z.table t 0) (h.tabled.edges t) ∙ sym (values-at z.state.nodes z.table t (at (m.start y)))
      ∙ h.standing.sets t (m.start y) tl (inside.begins y l)

  pub seek-right : Says (seek vars rows t frees z.table base z.state)
  unfolding seek
  seek-right = go (starts_in vars rows t z.table z.state) (starts-right level m n inside at vars rows coded few next z h t tl)
    where
      go : (o : Outcome) → Right (terms_of level vars rows z.table) z.state
          (λ ns e. In ns e × ((y : ℕ) → y < m.starts → value ns (at (m.start y)) e ≡ nearest m t (m.start y))) o
          → Says (seek_from t frees z.table base o)
      go o r = by o.edge r.answer
        where
          whole : Grown (terms_of level vars rows z.table) z.state o.state
          whole = record { good = r.good; grows = r.grows }

          test : (e : ℕ) → In o.state.nodes e
              → ((y : ℕ) → y < m.starts → value o.state.nodes (at (m.start y)) e ≡ nearest m t (m.start y))
              → Says (test_picked t z.table (pick_all frees o.state e base))
          test e i v = kept p.edge refl
            where
              p : Picked
              p = pick_all frees o.state e base

              g : Grown (terms_of level vars rows z.table) o.state (pick_all frees o.state e base).state
              g = picks-grow terms frees o.state r.good e base i

              all : Grown (terms_of level vars rows z.table) z.state (pick_all frees o.state e base).state
              all = record { good = g.good; grows = front-more r.grows g.grows }

              true-or : (b : Bool) → value (pick_all frees o.state e base).state.nodes (bits_of (pick_all frees o.state e base).bits) (get_or z.table t 0) ≡ b
                  → (d : ℕ) → (pick_all frees o.state e base).edge ≡ some d
                  → Says (sought (pick_all frees o.state e base).state (cond b variants.Least variants.Full) (pick_all frees o.state e base).bits)
              true-or true w d q =
                  let l =
                  (picked-right terms m at vars frees base starts (λ y. nearest m t (m.start y)) o.state e r.good i
                  (λ y yl k. v y yl ∙ true-T (nearest m t (m.start y)) k)).1 d q in
                  record {
                    grown = all;
                    nowhere = λ k. apart variants.Least variants.Nowhere 0 1 refl refl (λ x. omega arith) k;
                    least = λ k. (
                      l.place,
                      (
                        l.fits,
                        T_true (sym (set_value p.state all.grows l.place l.fits) ∙ ap (λ (a : Assignment). value p.state.nodes a (get_or z.table t 0)) (sym l.here) ∙ w),
                        l.first,
                      ),
                      l.here,
                      l.free,
                    );
                  }
              true-or false w d q =
                  record {
                    grown = all;
                    nowhere = λ k. apart variants.Full variants.Nowhere 2 1 refl refl (λ x. omega arith) k;
                    least = λ k. apart variants.Full variants.Least 2 0 refl refl (λ x. omega arith) k;
                  }

              kept : (x : Option ℕ) → (pick_all frees o.state e base).edge ≡ x
                  → Says (tested_in t z.table (pick_all frees o.state e base).state (pick_all frees o.state e base).bits x)
              kept none q =
                  record {
                    grown = all;
                    nowhere = λ k. apart variants.Full variants.Nowhere 2 1 refl refl (λ x. omega arith) k;
                    least = λ k. apart variants.Full variants.Least 2 0 refl refl (λ x. omega arith) k;
                  }
              kept (some d) q =
                  true-or (value p.state.nodes (bits_of p.bits) (get_or z.table t 0)) refl d q

          zero_or : (b : Bool) (e : ℕ) → eqb e 0 ≡ b → In o.state.nodes e
              → ((y : ℕ) → y < m.starts → value o.state.nodes (at (m.start y)) e ≡ nearest m t (m.start y))
              → Says (cond b (sought o.state variants.Nowhere base) (test_picked t z.table (pick_all frees o.state e base)))
          zero_or true e q i v =
              record {
                grown = whole;
                nowhere = λ k y yl a.
                    clash
                    (sym (true-T (nearest m t (m.start y)) a) ∙ sym (v y yl) ∙ ap (value o.state.nodes (at (m.start y))) (eqb-true e 0 q)
                    ∙ value-false o.state.nodes r.good.built (at (m.start y)));
                least = λ k. apart variants.Nowhere variants.Least 1 0 refl refl (λ x. omega arith) k;
              }
          zero_or false e q i v = test e i v

          by : (x : Option ℕ)
              → Answer (λ e. In o.state.nodes e × ((y : ℕ) → y < m.starts → value o.state.nodes (at (m.start y)) e ≡ nearest m t (m.start y))) x
              → Says (seek_in t frees z.table base o.state x)
          by none a =
              record {
                grown = whole;
                nowhere = λ k. apart variants.Full variants.Nowhere 2 1 refl refl (λ x. omega arith) k;
                least = λ k. apart variants.Full variants.Least 2 0 refl refl (λ x. omega arith) k;
              }
          by (some e) (is-edge w) = zero_or (eqb e 0) e refl w.0 w.1

  -- where no frame before t has a hit: frame t has none
  pub nowhere-quiet : QuietBefore m t → (seek vars rows t frees z.table base z.state).found ≡ variants.Nowhere → Quiet m t
  nowhere-quiet quiet e = quiet_frame m t quiet (seek-right.nowhere e)

  -- or the walk begins at the state that was found
  pub least-walks : QuietBefore m t → (seek vars rows t frees z.table base z.state).found ≡ variants.Least
      → (y : ℕ) × Walking m t 0 0 y (m.start y) × (bits_of (seek vars rows t frees z.table base z.state).bits ≡ at (m.start y))
      × ((u : ℕ) → u < length frees → free_bit (length frees) y u ≡ bits_of (seek vars rows t frees z.table base z.state).bits (get_or frees u 0))
  least-walks quiet e =
      let l = seek-right.least e in
      (l.0, begin-by m t (nearest m) (guides-nearest m n inside t (nearest m) quiet (λ j s a b. refl)) l.0 l.1, l.2, l.3)
