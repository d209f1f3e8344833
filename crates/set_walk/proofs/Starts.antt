-- The values of the free latches are those of the least start state. Assumes nothing.
use mathlib.Core.Path.{◌≡◌, refl, sym, ap, ap₂, ◌∙◌, subst}
use mathlib.Core.Bool.{Bool, true, false, not, cond, ◌&&◌}
use mathlib.Core.List.{List, [], ◌∷◌}
use mathlib.Core.Logic.{◌⊎◌, inl, inr, ⊎_elim}
use mathlib.Core.Option.{Option, none, some}
use Prim.Native.Nat.{ℕ, zero, suc, ◌+◌, ◌-◌, ◌*◌, ◌/◌, ◌^◌, ◌≤◌, ◌<◌}
use native.Mathlib.Decide.{dec_lt, ℕ_discrete}
use native.Mathlib.Omega.{arith}
use borrow.Author.Tests.{lt-ltb, le-ltb, eq-eqb, ne_eqb, eqb-true, eqb-false}
use lib.Dec.{T, ltb, eqb}
use lib.ListN.{length, get_or, set, length-set}
use lib.Seq.{get_or-set_same, get_or-set_other}
use Rattle.aiger.specs.Bits.{nonzero}
use Rattle.aiger.specs.Frames.{free_bit}
use Rattle.aiger.proofs.Tests.{true-T}
use Rattle.meaning.proofs.Bits.{sequence-of}
use Rattle.machine.specs.Machine.{Machine}
use Rattle.diagrams.specs.declared.Vertex.{Vertex}
use Rattle.diagrams.specs.Words.{flip}
use Rattle.diagrams.specs.States.{State, Outcome, outcome, made}
use Rattle.diagrams.specs.Meaning.{Assignment, value, In, Built, Front, Branch, Both, Terms, Good, Answer, no_edge, is-edge, Right}
use Rattle.diagrams.proofs.Values.{flip-in, value_not, value-false, value-true, front_same, front-more, front-in, front-value}
use Rattle.diagrams.proofs.Sound.{right-as, right-then, made-right}
use Rattle.conjunction.specs.Conjunction.{both}
use Rattle.conjunction.proofs.Sound.{both_right}
use Rattle.state_sets.specs.Shape.{row_at}
use Rattle.state_sets.specs.Sets.{starts_in}
use Rattle.set_walk.specs.Walk.{bits_of}
use Rattle.set_walk.specs.Start.{Picked, picked, without, pick_from, pick_one, on_picked, pick_then, pick_all, StartsOf, LeastStart}
use Rattle.set_walk.proofs.Evaluation.{bits_in, bits-past}
use Rattle.set_walk.proofs.Order.{Earlier, earlier}

clash : {A : Type 0} → true ≡ false → A
clash e = absurd (let z : ◌≡◌ {A = ℕ} 0 1 = cc in omega arith)

choose : (b : Bool) → cond b true false ≡ b
choose true = refl
choose false = refl

-- the states of e in which variable v is false
without-right : (terms : Terms) (s : State) → Good terms s → (e v : ℕ) → In s.nodes e
    → Right terms s (λ ns d. In ns d × ((x : Assignment) → value ns x d ≡ (value s.nodes x e && not (x v)))) (without e v s)
unfolding without
without-right terms s good e v e-in =
    let o = made s v 0 1 in
    let r = made-right terms s good v 0 1 (omega arith) (omega arith) in
    right-then o (λ t x. both t e (flip x 1)) r
    (λ x bx.
    let r₂ =
    both_right terms o.state r.good e (flip x 1) (front-in r.grows e e-in) (flip-in o.state.nodes x 1 bx.r-in) in
    let ns = o.state.nodes in
    right-as
    (λ d bd. (
      bd.r-in,
      λ a.
          bd.same a
          ∙ ap₂ (λ (p q : Bool). p && q) (front-value (front-more r.grows r₂.grows) a e e-in)
          (front-value r₂.grows a (flip x 1) (flip-in ns x 1 bx.r-in) ∙ value_not ns a x
          ∙ ap not
          (bx.same a ∙ ap₂ (λ (p q : Bool). cond (a v) p q) (value-true ns r.good.built a) (value-false ns r.good.built a)
          ∙ choose (a v))),
    ))
    r₂)

bits_at : (bits : List ℕ) (v : ℕ) → bits_of bits v ≡ nonzero (get_or bits v 0)
unfolding bits_of
bits_at bits v = refl

-- picks leave a good diagram with more nodes
pub record Grown (terms : Terms) (s t : State) : Type 0 where
  pub good : Good terms t
  pub grows : Front s.nodes t.nodes

grown-more : (terms : Terms) (s t u : State) → Grown terms s t → Grown terms t u → Grown terms s u
grown-more terms s t u a b = record { good = b.good; grows = front-more a.grows b.grows }

abbrev Fine : Terms → State → Picked → Type 0
Fine terms s p = Grown terms s p.state × ((d : ℕ) → p.edge ≡ some d → In p.state.nodes d)

pick-grows : (terms : Terms) (s : State) → Good terms s → (e v : ℕ) (bits : List ℕ) → In s.nodes e
    → Fine terms s (pick_one e v bits s)
unfolding pick_one
pick-grows terms s g e v bits e-in = by (ltb v (length bits))
  where
    o : Outcome
    o = without e v s

    r : Right terms s (λ ns d. In ns d × ((x : Assignment) → value ns x d ≡ (value s.nodes x e && not (x v)))) (without e v s)
    r = without-right terms s g e v e-in

    whole : Grown terms s (without e v s).state
    whole = record { good = r.good; grows = r.grows }

    chosen : (b : Bool) (d : ℕ) → In (without e v s).state.nodes d
        → Fine terms s (cond b (picked (without e v s).state (some e) (set bits v 1)) (picked (without e v s).state (some d) bits))
    chosen true d i = (whole, λ k q. let z : e ≡ k = cc in subst (λ (x : ℕ). In o.state.nodes x) z (front-in r.grows e e-in))
    chosen false d i = (whole, λ k q. let z : d ≡ k = cc in subst (λ (x : ℕ). In o.state.nodes x) z i)

    found : (x : Option ℕ)
        → Answer (λ d. In (without e v s).state.nodes d
        × ((x : Assignment) → value (without e v s).state.nodes x d ≡ (value s.nodes x e && not (x v)))) x
        → Fine terms s (pick_from e v bits (outcome (without e v s).state x))
    found none a = (whole, λ d q. absurd (let z : ◌≡◌ {A = ℕ} 0 1 = cc in omega arith))
    found (some d) (is-edge w) = chosen (eqb d 0) d w.0

    by : (b : Bool) → Fine terms s (cond b (pick_from e v bits (without e v s)) (picked s (some e) bits))
    by true = found (without e v s).edge r.answer
    by false = (
      record { good = g; grows = front_same s.nodes },
      λ d q. let z : e ≡ d = cc in subst (λ (x : ℕ). In s.nodes x) z e-in,
    )

pub picks-grow : (terms : Terms) (vs : List ℕ) (s : State) → Good terms s → (e : ℕ) (bits : List ℕ) → In s.nodes e → Grown terms s (pick_all vs s e bits).state
unfolding pick_all
picks-grow terms [] s g e bits i = record { good = g; grows = front_same s.nodes }
picks-grow terms (v ∷ vs) s g e bits i =
    let h = pick-grows terms s g e v bits i in
    go (pick_one e v bits s).edge refl h.0 h.1 (λ d k. picks-grow terms vs (pick_one e v bits s).state h.0.good d (pick_one e v bits s).bits k)
  where
    go : (x : Option ℕ) → (pick_one e v bits s).edge ≡ x → Grown terms s (pick_one e v bits s).state
        → ((d : ℕ) → (pick_one e v bits s).edge ≡ some d → In (pick_one e v bits s).state.nodes d)
        → ((d : ℕ) → In (pick_one e v bits s).state.nodes d
        → Grown terms (pick_one e v bits s).state (pick_all vs (pick_one e v bits s).state d (pick_one e v bits s).bits).state)
        → Grown terms s (on_picked x (pick_one e v bits s).state (pick_one e v bits s).bits (pick_all vs)).state
    go none q a k more = a
    go (some d) q a k more = grown-more terms s (pick_one e v bits s).state _ a (more d (k d q))

module _ (terms : Terms) (m : Machine) (at : ℕ → Assignment) (vars : ℕ) (frees base : List ℕ) (starts : StartsOf m at vars frees base) (p : ℕ → Bool) where
  -- start place y has the values in bits of the first u free latches
  abbrev Agrees : ℕ → ℕ → List ℕ → Type 0
  Agrees u y bits = (i : ℕ) → i < u → get_or frees i 0 < vars → free_bit (length frees) y i ≡ nonzero (get_or bits (get_or frees i 0) 0)

  -- u free latches have their values: e has every start place that passes and has these values; one that passes and differs first where a
  -- value is 1 has none there
  record Picking (u : ℕ) (s : State) (e : ℕ) (bits : List ℕ) : Type 0 where
    good : Good terms s
    e-in : In s.nodes e
    wide : length bits ≡ vars
    later : (i : ℕ) → u ≤ i → i < length frees → get_or frees i 0 < vars → get_or bits (get_or frees i 0) 0 ≡ 0
    fixed : (v : ℕ) → v < vars → ((i : ℕ) → i < length frees → get_or frees i 0 ≡ v → ⊥) → get_or bits v 0 ≡ get_or base v 0
    keeps : (y : ℕ) → y < m.starts → T (p y) → Agrees u y bits → value s.nodes (at (m.start y)) e ≡ true
    least : (y : ℕ) → y < m.starts → T (p y) → (i : ℕ) → i < u → get_or frees i 0 < vars → nonzero (get_or bits (get_or frees i 0) 0) ≡ true
        → Agrees i y bits → free_bit (length frees) y i ≡ true

  module _ (u : ℕ) (ul : u < length frees) (s : State) (e : ℕ) (bits : List ℕ) (h : Picking u s e bits) where
    -- a latch that is no variable
    pick-past : vars ≤ get_or frees u 0 → Picking (suc u) s e bits
    pick-past l =
        record {
          good = h.good;
          e-in = h.e-in;
          wide = h.wide;
          later = λ i a b c. h.later i (omega arith) b c;
          fixed = h.fixed;
          keeps = λ y yl t a. h.keeps y yl t (λ i k. a i (omega arith));
          least = λ y yl t i k c q a. elim (ℕ_discrete i u) [
            | yes z ↦ absurd (omega (arith, ap (λ (j : ℕ). get_or frees j 0) z))
            | no z ↦ h.least y yl t i (omega arith) c q a
          ];
        }

    module _ (l : get_or frees u 0 < vars) (t : State) (d : ℕ) (good : Good terms t) (grows : Front s.nodes t.nodes) (d-in : In t.nodes d)
        (same : (x : Assignment) → value t.nodes x d ≡ (value s.nodes x e && not (x (get_or frees u 0)))) where
      -- some state has 0
      pick-zero : Picking (suc u) t d bits
      pick-zero =
          record {
            good = good;
            e-in = d-in;
            wide = h.wide;
            later = λ i a b c. h.later i (omega arith) b c;
            fixed = h.fixed;
            keeps = λ y yl q a.
                let x = at (m.start y) in
                let zero_bit : x (get_or frees u 0) ≡ false =
                starts.free y u yl ul l ∙ a u (omega arith) l ∙ ap nonzero (h.later u (omega arith) ul l) in
                same x ∙ ap₂ (λ (b c : Bool). b && not c) (h.keeps y yl q (λ i k. a i (omega arith))) zero_bit;
            least = λ y yl q i k c z a. elim (ℕ_discrete i u) [
              | yes w ↦ clash (sym z ∙ ap (λ (j : ℕ). nonzero (get_or bits (get_or frees j 0) 0)) w ∙ ap nonzero (h.later u (omega arith) ul l))
              | no w ↦ h.least y yl q i (omega arith) c z a
            ];
          }

      other : (i : ℕ) → i < length frees → (i ≡ u → ⊥) → get_or (set bits (get_or frees u 0) 1) (get_or frees i 0) 0 ≡ get_or bits (get_or frees i 0) 0
      other i il z = get_or-set_other bits (get_or frees u 0) (get_or frees i 0) 1 0 (λ q. z (sym (starts.apart u i ul il l (sym q))))

      before-one : (y i : ℕ) → i ≤ u → Agrees i y (set bits (get_or frees u 0) 1) → Agrees i y bits
      before-one y i k a j jl c = a j jl c ∙ ap nonzero (other j (omega arith) (λ z. omega arith))

      -- no state has 0
      pick-one : d ≡ 0 → Picking (suc u) t e (set bits (get_or frees u 0) 1)
      pick-one z =
          record {
            good = good;
            e-in = front-in grows e h.e-in;
            wide = length-set bits (get_or frees u 0) 1 ∙ h.wide;
            later = λ i a b c. other i b (λ q. omega arith) ∙ h.later i (omega arith) b c;
            fixed = λ w wl n. get_or-set_other bits (get_or frees u 0) w 1 0 (λ q. n u ul (sym q)) ∙ h.fixed w wl n;
            keeps = λ y yl q a.
                front-value grows (at (m.start y)) e h.e-in ∙ h.keeps y yl q (before-one y u (omega arith) (λ i k. a i (omega arith)));
            least = λ y yl q i k c w a. elim (ℕ_discrete i u) [
              | yes r ↦
                  let x = at (m.start y) in
                  let is_zero : (value s.nodes x e && not (x (get_or frees u 0))) ≡ false =
                  sym (same x) ∙ ap (value t.nodes x) z ∙ value-false t.nodes good.built x in
                  let has : value s.nodes x e ≡ true =
                  h.keeps y yl q (before-one y u (omega arith) (λ j jl. a j (omega arith))) in
                  ap (free_bit (length frees) y) r ∙ sym (starts.free y u yl ul l) ∙ holds (value s.nodes x e) (x (get_or frees u 0)) has is_zero
              | no r ↦
                  h.least y yl q i (omega arith) c (sym (ap nonzero (other i (omega arith) r)) ∙ w) (before-one y i (omega arith) a)
            ];
          }
        where
          holds : (a b : Bool) → a ≡ true → (a && not b) ≡ false → b ≡ true
          holds true true e q = refl
          holds true false e q = clash q
          holds false b e q = clash (sym e)

    -- what is left after one latch more
    abbrev Next : Picked → Type 0
    Next q = Good terms q.state × ((d : ℕ) → q.edge ≡ some d → Picking (suc u) q.state d q.bits)

    pick-right : Next (pick_one e (get_or frees u 0) bits s)
    unfolding pick_one
    pick-right = elim (dec_lt (get_or frees u 0) (length bits)) [
      | yes l ↦
          subst (λ (b : Bool). Next (cond b (pick_from e (get_or frees u 0) bits (without e (get_or frees u 0) s)) (picked s (some e) bits)))
          (sym (lt-ltb (get_or frees u 0) (length bits) l))
          (found (omega (arith, h.wide)) (without e (get_or frees u 0) s).edge
          (without-right terms s h.good e (get_or frees u 0) h.e-in).answer)
      | no l ↦
          subst (λ (b : Bool). Next (cond b (pick_from e (get_or frees u 0) bits (without e (get_or frees u 0) s)) (picked s (some e) bits)))
          (sym (le-ltb (get_or frees u 0) (length bits) (omega arith))) (
            h.good,
            λ d q. let z : e ≡ d = cc in subst (λ (k : ℕ). Picking (suc u) s k bits) z (pick-past (omega (arith, h.wide))),
          )
    ]
      where
        o : Outcome
        o = without e (get_or frees u 0) s

        r : Right terms s (λ ns d. In ns d × ((x : Assignment) → value ns x d ≡ (value s.nodes x e && not (x (get_or frees u 0))))) (without e (get_or frees u 0) s)
        r = without-right terms s h.good e (get_or frees u 0) h.e-in

        chosen : (b : Bool) (d : ℕ) → eqb d 0 ≡ b → get_or frees u 0 < vars → In (without e (get_or frees u 0) s).state.nodes d
            → ((x : Assignment) → value (without e (get_or frees u 0) s).state.nodes x d ≡ (value s.nodes x e && not (x (get_or frees u 0))))
            → Next (cond b (picked (without e (get_or frees u 0) s).state (some e) (set bits (get_or frees u 0) 1)) (picked (without e (get_or frees u 0) s).state (some d) bits))
        chosen true d z l d-in same = (
          r.good,
          λ k q.
              let y : e ≡ k = cc in
              subst (λ (j : ℕ). Picking (suc u) o.state j (set bits (get_or frees u 0) 1)) y
              (pick-one l o.state d r.good r.grows d-in same (eqb-true d 0 z)),
        )
        chosen false d z l d-in same = (
          r.good,
          λ k q.
              let y : d ≡ k = cc in
              subst (λ (j : ℕ). Picking (suc u) o.state j bits) y (pick-zero l o.state d r.good r.grows d-in same),
        )

        found : get_or frees u 0 < vars → (x : Option ℕ)
            → Answer (λ d. In (without e (get_or frees u 0) s).state.nodes d
            × ((x : Assignment) → value (without e (get_or frees u 0) s).state.nodes x d ≡ (value s.nodes x e && not (x (get_or frees u 0))))) x
            → Next (pick_from e (get_or frees u 0) bits (outcome (without e (get_or frees u 0) s).state x))
        found l none a = (r.good, λ d q. absurd (let z : ◌≡◌ {A = ℕ} 0 1 = cc in omega arith))
        found l (some d) (is-edge w) = chosen (eqb d 0) d refl l w.0 w.1

  -- all of them, from latch u on
  all_right : (vs : List ℕ) (u : ℕ) → u + length vs ≡ length frees → ((i : ℕ) → i < length vs → get_or vs i 0 ≡ get_or frees (u + i) 0) → (s : State) (e : ℕ)
      (bits : List ℕ) → Picking u s e bits → Good terms (pick_all vs s e bits).state
      × ((d : ℕ) → (pick_all vs s e bits).edge ≡ some d → Picking (length frees) (pick_all vs s e bits).state d (pick_all vs s e bits).bits)
  unfolding pick_all
  all_right [] u n same s e bits h = (
    h.good,
    λ d q.
        let y : e ≡ d = cc in
        let z : u ≡ length frees = omega arith in
        subst (λ (k : ℕ). Picking (length frees) s k bits) y (subst (λ (k : ℕ). Picking k s e bits) z h),
  )
  all_right (v ∷ vs) u n same s e bits h =
      let ul : u < length frees = omega arith in
      let here : v ≡ get_or frees u 0 = same 0 (omega arith) ∙ ap (λ (i : ℕ). get_or frees i 0) (omega arith) in
      let k = subst (λ (x : ℕ). Next u ul s e bits h (pick_one e x bits s)) (sym here) (pick-right u ul s e bits h) in
      go (pick_one e v bits s).edge refl k.0 k.1
      (λ d q. all_right vs (suc u) (omega arith) (λ i l. same (suc i) (omega arith) ∙ ap (λ (j : ℕ). get_or frees j 0) (omega arith)) (pick_one e v bits s).state d (pick_one e v bits s).bits q)
    where
      go : (x : Option ℕ) → (pick_one e v bits s).edge ≡ x → Good terms (pick_one e v bits s).state
          → ((d : ℕ) → (pick_one e v bits s).edge ≡ some d → Picking (suc u) (pick_one e v bits s).state d (pick_one e v bits s).bits)
          → ((d : ℕ) → Picking (suc u) (pick_one e v bits s).state d (pick_one e v bits s).bits
          → Good terms (pick_all vs (pick_one e v bits s).state d (pick_one e v bits s).bits).state
          × ((c : ℕ) → (pick_all vs (pick_one e v bits s).state d (pick_one e v bits s).bits).edge ≡ some c
          → Picking (length frees) (pick_all vs (pick_one e v bits s).state d (pick_one e v bits s).bits).state c
          (pick_all vs (pick_one e v bits s).state d (pick_one e v bits s).bits).bits))
          → Good terms (on_picked x (pick_one e v bits s).state (pick_one e v bits s).bits (pick_all vs)).state
          × ((c : ℕ) → (on_picked x (pick_one e v bits s).state (pick_one e v bits s).bits (pick_all vs)).edge ≡ some c
          → Picking (length frees) (on_picked x (pick_one e v bits s).state (pick_one e v bits s).bits (pick_all vs)).state c
          (on_picked x (pick_one e v bits s).state (pick_one e v bits s).bits (pick_all vs)).bits)
      go none q g k more = (g, λ c z. absurd (let w : ◌≡◌ {A = ℕ} 0 1 = cc in omega arith))
      go (some d) q g k more = more d (k d q)

  -- the values are those of a start place, and none before it passes
  least_start : (s : State) (e : ℕ) (bits : List ℕ) → Picking (length frees) s e bits → LeastStart m at frees p bits
  least_start s e bits h =
      let n = length frees in
      let f : ℕ → Bool = λ u. cond (ltb (get_or frees u 0) vars) (nonzero (get_or bits (get_or frees u 0) 0)) false in
      let x = sequence-of n f in
      let y = x.0 in
      let yl : y < m.starts = omega (arith, x.1, starts.places) in
      let value-at : (u : ℕ) → u < n → get_or frees u 0 < vars → free_bit n y u ≡ nonzero (get_or bits (get_or frees u 0) 0) =
      λ u ul l. x.2 u ul ∙ ap (λ (b : Bool). cond b (nonzero (get_or bits (get_or frees u 0) 0)) false) (lt-ltb (get_or frees u 0) vars l) in
      let value-past : (u : ℕ) → u < n → vars ≤ get_or frees u 0 → free_bit n y u ≡ false =
      λ u ul l. x.2 u ul ∙ ap (λ (b : Bool). cond b (nonzero (get_or bits (get_or frees u 0) 0)) false) (le-ltb (get_or frees u 0) vars l) in
      record {
        place = y;
        fits = yl;
        here = λ i v. sym (state-at y yl value-at v) i;
        free = λ u ul. elim (dec_lt (get_or frees u 0) vars) [
          | yes l ↦ value-at u ul l ∙ sym (bits_at bits (get_or frees u 0))
          | no l ↦ value-past u ul (omega arith) ∙ sym (bits-past bits (get_or frees u 0) (omega (arith, h.wide)))
        ];
        first = λ z zl t.
            let d = earlier n z y zl x.1 in
            let u = d.place in
            elim (dec_lt (get_or frees u 0) vars) [
              | yes l ↦
                  clash
                  (sym
                  (h.least z (omega arith) t u d.fits l (sym (value-at u d.fits l) ∙ d.high)
                  (λ i k c. d.before i k ∙ value-at i (omega (arith, d.fits)) c))
                  ∙ d.low)
              | no l ↦ clash (sym d.high ∙ value-past u d.fits (omega arith))
            ];
      }
    where
      search-free : (k v : ℕ) → k ≤ length frees → ((u : ℕ) × (u < length frees) × (get_or frees u 0 ≡ v)) ⊎ ((u : ℕ) → u < k → get_or frees u 0 ≡ v → ⊥)
      search-free zero v l = inr (λ u d. absurd (omega arith))
      search-free (suc k) v l = elim (ℕ_discrete (get_or frees k 0) v) [
        | yes q ↦ inl (k, omega arith, q)
        | no q ↦
            ⊎_elim (λ a. inl a)
            (λ a. inr (λ u d z. elim (ℕ_discrete u k) [ yes w ↦ q (ap (λ (j : ℕ). get_or frees j 0) (sym w) ∙ z) | no w ↦ a u (omega arith) z ])) (search-free k v (omega arith))
      ]

      state-at : (y : ℕ) → y < m.starts
          → ((u : ℕ) → u < length frees → get_or frees u 0 < vars → free_bit (length frees) y u ≡ nonzero (get_or bits (get_or frees u 0) 0)) → (v : ℕ)
          → at (m.start y) v ≡ bits_of bits v
      state-at y yl value-at v = elim (dec_lt v vars) [
        | yes l ↦
            ⊎_elim
            (λ a.
            let q = a.2 in
            let c : get_or frees a.0 0 < vars = omega arith in
            ap (at (m.start y)) (sym q) ∙ starts.free y a.0 yl a.1 c ∙ value-at a.0 a.1 c ∙ ap (λ (j : ℕ). nonzero (get_or bits j 0)) q
            ∙ sym (bits_in bits v))
            (λ a. starts.fixed y v yl l a ∙ ap nonzero (sym (h.fixed v l a)) ∙ sym (bits_in bits v)) (search-free (length frees) v (omega arith))
        | no l ↦ starts.past (m.start y) v (omega arith) ∙ sym (bits-past bits v (omega (arith, h.wide)))
      ]

  -- from an edge that has every start place that passes
  pub picked-right : (s : State) (e : ℕ) → Good terms s → In s.nodes e
      → ((y : ℕ) → y < m.starts → T (p y) → value s.nodes (at (m.start y)) e ≡ true)
      → Good terms (pick_all frees s e base).state × ((d : ℕ) → (pick_all frees s e base).edge ≡ some d → LeastStart m at frees p (pick_all frees s e base).bits)
  picked-right s e good e-in says =
      let h : Picking 0 s e base =
      record {
        good = good;
        e-in = e-in;
        wide = starts.wide;
        later = λ i a b c. starts.clear i b c;
        fixed = λ v l n. refl;
        keeps = λ y yl t a. says y yl t;
        least = λ y yl t i k. absurd (omega arith);
      } in
      let r = all_right frees 0 (omega arith) (λ i l. ap (λ (j : ℕ). get_or frees j 0) (omega arith)) s e base h in
      (r.0, λ d q. least_start (pick_all frees s e base).state d (pick_all frees s e base).bits (r.1 d q))

-- ---- a set and its start states

-- what is left after the picks is a diagram with the edges of the table
pub seek-legible : (vars rows t : ℕ) (frees table bits : List ℕ) (terms : Terms) (s : State) → Good terms s → ((i : ℕ) → In s.nodes (get_or table i 0))
    → (u : State) (e : ℕ) → outcome u (some e) ≡ starts_in vars rows t table s → (y : State) → y ≡ (pick_all frees u e bits).state
    → Built y.nodes × ((i : ℕ) → In y.nodes (get_or table i 0))
unfolding starts_in
seek-legible vars rows t frees table bits terms s g h u e q y w =
    let a = get_or table t 0 in
    let c = get_or table (row_at vars rows) 0 in
    let r = subst (Right terms s (Both a c)) (sym q) (both_right terms s g a c (h t) (h (row_at vars rows))) in
    let k = picks-grow terms frees u r.good e bits (edge_in r) in
    let all = front-more r.grows k.grows in
    subst (λ (x : State). Built x.nodes × ((i : ℕ) → In x.nodes (get_or table i 0))) (sym w) (k.good.built, λ i. front-in all (get_or table i 0) (h i))
  where
    edge_in : {a c : ℕ} → Right terms s (Both a c) (outcome u (some e)) → In u.nodes e
    edge_in {a} {c} r = go r.answer
      where
        go : Answer (Both a c u.nodes) (some e) → In u.nodes e
        go (is-edge b) = b.r-in
