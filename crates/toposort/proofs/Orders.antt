-- The gates in words are those of the circuit: an order of the ones is an order of the others, and so a cycle. Assumes nothing.
use mathlib.Core.Path.{◌≡◌, refl, sym, ap, ◌∙◌, subst}
use mathlib.Core.Bool.{Bool, true, false}
use mathlib.Core.List.{List, [], ◌++◌}
use mathlib.Core.Logic.{◌⊎◌, inl, inr, ⊎_elim}
use mathlib.Core.Option.{none, some}
use Prim.Native.Nat.{ℕ, ◌+◌, ◌-◌, ◌*◌, ◌/◌, ◌<◌, ◌≤◌}
use native.Mathlib.Decide.{ℕ_discrete, dec_le}
use native.Mathlib.Omega.{arith}
use lib.Dec.{T, eqb, eqb→eq}
use lib.ListN.{length, get_or, take, drop, length-drop, take-append-drop}
use lib.Seq.{get_or-drop, take_all}
use Rattle.aiger.specs.Circuit.{Circuit, Gate, var, literals_right, acyclic}
use Rattle.meaning.proofs.Cycles.{ranked, stuck_at}
use Rattle.meaning.proofs.Lists.{last-only, last_none, eqb_of}
use Rattle.layout.specs.Words.{word, gates_at, gate_in, circuit_in}
use Rattle.layout.specs.declared.Layout.{Layout}
use Rattle.layout.specs.Layout.{Counted, PlacesOf}
use Rattle.columns.specs.Columns.{total}
use Rattle.variables.specs.Table.{Entered}
use Rattle.layout.specs.Order.{gate_at, Feeds, Ordered, driver, left_gate, right_gate, placed_from, depth_first}
use Rattle.toposort.specs.Gates.{Edge, Reach, one, more, InOrder, Cyclic, Answered}
use Rattle.toposort.specs.DepthFirst.{Linked, Operands, Arranged, Tested}
use Rattle.roundtrip.proofs.Lists.{upto-length, upto-get}
use Rattle.columns.proofs.Parts.{gate-place}
use Rattle.variables.proofs.Causes.{literals-used}

-- the part of a slice from a on
rest : (w : List ℕ) (a : ℕ) → take (length w - a) (drop a w) ≡ drop a w
rest w a = take_all (length w - a) (drop a w) (omega (arith, length-drop a w))

-- an order of evaluation, with the words after it as they were, is a function of the circuit and of what was there
pub order_is : {c : Circuit} (old : List ℕ) {order : List ℕ} → Ordered c order
    → drop (length c.gates) order ≡ drop (length c.gates) old → order ≡ depth_first c ++ drop (length c.gates) old
order_is {c} old {order} o k = sym (take-append-drop (length c.gates) order) ∙ (λ i. o.chosen i ++ k i)

-- the first edge of a way
first_edge : (lits : List ℕ) (m : ℕ) {g h : ℕ} → Reach lits m g h → (k : ℕ) × Edge lits m g k × ((k ≡ h) ⊎ Reach lits m k h)
first_edge lits m {g} {h} (one e) = (h, e, inl refl)
first_edge lits m {g} {h} (more {h = y} p e) =
    let f = first_edge lits m p in
    (f.0, f.1, inr (⊎_elim (λ q. one (subst (λ (x : ℕ). Edge lits m x h) (sym q) e)) (λ r. more r e) f.2))

module _ (w : List ℕ) where
  -- the words from the gates on
  abbrev lits : List ℕ
  lits = drop (gates_at w) w

  abbrev m : ℕ
  m = word w 4

  abbrev c : Circuit
  c = circuit_in w

  pub gate-count : length (circuit_in w).gates ≡ word w 4
  unfolding circuit_in
  gate-count = upto-length (λ j. gate_in w (gates_at w + 3 * j)) (word w 4)

  gate-at : (g : ℕ) → g < word w 4 → gate_at (circuit_in w) g ≡ gate_in w (gates_at w + 3 * g)
  unfolding circuit_in
  gate-at g l = upto-get (λ j. gate_in w (gates_at w + 3 * j)) (word w 4) g (record { lit = 0; left = 0; right = 0 }) l

  lit-at : (g : ℕ) → get_or (drop (gates_at w) w) (3 * g) 0 ≡ word w (gates_at w + 3 * g)
  lit-at g = get_or-drop (gates_at w) w (3 * g) 0

  operand_at : (g k : ℕ) → get_or (drop (gates_at w) w) (3 * g + k) 0 ≡ word w (gates_at w + 3 * g + k)
  operand_at g k = get_or-drop (gates_at w) w (3 * g + k) 0 ∙ ap (word w) (omega arith)

  lit-var : (g : ℕ) → g < m → var (gate_at c g).lit ≡ get_or lits (3 * g) 0 / 2
  lit-var g l = ap (λ (x : Gate). var x.lit) (gate-at g l) ∙ ap var (sym (lit-at g))

  left-var : (g : ℕ) → g < m → var (gate_at c g).left ≡ get_or lits (3 * g + 1) 0 / 2
  left-var g l = ap (λ (x : Gate). var x.left) (gate-at g l) ∙ ap var (sym (operand_at g 1))

  right-var : (g : ℕ) → g < m → var (gate_at c g).right ≡ get_or lits (3 * g + 2) 0 / 2
  right-var g l = ap (λ (x : Gate). var x.right) (gate-at g l) ∙ ap var (sym (operand_at g 2))

  feeds-edge : (g h : ℕ) → g < m → Feeds c h g → Edge lits m g h
  feeds-edge g h l f =
      let hm : h < m = omega (arith, f.0, gate-count) in
      let x = rw (gate-at g l, gate-at h hm) at f.1 in
      (hm, rw (lit-at h, operand_at g 1, operand_at g 2) x)

  edge-feeds : (g h : ℕ) → g < m → Edge lits m g h → Feeds c h g
  edge-feeds g h l e = (
    omega (arith, e.0, gate-count),
    rw (gate-at g l, gate-at h e.0) (rw (lit-at h, operand_at g 1, operand_at g 2) at e.1),
  )

  -- ---- the table of definitions links variables to gates

  linked : Counted w → T (literals_right (circuit_in w)) → (t : List ℕ) → Entered w (total w) t
      → Linked (drop (gates_at w) w) (word w 1 + word w 2) (word w 4) t
  linked C right t E =
      let u = literals-used w right in
      record {
        room = omega (arith, length-drop (gates_at w) w, C.held);
        small = omega (arith, C.sum, C.max_var);
        left = λ g l. rw (operand_at g 1)
            (let e : gates_at w + 1 + 3 * g ≡ gates_at w + 3 * g + 1 = omega arith in omega (arith, rw e at (u.lefts g l), E.room));
        right = λ g l. rw (operand_at g 2)
            (let e : gates_at w + 2 + 3 * g ≡ gates_at w + 3 * g + 2 = omega arith in omega (arith, rw e at (u.rights g l), E.room));
        bound = λ v. bound v (ℕ_discrete (get_or t v 0) 0);
        drives = λ g l. ap (λ (x : ℕ). get_or t (x / 2) 0) (lit-at g ∙ gate-place w g l) ∙ E.has (word w 1 + word w 2 + g) (omega arith);
        only = λ v g e.
            let q = E.only v (word w 1 + word w 2 + g) e in
            ap (λ (x : ℕ). x / 2) (lit-at g ∙ gate-place w g (omega (arith, q.0))) ∙ q.1;
      }
    where
      bound : (v : ℕ) → Dec (get_or t v 0 ≡ 0) → get_or t v 0 ≤ word w 1 + word w 2 + word w 4
      bound v (yes z) = omega arith
      bound v (no z) = omega (arith, (E.only v (get_or t v 0 - 1) (omega arith)).0)

  -- the gate that a table's entry names defines the variable
  module _ (base : ℕ) (t : List ℕ) (L : Linked lits base m t) (v : ℕ) where
    driver-some : (h : ℕ) → get_or t v 0 ≡ base + h + 1 → driver c v ≡ some h
    unfolding driver
    driver-some h e =
        let hm : h < m = omega (arith, L.bound v) in
        last-only (λ i. eqb (var (gate_at c i).lit) v) (length c.gates) h (omega (arith, gate-count)) (eqb_of (lit-var h hm ∙ L.only v h e))
        (λ i l q.
        let im : i < m = omega (arith, gate-count) in
        let d : get_or t v 0 ≡ base + i + 1 = ap (λ (x : ℕ). get_or t x 0) (sym (eqb→eq _ _ q) ∙ lit-var i im) ∙ L.drives i im in
        omega arith)

    driver-none : get_or t v 0 ≤ base → driver c v ≡ none
    unfolding driver
    driver-none l =
        last_none (λ i. eqb (var (gate_at c i).lit) v) (length c.gates)
        (λ i k q.
        let im : i < m = omega (arith, gate-count) in
        let d : get_or t v 0 ≡ base + i + 1 = ap (λ (x : ℕ). get_or t x 0) (sym (eqb→eq _ _ q) ∙ lit-var i im) ∙ L.drives i im in
        omega arith)

  operands_of : (base : ℕ) (t : List ℕ) → Linked lits base m t → Operands lits base m t (left_gate c) (right_gate c)
  operands_of base t L =
      record {
        left-some = λ g h l e. driver-some base t L (var (gate_at c g).left) h (ap (λ (x : ℕ). get_or t x 0) (left-var g l) ∙ e);
        left-none = λ g l e. driver-none base t L (var (gate_at c g).left) (omega (arith, ap (λ (x : ℕ). get_or t x 0) (left-var g l)));
        right-some = λ g h l e. driver-some base t L (var (gate_at c g).right) h (ap (λ (x : ℕ). get_or t x 0) (right-var g l) ∙ e);
        right-none = λ g l e. driver-none base t L (var (gate_at c g).right) (omega (arith, ap (λ (x : ℕ). get_or t x 0) (right-var g l)));
      }

  -- ---- an order

  ordered : (pos order : List ℕ) → InOrder lits m pos order → take m order ≡ placed_from (left_gate c) (right_gate c) m 0 m [] → Ordered c order
  unfolding depth_first
  ordered pos order I placed =
      record {
        chosen = rw gate-count placed;
        place = λ g. get_or pos g 0 - 1;
        gate = λ k l. omega (arith, I.gate k (omega (arith, gate-count)), gate-count);
        there = λ k l. omega (arith, I.there k (omega (arith, gate-count)));
        placed = λ g l. let gm : g < m = omega (arith, gate-count) in (omega (arith, I.placed g gm, gate-count), I.back g gm);
        before = λ g h l f.
            let gm : g < m = omega (arith, gate-count) in
            let e = feeds-edge g h gm f in
            omega (arith, I.before g h gm e, (I.placed h e.0).0, (I.placed g gm).0);
      }

  module _ (base : ℕ) (t : List ℕ) (L : Linked lits base m t) (pos : List ℕ) where
    -- the place of the gate that a table's entry names
    rank-of : (a : ℕ) → Dec (a ≤ base) → ℕ
    rank-of a (yes z) = 0
    rank-of a (no z) = get_or pos (a - base - 1) 0

    rank : ℕ → ℕ
    rank v = rank-of (get_or t v 0) (dec_le (get_or t v 0) base)

    rank-gate : (a g : ℕ) (d : Dec (a ≤ base)) → a ≡ base + g + 1 → rank-of a d ≡ get_or pos g 0
    unfolding rank-of
    rank-gate a g (yes z) e = absurd (omega arith)
    rank-gate a g (no z) e = ap (λ (x : ℕ). get_or pos x 0) (omega arith)

    rank_less : (v k : ℕ) (d : Dec (get_or t v 0 ≤ base)) → 0 < k → ((h : ℕ) → h < m → get_or lits (3 * h) 0 / 2 ≡ v → get_or pos h 0 < k)
        → rank-of (get_or t v 0) d < k
    unfolding rank-of
    rank_less v k (yes z) p f = p
    rank_less v k (no z) p f = let h : ℕ = get_or t v 0 - base - 1 in f h (omega (arith, L.bound v)) (L.only v h (omega arith))

    acyclic-order : (order : List ℕ) → InOrder lits m pos order → T (acyclic c)
    unfolding rank
    acyclic-order order I = ranked c rank (λ g l. below g (omega (arith, gate-count)))
      where
        below : (g : ℕ) → g < m
            → (rank (var (gate_at c g).left) < rank (var (gate_at c g).lit))
            × (rank (var (gate_at c g).right) < rank (var (gate_at c g).lit))
        below g l =
            let v : ℕ = word w (gates_at w + 3 * g) / 2 in
            let here : rank v ≡ get_or pos g 0 =
            rank-gate _ g (dec_le (get_or t v 0) base) (ap (λ (x : ℕ). get_or t (x / 2) 0) (sym (lit-at g)) ∙ L.drives g l)
            in
            let under : (v : ℕ) → ((h : ℕ) → h < m → get_or lits (3 * h) 0 / 2 ≡ v → Edge lits m g h) → rank v < get_or pos g 0 =
            λ v f. rank_less v (get_or pos g 0) (dec_le (get_or t v 0) base) (I.placed g l).0 (λ h hm e. I.before g h l (f h hm e))
            in
            rw (gate-at g l, here) (
              under (word w (gates_at w + 3 * g + 1) / 2) (λ h hm e. (hm, inl (e ∙ ap (λ (x : ℕ). x / 2) (sym (operand_at g 1))))),
              under (word w (gates_at w + 3 * g + 2) / 2) (λ h hm e. (hm, inr (e ∙ ap (λ (x : ℕ). x / 2) (sym (operand_at g 2))))),
            )

  -- ---- a cycle

  cyclic : T (literals_right c) → Cyclic lits m → T (acyclic c) → ⊥
  cyclic right z =
      stuck_at c right On
      (λ v r.
      let f = first_edge lits m r.3 in
      let loop : Reach lits m f.0 z.0 = ⊎_elim (λ q. subst (λ (x : ℕ). Reach lits m x z.0) (sym q) z.2) (λ x. x) f.2 in
      let d = edge-feeds r.0 f.0 r.1 f.1 in
      (r.0, omega (arith, r.1, gate-count), r.2, ⊎_elim (λ e. inl (f.0, f.1.0, e, loop)) (λ e. inr (f.0, f.1.0, e, loop)) d.1))
      (var (gate_at c z.0).lit) (z.0, z.1, refl, z.2)
    where
      -- the variables of the gates that lead to the cycle
      On : ℕ → Type 0
      On v = (h : ℕ) × (h < m) × (var (gate_at c h).lit ≡ v) × Reach lits m h z.0

  -- ---- the part of the words that starts at the gates, by a layout of the words

  module _ (C : Counted w) (right : T (literals_right (circuit_in w))) (t : List ℕ) (E : Entered w (total w) t)
      (p : Layout) (q : PlacesOf w p) where
    part : take (length w - p.gates) (drop p.gates w) ≡ drop (gates_at w) w
    part = rest w p.gates ∙ ap (λ (x : ℕ). drop x w) q.gates-is

    pub linked-part : Linked (take (length w - p.gates) (drop p.gates w)) (p.i + p.l) p.a t
    linked-part = rw (part, q.i-is, q.l-is, q.a-is) (linked C right t E)

    sorted : (pos old order : List ℕ) (r : Bool) → Answered lits m pos order r → Arranged lits (word w 1 + word w 2) m t order r
        → drop m order ≡ drop m old → Tested c old order r
    sorted pos old order true z a k =
        let L = linked C right t E in (
          acyclic-order (word w 1 + word w 2) t L pos order z,
          ordered pos order z (a (left_gate c) (right_gate c) (operands_of (word w 1 + word w 2) t L)),
          rw gate-count k,
        )
    sorted pos old order false z a k = cyclic right z

    pub sorted_part : (pos old order : List ℕ) (r : Bool) → Answered (take (length w - p.gates) (drop p.gates w)) p.a pos order r
        → Arranged (take (length w - p.gates) (drop p.gates w)) (p.i + p.l) p.a t order r
        → drop p.a order ≡ drop p.a old → Tested (circuit_in w) old order r
    sorted_part pos old order r z a k =
        sorted pos old order r (rw (part, q.a-is) at z) (rw (part, q.i-is, q.l-is, q.a-is) at a) (rw q.a-is at k)
