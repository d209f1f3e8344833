-- Laws of the rules: they keep the value, and what they leave is a pair of operands for a gate. Assumes nothing.
use mathlib.Core.Path.{◌≡◌, refl, sym, ap, ap₂, ◌∙◌, subst}
use mathlib.Core.Bool.{Bool, true, false, not, cond, ◌&&◌, ◌||◌}
use mathlib.Core.Logic.{◌⊎◌, inl, inr, ⊎_elim}
use mathlib.Core.List.{List}
use mathlib.Core.Option.{Option, none, some}
use Prim.Native.Nat.{ℕ, zero, suc, ◌+◌, ◌-◌, ◌*◌, ◌/◌, ◌%◌, ◌≤◌, ◌<◌}
use native.Mathlib.Decide.{ℕ_discrete, dec_le}
use native.Mathlib.Omega.{arith}
use borrow.Author.Tests.{eq-eqb, ne_eqb, le-leb, lt-leb}
use lib.Dec.{T, leb, eqb, eqb→eq}
use lib.ListN.{get_or}
use Rattle.meaning.proofs.Values.{value-complement}
use Rattle.aiger.specs.Bits.{nonzero, odd}
use Rattle.aiger.specs.Fold.{complement, among, repeated}
use Rattle.aiger.proofs.Tests.{or_cases}
use Rattle.nodes.specs.Graph.{node_of, Pair, pair_at, edge_in, deep}
use Rattle.nodes.specs.Store.{field, pair_of, pairs_of}
use Rattle.nodes.specs.Edges.{edge_word, word_edge}
use Rattle.nodes.specs.declared.Edge.{Edge}
use Rattle.nodes.specs.declared.Graph.{Graph}
use Rattle.nodes.proofs.Laws.{pair_at-pairs_of, pair_eq, word-node, edge-word}
use Rattle.rules.specs.Rules.{Asked, basic, lowered, below, or_lowered, simplified}

-- which rule there is for two operands, and what it says
pub data Ruled (left right : ℕ) : Option ℕ → Type 0 where
  falsity : right ≡ 0 → Ruled left right (some 0)
  truth : right ≡ 1 → Ruled left right (some left)
  equal : left ≡ right → Ruled left right (some left)
  opposite : (left ≡ right → ⊥) → node_of left ≡ node_of right → Ruled left right (some 0)
  gate : 2 ≤ right → (node_of left ≡ node_of right → ⊥) → Ruled left right none

ruled-distinct : (left right : ℕ) → 2 ≤ right → (left ≡ right → ⊥) → Dec (node_of left ≡ node_of right) → Ruled left right (basic left right)
unfolding basic
ruled-distinct left right h n (yes e) =
    rw (ne_eqb right 0 (λ q. omega arith), ne_eqb right 1 (λ q. omega arith), ne_eqb left right n, eq-eqb (node_of left) (node_of right) e) (opposite n e)
ruled-distinct left right h n (no d) =
    rw (ne_eqb right 0 (λ q. omega arith), ne_eqb right 1 (λ q. omega arith), ne_eqb left right n, ne_eqb (node_of left) (node_of right) d) (gate h d)

ruled-nonconstant : (left right : ℕ) → 2 ≤ right → Dec (left ≡ right) → Ruled left right (basic left right)
unfolding basic
ruled-nonconstant left right h (yes e) =
    rw (ne_eqb right 0 (λ q. omega arith), ne_eqb right 1 (λ q. omega arith), eq-eqb left right e) (equal e)
ruled-nonconstant left right h (no n) = ruled-distinct left right h n (ℕ_discrete (node_of left) (node_of right))

ruled-nonzero : (left right : ℕ) → 1 ≤ right → Dec (right ≡ 1) → Ruled left right (basic left right)
unfolding basic
ruled-nonzero left right h (yes e) = rw (ne_eqb right 0 (λ q. omega arith), eq-eqb right 1 e) (truth e)
ruled-nonzero left right h (no n) = ruled-nonconstant left right (omega arith) (ℕ_discrete left right)

ruled-any : (left right : ℕ) → Dec (right ≡ 0) → Ruled left right (basic left right)
unfolding basic
ruled-any left right (yes e) = rw (eq-eqb right 0 e) (falsity e)
ruled-any left right (no n) = ruled-nonzero left right (omega arith) (ℕ_discrete right 1)

pub ruled : (left right : ℕ) → Ruled left right (basic left right)
ruled left right = ruled-any left right (ℕ_discrete right 0)

-- ---- values

and-false : (a : Bool) → (a && false) ≡ false
and-false true = refl
and-false false = refl

and-true : (a : Bool) → (a && true) ≡ a
and-true true = refl
and-true false = refl

and_same : (a : Bool) → (a && a) ≡ a
and_same true = refl
and_same false = refl

and-opposite : (a : Bool) → (not a && a) ≡ false
and-opposite true = refl
and-opposite false = refl

known_at : {d e : ℕ} → some d ≡ some e → d ≡ e
known_at h = cc

gate-known : (e : ℕ) → none ≡ some e → ⊥
gate-known e h = let z : ◌≡◌ {A = ℕ} 0 1 = cc in omega arith

known-gate : (e : ℕ) → some e ≡ none → ⊥
known-gate e h = let z : ◌≡◌ {A = ℕ} 0 1 = cc in omega arith

module _ (vs : List Bool) (constant : get_or vs 0 false ≡ false) (left right : ℕ) (order : right ≤ left) where
  opposite-false : (left ≡ right → ⊥) → node_of left ≡ node_of right → (edge_in vs left && edge_in vs right) ≡ false
  opposite-false n e =
      let v = right / 2 in
      let r : right ≡ 2 * v = omega arith in
      let l : left ≡ 2 * v + 1 = omega arith in
      ap₂ (λ (x y : Bool). x && y) (ap (edge_in vs) l ∙ value-complement (λ k. get_or vs k false) v) (ap (edge_in vs) r) ∙ and-opposite (edge_in vs (2 * v))

  -- the edge of a rule has the value of the conjunction
  pub ruled-value : {s : Option ℕ} → Ruled left right s → (e : ℕ) → s ≡ some e → edge_in vs e ≡ (edge_in vs left && edge_in vs right)
  ruled-value (falsity q) e h =
      ap (edge_in vs) (sym (known_at h)) ∙ constant ∙ sym (ap (λ (x : Bool). edge_in vs left && x) (ap (edge_in vs) q ∙ constant) ∙ and-false (edge_in vs left))
  ruled-value (truth q) e h =
      ap (edge_in vs) (sym (known_at h))
      ∙ sym (ap (λ (x : Bool). edge_in vs left && x) (ap (edge_in vs) q ∙ ap not constant) ∙ and-true (edge_in vs left))
  ruled-value (equal q) e h =
      ap (edge_in vs) (sym (known_at h)) ∙ sym (ap (λ (x : ℕ). edge_in vs left && edge_in vs x) (sym q) ∙ and_same (edge_in vs left))
  ruled-value (opposite n q) e h = ap (edge_in vs) (sym (known_at h)) ∙ constant ∙ sym (opposite-false n q)
  ruled-value (gate l n) e h = absurd (gate-known e h)

-- the edge of a rule is an edge of the graph
pub ruled-edge : {left right : ℕ} (m : ℕ) → node_of left < m → {s : Option ℕ} → Ruled left right s → (e : ℕ) → s ≡ some e → node_of e < m
ruled-edge m l (falsity q) e h = let z = known_at h in omega arith
ruled-edge m l (truth q) e h = let z = known_at h in omega arith
ruled-edge m l (equal q) e h = let z = known_at h in omega arith
ruled-edge m l (opposite n q) e h = let z = known_at h in omega arith
ruled-edge m l (gate k n) e h = absurd (gate-known e h)

-- where no rule applies no operand is constant, and the larger one is another node
pub ruled-nonconstant-gate : {left right : ℕ} {s : Option ℕ} → Ruled left right s → s ≡ none → 2 ≤ right
ruled-nonconstant-gate (falsity q) h = absurd (known-gate 0 h)
ruled-nonconstant-gate {left} (truth q) h = absurd (known-gate left h)
ruled-nonconstant-gate {left} (equal q) h = absurd (known-gate left h)
ruled-nonconstant-gate (opposite n q) h = absurd (known-gate 0 h)
ruled-nonconstant-gate (gate l n) h = l

pub ruled-larger : {left right : ℕ} {s : Option ℕ} → Ruled left right s → s ≡ none → right ≤ left → node_of right < node_of left
ruled-larger (falsity q) h o = absurd (known-gate 0 h)
ruled-larger {left} (truth q) h o = absurd (known-gate left h)
ruled-larger {left} (equal q) h o = absurd (known-gate left h)
ruled-larger (opposite n q) h o = absurd (known-gate 0 h)
ruled-larger {left} {right} (gate l n) h o = omega arith

-- ---- the rules one gate down

-- which of them there is, and the edge that it says
pub data Lowered (p : Pair) (left right : ℕ) : ℕ → Type 0 where
  absorbed : odd left ≡ true → T (among p.left p.right (complement right)) → Lowered p left right right
  contradicted : odd left ≡ false → T (among p.left p.right (complement right)) → Lowered p left right 0
  implied : odd left ≡ false → T (among p.left p.right right) → Lowered p left right left

lowered-cases : (p : Pair) (left right w : ℕ) → lowered p left right ≡ some w → Lowered p left right w
unfolding lowered
lowered-cases p left right w = go (among p.left p.right (complement right)) refl (odd left) refl (among p.left p.right right) refl
  where
    at : {e : ℕ} → Lowered p left right e → some e ≡ some w → Lowered p left right w
    at l e = subst (Lowered p left right) (known_at e) l

    is : {b : Bool} → b ≡ true → T b
    is e = subst (λ (x : Bool). T x) (sym e) tt

    go : (a : Bool) → among p.left p.right (complement right) ≡ a → (o : Bool) → odd left ≡ o → (b : Bool) → among p.left p.right right ≡ b
        → cond a (cond o (some right) (some 0)) (cond (not o && b) (some left) none) ≡ some w → Lowered p left right w
    go true e true q b f h = at (absorbed q (is e)) h
    go true e false q b f h = at (contradicted q (is e)) h
    go false e true q b f h = absurd (gate-known w h)
    go false e false q true f h = at (implied q (is f)) h
    go false e false q false f h = absurd (gate-known w h)

-- where there is none, no operand is repeated
lowered-gate : (p : Pair) (left right : ℕ) → lowered p left right ≡ none → repeated p.left p.right left right ≡ false
unfolding lowered repeated
lowered-gate p left right = go (among p.left p.right (complement right)) (odd left) (among p.left p.right right)
  where
    go : (a o b : Bool) → cond a (cond o (some right) (some 0)) (cond (not o && b) (some left) none) ≡ none → (a || (not o && b)) ≡ false
    go true true b h = absurd (known-gate right h)
    go true false b h = absurd (known-gate 0 h)
    go false true b h = refl
    go false false true h = absurd (known-gate left h)
    go false false false h = refl

-- each answer of the code, by the tests that led to it
module _ (first second left right : ℕ) where
  module _ {b : Bool} (e : b ≡ among first second (complement right)) where
    pub lower-absorbed : b ≡ true → odd left ≡ true → some right ≡ lowered (record { left = first; right = second }) left right
    unfolding lowered
    lower-absorbed t q = rw (sym e ∙ t, q)

    pub lower-contradicted : b ≡ true → odd left ≡ false → some 0 ≡ lowered (record { left = first; right = second }) left right
    unfolding lowered
    lower-contradicted t q = rw (sym e ∙ t, q)

    module _ (f : b ≡ false) where
      pub lower-complement : odd left ≡ true → none ≡ lowered (record { left = first; right = second }) left right
      unfolding lowered
      lower-complement q = rw (sym e ∙ f, q)

      module _ (q : odd left ≡ false) {d : Bool} (g : d ≡ among first second right) where
        pub lower-implied : d ≡ true → some left ≡ lowered (record { left = first; right = second }) left right
        unfolding lowered
        lower-implied t = rw (sym e ∙ f, q, sym g ∙ t)

        pub lower-new : d ≡ false → none ≡ lowered (record { left = first; right = second }) left right
        unfolding lowered
        lower-new t = rw (sym e ∙ f, q, sym g ∙ t)

module _ (n : ℕ) (gs : List Pair) (left right : ℕ) where
  -- the gate that left is
  abbrev lower : Pair
  lower = pair_at gs (node_of left - (n + 1))

  pub simplified-known : (e : ℕ) → basic left right ≡ some e → simplified n gs left right ≡ some e
  unfolding simplified
  simplified-known e q = ap (or_lowered n gs left right) q

  pub simplified-leaf : basic left right ≡ none → node_of left ≤ n → simplified n gs left right ≡ none
  unfolding simplified
  simplified-leaf q l = ap (or_lowered n gs left right) q ∙ ap (λ (b : Bool). cond b (lowered lower left right) none) (lt-leb (n + 1) (node_of left) (omega arith))

  -- the rule one gate down, where left is a gate
  pub below-lower : n + 1 ≤ node_of left → below n gs left right ≡ lowered (pair_at gs (node_of left - (n + 1))) left right
  below-lower l = ap (λ (b : Bool). cond b (lowered lower left right) none) (le-leb (n + 1) (node_of left) l)

  pub simplified-lower : basic left right ≡ none → n + 1 ≤ node_of left → simplified n gs left right ≡ lowered (pair_at gs (node_of left - (n + 1))) left right
  unfolding simplified
  simplified-lower q l = ap (or_lowered n gs left right) q ∙ ap (λ (b : Bool). cond b (lowered lower left right) none) (le-leb (n + 1) (node_of left) l)

  -- a rule is a basic one or one gate down
  pub known-cases : (w : ℕ) → simplified n gs left right ≡ some w
      → (basic left right ≡ some w) ⊎ ((n + 1 ≤ node_of left) × Lowered (pair_at gs (node_of left - (n + 1))) left right w)
  known-cases w h = go (basic left right) refl (dec_le (n + 1) (node_of left))
    where
      go : (s : Option ℕ) → basic left right ≡ s → Dec (n + 1 ≤ node_of left) → (basic left right ≡ some w) ⊎ ((n + 1 ≤ node_of left) × Lowered lower left right w)
      go (some e) q d = inl (q ∙ ap some (known_at (sym (simplified-known e q) ∙ h)))
      go none q (yes l) = inr (l, lowered-cases lower left right w (sym (simplified-lower q l) ∙ h))
      go none q (no l) = absurd (gate-known w (sym (simplified-leaf q (omega arith)) ∙ h))

  -- where there is none, there is no basic one, and no operand is repeated one gate down
  pub gate-cases : simplified n gs left right ≡ none → (basic left right ≡ none) × (deep n gs left right ≡ false)
  unfolding deep
  gate-cases h = go (basic left right) refl (dec_le (n + 1) (node_of left))
    where
      go : (s : Option ℕ) → basic left right ≡ s → Dec (n + 1 ≤ node_of left)
          → (basic left right ≡ none) × ((leb (n + 1) (node_of left) && repeated lower.left lower.right left right) ≡ false)
      go (some e) q d = absurd (known-gate e (sym (simplified-known e q) ∙ h))
      go none q (yes l) = (
        q,
        ap (λ (b : Bool). b && repeated lower.left lower.right left right) (le-leb (n + 1) (node_of left) l)
            ∙ lowered-gate lower left right (sym (simplified-lower q l) ∙ h),
      )
      go none q (no l) = (q, ap (λ (b : Bool). b && repeated lower.left lower.right left right) (lt-leb (n + 1) (node_of left) (omega arith)))

-- ---- their values

even-edge : (e : ℕ) → odd e ≡ false → e ≡ 2 * node_of e
even-edge e h = go (e % 2) refl h
  where
    go : (d : ℕ) → e % 2 ≡ d → nonzero d ≡ false → e ≡ 2 * node_of e
    go zero q z = omega arith
    go (suc d) q z = let w : ◌≡◌ {A = ℕ} 0 1 = cc in absurd (omega arith)

odd-edge : (e : ℕ) → odd e ≡ true → e ≡ 2 * node_of e + 1
odd-edge e h = go (e % 2) refl h
  where
    go : (d : ℕ) → e % 2 ≡ d → nonzero d ≡ true → e ≡ 2 * node_of e + 1
    go zero q z = let w : ◌≡◌ {A = ℕ} 0 1 = cc in absurd (omega arith)
    go (suc d) q z = omega arith

module _ (vs : List Bool) where
  complement-value : (e : ℕ) → edge_in vs (complement e) ≡ not (edge_in vs e)
  complement-value e = go (ℕ_discrete (e % 2) 0)
    where
      twice : (b : Bool) → b ≡ not (not b)
      twice true = refl
      twice false = refl

      go : Dec (e % 2 ≡ 0) → edge_in vs (complement e) ≡ not (edge_in vs e)
      go (yes z) =
          let k : ℕ = node_of e in
          let p : complement e ≡ 2 * k + 1 = omega arith in
          let q : e ≡ 2 * k = omega arith in
          ap (edge_in vs) p ∙ value-complement (λ i. get_or vs i false) k ∙ sym (ap (λ (x : ℕ). not (edge_in vs x)) q)
      go (no z) =
          let k : ℕ = node_of e in
          let p : complement e ≡ 2 * k = omega arith in
          let q : e ≡ 2 * k + 1 = omega arith in
          ap (edge_in vs) p ∙ twice (edge_in vs (2 * k)) ∙ sym (ap not (ap (edge_in vs) q ∙ value-complement (λ i. get_or vs i false) k))

  among-value : (p : Pair) (e : ℕ) → T (among p.left p.right e) → (edge_in vs e ≡ edge_in vs p.left) ⊎ (edge_in vs e ≡ edge_in vs p.right)
  among-value p e t =
      ⊎_elim (λ a. inl (ap (edge_in vs) (eqb→eq e p.left a))) (λ a. inr (ap (edge_in vs) (eqb→eq e p.right a)))
      (or_cases (eqb e p.left) (eqb e p.right) t)

  module _ (constant : get_or vs 0 false ≡ false) (p : Pair) (left right : ℕ)
      (gate : edge_in vs (2 * node_of left) ≡ (edge_in vs p.left && edge_in vs p.right)) where
    even-value : odd left ≡ false → edge_in vs left ≡ (edge_in vs p.left && edge_in vs p.right)
    even-value o = ap (edge_in vs) (even-edge left o) ∙ gate

    odd-value : odd left ≡ true → edge_in vs left ≡ not (edge_in vs p.left && edge_in vs p.right)
    odd-value o = ap (edge_in vs) (odd-edge left o) ∙ value-complement (λ i. get_or vs i false) (node_of left) ∙ ap not gate

    -- the edge of a rule one gate down has the value of the conjunction
    pub lowered-value : {w : ℕ} → Lowered p left right w → edge_in vs w ≡ (edge_in vs left && edge_in vs right)
    lowered-value (absorbed o t) =
        table (edge_in vs p.left) (edge_in vs p.right) (edge_in vs right)
        (⊎_elim (λ q. inl (sym (complement-value right) ∙ q)) (λ q. inr (sym (complement-value right) ∙ q)) (among-value p (complement right) t))
        ∙ sym (ap (λ (x : Bool). x && edge_in vs right) (odd-value o))
      where
        table : (a b r : Bool) → (not r ≡ a) ⊎ (not r ≡ b) → r ≡ (not (a && b) && r)
        table true true true (inl q) = sym q
        table true true true (inr q) = sym q
        table true false true q = refl
        table false b true q = refl
        table true true false q = refl
        table true false false q = refl
        table false b false q = refl
    lowered-value (contradicted o t) =
        constant
        ∙ table (edge_in vs p.left) (edge_in vs p.right) (edge_in vs right)
        (⊎_elim (λ q. inl (sym (complement-value right) ∙ q)) (λ q. inr (sym (complement-value right) ∙ q)) (among-value p (complement right) t))
        ∙ sym (ap (λ (x : Bool). x && edge_in vs right) (even-value o))
      where
        table : (a b r : Bool) → (not r ≡ a) ⊎ (not r ≡ b) → false ≡ ((a && b) && r)
        table true true true (inl q) = q
        table true true true (inr q) = q
        table true false true q = refl
        table false b true q = refl
        table true true false q = refl
        table true false false q = refl
        table false b false q = refl
    lowered-value (implied o t) =
        even-value o
        ∙ table (edge_in vs p.left) (edge_in vs p.right) (edge_in vs right) (among-value p right t)
        ∙ sym (ap (λ (x : Bool). x && edge_in vs right) (even-value o))
      where
        table : (a b r : Bool) → (r ≡ a) ⊎ (r ≡ b) → (a && b) ≡ ((a && b) && r)
        table true true true q = refl
        table true true false (inl q) = sym q
        table true true false (inr q) = sym q
        table true false r q = refl
        table false b r q = refl

-- the edge is an edge of the graph
pub lowered-edge : {p : Pair} {left right w : ℕ} (m : ℕ) → node_of left < m → node_of right < m → Lowered p left right w → node_of w < m
lowered-edge m l r (absorbed o t) = r
lowered-edge m l r (contradicted o t) = omega arith
lowered-edge m l r (implied o t) = l

-- the operands of the gate that left is, in the memory
pub lower_of : (work : List ℕ) (g : Graph) (left : Edge) (right : ℕ) → Asked work g (edge_word left)
    → g.free + 1 ≤ left.0.0 → {first second : Edge} → first ≡ word_edge (get_or work (16 * left.0.0) 0)
    → second ≡ word_edge (get_or work (16 * left.0.0 + 1) 0) → {r : Option ℕ}
    → r ≡ lowered (record { left = edge_word first; right = edge_word second }) (edge_word left) right
    → r ≡ below g.free (pairs_of work g) (edge_word left) right
lower_of work g left right asked l {first} {second} u v e =
    let n = g.free in
    let k = left.0.0 in
    let i = k - (n + 1) in
    let node : node_of (edge_word left) ≡ k = word-node left in
    let at : n + 1 + i ≡ k = omega arith in
    let z : 16 * k ≡ 16 * k + 0 = omega arith in
    let x : edge_word first ≡ field work k 0 =
    ap edge_word u ∙ edge-word (get_or work (16 * k) 0) ∙ ap (λ (j : ℕ). get_or work j 0) z in
    let y : edge_word second ≡ field work k 1 = ap edge_word v ∙ edge-word (get_or work (16 * k + 1) 0) in
    let p : record { left = edge_word first; right = edge_word second } ≡ pair_at (pairs_of work g) (node_of (edge_word left) - (n + 1)) =
    pair_eq x y
    ∙ sym (ap (λ (j : ℕ). pair_at (pairs_of work g) (j - (n + 1))) node ∙ pair_at-pairs_of work g i (omega (arith, asked.inside)) ∙ ap (pair_of work) at) in
    e ∙ ap (λ (q : Pair). lowered q (edge_word left) right) p
    ∙ sym (below-lower n (pairs_of work g) (edge_word left) right (omega arith))
