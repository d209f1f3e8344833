-- Laws of the conjunction as a function: what it is where a rule applies, where a gate is there, where an edge is equal in function and
-- where a gate is added. In a built graph no two gates have the same operands and, with twelve free bits or fewer, no two edges are equal
-- in function. Assumes nothing.
use mathlib.Core.Path.{◌≡◌, refl, sym, ap, ◌∙◌, subst}
use mathlib.Core.Bool.{Bool, true, false, not, cond, beq}
use mathlib.Core.Logic.{◌⊎◌, inl, inr}
use mathlib.Core.List.{List, [], ◌∷◌, ◌++◌}
use mathlib.Core.Option.{none, some}
use Prim.Native.Nat.{ℕ, ◌+◌, ◌-◌, ◌*◌, ◌^◌, ◌≤◌, ◌<◌}
use native.Mathlib.Nat.{max-eq_left, min-eq_right, max_comm, min_comm}
use native.Mathlib.Decide.{ℕ_discrete, dec_le, dec_lt}
use native.Mathlib.Omega.{arith}
use borrow.Author.Tests.{le-leb, lt-leb}
use lib.Dec.{T, leb, eqb, eqb→eq}
use lib.ListN.{length}
use lib.Pow.{pow_pos, pow-lt}
use Rattle.aiger.specs.Bits.{bit}
use Rattle.aiger.specs.Lists.{last_below}
use Rattle.aiger.specs.Circuit.{var}
use Rattle.aiger.specs.Frames.{free_bit}
use Rattle.aiger.proofs.Tests.{and, and_left, and_right, below_at, below_all}
use Rattle.words.proofs.Bits.{bit-none, bit-beyond, join-high}
use Rattle.meaning.proofs.Lists.{eqb_of, equal-of-beq, last-only, last_none}
use Rattle.nodes.specs.Graph.{Pair, nodes, pair_at, InGraph, Equal, Opposite, Built}
use Rattle.nodes.proofs.Laws.{edge-free, edge-false, edge-complement}
use Rattle.signatures.specs.Twin.{edge_under, both_under, Conjunction}
use Rattle.rules.specs.Rules.{simplified}
use Rattle.graph.specs.Stored.{Fresh, Twinless}
use Rattle.graph.specs.Chosen.{has_operands, is_twin, twin_of, or_added, or_merged, or_made, conjoin}

-- ---- edges of a built graph differ in function

-- the sequence with free bit j alone
single : (n j : ℕ) → j < n → 2 ^ (n - (j + 1)) < 2 ^ n
single n j h = pow-lt (omega arith)

bit-single : (p : ℕ) → bit (2 ^ p) p ≡ true
unfolding bit
bit-single p =
    let a : 1 * 2 ^ p + 0 ≡ 2 ^ p = omega arith in
    let z : p - p ≡ 0 = omega arith in
    ap (λ (x : ℕ). bit x p) (sym a) ∙ join-high p 1 0 p (pow_pos p) (omega arith) ∙ ap (bit 1) z

module _ (n : ℕ) (gs : List Pair) where
  -- a leaf is false where all free bits before it are
  leaf-false : (k x : ℕ) → k ≤ n → ((j : ℕ) → j < k → free_bit n x j ≡ false) → edge_under n gs (2 * k) x ≡ false
  leaf-false k x l h = go (ℕ_discrete k 0)
    where
      go : Dec (k ≡ 0) → edge_under n gs (2 * k) x ≡ false
      go (yes e) = ap (λ (i : ℕ). edge_under n gs (2 * i) x) e ∙ edge-false n gs (free_bit n x)
      go (no d) =
          let e : k ≡ k - 1 + 1 = omega arith in
          ap (λ (i : ℕ). edge_under n gs (2 * i) x) e ∙ edge-free n gs (free_bit n x) (k - 1) (omega arith) ∙ h (k - 1) (omega arith)

  leaf-none : (k : ℕ) → k ≤ n → edge_under n gs (2 * k) 0 ≡ false
  leaf-none k l = leaf-false k 0 l (λ j h. bit-none (n - (j + 1)))

  -- two leaves
  leaves-unequal : (k j : ℕ) → k < j → j ≤ n → Equal n gs (2 * k) (2 * j) → ⊥
  leaves-unequal k j h l e =
      let p : ℕ = n - j in
      let x : ℕ = 2 ^ p in
      let below : x < 2 ^ n = pow-lt (omega arith) in
      let a : edge_under n gs (2 * k) x ≡ false =
      leaf-false k x (omega arith) (λ i u. bit-beyond (n - j + 1) x (n - (i + 1)) (pow-lt (omega arith)) (omega arith)) in
      let q : j ≡ j - 1 + 1 = omega arith in
      let r : n - (j - 1 + 1) ≡ p = omega arith in
      let b : edge_under n gs (2 * j) x ≡ true =
      ap (λ (i : ℕ). edge_under n gs (2 * i) x) q ∙ edge-free n gs (free_bit n x) (j - 1) (omega arith) ∙ ap (bit x) r ∙ bit-single p in
      let z : false ≡ true = sym a ∙ e x below ∙ b in
      let w : ◌≡◌ {A = ℕ} 0 1 = cc in
      omega arith

  leaves-unopposite : (k j : ℕ) → k < j → j ≤ n → Opposite n gs (2 * k) (2 * j) → ⊥
  leaves-unopposite k j h l e =
      let z : false ≡ true = sym (leaf-none k (omega arith)) ∙ e 0 (pow_pos n) ∙ ap not (leaf-none j l) in
      let w : ◌≡◌ {A = ℕ} 0 1 = cc in
      omega arith

  module _ (b : Built n gs) (few : n ≤ 12) where
    -- two nodes are not related where no two leaves are, nor a gate and a node before it
    nodes-apart : (R : ℕ → ℕ → Type 0) → ((k j : ℕ) → k < j → j ≤ n → R (2 * k) (2 * j) → ⊥)
        → ((i : ℕ) → i < length gs → (k : ℕ) → k < n + 1 + i → R (2 * k) (2 * (n + 1 + i)) → ⊥)
        → (k j : ℕ) → k < j → j < nodes n gs → R (2 * k) (2 * j) → ⊥
    nodes-apart R leaves gates k j h l e = go (dec_le j n)
      where
        go : Dec (j ≤ n) → ⊥
        go (yes u) = leaves k j h u e
        go (no u) =
            let q : j ≡ n + 1 + (j - (n + 1)) = omega arith in
            gates (j - (n + 1)) (omega arith) k (omega arith) (subst (λ (i : ℕ). R (2 * k) (2 * i)) q e)

    nodes-unequal : (k j : ℕ) → k < j → j < nodes n gs → Equal n gs (2 * k) (2 * j) → ⊥
    nodes-unequal = nodes-apart (Equal n gs) leaves-unequal (b.unequal few)

    nodes-unopposite : (k j : ℕ) → k < j → j < nodes n gs → Opposite n gs (2 * k) (2 * j) → ⊥
    nodes-unopposite = nodes-apart (Opposite n gs) leaves-unopposite (b.unopposite few)

    not_same : (a : Bool) → a ≡ not a → ⊥
    not_same true e = let w : ◌≡◌ {A = ℕ} 0 1 = cc in omega arith
    not_same false e = let w : ◌≡◌ {A = ℕ} 0 1 = cc in omega arith

    not-not : (a c : Bool) → not a ≡ c → a ≡ not c
    not-not true c e = ap not e
    not-not false c e = ap not e

    same_not : (a c : Bool) → not a ≡ not c → a ≡ c
    same_not true true e = refl
    same_not true false e = sym e
    same_not false true e = sym e
    same_not false false e = refl

    -- edges that are equal in function and go to nodes k and j
    signs : (k j d e : ℕ) → k < j → j < nodes n gs → (d ≡ 2 * k) ⊎ (d ≡ 2 * k + 1) → (e ≡ 2 * j) ⊎ (e ≡ 2 * j + 1) → Equal n gs d e → ⊥
    signs k j d e h l (inl p) (inl q) f = nodes-unequal k j h l (rw (p, q) at f)
    signs k j d e h l (inl p) (inr q) f =
        nodes-unopposite k j h l (λ x u. (rw (p, q) at f) x u ∙ edge-complement n gs (free_bit n x) j)
    signs k j d e h l (inr p) (inl q) f =
        nodes-unopposite k j h l
        (λ x u. not-not (edge_under n gs (2 * k) x) (edge_under n gs (2 * j) x) (sym (edge-complement n gs (free_bit n x) k) ∙ (rw (p, q) at f) x u))
    signs k j d e h l (inr p) (inr q) f =
        nodes-unequal k j h l
        (λ x u. same_not (edge_under n gs (2 * k) x) (edge_under n gs (2 * j) x)
        (sym (edge-complement n gs (free_bit n x) k) ∙ (rw (p, q) at f) x u ∙ edge-complement n gs (free_bit n x) j))

    parts : (d : ℕ) → (d ≡ 2 * var d) ⊎ (d ≡ 2 * var d + 1)
    parts d = go (ℕ_discrete d (2 * var d))
      where
        go : Dec (d ≡ 2 * var d) → (d ≡ 2 * var d) ⊎ (d ≡ 2 * var d + 1)
        go (yes e) = inl e
        go (no e) = inr (omega arith)

    one-node : (k d e : ℕ) → (d ≡ 2 * k) ⊎ (d ≡ 2 * k + 1) → (e ≡ 2 * k) ⊎ (e ≡ 2 * k + 1) → Equal n gs d e → d ≡ e
    one-node k d e (inl p) (inl q) f = p ∙ sym q
    one-node k d e (inl p) (inr q) f =
        absurd (not_same (edge_under n gs (2 * k) 0) ((rw (p, q) at f) 0 (pow_pos n) ∙ edge-complement n gs (free_bit n 0) k))
    one-node k d e (inr p) (inl q) f =
        absurd (not_same (edge_under n gs (2 * k) 0) (sym ((rw (p, q) at f) 0 (pow_pos n)) ∙ edge-complement n gs (free_bit n 0) k))
    one-node k d e (inr p) (inr q) f = p ∙ sym q

    -- edges that are equal in function are one edge
    pub edges-one : (d e : ℕ) → InGraph n gs d → InGraph n gs e → Equal n gs d e → d ≡ e
    edges-one d e u v f = go (ℕ_discrete (var d) (var e)) (dec_lt (var d) (var e))
      where
        go : Dec (var d ≡ var e) → Dec (var d < var e) → d ≡ e
        go (yes q) s = one-node (var e) d e (rw q at (parts d)) (parts e) f
        go (no q) (yes l) = absurd (signs (var d) (var e) d e l v (parts d) (parts e) f)
        go (no q) (no l) = absurd (signs (var e) (var d) e d (omega arith) u (parts e) (parts d) (λ x w. sym (f x w)))

-- ---- the tests

pub twin-test : (n : ℕ) (gs : List Pair) (left right e : ℕ) → T (is_twin n gs left right e) → Conjunction n gs left right e
unfolding is_twin
twin-test n gs left right e t x h = equal-of-beq (edge_under n gs e x) (both_under n gs left right x) (below_at (2 ^ n) _ t x h)

beq-of : {a b : Bool} → a ≡ b → T (beq a b)
beq-of {a} e = subst (λ (b : Bool). T (beq a b)) e (go a)
  where
    go : (a : Bool) → T (beq a a)
    go true = tt
    go false = tt

pub test-twin : (n : ℕ) (gs : List Pair) (left right e : ℕ) → Conjunction n gs left right e → T (is_twin n gs left right e)
unfolding is_twin
test-twin n gs left right e h = below_all (2 ^ n) _ (λ x l. beq-of (h x l))

operands-test : (gs : List Pair) (left right i : ℕ) → T (has_operands gs left right i) → ((pair_at gs i).left ≡ left) × ((pair_at gs i).right ≡ right)
unfolding has_operands
operands-test gs left right i t =
    let a = eqb (pair_at gs i).left left in
    let b = eqb (pair_at gs i).right right in
    (eqb→eq _ _ (and_left a b t), eqb→eq _ _ (and_right a b t))

test-operands : (gs : List Pair) (left right i : ℕ) → (pair_at gs i).left ≡ left → (pair_at gs i).right ≡ right → T (has_operands gs left right i)
unfolding has_operands
test-operands gs left right i p q = and (eqb (pair_at gs i).left left) (eqb (pair_at gs i).right right) (eqb_of p) (eqb_of q)

-- ---- the conjunction

module _ (n : ℕ) (gs : List Pair) (left right : ℕ) (order : right ≤ left) where
  ordered : conjoin n gs left right ≡ or_made n gs left right (simplified n gs left right)
  unfolding conjoin
  ordered = rw (max-eq_left order, min-eq_right order)

  -- a rule
  pub conjoin-known : (e : ℕ) → simplified n gs left right ≡ some e → conjoin n gs left right ≡ record { gates = gs; edge = e }
  conjoin-known e s = ordered ∙ ap (or_made n gs left right) s

  module _ (built : Built n gs) (s : simplified n gs left right ≡ none) where
    gate-made : conjoin n gs left right ≡ or_merged n gs left right (last_below (has_operands gs left right) (length gs))
    gate-made = ordered ∙ ap (or_made n gs left right) s

    -- the gate with these operands
    pub conjoin-hashed : (i : ℕ) → i < length gs → (pair_at gs i).left ≡ left → (pair_at gs i).right ≡ right
        → conjoin n gs left right ≡ record { gates = gs; edge = 2 * (n + 1 + i) }
    conjoin-hashed i l p q =
        gate-made
        ∙ ap (or_merged n gs left right)
        (last-only (has_operands gs left right) (length gs) i l (test-operands gs left right i p q)
        (λ j k t. let d = operands-test gs left right j t in same-gate j k (d.0 ∙ sym p) (d.1 ∙ sym q) (ℕ_discrete i j) (dec_lt i j)))
      where
        same-gate : (j : ℕ) → j < length gs → (pair_at gs j).left ≡ (pair_at gs i).left → (pair_at gs j).right ≡ (pair_at gs i).right → Dec (i ≡ j) → Dec (i < j) → j ≡ i
        same-gate j k a b (yes e) d = sym e
        same-gate j k a b (no e) (yes u) = absurd (built.apart j i k u a b)
        same-gate j k a b (no e) (no u) = absurd (built.apart i j l (omega arith) (sym a) (sym b))

    module _ (fresh : Fresh gs left right) where
      none-there : last_below (has_operands gs left right) (length gs) ≡ none
      none-there = last_none _ (length gs) (λ i l t. let d = operands-test gs left right i t in fresh i l d.0 d.1)

      new-made : conjoin n gs left right ≡ or_added n gs left right (twin_of n gs left right)
      new-made = gate-made ∙ ap (or_merged n gs left right) none-there

      -- the edge that is equal in function
      pub conjoin-merged : n ≤ 12 → (e : ℕ) → InGraph n gs e → Conjunction n gs left right e → conjoin n gs left right ≡ record { gates = gs; edge = e }
      unfolding twin_of
      conjoin-merged few e i c =
          new-made
          ∙ ap (λ (b : Bool). or_added n gs left right (cond b (last_below (is_twin n gs left right) (2 * nodes n gs)) none)) (le-leb n 12 few)
          ∙ ap (or_added n gs left right)
          (last-only (is_twin n gs left right) (2 * nodes n gs) e (omega arith) (test-twin n gs left right e c)
          (λ d l t. edges-one n gs built few d e (omega arith) i (λ x u. twin-test n gs left right d t x u ∙ sym (c x u))))

      -- a new gate
      pub conjoin-added : (n ≤ 12 → Twinless n gs left right)
          → conjoin n gs left right ≡ record { gates = gs ++ (record { left = left; right = right } ∷ []); edge = 2 * nodes n gs }
      unfolding twin_of
      conjoin-added twinless = new-made ∙ go (dec_le n 12)
        where
          go : Dec (n ≤ 12) → or_added n gs left right (cond (leb n 12) (last_below (is_twin n gs left right) (2 * nodes n gs)) none)
              ≡ record { gates = gs ++ (record { left = left; right = right } ∷ []); edge = 2 * nodes n gs }
          go (yes few) =
              ap (λ (b : Bool). or_added n gs left right (cond b (last_below (is_twin n gs left right) (2 * nodes n gs)) none)) (le-leb n 12 few)
              ∙ ap (or_added n gs left right)
              (last_none (is_twin n gs left right) (2 * nodes n gs) (λ e l t. twinless few e (omega arith) (twin-test n gs left right e t)))
          go (no many) =
              ap (λ (b : Bool). or_added n gs left right (cond b (last_below (is_twin n gs left right) (2 * nodes n gs)) none)) (lt-leb n 12 (omega arith))

-- in either order of the operands
pub conjoin-swap : (n : ℕ) (gs : List Pair) (a b : ℕ) → conjoin n gs a b ≡ conjoin n gs b a
unfolding conjoin
conjoin-swap n gs a b = rw (max_comm a b, min_comm a b)
