-- Laws of cones: which nodes lead to the root, and the numbers of the nodes that are kept. Assumes nothing.
use mathlib.Core.Path.{◌≡◌, refl, sym, ap, ap₂, ◌∙◌, subst}
use mathlib.Core.Bool.{Bool, true, false, cond, ◌&&◌, ◌||◌}
use mathlib.Core.List.{List}
use mathlib.Core.Logic.{◌⊎◌, inl, inr, ⊎_elim}
use Prim.Native.Nat.{ℕ, zero, suc, ◌+◌, ◌-◌, ◌≤◌, ◌<◌}
use native.Mathlib.Nat.{eq-or-lt_of_le, not-suc-le-zero, le_of_suc-le-suc}
use native.Mathlib.Decide.{ℕ_discrete}
use native.Mathlib.Omega.{arith}
use borrow.Author.Tests.{ne_eqb, le-leb, lt-leb}
use lib.Dec.{T, eqb, eqb→eq, eqb_refl}
use lib.ListN.{length}
use Rattle.aiger.specs.Circuit.{var}
use Rattle.aiger.proofs.Tests.{and, and_left, and_right, or_cases, true-T, T_true}
use Rattle.meaning.proofs.Lists.{or_left, or_right, eqb_of}
use Rattle.nodes.specs.Graph.{Pair, pair_at, nodes, Built}
use Rattle.cone.specs.Cone.{operand_of, marked, in_cone, kept_before, number, Numbered}

-- k is the node of an operand of gate j
abbrev pub Operand : List Pair → ℕ → ℕ → Type 0
Operand gs j k = (k ≡ var (pair_at gs j).left) ⊎ (k ≡ var (pair_at gs j).right)

or-false : (a b : Bool) → (a || (b && false)) ≡ a
or-false true b = refl
or-false false true = refl
or-false false false = refl

operand_in : (p : Pair) (k : ℕ) → (k ≡ var p.left) ⊎ (k ≡ var p.right) → T (operand_of p k)
unfolding operand_of
operand_in p k (inl e) = or_left (eqb k (var p.left)) (eqb k (var p.right)) (eqb_of e)
operand_in p k (inr e) = or_right (eqb k (var p.left)) (eqb k (var p.right)) (eqb_of e)

operand-out : (p : Pair) (k : ℕ) → T (operand_of p k) → (k ≡ var p.left) ⊎ (k ≡ var p.right)
unfolding operand_of
operand-out p k t =
    ⊎_elim (λ a. inl (eqb→eq k (var p.left) a)) (λ a. inr (eqb→eq k (var p.right) a))
    (or_cases (eqb k (var p.left)) (eqb k (var p.right)) t)

operand-not : (p : Pair) (k : ℕ) → var p.left < k → var p.right < k → operand_of p k ≡ false
unfolding operand_of
operand-not p k l r = rw (ne_eqb k (var p.left) (λ e. omega arith)) (ne_eqb k (var p.right) (λ e. omega arith))

module _ (n : ℕ) (gs : List Pair) (root : ℕ) where
  -- what is marked stays marked
  stays : (s j t i k : ℕ) → s ≤ t → s + j ≡ t + i → T (marked n gs root s j k) → T (marked n gs root t i k)
  unfolding marked
  stays s j zero i k h e m =
      let a : s ≡ 0 = omega arith in
      let b : j ≡ i = omega arith in
      subst (λ (x : ℕ). T (marked n gs root x i k)) a (subst (λ (x : ℕ). T (marked n gs root s x k)) b m)
  stays s j (suc t) i k h e m =
      ⊎_elim
      (λ (a : s ≡ suc t).
      let b : j ≡ i = omega arith in
      subst (λ (x : ℕ). T (marked n gs root x i k)) a (subst (λ (x : ℕ). T (marked n gs root s x k)) b m))
      (λ l.
      or_left (marked n gs root t (i + 1) k) (marked n gs root t (i + 1) (n + 1 + i) && operand_of (pair_at gs i) k)
      (stays s j t (i + 1) k (omega arith) (omega arith) m))
      (eq-or-lt_of_le h)

  -- the root's node leads to the root
  pub root_kept : T (in_cone n gs root (var root))
  unfolding in_cone marked
  root_kept = stays 0 (length gs) (length gs) 0 (var root) (omega arith) (omega arith) (eqb_refl (var root))

  module _ (built : Built n gs) where
    -- a gate that is passed marks earlier nodes alone
    settled : (s j t i k : ℕ) → s ≤ t → s + j ≡ t + i → t + i ≡ length gs → n + j ≤ k → marked n gs root t i k ≡ marked n gs root s j k
    unfolding marked
    settled s j zero i k h e z l =
        let a : 0 ≡ s = omega arith in
        let b : i ≡ j = omega arith in
        ap₂ (λ (x y : ℕ). marked n gs root x y k) a b
    settled s j (suc t) i k h e z l =
        ⊎_elim (λ (a : s ≡ suc t). let b : i ≡ j = omega arith in ap₂ (λ (x y : ℕ). marked n gs root x y k) (sym a) b)
        (λ u.
        let left = built.earlier i (omega arith) in
        let right = built.larger i (omega arith) in
        ap (λ (x : Bool). marked n gs root t (i + 1) k || (marked n gs root t (i + 1) (n + 1 + i) && x))
        (operand-not (pair_at gs i) k (omega arith) (omega arith))
        ∙ or-false (marked n gs root t (i + 1) k) (marked n gs root t (i + 1) (n + 1 + i))
        ∙ settled s j t (i + 1) k (omega arith) (omega arith) (omega arith) l)
        (eq-or-lt_of_le h)

    -- whether a gate is kept is known when it is passed
    pub passed : (s j : ℕ) → s + j + 1 ≡ length gs → in_cone n gs root (n + 1 + j) ≡ marked n gs root s (j + 1) (n + 1 + j)
    unfolding in_cone
    passed s j h = settled s (j + 1) (length gs) 0 (n + 1 + j) (omega arith) (omega arith) (omega arith) (omega arith)

    -- the operands of a gate that is kept are kept
    pub operand-kept : (j k : ℕ) → j < length gs → T (in_cone n gs root (n + 1 + j)) → Operand gs j k → T (in_cone n gs root k)
    unfolding in_cone marked
    operand-kept j k h t o =
        let s = length gs - (j + 1) in
        let e : s + j + 1 ≡ length gs = omega arith in
        let m = subst T (passed s j e) t in
        stays (suc s) j (length gs) 0 k (omega arith) (omega arith)
        (or_right (marked n gs root s (j + 1) k) (marked n gs root s (j + 1) (n + 1 + j) && operand_of (pair_at gs j) k)
        (and (marked n gs root s (j + 1) (n + 1 + j)) (operand_of (pair_at gs j) k) m (operand_in (pair_at gs j) k o)))

    -- why a node is kept
    abbrev pub Reason : ℕ → Type 0
    Reason k = (k ≡ var root) ⊎ ((j : ℕ) × (j < length gs) × T (in_cone n gs root (n + 1 + j)) × Operand gs j k)

    reason-of : (s i k : ℕ) → s + i ≡ length gs → T (marked n gs root s i k) → Reason k
    unfolding marked
    reason-of zero i k h t = inl (eqb→eq k (var root) t)
    reason-of (suc s) i k h t =
        ⊎_elim (λ a. reason-of s (i + 1) k (omega arith) a)
        (λ a.
        let m = and_left (marked n gs root s (i + 1) (n + 1 + i)) (operand_of (pair_at gs i) k) a in
        let o = and_right (marked n gs root s (i + 1) (n + 1 + i)) (operand_of (pair_at gs i) k) a in
        inr (i, omega arith, subst T (sym (passed s i (omega arith))) m, operand-out (pair_at gs i) k o))
        (or_cases (marked n gs root s (i + 1) k) (marked n gs root s (i + 1) (n + 1 + i) && operand_of (pair_at gs i) k) t)

    -- a node that is kept is the root's, or that of an operand of a gate that is kept
    pub reason : (k : ℕ) → T (in_cone n gs root k) → Reason k
    unfolding in_cone
    reason k t = reason-of (length gs) 0 k (omega arith) t

    -- the node of an operand is an earlier one
    pub operand-earlier : (j k : ℕ) → j < length gs → Operand gs j k → k < n + 1 + j
    operand-earlier j k h (inl e) = omega (arith, built.earlier j h)
    operand-earlier j k h (inr e) = omega (arith, built.earlier j h, built.larger j h)

  -- ---- numbers

  pub before-kept : (j : ℕ) → T (in_cone n gs root (n + 1 + j)) → kept_before n gs root (suc j) ≡ kept_before n gs root j + 1
  unfolding kept_before
  before-kept j t = ap (λ (b : Bool). kept_before n gs root j + cond b 1 0) (true-T (in_cone n gs root (n + 1 + j)) t)

  before-step : (j : ℕ) → kept_before n gs root j ≤ kept_before n gs root (suc j)
  unfolding kept_before
  before-step j = omega arith

  pub before-le : (i j : ℕ) → i ≤ j → kept_before n gs root i ≤ kept_before n gs root j
  before-le i zero h = let e : i ≡ 0 = omega arith in let q : kept_before n gs root i ≡ kept_before n gs root 0 = ap (kept_before n gs root) e in omega arith
  before-le i (suc j) h =
      ⊎_elim (λ (e : i ≡ suc j). let q : kept_before n gs root i ≡ kept_before n gs root (suc j) = ap (kept_before n gs root) e in omega arith)
      (λ l. omega (arith, before-le i j (le_of_suc-le-suc l), before-step j)) (eq-or-lt_of_le h)

  pub before-lt : (i j : ℕ) → i < j → T (in_cone n gs root (n + 1 + i)) → kept_before n gs root i < kept_before n gs root j
  before-lt i j h t = omega (arith, before-kept i t, before-le (suc i) j (omega arith))

  -- no more gates are kept than there are
  pub before-bound : (j : ℕ) → kept_before n gs root j ≤ j
  unfolding kept_before
  before-bound zero = omega arith
  before-bound (suc j) = go (in_cone n gs root (n + 1 + j)) (before-bound j)
    where
      go : (b : Bool) → kept_before n gs root j ≤ j → kept_before n gs root j + cond b 1 0 ≤ suc j
      go true h = omega arith
      go false h = omega arith

  -- below the number of gates that are kept, each number is that of a gate
  pub position : (j p : ℕ) → p < kept_before n gs root j → (i : ℕ) × (i < j) × T (in_cone n gs root (n + 1 + i)) × (kept_before n gs root i ≡ p)
  unfolding kept_before
  position zero p h = absurd (not-suc-le-zero h)
  position (suc j) p h = go (in_cone n gs root (n + 1 + j)) refl h (position j p)
    where
      go : (b : Bool) → in_cone n gs root (n + 1 + j) ≡ b → p < kept_before n gs root j + cond b 1 0
          → (p < kept_before n gs root j → (i : ℕ) × (i < j) × T (in_cone n gs root (n + 1 + i)) × (kept_before n gs root i ≡ p))
          → (i : ℕ) × (i < suc j) × T (in_cone n gs root (n + 1 + i)) × (kept_before n gs root i ≡ p)
      go true e l r =
          elim (ℕ_discrete (kept_before n gs root j) p)
          [ yes q ↦ (j, omega arith, T_true e, q) | no k ↦ (let a = r (omega arith) in (a.0, omega (arith, a.1), a.2, a.3)) ]
      go false e l r = let a = r (omega arith) in (a.0, omega (arith, a.1), a.2, a.3)

  pub number-leaf : (k : ℕ) → k ≤ n → number n gs root k ≡ k
  unfolding number
  number-leaf k h = rw (le-leb k n h)

  pub number-gate : (j : ℕ) → number n gs root (n + 1 + j) ≡ n + 1 + kept_before n gs root j
  unfolding number
  number-gate j =
      let e : n + 1 + j - (n + 1) ≡ j = omega arith in
      rw (lt-leb (n + 1 + j) n (omega arith)) (ap (λ (i : ℕ). n + 1 + kept_before n gs root i) e)

  -- the number of a gate, by its node
  pub gate-number : (k : ℕ) → n < k → number n gs root k ≡ n + 1 + kept_before n gs root (k - (n + 1))
  unfolding number
  gate-number k h = rw (lt-leb k n h)

  gate-in_cone : (k : ℕ) → n < k → Numbered n gs root k → T (in_cone n gs root (n + 1 + (k - (n + 1))))
  gate-in_cone k h (inl l) = absurd (omega arith)
  gate-in_cone k h (inr t) = let e : k ≡ n + 1 + (k - (n + 1)) = omega arith in subst (λ (x : ℕ). T (in_cone n gs root x)) e t

  -- numbering is monotone on the nodes that have numbers
  pub number_lt : (k l : ℕ) → k < l → Numbered n gs root k → number n gs root k < number n gs root l
  number_lt k l h a =
      elim (lt-or k) [
        | inl u ↦ elim (lt-or l) [ inl v ↦ omega (arith, number-leaf k u, number-leaf l v) | inr v ↦ omega (arith, number-leaf k u, gate-number l v) ]
        | inr u ↦
            omega (arith, gate-number k u, gate-number l (omega arith), before-lt (k - (n + 1)) (l - (n + 1)) (omega arith) (gate-in_cone k u a))
      ]
    where
      lt-or : (x : ℕ) → (x ≤ n) ⊎ (n < x)
      lt-or x = elim (ℕ_discrete (x - n) 0) [ yes e ↦ inl (omega arith) | no e ↦ inr (omega arith) ]

  -- and injective
  pub number_same : (k l : ℕ) → Numbered n gs root k → Numbered n gs root l → number n gs root k ≡ number n gs root l → k ≡ l
  number_same k l a b e =
      elim (ℕ_discrete k l) [
        | yes q ↦ q
        | no q ↦
            absurd (elim (ℕ_discrete (k - l) 0) [ yes z ↦ omega (arith, number_lt k l (omega arith) a) | no z ↦ omega (arith, number_lt l k (omega arith) b) ])
      ]

  -- no number is above that of the last gate that is kept
  pub number_bound : (k : ℕ) → k < nodes n gs → Numbered n gs root k → number n gs root k ≤ n + kept_before n gs root (length gs)
  number_bound k h a =
      elim (ℕ_discrete (k - n) 0) [
        | yes e ↦ omega (arith, number-leaf k (omega arith))
        | no e ↦
            omega (arith, gate-number k (omega arith), before-lt (k - (n + 1)) (length gs) (omega arith) (gate-in_cone k (omega arith) a))
      ]
