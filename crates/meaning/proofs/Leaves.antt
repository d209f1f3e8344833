-- Functions of the free bits that need no gate: the constants, the free bits and their complements. In a circuit with the shape of a fold
-- they are the values of the literals that no gate defines, and a fold that is reduced has no gate for them. Assumes nothing.
use mathlib.Core.Path.{◌≡◌, refl, sym, ap, ◌∙◌, subst}
use mathlib.Core.Bool.{Bool, true, false, not, ◌&&◌, ◌||◌, beq, not-not}
use mathlib.Core.List.Memᴰ
use mathlib.Core.List.{List, [], ◌∷◌, map, Memᴰ}
use mathlib.Core.Logic.{⊎_elim}
use Prim.Native.Nat.{ℕ, zero, suc, ◌+◌, ◌-◌, ◌*◌, ◌/◌, ◌%◌, ◌≤◌, ◌<◌, ◌^◌}
use native.Mathlib.Decide.{ℕ_discrete}
use native.Mathlib.Omega.{arith}
use lib.Dec.{T, eqb, eqb→eq}
use lib.ListN.{length, get_or}
use Rattle.aiger.specs.Lists.{every, any, pairwise, every_below, member, upto}
use Rattle.aiger.specs.Circuit.{Circuit, Gate, var}
use Rattle.aiger.specs.Frames.{Run, value_at, free_bit}
use Rattle.aiger.specs.Fold.{value_on, output, leads, twins, reduced}
use Rattle.aiger.proofs.Tests.{and_left, and_right, or_cases, not-both, below_all, beq_same}
use Rattle.meaning.proofs.Lists.{mem-get_d, mem-at, get_d-map-upto, every-mem, every-at, any-mem, or_left, or_right}
use Rattle.meaning.proofs.Defined.{no_gate, input_at, gate_at}
use Rattle.meaning.proofs.Values.{zero-value, input-value, complement-value}
use Rattle.meaning.proofs.Shape.{FoldShape, gate-lit, input-count, shape-right, shape-acyclic}

-- over the sequences of n free bits, f is constant, or a free bit, or the complement of one
pub data Leaf (n : ℕ) (f : ℕ → Bool) : Type 0 where
  constant : (v : Bool) → ((x : ℕ) → x < 2 ^ n → f x ≡ v) → Leaf n f
  equal : (j : ℕ) → j < n → ((x : ℕ) → x < 2 ^ n → f x ≡ free_bit n x j) → Leaf n f
  opposite : (j : ℕ) → j < n → ((x : ℕ) → x < 2 ^ n → f x ≡ not (free_bit n x j)) → Leaf n f

beq-not : (a : Bool) → T (not (beq a (not a)))
beq-not true = tt
beq-not false = tt

module _ {n : ℕ} {f g : ℕ → Bool} where
  -- what equals a leaf for every sequence is a leaf
  pub leaf-equal : ((x : ℕ) → x < 2 ^ n → g x ≡ f x) → Leaf n f → Leaf n g
  leaf-equal e (constant v h) = constant v (λ x l. e x l ∙ h x l)
  leaf-equal e (equal j k h) = equal j k (λ x l. e x l ∙ h x l)
  leaf-equal e (opposite j k h) = opposite j k (λ x l. e x l ∙ h x l)

  -- and so is what is opposite to one
  leaf-opposite : ((x : ℕ) → x < 2 ^ n → g x ≡ not (f x)) → Leaf n f → Leaf n g
  leaf-opposite e (constant v h) = constant (not v) (λ x l. e x l ∙ ap not (h x l))
  leaf-opposite e (equal j k h) = opposite j k (λ x l. e x l ∙ ap not (h x l))
  leaf-opposite e (opposite j k h) = equal j k (λ x l. e x l ∙ ap not (h x l) ∙ not-not (free_bit n x j))

module _ {n : ℕ} {d : Circuit} (s : FoldShape n d) where
  -- ---- the literals that no gate defines

  value-zero : (x : ℕ) → value_on d n x 0 ≡ false
  unfolding value_on
  value-zero x = zero-value d (record { start = []; rows = map (free_bit n x) (upto n) ∷ [] }) 0 (shape-right s) (shape-acyclic s)

  input-lit : (j : ℕ) → j < n → input_at d j ≡ 2 * (j + 1)
  input-lit j h = ap (λ (l : List ℕ). get_or l j 0) s.inputs ∙ get_d-map-upto (λ i. 2 * (i + 1)) n j 0 h

  -- input j has the value of free bit j
  pub value-input : (x j : ℕ) → j < n → value_on d n x (2 * (j + 1)) ≡ free_bit n x j
  unfolding value_on
  value-input x j h =
      let r : Run = record { start = []; rows = map (free_bit n x) (upto n) ∷ [] } in
      ap (value_at d r 0) (sym (input-lit j h)) ∙ input-value d r 0 (shape-right s) (shape-acyclic s) j (omega (arith, input-count s))
      ∙ get_d-map-upto (free_bit n x) n j false h

  value-complement : (x v : ℕ) → value_on d n x (2 * v + 1) ≡ not (value_on d n x (2 * v))
  unfolding value_on
  value-complement x v = complement-value d (record { start = []; rows = map (free_bit n x) (upto n) ∷ [] }) 0 v

  variable-leaf : (v : ℕ) → v ≤ n → Leaf n (λ x. value_on d n x (2 * v))
  variable-leaf zero h = constant false (λ x l. value-zero x)
  variable-leaf (suc j) h =
      let e : 2 * suc j ≡ 2 * (j + 1) = omega arith in
      equal j (omega arith) (λ x l. ap (value_on d n x) e ∙ value-input x j (omega arith))

  -- each is a leaf
  pub literal-leaf : (l : ℕ) → l ≤ 2 * n + 1 → Leaf n (λ x. value_on d n x l)
  literal-leaf l h =
      elim (ℕ_discrete (l % 2) 0) [
        | yes e ↦ (let q : l ≡ 2 * (l / 2) = omega arith in leaf-equal (λ x k. ap (value_on d n x) q) (variable-leaf (l / 2) (omega arith)))
        | no e ↦
            (let q : l ≡ 2 * (l / 2) + 1 = omega arith in
            leaf-opposite (λ x k. ap (value_on d n x) q ∙ value-complement x (l / 2)) (variable-leaf (l / 2) (omega arith)))
      ]

  -- ---- a gate of a reduced circuit is no leaf

  twin-equal : (l m : ℕ) → ((x : ℕ) → x < 2 ^ n → value_on d n x m ≡ value_on d n x l) → T (twins d n l m)
  unfolding twins
  twin-equal l m h =
      let p : ℕ → Bool = λ x. beq (value_on d n x l) (value_on d n x m) in
      let q : ℕ → Bool = λ x. not (beq (value_on d n x l) (value_on d n x m)) in
      or_left (every_below (2 ^ n) p) (every_below (2 ^ n) q)
      (below_all (2 ^ n) p (λ x k. subst (λ (b : Bool). T (beq (value_on d n x l) b)) (sym (h x k)) (beq_same (value_on d n x l))))

  twin-opposite : (l m : ℕ) → ((x : ℕ) → x < 2 ^ n → value_on d n x m ≡ not (value_on d n x l)) → T (twins d n l m)
  unfolding twins
  twin-opposite l m h =
      let p : ℕ → Bool = λ x. beq (value_on d n x l) (value_on d n x m) in
      let q : ℕ → Bool = λ x. not (beq (value_on d n x l) (value_on d n x m)) in
      or_right (every_below (2 ^ n) p) (every_below (2 ^ n) q)
      (below_all (2 ^ n) q (λ x k. subst (λ (b : Bool). T (not (beq (value_on d n x l) b))) (sym (h x k)) (beq-not (value_on d n x l))))

  input-mem : (j : ℕ) → j < n → Memᴰ (2 * (j + 1)) (0 ∷ d.inputs)
  input-mem j h = Memᴰ.tail (Memᴰ.cast (sym (input-lit j h)) (mem-get_d d.inputs j 0 (omega (arith, input-count s))))

  -- a literal with the values of a leaf is a twin of literal 0 or of an input
  leaf-twin : (m : ℕ) → Leaf n (λ x. value_on d n x m) → (l : ℕ) × Memᴰ l (0 ∷ d.inputs) × T (twins d n l m)
  leaf-twin m (constant false h) = (0, Memᴰ.head refl, twin-equal 0 m (λ x k. h x k ∙ sym (value-zero x)))
  leaf-twin m (constant true h) = (0, Memᴰ.head refl, twin-opposite 0 m (λ x k. h x k ∙ ap not (sym (value-zero x))))
  leaf-twin m (equal j u h) = (2 * (j + 1), input-mem j u, twin-equal (2 * (j + 1)) m (λ x k. h x k ∙ sym (value-input x j u)))
  leaf-twin m (opposite j u h) =
      (2 * (j + 1), input-mem j u, twin-opposite (2 * (j + 1)) m (λ x k. h x k ∙ ap not (sym (value-input x j u))))

  gate-no-leaf : T (reduced d n) → (i : ℕ) → i < length d.gates → Leaf n (λ x. value_on d n x (gate_at d i).lit) → ⊥
  unfolding reduced
  gate-no-leaf r i h f =
      let m = (gate_at d i).lit in
      let w = leaf-twin m f in
      let apart : Gate → Bool = λ g. every (λ l. not (twins d n l g.lit)) (0 ∷ d.inputs) in
      let pairs = pairwise (λ g k. not (twins d n g.lit k.lit)) d.gates in
      let e : T (apart (gate_at d i)) = every-at apart d.gates i no_gate h (and_right pairs (every apart d.gates) r) in
      not-both (twins d n w.0 m) (every-mem (λ l. not (twins d n l m)) w.1 e) w.2

  -- ---- the last gate

  operands-before : (g : Gate) → Memᴰ g d.gates → (var g.left < n + length d.gates) × (var g.right < n + length d.gates)
  operands-before g m =
      let p = mem-at no_gate m in
      let o = s.operands p.0 p.1 in
      let l = gate-lit s p.0 p.1 in
      subst (λ (x : Gate). (var x.left < n + length d.gates) × (var x.right < n + length d.gates)) p.2
      (omega (arith, o, p.1), omega (arith, o, p.1))

  no_operand : (g : Gate) → Memᴰ g d.gates → T (member (n + length d.gates) (var g.left ∷ var g.right ∷ [])) → ⊥
  no_operand g m t =
      let v = n + length d.gates in
      let b = operands-before g m in
      ⊎_elim (λ e. omega (arith, b, eqb→eq v (var g.left) e))
      (λ r. ⊎_elim (λ e. omega (arith, b, eqb→eq v (var g.right) e)) (λ z. z) (or_cases (eqb v (var g.right)) false r))
      (or_cases (eqb v (var g.left)) (eqb v (var g.right) || false) t)

  -- the last gate is no operand, since operands are defined earlier: it leads to the output only as the output's own gate
  last-output : (k : ℕ) → T (leads d k (n + length d.gates)) → var (output d) ≡ n + length d.gates
  unfolding leads
  last-output zero t = sym (eqb→eq (n + length d.gates) (var (output d)) t)
  last-output (suc k) t =
      let v = n + length d.gates in
      let p : Gate → Bool = λ g. member v (var g.left ∷ var g.right ∷ []) in
      let q : Gate → Bool = λ g. leads d k (var g.lit) in
      ⊎_elim (λ e. sym (eqb→eq v (var (output d)) e))
      (λ a. let r = any-mem (λ g. p g && q g) d.gates a in absurd (no_operand r.0 r.1 (and_left (p r.0) (q r.0) r.2)))
      (or_cases (eqb v (var (output d))) (any (λ g. p g && q g) d.gates) t)

  -- so where there is a gate, the output is a leaf only if the last gate is
  last_leaf : var (output d) ≡ n + length d.gates → Leaf n (λ x. value_on d n x (output d))
      → Leaf n (λ x. value_on d n x (2 * (n + length d.gates)))
  last_leaf e f =
      let v = n + length d.gates in
      elim (ℕ_discrete (output d % 2) 0) [
        | yes z ↦ (let q : 2 * v ≡ output d = omega arith in leaf-equal (λ x k. ap (value_on d n x) q) f)
        | no z ↦
            (let q : 2 * v + 1 ≡ output d = omega arith in
            leaf-opposite (λ x k. sym (not-not (value_on d n x (2 * v))) ∙ ap not (sym (value-complement x v) ∙ ap (value_on d n x) q)) f)
      ]

  -- where every gate leads to the output and the circuit is reduced, an output that is a leaf has no gate
  pub leaf-no-gate : T (every (λ g. leads d (length d.gates) (var g.lit)) d.gates) → T (reduced d n)
      → Leaf n (λ x. value_on d n x (output d)) → length d.gates ≡ 0
  leaf-no-gate t r f =
      elim (ℕ_discrete (length d.gates) 0) [
        | yes e ↦ e
        | no e ↦
            (let A = length d.gates in
            let i = A - 1 in
            let h : i < A = omega arith in
            let l : (gate_at d i).lit ≡ 2 * (n + A) = gate-lit s i h ∙ omega arith in
            let u : var (gate_at d i).lit ≡ n + A = omega arith in
            let z : T (leads d A (var (gate_at d i).lit)) = every-at (λ g. leads d A (var g.lit)) d.gates i no_gate h t in
            let o = last-output A (subst (λ (v : ℕ). T (leads d A v)) u z) in
            absurd (gate-no-leaf r i h (leaf-equal (λ x k. ap (value_on d n x) l) (last_leaf o f))))
      ]

  -- and where there is no gate, the output is a leaf
  pub no-gate-leaf : length d.gates ≡ 0 → Leaf n (λ x. value_on d n x (output d))
  no-gate-leaf e = literal-leaf (output d) (omega (arith, s.top, s.output-bound))
