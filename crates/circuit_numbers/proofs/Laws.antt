-- The words that a numbering reads and leaves, and the lists that the definitions have. Assumes nothing.
use mathlib.Core.Path.{◌≡◌, refl, sym, ap, ◌∙◌, subst}
use mathlib.Core.Bool.{Bool, true, false}
use mathlib.Core.List.{List, map}
use Prim.Native.Nat.{ℕ, zero, suc, ◌+◌, ◌*◌, ◌/◌, ◌%◌, ◌≤◌, ◌<◌}
use native.Mathlib.Nat.{mod-lt}
use native.Mathlib.Decide.{dec_lt}
use native.Mathlib.Omega.{arith}
use lib.Dec.{T}
use lib.ListN.{length, get_or, take, set, replicate, length-set, length-map, length-replicate}
use lib.Seq.{ext_get_or, get_or-take, length-take-le, get_or-set_same, get_or-set_other}
use Rattle.aiger.specs.Lists.{member}
use Rattle.aiger.specs.Circuit.{Circuit, Latch, Gate, var}
use Rattle.aiger.specs.Memory.{Holds}
use Rattle.aiger.specs.Operations.{front}
use Rattle.aiger.proofs.Tests.{T_true}
use Rattle.meaning.proofs.Lists.{mem-at, member-in, member-mem, get_d-zeros}
use Rattle.meaning.proofs.Defined.{input_at, latch_at, gate_at, left-known, right-known}
use Rattle.layout.specs.Words.{word, latches_at, gates_at, circuit_in, gate_in}
use Rattle.layout.specs.Layout.{LayoutOf}
use Rattle.layout.specs.declared.Layout.{Layout}
use Rattle.frames.specs.Lanes.{Stored}
use Rattle.frames.proofs.Facts.{top-is, latch-count, gate-count, latch-word, gate-word, valid, counts, known, inside, known_small}
use Rattle.gate_order.specs.Order.{given, taken}
use Rattle.gate_order.specs.Waiting.{Below, Gates, Apart, Numbered}
use Rattle.renumber.proofs.Naming.{input-count, input-word}
use Rattle.renumbered.specs.Renumbered.{gate_vars, operand_vars, leaf_numbers, numbering}
use Rattle.renumbered_laws.proofs.Taken.{given-length, given-other, given-at}
use Rattle.renumbered_laws.proofs.Numbers.{
  operands-length,
  left_at,
  right-at,
  input-var,
  latch-var,
  gate-var,
  vars-length,
  numbers-length,
  inputs-below,
  latches-below,
  gates-below,
  inputs-differ,
  latches-differ,
  gates-once,
}
use Rattle.circuit_numbers.specs.Numbers.{Read, AllNumbered}

-- ---- one gate more is read

pub start-read : (m : List ℕ) (first : ℕ) (vars ops : List ℕ) → Read m first 0 vars ops
start-read m first vars ops = record {
  own = λ i h. absurd (omega arith);
  left = λ i h. absurd (omega arith);
  right = λ i h. absurd
      (omega arith);
}

pub read_more : {m : List ℕ} {first i : ℕ} {vars ops : List ℕ} → i < length vars → 2 * i + 1 < length ops → Read m first i vars ops
    → Read m first (i + 1) (set vars i (word m (first + 3 * i) / 2))
    (set (set ops (2 * i) (word m (first + 3 * i + 1) / 2)) (2 * i + 1) (word m (first + 3 * i + 2) / 2))
read_more {m} {first} {i} {vars} {ops} h l r =
    let x = word m (first + 3 * i) / 2 in
    let y = word m (first + 3 * i + 1) / 2 in
    let z = word m (first + 3 * i + 2) / 2 in
    let ops₁ = set ops (2 * i) y in
    let n : length ops₁ ≡ length ops = length-set ops (2 * i) y in
    record {
      own = λ j b.
          elim (dec_lt j i) [
            | yes k ↦ get_or-set_other vars i j x 0 (λ e. omega arith) ∙ r.own j k
            | no k ↦ (let e : j ≡ i = omega arith in ap (λ (u : ℕ). word (set vars i x) u) e ∙ get_or-set_same vars i x 0 h ∙ ap (λ (u : ℕ). var (word m (first + 3 * u))) (sym e))
          ];
      left = λ j b.
          elim (dec_lt j i) [
            | yes k ↦
                get_or-set_other ops₁ (2 * i + 1) (2 * j) z 0 (λ e. omega arith) ∙ get_or-set_other ops (2 * i) (2 * j) y 0 (λ e. omega arith)
                ∙ r.left j k
            | no k ↦ (
                let e : j ≡ i = omega arith in
                ap (λ (u : ℕ). word (set ops₁ (2 * i + 1) z) (2 * u)) e ∙ get_or-set_other ops₁ (2 * i + 1) (2 * i) z 0 (λ q. omega arith)
                ∙ get_or-set_same ops (2 * i) y 0 (omega arith) ∙ ap (λ (u : ℕ). var (word m (first + 3 * u + 1))) (sym e))
          ];
      right = λ j b.
          elim (dec_lt j i) [
            | yes k ↦
                get_or-set_other ops₁ (2 * i + 1) (2 * j + 1) z 0 (λ e. omega arith) ∙ get_or-set_other ops (2 * i) (2 * j + 1) y 0
                (λ e. omega arith) ∙ r.right j k
            | no k ↦ (
                let e : j ≡ i = omega arith in
                ap (λ (u : ℕ). word (set ops₁ (2 * i + 1) z) (2 * u + 1)) e ∙ get_or-set_same ops₁ (2 * i + 1) z 0 (omega arith)
                ∙ ap (λ (u : ℕ). var (word m (first + 3 * u + 2))) (sym e))
          ];
    }

-- ---- numbers that were stored are those that are given

pub stored-given : (k : ℕ) (vs before after : List ℕ) (place : ℕ → ℕ) (n : ℕ) → length vs ≡ n → ((j : ℕ) → j < n → get_or vs j 0 ≡ place j)
    → Below vs (length before) → ((a b : ℕ) → a < b → b < length vs → get_or vs a 0 ≡ get_or vs b 0 → ⊥) → length after ≡ length before
    → Stored place (λ j. k + j) n before after → after ≡ given k vs before
stored-given k vs before after place n e p i d l s =
    ext_get_or 0 after (given k vs before) (l ∙ sym (given-length k vs before)) (λ u h. go u (member u vs) refl)
  where
    go : (u : ℕ) (b : Bool) → member u vs ≡ b → get_or after u 0 ≡ get_or (given k vs before) u 0
    go u true q =
        let r = mem-at 0 (member-mem u vs (T_true q)) in
        let j = r.0 in
        let h : j < n = omega (arith, r.1) in
        ap (λ (x : ℕ). get_or after x 0) (sym r.2 ∙ p j h) ∙ s.new j h ∙ sym (given-at k vs before j i d r.1)
        ∙ ap (λ (x : ℕ). get_or (given k vs before) x 0) r.2
    go u false q =
        let out : (j : ℕ) → j < length vs → get_or vs j 0 ≡ u → ⊥ = λ j h f. subst T (ap (λ (x : ℕ). member x vs) f ∙ q) (member-in vs j 0 h) in
        s.others u (λ j h f. out j (omega arith) (p j h ∙ f)) ∙ sym (given-other k vs before u out)

module _ {m : List ℕ} (h : Holds m (circuit_in m)) where
  abbrev c : Circuit
  c = circuit_in m

  pub names-given : (p : Layout) → LayoutOf m p → (n₀ n₁ n₂ : List ℕ) → length n₀ ≡ 4097 → ((v : ℕ) → word n₀ v ≡ 0)
      → length n₁ ≡ length n₀ → length n₂ ≡ length n₁
      → Stored (λ j. var (word m (7 + j))) (λ j. 1 + j) p.i n₀ n₁
      → Stored (λ j. var (word m (p.latches + 3 * j))) (λ j. p.i + 1 + j) p.l n₁ n₂ → n₂ ≡ leaf_numbers (circuit_in m)
  names-given p a n₀ n₁ n₂ size blank l₁ l₂ s₁ s₂ =
      let zeros : List ℕ = replicate 4097 0 in
      let v = valid h in
      let I = length c.inputs in
      let ivs = map var c.inputs in
      let lvs = map (λ (l : Latch). var l.lit) c.latches in
      let z : n₀ ≡ zeros = ext_get_or 0 n₀ zeros (size ∙ sym (length-replicate {A = ℕ} 4097 0)) (λ i b. blank i ∙ sym (get_d-zeros 4097 i)) in
      let i : p.i ≡ I = a.i-is ∙ sym (input-count m) in
      let e₁ : n₁ ≡ given 1 ivs n₀ =
      stored-given 1 ivs n₀ n₁ (λ j. var (word m (7 + j))) p.i (length-map c.inputs var ∙ sym i)
      (λ j b. input-var v j ∙ ap var (input-word m j (omega (arith, a.i-is))))
      (subst (λ (t : List ℕ). Below ivs (length t)) (sym z) (inputs-below v))
      (inputs-differ v) l₁ s₁ in
      let w₁ : n₁ ≡ given 1 ivs zeros = e₁ ∙ ap (given 1 ivs) z in
      let e₂ : n₂ ≡ given (p.i + 1) lvs n₁ =
      stored-given (p.i + 1) lvs n₁ n₂ (λ j. var (word m (p.latches + 3 * j))) p.l
      (length-map c.latches (λ (l : Latch). var l.lit) ∙ latch-count m ∙ sym a.l-is)
      (λ j b.
      latch-var v j ∙ ap (λ (l : Latch). var l.lit) (latch-word m j (omega (arith, a.l-is))) ∙ ap
      (λ (q : ℕ). var (word m (q + 3 * j))) (sym a.latches-is))
      (subst (λ (t : List ℕ). Below lvs (length t)) (sym w₁) (latches-below v)) (latches-differ v) l₂ s₂ in
      e₂ ∙ (λ x. given (i x + 1) lvs (w₁ x))

  -- ---- the gates that were read

  module _ (p : Layout) (a : LayoutOf m p) {vars ops : List ℕ} (r : Read m p.gates p.a vars ops) where
    gate-of : (i : ℕ) → i < p.a → gate_at (circuit_in m) i ≡ gate_in m (p.gates + 3 * i)
    gate-of i b = gate-word m i (omega (arith, a.a-is)) ∙ ap (λ (q : ℕ). gate_in m (q + 3 * i)) (sym a.gates-is)

    pub vars-are : p.a ≤ length vars → take p.a vars ≡ gate_vars (circuit_in m)
    vars-are l =
        let v = valid h in
        let n : length (take p.a vars) ≡ p.a = length-take-le p.a vars l in
        ext_get_or 0 (take p.a vars) (gate_vars c) (n ∙ a.a-is ∙ sym (gate-count m) ∙ sym (vars-length v))
        (λ i b.
        let k : i < p.a = omega arith in
        get_or-take p.a vars i 0 k ∙ r.own i k ∙ ap (λ (g : Gate). var g.lit) (sym (gate-of i k)) ∙ sym (gate-var v i))

    operand-of : (s : ℕ) → s < 2 * p.a → word ops s ≡ get_or (operand_vars (circuit_in m).gates) s 0
    operand-of s b = go (s % 2) refl (mod-lt s (omega arith))
      where
        go : (x : ℕ) → s % 2 ≡ x → x < 2 → word ops s ≡ get_or (operand_vars (circuit_in m).gates) s 0
        go zero e k =
            let i = s / 2 in
            let q : s ≡ 2 * i = omega arith in
            let l : i < p.a = omega arith in
            ap (word ops) q ∙ r.left i l ∙ ap (λ (g : Gate). var g.left) (sym (gate-of i l)) ∙ sym (left_at c.gates i)
            ∙ ap (λ (x : ℕ). get_or (operand_vars c.gates) x 0) (sym q)
        go (suc zero) e k =
            let i = s / 2 in
            let q : s ≡ 2 * i + 1 = omega arith in
            let l : i < p.a = omega arith in
            ap (word ops) q ∙ r.right i l ∙ ap (λ (g : Gate). var g.right) (sym (gate-of i l)) ∙ sym (right-at c.gates i)
            ∙ ap (λ (x : ℕ). get_or (operand_vars c.gates) x 0) (sym q)
        go (suc (suc x)) e k = absurd (omega arith)

    pub operands-are : 2 * p.a ≤ length ops → take (2 * p.a) ops ≡ operand_vars (circuit_in m).gates
    operands-are l =
        let n : length (take (2 * p.a) ops) ≡ 2 * p.a = length-take-le (2 * p.a) ops l in
        ext_get_or 0 (take (2 * p.a) ops) (operand_vars c.gates) (omega (arith, n, a.a-is, gate-count m, operands-length c.gates))
        (λ s b. let k : s < 2 * p.a = omega arith in get_or-take (2 * p.a) ops s 0 k ∙ operand-of s k)

  -- ---- what the numbering of gates asks, and what it leaves

  operands-below : Below (operand_vars (circuit_in m).gates) (length (leaf_numbers (circuit_in m)))
  operands-below s b = go (s % 2) refl (mod-lt s (omega arith))
    where
      low : (u : ℕ) → u ≤ word m 0 → u < length (leaf_numbers (circuit_in m))
      low u k = omega (arith, numbers-length (valid h), top-is m, (counts h).max_var)

      go : (x : ℕ) → s % 2 ≡ x → x < 2 → get_or (operand_vars (circuit_in m).gates) s 0 < length (leaf_numbers (circuit_in m))
      go zero e k =
          let q : s ≡ 2 * (s / 2) = omega arith in
          let f = ap (λ (x : ℕ). get_or (operand_vars c.gates) x 0) q ∙ left_at c.gates (s / 2) in
          omega (
            arith,
            f,
            low (var (gate_at c (s / 2)).left)
                (known_small h (var (gate_at c (s / 2)).left) (left-known c (known h) (s / 2))),
          )
      go (suc zero) e k =
          let q : s ≡ 2 * (s / 2) + 1 = omega arith in
          let f = ap (λ (x : ℕ). get_or (operand_vars c.gates) x 0) q ∙ right-at c.gates (s / 2) in
          omega (
            arith,
            f,
            low (var (gate_at c (s / 2)).right)
                (known_small h (var (gate_at c (s / 2)).right) (right-known c (known h) (s / 2))),
          )
      go (suc (suc x)) e k = absurd (omega arith)

  ready : Gates (gate_vars (circuit_in m)) (operand_vars (circuit_in m).gates) (leaf_numbers (circuit_in m)) × Apart (gate_vars (circuit_in m))
      × (length (leaf_numbers (circuit_in m)) ≤ 4097)
  ready =
      let v = valid h in (
        record {
          pairs = omega (arith, operands-length c.gates, vars-length v);
          few = omega (arith, vars-length v, (counts h).gates);
          known = gates-below v;
          used = operands-below;
        },
        λ i j k l e. gates-once v i j (omega (arith, vars-length v)) (omega (arith, vars-length v)) (sym (gate-var v i) ∙ e ∙ gate-var v j),
        omega (arith, numbers-length v),
      )

  module _ {vars ops names : List ℕ} (e₁ : vars ≡ gate_vars (circuit_in m)) (e₂ : ops ≡ operand_vars (circuit_in m).gates)
      (e₃ : names ≡ leaf_numbers (circuit_in m)) where
    pub ready_for : Gates vars ops names × Apart vars × (length names ≤ 4097)
    ready_for = rw (e₁, e₂, e₃) ready

    pub numbered-all : {k r : ℕ} {order names' order' : List ℕ} → k ≡ length (circuit_in m).inputs + length (circuit_in m).latches + 1
        → Numbered vars ops k names order r names' order' → AllNumbered (circuit_in m) order names' order'
    unfolding numbering
    numbered-all {k} {r} {order} {names'} {order'} e₄ n =
        let e : taken (length vars) vars ops k names ≡ numbering c = λ i. taken (length (e₁ i)) (e₁ i) (e₂ i) (e₄ i) (e₃ i) in
        record {
          numbers = n.numbers ∙ ap (λ (x : List ℕ × List ℕ). x.1) e;
          listed = n.listed ∙ rw n.count (ap (λ (x : List ℕ × List ℕ). front x.0 order) e);
        }

-- ---- sizes

-- the counts of a layout, and their limits
pub record Sizes (m : List ℕ) (p : Layout) : Type 0 where
  pub inputs : p.i ≡ length (circuit_in m).inputs
  pub latches : p.l ≡ length (circuit_in m).latches
  pub top : p.i + p.l + p.a ≤ 4096
  pub few : p.a ≤ 3072
  pub inside : p.gates + 3 * p.a ≤ length m

pub sizes : {m : List ℕ} {p : Layout} → Holds m (circuit_in m) → LayoutOf m p → Sizes m p
sizes {m} {p} h a =
    let n = counts h in
    let i : p.i ≡ length (circuit_in m).inputs = a.i-is ∙ sym (input-count m) in
    let l : p.l ≡ length (circuit_in m).latches = a.l-is ∙ sym (latch-count m) in
    let g : p.a ≡ length (circuit_in m).gates = a.a-is ∙ sym (gate-count m) in
    record {
      inputs = i;
      latches = l;
      top = omega (arith, n.definitions, n.max_var);
      few = omega (arith, n.gates);
      inside = omega (arith, inside h, a.gates-is, a.a-is);
    }
