-- Laws of numbering: the gates that are marked are numbered in order. Assumes nothing.
use mathlib.Core.Path.{◌≡◌, refl, sym, ap, ap₂, ◌∙◌, subst}
use mathlib.Core.Bool.{Bool, true, false, cond}
use mathlib.Core.List.{List}
use mathlib.Core.Logic.{⊎_elim}
use Prim.Native.Nat.{ℕ, zero, suc, ◌+◌, ◌-◌, ◌*◌, ◌≤◌, ◌<◌}
use native.Mathlib.Decide.{ℕ_discrete}
use native.Mathlib.Omega.{arith}
use lib.Dec.{T}
use lib.ListN.{length, get_or, set}
use lib.Seq.{get_or-set_same, get_or-set_other}
use Rattle.aiger.specs.Bits.{nonzero}
use Rattle.aiger.proofs.Tests.{true-T}
use Rattle.nodes.specs.Graph.{Pair}
use Rattle.nodes.specs.Store.{field}
use Rattle.nodes.specs.declared.Graph.{Graph}
use Rattle.cone.specs.Cone.{in_cone, kept_before, number}
use Rattle.cone.specs.Store.{Others, Marks, LeavesNumbered, GateNumbered, Assigned}
use Rattle.cone.proofs.Cone.{number-leaf, gate-number}
use Rattle.cone.proofs.Stores.{others-trans}

-- ---- one gate

pub numbered-none : (work : List ℕ) (k next : ℕ) → get_or work (16 * k + 10) 0 ≡ 0 → GateNumbered work work k next next
numbered-none work k next z =
    let e : next ≡ next + 0 = omega arith in
    record {
      count = e ∙ ap (λ (m : ℕ). next + cond (nonzero m) 1 0) (sym z);
      word = z ∙ ap (λ (m : ℕ). cond (nonzero m) next 0) (sym z);
      others = λ i n. refl;
    }

nonzero-true : (m : ℕ) → (m ≡ 0 → ⊥) → nonzero m ≡ true
nonzero-true zero h = absurd (h refl)
nonzero-true (suc m) h = refl

pub numbered-one : (work : List ℕ) (k next r : ℕ) → (get_or work (16 * k + 10) 0 ≡ 0 → ⊥) → 16 * k + 10 < length work → r ≡ next + 1
    → GateNumbered work (set work (16 * k + 10) next) k next r
numbered-one work k next r z h e =
    let t = nonzero-true (get_or work (16 * k + 10) 0) z in
    record {
      count = e ∙ ap (λ (b : Bool). next + cond b 1 0) (sym t);
      word = get_or-set_same work (16 * k + 10) next 0 h ∙ ap (λ (b : Bool). cond b next 0) (sym t);
      others = λ i n. get_or-set_other work (16 * k + 10) i next 0 n;
    }

cond-bound : (b : Bool) → cond b 1 0 ≤ 1
cond-bound true = omega arith
cond-bound false = omega arith

pub count-bound : {work last : List ℕ} {k next r : ℕ} → GateNumbered work last k next r → (next ≤ r) × (r ≤ next + 1)
count-bound {work} {last} {k} {next} {r} p =
    (omega (arith, p.count), omega (arith, p.count, cond-bound (nonzero (field work k 10))))

-- ---- the loop

-- the marks of the gates
abbrev pub GateMarks : List Pair → List ℕ → Graph → ℕ → Type 0
GateMarks gs work g root = (k : ℕ) → g.free + 1 ≤ k → k < g.nodes → field work k 10 ≡ cond (in_cone g.free gs root k) 1 0

-- no word was changed but word 10 of the gates before node k
pub record ChangedTo (work last : List ℕ) (g : Graph) (k : ℕ) : Type 0 where
  pub size : length last ≡ length work
  pub leaves : (i : ℕ) → i ≤ g.free → field last i 10 ≡ field work i 10
  pub rest : (i : ℕ) → k ≤ i → field last i 10 ≡ field work i 10
  pub others : Others work last g.nodes

-- the gates before node k are numbered
pub record NumberedTo (gs : List Pair) (last : List ℕ) (g : Graph) (root k next : ℕ) : Type 0 where
  pub next-is : next ≡ g.free + 1 + kept_before g.free gs root (k - (g.free + 1))
  pub done : (i : ℕ) → g.free < i → i < k → field last i 10 ≡ cond (in_cone g.free gs root i) (number g.free gs root i) 0

pub changed-none : (work : List ℕ) (g : Graph) (k : ℕ) → ChangedTo work work g k
changed-none work g k = record { size = refl; leaves = λ i h. refl; rest = λ i h. refl; others = λ i n. refl }

pub changed-more : (work last new : List ℕ) (g : Graph) (k next r : ℕ) → g.free + 1 ≤ k → k < g.nodes → length new ≡ length last
    → ChangedTo work last g k → GateNumbered last new k next r → ChangedTo work new g (k + 1)
changed-more work last new g k next r h l z c p =
    record {
      size = z ∙ c.size;
      leaves = λ i u. p.others (16 * i + 10) (λ e. omega arith) ∙ c.leaves i u;
      rest = λ i u. p.others (16 * i + 10) (λ e. omega arith) ∙ c.rest i (omega arith);
      others = λ i n. p.others i (n k l) ∙ c.others i n;
    }

pub numbered-start : (gs : List Pair) (work : List ℕ) (g : Graph) (root k : ℕ) → k ≡ g.free + 1 → NumberedTo gs work g root k k
unfolding kept_before
numbered-start gs work g root k e =
    let z : k - (g.free + 1) ≡ 0 = omega arith in
    record {
      next-is = omega (arith, ap (kept_before g.free gs root) z);
      done = λ i u v. absurd (omega arith);
    }

mark-bit : (b : Bool) → nonzero (cond b 1 0) ≡ b
mark-bit true = refl
mark-bit false = refl

pub numbered_more : (gs : List Pair) (work last new : List ℕ) (g : Graph) (root k next r : ℕ) → g.free + 1 ≤ k → ChangedTo work last g k
    → field work k 10 ≡ cond (in_cone g.free gs root k) 1 0 → NumberedTo gs last g root k next → GateNumbered last new k next r
    → NumberedTo gs new g root (k + 1) r
unfolding kept_before
numbered_more gs work last new g root k next r h c m t p =
    let n = g.free in
    let j = k - (n + 1) in
    let b = in_cone n gs root k in
    let ek : k ≡ n + 1 + j = omega arith in
    let ej : k + 1 - (n + 1) ≡ suc j = omega arith in
    let x : nonzero (field last k 10) ≡ b = ap nonzero (c.rest k (omega arith) ∙ m) ∙ mark-bit b in
    let nx = t.next-is in
    let s : kept_before n gs root (k + 1 - (n + 1)) ≡ kept_before n gs root j + cond b 1 0 =
    ap (kept_before n gs root) ej ∙ ap (λ (i : ℕ). kept_before n gs root j + cond (in_cone n gs root i) 1 0) (sym ek) in
    let q : r ≡ next + cond b 1 0 = p.count ∙ ap (λ (v : Bool). next + cond v 1 0) x in
    let w : next ≡ number n gs root k = nx ∙ sym (gate-number n gs root k (omega arith)) in
    record {
      next-is = omega arith;
      done = λ i u v.
          elim (ℕ_discrete i k) [
            | yes e ↦
                subst (λ (y : ℕ). field new y 10 ≡ cond (in_cone n gs root y) (number n gs root y) 0) (sym e)
                (p.word ∙ ap₂ (λ (y : Bool) (z : ℕ). cond y z 0) x w)
            | no e ↦ p.others (16 * i + 10) (λ z. e (omega arith)) ∙ t.done i u (omega arith)
          ];
    }

-- ---- the whole

pub assigned-others : (work mid last : List ℕ) (g : Graph) (k : ℕ) → g.free + 1 ≤ g.nodes → LeavesNumbered work mid g → ChangedTo mid last g k
    → Others work last g.nodes
assigned-others work mid last g k h a c = others-trans work mid last g.nodes (g.free + 1) g.nodes h (omega arith) a.others c.others

-- the marks of gates stay while the constant and the free bits are numbered
pub gate-marks : (gs : List Pair) (work mid : List ℕ) (g : Graph) (root : ℕ) → LeavesNumbered work mid g → Marks gs work g root → GateMarks gs mid g root
gate-marks gs work mid g root a m k h l = a.others (16 * k + 10) (λ i u e. omega arith) ∙ m k l

pub assigned : (gs : List Pair) (work mid last : List ℕ) (g : Graph) (root k next : ℕ) → g.free + 1 ≤ g.nodes → length gs ≡ g.nodes - (g.free + 1)
    → k ≡ g.nodes → LeavesNumbered work mid g → ChangedTo mid last g k → NumberedTo gs last g root k next → Assigned gs last g root (next - (g.free + 1))
assigned gs work mid last g root k next h z e a c t =
    let n = g.free in
    let q : k - (n + 1) ≡ length gs = omega arith in
    let nx = t.next-is in
    let s : kept_before n gs root (k - (n + 1)) ≡ kept_before n gs root (length gs) = ap (kept_before n gs root) q in
    let leaf : (i : ℕ) → i ≤ n → field last i 10 ≡ number n gs root i = λ i u. c.leaves i u ∙ a.numbers i u ∙ sym (number-leaf n gs root i u) in
    record {
      count = omega arith;
      numbers = λ i l x.
          ⊎_elim (leaf i)
          (λ y.
          elim (ℕ_discrete (i - n) 0) [
            | yes d ↦ leaf i (omega arith)
            | no d ↦
                t.done i (omega arith) (omega arith) ∙ ap (λ (b : Bool). cond b (number n gs root i) 0) (true-T (in_cone n gs root i) y)
          ])
          x;
      zeros = λ i u l x. t.done i u (omega arith) ∙ ap (λ (b : Bool). cond b (number n gs root i) 0) (false-T (in_cone n gs root i) x);
    }
  where
    false-T : (b : Bool) → (T b → ⊥) → b ≡ false
    false-T true f = absurd (f tt)
    false-T false f = refl
