-- Laws of marking: passing the gates from the last one to the first marks the cone. Assumes nothing.
use mathlib.Core.Path.{◌≡◌, refl, sym, ap, ap₂, ◌∙◌, subst}
use mathlib.Core.Bool.{Bool, true, false, cond, ◌&&◌, ◌||◌}
use mathlib.Core.List.{List}
use Prim.Native.Nat.{ℕ, zero, suc, ◌+◌, ◌-◌, ◌*◌, ◌≤◌, ◌<◌}
use native.Mathlib.Omega.{arith}
use lib.Dec.{eqb}
use lib.ListN.{length, get_or, set, length-set}
use Rattle.aiger.specs.Bits.{nonzero}
use Rattle.aiger.specs.Circuit.{var}
use Rattle.nodes.specs.Graph.{Pair, pair_at, nodes}
use Rattle.nodes.specs.Store.{field, pair_of, pairs_of}
use Rattle.nodes.specs.declared.Graph.{Graph}
use Rattle.nodes.proofs.Laws.{length-pairs_of, pair_at-pairs_of}
use Rattle.cone.specs.Cone.{operand_of, marked, in_cone}
use Rattle.cone.specs.Store.{Others, Marks, Markable, ConeMarked, TopMarked, Passable, Passed}
use Rattle.cone.proofs.Stores.{ten-set, others-set, others-trans, others-pair, others-pairs, Filled}

-- the marks are cleared, and one node is marked
pub top-marked : (work last : List ℕ) (g : Graph) (top k : ℕ) → g.nodes ≤ k → top < g.nodes → 16 * top + 10 < length last
    → Filled (λ _. 0) work last g.nodes k → TopMarked work (set last (16 * top + 10) 1) g top
top-marked work last g top k h l u r =
    record {
      marks = λ i a. ten-set last top 1 i u ∙ ap (λ (x : ℕ). cond (eqb i top) 1 x) (r.words i (omega arith));
      others = others-set work last g.nodes top 1 l r.others;
    }

-- ---- a gate is passed

pub passed_none : (work : List ℕ) (k : ℕ) → get_or work (16 * k + 10) 0 ≡ 0 → Passed work work k
passed_none work k z =
    record {
      marks = λ i. sym (ap (λ (m : ℕ). cond (nonzero m && operand_of (pair_of work k) i) 1 (field work i 10)) z);
      others = λ i n. refl;
    }

two-marks : (m x : ℕ) (a b : Bool) → (m ≡ 0 → ⊥) → cond b 1 (cond a 1 x) ≡ cond (nonzero m && (a || b)) 1 x
two-marks zero x a b h = absurd (h refl)
two-marks (suc m) x true true h = refl
two-marks (suc m) x true false h = refl
two-marks (suc m) x false true h = refl
two-marks (suc m) x false false h = refl

pub first_word : (work : List ℕ) (k : ℕ) → get_or work (16 * k) 0 ≡ field work k 0
first_word work k = let e : 16 * k ≡ 16 * k + 0 = omega arith in ap (λ (i : ℕ). get_or work i 0) e

pub passed-both : (work : List ℕ) (k l r : ℕ) → Passable work k → (get_or work (16 * k + 10) 0 ≡ 0 → ⊥) → l ≡ var (field work k 0) → r ≡ var (field work k 1)
    → Passed work (set (set work (16 * l + 10) 1) (16 * r + 10) 1) k
unfolding operand_of
passed-both work k l r p z a b =
    let m = set work (16 * l + 10) 1 in
    let s = length-set work (16 * l + 10) 1 in
    let u = p.held in
    let v = p.left in
    let w = p.right in
    record {
      marks = λ i.
          ten-set m r 1 i (omega arith) ∙ ap (λ (x : ℕ). cond (eqb i r) 1 x) (ten-set work l 1 i (omega arith))
          ∙ two-marks (field work k 10) (field work i 10) (eqb i l) (eqb i r) z
          ∙ ap₂ (λ (x y : ℕ). cond (nonzero (field work k 10) && (eqb i x || eqb i y)) 1 (field work i 10)) a b;
      others = others-set work m k r 1 (omega arith) (others-set work work k l 1 (omega arith) (λ i n. refl));
    }

-- ---- the loop

-- the gates from node k on are passed
pub record MarkedFrom (work last : List ℕ) (g : Graph) (root k : ℕ) : Type 0 where
  pub size : length last ≡ length work
  pub marks : (i : ℕ) → i < g.nodes
      → field last i 10 ≡ cond (marked g.free (pairs_of work g) root (g.nodes - k) (k - (g.free + 1)) i) 1 0
  pub others : Others work last g.nodes

pub marked-none : (first work : List ℕ) (g : Graph) (root top : ℕ) → var root ≡ top → TopMarked first work g top → MarkedFrom work work g root g.nodes
unfolding marked
marked-none first work g root top e t =
    let z : g.nodes - g.nodes ≡ 0 = omega arith in
    record {
      size = refl;
      marks = λ i h.
          t.marks i h ∙ ap (λ (x : ℕ). cond (eqb i x) 1 0) (sym e)
          ∙ ap (λ (s : ℕ). cond (marked g.free (pairs_of work g) root s (g.nodes - (g.free + 1)) i) 1 0) (sym z);
      others = λ i n. refl;
    }

one-mark : (a b o : Bool) → ◌≡◌ {A = ℕ} (cond (nonzero (cond b 1 0) && o) 1 (cond a 1 0)) (cond (a || (b && o)) 1 0)
one-mark true true true = refl
one-mark true true false = refl
one-mark true false o = refl
one-mark false true true = refl
one-mark false true false = refl
one-mark false false o = refl

mark-step : (n : ℕ) (gs : List Pair) (root s j i x y : ℕ) (p : Pair) → x ≡ cond (marked n gs root s (j + 1) (n + 1 + j)) 1 0
    → y ≡ cond (marked n gs root s (j + 1) i) 1 0 → p ≡ pair_at gs j → cond (nonzero x && operand_of p i) 1 y ≡ cond (marked n gs root (suc s) j i) 1 0
unfolding marked
mark-step n gs root s j i x y p hx hy hp =
    let b = marked n gs root s (j + 1) (n + 1 + j) in
    ap₂ (λ (z : ℕ) (q : Pair). cond (nonzero z && operand_of q i) 1 y) hx hp
    ∙ ap (λ (z : ℕ). cond (nonzero (cond b 1 0) && operand_of (pair_at gs j) i) 1 z) hy
    ∙ one-mark (marked n gs root s (j + 1) i) b (operand_of (pair_at gs j) i)

-- gate k - 1 is passed
module _ (work last new : List ℕ) (g : Graph) (root k : ℕ) (h : g.free + 1 < k) (l : k ≤ g.nodes) (r : MarkedFrom work last g root k) where
  marks_then : (i : ℕ) → i < g.nodes
      → field last i 10 ≡ cond (marked g.free (pairs_of work g) root (g.nodes - k) (k - 1 - (g.free + 1) + 1) i) 1 0
  marks_then i u =
      let e : k - (g.free + 1) ≡ k - 1 - (g.free + 1) + 1 = omega arith in
      r.marks i u ∙ ap (λ (x : ℕ). cond (marked g.free (pairs_of work g) root (g.nodes - k) x i) 1 0) e

  gate-mark : field last (k - 1) 10
      ≡ cond (marked g.free (pairs_of work g) root (g.nodes - k) (k - 1 - (g.free + 1) + 1) (g.free + 1 + (k - 1 - (g.free + 1)))) 1 0
  gate-mark =
      let e : k - 1 ≡ g.free + 1 + (k - 1 - (g.free + 1)) = omega arith in
      marks_then (k - 1) (omega arith)
      ∙ ap (λ (x : ℕ). cond (marked g.free (pairs_of work g) root (g.nodes - k) (k - 1 - (g.free + 1) + 1) x) 1 0) e

  gate-pair : pair_of last (k - 1) ≡ pair_at (pairs_of work g) (k - 1 - (g.free + 1))
  gate-pair =
      let e : k - 1 ≡ g.free + 1 + (k - 1 - (g.free + 1)) = omega arith in
      others-pair work last g.nodes (k - 1) r.others ∙ ap (pair_of work) e ∙ sym (pair_at-pairs_of work g (k - 1 - (g.free + 1)) (omega arith))

  marks-now : Passed last new (k - 1) → (i : ℕ) → i < g.nodes
      → field new i 10 ≡ cond (marked g.free (pairs_of work g) root (g.nodes - (k - 1)) (k - 1 - (g.free + 1)) i) 1 0
  marks-now p i u =
      let e : suc (g.nodes - k) ≡ g.nodes - (k - 1) = omega arith in
      p.marks i
      ∙ mark-step g.free (pairs_of work g) root (g.nodes - k) (k - 1 - (g.free + 1)) i (field last (k - 1) 10) (field last i 10) (pair_of last (k - 1))
      gate-mark (marks_then i u) gate-pair
      ∙ ap (λ (x : ℕ). cond (marked g.free (pairs_of work g) root x (k - 1 - (g.free + 1)) i) 1 0) e

  pub marked_more : length new ≡ length last → Passed last new (k - 1) → MarkedFrom work new g root (k - 1)
  marked_more z p =
      record {
        size = z ∙ r.size;
        marks = marks-now p;
        others = others-trans work last new g.nodes g.nodes (k - 1) (omega arith) (omega arith) r.others p.others;
      }

-- a gate may be passed
pub passable : (work mid last : List ℕ) (g : Graph) (root k : ℕ) → Markable work g root → length mid ≡ length work → length last ≡ length mid
    → Others work mid g.nodes → Others mid last g.nodes → g.free + 1 ≤ k → k < g.nodes → Passable last k
passable work mid last g root k r d e o q h l =
    let j = k - (g.free + 1) in
    let gs = pairs_of work g in
    let s = r.sized in
    let u : j < length gs = omega (arith, length-pairs_of work g) in
    let ek : g.free + 1 + j ≡ k = omega arith in
    let b = r.built.earlier j u in
    let c = r.built.larger j u in
    let p : pair_at gs j ≡ pair_of last k =
    pair_at-pairs_of work g j (omega arith) ∙ ap (pair_of work) ek
    ∙ sym (others-pair work last g.nodes k (others-trans work mid last g.nodes g.nodes g.nodes (omega arith) (omega arith) o q)) in
    let pl : (pair_at gs j).left ≡ field last k 0 = ap (λ (x : Pair). x.left) p in
    let pr : (pair_at gs j).right ≡ field last k 1 = ap (λ (x : Pair). x.right) p in
    record { held = omega arith; left = omega arith; right = omega arith }

all-passed : (n : ℕ) (gs hs : List Pair) (root s j i : ℕ) → s ≡ length hs → j ≡ 0 → gs ≡ hs
    → ◌≡◌ {A = ℕ} (cond (marked n gs root s j i) 1 0) (cond (in_cone n hs root i) 1 0)
unfolding in_cone
all-passed n gs hs root s j i es ej eg =
    ap₂ (λ (x y : ℕ). cond (marked n gs root x y i) 1 0) es ej ∙ ap (λ (x : List Pair). cond (marked n x root (length hs) 0 i) 1 0) eg

-- all gates are passed
pub cone-marked : (work mid last : List ℕ) (g : Graph) (root top k : ℕ) → g.free + 1 ≤ g.nodes → k ≡ g.free + 1 → TopMarked work mid g top
    → MarkedFrom mid last g root k → ConeMarked work last g root
cone-marked work mid last g root top k h e t r =
    let o = others-trans work mid last g.nodes g.nodes g.nodes (omega arith) (omega arith) t.others r.others in
    record {
      marks = λ i u.
          r.marks i u
          ∙ all-passed g.free (pairs_of mid g) (pairs_of work g) root (g.nodes - k) (k - (g.free + 1)) i (omega (arith, length-pairs_of work g)) (omega arith)
          (others-pairs work mid g g.nodes t.others);
      pairs = others-pairs work last g g.nodes o;
      others = o;
    }

-- the marks are those of the cone in the graph that stands in the memory now
pub cone-marks : (work last : List ℕ) (g : Graph) (root : ℕ) → ConeMarked work last g root → Marks (pairs_of last g) last g root
cone-marks work last g root r = subst (λ (gs : List Pair). Marks gs last g root) (sym r.pairs) r.marks
