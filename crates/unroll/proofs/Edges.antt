-- The edges of literals, free bits and starts: their nodes and their values. Assumes nothing.
use mathlib.Core.Path.{◌≡◌, refl, sym, ap, ◌∙◌}
use mathlib.Core.Bool.{Bool, true, false, not, cond}
use mathlib.Core.List.{List}
use Prim.Native.Nat.{ℕ, ◌+◌, ◌*◌, ◌^◌, ◌≤◌, ◌<◌}
use native.Mathlib.Omega.{arith}
use lib.Dec.{eqb}
use lib.ListN.{get_or}
use Rattle.aiger.specs.Bits.{odd}
use Rattle.aiger.specs.Circuit.{var}
use Rattle.aiger.specs.Frames.{value}
use Rattle.literals.specs.Literal.{literal}
use Rattle.literals.specs.declared.Lit.{Lit}
use Rattle.literals.specs.declared.Var.{Var}
use Rattle.nodes.specs.Graph.{Pair, edge_value}
use Rattle.nodes.specs.Edges.{edge_of, word_edge, edge_word, opposite}
use Rattle.nodes.specs.declared.Edge.{Edge}
use Rattle.nodes.proofs.Laws.{edge-word, word-node, edge-opposite, edge-free, edge-false, edge-true}
use Rattle.unroll.specs.Map.{literal_edge, free_edge, start_edge}

-- the word of an edge fits where its node does
pub word_small : (e : Edge) (k : ℕ) → e.0.0 < k → edge_word e < 2 * k
word_small e k h = omega (arith, word-node e)

-- ---- nodes

pub literal-node : (map : List ℕ) (l : Lit) → (literal_edge map l).0.0 ≡ var (get_or map l.0.0 0)
literal-node map l = go l.1
  where
    go : (b : Bool) → (cond b (opposite (word_edge (get_or map l.0.0 0))) (word_edge (get_or map l.0.0 0))).0.0 ≡ var (get_or map l.0.0 0)
    go true = refl
    go false = refl

pub literal-edge : (map : List ℕ) (l : Lit) → var (edge_word (literal_edge map l)) ≡ var (get_or map l.0.0 0)
literal-edge map l = word-node (literal_edge map l) ∙ literal-node map l

pub free-node : (j : ℕ) → var (edge_word (free_edge j)) ≡ j + 1
free-node j = word-node (free_edge j)

-- where the free bits up to k are there if the start is free
pub start-node : (lit reset k n : ℕ) → k + cond (eqb reset lit) 1 0 ≤ n → var (edge_word (start_edge lit reset k)) < n + 1
start-node lit reset k n h = go (eqb reset lit) h
  where
    go : (b : Bool) → k + cond b 1 0 ≤ n → var (edge_word (cond b (free_edge k) (edge_of 0 (eqb reset 1)))) < n + 1
    go true l = omega (arith, word-node (free_edge k))
    go false l = omega (arith, word-node (edge_of 0 (eqb reset 1)))

unit : (b : Bool) → cond b 1 0 ≤ 1
unit true = omega arith
unit false = omega arith

pub start_small : (lit reset k : ℕ) → var (edge_word (start_edge lit reset k)) < k + 2
start_small lit reset k = omega (arith, start-node lit reset k (k + 1) (omega (arith, unit (eqb reset lit))))

-- ---- the edge of a literal, by its sign

module _ (map : List ℕ) (l : Lit) {v : Var} {e : Edge} (at : v ≡ l.0) where
  pub literal-left : l.1 ≡ false → e ≡ word_edge (get_or map v.0 0) → get_or map v.0 0 < 2 ^ 32 → (e ≡ literal_edge map l) × (edge_word e < 2 ^ 32)
  literal-left s q h = (
    q ∙ ap (λ (u : Var). word_edge (get_or map u.0 0)) at
        ∙ sym (ap (λ (b : Bool). cond b (opposite (word_edge (get_or map l.0.0 0))) (word_edge (get_or map l.0.0 0))) s),
    omega (arith, ap (λ (d : Edge). edge_word d) q, edge-word (get_or map v.0 0)),
  )

  pub literal-taken : {d : Edge} → l.1 ≡ true → e ≡ word_edge (get_or map v.0 0) → d ≡ opposite e → get_or map v.0 0 < 2 ^ 32
      → (d ≡ literal_edge map l) × (edge_word d < 2 ^ 32)
  literal-taken {d} s q o h = (
    o ∙ ap (λ (c : Edge). opposite c) (q ∙ ap (λ (u : Var). word_edge (get_or map u.0 0)) at)
        ∙ sym (ap (λ (b : Bool). cond b (opposite (word_edge (get_or map l.0.0 0))) (word_edge (get_or map l.0.0 0))) s),
    omega (arith, ap (λ (c : Edge). var (edge_word c)) (o ∙ ap (λ (c : Edge). opposite c) q), word-node (opposite (word_edge (get_or map v.0 0)))),
  )

-- ---- values

module _ (n : ℕ) (gs : List Pair) (f : ℕ → Bool) where
  pub literal-value : (map : List ℕ) (w : ℕ) → edge_value n gs f (edge_word (literal_edge map (literal w))) ≡ value (λ v. edge_value n gs f (get_or map v 0)) w
  literal-value map w = go (odd w)
    where
      e : ℕ
      e = get_or map (var w) 0

      go : (b : Bool) → edge_value n gs f (edge_word (cond b (opposite (word_edge e)) (word_edge e))) ≡ cond b (not (edge_value n gs f e)) (edge_value n gs f e)
      go true = edge-opposite n gs f (word_edge e) ∙ ap (λ (x : ℕ). not (edge_value n gs f x)) (edge-word e)
      go false = ap (edge_value n gs f) (edge-word e)

  pub free-value : (j : ℕ) → j < n → edge_value n gs f (edge_word (free_edge j)) ≡ f j
  free-value j h = let e : 2 * (j + 1) + 0 ≡ 2 * (j + 1) = omega arith in ap (edge_value n gs f) e ∙ edge-free n gs f j h

  constant-value : (b : Bool) → edge_value n gs f (edge_word (edge_of 0 b)) ≡ b
  constant-value true = edge-true n gs f
  constant-value false = edge-false n gs f

  pub start-value : (lit reset k : ℕ) → k + cond (eqb reset lit) 1 0 ≤ n
      → edge_value n gs f (edge_word (start_edge lit reset k)) ≡ cond (eqb reset lit) (f k) (eqb reset 1)
  start-value lit reset k h = go (eqb reset lit) h
    where
      go : (b : Bool) → k + cond b 1 0 ≤ n → edge_value n gs f (edge_word (cond b (free_edge k) (edge_of 0 (eqb reset 1)))) ≡ cond b (f k) (eqb reset 1)
      go true l = free-value k (omega arith)
      go false l = constant-value (eqb reset 1)
