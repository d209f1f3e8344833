-- The diagram with node 0 alone, which is good. Assumes nothing.
use mathlib.Core.Path.{◌≡◌, refl, sym, ap, ◌∙◌}
use mathlib.Core.List.{List, [], ◌∷◌, ◌++◌}
use mathlib.Core.Bool.{Bool, true, false, cond}
use Prim.Native.Nat.{ℕ, zero, suc, ◌+◌, ◌-◌, ◌*◌, ◌/◌, ◌≤◌, ◌<◌}
use native.Mathlib.Omega.{arith}
use native.Mathlib.Decide.{ℕ_discrete}
use lib.ListN.{length, get_or, set, replicate, length-set, length-replicate}
use lib.Seq.{get_or-set_same, get_or-set_other, ext_get_or}
use Rattle.diagrams.specs.declared.Vertex.{Vertex}
use Rattle.diagrams.specs.Words.{no_vertex, false_vertex, word_of, node_in, view, node_at, room_of}
use Rattle.diagrams.specs.States.{State, state_of, begun}
use Rattle.diagrams.specs.Meaning.{Built, Terms, Entry, empty, Good}
use Rattle.diagrams.proofs.View.{node-eq, node-whole, room-is, length-cache, cache-at}
use Rattle.diagrams.proofs.Stores.{room_small}

zeros-at : (n i : ℕ) → get_or {A = ℕ} (replicate n 0) i 0 ≡ 0
zeros-at zero i = refl
zeros-at (suc n) zero = refl
zeros-at (suc n) (suc i) = zeros-at n i

-- ---- the beginning

module _ (words looks : ℕ) where
  abbrev zeros : List ℕ
  zeros = replicate words 0

  abbrev one : List ℕ
  one = set zeros 0 1

  abbrev two : List ℕ
  two = set one 1 looks

  abbrev three : List ℕ
  three = set two (4 * (words / 16) + 6) 4294967295

  l₀ : length zeros ≡ words
  l₀ = length-replicate {A = ℕ} words 0

  l₁ : length one ≡ words
  l₁ = length-set zeros 0 1 ∙ l₀

  l₂ : length two ≡ words
  l₂ = length-set one 1 looks ∙ l₁

  l₃ : length three ≡ words
  l₃ = length-set two (4 * (words / 16) + 6) 4294967295 ∙ l₂

  word-zero : (j : ℕ) → 1 < j → (j ≡ 4 * (words / 16) + 6 → ⊥) → get_or three j 0 ≡ 0
  word-zero j h n =
      get_or-set_other two (4 * (words / 16) + 6) j 4294967295 0 n ∙ get_or-set_other one 1 j looks 0 (λ z. omega arith)
      ∙ get_or-set_other zeros 0 j 1 0 (λ z. omega arith) ∙ zeros-at words j

  module _ (enough : 16 ≤ words) where
    count-one : get_or three 0 0 ≡ 1
    count-one =
        get_or-set_other two (4 * (words / 16) + 6) 0 4294967295 0 (λ z. omega arith) ∙ get_or-set_other one 1 0 looks 0 (λ z. omega arith)
        ∙ get_or-set_same zeros 0 1 0 (omega (arith, l₀))

    first-node : node_in three 0 ≡ false_vertex
    first-node =
        let l = l₃ in
        let at = 4 * (words / 16) + 4 in
        node-whole three 0 at (ap (λ (n : ℕ). 4 * (n / 16) + 4) (sym l) ∙ omega arith) (omega arith)
        ∙ node-eq (word-zero at (omega arith) (λ z. omega arith)) (word-zero (at + 1) (omega arith) (λ z. omega arith))
        (ap (λ (n : ℕ). get_or three n 0) (omega arith) ∙ get_or-set_same two (4 * (words / 16) + 6) 4294967295 0 (omega (arith, l₂)))
        (word-zero (at + 3) (omega arith) (λ z. omega arith))

    nodes-one : (state_of three).nodes ≡ false_vertex ∷ []
    unfolding state_of view
    nodes-one = ap (view three) count-one ∙ ap (λ (n : Vertex). n ∷ []) first-node

    -- the diagram that begins is good for any level, and for no vectors
    pub begun-good : (level : ℕ) → Good (record { level = level; vectors = [] }) (state_of (begun words looks))
    unfolding begun
    begun-good level =
        let e = nodes-one in
        let n : length (state_of three).nodes ≡ 1 = ap length e in
        record {
          built =
              record {
                some-node = omega arith;
                first = ap (λ (ns : List Vertex). node_at ns 0) e;
                lo = λ k p h. absurd (omega arith);
                hi = λ k p h. absurd (omega arith);
                apart = λ k p h. absurd (omega arith);
                lo-above = λ k p h. absurd (omega arith);
                hi-above = λ k p h. absurd (omega arith);
              };
          small = omega arith;
          fits = omega (arith, room-is three, room_small (length three));
          vectors-in = λ tag v. omega arith;
          entries = λ i h.
              let l = l₃ in
              empty (cache-at three (4 * i) (omega (arith, length-cache three)) ∙ word-zero (4 + 4 * i) (omega arith)
              (λ z. omega (arith, length-cache three)));
        }

    -- it has one node and so many looks
    pub begun-nodes : (state_of (begun words looks)).nodes ≡ false_vertex ∷ []
    unfolding begun
    begun-nodes = nodes-one
