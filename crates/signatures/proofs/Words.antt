-- Laws of the 64-bit words in records, and of what a store of one keeps. Assumes nothing.
use mathlib.Core.Path.{◌≡◌, refl, sym, ap, ap₂, ◌∙◌}
use mathlib.Core.Bool.{Bool, true, false, not, xor, cond, ◌||◌}
use mathlib.Core.List.{List}
use Prim.Native.Nat.{ℕ, ◌+◌, ◌*◌, ◌/◌, ◌%◌, ◌^◌, ◌<◌}
use native.Mathlib.Omega.{arith}
use lib.ListN.{length, get_or, set, length-set}
use lib.Seq.{get_or-set_same, get_or-set_other}
use lib.Dec.{eqb}
use Rattle.words.proofs.Bits.{xor-true, xor-false}
use Rattle.nodes.specs.Graph.{edge_by}
use Rattle.nodes.specs.Store.{field}
use Rattle.nodes.specs.Edges.{edge_word}
use Rattle.nodes.specs.declared.Edge.{Edge}
use Rattle.nodes.proofs.Laws.{word-node, word-sign}
use Rattle.signatures.specs.Words.{word_at, Put, Kept, simulation_word, search_word}

pub true-false : true ≡ false → ⊥
true-false e = let z : ◌≡◌ {A = ℕ} 0 1 = cc in omega arith

-- a number at which a test is true is none at which it is false
pub test-apart : (t : ℕ → Bool) (f d : ℕ) → t f ≡ false → t d ≡ true → f ≡ d → ⊥
test-apart t f d h k e = true-false (sym k ∙ ap t (sym e) ∙ h)

pub kept_trans : (changed : ℕ → Bool) (a b c : List ℕ) → Kept changed a b → Kept changed b c → Kept changed a c
kept_trans changed a b c p q k f h t = q k f h t ∙ p k f h t

or-false : (x y : Bool) → (x || y) ≡ false → y ≡ false
or-false true y e = absurd (true-false e)
or-false false y e = e

-- what a simulation keeps, a search keeps
pub kept-simulated : (work last : List ℕ) → Kept simulation_word work last → Kept search_word work last
kept-simulated work last s k f h t = s k f h (or-false (eqb f 11) (simulation_word f) t)

-- the value of an edge, as code computes it
pub edge-sign : (v : ℕ → Bool) (e : Edge) → xor e.1 (v e.0.0) ≡ edge_by v (edge_word e)
edge-sign v e =
    go e.1 (v e.0.0) ∙ sym (ap₂ (λ (t : Bool) (k : ℕ). cond t (not (v k)) (v k)) (word-sign e) (word-node e))
  where
    go : (t b : Bool) → xor t b ≡ cond t (not b) b
    go true b = xor-true b
    go false b = xor-false b

-- ---- words

pub field-first : (work : List ℕ) (k : ℕ) → get_or work (16 * k) 0 ≡ field work k 0
field-first work k = let e : 16 * k ≡ 16 * k + 0 = omega arith in ap (λ (i : ℕ). get_or work i 0) e

pub word_same : (work last : List ℕ) (k f : ℕ) → field last k f ≡ field work k f → field last k (f + 1) ≡ field work k (f + 1) → word_at last k f ≡ word_at work k f
unfolding word_at
word_same work last k f p q = ap₂ (λ (a b : ℕ). a + b * 2 ^ 32) p q

pub word_fits : (work : List ℕ) → ((i : ℕ) → get_or work i 0 < 2 ^ 32) → (k f : ℕ) → word_at work k f < 2 ^ 64
unfolding word_at
word_fits work h k f = omega (arith, h (16 * k + f), h (16 * k + (f + 1)))

module _ (work : List ℕ) (k f w : ℕ) (fits : w < 2 ^ 64) (within : 16 * k + (f + 1) < length work) where
  pub put_word : Put work (set (set work (16 * k + f) (w % 2 ^ 32)) (16 * k + (f + 1)) (w / 2 ^ 32)) k f w
  unfolding word_at
  put_word =
      let i : ℕ = 16 * k + f in
      let j : ℕ = 16 * k + (f + 1) in
      let once : List ℕ = set work i (w % 2 ^ 32) in
      let last : List ℕ = set once j (w / 2 ^ 32) in
      let l : get_or last i 0 ≡ w % 2 ^ 32 =
      get_or-set_other once j i (w / 2 ^ 32) 0 (omega arith) ∙ get_or-set_same work i (w % 2 ^ 32) 0 (omega arith) in
      let h : get_or last j 0 ≡ w / 2 ^ 32 = get_or-set_same once j (w / 2 ^ 32) 0 (simp length-set (omega arith)) in
      record {
        stored = omega (arith, l, h);
        others = λ m n o. get_or-set_other once j m (w / 2 ^ 32) 0 o ∙ get_or-set_other work i m (w % 2 ^ 32) 0 n;
      }

-- ---- what a store of a simulation word keeps

module _ (work last : List ℕ) (k : ℕ)
    (others : (i : ℕ) → (i ≡ 16 * k + 8 → ⊥) → (i ≡ 16 * k + 9 → ⊥) → get_or last i 0 ≡ get_or work i 0) where
  pub simulation-kept : Kept simulation_word work last
  simulation-kept j f h t =
      let a : f ≡ 8 → ⊥ = test-apart simulation_word f 8 t refl in
      let b : f ≡ 9 → ⊥ = test-apart simulation_word f 9 t refl in
      others (16 * j + f) (omega arith) (omega arith)

  pub simulation-other : (j : ℕ) → (j ≡ k → ⊥) → word_at last j 8 ≡ word_at work j 8
  simulation-other j h =
      word_same work last j 8 (others (16 * j + 8) (omega arith) (omega arith)) (others (16 * j + 9) (omega arith) (omega arith))
