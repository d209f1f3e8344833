-- Patterns and sequences: each pattern is a sequence, and with at most six free bits each sequence is a pattern. Assumes nothing.
use mathlib.Core.Path.{◌≡◌, sym, ap, ap₂, ◌∙◌}
use mathlib.Core.Bool.{Bool, cond, ◌&&◌}
use mathlib.Core.List.{List}
use Prim.Native.Nat.{ℕ, ◌-◌, ◌^◌, ◌≤◌, ◌<◌}
use native.Mathlib.Omega.{arith}
use borrow.Author.Tests.{lt-ltb}
use Rattle.aiger.specs.Bits.{bit}
use Rattle.aiger.specs.Frames.{free_bit}
use Rattle.aiger.specs.Signature.{draw, pattern_bit}
use Rattle.meaning.proofs.Bits.{number_of, sequence-of}
use Rattle.nodes.specs.Graph.{Pair, edge_in, edge_value}
use Rattle.nodes.proofs.Laws.{node_values-eq}
use Rattle.signatures.specs.Twin.{Conjunction}
use Rattle.signatures.specs.Store.{pattern_value}

-- the first n bits alone decide
abbrev pub Local : ℕ → ((ℕ → Bool) → Bool) → Type 0
Local n F = (f h : ℕ → Bool) → ((j : ℕ) → j < n → f j ≡ h j) → F f ≡ F h

pub edge-local : (n : ℕ) (gs : List Pair) (e : ℕ) → Local n (λ f. edge_value n gs f e)
edge-local n gs e f h q = ap (λ (vs : List Bool). edge_in vs e) (node_values-eq n gs f h q)

pub both-local : (n : ℕ) (gs : List Pair) (a b : ℕ) → Local n (λ f. edge_value n gs f a && edge_value n gs f b)
both-local n gs a b f h q = ap₂ ◌&&◌ (edge-local n gs a f h q) (edge-local n gs b f h q)

-- a free bit below 6 counts up
pub pattern-counts : (j p : ℕ) → j < 6 → pattern_bit j p ≡ bit p j
unfolding pattern_bit
pattern-counts j p h = ap (λ (b : Bool). cond b (bit p j) (bit (draw (j - 5)) p)) (lt-ltb j 6 h)

module _ (n : ℕ) (F G : (ℕ → Bool) → Bool) (loc_f : Local n F) (loc_g : Local n G) where
  -- functions that are equal over all sequences are equal in each pattern
  pub pattern-equal : ((x : ℕ) → x < 2 ^ n → F (free_bit n x) ≡ G (free_bit n x)) → (p : ℕ) → F (λ j. pattern_bit j p) ≡ G (λ j. pattern_bit j p)
  pattern-equal h p =
      let r = sequence-of n (λ j. pattern_bit j p) in
      sym (loc_f (free_bit n r.0) (λ j. pattern_bit j p) r.2) ∙ h r.0 r.1 ∙ loc_g (free_bit n r.0) (λ j. pattern_bit j p) r.2

  -- with at most six free bits, functions that are equal in all patterns are equal over all sequences
  pub sequence-equal : n ≤ 6 → ((p : ℕ) → p < 64 → F (λ j. pattern_bit j p) ≡ G (λ j. pattern_bit j p)) → (x : ℕ) → x < 2 ^ n → F (free_bit n x) ≡ G (free_bit n x)
  sequence-equal six h x l =
      let r = number_of 6 (free_bit n x) in
      let p : ℕ = r.number in
      let q : (j : ℕ) → j < n → pattern_bit j p ≡ free_bit n x j = λ j k. pattern-counts j p (omega arith) ∙ r.bits j (omega arith) in
      sym (loc_f (λ j. pattern_bit j p) (free_bit n x) q) ∙ h p r.fits ∙ loc_g (λ j. pattern_bit j p) (free_bit n x) q

module _ (n : ℕ) (gs : List Pair) (a b e : ℕ) where
  -- an edge that is equal in function to a conjunction has its signature
  pub conjunction-pattern : Conjunction n gs a b e → (p : ℕ) → pattern_value n gs e p ≡ (pattern_value n gs a p && pattern_value n gs b p)
  conjunction-pattern =
      pattern-equal n (λ f. edge_value n gs f e) (λ f. edge_value n gs f a && edge_value n gs f b) (edge-local n gs e) (both-local n gs a b)

  -- with at most six free bits, an edge that has the signature is equal in function
  pub pattern-conjunction : n ≤ 6 → ((p : ℕ) → p < 64 → pattern_value n gs e p ≡ (pattern_value n gs a p && pattern_value n gs b p)) → Conjunction n gs a b e
  pattern-conjunction =
      sequence-equal n (λ f. edge_value n gs f e) (λ f. edge_value n gs f a && edge_value n gs f b) (edge-local n gs e) (both-local n gs a b)
