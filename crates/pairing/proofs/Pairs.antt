-- The words of the gates of pairs. Assumes nothing.
use mathlib.Core.Path.{◌≡◌, refl, sym, ap, ap₂, ◌∙◌, subst}
use mathlib.Core.Bool.{Bool, true, false, not, cond}
use mathlib.Core.List.{List}
use Prim.Native.Nat.{ℕ, zero, suc, ◌+◌, ◌-◌, ◌*◌, ◌/◌, ◌%◌, ◌≤◌, ◌<◌}
use native.Mathlib.Omega.{arith}
use Rattle.aiger.specs.Circuit.{var}
use Rattle.literals.specs.Literal.{signed, word_of, complemented}
use Rattle.literals.specs.declared.Lit.{Lit}
use Rattle.frames.proofs.Stores.{stored-start}
use Rattle.joined.specs.Joined.{complement}
use Rattle.renumber.specs.Names.{Put}
use Rattle.renumber.proofs.Runs.{block_more}
use Rattle.pairing.specs.Words.{triple_word, pair_word, pairs_word}

-- the words of the next pair
pub pair-words : (v : ℕ) (p q : ℕ → ℕ) (j r : ℕ) → r < 9 → pairs_word v p q (9 * j + r) ≡ pair_word (v + 3 * j) (p j) (q j) r
pair-words v p q j r h =
    let a : (9 * j + r) / 9 ≡ j = omega arith in
    let b : (9 * j + r) % 9 ≡ r = omega arith in
    ap₂ (λ (x y : ℕ). pair_word (v + 3 * x) (p x) (q x) y) a b

-- ---- complements as literals and as words

complement-word : (l : Lit) → word_of (complemented l) ≡ complement (word_of l)
complement-word l = go l.0.0 l.1
  where
    go : (v : ℕ) (b : Bool) → 2 * v + cond (not b) 1 0 ≡ 2 * var (2 * v + cond b 1 0) + (1 - (2 * v + cond b 1 0) % 2)
    go v true = omega arith
    go v false = omega arith

pub complement-small : (l : Lit) {k : Lit} → k ≡ complemented l → word_of l ≤ 8193 → word_of k ≤ 8193
complement-small l e h = rw (ap word_of e) (go l.0.0 l.1 h)
  where
    go : (v : ℕ) (b : Bool) → 2 * v + cond b 1 0 ≤ 8193 → 2 * v + cond (not b) 1 0 ≤ 8193
    go v true h = omega arith
    go v false h = omega arith

-- ---- the gates of a pair, one after the other

module _ (to v : ℕ) (p q : Lit) {p' q' : Lit} (not-p : p' ≡ complemented p) (not-q : q' ≡ complemented q) where
  first-words : (r : ℕ) → r < 3
      → pair_word v (word_of p) (word_of q) (3 * 0 + r) ≡ triple_word (word_of (signed v false)) (word_of p) (word_of q') r
  first-words zero h = omega arith
  first-words (suc zero) h = refl
  first-words (suc (suc zero)) h = sym (ap word_of not-q ∙ complement-word q)
  first-words (suc (suc (suc r))) h = absurd (omega arith)

  second-words : (r : ℕ) → r < 3
      → pair_word v (word_of p) (word_of q) (3 * 1 + r) ≡ triple_word (word_of (signed (v + 1) false)) (word_of p') (word_of q) r
  second-words zero h = omega arith
  second-words (suc zero) h = sym (ap word_of not-p ∙ complement-word p)
  second-words (suc (suc zero)) h = refl
  second-words (suc (suc (suc r))) h = absurd (omega arith)

  module _ {x y : Lit} (not-x : x ≡ complemented (signed v false)) (not-y : y ≡ complemented (signed (v + 1) false)) where
    third-words : (r : ℕ) → r < 3
        → pair_word v (word_of p) (word_of q) (3 * 2 + r) ≡ triple_word (word_of (signed (v + 2) false)) (word_of x) (word_of y) r
    third-words zero h = omega arith
    third-words (suc zero) h = sym (ap word_of not-x)
    third-words (suc (suc zero)) h = sym (ap word_of not-y)
    third-words (suc (suc (suc r))) h = absurd (omega arith)

    pub pair_put : (m₀ m₁ m₂ m₃ : List ℕ) → Put to (triple_word (word_of (signed v false)) (word_of p) (word_of q')) 3 m₀ m₁
        → Put (to + 3) (triple_word (word_of (signed (v + 1) false)) (word_of p') (word_of q)) 3 m₁ m₂
        → Put (to + 6) (triple_word (word_of (signed (v + 2) false)) (word_of x) (word_of y)) 3 m₂ m₃
        → Put to (pair_word v (word_of p) (word_of q)) 9 m₀ m₃
    pair_put m₀ m₁ m₂ m₃ a b c =
        let f = pair_word v (word_of p) (word_of q) in
        let g = triple_word (word_of (signed v false)) (word_of p) (word_of q') in
        let start : to ≡ to + 3 * 0 = omega arith in
        let one = block_more to 3 f g 0 m₀ m₀ m₁ first-words (stored-start _ _ _) (subst (λ (t : ℕ). Put t g 3 m₀ m₁) start a) in
        let two =
        block_more to 3 f (triple_word (word_of (signed (v + 1) false)) (word_of p') (word_of q)) 1 m₀ m₁ m₂ second-words one b in
        block_more to 3 f (triple_word (word_of (signed (v + 2) false)) (word_of x) (word_of y)) 2 m₀ m₂ m₃ third-words two c
