-- A literal under the numbers of a table, and the word of one that was read from a word. Assumes nothing.
use mathlib.Core.Path.{◌≡◌, ap, ◌∙◌}
use mathlib.Core.Bool.{Bool, true, false, cond}
use mathlib.Core.List.{List}
use Prim.Native.Nat.{ℕ, ◌+◌, ◌*◌, ◌%◌, ◌≤◌}
use native.Mathlib.Omega.{arith}
use Rattle.aiger.specs.Circuit.{var}
use Rattle.literals.specs.Literal.{literal, word_of}
use Rattle.literals.specs.declared.Lit.{Lit}
use Rattle.literals.proofs.Words.{word-literal}
use Rattle.layout.specs.Words.{word}
use Rattle.renumber.specs.Names.{under, named}

pub named_small : (names : List ℕ) (l : Lit) → word names l.0.0 ≤ 4096 → word_of (named names l) ≤ 8193
named_small names l h = go l.1
  where
    go : (b : Bool) → 2 * word names l.0.0 + cond b 1 0 ≤ 8193
    go true = omega arith
    go false = omega arith

pub named-word : (names : List ℕ) (w : ℕ) {l r : Lit} → l ≡ literal w → r ≡ named names l → word_of r ≡ under names w
named-word names w e t =
    ap word_of t ∙ ap (λ (l : Lit). word_of (named names l)) e ∙ omega (arith, word-literal w)
