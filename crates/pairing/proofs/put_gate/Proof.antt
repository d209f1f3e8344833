-- `pairing::put_gate` meets its contract. Assumes nothing.
use mathlib.Core.Path.{◌≡◌, subst}
use mathlib.Core.List.{List, [], ◌∷◌}
use Prim.Native.Nat.{ℕ}
use native.Mathlib.Omega.{arith}
use borrow.Author.Rules.{rules}
use Rattle.layout.specs.Words.{word}
use Rattle.renumber.specs.Names.{Put}
use Rattle.pairing.proofs.put_gate.Statement.{statement}
use Rattle.pairing.proofs.put_gate.Tie as tie

returns : tie.Need-returns
returns c =
    let s = c.args in
    let lit = c.word.ensures in
    let left = c.word-2.ensures in
    let right = c.word-3.ensures in
    subst (λ (r : List ℕ). Put s.to (word r) 3 s.m.now c.copy_words.new.m) (λ i. lit i ∷ left i ∷ right i ∷ [])
    c.copy_words.ensures

pub put_gate_spec : {M : Type 1} → statement M
put_gate_spec =
    tie.close
    (tie.spec (λ c κs. search rules) (λ c. search rules) (λ c κs. search rules) (λ c. search rules) (λ c κs. search rules) (λ c. search rules) (λ c. search rules) (λ c κs. search rules) (λ c. search rules) returns)
