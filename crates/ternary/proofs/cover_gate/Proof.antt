-- `ternary::cover_gate` meets its contract. Assumes nothing.
use mathlib.Core.Path.{◌≡◌, ap, ◌∙◌}
use Prim.Native.Nat.{ℕ, ◌+◌}
use native.Mathlib.Omega.{arith}
use Rattle.literals.specs.declared.Lit.{Lit}
use Rattle.literals.specs.declared.Var.{Var}
use Rattle.layout.specs.Words.{word}
use Rattle.ternary.specs.Entries.{conjunction}
use Rattle.ternary.proofs.Entries.{read_word, put_word}
use borrow.Author.Rules.{rules}
use Rattle.ternary.proofs.cover_gate.Statement.{statement}
use Rattle.ternary.proofs.cover_gate.Tie as tie

add-from-word : tie.Need-overflow_add-at
add-from-word c = omega (arith, c.requires.inside)

mul-from-word : tie.Need-offset_bounds-m-at
mul-from-word c = omega (arith, c.requires.inside)

shared-slice-read-from-word : tie.Need-bounds-m-at
shared-slice-read-from-word c = omega (arith, c.requires.inside)

read-requires : tie.Need-read-x-requires
read-requires c κs =
    omega (arith, ap (λ (l : Lit). l.0.0) c.from_word.ensures, c.requires.left)

add-from-word-2 : tie.Need-overflow_add-at-2
add-from-word-2 c = omega (arith, c.requires.inside)

mul-from-word-2 : tie.Need-offset_bounds-m-at-2
mul-from-word-2 c = omega (arith, c.requires.inside)

shared-slice-read-from-word-2 : tie.Need-bounds-m-at-2
shared-slice-read-from-word-2 c =
    omega (arith, c.requires.inside)

read-requires-2 : tie.Need-read-y-requires
read-requires-2 c κs =
    omega (arith, ap (λ (l : Lit). l.0.0) c.from_word-2.ensures, c.requires.right)

mul-from-word-3 : tie.Need-offset_bounds-m-at-3
mul-from-word-3 c =
    omega (arith, c.requires.inside)

shared-slice-read-from-word-3 : tie.Need-bounds-m-at-3
shared-slice-read-from-word-3 c =
    omega (arith, c.requires.inside)

put-requires : tie.Need-put-requires
put-requires c κs =
    let v = ap (λ (v : Var). v.0) c.var.ensures ∙ ap (λ (l : Lit). l.0.0) c.from_word-3.ensures in
    omega (arith, v, c.requires.lit)

same_length : tie.Need-shape_of-can
same_length c = c.put.auto.can

returns : tie.Need-returns
returns c =
    let a = c.args in
    let m = a.m.now in
    let can = a.can.now in
    let x = read_word can (word m (a.at + 1)) c.from_word.ensures c.read-x.ensures in
    let y = read_word can (word m (a.at + 2)) c.from_word-2.ensures c.read-y.ensures in
    let both = c.conjunction.ensures in
    put_word can (word m a.at) c.from_word-3.ensures c.var.ensures (both ∙ (λ i. conjunction (x i) (y i)))
    c.put.ensures

pub cover_gate_spec : {M : Type 1} → statement M
cover_gate_spec =
    tie.close
    (tie.spec add-from-word mul-from-word shared-slice-read-from-word (λ c κs. search rules) read-requires add-from-word-2 mul-from-word-2 shared-slice-read-from-word-2 (λ c κs. search rules) read-requires-2 mul-from-word-3 shared-slice-read-from-word-3 (λ c κs. search rules) (λ c κs. search rules) (λ c κs. search rules) put-requires same_length returns)
