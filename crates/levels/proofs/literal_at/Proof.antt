-- `levels::literal_at` meets its contract: where the literal of each kind of wire stands. Assumes nothing.
use mathlib.Core.Path.{sym, ap, ◌∙◌}
use Prim.Native.Nat.{◌-◌}
use native.Mathlib.Omega.{arith}
use Rattle.literals.specs.Literal.{literal}
use Rattle.layout.specs.Words.{word}
use Rattle.levels.proofs.Wires.{wires-are, input-literal, latch-literal, other-literal, input-inside, latch-inside, other-inside}
use borrow.Author.Rules.{rules}
use Rattle.levels.proofs.literal_at.Statement.{statement}
use Rattle.levels.proofs.literal_at.Tie as tie
use Rattle.levels.proofs.literal_at.Reads as reads
use Rattle.levels.proofs.literal_at.Lts as lts

mul-from-word : tie.Need-offset_bounds-m-k
mul-from-word c =
    omega (arith, input-inside c.requires.0 c.requires.1 c.args.k c.if-k-layout.true)

shared-slice-read-from-word : tie.Need-bounds-m-k
shared-slice-read-from-word c =
    omega (arith, input-inside c.requires.0 c.requires.1 c.args.k c.if-k-layout.true)

returns : tie.Need-returns-then-k-layout
returns c =
    c.from_word.ensures ∙ ap literal (input-literal c.requires.0 c.requires.1 c.args.k c.if-k-layout.true)

add-latch-2 : tie.Need-overflow_add-latch-then-j-layout
add-latch-2 c =
    omega (arith, latch-inside c.requires.0 c.requires.1 (c.args.k - c.args.layout.i) c.if-j-layout.true)

mul-from-word-2 : tie.Need-offset_bounds-m-latch
mul-from-word-2 c =
    omega (arith, latch-inside c.requires.0 c.requires.1 (c.args.k - c.args.layout.i) c.if-j-layout.true)

shared-slice-read-from-word-2 : tie.Need-bounds-m-latch
shared-slice-read-from-word-2 c =
    omega (arith, latch-inside c.requires.0 c.requires.1 (c.args.k - c.args.layout.i) c.if-j-layout.true)

returns-2 : tie.Need-returns-then-j-layout
returns-2 c =
    let here = latch-literal c.requires.0 c.requires.1 c.args.k (omega arith) c.if-j-layout.true in
    c.from_word-then-j-layout.ensures ∙ ap literal (sym (sym here ∙ ap (word c.args.m.now) (omega arith)))

add_at : tie.Need-overflow_add-at
add_at c =
    let p = c.args.layout in
    omega (
      arith,
      other-inside c.requires.0 c.requires.1 (c.args.k - p.i - p.l)
          (omega (arith, wires-are c.requires.0 c.requires.1, c.requires.2)),
    )

mul-from-word-3 : tie.Need-offset_bounds-m-at
mul-from-word-3 c =
    let p = c.args.layout in
    omega (
      arith,
      other-inside c.requires.0 c.requires.1 (c.args.k - p.i - p.l)
          (omega (arith, wires-are c.requires.0 c.requires.1, c.requires.2)),
    )

shared-slice-read-from-word-3 : tie.Need-bounds-m-at
shared-slice-read-from-word-3 c =
    let p = c.args.layout in
    omega (
      arith,
      other-inside c.requires.0 c.requires.1 (c.args.k - p.i - p.l)
          (omega (arith, wires-are c.requires.0 c.requires.1, c.requires.2)),
    )

returns-3 : tie.Need-returns
returns-3 c =
    c.from_word-2.ensures
    ∙ ap literal (other-literal c.requires.0 c.requires.1 c.args.k (omega arith) (omega arith)
    (omega (arith, wires-are c.requires.0 c.requires.1, c.requires.2)))

pub literal_at_spec : {M : Type 1} → statement M
literal_at_spec =
    tie.close
    (tie.spec (λ c. search rules) mul-from-word shared-slice-read-from-word (λ c κs. search rules) returns (λ c. search rules) (λ c. search rules) add-latch-2 mul-from-word-2 shared-slice-read-from-word-2 (λ c κs. search rules) returns-2 add_at mul-from-word-3 shared-slice-read-from-word-3 (λ c κs. search rules) returns-3)
