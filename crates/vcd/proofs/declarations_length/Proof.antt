-- `vcd::declarations_length` meets its contract. The loop's invariant: what is counted and the length of what is left are the whole length.
-- The measure is the number of wires left. Assumes nothing.
use mathlib.Core.Path.{◌≡◌, ap, ◌∙◌}
use Prim.Native.Nat.{ℕ, ◌+◌, ◌-◌, ◌≤◌}
use native.Mathlib.Omega.{arith}
use lib.ListN.{length}
use Rattle.aiger.specs.Text.{digits}
use Rattle.vcd.specs.declared.Name.{Name}
use Rattle.vcd.specs.Text.{declarations}
use Rattle.vcd.specs.Wires.{name_in, wires_in}
use Rattle.vcd.proofs.Parts.{declarations-longer, declarations-none, declarations-most}
use borrow.Author.Rules.{rules}
use Rattle.vcd.proofs.declarations_length.Statement.{statement}
use Rattle.vcd.proofs.declarations_length.Tie as tie
use Rattle.vcd.proofs.declarations_length.Reads as reads
use Rattle.vcd.proofs.declarations_length.Lts as lts
use Rattle.numbers.proofs.digit_count.Reads as digit-count-reads
use Rattle.vcd.proofs.name_at.Reads as name-at-reads

abbrev invariant-loop : tie.invariant-loop-left
invariant-loop layout n total₀ k₀ left₀ total k left =
    (k + left ≡ n) × (total + length (declarations (name_in layout) k left) ≡ length (declarations (name_in layout) 0 n))

abbrev decreases-loop : tie.decreases-loop-left
decreases-loop layout n total₀ k₀ left₀ total k left =
    left

counted : (c : tie.After-digit_count invariant-loop decreases-loop) → let p = c.args.layout in
    length (declarations (name_in p) c.loop-left.k c.loop-left.left) ≡ 22 + c.digit_count.result + length (declarations (name_in p) (c.loop-left.k + 1) (c.loop-left.left - 1))
counted c =
    let p = c.args.layout in
    let e = c.digit_count.ensures ∙ ap (λ (x : Name). length (digits x.index)) c.name_at-name.ensures.0 in
    declarations-longer (name_in p) c.loop-left.k c.loop-left.left c.loop-left-test.true ∙ omega (arith, e)

loop-holds : tie.Need-loop-left-init invariant-loop decreases-loop
loop-holds c =
    (omega arith, omega arith)

name-at-requires : tie.Need-name_at-name-requires invariant-loop decreases-loop
name-at-requires c κs =
    (omega (arith, c.requires.there), omega (arith, c.requires.few))

digit-count-requires : tie.Need-digit_count-requires invariant-loop decreases-loop
digit-count-requires c κs =
    tt

add_total : tie.Need-overflow_add-total invariant-loop decreases-loop
add_total c =
    let a = c.args in
    omega (arith, counted c, declarations-most (name_in a.layout) 0 a.n, c.requires.there, c.requires.few)

add-total-2 : tie.Need-overflow_add-total-in-loop-left invariant-loop decreases-loop
add-total-2 c =
    let a = c.args in
    omega (arith, counted c, declarations-most (name_in a.layout) 0 a.n, c.requires.there, c.requires.few)

add-k : tie.Need-overflow_add-k invariant-loop decreases-loop
add-k c =
    omega (arith, c.requires.there, c.requires.few)

loop-again : tie.Need-loop-left-preserved invariant-loop decreases-loop
loop-again c =
    (omega arith, omega (arith, counted c))

returns : tie.Need-returns invariant-loop decreases-loop
returns c =
    let a = c.args in
    omega (arith, ap length (declarations-none (name_in a.layout) c.loop-left.k c.loop-left.left c.loop-left-test.false))

pub declarations_length_spec : {M : Type 1} → statement M
declarations_length_spec =
    tie.close
    (tie.spec invariant-loop decreases-loop loop-holds name-at-requires digit-count-requires add_total add-total-2 add-k (λ c. omega arith) (λ c. omega arith) loop-again returns)
