-- `vcd::write_declarations` meets its contract. The loop's invariant: the lines are written but for those that are left. The measure is the
-- number of wires left. Assumes nothing.
use mathlib.Core.Path.{◌≡◌, sym}
use Prim.Native.Nat.{◌+◌, ◌-◌}
use native.Mathlib.Omega.{arith}
use Rattle.output.proofs.Output.{Rest, rest-start, rest-room, rest_more, rest_end}
use Rattle.vcd.specs.Text.{declaration, declarations}
use Rattle.vcd.specs.Wires.{name_in}
use Rattle.vcd.proofs.Parts.{declarations-more, declarations-none}
use borrow.Author.Rules.{rules}
use Rattle.vcd.proofs.write_declarations.Statement.{statement}
use Rattle.vcd.proofs.write_declarations.Tie as tie
use Rattle.vcd.proofs.write_declarations.Reads as reads
use Rattle.vcd.proofs.write_declarations.Lts as lts
use Rattle.vcd.proofs.name_at.Reads as name-at-reads
use Rattle.vcd.proofs.write_declaration.Reads as write-declaration-reads

abbrev invariant-loop : tie.invariant-loop-left
invariant-loop layout n out₀ at end₀ k₀ left₀ out end k left =
    (k + left ≡ n) × Rest out₀ at (declarations (name_in layout) 0 n) out end (declarations (name_in layout) k left)

abbrev decreases-loop : tie.decreases-loop-left
decreases-loop layout n out₀ at end₀ k₀ left₀ out end k left =
    left

loop-holds : tie.Need-loop-left-init invariant-loop decreases-loop
loop-holds c =
    (omega arith, rest-start c.args.out.now c.args.at _)

name-at-requires : tie.Need-name_at-name-requires invariant-loop decreases-loop
name-at-requires c κs =
    (omega (arith, c.requires.0.there), omega (arith, c.requires.0.few))

write-declaration-requires : tie.Need-write_declaration-end-requires invariant-loop decreases-loop
write-declaration-requires c κs =
    let name = name_in c.args.layout in
    let t = c.loop-left-test.true in (
      omega (arith, c.requires.0.there, c.requires.0.few),
      rw c.name_at-name.ensures.0
          (rest-room (declaration c.loop-left.k (name c.loop-left.k)) (declarations name (c.loop-left.k + 1) (c.loop-left.left - 1)) c.requires.1
          (rw (declarations-more name c.loop-left.k c.loop-left.left t) at c.loop-left.invariant.1)),
    )

add-k : tie.Need-overflow_add-k invariant-loop decreases-loop
add-k c =
    omega (arith, c.requires.0.there, c.requires.0.few)

loop-again : tie.Need-loop-left-preserved invariant-loop decreases-loop
loop-again c =
    let name = name_in c.args.layout in
    let t = c.loop-left-test.true in (
      omega arith,
      rest_more (declaration c.loop-left.k (name c.loop-left.k)) (declarations name (c.loop-left.k + 1) (c.loop-left.left - 1)) c.requires.1
          (rw (declarations-more name c.loop-left.k c.loop-left.left t) at c.loop-left.invariant.1) (rw c.name_at-name.ensures.0 at c.write_declaration-end.ensures),
    )

same_length : tie.Need-shape_of-out invariant-loop decreases-loop
same_length c =
    c.loop-left.invariant.1.kept

returns : tie.Need-returns invariant-loop decreases-loop
returns c =
    rest_end (rw (declarations-none (name_in c.args.layout) c.loop-left.k c.loop-left.left c.loop-left-test.false) at c.loop-left.invariant.1)

pub write_declarations_spec : {M : Type 1} → statement M
write_declarations_spec =
    tie.close
    (tie.spec invariant-loop decreases-loop loop-holds name-at-requires write-declaration-requires add-k (λ c. omega arith) (λ c. omega arith) loop-again same_length returns)
