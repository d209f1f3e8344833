-- `write_binary::write_head` meets its contract. Assumes nothing.
use mathlib.Core.Path.{◌≡◌, sym, ◌∙◌}
use mathlib.Core.List.{List, [], ◌∷◌}
use Prim.Native.Nat.{ℕ, ◌+◌}
use native.Mathlib.Omega.{arith}
use borrow.Author.Rules.{rules}
use lib.ListN.{length-set}
use Rattle.aiger.specs.Text.{bytes}
use Rattle.aiger.specs.Write.{line_of}
use Rattle.layout.specs.declared.Layout.{Layout}
use Rattle.output.proofs.Output.{room-second, placed-two}
use Rattle.write_binary.proofs.Parts.{name-placed, head-line}
use Rattle.write_binary.proofs.write_head.Statement.{statement}
use Rattle.write_binary.proofs.write_head.Tie as tie

abbrev line : Layout → List ℕ
line p = line_of (p.i + p.l + p.a) (p.i ∷ p.l ∷ p.o ∷ p.a ∷ p.b ∷ p.c ∷ [])

slice-write-out : tie.Need-bounds-out-0
slice-write-out c = omega (arith, c.requires.1)

slice-write-out-2 : tie.Need-bounds-out-1
slice-write-out-2 c = simp length-set (omega (arith, c.requires.1))

slice-write-out-3 : tie.Need-bounds-out-2
slice-write-out-3 c = simp length-set (omega (arith, c.requires.1))

slice-write-out-4 : tie.Need-bounds-out-3
slice-write-out-4 c = simp length-set (omega (arith, c.requires.1))

add-t8 : tie.Need-overflow_add-row
add-t8 c = omega (arith, c.requires.0)

add-t9 : tie.Need-overflow_add-row-2
add-t9 c = omega (arith, c.requires.0)

cast-t10 : tie.Need-overflow_cast-row
cast-t10 c = omega (arith, c.requires.0)

cast-t11 : tie.Need-overflow_cast-row-2
cast-t11 c = omega (arith, c.requires.0)

cast-t12 : tie.Need-overflow_cast-row-3
cast-t12 c = omega (arith, c.requires.0)

cast-t13 : tie.Need-overflow_cast-row-4
cast-t13 c = omega (arith, c.requires.0)

cast-t14 : tie.Need-overflow_cast-row-5
cast-t14 c = omega (arith, c.requires.0)

cast-t15 : tie.Need-overflow_cast-row-6
cast-t15 c = omega (arith, c.requires.0)

cast-t16 : tie.Need-overflow_cast-row-7
cast-t16 c = omega (arith, c.requires.0)

put-row-requires : tie.Need-put_row-requires
put-row-requires c κs =
    let p = c.args.p in
    let o = c.args.out.now in (
      omega arith,
      rw (head-line (p.i + p.l + p.a) p.i p.l p.o p.a p.b p.c)
          (room-second o 0 (bytes "aig ") (line p) c.requires.1 (name-placed o (line p) c.requires.1)),
    )

same_length : tie.Need-shape_of-out
same_length c = c.put_row.auto.out ∙ simp length-set

returns : tie.Need-returns
returns c =
    let p = c.args.p in
    let o = c.args.out.now in
    placed-two o 0 (bytes "aig ") (line p) c.requires.1 (name-placed o (line p) c.requires.1)
    (rw (head-line (p.i + p.l + p.a) p.i p.l p.o p.a p.b p.c) at c.put_row.ensures)

pub write_head_spec : {M : Type 1} → statement M
write_head_spec =
    tie.close
    (tie.spec slice-write-out slice-write-out-2 slice-write-out-3 slice-write-out-4 add-t8 add-t9 cast-t10 cast-t11 cast-t12 cast-t13 cast-t14 cast-t15 cast-t16 (λ c. search rules) put-row-requires same_length returns)
