-- `witness::write_row` meets its contract. The loop's invariant: writing the rest of the line at i gives what is to be left. The measure is
-- what is left of the count. Assumes nothing.
use mathlib.Core.Path.{◌≡◌, refl, sym, ap, ◌∙◌}
use mathlib.Core.Bool.{Bool, cond}
use Prim.Native.Nat.{◌-◌, ◌≤◌}
use native.Mathlib.Omega.{arith}
use borrow.Author.Rules.{rules}
use lib.ListN.{length, length-set}
use Rattle.aiger.specs.Witness.{bit_line}
use Rattle.aiger.specs.Operations.{front}
use Rattle.witness.specs.Writing.{row_of}
use Rattle.witness.proofs.Put.{put}
use Rattle.witness.proofs.Rows.{rest, row-start, row_more, row-end}
use Rattle.witness.proofs.write_row.Statement.{statement}
use Rattle.witness.proofs.write_row.Tie as tie

abbrev invariant-loop : tie.invariant-loop-i
invariant-loop part₀ free from count i₀ part i =
    (length part ≡ length part₀) × (i ≤ count) × (put part i (bit_line (rest free from count i)) ≡ front (bit_line (row_of free from count)) part₀)

abbrev decreases-loop : tie.decreases-loop-i
decreases-loop part₀ free from count i₀ part i = count - i

loop-holds : tie.Need-loop-i-init invariant-loop decreases-loop
loop-holds c = let a = c.args in (refl, omega arith, row-start a.free.now a.part.now a.from a.count)

add-bit-at : tie.Need-overflow_add-from invariant-loop decreases-loop
add-bit-at c = omega arith

bit-at-requires : tie.Need-bit_at-requires invariant-loop decreases-loop
bit-at-requires c κs = omega arith

slice-write-part : tie.Need-bounds-part-i invariant-loop decreases-loop
slice-write-part c = omega arith

add-i : tie.Need-overflow_add-i invariant-loop decreases-loop
add-i c = omega arith

loop-less : tie.Need-loop-i-smaller invariant-loop decreases-loop
loop-less c = omega arith

loop-again : tie.Need-loop-i-preserved invariant-loop decreases-loop
loop-again c =
    let a = c.args in
    let byte : c.byte_of.result ≡ _ = c.byte_of.ensures ∙ ap (λ (b : Bool). cond b 49 48) c.bit_at.ensures in (
      length-set c.loop-i.part c.loop-i.i c.byte_of.result ∙ c.loop-i.invariant.0,
      omega arith,
      rw byte (sym (row_more a.free.now c.loop-i.part a.from a.count c.loop-i.i (omega arith) (omega arith)) ∙ c.loop-i.invariant.2),
    )

slice-write-part-2 : tie.Need-bounds-part-count invariant-loop decreases-loop
slice-write-part-2 c = omega arith

same_length : tie.Need-shape_of-part invariant-loop decreases-loop
same_length c = simp length-set c.loop-i.invariant.0

returns : tie.Need-returns invariant-loop decreases-loop
returns c =
    let a = c.args in
    sym (row-end a.free.now c.loop-i.part a.from a.count c.loop-i.i (omega arith) (omega arith)) ∙ c.loop-i.invariant.2

pub write_row_spec : {M : Type 1} → statement M
write_row_spec =
    tie.close
    (tie.spec invariant-loop decreases-loop loop-holds add-bit-at bit-at-requires (λ c κs. search rules) slice-write-part add-i loop-less loop-again slice-write-part-2 same_length returns)
