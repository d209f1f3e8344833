-- `diagram_rows::write_row` meets its contract. The loop's invariant: the first v words are the edges of the first v next literals.
-- Assumes nothing.
use mathlib.Core.Path.{◌≡◌, refl, ap, ◌∙◌, subst}
use Prim.Native.Nat.{ℕ, ◌-◌, ◌≤◌}
use native.Mathlib.Omega.{arith}
use borrow.Author.Rules.{rules}
use lib.ListN.{length, get_or}
use Rattle.literals.specs.Literal.{literal}
use Rattle.layout.specs.Words.{circuit_in}
use lib.ListN.{length-set}
use Rattle.diagram_rows.specs.Rows.{edge_in, next_literal}
use Rattle.diagram_rows.proofs.Read.{latches-fit, next-read}
use Rattle.diagram_rows.proofs.Follow.{Begun, begun_more, row-whole}
use Rattle.diagram_rows.proofs.write_row.Statement.{statement}
use Rattle.diagram_rows.proofs.write_row.Tie as tie

abbrev invariant-loop : tie.invariant-loop-v
invariant-loop m layout latches edges con hit row₀ count v₀ row v =
    (v ≤ count) × (length row ≡ length row₀) × Begun (λ j. edge_in edges (next_literal (circuit_in m) j)) latches v row

abbrev decreases-loop : tie.decreases-loop-v
decreases-loop m layout latches edges con hit row₀ count v₀ row v = count - v

loop-holds : tie.Need-loop-v-init invariant-loop decreases-loop
loop-holds c = (omega arith, refl, λ k h. absurd (omega arith))

cast-triple-at : tie.Need-overflow_cast-latches invariant-loop decreases-loop
cast-triple-at c = omega (arith, c.shared_slice_known-in-loop-v-1.given c.loop-v.v)

triple-at-requires : tie.Need-triple_at-l-requires invariant-loop decreases-loop
triple-at-requires c κs = (latches-fit c.requires.0, omega arith)

mul-row : tie.Need-offset_bounds-row-v invariant-loop decreases-loop
mul-row c = omega (arith, c.loop-v.invariant.1, c.requires.1)

slice-write-row : tie.Need-bounds-row-v invariant-loop decreases-loop
slice-write-row c = omega (arith, c.loop-v.invariant.1, c.requires.1)

loop-again : tie.Need-loop-v-preserved invariant-loop decreases-loop
loop-again c =
    let a = c.args in
    let t = c.triple_at-l.ensures ∙ ap literal (next-read c.requires.0 (get_or a.latches.now c.loop-v.v 0)) in (
      omega arith,
      length-set c.loop-v.row c.loop-v.v _ ∙ c.loop-v.invariant.1,
      begun_more (λ j. edge_in a.edges.now (next_literal (circuit_in a.m.now) j)) a.latches.now c.loop-v.v c.loop-v.row c.edge_of.result
          (omega (arith, c.loop-v.invariant.1, c.requires.1)) (c.edge_of.ensures ∙ ap (edge_in a.edges.now) t) c.loop-v.invariant.2,
    )

mul-row-2 : tie.Need-offset_bounds-row-count invariant-loop decreases-loop
mul-row-2 c = omega (arith, c.loop-v.invariant.1, c.requires.1)

slice-write-row-2 : tie.Need-bounds-row-count invariant-loop decreases-loop
slice-write-row-2 c = omega (arith, c.loop-v.invariant.1, c.requires.1)

add_row : tie.Need-overflow_add-row invariant-loop decreases-loop
add_row c = omega (arith, c.loop-v.invariant.1, c.requires.1)

mul-row-3 : tie.Need-offset_bounds-row-count-2 invariant-loop decreases-loop
mul-row-3 c = omega (arith, c.loop-v.invariant.1, c.requires.1)

slice-write-row-3 : tie.Need-bounds-row-count-2 invariant-loop decreases-loop
slice-write-row-3 c =
    simp length-set (omega (arith, c.loop-v.invariant.1, c.requires.1))

same_length : tie.Need-shape_of-row invariant-loop decreases-loop
same_length c =
    simp length-set c.loop-v.invariant.1

returns : tie.Need-returns invariant-loop decreases-loop
returns c =
    let a = c.args in
    let e : c.loop-v.v ≡ length a.latches.now = omega arith in
    row-whole (λ j. edge_in a.edges.now (next_literal (circuit_in a.m.now) j)) a.latches.now (length a.latches.now) c.loop-v.row a.con a.hit
    refl (c.loop-v.invariant.1 ∙ c.requires.1) (subst (λ (n : ℕ). Begun (λ j. edge_in a.edges.now (next_literal (circuit_in a.m.now) j)) a.latches.now n c.loop-v.row) e c.loop-v.invariant.2)

pub write_row_spec : {M : Type 1} → statement M
write_row_spec =
    tie.close
    (tie.spec invariant-loop decreases-loop loop-holds (λ c. search rules) (λ c. search rules) cast-triple-at triple-at-requires (λ c κs. search rules) mul-row slice-write-row (λ c. search rules) (λ c. search rules) loop-again mul-row-2 slice-write-row-2 add_row mul-row-3 slice-write-row-3 same_length returns)
