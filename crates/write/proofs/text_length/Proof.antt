-- `write::text_length` meets its contract. The loop's invariant: what is counted and the length of the sections from section k on are the
-- length of the text. The measure is how many sections are left. Assumes nothing.
use mathlib.Core.Path.{◌≡◌, ap, ◌∙◌}
use Prim.Native.Nat.{ℕ, ◌+◌, ◌-◌, ◌≤◌}
use native.Mathlib.Numerals.{add-one}
use native.Mathlib.Omega.{arith}
use lib.ListN.{length, drop}
use Rattle.aiger.specs.Write.{write}
use Rattle.layout.specs.Words.{circuit_in}
use Rattle.layout.specs.Table.{table, section_at}
use Rattle.layout.specs.declared.Section.{Section}
use Rattle.write.specs.Rows.{section_text}
use Rattle.write.proofs.Sections.{sections_text, text-longer, head-inside, section-rows, text-size, text-small}
use Rattle.write.proofs.text_length.Statement.{statement}
use Rattle.write.proofs.text_length.Tie as tie

abbrev invariant-loop : tie.invariant-loop-k
invariant-loop m p total₀ k₀ total k = (k ≤ 6) × (total + length (sections_text m (drop k (table p))) ≡ length (write (circuit_in m)))

abbrev decreases-loop : tie.decreases-loop-k
decreases-loop m p total₀ k₀ total k = 6 - k

-- section k, and those after it
counted : (c : tie.After-section_length-total invariant-loop decreases-loop)
    → let a = c.args in
    c.section_length-total.result + length (sections_text a.m.now (drop (c.loop-k.k + 1) (table a.layout)))
    ≡ length (sections_text a.m.now (drop c.loop-k.k (table a.layout)))
counted c =
    let a = c.args in
    rw (add-one c.loop-k.k)
    (omega (
      arith,
      c.section_length-total.ensures,
      ap (λ (t : Section). length (section_text a.m.now t)) c.section_at-t.ensures,
      text-longer a.m.now a.layout c.loop-k.k c.loop-k-test.true,
    ))

row-length-requires : tie.Need-row_length-total-requires invariant-loop decreases-loop
row-length-requires c κs = (omega (arith, head-inside c.requires.0 c.requires.1), omega arith)

add_total : tie.Need-overflow_add-total invariant-loop decreases-loop
add_total c =
    omega (arith, c.row_length-total.ensures, text-size c.requires.0 c.requires.1, text-small c.requires.0 c.requires.1)

loop-holds : tie.Need-loop-k-init invariant-loop decreases-loop
loop-holds c =
    (omega arith, omega (arith, c.row_length-total.ensures, text-size c.requires.0 c.requires.1))

section-at-requires : tie.Need-section_at-t-requires invariant-loop decreases-loop
section-at-requires c κs = c.loop-k-test.true

section-length-requires : tie.Need-section_length-total-requires invariant-loop decreases-loop
section-length-requires c κs =
    rw c.section_at-t.ensures (section-rows c.requires.0 c.requires.1 c.loop-k.k c.loop-k-test.true)

add-total-2 : tie.Need-overflow_add-total-in-loop-k invariant-loop decreases-loop
add-total-2 c =
    omega (arith, c.loop-k.invariant.1, counted c, text-small c.requires.0 c.requires.1)

add-k : tie.Need-overflow_add-k invariant-loop decreases-loop
add-k c = omega (arith, c.loop-k-test.true)

loop-less : tie.Need-loop-k-smaller invariant-loop decreases-loop
loop-less c = omega (arith, c.loop-k-test.true)

loop-again : tie.Need-loop-k-preserved invariant-loop decreases-loop
loop-again c = (omega (arith, c.loop-k-test.true), omega (arith, c.loop-k.invariant.1, counted c))

returns : tie.Need-returns invariant-loop decreases-loop
returns c =
    let a = c.args in
    let e : c.loop-k.k ≡ 6 = omega (arith, c.loop-k.invariant.0, c.loop-k-test.false) in
    omega (arith, c.loop-k.invariant.1, ap (λ (k : ℕ). length (sections_text a.m.now (drop k (table a.layout)))) e)

pub text_length_spec : {M : Type 1} → statement M
text_length_spec =
    tie.close
    (tie.spec invariant-loop decreases-loop row-length-requires add_total loop-holds section-at-requires section-length-requires add-total-2 add-k loop-less loop-again returns)
