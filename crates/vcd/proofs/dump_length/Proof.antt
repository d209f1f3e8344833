-- `vcd::dump_length` meets its contract. Assumes nothing.
use Prim.Native.Nat.{ℕ}
use native.Mathlib.Omega.{arith}
use Rattle.vcd.specs.Text.{Level}
use Rattle.vcd.specs.Wires.{name_in}
use Rattle.vcd.proofs.Parts.{declarations-most, samples-most, dump-length}
use borrow.Author.Rules.{rules}
use Rattle.vcd.proofs.dump_length.Statement.{statement}
use Rattle.vcd.proofs.dump_length.Tie as tie
use Rattle.vcd.proofs.dump_length.Reads as reads
use Rattle.vcd.proofs.dump_length.Lts as lts
use Rattle.vcd.proofs.declarations_length.Reads as declarations-length-reads
use Rattle.vcd.proofs.samples_length.Reads as samples-length-reads

add-result : tie.Need-overflow_add-result
add-result c =
    omega (arith, c.declarations_length.ensures, declarations-most (name_in c.args.layout) 0 c.args.n, c.requires.0.there, c.requires.0.few)

add-result-2 : tie.Need-overflow_add-result-2
add-result-2 c =
    let n = c.args.n in
    let h = c.requires.0 in
    let flat : ℕ → ℕ → Level = λ t k. Level.low in
    omega (
      arith,
      c.declarations_length.ensures,
      declarations-most (name_in c.args.layout) 0 n,
      c.samples_length.ensures flat,
      samples-most flat n (omega (arith, h.there, h.few)) 0 c.args.frames,
      h.there,
      h.few,
      c.requires.1,
    )

returns : tie.Need-returns
returns c =
    λ level.
    omega (
      arith,
      c.declarations_length.ensures,
      c.samples_length.ensures level,
      dump-length (name_in c.args.layout) c.args.n level c.args.frames,
    )

pub dump_length_spec : {M : Type 1} → statement M
dump_length_spec = tie.close (tie.spec (λ c κs. search rules) add-result (λ c κs. search rules) add-result-2 returns)
