-- `search::show_found` meets its contract: the text by `write_witness`, and its length by `witness_length`. Assumes nothing.
use mathlib.Core.Path.{ap, ◌∙◌}
use Prim.Native.Nat.{ℕ}
use native.Mathlib.Omega.{arith}
use borrow.Author.Rules.{rules}
use Rattle.aiger.specs.Load.{gives}
use Rattle.limits.proofs.Sizes.{counts_of, limited, length-is}
use Rattle.search.specs.Chosen.{found_report}
use Rattle.search.proofs.Within.{length-word}
use Rattle.search.proofs.show_found.Statement.{statement}
use Rattle.search.proofs.show_found.Tie as tie

write-witness-requires : tie.Need-write_witness-requires
write-witness-requires c κs = c.requires

witness-length-requires : tie.Need-witness_length-length-requires
witness-length-requires c κs =
    let p = c.requires in
    (limited p.holds p.layout, p.frame)

cast-t11 : tie.Need-overflow_cast-result
cast-t11 c = omega (arith, c.requires.frame)

cast-t12 : tie.Need-overflow_cast-result-2
cast-t12 c =
    let s = c.args in
    let p = c.requires in
    omega (
      arith,
      length-word s.layout s.b s.t (limited p.holds p.layout) (omega (arith, p.bad, (counts_of p.holds p.layout).bads)) p.frame,
      c.witness_length-length.ensures,
    )

same_length : tie.Need-shape_of-out
same_length c = c.write_witness.auto.out

returns : tie.Need-returns
returns c =
    let s = c.args in
    let p = c.requires in
    record {
      says =
          ap (λ (n : ℕ). gives (found_report s.t n))
          (c.witness_length-length.ensures ∙ length-is (counts_of p.holds p.layout) s.b s.t);
      shows = c.write_witness.ensures;
    }

pub show_found_spec : {M : Type 1} → statement M
show_found_spec =
    tie.close
    (tie.spec write-witness-requires witness-length-requires cast-t11 cast-t12 same_length returns)
