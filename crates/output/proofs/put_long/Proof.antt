-- `output::put_long` meets its contract: the part for the digits is filled with them. Assumes nothing.
use mathlib.Core.Path.{ap}
use Prim.Native.Nat.{ℕ, ◌+◌}
use native.Mathlib.Omega.{arith}
use Rattle.output.proofs.Output.{filled}
use borrow.Author.Rules.{rules}
use Rattle.output.proofs.put_long.Statement.{statement}
use Rattle.output.proofs.put_long.Tie as tie

returns : tie.Need-returns
returns c =
    let d = c.long_digit_count in
    let a = c.args in
    record {
      past = ap (λ (k : ℕ). a.at + k) d.ensures;
      contents =
          filled a.out.now c.fill.new.out a.at a.n d.result (omega arith) d.ensures (omega arith) c.fill.ensures;
    }

pub put_long_spec : {M : Type 1} → statement M
put_long_spec =
    tie.close
    (tie.spec (λ c κs. search rules) (λ c. search rules) (λ c. search rules) (λ c. search rules) (λ c. search rules) (λ c κs. search rules) (λ c. search rules) returns)
