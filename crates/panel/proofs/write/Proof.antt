-- `panel::write` meets its contract. Assumes nothing.
use mathlib.Core.Path.{refl}
use native.Mathlib.Omega.{arith}
use Rattle.aiger.specs.Load.{refused, gives}
use Rattle.replies.proofs.Putting.{fronts-none}
use Rattle.panel.proofs.Answers.{write-inside}
use borrow.Author.Rules.{rules}
use Rattle.panel.proofs.write.Statement.{statement}
use Rattle.panel.proofs.write.Tie as tie

returns : tie.Need-returns-in-Length
returns c =
    let e = rw c.in-Length.is at c.write.ensures in
    record {
      answer = gives _;
      permitted = e;
      line-is = fronts-none _;
      out-is = refl;
      inside = write-inside c.args.m.now c.args.out.now c.args.user c.args.form e;
    }

returns-2 : tie.Need-returns-in-Refused
returns-2 c =
    record {
      answer = refused _;
      permitted = rw c.in-Refused.is at c.write.ensures;
      line-is = c.refuse.ensures.0;
      out-is = c.refuse.ensures.1;
      inside = omega (arith, c.refuse.ensures.1);
    }

pub write_spec : {M : Type 1} → statement M
write_spec =
    tie.close
    (tie.spec (λ c κs. search rules) (λ c. search rules) (λ c. search rules) (λ c κs. search rules) (λ c. search rules) returns (λ c. search rules) (λ c. search rules) returns-2)
