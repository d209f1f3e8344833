-- `panel::pin` meets its contract. Assumes nothing.
use mathlib.Core.Path.{refl}
use native.Mathlib.Omega.{arith}
use Rattle.aiger.specs.Load.{refused, gives}
use Rattle.replies.proofs.Putting.{placed-fronts}
use borrow.Author.Rules.{rules}
use Rattle.panel.proofs.pin.Statement.{statement}
use Rattle.panel.proofs.pin.Tie as tie

returns : tie.Need-returns-in-Refused
returns c =
    record {
      answer = refused _;
      permitted = rw c.in-Refused.is at c.set_pin.ensures;
      line-is = c.refuse.ensures.0;
      out-is = c.refuse.ensures.1;
      inside = omega (arith, c.refuse.ensures.1);
    }

returns-2 : tie.Need-returns-in-Set
returns-2 c =
    record {
      answer = gives tt;
      permitted = rw c.in-Set.is at c.set_pin.ensures;
      line-is = placed-fronts c.put-length.ensures;
      out-is = refl;
      inside = omega arith;
    }

pub pin_spec : {M : Type 1} → statement M
pin_spec =
    tie.close
    (tie.spec (λ c κs. search rules) (λ c. search rules) (λ c κs. search rules) (λ c. search rules) (λ c κs. search rules) (λ c. search rules) (λ c. search rules) returns (λ c. search rules) (λ c. search rules) returns-2)
