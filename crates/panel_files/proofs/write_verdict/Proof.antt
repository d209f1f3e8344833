-- `panel_files::write_verdict` meets its contract. Assumes nothing.
use Rattle.replies.proofs.Putting.{placed-fronts}
use borrow.Author.Rules.{rules}
use Rattle.panel_files.proofs.write_verdict.Statement.{statement}
use Rattle.panel_files.proofs.write_verdict.Tie as tie

returns : tie.Need-returns-in-All
returns c =
    rw c.in-All.is (placed-fronts c.put.ensures)

returns-2 : tie.Need-returns-in-No
returns-2 c =
    rw c.in-No.is (placed-fronts c.put-in-No.ensures)

returns-3 : tie.Need-returns-in-Mixed
returns-3 c =
    rw c.in-Mixed.is (placed-fronts c.put-in-Mixed.ensures)

returns-4 : tie.Need-returns-in-Refused
returns-4 c =
    rw c.in-Refused.is c.write_refusal.ensures

pub write_verdict_spec : {M : Type 1} → statement M
write_verdict_spec =
    tie.close
    (tie.spec (λ c. search rules) (λ c κs. search rules) (λ c. search rules) (λ c κs. search rules) (λ c. search rules) (λ c κs. search rules) (λ c. search rules) (λ c κs. search rules) (λ c. search rules) returns (λ c. search rules) returns-2 (λ c. search rules) returns-3 (λ c. search rules) returns-4)
