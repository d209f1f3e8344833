-- `calls::shared_bytes::free_where_accepted` meets its contract. Assumes nothing.
use borrow.Author.Rules.{rules}
use Rattle.calls.proofs.shared_bytes.free_where_accepted.Statement.{statement}
use Rattle.calls.proofs.shared_bytes.free_where_accepted.Tie as tie

returns : tie.Need-returns-in-Loaded
returns c =
    rw c.in-Loaded.is c.free.ensures

returns-2 : tie.Need-returns-in_default
returns-2 c = rw c.in_default.is

pub free_where_accepted_spec : {M : Type 1} → statement M
free_where_accepted_spec =
    tie.close
    (tie.spec (λ c. search rules) (λ c κs. search rules) (λ c. search rules) (λ c. search rules) returns returns-2)
