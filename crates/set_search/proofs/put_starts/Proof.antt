-- `set_search::put_starts` meets its contract. Assumes nothing.
use native.Mathlib.Omega.{arith}
use borrow.Author.Rules.{rules}
use Rattle.set_search.proofs.put_starts.Statement.{statement}
use Rattle.set_search.proofs.put_starts.Tie as tie

list-frees-requires : tie.Need-list_frees-n-requires
list-frees-requires c κs = (c.requires.0, (omega (arith, c.requires.1.0), omega (arith, c.requires.1.1)))

put-base-requires : tie.Need-put_base-requires
put-base-requires c κs = (c.requires.0, c.requires.1.2)

returns : tie.Need-returns
returns c =
    record { free = c.list_frees-n.ensures.0; most = c.list_frees-n.ensures.2; start = c.put_base.ensures }

pub put_starts_spec : {M : Type 1} → statement M
put_starts_spec =
    tie.close
    (tie.spec list-frees-requires put-base-requires (λ c. search rules) (λ c. search rules) returns)
