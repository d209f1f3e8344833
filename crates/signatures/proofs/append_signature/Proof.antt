-- `signatures::append_signature` meets its contract. Assumes nothing.
use native.Mathlib.Omega.{arith}
use Rattle.signatures.proofs.Stores.{signed-last}
use borrow.Author.Rules.{rules}
use Rattle.signatures.proofs.append_signature.Statement.{statement}
use Rattle.signatures.proofs.append_signature.Tie as tie

returns : tie.Need-returns
returns c =
    signed-last c.args.work.now c.link.new.work c.args.g c.args.s (omega arith) c.requires.1 c.link.ensures

pub append_signature_spec : {M : Type 1} → statement M
append_signature_spec = tie.close (tie.spec (λ c. search rules) (λ c κs. search rules) (λ c. search rules) returns)
