-- `waveform::wire_count` meets its contract. Assumes nothing.
use borrow.Author.Rules.{rules}
use Rattle.waveform.proofs.wire_count.Statement.{statement}
use Rattle.waveform.proofs.wire_count.Tie as tie
use Rattle.waveform.proofs.wire_count.Reads as reads
use Rattle.waveform.proofs.wire_count.Lts as lts

returns-2 : tie.Need-returns
returns-2 c =
    rw c.if-only.false

pub wire_count_spec : {M : Type 1} → statement M
wire_count_spec =
    tie.close (tie.spec (λ c. search rules) (λ c. search rules) (λ c. search rules) (λ c. search rules) (λ c. search rules) returns-2)
