-- `load::preview` meets its contract. Assumes nothing.
use borrow.Author.Rules.{rules}
use Rattle.load.proofs.Finishing.{previewed}
use Rattle.load.proofs.preview.Statement.{statement}
use Rattle.load.proofs.preview.Tie as tie
use Rattle.load.proofs.preview.Reads as reads
use Rattle.load.proofs.preview.Lts as lts
use Rattle.load.proofs.judge_file.Reads as judge-file-reads

returns : tie.Need-returns
returns c = previewed c.judge_file.ensures

pub preview_spec : {M : Type 1} → statement M
preview_spec =
    tie.close (tie.spec (λ c. search rules) (λ c. search rules) (λ c κs. search rules) returns)
