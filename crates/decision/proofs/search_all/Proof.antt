-- `decision::search_all` meets its contract. Assumes nothing.
use Rattle.decision.proofs.Resuming.{scannable-all}
use Rattle.decision.proofs.Graphs.{scanned-all}
use borrow.Author.Rules.{rules}
use Rattle.decision.proofs.search_all.Statement.{statement}
use Rattle.decision.proofs.search_all.Tie as tie
use Rattle.decision.proofs.search_all.Reads as reads
use Rattle.decision.proofs.search_all.Lts as lts
use Rattle.decision.proofs.prepare_aim.Reads as prepare-aim-reads
use Rattle.decision.proofs.scan.Reads as scan-reads

scan-requires : tie.Need-scan-requires
scan-requires c κs =
    scannable-all c.prepare_aim-made.ensures.net c.args.d c.requires.0.budget

returns : tie.Need-returns
returns c =
    scanned-all c.prepare_aim-made.ensures c.args.d c.scan.new.work c.scan.result c.requires.1.0 c.requires.1.1 c.scan.ensures

pub search_all_spec : {M : Type 1} → statement M
search_all_spec = tie.close (tie.spec (λ c κs. search rules) scan-requires (λ c. search rules) returns)
