-- `load::load_by` meets its contract: what is judged right is stored. Assumes nothing.
use borrow.Author.Rules.{rules}
use Rattle.aiger.specs.Operations.{Loaded}
use Rattle.load.proofs.Finishing.{judged-counted, judged-room, judged-stored}
use Rattle.load.proofs.load_by.Statement.{statement}
use Rattle.load.proofs.load_by.Tie as tie
use Rattle.load.proofs.load_by.Reads as reads
use Rattle.load.proofs.load_by.Lts as lts
use Rattle.load.proofs.judge_file.Reads as judge-file-reads
use Rattle.load.proofs.store.Reads as store-reads

store-requires : tie.Need-store-requires
store-requires c κs =
    let z = rw c.in-Loaded.is at c.judge_file-judgement.ensures.answer in
    (judged-counted c.args.m.now c.args.file.now _ _ z, judged-room c.args.m.now c.args.file.now _ _ z)

returns : tie.Need-returns-in-Refused
returns c = Loaded.refuses (rw c.in-Refused.is at c.judge_file-judgement.ensures.answer)

returns-2 : tie.Need-returns-in-Loaded
returns-2 c =
    let z = rw c.in-Loaded.is at c.judge_file-judgement.ensures.answer in
    judged-stored c.args.m.now c.args.file.now _ _ z _ c.store.ensures

pub load_by_spec : {M : Type 1} → statement M
load_by_spec =
    tie.close
    (tie.spec (λ c κs. search rules) (λ c. search rules) (λ c. search rules) store-requires (λ c. search rules) (λ c. search rules) returns (λ c. search rules) (λ c. search rules) (λ c. search rules) returns-2)
