-- `records::arrange` meets its contract. Assumes nothing.
use mathlib.Core.Path.{refl}
use Rattle.records.proofs.Turns.{arranged_is}
use borrow.Author.Rules.{rules}
use Rattle.records.proofs.arrange.Statement.{statement}
use Rattle.records.proofs.arrange.Tie as tie
use Rattle.records.proofs.arrange.Reads as reads
use Rattle.records.proofs.arrange.Lts as lts
use Rattle.memory.proofs.place.Reads as place-reads
use Rattle.records.proofs.clear.Reads as clear_reads
use Rattle.records.proofs.link_gates.Reads as link-gates-reads
use Rattle.records.proofs.move_nodes.Reads as move-nodes-reads
use Rattle.records.proofs.move_to.Reads as move-to-reads
use Rattle.records.proofs.set_gates.Reads as set-gates-reads

returns : tie.Need-returns
returns c =
    let s = c.args in
    arranged_is s.work.now c.set_gates.new.work c.move_to.new.work c.move_nodes.new.work c.clear.new.work c.link_gates.new.work s.first s.n s.nodes c.place-used.result _ c.set_gates.ensures c.move_to.ensures c.move_nodes.ensures c.place-used.ensures refl c.clear.ensures c.link_gates.ensures

pub arrange_spec : {M : Type 1} → statement M
arrange_spec =
    tie.close
    (tie.spec (λ c κs. search rules) (λ c κs. search rules) (λ c κs. search rules) (λ c κs. search rules) (λ c. search rules) (λ c κs. search rules) (λ c κs. search rules) (λ c. search rules) returns)
