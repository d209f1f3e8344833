-- `graph::start` meets its contract: the buckets of pairs are empty, and with twelve free bits or fewer the leaves have their signatures.
-- Assumes nothing.
use mathlib.Core.Path.{refl, ◌∙◌}
use native.Mathlib.Omega.{arith}
use borrow.Author.Rules.{rules}
use lib.ListN.{length}
use Rattle.graph.specs.Stored.{empty_graph}
use Rattle.graph.proofs.Empty.{start-stored, start-signed}
use Rattle.graph.proofs.start.Statement.{statement}
use Rattle.graph.proofs.start.Tie as tie

returns : tie.Need-returns-then-free-gt12
returns c = (
  refl,
  start-stored c.start_pairs.new.work c.args.free c.args.room (length c.args.work.now) c.start_pairs.auto.work c.requires c.start_pairs.ensures.store
      (λ l. absurd (omega (arith, c.if-free-gt12.true))),
)

returns-2 : tie.Need-returns
returns-2 c = (
  refl,
  start-stored c.start_signatures.new.work c.args.free c.args.room (length c.args.work.now) (c.start_signatures.auto.work ∙ c.start_pairs.auto.work) c.requires
      (start-signed c.start_pairs.new.work c.start_signatures.new.work (empty_graph c.args.free c.args.room) c.start_pairs.ensures.store c.start_signatures.ensures) (λ l. c.start_signatures.ensures.store),
)

pub start_spec : {M : Type 1} → statement M
start_spec =
    tie.close
    (tie.spec (λ c. search rules) (λ c κs. search rules) (λ c. search rules) returns (λ c κs. search rules) (λ c. search rules) returns-2)
