-- `decision::scan` meets its contract. Assumes nothing.
use mathlib.Core.Path.{◌≡◌, subst}
use Prim.Native.Nat.{ℕ, max}
use native.Mathlib.Omega.{arith}
use Rattle.nodes.specs.Store.{pairs_of}
use Rattle.nodes.specs.Edges.{edge_word}
use Rattle.simulation.specs.Found.{FoundIs}
use Rattle.simulation.specs.declared.Found.{Found}
use borrow.Author.Rules.{rules}
use Rattle.decision.proofs.scan.Statement.{statement}
use Rattle.decision.proofs.scan.Tie as tie
use Rattle.decision.proofs.scan.Reads as reads
use Rattle.decision.proofs.scan.Lts as lts
use Rattle.decision.proofs.places.Reads as places-reads
use Rattle.simulation.proofs.first_hit.Reads as first-hit-reads

-- what the scan of the graph's places found is the variant that the match found
found : (n : tie.After-first_hit) (r : Found) → n.first_hit.result ≡ r
    → let a = n.args in FoundIs a.g.free (pairs_of a.work.now a.g) (edge_word a.root) (max a.d 16384) n.first_hit.new.work r
found n r e =
    let a = n.args in
    subst (FoundIs a.g.free (pairs_of a.work.now a.g) (edge_word a.root) (max a.d 16384) n.first_hit.new.work) e
    (subst (λ (d : ℕ). FoundIs a.g.free (pairs_of a.work.now a.g) (edge_word a.root) d n.first_hit.new.work n.first_hit.result) n.places.ensures n.first_hit.ensures)

first-hit-requires : tie.Need-first_hit-requires
first-hit-requires c κs = (c.requires.net, (omega (arith, c.places.ensures, c.requires.budget), c.requires.none))

returns : tie.Need-returns-in-Hit
returns c = found c.before.before.before _ c.in-Hit.is

returns-2 : tie.Need-returns-in-Clear
returns-2 c = found c.before.before.before _ c.in-Clear.is

returns-3 : tie.Need-returns-in-Spent
returns-3 c = found c.before.before.before _ c.in-Spent.is

pub scan_spec : {M : Type 1} → statement M
scan_spec =
    tie.close
    (tie.spec (λ c κs. search rules) first-hit-requires (λ c. search rules) (λ c. search rules) (λ c. search rules) (λ c. search rules) returns (λ c. search rules) returns-2 (λ c. search rules) returns-3)
