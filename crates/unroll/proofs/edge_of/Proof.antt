-- `unroll::edge_of` meets its contract. Assumes nothing.
use mathlib.Core.Path.{sym, ap, ◌∙◌}
use native.Mathlib.Omega.{arith}
use Rattle.literals.specs.declared.Var.{Var}
use Rattle.unroll.proofs.Edges.{literal-taken, literal-left}
use borrow.Author.Rules.{rules}
use Rattle.unroll.proofs.edge_of.Statement.{statement}
use Rattle.unroll.proofs.edge_of.Tie as tie

shared-slice-read-from-word : tie.Need-bounds-map-at
shared-slice-read-from-word c = omega (arith, ap (λ (v : Var). v.0) c.var-v.ensures, c.requires)

returns : tie.Need-returns-then-is_complement
returns c =
    literal-taken c.args.map.now c.args.l c.var-v.ensures (sym c.is_complement.ensures ∙ c.if-is_complement.true) c.from_word-e.ensures
    c.complement.ensures (omega (arith, c.shared_slice_known-2-1.given c.var-v.result.0))

returns-2 : tie.Need-returns
returns-2 c =
    literal-left c.args.map.now c.args.l c.var-v.ensures (sym c.is_complement.ensures ∙ c.if-is_complement.false) c.from_word-e.ensures
    (omega (arith, c.shared_slice_known-2-1.given c.var-v.result.0))

pub edge_of_spec : {M : Type 1} → statement M
edge_of_spec =
    tie.close
    (tie.spec (λ c κs. search rules) (λ c. search rules) (λ c. search rules) shared-slice-read-from-word (λ c κs. search rules) (λ c κs. search rules) (λ c κs. search rules) returns returns-2)
