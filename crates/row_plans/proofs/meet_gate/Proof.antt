-- `row_plans::meet_gate` meets its contract. Assumes nothing.
use mathlib.Core.Path.{ap, ◌∙◌}
use Prim.Native.Nat.{◌-◌}
use native.Mathlib.Omega.{arith}
use borrow.Author.Rules.{rules}
use borrow.Author.Tests.{not-true, not-false}
use lib.ListN.{get_or}
use Rattle.aiger.specs.Bits.{nonzero}
use Rattle.literals.specs.Literal.{literal}
use Rattle.literals.specs.declared.Lit.{Lit}
use Rattle.layout.specs.Words.{circuit_in}
use Rattle.meaning.specs.Frame.{gate_at}
use Rattle.diagram_rows.proofs.Read.{gates-fit, gate-read, left-read, right-read}
use Rattle.row_plans.specs.Plans.{meeting_of}
use Rattle.row_plans.proofs.Steps.{gate-not, gate-met}
use Rattle.row_plans.proofs.meet_gate.Statement.{statement}
use Rattle.row_plans.proofs.meet_gate.Tie as tie

triple-at-requires : tie.Need-triple_at-l-requires
triple-at-requires c κs = (gates-fit c.requires, omega arith)

triple-at-requires-2 : tie.Need-triple_at-x-requires
triple-at-requires-2 c κs = (gates-fit c.requires, omega arith)

triple-at-requires-3 : tie.Need-triple_at-y-requires
triple-at-requires-3 c κs = (gates-fit c.requires, omega arith)

returns : tie.Need-returns-then-not-is_marked
returns c =
    let a = c.args in
    gate-not (gate_at (circuit_in a.m.now) a.g) (meeting_of a.marks.now a.list.now a.n) c.is_marked.result
    (c.is_marked.ensures ∙ ap (λ (l : Lit). nonzero (get_or a.marks.now l.0.0 0)) (c.triple_at-l.ensures ∙ ap literal (gate-read c.requires a.g)))
    c.if-not-is_marked.true

same-length-2 : tie.Need-shape_of-marks
same-length-2 c = c.meet.auto.marks ∙ c.meet-some.auto.marks

same-length-3 : tie.Need-shape_of-list
same-length-3 c = c.meet.auto.list ∙ c.meet-some.auto.list

returns-2 : tie.Need-returns
returns-2 c =
    let a = c.args in
    let x = ap (λ (l : Lit). l.0.0) (c.triple_at-x.ensures ∙ ap literal (left-read c.requires a.g)) in
    let y = ap (λ (l : Lit). l.0.0) (c.triple_at-y.ensures ∙ ap literal (right-read c.requires a.g)) in
    gate-met (gate_at (circuit_in a.m.now) a.g) (meeting_of a.marks.now a.list.now a.n) (meeting_of c.meet-some.new.marks c.meet-some.new.list c.meet-some.result)
    (meeting_of c.meet.new.marks c.meet.new.list c.meet.result) c.is_marked.result c.triple_at-x.result.0.0 c.triple_at-y.result.0.0
    (c.is_marked.ensures ∙ ap (λ (l : Lit). nonzero (get_or a.marks.now l.0.0 0)) (c.triple_at-l.ensures ∙ ap literal (gate-read c.requires a.g)))
    c.if-not-is_marked.false x y c.meet-some.ensures c.meet.ensures

pub meet_gate_spec : {M : Type 1} → statement M
meet_gate_spec =
    tie.close
    (tie.spec triple-at-requires triple-at-requires-2 triple-at-requires-3 (λ c κs. search rules) (λ c. search rules) returns (λ c κs. search rules) (λ c κs. search rules) same-length-2 same-length-3 returns-2)
