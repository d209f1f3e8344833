use Rattle.std.proofs.Common.{◌≡◌, ap, ◌∙◌, ℕ, Bool, get_or, arith}
use Rattle.aiger.specs.Bits.{nonzero}
use Rattle.literals.specs.Literal.{literal}
use Rattle.literals.specs.declared.Lit.{Lit}
use Rattle.layout.specs.Words.{circuit_in}
use Rattle.meaning.specs.Frame.{gate_at}
use Rattle.frames.proofs.Facts.{gates-are, gates-few}
use Rattle.influence.specs.Cone.{marked}
use Rattle.diagram_rows.proofs.Read.{gates-fit, gate-read}
use Rattle.row_plans.specs.Plans.{listed}
use Rattle.row_plans.proofs.Steps.{listed-none, listed_more, listed-as, listing-more, listing_none, listing-few}
use Rattle.row_plans.proofs.list_gates.Goals as goal

pub loop-k-init : goal.loop-k-init
loop-k-init c =
    let a = c.args in
    listed-as
    (listing_none (λ j. marked a.marks.now (gate_at (circuit_in a.m.now) (get_or a.order.now j 0)).lit) (λ j. get_or a.order.now j 0))
    (listed-none a.at a.plan.now)

pub triple_at-l-requires : goal.triple_at-l-requires
triple_at-l-requires c = (gates-fit c.requires.prepared, omega arith)

pub list_if-n-requires : goal.list_if-n-requires
list_if-n-requires c =
    let a = c.args in
    omega (
      arith,
      c.loop-k.invariant.end,
      c.loop-k-test.true,
      listing-few (λ j. marked a.marks.now (gate_at (circuit_in a.m.now) (get_or a.order.now j 0)).lit) (λ j. get_or a.order.now j 0) c.loop-k.k,
      gates-few c.requires.prepared.1,
      c.requires.at_bound,
    )

pub loop-k-preserved : goal.loop-k-preserved
loop-k-preserved c =
    let a = c.args in
    let p : ℕ → Bool = λ j. marked a.marks.now (gate_at (circuit_in a.m.now) (get_or a.order.now j 0)).lit in
    let t = c.is_marked.ensures
    ∙ ap (λ (x : Lit). nonzero (get_or a.marks.now x.0.0 0))
    (c.triple_at-l.ensures
    ∙ ap literal (gate-read c.requires.prepared c.get-g.result ∙ ap (λ (g : ℕ). (gate_at (circuit_in a.m.now) g).lit) c.get-g.ensures)) in
    listed-as (listing-more p (λ j. get_or a.order.now j 0) c.loop-k.k c.is_marked.result c.get-g.result t c.get-g.ensures)
    (listed_more c.loop-k.invariant c.list_if-n.ensures)

pub returns : goal.returns
returns c =
    let a = c.args in
    let p : ℕ → Bool = λ j. marked a.marks.now (gate_at (circuit_in a.m.now) (get_or a.order.now j 0)).lit in
    let e : c.loop-k.k ≡ a.layout.a = omega (arith, c.loop-k.auto.k-end, c.loop-k-test.false) in
    listed-as (ap (listed p (λ j. get_or a.order.now j 0)) (e ∙ gates-are c.requires.prepared.1)) c.loop-k.invariant
