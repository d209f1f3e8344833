use Rattle.std.proofs.Common.{◌≡◌, ap, ◌∙◌, ℕ, Bool, get_or, arith}
use Rattle.aiger.specs.Bits.{nonzero}
use Rattle.literals.specs.Literal.{literal}
use Rattle.literals.specs.declared.Lit.{Lit}
use Rattle.layout.specs.Words.{circuit_in}
use Rattle.meaning.specs.Frame.{input_at}
use Rattle.frames.proofs.Places.{inputs_are, inputs-few}
use Rattle.influence.specs.Cone.{marked, kept_below}
use Rattle.diagram_rows.proofs.Read.{inputs-fit, input-read}
use Rattle.row_plans.proofs.Steps.{listed-none, listed_more, listed-as, kept_more, kept-none, kept-few}
use Rattle.row_plans.proofs.list_inputs.Goals as goal

pub loop-i-init : goal.loop-i-init
loop-i-init c =
    let a = c.args in
    listed-as (kept-none (λ j. marked a.marks.now (input_at (circuit_in a.m.now) j))) (listed-none a.at a.plan.now)

pub single_at-l-requires : goal.single_at-l-requires
single_at-l-requires c = inputs-fit c.requires.prepared

pub overflow_cast-i : goal.overflow_cast-i
overflow_cast-i c = omega (arith, c.loop-i-test.true, inputs-few c.requires.prepared.1.held c.requires.prepared.1.layout_of)

pub list_if-n-requires : goal.list_if-n-requires
list_if-n-requires c =
    let a = c.args in
    omega (
      arith,
      c.loop-i.invariant.end,
      c.loop-i-test.true,
      kept-few (λ j. marked a.marks.now (input_at (circuit_in a.m.now) j)) c.loop-i.i,
      inputs-few c.requires.prepared.1.held c.requires.prepared.1.layout_of,
      c.requires.at_bound,
    )

pub loop-i-preserved : goal.loop-i-preserved
loop-i-preserved c =
    let a = c.args in
    let p : ℕ → Bool = λ j. marked a.marks.now (input_at (circuit_in a.m.now) j) in
    let t = c.is_marked.ensures
    ∙ ap (λ (x : Lit). nonzero (get_or a.marks.now x.0.0 0)) (c.single_at-l.ensures ∙ ap literal (input-read c.requires.prepared c.loop-i.i)) in
    listed-as (kept_more p c.loop-i.i c.is_marked.result t) (listed_more c.loop-i.invariant c.list_if-n.ensures)

pub returns : goal.returns
returns c =
    let a = c.args in
    let p : ℕ → Bool = λ j. marked a.marks.now (input_at (circuit_in a.m.now) j) in
    let e : c.loop-i.i ≡ a.layout.i = omega (arith, c.loop-i.auto.i-end, c.loop-i-test.false) in
    listed-as (ap (kept_below p) (e ∙ inputs_are c.requires.prepared.1.held c.requires.prepared.1.layout_of)) c.loop-i.invariant
