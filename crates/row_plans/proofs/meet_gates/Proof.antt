-- `row_plans::meet_gates` meets its contract. The loop's invariant: what is left of the gates gives what all of them give. Assumes nothing.
use mathlib.Core.Path.{◌≡◌, refl, ap, ◌∙◌}
use Prim.Native.Nat.{ℕ, ◌-◌}
use native.Mathlib.Omega.{arith}
use borrow.Author.Rules.{rules}
use lib.ListN.{length, get_or}
use Rattle.aiger.specs.Circuit.{Gate}
use Rattle.layout.specs.Words.{circuit_in}
use Rattle.meaning.specs.Frame.{gate_at}
use Rattle.frames.proofs.Facts.{gates-are}
use Rattle.row_plans.specs.Plans.{meeting_of, met_gate, met_gates}
use Rattle.row_plans.proofs.Steps.{gates-more, gates-none}
use Rattle.row_plans.proofs.meet_gates.Statement.{statement}
use Rattle.row_plans.proofs.meet_gates.Tie as tie

abbrev invariant-loop : tie.invariant-loop-k
invariant-loop m layout order marks₀ list₀ n₀ k₀ marks list n k =
    (length marks ≡ length marks₀) × (length list ≡ length list₀)
    × (met_gates (λ j. gate_at (circuit_in m) (get_or order j 0)) k (meeting_of marks list n)
    ≡ met_gates (λ j. gate_at (circuit_in m) (get_or order j 0)) k₀ (meeting_of marks₀ list₀ 0))

abbrev decreases-loop : tie.decreases-loop-k
decreases-loop m layout order marks₀ list₀ n₀ k₀ marks list n k = k

loop-holds : tie.Need-loop-k-init invariant-loop decreases-loop
loop-holds c = (refl, refl, refl)

meet-gate-requires : tie.Need-meet_gate-n-requires invariant-loop decreases-loop
meet-gate-requires c κs = c.requires

loop-again : tie.Need-loop-k-preserved invariant-loop decreases-loop
loop-again c =
    let a = c.args in
    let f : ℕ → Gate = λ j. gate_at (circuit_in a.m.now) (get_or a.order.now j 0) in (
      c.meet_gate-n.auto.marks ∙ c.loop-k.invariant.0,
      c.meet_gate-n.auto.list ∙ c.loop-k.invariant.1,
      gates-more f c.loop-k.k (meeting_of c.loop-k.marks c.loop-k.list c.loop-k.n) (meeting_of c.meet_gate-n.new.marks c.meet_gate-n.new.list c.meet_gate-n.result) (omega (arith, c.loop-k-test.true))
          (c.meet_gate-n.ensures ∙ ap (λ (g : ℕ). met_gate (gate_at (circuit_in a.m.now) g) (meeting_of c.loop-k.marks c.loop-k.list c.loop-k.n)) c.get-g.ensures)
          ∙ c.loop-k.invariant.2,
    )

same_length : tie.Need-shape_of-marks invariant-loop decreases-loop
same_length c = c.loop-k.invariant.0

same-length-2 : tie.Need-shape_of-list invariant-loop decreases-loop
same-length-2 c = c.loop-k.invariant.1

returns : tie.Need-returns invariant-loop decreases-loop
returns c =
    let a = c.args in
    let f : ℕ → Gate = λ j. gate_at (circuit_in a.m.now) (get_or a.order.now j 0) in
    gates-none f c.loop-k.k (meeting_of c.loop-k.marks c.loop-k.list c.loop-k.n) (omega arith) ∙ c.loop-k.invariant.2
    ∙ ap (λ (n : ℕ). met_gates f n (meeting_of a.marks.now a.list.now 0)) (gates-are c.requires.1)

pub meet_gates_spec : {M : Type 1} → statement M
meet_gates_spec =
    tie.close
    (tie.spec invariant-loop decreases-loop loop-holds (λ c. search rules) (λ c κs. search rules) (λ c. search rules) meet-gate-requires (λ c. search rules) loop-again same_length same-length-2 returns)
