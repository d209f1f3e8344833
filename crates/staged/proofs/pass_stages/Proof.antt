-- `staged::pass_stages` meets its contract. The loop's invariant: the list goes on with round r at the first frame that is not decided.
-- Assumes nothing.
use mathlib.Core.Path.{◌≡◌, refl, ◌∙◌}
use Prim.Native.Nat.{ℕ, ◌-◌, ◌≤◌}
use native.Mathlib.Omega.{arith}
use borrow.Author.Rules.{rules}
use lib.ListN.{length}
use Rattle.layout.specs.Words.{circuit_in}
use Rattle.staged.proofs.Turns.{Ongoing, begins, turn, goes_on, rounds-end}
use Rattle.staged.proofs.pass_stages.Statement.{statement}
use Rattle.staged.proofs.pass_stages.Tie as tie

abbrev invariant-loop : tie.invariant-loop-r
invariant-loop m layout order q work₀ first₀ r₀ work first r =
    (length work ≡ length work₀) × (r ≤ 8) × Ongoing (circuit_in m) q.b q.k q.d r first

abbrev decreases-loop : tie.decreases-loop-r
decreases-loop m layout order q work₀ first₀ r₀ work first r = 8 - r

loop-holds : tie.Need-loop-r-init invariant-loop decreases-loop
loop-holds c = let s = c.args in (
  refl,
  omega arith,
  begins (circuit_in s.m.now) s.q.b s.q.k s.q.d,
)

pass-round-requires : tie.Need-pass_round-requires invariant-loop decreases-loop
pass-round-requires c κs =
    let p = c.requires in
    let l = c.loop-r.invariant in (
      record {
        ready = p.ready;
        bad = p.bad;
        bound = p.bound;
        some = p.some;
        most = p.most;
        units = p.units;
        words = omega (arith, p.words, l.0);
      },
      (l.2.within, omega (arith, c.loop-r-test.true), l.2.none),
    )

same_length : tie.Need-shape_of-work-in-Hit invariant-loop decreases-loop
same_length c = c.pass_round.auto.work ∙ c.loop-r.invariant.0

returns : tie.Need-returns-in-Hit invariant-loop decreases-loop
returns c =
    let s = c.args in
    turn (circuit_in s.m.now) s.q.b s.q.k s.q.d c.loop-r.invariant.2 c.loop-r-test.true c.pass_round.new.work c.in-Hit.is c.pass_round.ensures

same-length-2 : tie.Need-shape_of-work-in-Nothing invariant-loop decreases-loop
same-length-2 c = c.pass_round.auto.work ∙ c.loop-r.invariant.0

returns-2 : tie.Need-returns-in-Nothing invariant-loop decreases-loop
returns-2 c =
    let s = c.args in
    turn (circuit_in s.m.now) s.q.b s.q.k s.q.d c.loop-r.invariant.2 c.loop-r-test.true c.pass_round.new.work c.in-Nothing.is
    c.pass_round.ensures

same-length-3 : tie.Need-shape_of-work-in-Never invariant-loop decreases-loop
same-length-3 c = c.pass_round.auto.work ∙ c.loop-r.invariant.0

returns-3 : tie.Need-returns-in-Never invariant-loop decreases-loop
returns-3 c =
    let s = c.args in
    turn (circuit_in s.m.now) s.q.b s.q.k s.q.d c.loop-r.invariant.2 c.loop-r-test.true c.pass_round.new.work c.in-Never.is
    c.pass_round.ensures

add_r : tie.Need-overflow_add-r invariant-loop decreases-loop
add_r c = omega (arith, c.loop-r-test.true)

loop-less : tie.Need-loop-r-smaller invariant-loop decreases-loop
loop-less c = omega (arith, c.loop-r-test.true)

loop-again : tie.Need-loop-r-preserved invariant-loop decreases-loop
loop-again c =
    let s = c.args in
    let C = circuit_in s.m.now in (
      c.pass_round.auto.work ∙ c.loop-r.invariant.0,
      omega (arith, c.loop-r-test.true),
      goes_on C s.q.b s.q.k s.q.d c.loop-r.r c.pass_round.new.work
          (turn C s.q.b s.q.k s.q.d c.loop-r.invariant.2 c.loop-r-test.true c.pass_round.new.work c.in-GaveUp.is
          c.pass_round.ensures),
    )

same-length-4 : tie.Need-shape_of-work-in-CutOff invariant-loop decreases-loop
same-length-4 c = c.pass_round.auto.work ∙ c.loop-r.invariant.0

returns-4 : tie.Need-returns-in-CutOff invariant-loop decreases-loop
returns-4 c =
    let s = c.args in
    turn (circuit_in s.m.now) s.q.b s.q.k s.q.d c.loop-r.invariant.2 c.loop-r-test.true c.pass_round.new.work c.in-CutOff.is c.pass_round.ensures

same-length-5 : tie.Need-shape_of-work invariant-loop decreases-loop
same-length-5 c = c.loop-r.invariant.0

returns-5 : tie.Need-returns invariant-loop decreases-loop
returns-5 c =
    let s = c.args in
    rounds-end (circuit_in s.m.now) s.q.b s.q.k s.q.d c.loop-r.invariant.2 c.loop-r-test.false

pub pass_stages_spec : {M : Type 1} → statement M
pass_stages_spec =
    tie.close
    (tie.spec invariant-loop decreases-loop loop-holds pass-round-requires (λ c. search rules) same_length returns (λ c. search rules) same-length-2 returns-2 (λ c. search rules) same-length-3 returns-3 (λ c. search rules) add_r loop-less loop-again (λ c. search rules) same-length-4 returns-4 same-length-5 returns-5)
