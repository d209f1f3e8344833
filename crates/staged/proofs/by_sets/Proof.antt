-- `staged::by_sets` meets its contract. The loop's invariant: from the first frame that is not decided on, the sets show what they show from
-- the start on. Assumes nothing.
use Rattle.std.proofs.lemmas.Bool.{not_from_true}
use Rattle.std.proofs.lemmas.Bool.{not_from_false}
use mathlib.Core.Path.{◌≡◌, refl, sym, ◌∙◌}
use Prim.Native.Nat.{ℕ, ◌-◌, ◌≤◌}
use native.Mathlib.Omega.{arith}
use borrow.Author.Rules.{rules}
use lib.ListN.{length}
use Rattle.aiger.specs.Frames.{size}
use Rattle.layout.specs.Words.{circuit_in}
use Rattle.limits.proofs.Sizes.{limited, counts_of, size_is}
use Rattle.state_sets.proofs.Follow.{refused, granted}
use Rattle.set_search.proofs.Trial.{size-grows}
use Rattle.staged.proofs.Turns.{far-is, Turn, turn-first, turn_last, turn-hit, turn-nothing, turn-never, turn-cut-off, turn-within, turn-stop, turn_more}
use Rattle.staged.proofs.by_sets.Statement.{statement}
use Rattle.staged.proofs.by_sets.Tie as tie

abbrev invariant-loop : tie.invariant-loop-left
invariant-loop m layout order start q share work₀ first₀ left₀ work first left =
    (length work ≡ length work₀) × Turn (circuit_in m) q.b q.k share start first left

abbrev decreases-loop : tie.decreases-loop-left
decreases-loop m layout order start q share work₀ first₀ left₀ work first left = left

loop-holds : tie.Need-loop-left-init invariant-loop decreases-loop
loop-holds c =
    let a = c.args in
    (refl, turn-first (circuit_in a.m.now) a.q.b a.q.k a.share a.start a.q.d c.requires.0.bound c.requires.1.0 c.requires.1.1)

try-sets-requires : tie.Need-try_sets-requires invariant-loop decreases-loop
try-sets-requires c κs =
    let p = c.requires.0 in
    let l = c.loop-left.invariant in (
      record {
        ready = p.ready;
        bad = p.bad;
        bound = p.bound;
        some = p.some;
        most = p.most;
        units = p.units;
        words = omega (arith, p.words, l.0);
      },
      (l.1.within, l.1.none),
    )

same_length : tie.Need-shape_of-work-in-Hit invariant-loop decreases-loop
same_length c = c.try_sets.auto.work ∙ c.loop-left.invariant.0

returns : tie.Need-returns-in-Hit invariant-loop decreases-loop
returns c =
    let a = c.args in
    let C = circuit_in a.m.now in
    turn-hit C a.q.b a.q.k a.share a.start a.q.d c.requires.0.bound c.loop-left.invariant.1 c.loop-left-test.true c.try_sets.new.work c.try_sets.ensures c.in-Hit.is

same-length-2 : tie.Need-shape_of-work-in-Nothing invariant-loop decreases-loop
same-length-2 c = c.try_sets.auto.work ∙ c.loop-left.invariant.0

returns-2 : tie.Need-returns-in-Nothing invariant-loop decreases-loop
returns-2 c =
    let a = c.args in
    let C = circuit_in a.m.now in
    turn-nothing C a.q.b a.q.k a.share a.start a.q.d c.requires.0.bound c.loop-left.invariant.1 c.loop-left-test.true c.try_sets.new.work c.try_sets.ensures c.in-Nothing.is

same-length-3 : tie.Need-shape_of-work-in-Never invariant-loop decreases-loop
same-length-3 c = c.try_sets.auto.work ∙ c.loop-left.invariant.0

returns-3 : tie.Need-returns-in-Never invariant-loop decreases-loop
returns-3 c =
    let a = c.args in
    let C = circuit_in a.m.now in
    turn-never C a.q.b a.q.k a.share a.start a.q.d c.requires.0.bound c.loop-left.invariant.1 c.loop-left-test.true c.try_sets.new.work c.try_sets.ensures c.in-Never.is

same-length-4 : tie.Need-shape_of-work-in-CutOff invariant-loop decreases-loop
same-length-4 c = c.try_sets.auto.work ∙ c.loop-left.invariant.0

returns-4 : tie.Need-returns-in-CutOff invariant-loop decreases-loop
returns-4 c =
    let a = c.args in
    let C = circuit_in a.m.now in
    turn-cut-off C a.q.b a.q.k a.share a.start a.q.d c.requires.0.bound c.loop-left.invariant.1 c.loop-left-test.true c.try_sets.new.work c.try_sets.ensures c.in-CutOff.is

size-requires : tie.Need-size-requires invariant-loop decreases-loop
size-requires c κs =
    (limited c.requires.0.ready.held c.requires.0.ready.layout_of, omega (arith, c.requires.0.bound, c.loop-left.invariant.1.within))

size-requires-2 : tie.Need-size-requires-in-GaveUp invariant-loop decreases-loop
size-requires-2 c κs =
    let a = c.args in
    let C = circuit_in a.m.now in
    let e = counts_of c.requires.0.ready.held c.requires.0.ready.layout_of in
    let t = c.in-GaveUp.t in
    let within : t ≤ a.q.k = turn-within C a.q.b a.q.k a.share a.start a.q.d c.requires.0.bound c.loop-left.invariant.1 c.loop-left-test.true c.try_sets.new.work c.try_sets.ensures c.in-GaveUp.is in
    (limited c.requires.0.ready.held c.requires.0.ready.layout_of, omega (arith, c.requires.0.bound, within))

is-far-requires : tie.Need-is_far-requires invariant-loop decreases-loop
is-far-requires c κs =
    let a = c.args in
    let C = circuit_in a.m.now in
    let e = counts_of c.requires.0.ready.held c.requires.0.ready.layout_of in
    let t = c.in-GaveUp.t in
    let within : t ≤ a.q.k = turn-within C a.q.b a.q.k a.share a.start a.q.d c.requires.0.bound c.loop-left.invariant.1 c.loop-left-test.true c.try_sets.new.work c.try_sets.ensures c.in-GaveUp.is in
    let begun : c.size.result ≡ size C c.loop-left.first = c.size.ensures ∙ size_is e c.loop-left.first in
    let reached : c.size-in-GaveUp.result ≡ size C t = c.size-in-GaveUp.ensures ∙ size_is e t in (
      omega (arith, begun, size-grows C c.loop-left.first a.q.k c.loop-left.invariant.1.within, c.requires.0.units),
      omega (arith, reached, size-grows C t a.q.k within, c.requires.0.units),
    )

same-length-5 : tie.Need-shape_of-work-then-not-is_far invariant-loop decreases-loop
same-length-5 c = c.try_sets.auto.work ∙ c.loop-left.invariant.0

returns-5 : tie.Need-returns-then-not-is_far invariant-loop decreases-loop
returns-5 c =
    let a = c.args in
    let C = circuit_in a.m.now in
    let e = counts_of c.requires.0.ready.held c.requires.0.ready.layout_of in
    let t = c.in-GaveUp.t in
    let within : t ≤ a.q.k = turn-within C a.q.b a.q.k a.share a.start a.q.d c.requires.0.bound c.loop-left.invariant.1 c.loop-left-test.true c.try_sets.new.work c.try_sets.ensures c.in-GaveUp.is in
    let begun : c.size.result ≡ size C c.loop-left.first = c.size.ensures ∙ size_is e c.loop-left.first in
    let reached : c.size-in-GaveUp.result ≡ size C t = c.size-in-GaveUp.ensures ∙ size_is e t in
    let far = far-is C c.loop-left.first t begun reached c.is_far.ensures in
    turn-stop C a.q.b a.q.k a.share a.start a.q.d c.requires.0.bound c.loop-left.invariant.1 c.loop-left-test.true c.try_sets.new.work c.try_sets.ensures c.in-GaveUp.is (far ∙ refused c.is_far.result (not_from_false _ c.if-not-is_far.true))

sub-left : tie.Need-overflow_sub-left invariant-loop decreases-loop
sub-left c = omega (arith, c.loop-left-test.true)

loop-less : tie.Need-loop-left-smaller invariant-loop decreases-loop
loop-less c = omega (arith, c.loop-left-test.true)

loop-again : tie.Need-loop-left-preserved invariant-loop decreases-loop
loop-again c =
    let a = c.args in
    let C = circuit_in a.m.now in
    let e = counts_of c.requires.0.ready.held c.requires.0.ready.layout_of in
    let t = c.in-GaveUp.t in
    let within : t ≤ a.q.k = turn-within C a.q.b a.q.k a.share a.start a.q.d c.requires.0.bound c.loop-left.invariant.1 c.loop-left-test.true c.try_sets.new.work c.try_sets.ensures c.in-GaveUp.is in
    let begun : c.size.result ≡ size C c.loop-left.first = c.size.ensures ∙ size_is e c.loop-left.first in
    let reached : c.size-in-GaveUp.result ≡ size C t = c.size-in-GaveUp.ensures ∙ size_is e t in
    let far = far-is C c.loop-left.first t begun reached c.is_far.ensures in
    (c.try_sets.auto.work ∙ c.loop-left.invariant.0, turn_more C a.q.b a.q.k a.share a.start a.q.d c.requires.0.bound c.loop-left.invariant.1 c.loop-left-test.true c.try_sets.new.work c.try_sets.ensures c.in-GaveUp.is (far ∙ granted c.is_far.result (not_from_true _ c.if-not-is_far.false)))

same-length-6 : tie.Need-shape_of-work invariant-loop decreases-loop
same-length-6 c = c.loop-left.invariant.0

returns-6 : tie.Need-returns invariant-loop decreases-loop
returns-6 c =
    let a = c.args in
    turn_last (circuit_in a.m.now) a.q.b a.q.k a.share a.start a.q.d c.requires.0.bound c.loop-left.invariant.1 (omega (arith, c.loop-left-test.false)) c.loop-left.work

pub by_sets_spec : {M : Type 1} → statement M
by_sets_spec =
    tie.close
    (tie.spec invariant-loop decreases-loop loop-holds try-sets-requires (λ c. search rules) same_length returns (λ c. search rules) same-length-2 returns-2 (λ c. search rules) same-length-3 returns-3 (λ c. search rules) same-length-4 returns-4 (λ c. search rules) size-requires size-requires-2 is-far-requires same-length-5 returns-5 sub-left loop-less loop-again same-length-6 returns-6)
