-- `attempts::attempt_frames` meets its contract. The loop's invariant: what is seen is what is seen of the frames from t on, with what is left.
-- Assumes nothing.
use mathlib.Core.Path.{◌≡◌, refl, sym, ap, ◌∙◌}
use Prim.Native.Nat.{ℕ, ◌+◌, ◌-◌, ◌*◌, ◌≤◌, min}
use native.Mathlib.Omega.{arith}
use borrow.Author.Rules.{rules}
use lib.ListN.{length}
use Rattle.aiger.specs.Frames.{size}
use Rattle.layout.specs.Words.{circuit_in}
use Rattle.limits.proofs.Sizes.{limited, counts_of, size_is}
use Rattle.decision.specs.Reach.{effort}
use Rattle.attempts.specs.Attempts.{Answers, attempt_of}
use Rattle.attempts.proofs.Frames.{seen_from, size-within, seen_first, seen-past, allowed, asked, answered, seen-hit, seen-clear, seen-cut, seen-given-up}
use Rattle.attempts.proofs.attempt_frames.Statement.{statement}
use Rattle.attempts.proofs.attempt_frames.Tie as tie

abbrev invariant-loop : tie.invariant-loop-t
invariant-loop m layout order first limit work₀ b k d t₀ left₀ work t left =
    (length work ≡ length work₀) × (seen_from (circuit_in m) b k d first limit ≡ seen_from (circuit_in m) b k d t left)

abbrev decreases-loop : tie.decreases-loop-t
decreases-loop m layout order first limit work₀ b k d t₀ left₀ work t left = k + 1 - t

loop-holds : tie.Need-loop-t-init invariant-loop decreases-loop
loop-holds c = (refl, refl)

size-requires : tie.Need-size-requires invariant-loop decreases-loop
size-requires c κs =
    let p = c.requires in
    (limited p.ready.held p.ready.layout_of, omega (arith, c.loop-t-test.true, p.bound))

effort-requires : tie.Need-effort-allowed-requires invariant-loop decreases-loop
effort-requires c κs =
    let r = c.requires.ready in
    omega (arith, c.size.ensures ∙ size_is (counts_of r.held r.layout_of) c.loop-t.t, size-within (circuit_in c.args.m.now) c.loop-t.t c.args.q.k (omega (arith, c.loop-t-test.true)), c.requires.units)

attempt-requires : tie.Need-attempt-requires invariant-loop decreases-loop
attempt-requires c κs =
    let p = c.requires in
    let i = c.loop-t-test.true in
    let f = size-within (circuit_in c.args.m.now) c.loop-t.t c.args.q.k (omega (arith, i)) in
    record {
      ready = p.ready;
      bad = p.bad;
      last = omega (arith, i, p.bound);
      some = omega arith;
      budget = omega arith;
      units = omega (arith, f, p.units);
      held = omega (arith, f, p.words, c.loop-t.invariant.0);
    }

same_length : tie.Need-shape_of-work-in-Hit invariant-loop decreases-loop
same_length c = c.attempt.auto.work ∙ c.loop-t.invariant.0

returns : tie.Need-returns-in-Hit invariant-loop decreases-loop
returns c =
    let s = c.args in
    let C = circuit_in s.m.now in
    let r = c.requires.ready in
    let z = c.size.ensures ∙ size_is (counts_of r.held r.layout_of) c.loop-t.t in
    let e = asked C c.loop-t.t s.q.d z c.effort-allowed.ensures c.loop-t.left c.smaller-e.ensures in
    let f = answered C s.q.b c.loop-t.t e c.attempt.new.work c.attempt.ensures c.in-Hit.is in (
      f.0,
      seen_first C s.q.b s.q.k s.q.d s.limit s.first ∙ c.loop-t.invariant.1
          ∙ seen-hit C s.q.b s.q.k s.q.d c.loop-t.t c.loop-t.left (omega (arith, c.loop-t-test.true)) c.requires.bound f.1,
      f.2,
    )

add-t : tie.Need-overflow_add-t invariant-loop decreases-loop
add-t c = omega (arith, c.loop-t-test.true, c.requires.bound)

loop-less : tie.Need-loop-t-smaller invariant-loop decreases-loop
loop-less c = omega (arith, c.loop-t-test.true)

loop-again : tie.Need-loop-t-preserved invariant-loop decreases-loop
loop-again c =
    let s = c.args in
    let C = circuit_in s.m.now in
    let r = c.requires.ready in
    let z = c.size.ensures ∙ size_is (counts_of r.held r.layout_of) c.loop-t.t in
    let e = asked C c.loop-t.t s.q.d z c.effort-allowed.ensures c.loop-t.left c.smaller-e.ensures in
    let f = answered C s.q.b c.loop-t.t e c.attempt.new.work c.attempt.ensures c.in-Clear.is in (
      c.attempt.auto.work ∙ c.loop-t.invariant.0,
      c.loop-t.invariant.1 ∙ seen-clear C s.q.b s.q.k s.q.d c.loop-t.t c.loop-t.left (omega (arith, c.loop-t-test.true)) c.requires.bound f
          ∙ ap (seen_from C s.q.b s.q.k s.q.d (c.loop-t.t + 1)) (sym c.less-left.ensures),
    )

same-length-2 : tie.Need-shape_of-work-then-allowed-left invariant-loop decreases-loop
same-length-2 c = c.attempt.auto.work ∙ c.loop-t.invariant.0

returns-2 : tie.Need-returns-then-allowed-left invariant-loop decreases-loop
returns-2 c =
    let s = c.args in
    let C = circuit_in s.m.now in
    let r = c.requires.ready in
    let z = c.size.ensures ∙ size_is (counts_of r.held r.layout_of) c.loop-t.t in
    let g = allowed C c.loop-t.t s.q.d z c.effort-allowed.ensures in
    let e = asked C c.loop-t.t s.q.d z c.effort-allowed.ensures c.loop-t.left c.smaller-e.ensures in
    let f = answered C s.q.b c.loop-t.t e c.attempt.new.work c.attempt.ensures c.in-Out.is in
    seen_first C s.q.b s.q.k s.q.d s.limit s.first ∙ c.loop-t.invariant.1
    ∙ seen-cut C s.q.b s.q.k s.q.d c.loop-t.t c.loop-t.left (omega (arith, c.loop-t-test.true)) c.requires.bound f (omega (arith, g, c.if-allowed-left.true))

same-length-3 : tie.Need-shape_of-work-in-Out invariant-loop decreases-loop
same-length-3 c = c.attempt.auto.work ∙ c.loop-t.invariant.0

returns-3 : tie.Need-returns-in-Out invariant-loop decreases-loop
returns-3 c =
    let s = c.args in
    let C = circuit_in s.m.now in
    let r = c.requires.ready in
    let z = c.size.ensures ∙ size_is (counts_of r.held r.layout_of) c.loop-t.t in
    let g = allowed C c.loop-t.t s.q.d z c.effort-allowed.ensures in
    let e = asked C c.loop-t.t s.q.d z c.effort-allowed.ensures c.loop-t.left c.smaller-e.ensures in
    let f = answered C s.q.b c.loop-t.t e c.attempt.new.work c.attempt.ensures c.in-Out.is in
    seen_first C s.q.b s.q.k s.q.d s.limit s.first ∙ c.loop-t.invariant.1
    ∙ seen-given-up C s.q.b s.q.k s.q.d c.loop-t.t c.loop-t.left (omega (arith, c.loop-t-test.true)) c.requires.bound f (omega (arith, g, c.if-allowed-left.false))

same-length-4 : tie.Need-shape_of-work invariant-loop decreases-loop
same-length-4 c = c.loop-t.invariant.0

returns-4 : tie.Need-returns invariant-loop decreases-loop
returns-4 c =
    let s = c.args in
    let C = circuit_in s.m.now in
    seen_first C s.q.b s.q.k s.q.d s.limit s.first ∙ c.loop-t.invariant.1
    ∙ seen-past C s.q.b s.q.k s.q.d c.loop-t.t c.loop-t.left (omega (arith, c.loop-t-test.false))

pub attempt_frames_spec : {M : Type 1} → statement M
attempt_frames_spec =
    tie.close
    (tie.spec invariant-loop decreases-loop loop-holds size-requires effort-requires (λ c κs. search rules) attempt-requires (λ c. search rules) same_length returns (λ c. search rules) (λ c κs. search rules) add-t loop-less loop-again (λ c. search rules) same-length-2 returns-2 same-length-3 returns-3 same-length-4 returns-4)
