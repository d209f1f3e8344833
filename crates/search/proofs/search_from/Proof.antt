-- `search::search_from` meets its contract. The loop's invariant: the chosen outcome is what the frames from t on give, and the output
-- is as it was. Assumes nothing.
use mathlib.Core.Path.{◌≡◌, refl, ap, ◌∙◌, subst}
use mathlib.Core.Bool.{false}
use mathlib.Core.List.{List}
use Prim.Native.Nat.{ℕ, ◌+◌, ◌-◌, ◌≤◌}
use native.Mathlib.Nat.{le_trans}
use native.Mathlib.Omega.{arith}
use borrow.Author.Rules.{rules}
use lib.ListN.{length}
use Rattle.aiger.specs.Search.{Outcome}
use Rattle.layout.specs.Words.{circuit_in}
use Rattle.frames.proofs.Facts.{bad-count}
use Rattle.frames.proofs.Starts.{bits_are}
use Rattle.decision.specs.Decided.{FrameDecided}
use Rattle.enumeration.specs.declared.Frame.{Frame}
use Rattle.limits.proofs.Sizes.{bits-within, counts_of, length-within, limited}
use Rattle.search.specs.Chosen.{said}
use Rattle.search.specs.Steps.{Answered}
use Rattle.search.proofs.Within.{size-within}
use Rattle.search.proofs.Choice.{
  Left,
  hit-shown,
  left-found,
  left-spent,
  left-more,
  left-none,
  none_told,
  answered,
  answered-found,
  answered-spent,
}
use Rattle.search.proofs.search_from.Statement.{statement}
use Rattle.search.proofs.search_from.Tie as tie

abbrev invariant-loop : tie.invariant-loop-t
invariant-loop m layout order start work₀ out₀ b k d t₀ work out t =
    (t ≤ k + 1) × (length work ≡ length work₀) × (out ≡ out₀) × Left (circuit_in m) b k d t

abbrev decreases-loop : tie.decreases-loop-t
decreases-loop m layout order start work₀ out₀ b k d t₀ work out t = k + 1 - t

-- the answer on frame t is the variant that the match found
told : (n : tie.After-decide invariant-loop decreases-loop) (r : Frame) → n.decide.result ≡ r
    → let s = n.args in
    FrameDecided (circuit_in s.m.now) s.q.b n.loop-t.t s.q.d n.decide.new.work r
told n r e =
    let s = n.args in
    subst (FrameDecided (circuit_in s.m.now) s.q.b n.loop-t.t s.q.d
    n.decide.new.work) e
    n.decide.ensures

loop-holds : tie.Need-loop-t-init invariant-loop decreases-loop
loop-holds c =
    (c.requires.1.0, refl, refl, c.requires.1.1)

decide-requires : tie.Need-decide-requires invariant-loop decreases-loop
decide-requires c κs =
    let p = c.requires.0 in
    let i = c.loop-t-test.true in
    let f = size-within (circuit_in c.args.m.now) c.loop-t.t c.args.q.k (omega (arith, i)) in
    record {
      ready = p.ready;
      bad = p.bad;
      last = omega (arith, i, p.bound);
      some = p.some;
      budget = p.most;
      units = omega (arith, f, p.units);
      held = omega (arith, f, p.words, c.loop-t.invariant.1);
    }

cast-show-found : tie.Need-overflow_cast-b invariant-loop decreases-loop
cast-show-found c =
    let p = c.requires.0 in
    omega (arith, p.bad, (limited p.ready.held p.ready.layout_of).bads, p.ready.layout_of.b-is)

show-found-requires : tie.Need-show_found-requires invariant-loop decreases-loop
show-found-requires c κs =
    let p = c.requires.0 in
    let i = c.loop-t-test.true in
    let C = circuit_in c.args.m.now in
    let kept = c.decide.auto.work ∙ c.loop-t.invariant.1 in
    record {
      holds = p.ready.held;
      layout = p.ready.layout_of;
      bad = omega (arith, p.bad, bad-count c.args.m.now);
      frame = omega (arith, i, p.bound);
      bits = le_trans (bits-within C _ c.args.q.k (omega (arith, i))) (omega (arith, p.room, kept));
      room = le_trans (length-within C _ _ c.args.q.k (omega (arith, i))) (omega (arith, p.output, ap length c.loop-t.invariant.2));
    }

same_length : tie.Need-shape_of-work-in-Hit invariant-loop decreases-loop
same_length c = c.decide.auto.work ∙ c.loop-t.invariant.1

same-length-2 : tie.Need-shape_of-out-in-Hit invariant-loop decreases-loop
same-length-2 c = c.show_found.auto.out ∙ ap length c.loop-t.invariant.2

returns : tie.Need-returns-in-Hit invariant-loop decreases-loop
returns c =
    let s = c.args in
    let C = circuit_in s.m.now in
    let f = told c.before.before.before.before.before.before.before _ c.in-Hit.is in
    subst (λ (o : List ℕ). Answered C s.q.b s.q.k s.q.d o (said c.show_found.result) c.show_found.new.out) c.loop-t.invariant.2
    (answered-found C s.q.b s.q.k s.q.d c.loop-t.t
    (left-found C s.q.b s.q.k s.q.d c.loop-t.t f.0 (omega (arith, c.loop-t-test.true)) c.loop-t.invariant.3 f.1)
    c.requires.1.2 c.show_found.ensures f.0 f.2 (hit-shown C s.q.b s.q.k s.q.d c.loop-t.t f.0 f.1))

add-t : tie.Need-overflow_add-t invariant-loop decreases-loop
add-t c = omega (arith, c.loop-t-test.true, c.requires.0.bound)

loop-less : tie.Need-loop-t-smaller invariant-loop decreases-loop
loop-less c = omega (arith, c.loop-t-test.true)

loop-again : tie.Need-loop-t-preserved invariant-loop decreases-loop
loop-again c =
    let s = c.args in
    let i = c.loop-t-test.true in
    let e = told c.before.before.before _ c.in-Clear.is in (
      omega (arith, i),
      c.decide.auto.work ∙ c.loop-t.invariant.1,
      c.loop-t.invariant.2,
      left-more (circuit_in s.m.now) s.q.b s.q.k s.q.d c.loop-t.t (omega (arith, i)) c.loop-t.invariant.3 e,
    )

tell-spent-requires : tie.Need-tell_spent-requires invariant-loop decreases-loop
tell-spent-requires c κs =
    let p = c.requires.0 in
    let i = c.loop-t-test.true in
    let C = circuit_in c.args.m.now in
    let n = counts_of p.ready.held p.ready.layout_of in
    let kept = c.decide.auto.work ∙ c.loop-t.invariant.1 in (
      limited p.ready.held p.ready.layout_of,
      omega (arith, i, p.bound),
      omega (arith, bits_are C c.loop-t.t n.starts n.inputs, bits-within C c.loop-t.t c.args.q.k (omega (arith, i)), p.room, kept),
      p.most,
    )

same-length-3 : tie.Need-shape_of-work-in-Spent invariant-loop decreases-loop
same-length-3 c = c.decide.auto.work ∙ c.loop-t.invariant.1

same-length-4 : tie.Need-shape_of-out-in-Spent invariant-loop decreases-loop
same-length-4 c = ap length c.loop-t.invariant.2

returns-2 : tie.Need-returns-in-Spent invariant-loop decreases-loop
returns-2 c =
    let s = c.args in
    let p = c.requires.0 in
    let C = circuit_in s.m.now in
    let e = told c.before.before.before.before _ c.in-Spent.is in
    answered-spent C s.q.b s.q.k s.q.d c.loop-t.t
    (left-spent C s.q.b s.q.k s.q.d c.loop-t.t (omega (arith, c.loop-t-test.true)) c.loop-t.invariant.3 e.decided)
    c.requires.1.2 (c.tell_spent.ensures C s.q.b (counts_of p.ready.held p.ready.layout_of) e) c.loop-t.invariant.2

cast-t23 : tie.Need-overflow_cast-result invariant-loop decreases-loop
cast-t23 c = omega (arith, c.requires.0.bound)

same-length-5 : tie.Need-shape_of-work invariant-loop decreases-loop
same-length-5 c = c.loop-t.invariant.1

same-length-6 : tie.Need-shape_of-out invariant-loop decreases-loop
same-length-6 c = ap length c.loop-t.invariant.2

returns-3 : tie.Need-returns invariant-loop decreases-loop
returns-3 c =
    let s = c.args in
    let C = circuit_in s.m.now in
    answered C s.q.b s.q.k s.q.d (Outcome.none s.q.k) false
    (left-none C s.q.b s.q.k s.q.d c.loop-t.t (omega (arith, c.loop-t-test.false)) c.loop-t.invariant.3) c.requires.1.2
    (none_told C s.q.b s.q.k s.q.d s.q.k) c.loop-t.invariant.2

pub search_from_spec : {M : Type 1} → statement M
search_from_spec =
    tie.close
    (tie.spec invariant-loop decreases-loop loop-holds decide-requires (λ c. search rules) cast-show-found show-found-requires same_length same-length-2 returns (λ c. search rules) add-t loop-less loop-again (λ c. search rules) tell-spent-requires same-length-3 same-length-4 returns-2 cast-t23 same-length-5 same-length-6 returns-3)
