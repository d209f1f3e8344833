-- `decision::decide` meets its contract. Assumes nothing.
use mathlib.Core.Path.{◌≡◌, ◌∙◌, subst}
use mathlib.Core.Bool.{false}
use native.Mathlib.Omega.{arith}
use Rattle.layout.specs.Words.{circuit_in}
use Rattle.enumeration.specs.Frame.{FrameIs}
use Rattle.enumeration.specs.declared.Frame.{Frame}
use Rattle.limits.proofs.Sizes.{bits-within, limited}
use Rattle.decision.proofs.Deciding.{tried-hit, tried-clear}
use borrow.Author.Rules.{rules}
use Rattle.decision.proofs.decide.Statement.{statement}
use Rattle.decision.proofs.decide.Tie as tie

-- what the first sequences have is the variant that the match found
framed : (n : tie.After-first_hit) (r : Frame) → n.first_hit.result ≡ r
    → let a = n.args in FrameIs (circuit_in a.m.now) a.b a.t n.first_places-first.result n.first_hit.new.work r
framed n r e =
    let a = n.args in
    subst (FrameIs (circuit_in a.m.now) a.b a.t n.first_places-first.result n.first_hit.new.work) e n.first_hit.ensures

first-places-requires : tie.Need-first_places-first-requires
first-places-requires c κs =
    let f = limited c.requires.ready.held c.requires.ready.layout_of in
    (f.inputs, omega (arith, f.starts, f.latches), c.requires.last)

first-hit-requires : tie.Need-first_hit-requires
first-hit-requires c κs =
    let p = c.requires in
    let e = c.first_places-first.ensures in
    let w = bits-within (circuit_in c.args.m.now) c.args.t c.args.t (omega arith) in
    (p.ready, ((p.bad, p.last, omega (arith, e.0), omega (arith, e.1)), omega (arith, w, p.held)))

decide-aim-requires : tie.Need-decide_aim-requires
decide-aim-requires c κs =
    let p = c.requires in
    record {
      ready = p.ready;
      bad = p.bad;
      last = p.last;
      some = p.some;
      budget = p.budget;
      units = p.units;
      held = omega (arith, p.held, c.first_hit.auto.work);
    }

returns : tie.Need-returns-in-Hit
returns c =
    let f = framed c.before.before.before _ c.in-Hit.is in
    (f.0, tried-hit false (circuit_in c.args.m.now) c.args.b c.args.t c.args.d c.first_places-first.result c.first_places-first.ensures.1 f.1, f.2)

returns-2 : tie.Need-returns-in-Clear
returns-2 c =
    tried-clear false (circuit_in c.args.m.now) c.args.b c.args.t c.args.d c.first_places-first.result c.first_places-first.ensures.1
    (framed c.before.before.before _ c.in-Clear.is)

same-length-3 : tie.Need-shape_of-work-in-Spent
same-length-3 c = c.decide_aim.auto.work ∙ c.first_hit.auto.work

returns-3 : tie.Need-returns-in-Spent
returns-3 c = c.decide_aim.ensures

pub decide_spec : {M : Type 1} → statement M
decide_spec =
    tie.close
    (tie.spec first-places-requires first-hit-requires (λ c. search rules) (λ c. search rules) (λ c. search rules) decide-aim-requires (λ c. search rules) returns (λ c. search rules) returns-2 same-length-3 returns-3)
