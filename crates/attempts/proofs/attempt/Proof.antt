-- `attempts::attempt` meets its contract. Assumes nothing.
use mathlib.Core.Path.{◌≡◌, sym, ap, ◌∙◌, subst}
use Prim.Native.Nat.{ℕ, ◌*◌}
use native.Mathlib.Omega.{arith}
use borrow.Author.Rules.{rules}
use Rattle.layout.specs.Words.{circuit_in}
use Rattle.enumeration.specs.Frame.{FrameIs}
use Rattle.limits.proofs.Sizes.{bits-within, limited, counts_of, size_is}
use Rattle.decision.specs.Reach.{first_places}
use Rattle.decision.proofs.Graphs.{part-long}
use Rattle.attempts.proofs.Small.{free-is}
use Rattle.attempts.proofs.Graphs.{framed, first-hit, first-clear, part-answers}
use Rattle.attempts.proofs.attempt.Statement.{statement}
use Rattle.attempts.proofs.attempt.Tie as tie

first-places-requires : tie.Need-first_places-first-requires
first-places-requires c κs =
    let p = c.requires in
    let f = limited p.ready.held p.ready.layout_of in
    (f.inputs, omega (arith, f.starts, f.latches), p.last)

first-hit-requires : tie.Need-first_hit-requires
first-hit-requires c κs =
    let p = c.requires in
    let e = c.first_places-first.ensures in
    (p.ready, ((p.bad, p.last, omega (arith, e.0), omega (arith, e.1)), omega (arith, bits-within (circuit_in c.args.m.now) c.args.t c.args.t (omega arith), p.held)))

size-requires : tie.Need-size-words-requires
size-requires c κs = (limited c.requires.ready.held c.requires.ready.layout_of, c.requires.last)

mul_words : tie.Need-overflow_mul-words
mul_words c =
    let r = c.requires.ready in
    omega (arith, c.size-words.ensures ∙ size_is (counts_of r.held r.layout_of) c.args.t, c.requires.units)

slice-relend-prefix-attempt-graph : tie.Need-slice_bounds-attempt_graph-end
slice-relend-prefix-attempt-graph c =
    let r = c.requires.ready in
    omega (arith, c.size-words.ensures ∙ size_is (counts_of r.held r.layout_of) c.args.t, c.requires.held, c.first_hit.auto.work)

slice-aggregate-attempt-graph : tie.Need-slice_bounds-attempt_graph-end-in-Spent
slice-aggregate-attempt-graph c =
    let r = c.requires.ready in
    let z = c.size-words.ensures ∙ size_is (counts_of r.held r.layout_of) c.args.t in
    sym (part-long (16 * c.size-words.result) c.first_hit.new.work (omega (arith, z, c.requires.held, c.first_hit.auto.work)))

attempt-graph-requires : tie.Need-attempt_graph-requires
attempt-graph-requires c κs =
    let p = c.requires in
    let z = c.size-words.ensures ∙ size_is (counts_of p.ready.held p.ready.layout_of) c.args.t in
    let l = part-long (16 * c.size-words.result) c.first_hit.new.work (omega (arith, z, p.held, c.first_hit.auto.work)) in
    (record { ready = p.ready; bad = p.bad; last = p.last; some = p.some; budget = p.budget; units = p.units; held = omega (arith, l, z) }, omega (arith, l, z))

returns : tie.Need-returns-in-Hit
returns c =
    let r = c.requires.ready in
    let C = circuit_in c.args.m.now in
    let e = c.first_places-first.ensures.2 ∙ ap first_places (free-is (counts_of r.held r.layout_of) c.args.t) in
    let h = framed C c.args.b c.args.t e c.first_hit.new.work c.first_hit.ensures c.in-Hit.is in
    (h.0, first-hit C c.args.b c.args.t c.args.e h.1, h.2)

returns-2 : tie.Need-returns-in-Clear
returns-2 c =
    let r = c.requires.ready in
    let C = circuit_in c.args.m.now in
    let e = c.first_places-first.ensures.2 ∙ ap first_places (free-is (counts_of r.held r.layout_of) c.args.t) in
    first-clear C c.args.b c.args.t c.args.e
    (framed C c.args.b c.args.t e c.first_hit.new.work c.first_hit.ensures c.in-Clear.is)

returns-3 : tie.Need-returns-in-Spent
returns-3 c =
    let p = c.requires in
    let C = circuit_in c.args.m.now in
    let z = c.size-words.ensures ∙ size_is (counts_of p.ready.held p.ready.layout_of) c.args.t in
    let l = part-long (16 * c.size-words.result) c.first_hit.new.work (omega (arith, z, p.held, c.first_hit.auto.work)) in
    let e = c.first_places-first.ensures.2 ∙ ap first_places (free-is (counts_of p.ready.held p.ready.layout_of) c.args.t) in
    part-answers C c.args.b c.args.t c.args.e
    (framed C c.args.b c.args.t e c.first_hit.new.work c.first_hit.ensures c.in-Spent.is)
    c.attempt_graph.new.work _ c.attempt_graph.result
    (omega (arith, bits-within C c.args.t c.args.t (omega arith), c.attempt_graph.auto.work, l, z)) c.attempt_graph.ensures

pub attempt_spec : {M : Type 1} → statement M
attempt_spec =
    tie.close
    (tie.spec first-places-requires first-hit-requires (λ c. search rules) (λ c. search rules) (λ c. search rules) size-requires mul_words slice-relend-prefix-attempt-graph slice-aggregate-attempt-graph attempt-graph-requires (λ c. search rules) returns (λ c. search rules) returns-2 (λ c. search rules) returns-3)
