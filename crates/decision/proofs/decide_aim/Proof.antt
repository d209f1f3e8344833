-- `decision::decide_aim` meets its contract. Assumes nothing.
use mathlib.Core.Path.{sym, ◌∙◌}
use Prim.Native.Nat.{◌*◌}
use native.Mathlib.Omega.{arith}
use Rattle.layout.specs.Words.{circuit_in}
use Rattle.limits.proofs.Sizes.{bits-within, limited, counts_of, size_is}
use Rattle.decision.proofs.Graphs.{part-long, part-decided}
use borrow.Author.Rules.{rules}
use Rattle.decision.proofs.decide_aim.Statement.{statement}
use Rattle.decision.proofs.decide_aim.Tie as tie

size-requires : tie.Need-size-words-requires
size-requires c κs =
    (limited c.requires.ready.held c.requires.ready.layout_of, c.requires.last)

mul_words : tie.Need-overflow_mul-words
mul_words c =
    let r = c.requires.ready in
    omega (arith, c.size-words.ensures ∙ size_is (counts_of r.held r.layout_of) c.args.aim.t, c.requires.units)

slice-relend-prefix-search-graph : tie.Need-slice_bounds-search_graph-end
slice-relend-prefix-search-graph c =
    let r = c.requires.ready in
    omega (arith, c.size-words.ensures ∙ size_is (counts_of r.held r.layout_of) c.args.aim.t, c.requires.held)

slice-aggregate-search-graph : tie.Need-slice_bounds-search_graph-end-2
slice-aggregate-search-graph c =
    let r = c.requires.ready in
    let z = c.size-words.ensures ∙ size_is (counts_of r.held r.layout_of) c.args.aim.t in
    sym (part-long (16 * c.size-words.result) c.args.work.now (omega (arith, z, c.requires.held)))

search-graph-requires : tie.Need-search_graph-requires
search-graph-requires c κs =
    let p = c.requires in
    let z = c.size-words.ensures ∙ size_is (counts_of p.ready.held p.ready.layout_of) c.args.aim.t in
    let l = part-long (16 * c.size-words.result) c.args.work.now (omega (arith, z, p.held)) in
    (record { ready = p.ready; bad = p.bad; last = p.last; some = p.some; budget = p.budget; units = p.units; held = omega (arith, l, z) }, omega (arith, l, z))

returns : tie.Need-returns
returns c =
    let a = c.args in
    let p = c.requires in
    let z = c.size-words.ensures ∙ size_is (counts_of p.ready.held p.ready.layout_of) a.aim.t in
    let l = part-long (16 * c.size-words.result) a.work.now (omega (arith, z, p.held)) in
    let w = bits-within (circuit_in a.m.now) a.aim.t a.aim.t (omega arith) in
    part-decided a.aim.alone (circuit_in a.m.now) a.aim.b a.aim.t a.d c.search_graph.new.work _ c.search_graph.result
    (omega (arith, w, c.search_graph.auto.work, l, z)) c.search_graph.ensures

pub decide_aim_spec : {M : Type 1} → statement M
decide_aim_spec =
    tie.close
    (tie.spec size-requires mul_words slice-relend-prefix-search-graph slice-aggregate-search-graph search-graph-requires (λ c. search rules) returns)
