-- `place_decision::decide_from` meets its contract. Assumes nothing.
use mathlib.Core.Path.{◌≡◌, sym, ap, ◌∙◌, subst}
use Prim.Native.Nat.{ℕ, ◌+◌, ◌*◌}
use native.Mathlib.Omega.{arith}
use Rattle.aiger.specs.Frames.{free_bits}
use Rattle.aiger.specs.Search.{greatest}
use Rattle.layout.specs.Words.{circuit_in}
use Rattle.frames.proofs.Places.{inputs_are}
use Rattle.frames.proofs.Starts.{bits_are}
use Rattle.limits.proofs.Sizes.{bits-within, limited, counts_of, size_is}
use Rattle.place_enumeration.specs.From.{FrameFrom}
use Rattle.decision.specs.Reach.{first_places}
use Rattle.decision.proofs.Graphs.{part-long}
use Rattle.place_decision.proofs.Choosing.{first-hit-chosen, first-clear-chosen}
use Rattle.place_decision.proofs.Parts.{part-decided}
use borrow.Author.Rules.{rules}
use Rattle.place_decision.proofs.decide_from.Statement.{statement}
use Rattle.place_decision.proofs.decide_from.Tie as tie

first-places-requires : tie.Need-first_places-d-requires
first-places-requires c κs =
    let f = limited c.requires.frame.ready.held c.requires.frame.ready.layout_of in
    (f.inputs, omega (arith, f.starts, f.latches), c.requires.frame.last)

first-hit-from-requires : tie.Need-first_hit_from-requires
unfolding greatest
first-hit-from-requires c κs =
    let p = c.requires.frame in
    record {
      ready = p.ready;
      bad = p.bad;
      last = p.last;
      budget = omega (arith, c.first_places-d.ensures.1);
      start = omega (arith, c.requires.start);
      free = omega (arith, bits-within (circuit_in c.args.m.now) c.args.q.t c.args.q.t (omega arith), p.held);
    }

size-requires : tie.Need-size-words-requires
size-requires c κs =
    (limited c.requires.frame.ready.held c.requires.frame.ready.layout_of, c.requires.frame.last)

mul_words : tie.Need-overflow_mul-words
mul_words c =
    let r = c.requires.frame.ready in
    omega (arith, c.size-words.ensures ∙ size_is (counts_of r.held r.layout_of) c.args.q.t, c.requires.frame.units)

slice-relend-prefix-search-from : tie.Need-slice_bounds-search_from-end
slice-relend-prefix-search-from c =
    let r = c.requires.frame.ready in
    omega (arith, c.size-words.ensures ∙ size_is (counts_of r.held r.layout_of) c.args.q.t, c.requires.frame.held, c.first_hit_from.auto.work)

slice-aggregate-search-from : tie.Need-slice_bounds-search_from-end-in-Spent
slice-aggregate-search-from c =
    let r = c.requires.frame.ready in
    sym (part-long (16 * c.size-words.result) c.first_hit_from.new.work (omega (arith, c.size-words.ensures ∙ size_is (counts_of r.held r.layout_of) c.args.q.t, c.requires.frame.held, c.first_hit_from.auto.work)))

search-from-requires : tie.Need-search_from-requires
search-from-requires c κs =
    let p = c.requires.frame in
    let z = c.size-words.ensures ∙ size_is (counts_of p.ready.held p.ready.layout_of) c.args.q.t in
    let l = part-long (16 * c.size-words.result) c.first_hit_from.new.work (omega (arith, z, p.held, c.first_hit_from.auto.work)) in (
      record {
        frame = record { ready = p.ready; bad = p.bad; last = p.last; some = p.some; budget = p.budget; units = p.units; held = omega (arith, l, z) };
        start = c.requires.start;
        below = c.requires.below;
      },
      omega (arith, l, z),
    )

returns : tie.Need-returns-in-Hit
returns c =
    let q = c.args.q in
    let C = circuit_in c.args.m.now in
    let R = c.requires.frame.ready in
    let n = bits_are C q.t R.layout_of.u-is (inputs_are R.held R.layout_of) in
    first-hit-chosen C q.b q.t q.place q.d c.first_hit_from.new.work c.first_places-d.result (c.first_places-d.ensures.2 ∙ ap first_places n)
    (subst (FrameFrom C q.b q.t q.place c.first_places-d.result c.first_hit_from.new.work) c.in-Hit.is c.first_hit_from.ensures)

returns-2 : tie.Need-returns-in-Clear
returns-2 c =
    let q = c.args.q in
    let C = circuit_in c.args.m.now in
    let R = c.requires.frame.ready in
    let n = bits_are C q.t R.layout_of.u-is (inputs_are R.held R.layout_of) in
    first-clear-chosen C q.b q.t q.place q.d c.first_hit_from.new.work c.first_places-d.result (c.first_places-d.ensures.2 ∙ ap first_places n)
    (subst (FrameFrom C q.b q.t q.place c.first_places-d.result c.first_hit_from.new.work) c.in-Clear.is c.first_hit_from.ensures)

returns-3 : tie.Need-returns-in-Spent
returns-3 c =
    let q = c.args.q in
    let p = c.requires.frame in
    let C = circuit_in c.args.m.now in
    let z = c.size-words.ensures ∙ size_is (counts_of p.ready.held p.ready.layout_of) q.t in
    let l = part-long (16 * c.size-words.result) c.first_hit_from.new.work (omega (arith, z, p.held, c.first_hit_from.auto.work)) in
    part-decided C q.b q.t q.place q.d c.search_from.new.work _ c.search_from.result (omega (arith, bits-within C q.t q.t (omega arith), c.search_from.auto.work, l, z)) c.search_from.ensures

pub decide_from_spec : {M : Type 1} → statement M
decide_from_spec =
    tie.close
    (tie.spec first-places-requires first-hit-from-requires (λ c. search rules) (λ c. search rules) (λ c. search rules) size-requires mul_words slice-relend-prefix-search-from slice-aggregate-search-from search-from-requires (λ c. search rules) returns (λ c. search rules) returns-2 (λ c. search rules) returns-3)
