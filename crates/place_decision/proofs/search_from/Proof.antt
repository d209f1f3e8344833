-- `place_decision::search_from` meets its contract. Assumes nothing.
use mathlib.Core.Path.{◌≡◌, refl, sym, ap, ◌∙◌, subst}
use Prim.Native.Nat.{ℕ, ◌+◌, ◌*◌, ◌^◌, ◌≤◌, ◌<◌, min, max}
use native.Mathlib.Omega.{arith}
use Rattle.aiger.specs.Frames.{free_bits, size}
use Rattle.aiger.specs.Search.{greatest}
use Rattle.layout.specs.Words.{circuit_in}
use Rattle.nodes.specs.Store.{pairs_of}
use Rattle.nodes.specs.Edges.{edge_word}
use Rattle.frames.proofs.Places.{inputs_are}
use Rattle.frames.proofs.Starts.{bits_are}
use Rattle.limits.proofs.Sizes.{bits-within, limited}
use Rattle.conflicts.specs.declared.Verdict.{Verdict}
use Rattle.place_solver.specs.From.{SolvedFrom}
use Rattle.decision.specs.Reach.{first_places, effort}
use Rattle.decision.proofs.Graphs.{marked}
use Rattle.place_decision.specs.Reach.{tries}
use Rattle.place_decision.specs.Decided.{GoneOn}
use Rattle.place_decision.proofs.Choosing.{tries-is, as-gone}
use Rattle.place_decision.proofs.Parts.{solved-hit, solved-clear, solved-out}
use borrow.Author.Rules.{rules}
use Rattle.place_decision.proofs.search_from.Statement.{statement}
use Rattle.place_decision.proofs.search_from.Tie as tie

prepare-requires : tie.Need-prepare-made-requires
prepare-requires c κs =
    let p = c.requires.0.frame in
    record { ready = p.ready; bad = p.bad; last = p.last; some = omega arith; budget = omega arith; units = p.units; held = p.held }

effort-requires : tie.Need-effort-e-requires
effort-requires c κs = omega (arith, c.prepare-made.ensures.room, c.requires.0.frame.units)

first-hit-from-requires : tie.Need-first_hit_from-requires
first-hit-from-requires c κs =
    (marked c.prepare-made.ensures c.args.q.d (c.prepare-made.auto.work ∙ c.requires.1), subst (λ (k : ℕ). c.args.q.place < 2 ^ k) (sym c.prepare-made.ensures.free) c.requires.0.below)

number-of-requires : tie.Need-number_of-floor-requires
number-of-requires c κs =
    omega (arith, c.prepare-made.ensures.free, bits-within (circuit_in c.args.m.now) c.args.q.t c.args.q.t (omega arith), c.requires.1, c.prepare-made.auto.work, c.first_hit_from.auto.work)

first-places-requires : tie.Need-first_places-requires
first-places-requires c κs =
    let f = limited c.requires.0.frame.ready.held c.requires.0.frame.ready.layout_of in
    (f.inputs, omega (arith, f.starts, f.latches), c.requires.0.frame.last)

go-on-requires : tie.Need-go_on-requires
unfolding greatest
go-on-requires c κs =
    let p = c.requires.0.frame in (
      record {
        ready = p.ready;
        bad = p.bad;
        last = p.last;
        budget = omega (arith, c.larger-d.ensures, c.first_places.ensures.1, p.budget);
        start = omega (arith, c.requires.0.start);
        free = omega (arith, bits-within (circuit_in c.args.m.now) c.args.q.t c.args.q.t (omega arith), c.requires.1, c.prepare-made.auto.work, c.first_hit_from.auto.work);
      },
      c.requires.0.start,
    )

returns : tie.Need-returns-in-Found
returns c =
    let q = c.args.q in
    let w = c.prepare-made.new.work in
    let g = c.prepare-made.result.graph in
    solved-hit c.prepare-made.ensures q.place q.d (c.prepare-made.auto.work ∙ c.requires.1) c.effort-e.result (c.effort-e.ensures ∙ ap (λ (x : ℕ). effort x q.d) c.prepare-made.ensures.room) c.first_hit_from.new.work
    (subst (SolvedFrom g.free (pairs_of w g) (edge_word c.prepare-made.result.edge) q.place w c.effort-e.result c.first_hit_from.new.work) c.in-Found.is c.first_hit_from.ensures)

returns-2 : tie.Need-returns-in-Clear
returns-2 c =
    let q = c.args.q in
    let w = c.prepare-made.new.work in
    let g = c.prepare-made.result.graph in
    solved-clear c.prepare-made.ensures q.place q.d (c.prepare-made.auto.work ∙ c.requires.1) c.effort-e.result (c.effort-e.ensures ∙ ap (λ (x : ℕ). effort x q.d) c.prepare-made.ensures.room) c.first_hit_from.new.work
    (subst (SolvedFrom g.free (pairs_of w g) (edge_word c.prepare-made.result.edge) q.place w c.effort-e.result c.first_hit_from.new.work) c.in-Clear.is c.first_hit_from.ensures)

returns-3 : tie.Need-returns-in-Out
returns-3 c =
    let q = c.args.q in
    let C = circuit_in c.args.m.now in
    let R = c.requires.0.frame.ready in
    let w = c.prepare-made.new.work in
    let g = c.prepare-made.result.graph in
    let o = solved-out c.prepare-made.ensures q.place q.d (c.prepare-made.auto.work ∙ c.requires.1) c.effort-e.result (c.effort-e.ensures ∙ ap (λ (x : ℕ). effort x q.d) c.prepare-made.ensures.room) c.first_hit_from.new.work
    (subst (SolvedFrom g.free (pairs_of w g) (edge_word c.prepare-made.result.edge) q.place w c.effort-e.result c.first_hit_from.new.work) c.in-Out.is c.first_hit_from.ensures) in
    let n = bits_are C q.t R.layout_of.u-is (inputs_are R.held R.layout_of) in
    let d = tries-is (free_bits C q.t) q.d c.first_places.result c.larger-d.result (c.first_places.ensures.2 ∙ ap first_places n) c.larger-d.ensures in
    as-gone C q.b q.t q.place q.d o.out o.none o.inside c.requires.0.start
    (omega (arith, d, c.larger-d.ensures, c.first_places.ensures.1, c.requires.0.frame.budget)) c.go_on.new.work c.number_of-floor.result
    (c.number_of-floor.ensures ∙ ap (min 9223372036854775808) o.number) c.go_on.result
    (subst (λ (k : ℕ). GoneOn C q.b q.t q.place k c.number_of-floor.result c.go_on.new.work c.go_on.result) d c.go_on.ensures)

pub search_from_spec : {M : Type 1} → statement M
search_from_spec =
    tie.close
    (tie.spec prepare-requires effort-requires first-hit-from-requires (λ c. search rules) (λ c. search rules) (λ c. search rules) number-of-requires first-places-requires (λ c κs. search rules) go-on-requires (λ c. search rules) returns (λ c. search rules) returns-2 (λ c. search rules) returns-3)
