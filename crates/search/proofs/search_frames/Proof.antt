-- `search::search_frames` meets its contract: what is seen of the stages, or what the frames from the one where they are cut off give.
-- Assumes nothing.
use mathlib.Core.Path.{refl, ◌∙◌}
use mathlib.Core.Bool.{true, false}
use native.Mathlib.Nat.{le_trans}
use native.Mathlib.Omega.{arith}
use borrow.Author.Rules.{rules}
use Rattle.aiger.specs.Search.{Outcome}
use Rattle.layout.specs.Words.{circuit_in}
use Rattle.frames.proofs.Facts.{bad-count}
use Rattle.limits.proofs.Sizes.{bits-within, length-within, limited}
use Rattle.search.proofs.Choice.{none_told, answered, answered-found}
use Rattle.search.proofs.ByRounds.{of-hit, of-nothing, of-never, of_left}
use Rattle.search.proofs.search_frames.Statement.{statement}
use Rattle.search.proofs.search_frames.Tie as tie

pass-stages-requires : tie.Need-pass_stages-requires
pass-stages-requires c κs =
    let p = c.requires in
    record {
      ready = p.ready;
      bad = p.bad;
      bound = p.bound;
      some = p.some;
      most = p.most;
      units = p.units;
      words = p.words;
    }

cast-show-found : tie.Need-overflow_cast-b
cast-show-found c =
    let p = c.requires in
    omega (arith, p.bad, (limited p.ready.held p.ready.layout_of).bads, p.ready.layout_of.b-is)

show-found-requires : tie.Need-show_found-requires
show-found-requires c κs =
    let s = c.args in
    let p = c.requires in
    let C = circuit_in s.m.now in
    let h = of-hit C s.q.b s.q.k s.q.d c.pass_stages.new.work c.pass_stages.result c.pass_stages.ensures c.in-Hit.is in
    record {
      holds = p.ready.held;
      layout = p.ready.layout_of;
      bad = omega (arith, p.bad, bad-count s.m.now);
      frame = omega (arith, h.within, p.bound);
      bits = le_trans (bits-within C _ s.q.k h.within) (omega (arith, p.room, c.pass_stages.auto.work));
      room = le_trans (length-within C _ _ s.q.k h.within) p.output;
    }

cast-t22 : tie.Need-overflow_cast-result
cast-t22 c = omega (arith, c.requires.bound)

cast-t23 : tie.Need-overflow_cast-result-in-Never
cast-t23 c = omega (arith, c.requires.bound)

search-from-requires : tie.Need-search_from-requires
search-from-requires c κs =
    let s = c.args in
    let p = c.requires in
    let z = c.pass_stages.auto.work in (
      record {
        ready = p.ready;
        bad = p.bad;
        bound = p.bound;
        some = p.some;
        most = p.most;
        units = p.units;
        words = omega (arith, p.words, z);
        room = omega (arith, p.room, z);
        output = p.output;
      },
      of_left (circuit_in s.m.now) s.q.b s.q.k s.q.d c.pass_stages.new.work c.pass_stages.result c.pass_stages.ensures c.in-Left.is,
    )

same_length : tie.Need-shape_of-work-in-Hit
same_length c = c.pass_stages.auto.work

same-length-2 : tie.Need-shape_of-out-in-Hit
same-length-2 c = c.show_found.auto.out

returns : tie.Need-returns-in-Hit
returns c =
    let s = c.args in
    let C = circuit_in s.m.now in
    let h = of-hit C s.q.b s.q.k s.q.d c.pass_stages.new.work c.pass_stages.result c.pass_stages.ensures c.in-Hit.is in
    answered-found C s.q.b s.q.k s.q.d _ h.found h.told c.show_found.ensures h.place h.bits h.shown

same-length-3 : tie.Need-shape_of-work-in-Nothing
same-length-3 c = c.pass_stages.auto.work

returns-2 : tie.Need-returns-in-Nothing
returns-2 c =
    let s = c.args in
    let C = circuit_in s.m.now in
    let (o, n) = of-nothing C s.q.b s.q.k s.q.d c.pass_stages.new.work c.pass_stages.result c.pass_stages.ensures c.in-Nothing.is in
    answered C s.q.b s.q.k s.q.d (Outcome.none s.q.k) false o n (none_told C s.q.b s.q.k s.q.d _) refl

same-length-4 : tie.Need-shape_of-work-in-Never
same-length-4 c = c.pass_stages.auto.work

returns-3 : tie.Need-returns-in-Never
returns-3 c =
    let s = c.args in
    let C = circuit_in s.m.now in
    let (o, n) = of-never C s.q.b s.q.k s.q.d c.pass_stages.new.work c.pass_stages.result c.pass_stages.ensures c.in-Never.is in
    answered C s.q.b s.q.k s.q.d (Outcome.none s.q.k) true o n (none_told C s.q.b s.q.k s.q.d _) refl

same-length-5 : tie.Need-shape_of-work-in-Left
same-length-5 c = c.search_from.auto.work ∙ c.pass_stages.auto.work

same-length-6 : tie.Need-shape_of-out-in-Left
same-length-6 c = c.search_from.auto.out

returns-4 : tie.Need-returns-in-Left
returns-4 c = c.search_from.ensures

pub search_frames_spec : {M : Type 1} → statement M
search_frames_spec =
    tie.close
    (tie.spec pass-stages-requires (λ c. search rules) cast-show-found show-found-requires (λ c. search rules) cast-t22 (λ c. search rules) cast-t23 (λ c. search rules) search-from-requires same_length same-length-2 returns same-length-3 returns-2 same-length-4 returns-3 same-length-5 same-length-6 returns-4)
