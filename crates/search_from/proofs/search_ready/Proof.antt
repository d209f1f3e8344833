-- `search_from::search_ready` meets its contract: what is decided of the frame from the place on is told, and a hit is shown. Assumes nothing.
use mathlib.Core.Path.{◌≡◌, refl, ◌∙◌, subst}
use native.Mathlib.Nat.{le_trans}
use native.Mathlib.Omega.{arith}
use borrow.Author.Rules.{rules}
use Rattle.layout.specs.Words.{circuit_in}
use Rattle.frames.proofs.Facts.{bad-count}
use Rattle.limits.proofs.Sizes.{bits-within, limited}
use Rattle.place_search.specs.Places.{Placed}
use Rattle.place_decision.specs.Decided.{DecidedFrom, Chose}
use Rattle.place_decision.specs.declared.PlaceFrame.{PlaceFrame}
use Rattle.search_from.proofs.Answers.{answered, answered-hit}
use Rattle.search_from.proofs.search_ready.Statement.{statement}
use Rattle.search_from.proofs.search_ready.Tie as tie

-- what is decided, by the variant that the match found
told : (n : tie.After-decide_from) (r : PlaceFrame) → n.decide_from.result ≡ r
    → let s = n.args in
    Chose (circuit_in s.m.now) s.q.b s.q.t s.q.place s.q.d n.decide_from.new.work r
told n r e =
    let s = n.args in
    subst (λ (x : PlaceFrame). Chose (circuit_in s.m.now) s.q.b s.q.t s.q.place s.q.d n.decide_from.new.work x) e
    n.decide_from.ensures.chose

decide-from-requires : tie.Need-decide_from-requires
decide-from-requires c κs = c.requires.place-fits

cast-show-found : tie.Need-overflow_cast-b
cast-show-found c =
    let p = c.requires.place-fits.frame in
    omega (arith, p.bad, (limited p.ready.held p.ready.layout_of).bads, p.ready.layout_of.b-is)

show-found-requires : tie.Need-show_found-requires
show-found-requires c κs =
    let p = c.requires.place-fits.frame in
    let C = circuit_in c.args.m.now in
    let k = c.decide_from.auto.work in
    record {
      holds = p.ready.held;
      layout = p.ready.layout_of;
      bad = omega (arith, p.bad, bad-count c.args.m.now);
      frame = p.last;
      bits = le_trans (bits-within C c.args.q.t c.args.q.t (omega arith)) (omega (arith, p.held, k));
      room = c.requires.output;
    }

cast-t22 : tie.Need-overflow_cast-result
cast-t22 c = omega (arith, c.requires.place-fits.frame.last)

cast-t23 : tie.Need-overflow_cast-result-in-Spent
cast-t23 c = omega (arith, c.requires.place-fits.frame.last)

same_length : tie.Need-shape_of-work-in-Hit
same_length c = c.decide_from.auto.work

same-length-2 : tie.Need-shape_of-out
same-length-2 c = c.show_found.auto.out

returns : tie.Need-returns-in-Hit
returns c =
    let s = c.args in
    let h = told c.before.before.before.before.before.before.before _ c.in-Hit.is in
    answered-hit (circuit_in s.m.now) s.q.b s.q.t s.q.place s.q.d h.0 h.1 c.decide_from.ensures.allowed
    c.show_found.ensures h.2

same-length-3 : tie.Need-shape_of-work-in-Clear
same-length-3 c = c.decide_from.auto.work

returns-2 : tie.Need-returns-in-Clear
returns-2 c =
    let s = c.args in
    answered (circuit_in s.m.now) s.q.b s.q.t s.q.place s.q.d Placed.clear (told c.before.before.before _ c.in-Clear.is)
    c.decide_from.ensures.allowed refl

same-length-4 : tie.Need-shape_of-work-in-Spent
same-length-4 c = c.decide_from.auto.work

returns-3 : tie.Need-returns-in-Spent
returns-3 c =
    let s = c.args in
    answered (circuit_in s.m.now) s.q.b s.q.t s.q.place s.q.d (Placed.spent _) (told c.before.before.before _ c.in-Spent.is)
    c.decide_from.ensures.allowed refl

pub search_ready_spec : {M : Type 1} → statement M
search_ready_spec =
    tie.close
    (tie.spec decide-from-requires (λ c. search rules) cast-show-found show-found-requires (λ c. search rules) cast-t22 (λ c. search rules) cast-t23 same_length same-length-2 returns same-length-3 returns-2 same-length-4 returns-3)
