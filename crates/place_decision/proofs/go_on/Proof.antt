-- `place_decision::go_on` meets its contract. Assumes nothing.
use mathlib.Core.Path.{◌≡◌, sym, ap, ◌∙◌, subst}
use mathlib.Core.Logic.{◌⊎◌, inl, inr}
use Prim.Native.Nat.{ℕ, ◌+◌, ◌-◌}
use native.Mathlib.Omega.{arith}
use Rattle.aiger.specs.Search.{greatest}
use Rattle.layout.specs.Words.{circuit_in}
use Rattle.place_enumeration.specs.From.{FrameFrom}
use Rattle.place_decision.specs.declared.PlaceFrame.TheVariants as P
use borrow.Author.Rules.{rules}
use Rattle.place_decision.proofs.go_on.Statement.{statement}
use Rattle.place_decision.proofs.go_on.Tie as tie

add-end : tie.Need-overflow_add-end
add-end c = omega (arith, c.requires.0.start, c.requires.0.budget)

returns : tie.Need-returns-then-end-floor
returns c = inl (c.if-end-floor.true, ap P.Spent c.capped.ensures)

sub-d : tie.Need-overflow_sub-d
sub-d c = omega (arith, c.larger-place.ensures, c.if-end-floor.false)

first-hit-from-requires : tie.Need-first_hit_from-f-requires
unfolding greatest
first-hit-from-requires c κs =
    let p = c.requires.0 in
    let q = c.args.q in
    let e = c.larger-place.ensures in
    record {
      ready = p.ready;
      bad = p.bad;
      last = p.last;
      budget = omega (arith, e, p.budget, c.if-end-floor.false);
      start = omega (arith, e, p.budget, c.requires.1, c.if-end-floor.false);
      free = p.free;
    }

returns-2 : tie.Need-returns
returns-2 c =
    let a = c.args in
    inr (
      c.if-end-floor.false,
      (
        c.first_hit_from-f.result,
        subst (λ (k : ℕ). FrameFrom (circuit_in a.m.now) a.q.b a.q.t k (a.q.place + a.q.d - k) c.first_hit_from-f.new.work c.first_hit_from-f.result) c.larger-place.ensures c.first_hit_from-f.ensures,
        c.tell.ensures,
      ),
    )

pub go_on_spec : {M : Type 1} → statement M
go_on_spec =
    tie.close
    (tie.spec add-end (λ c κs. search rules) returns (λ c κs. search rules) sub-d first-hit-from-requires (λ c κs. search rules) (λ c. search rules) returns-2)
